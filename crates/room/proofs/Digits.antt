-- Laws of the digits of a number: how many, which, the number that they write, and two numbers one behind the other.
-- Assumes nothing.
use Rattle.refusal.proofs.Basics.{◌≡◌, refl, sym, ap, ◌∙◌, arith, ℕ, zero, suc, ◌+◌, ◌-◌, ◌*◌, ◌/◌, ◌%◌, ◌^◌, ◌≤◌, ◌<◌, length, List, [], ◌∷◌, ◌++◌, true, zero-add, suc-add, add_comm, add-mul, mul_assoc, pow-succ', one-le-pow, mod-one, mod-eq_of_lt, mul-le-mul_right, div-one, div-eq_of_lt-le, div-div-eq-div-mul, mul-add-div_right, both_true}
use lib.Arith.{mod-mul, digits_div}
use lib.Pow.{pow-add}
use Rattle.classes.proofs.Laws.{digit_between, digit_bounds}
use Rattle.classes.specs.Classes.{is_digit}
use Rattle.text.specs.Bytes.{all_of}
use Rattle.classes.specs.declared.Class.TheVariants.{Digits}
use Rattle.text.specs.Digits.{digits_of, value_from, value_of, digits_text}

-- ---------------------------------------------------------------------------
-- The digits of a number

-- as many digits as asked
pub digits_length : (n a : ℕ) → length (digits_text n a) ≡ n
unfolding digits_text
digits_length zero a = refl
digits_length (suc n) a = ap suc (digits_length n a)

-- the last digit, behind those of a tenth
pub digits_last : (n a : ℕ) → digits_text (suc n) a ≡ digits_text n (a / 10) ++ ((48 + a % 10) ∷ [])
unfolding digits_text
digits_last zero a = rw div-one
digits_last (suc n) a = rw (pow-succ', ← (div-div-eq-div-mul a 10 (10 ^ n))) (ap (λ (s : List ℕ). (48 + a / 10 / 10 ^ n % 10) ∷ s) (digits_last n a))

-- they are digits
pub text_digits : (n a : ℕ) → all_of Digits (digits_text n a) ≡ true
unfolding digits_text all_of
text_digits zero a = refl
text_digits (suc n) a = rw (digit_between (48 + (a / 10 ^ n) % 10) (omega arith) (omega arith), text_digits n a)

-- the last n digits are those of what is left above any multiple of 10 ^ n
pub digits_low : (n h l : ℕ) → digits_text n (h * 10 ^ n + l) ≡ digits_text n l
unfolding digits_text
digits_low zero h l = refl
digits_low (suc n) h l =
    let e : h * 10 ^ suc n ≡ h * 10 * 10 ^ n = ap (λ (x : ℕ). h * x) (pow-succ' 10 n) ∙ sym (mul_assoc h 10 (10 ^ n)) in
    let d : (48 + (h * 10 + l / 10 ^ n) % 10) ≡ (48 + (l / 10 ^ n) % 10) = omega arith in
    rw (e, digits_low n (h * 10) l, mul-add-div_right (one-le-pow n 10 (omega arith)) (h * 10) l, d)

-- two numbers, one behind the other
pub digits_limbs : (m n h l : ℕ) → l < 10 ^ n → digits_text (m + n) (h * 10 ^ n + l) ≡ digits_text m h ++ digits_text n l
unfolding digits_text
digits_limbs zero n h l g = rw zero-add (digits_low n h l)
digits_limbs (suc m) n h l g =
    let e : (h * 10 ^ n + l) / 10 ^ (m + n) ≡ h / 10 ^ m =
    rw (add_comm m n, pow-add 10 n m, ← (div-div-eq-div-mul (h * 10 ^ n + l) (10 ^ n) (10 ^ m)), digits_div h g) in
    rw (suc-add, e, digits_limbs m n h l g)

-- twenty digits of a number in two limbs
pub digits_two_limbs : (h l : ℕ) → l < 10 ^ 18 → digits_text 20 (h * 10 ^ 18 + l) ≡ digits_text 2 h ++ digits_text 18 l
digits_two_limbs h l g = digits_limbs 2 18 h l g

-- ---------------------------------------------------------------------------
-- The number that digits write

-- the digits of a number write its last digits, behind those of v
pub value_text : (n a v : ℕ) → value_from v (digits_of (digits_text n a)) ≡ v * 10 ^ n + a % 10 ^ n
unfolding digits_text digits_of value_from
value_text zero a v = rw (mod-one a) (omega arith)
value_text (suc n) a v =
    let e : 48 + (a / 10 ^ n) % 10 - 48 ≡ (a / 10 ^ n) % 10 = omega arith in
    let m : a % (10 * 10 ^ n) ≡ (a / 10 ^ n) % 10 * 10 ^ n + a % 10 ^ n = mod-mul a {m = 10} {c = 10 ^ n} (omega arith) (one-le-pow n 10 (omega arith)) in
    rw (digit_between (48 + (a / 10 ^ n) % 10) (omega arith) (omega arith), e, value_text n a (v * 10 + (a / 10 ^ n) % 10), pow-succ', m, add-mul, mul_assoc) (omega arith)

-- a number of at most n digits is read back
pub number_back : (n a : ℕ) → a < 10 ^ n → value_of (digits_of (digits_text n a)) ≡ a
number_back n a h = value_text n a 0 ∙ rw (mod-eq_of_lt h) (omega arith)

-- the first of digits is one
digits_first : (b : ℕ) (s : List ℕ) → all_of Digits (b ∷ s) ≡ true → (is_digit b ≡ true) × (all_of Digits s ≡ true)
unfolding all_of
digits_first b s e = both_true (is_digit b) (all_of Digits s) e

-- what digits write behind those of v
pub value_bounds :
    (s : List ℕ) (v : ℕ) → all_of Digits s ≡ true
    → (v * 10 ^ length s ≤ value_from v (digits_of s)) × (value_from v (digits_of s) < (v + 1) * 10 ^ length s)
unfolding digits_of value_from
value_bounds [] v e = (omega arith, omega arith)
value_bounds (b ∷ s) v e =
    let h = digits_first b s e in
    let d = digit_bounds b h.0 in
    let i = value_bounds s (v * 10 + (b - 48)) h.1 in
    let p : v * (10 * 10 ^ length s) ≡ v * 10 * 10 ^ length s = sym (mul_assoc v 10 (10 ^ length s)) in
    let q : (v + 1) * (10 * 10 ^ length s) ≡ (v + 1) * 10 * 10 ^ length s = sym (mul_assoc (v + 1) 10 (10 ^ length s)) in
    let l : v * 10 * 10 ^ length s ≤ (v * 10 + (b - 48)) * 10 ^ length s = mul-le-mul_right (10 ^ length s) (omega arith) in
    let u : (v * 10 + (b - 48) + 1) * 10 ^ length s ≤ (v + 1) * 10 * 10 ^ length s = mul-le-mul_right (10 ^ length s) (omega arith) in
    rw (h.0, pow-succ') (omega arith, omega arith)

-- n digits write a number below 10 ^ n
pub value_below : (n : ℕ) (s : List ℕ) → all_of Digits s ≡ true → length s ≡ n → value_of (digits_of s) < 10 ^ n
value_below n s e l = let h : value_from 0 (digits_of s) < (0 + 1) * 10 ^ n = rw l at (value_bounds s 0 e).1 in omega (arith, h)

-- digits are those of the number that they write behind v
pub text_value : (s : List ℕ) (v : ℕ) → all_of Digits s ≡ true → digits_text (length s) (value_from v (digits_of s)) ≡ s
unfolding digits_text digits_of value_from
text_value [] v e = refl
text_value (b ∷ s) v e =
    let h = digits_first b s e in
    let d = digit_bounds b h.0 in
    let i = value_bounds s (v * 10 + (b - 48)) h.1 in
    rw (h.0, text_value s (v * 10 + (b - 48)) h.1, div-eq_of_lt-le (10 ^ length s) i.0 i.1) (ap (λ (x : ℕ). x ∷ s) (omega arith))

-- digits are written again
pub digits_again : (s : List ℕ) → all_of Digits s ≡ true → digits_text (length s) (value_of (digits_of s)) ≡ s
digits_again s e = text_value s 0 e
