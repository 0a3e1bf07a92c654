-- Runs of digits: the number of joined runs, and what it leaves over any modulus. `joined_over` is the law by which an IBAN's number is
-- taken several digits at a time, whatever the runs' lengths.
-- Assumes nothing.
use Rattle.refusal.proofs.Basics.{◌≡◌, refl, sym, ap, ◌∙◌, arith, ℕ, suc, ◌+◌, ◌-◌, ◌*◌, ◌/◌, ◌%◌, ◌^◌, ◌<◌, length, take, drop, get_or, List, [], ◌∷◌, ◌++◌, true, add_comm, zero-add, zero-mul, one-mul, mod-eq_of_lt, drop-cons, drop-length, length-drop, div-add-mod, add-mul-mod_self_left, add-mul, mul-add, mul_assoc, mul_comm, mul_left_comm, pow-suc, both_true, add-one}
use Rattle.std.specs.Prelude.{reverse}
use Rattle.std.proofs.lemmas.List.{get_or_read, get_or-reverse, length-reverse}
use Rattle.classes.specs.Classes.{is_digit}
use Rattle.classes.specs.declared.Class.TheVariants.{Digits}
use Rattle.text.specs.Bytes.{all_of}
use Rattle.text.specs.Digits.{digits_of, value_from, value_of}
use Rattle.text.proofs.Laws.{value_append, all_apart}

-- ---------------------------------------------------------------------------
-- The number of joined runs

-- over plain numbers: digits further down by p
further_down : (v d p w x y : ℕ) → x ≡ (v * 10 + d) * p + w → y ≡ (0 * 10 + d) * p + w → x ≡ v * (p * 10) + y
further_down v d p w x y e f = omega (arith, add-mul (v * 10) d p, mul_assoc v 10 p, mul_comm 10 p)

-- the number of digits after another
pub value_after : (v : ℕ) (ds : List ℕ) → value_from v ds ≡ v * 10 ^ length ds + value_of ds
unfolding value_from
value_after v [] = omega arith
value_after v (d ∷ ds) =
    rw (pow-suc 10 (length ds))
    (further_down v d (10 ^ length ds) (value_of ds) _ _ (value_after (v * 10 + d) ds) (value_after (0 * 10 + d) ds))

-- the number of two runs joined
pub value_joined : (xs ys : List ℕ) → value_of (xs ++ ys) ≡ value_of xs * 10 ^ length ys + value_of ys
value_joined xs ys = value_append 0 xs ys ∙ value_after (value_of xs) ys

-- ---------------------------------------------------------------------------
-- Over a modulus

module _ (m : ℕ) where
  -- what a number leaves, and some more
  left_over : (v w : ℕ) → (v % m + w) % m ≡ (v + w) % m
  left_over v w =
      let z : v + w ≡ v % m + w + m * (v / m) = omega (arith, div-add-mod v m) in
      sym (ap (λ (x : ℕ). x % m) z ∙ add-mul-mod_self_left (v % m + w) m (v / m))

  -- two numbers that leave the same still do with as much more
  pub more_over : (a b w : ℕ) → a % m ≡ b % m → (a + w) % m ≡ (b + w) % m
  more_over a b w e = sym (left_over a w) ∙ ap (λ (x : ℕ). (x + w) % m) e ∙ left_over b w

  -- so often what a number leaves
  times_over : (v a : ℕ) → v * (a % m) % m ≡ v * a % m
  times_over v a =
      let z : v * a ≡ v * (a % m) + m * (v * (a / m)) = ap (λ (x : ℕ). v * x) (sym (div-add-mod a m)) ∙ omega (arith, mul-add v (m * (a / m)) (a % m), mul_left_comm v m (a / m)) in
      sym (ap (λ (x : ℕ). x % m) z ∙ add-mul-mod_self_left (v * (a % m)) m (v * (a / m)))

  -- two sums of such numbers
  pub both_over : (a b c d : ℕ) → a % m ≡ b % m → c % m ≡ d % m → (a + c) % m ≡ (b + d) % m
  both_over a b c d e f = more_over a b c e ∙ ap (λ (x : ℕ). x % m) (add_comm b c) ∙ more_over c d b f ∙ ap (λ (x : ℕ). x % m) (add_comm d b)

  -- two runs joined, whose last digit stands at a place p: the second has n digits, so that the first stands at a place that leaves q
  pub joined_over : (p n q : ℕ) (xs ys : List ℕ) → length ys ≡ n → 10 ^ n * p % m ≡ q → value_of (xs ++ ys) * p % m ≡ (value_of xs * q + value_of ys * p) % m
  joined_over p n q xs ys e f =
      let v = value_of xs in
      let w = value_of ys * p in
      let z : value_of (xs ++ ys) ≡ v * 10 ^ n + value_of ys = value_joined xs ys ∙ ap (λ (k : ℕ). v * 10 ^ k + value_of ys) e in
      ap (λ (x : ℕ). x * p % m) z
      ∙ ap (λ (x : ℕ). x % m) (add-mul (v * 10 ^ n) (value_of ys) p ∙ ap (λ (x : ℕ). x + w) (mul_assoc v (10 ^ n) p))
      ∙ more_over (v * (10 ^ n * p)) (v * q) w (sym (ap (λ (x : ℕ). v * x % m) (sym f) ∙ times_over v (10 ^ n * p)))

-- ---------------------------------------------------------------------------
-- A text of digits

-- has as many digits as bytes
pub digits_count : (s : List ℕ) → all_of Digits s ≡ true → length (digits_of s) ≡ length s
unfolding digits_of all_of
digits_count [] e = refl
digits_count (b ∷ s) e = let t = both_true (is_digit b) (all_of Digits s) e in rw t.0 (ap suc (digits_count s t.1))

-- before its last digit nothing is weighed, and the place is the last digit's
pub run_starts : (m p : ℕ) (s : List ℕ) → p < m → (p ≡ 10 ^ 0 * p % m) × (0 % m ≡ value_of (digits_of (drop (length s - 0) s)) * p % m)
unfolding digits_of value_from
run_starts m p s h =
    let z : length s - 0 ≡ length s = omega arith in
    (sym (ap (λ (x : ℕ). x % m) (one-mul p) ∙ mod-eq_of_lt h), rw (z, drop-length s) (ap (λ (x : ℕ). x % m) (sym (zero-mul p))))

-- one place further up leaves ten times as much
pub place_on : (m p n at : ℕ) → at ≡ 10 ^ n * p % m → at * 10 % m ≡ 10 ^ (n + 1) * p % m
place_on m p n at f =
    rw (add-one n, f, pow-suc 10 n)
    (ap (λ (x : ℕ). x % m) (mul_comm (10 ^ n * p % m) 10) ∙ times_over m 10 (10 ^ n * p) ∙ ap (λ (x : ℕ). x % m) (sym (mul_assoc 10 (10 ^ n) p) ∙ ap (λ (x : ℕ). x * p) (mul_comm 10 (10 ^ n))))

-- the n-th byte from the end
pub from_end : (s : List ℕ) (n b : ℕ) → (n < length (reverse s)) × (b ≡ get_or (reverse s) n b) → (n < length s) × (b ≡ get_or s (length s - 1 - n) 0)
from_end s n b t =
    let h : n < length s = omega (arith, t.0, length-reverse s) in
    (h, get_or_read (reverse s) n b t.0 t.1 0 ∙ get_or-reverse s n 0 h)

module _ (s : List ℕ) (e : all_of Digits s ≡ true) (i : ℕ) where
  -- a digit at place i, and digits behind it
  parted : i < length s → (is_digit (get_or s i 0) ≡ true) × (all_of Digits (drop (suc i) s) ≡ true)
  unfolding all_of
  parted h = both_true (is_digit (get_or s i 0)) _ (ap (all_of Digits) (sym (drop-cons s i 0 h)) ∙ (both_true (all_of Digits (take i s)) _ (sym (all_apart Digits i s) ∙ e)).1)

  pub digit_at : i < length s → is_digit (get_or s i 0) ≡ true
  digit_at h = (parted h).0

-- n digits weighed from the last one up: the digit before them is one more
pub run_on :
    (s : List ℕ) (e : all_of Digits s ≡ true) (m p n at sum : ℕ) → n < length s → at ≡ 10 ^ n * p % m
    → sum % m ≡ value_of (digits_of (drop (length s - n) s)) * p % m
    → (sum + (get_or s (length s - 1 - n) 0 - 48) * at) % m ≡ value_of (digits_of (drop (length s - (n + 1)) s)) * p % m
unfolding digits_of value_from
run_on s e m p n at sum h f g =
    let i = length s - 1 - n in
    let j = length s - n in
    let d = get_or s i 0 - 48 in
    let ds = digits_of (drop j s) in
    let k : suc i ≡ j = omega arith in
    let y : length s - (n + 1) ≡ i = omega arith in
    let t = parted s e i (omega arith) in
    let c : length ds ≡ n = digits_count (drop j s) (ap (λ (n : ℕ). all_of Digits (drop n s)) (sym k) ∙ t.1) ∙ omega (arith, length-drop j s) in
    let z : digits_of (drop (length s - (n + 1)) s) ≡ (d ∷ []) ++ ds = rw (y, drop-cons s i 0 (omega arith), t.0) (ap (λ (n : ℕ). d ∷ digits_of (drop n s)) k) in
    more_over m sum (value_of ds * p) (d * at) g
    ∙ ap (λ (x : ℕ). x % m) (add_comm (value_of ds * p) (d * at))
    ∙ sym (ap (λ (l : List ℕ). value_of l * p % m) z ∙ joined_over m p n at (d ∷ []) ds c (sym f) ∙ ap (λ (x : ℕ). (x * at + value_of ds * p) % m) (zero-add d))
