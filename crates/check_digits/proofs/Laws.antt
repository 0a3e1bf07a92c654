-- From how the code reads digits (specs/Mirror.antt) to what a check digit is (specs/CheckDigit.antt).
-- Assumes nothing.
use Rattle.refusal.proofs.Basics.{◌≡◌, refl, sym, ap, ◌∙◌, arith, ℕ, suc, ◌+◌, ◌-◌, ◌*◌, ◌/◌, ◌%◌, ◌≤◌, ◌<◌, length, ne_eqb, lt-ltb, le-ltb, List, [], ◌∷◌, ◌++◌, Bool, true, false, cond, ltb, lit<, mod-lt, mod-eq_of_lt, mod-eq-sub-mod, mul-add, add-mul, suc-mul, mul_left_comm, zero-mul, div-add-mod, add-mul-mod_self_left, taken, left}
use Rattle.classes.specs.Classes.{is_digit}
use Rattle.text.specs.Digits.{digits_of}
use Rattle.check_digits.specs.declared.Rule.{Rule}
use Rattle.check_digits.specs.declared.Rule.TheVariants.{Ini, Mod1110}
use Rattle.check_digits.specs.declared.Run.{Run}
use Rattle.check_digits.specs.CheckDigit.{weighted, carry, carried_over, check_digit, digit_for, ten_for_zero}
use Rattle.check_digits.specs.Mirror.{Small, run_start, step_of, read_of, run_of, digit_of}

-- ---------------------------------------------------------------------------
-- Small remainders

-- one subtraction is enough below twice the modulus
pub folds : (x m : ℕ) → m ≤ x → x < m + m → x - m ≡ x % m
folds x m h g = sym (mod-eq-sub-mod h ∙ mod-eq_of_lt (omega arith))

carry_small : (p d : ℕ) → carry p d < 11
carry_small p d = mod-lt (2 * ten_for_zero ((p + d) % 10)) (lit< tt)

-- MOD 11,10 where p and the digit do not make ten
pub carried_on : (p d t r : ℕ) → t ≡ (p + d) % 10 → (t ≡ 0 → ⊥) → r ≡ (t + t) % 11 → r ≡ carry p d
carried_on p d t r e n f =
    f ∙ rw (← e, ne_eqb t 0 n) (ap (λ (x : ℕ). x % 11) (omega arith))

-- and where they do
pub carried_over_lem : (p d t : ℕ) → t ≡ (p + d) % 10 → t ≡ 0 → 9 ≡ carry p d
carried_over_lem p d t e n = rw (← e, n)

-- INI's digit of the remainder of a sum
pub ini_small : (r : ℕ) → r < 2 → 0 ≡ digit_for Ini r
ini_small r h = taken (ltb r 2) 0 (11 - r) (lt-ltb r 2 h)

pub ini_large : (r : ℕ) → 2 ≤ r → 11 - r ≡ digit_for Ini r
ini_large r h = left (ltb r 2) 0 (11 - r) (11 - r) (le-ltb r 2 h) refl

pub folded_digit : (d x r : ℕ) → r ≡ x → d ≡ digit_for Ini r → d ≡ digit_for Ini x
folded_digit d x r e f = f ∙ ap (digit_for Ini) e

pub start_small : (rule : Rule) → Small (run_start rule)
start_small Ini = (lit< tt, lit< tt)
start_small Mod1110 = (lit< tt, lit< tt)

pub step_small : (rule : Rule) (run : Run) (d : ℕ) → Small (step_of rule run d)
step_small Ini run d = (mod-lt (run.sum + d) (lit< tt), mod-lt (run.sums + (run.sum + d) % 11) (lit< tt))
step_small Mod1110 run d = (carry_small run.sum d, lit< tt)

pub read_small : (rule : Rule) (run : Run) (b : ℕ) → Small run → Small (read_of rule run b)
read_small rule run b h = go (is_digit b)
  where
    go : (t : Bool) → Small (cond t (step_of rule run (b - 48)) run)
    go true = step_small rule run (b - 48)
    go false = h

-- ---------------------------------------------------------------------------
-- Reading a text is reading its digits

unfoldable pub run_digits : Rule → Run → List ℕ → Run
run_digits rule run [] = run
run_digits rule run (d ∷ ds) = run_digits rule (step_of rule run d) ds

run_of_digits : (rule : Rule) (run : Run) (s : List ℕ) → run_of rule run s ≡ run_digits rule run (digits_of s)
unfolding run_of run_digits digits_of
run_of_digits rule run [] = refl
run_of_digits rule run (b ∷ s) = go (is_digit b) (λ (r : Run). run_of_digits rule r s)
  where
    go : (t : Bool) → ((r : Run) → run_of rule r s ≡ run_digits rule r (digits_of s)) → run_of rule (cond t (step_of rule run (b - 48)) run) s ≡ run_digits rule run (cond t ((b - 48) ∷ digits_of s) (digits_of s))
    go true e = e (step_of rule run (b - 48))
    go false e = e run

-- ---------------------------------------------------------------------------
-- MOD 11,10: the run's number is p

iso_run : (run : Run) (ds : List ℕ) → (run_digits Mod1110 run ds).sum ≡ carried_over run.sum ds
unfolding run_digits carried_over
iso_run run [] = refl
iso_run run (d ∷ ds) = iso_run (step_of Mod1110 run d) ds

-- ---------------------------------------------------------------------------
-- INI: the sum, and the sum of the sums, make up the weighted sum

-- the weights of a sum taken apart by 11
scaled : (n a d q a₁ : ℕ) → 11 * q + a₁ ≡ a + d → n * a + n * d ≡ 11 * (n * q) + n * a₁
scaled n a d q a₁ e = sym (mul-add n a d) ∙ ap (λ (x : ℕ). n * x) (sym e) ∙ mul-add n (11 * q) a₁ ∙ ap (λ (x : ℕ). x + n * a₁) (mul_left_comm n 11 q)

-- one digit more: what is read and what is defined differ by elevens
ini_elevens : (a b d n w q a₁ r b₁ : ℕ) → 11 * q + a₁ ≡ a + d → 11 * r + b₁ ≡ b + a₁ → a + b + (suc n * a + ((n + 2) * d + w)) ≡ a₁ + b₁ + (n * a₁ + w) + 11 * (q + q + r + n * q)
ini_elevens a b d n w q a₁ r b₁ e f = omega (arith, scaled n a d q a₁ e, suc-mul n a, add-mul n 2 d)

-- one digit more, over 11: n is how many follow, w what they weigh
ini_turn : (a b d n w : ℕ) → ((a + d) % 11 + (b + (a + d) % 11) % 11 + (n * ((a + d) % 11) + w)) % 11 ≡ (a + b + (suc n * a + ((n + 2) * d + w))) % 11
ini_turn a b d n w =
    let a₁ = (a + d) % 11 in
    let b₁ = (b + a₁) % 11 in
    let q = (a + d) / 11 in
    let r = (b + a₁) / 11 in
    sym (ap (λ (x : ℕ). x % 11) (ini_elevens a b d n w q a₁ r b₁ (div-add-mod (a + d) 11) (div-add-mod (b + a₁) 11))
    ∙ add-mul-mod_self_left (a₁ + b₁ + (n * a₁ + w)) 11 (q + q + r + n * q))

ini_run : (run : Run) (ds : List ℕ) → ((run_digits Ini run ds).sum + (run_digits Ini run ds).sums) % 11 ≡ (run.sum + run.sums + (length ds * run.sum + weighted ds)) % 11
unfolding run_digits weighted
ini_run run [] = ap (λ (x : ℕ). x % 11) (omega (arith, zero-mul run.sum))
ini_run run (d ∷ ds) = ini_run (step_of Ini run d) ds ∙ ini_turn run.sum run.sums d (length ds) (weighted ds)

-- ---------------------------------------------------------------------------
-- What the loop reads is what the definition says

pub read_check_digit : (rule : Rule) (s : List ℕ) → digit_of rule (run_of rule (run_start rule) s) ≡ check_digit rule (digits_of s)
unfolding check_digit
read_check_digit Ini s =
    ap (λ (r : Run). digit_for Ini ((r.sum + r.sums) % 11)) (run_of_digits Ini (run_start Ini) s)
    ∙ ap (digit_for Ini) (ini_run (run_start Ini) (digits_of s) ∙ ap (λ (x : ℕ). x % 11) (zeros (length (digits_of s)) (weighted (digits_of s))))
  where
    zeros : (n w : ℕ) → 0 + 0 + (n * 0 + w) ≡ w
    zeros n w = omega arith
read_check_digit Mod1110 s =
    ap (λ (r : Run). digit_for Mod1110 r.sum) (run_of_digits Mod1110 (run_start Mod1110) s)
    ∙ ap (digit_for Mod1110) (iso_run (run_start Mod1110) (digits_of s))

-- one byte more
pub run_after : (rule : Rule) (run : Run) (s : List ℕ) (b : ℕ) → run_of rule run (s ++ (b ∷ [])) ≡ read_of rule (run_of rule run s) b
unfolding run_of
run_after rule run [] b = refl
run_after rule run (a ∷ s) b = run_after rule (read_of rule run a) s b
