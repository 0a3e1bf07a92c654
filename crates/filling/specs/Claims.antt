-- What is claimed of the fillings of one text (proofs/Theorems.antt): which texts fill it, and by which number.
use Rattle.std.specs.Prelude.{ℕ, ◌+◌, ◌-◌, ◌*◌, ◌^◌, ◌<◌, ◌≤◌, ◌≡◌, cond, List, [], ◌∷◌, eqb, length, get_or}
use Rattle.text.specs.Bytes.{marks}

-- t fills s: it is s where s has no mark, and has a digit where s has one
pub record Fills (s t : List ℕ) : Type 0 where
  pub size : length t ≡ length s
  pub same : (i : ℕ) → i < length s → (get_or s i 0 ≡ 63 → ⊥) → get_or t i 0 ≡ get_or s i 0
  pub digit : (i : ℕ) → i < length s → get_or s i 0 ≡ 63 → (48 ≤ get_or t i 0) × (get_or t i 0 ≤ 57)

-- "Read left to right, the digits filled in form a number": the number that the digits of t at the marks of s form
unfoldable pub filling_number : List ℕ → List ℕ → ℕ
filling_number [] t = 0
filling_number (b ∷ s) [] = 0
filling_number (b ∷ s) (c ∷ t) = cond (eqb b 63) ((c - 48) * 10 ^ marks s + filling_number s t) (filling_number s t)
