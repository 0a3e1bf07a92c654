-- What is claimed of a listing (proofs/Theorems.antt): its members, their order and their number.
use Rattle.std.specs.Prelude.{ℕ, zero, suc, ◌<◌, ◌≡◌, Bool, cond, List, [], ◌∷◌, length, get_or, ◌⊎◌}

-- k stands in the list
unfoldable pub Member : ℕ → List ℕ → Type 0
Member k [] = ⊥
Member k (x ∷ xs) = (k ≡ x) ⊎ Member k xs

-- each entry is below the next
abbrev pub Ascending : List ℕ → Type 0
Ascending xs = (i : ℕ) → suc i < length xs → get_or xs i 0 < get_or xs (suc i) 0

-- how many of the numbers below n q accepts
unfoldable pub accepted_below : (ℕ → Bool) → ℕ → ℕ
accepted_below q zero = 0
accepted_below q (suc n) = cond (q n) (suc (accepted_below q n)) (accepted_below q n)
