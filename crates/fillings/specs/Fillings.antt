-- Document 01, "Wet slips": the fillings of a text, over any rule p that says which filled texts are accepted.
use Rattle.std.specs.Prelude.{ℕ, zero, suc, ◌^◌, Bool, cond, List, [], ◌∷◌}
use Rattle.text.specs.Bytes.{marks}
use Rattle.filling.specs.Filling.{fill}

-- of the n numbers from a on, those that q accepts, ascending
unfoldable pub among : (ℕ → Bool) → ℕ → ℕ → List ℕ
among q a zero = []
among q a (suc n) = cond (q a) (a ∷ among q (suc a) n) (among q (suc a) n)

-- every number of as many digits as there are marks, whose filling p accepts; no mark: 0 where the text itself is accepted
unfoldable pub fillings : (List ℕ → Bool) → List ℕ → List ℕ
fillings p s = among (λ (k : ℕ). p (fill s k)) 0 (10 ^ marks s)
