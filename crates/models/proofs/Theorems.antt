-- What is promised of the models: which of them ask what a part holds.
-- Assumes nothing.
use Rattle.refusal.proofs.Basics.{◌≡◌, refl, ℕ, ne_eqb, List, Bool, true, false, cond}
use Rattle.models.specs.declared.Group.{Group}
use Rattle.models.specs.declared.Model.{Model}
use Rattle.models.specs.Models.{model, unhandled, special_of, model_of}

-- a model whose parts may hold anything
unfoldable Free : Model → Type 0
Free m = m.from ≡ 0

-- one that is written so
free_model : (fewest most : ℕ) (lengths : List ℕ) (g h k : Group) → Free (model fewest most lengths g h k)
unfolding Free
free_model fewest most lengths g h k = refl

no_model : Free unhandled
unfolding Free
no_model = refl

-- either of two
either : (b : Bool) (m k : Model) → Free m → Free k → Free (cond b m k)
either true m k e f = e
either false m k e f = f

-- the other of two
passed_over : (m k : Model) → Free k → Free (cond false m k)
passed_over m k e = e

others_free : (n : ℕ) → (n ≡ 69 → ⊥) → Free (model_of n)
unfolding model_of special_of
others_free n h = rw (ne_eqb n 69 h) (search (passed_over, either, free_model, no_model) depth 40)

-- every model but HR69 takes parts that hold anything
pub only_69_asks : (n : ℕ) → (n ≡ 69 → ⊥) → (model_of n).from ≡ 0
unfolding Free
only_69_asks n h = others_free n h
