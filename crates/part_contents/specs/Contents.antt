-- Document 02, W4: what a model asks its parts to hold.
use Rattle.std.specs.Prelude.{ℕ, Bool, true, ◌||◌, List, [], ◌∷◌, eqb, ltb, length, drop}
use Rattle.sums.specs.Sums.{number_in}
use Rattle.codes.specs.Codes.{is_code}
use Rattle.models.specs.declared.Content.{Content}
use Rattle.models.specs.declared.Content.TheVariants.{Number, Code}
use Rattle.models.specs.declared.Asked.{Asked}
use Rattle.models.specs.declared.Model.{Model}
use Rattle.models.specs.Every.{every}

-- a part holds a given number, or a code of 004's list
unfoldable pub holds : Content → List ℕ → Bool
holds (Number n) p = eqb (number_in p) n
holds Code p = is_code (number_in p)

-- the first of some parts does; with none there nothing is asked
unfoldable pub first_holds : Content → List (List ℕ) → Bool
first_holds content [] = true
first_holds content (p ∷ ps) = holds content p

-- what is asked of one part
abbrev pub asked_right : Asked → List (List ℕ) → Bool
asked_right a ps = first_holds a.content (drop a.skipped ps)

-- "5 .. for a wrong first part or code": the model asks nothing, or not of so few parts, or every part holds what is asked of it
abbrev pub contents_right : Model → List (List ℕ) → Bool
contents_right model ps = eqb model.from 0 || (ltb (length ps) model.from || every (λ (a : Asked). asked_right a ps) model.asked)
