-- Document 01, "Reference models", and document 02, W4: the sixteen models, each as one value.
use Rattle.std.specs.Prelude.{ℕ, ◌+◌, ◌-◌, true, false, cond, List, [], ◌∷◌, eqb}
use Rattle.check_digits.specs.declared.Rule.{Rule}
use Rattle.check_digits.specs.declared.Rule.TheVariants.{Ini, Mod1110}
use Rattle.models.specs.declared.Group.{Group}
use Rattle.models.specs.declared.Content.{Content}
use Rattle.models.specs.declared.Content.TheVariants.{Number, Code}
use Rattle.models.specs.declared.Asked.{Asked}
use Rattle.models.specs.declared.Model.{Model}

-- ---------------------------------------------------------------------------
-- Groups, contents and lengths

-- the group of the parts from first to last
abbrev pub over : Rule → ℕ → ℕ → Group
over rule first last = record { skipped = first - 1; joins = last + 1 - first; rule = rule }

-- no group: it has no part
abbrev pub no_group : Group
no_group = over Ini 1 0

abbrev pub ini : ℕ → ℕ → Group
ini first last = over Ini first last

abbrev pub iso : ℕ → ℕ → Group
iso first last = over Mod1110 first last

-- a part, counted from 1, holds the content
abbrev pub asks : Content → ℕ → Asked
asks content part = record { skipped = part - 1; content = content }

-- what stands where nothing is asked
abbrev pub free : Asked
free = asks (Number 0) 1

-- a model of fewest to most parts, with the least and most digits of each of four parts, which may hold anything
abbrev pub model : ℕ → ℕ → List ℕ → Group → Group → Group → Model
model fewest most lengths g h k =
    record { handled = true; fewest = fewest; most = most; lengths = lengths; from = 0; asked = free ∷ (free ∷ []); groups = g ∷ (h ∷ (k ∷ (no_group ∷ []))) }

-- a model of which two parts hold what is asked, from so many parts on
abbrev pub holding : ℕ → Asked → Asked → Model → Model
holding from a b m =
    record { handled = m.handled; fewest = m.fewest; most = m.most; lengths = m.lengths; from = from; asked = a ∷ (b ∷ []); groups = m.groups }

-- "Unless stated: one to three parts of one to twelve digits"
abbrev pub usual : List ℕ
usual = 1 ∷ (12 ∷ (1 ∷ (12 ∷ (1 ∷ (12 ∷ (1 ∷ (12 ∷ [])))))))

-- no model
abbrev pub unhandled : Model
unhandled =
    record { handled = false; fewest = 0; most = 0; lengths = usual; from = 0; asked = free ∷ (free ∷ []); groups = no_group ∷ (no_group ∷ (no_group ∷ (no_group ∷ []))) }

-- a model with the usual parts
abbrev pub plain : Group → Group → Group → Model
plain g h k = model 1 3 usual g h k

-- ---------------------------------------------------------------------------
-- The models

-- "first part 40002, third part a code of the income list (004's 55)" of a reference of three parts (W4)
abbrev pub wage : Model → Model
wage m = holding 3 (asks (Number 40002) 1) (asks Code 3) m

-- the models with lengths, contents or a check of their own; another number is not handled
unfoldable pub special_of : ℕ → Model
special_of n =
    cond (eqb n 16) (model 3 3 (5 ∷ (5 ∷ (4 ∷ (4 ∷ (8 ∷ (8 ∷ (1 ∷ (12 ∷ [])))))))) (ini 1 1) (ini 2 2) no_group)
    (cond (eqb n 17) (plain (iso 1 1) no_group no_group)
    (cond (eqb n 35) (model 2 2 (1 ∷ (10 ∷ (11 ∷ (11 ∷ (1 ∷ (12 ∷ (1 ∷ (12 ∷ [])))))))) (ini 1 1) (iso 2 2) no_group)
    (cond (eqb n 69) (wage (model 2 3 (5 ∷ (5 ∷ (11 ∷ (11 ∷ (3 ∷ (3 ∷ (1 ∷ (12 ∷ [])))))))) (ini 1 1) (iso 2 2) no_group))
    (cond (eqb n 99) (model 0 0 usual no_group no_group no_group)
    unhandled))))

-- the models of the usual parts, then the others
unfoldable pub model_of : ℕ → Model
model_of n =
    cond (eqb n 0) (plain no_group no_group no_group)
    (cond (eqb n 1) (plain (ini 1 3) no_group no_group)
    (cond (eqb n 2) (plain (ini 2 2) (ini 3 3) no_group)
    (cond (eqb n 3) (plain (ini 1 1) (ini 2 2) (ini 3 3))
    (cond (eqb n 4) (plain (ini 1 1) (ini 3 3) no_group)
    (cond (eqb n 6) (plain (ini 2 3) no_group no_group)
    (cond (eqb n 7) (plain (ini 2 2) no_group no_group)
    (cond (eqb n 8) (plain (ini 1 2) (ini 3 3) no_group)
    (cond (eqb n 9) (plain (ini 1 2) no_group no_group)
    (cond (eqb n 10) (plain (ini 1 1) (ini 2 3) no_group)
    (cond (eqb n 11) (plain (ini 1 1) (ini 2 2) no_group)
    (special_of n)))))))))))
