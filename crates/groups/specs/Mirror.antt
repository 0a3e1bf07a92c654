-- What is asked of a text by where its parts end: it mirrors src/, and proofs/Laws.antt leads from `obeys_at` to `parts_right` of
-- Groups.antt.
use Rattle.std.specs.Prelude.{ℕ, ◌+◌, ◌-◌, Bool, true, cond, ◌&&◌, ◌||◌, List, eqb}
use Rattle.check_digits.specs.CheckDigit.{passes}
use Rattle.models.specs.declared.Group.{Group}
use Rattle.models.specs.declared.Model.{Model}
use Rattle.models.specs.Every.{every}
use Rattle.parts.specs.Mirror.{end_of}
use Rattle.stretches.specs.Mirror.{stretch}
use Rattle.part_contents.specs.Mirror.{contents_at}

-- a group goes from its first part to its last, or to the end of the text; with no part it is not checked
abbrev pub group_at : Group → ℕ → List ℕ → Bool
group_at g ends s =
    cond (eqb g.joins 0 || eqb (end_of g.skipped ends) 0)
    true
    (passes g.rule (stretch g.skipped (g.skipped + g.joins - 1) ends s))

abbrev pub groups_at : List Group → ℕ → List ℕ → Bool
groups_at gs ends s = every (λ (g : Group). group_at g ends s) gs

-- what a model asks of a formed text, by the ends of its parts
unfoldable pub obeys_at : Model → ℕ → List ℕ → Bool
obeys_at model ends s = contents_at model ends s && groups_at model.groups ends s
