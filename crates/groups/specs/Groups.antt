-- Document 01, "Reference models": the check groups of a reference, and all that is asked of formed parts.
use Rattle.std.specs.Prelude.{ℕ, Bool, true, ◌&&◌, List, [], ◌∷◌, take, drop}
use Rattle.text.specs.Split.{joined}
use Rattle.check_digits.specs.CheckDigit.{passes}
use Rattle.models.specs.declared.Group.{Group}
use Rattle.models.specs.declared.Model.{Model}
use Rattle.models.specs.Every.{every}
use Rattle.part_contents.specs.Contents.{contents_right}

-- the parts of a group that are present
abbrev pub present : Group → List (List ℕ) → List (List ℕ)
present g ps = take g.joins (drop g.skipped ps)

-- "A check group joins those of its parts that are present and ends in its check digit; with none present it is not checked"
unfoldable pub group_right : Group → List (List ℕ) → Bool
group_right g [] = true
group_right g (p ∷ ps) = passes g.rule (joined (p ∷ ps))

-- every group
abbrev pub groups_right : List Group → List (List ℕ) → Bool
groups_right gs ps = every (λ (g : Group). group_right g (present g ps)) gs

-- what is asked of parts that have their number and lengths
abbrev pub parts_right : Model → List (List ℕ) → Bool
parts_right model ps = contents_right model ps && groups_right model.groups ps
