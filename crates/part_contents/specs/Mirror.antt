-- What parts hold, by where they end: it mirrors src/, and proofs/Laws.antt leads from it to `contents_right` of Contents.antt.
use Rattle.std.specs.Prelude.{ℕ, ◌-◌, Bool, ◌||◌, List, eqb}
use Rattle.models.specs.declared.Asked.{Asked}
use Rattle.models.specs.declared.Model.{Model}
use Rattle.models.specs.Every.{every}
use Rattle.parts.specs.Mirror.{end_of}
use Rattle.stretches.specs.Mirror.{stretch}
use Rattle.part_contents.specs.Contents.{holds}

-- a part as a stretch of the text holds what is asked, if it is there
abbrev pub asked_at : Asked → ℕ → List ℕ → Bool
asked_at a ends s = eqb (end_of a.skipped ends) 0 || holds a.content (stretch a.skipped a.skipped ends s)

-- every part, where so many are there
abbrev pub contents_at : Model → ℕ → List ℕ → Bool
contents_at model ends s = eqb model.from 0 || (eqb (end_of (model.from - 1) ends) 0 || every (λ (a : Asked). asked_at a ends s) model.asked)
