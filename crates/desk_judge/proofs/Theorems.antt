-- What is promised of the judge's calls: they fit together, and a place that is told is the one that is handed back. Assumes nothing.
use Rattle.refusal.proofs.Basics.{◌≡◌, refl, ap, ℕ, take, drop, List}
use Rattle.std.specs.Prelude.{Err, Ok, Result}
use Rattle.refusal.specs.declared.Refusal.{Refusal}
use Rattle.wage_places.specs.declared.LineType.{LineType}
use Rattle.text.specs.declared.Part.{Part}
use Rattle.wage_line.specs.Line.{typed_of, queried, place_of}
use Rattle.wage_line.specs.Pieces.{pieces}
use Rattle.condition.specs.declared.Judge.{Judge}
use Rattle.condition.specs.Record.{begun, ended}
use Rattle.judge.specs.Judge.{steps}
use Rattle.wage_file.specs.File.{file_answer}
use Rattle.desk_record.specs.Record.{judge_of, record_of}
use Rattle.desk_record.proofs.Theorems.{record_told_back}
use Rattle.desk_judge.specs.Wages.{part_in, place_part, ended_of}

-- lines judged from a judge's record are the lines judged from this judge
pub steps_are_lines : (j : Judge) (ps : List (List ℕ)) → record_of (steps (judge_of (record_of j)) ps) ≡ record_of (steps j ps)
steps_are_lines j ps = ap (λ (k : Judge). record_of (steps k ps)) (record_told_back j)

-- a whole file is begin, lines and end
pub whole_is_begin_lines_end : (day : ℕ) (s : List ℕ) → ended_of (file_answer day s) ≡ ended_of (ended (steps (begun day) (pieces s)))
unfolding file_answer
whole_is_begin_lines_end day s = refl

-- the bytes of a part
abbrev bytes_of : Part → List ℕ → List ℕ
bytes_of p s = take p.length (drop p.start s)

-- the part that is told of a wage line's place is the place that is handed back
pub part_is_place : (s : List ℕ) (n : ℕ) → take (place_part s n).length (drop (place_part s n).start s) ≡ place_of s n
unfolding place_part place_of
part_is_place s n = go (typed_of s)
  where
    go : (t : Result LineType Refusal) → bytes_of (part_in n t) s ≡ queried n s t
    go (Ok t) = refl
    go (Err r) = refl
