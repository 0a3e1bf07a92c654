-- What a step with a lent tally gives at the boundary: the judge's record as plain numbers, and the tally.
use Rattle.std.specs.Prelude.{ℕ, List}
use Rattle.tally.specs.declared.Tally.{Tally}
use Rattle.running_total.specs.RunningTotal.{tallied}
use Rattle.desk_record.specs.declared.Record.{Record}
use Rattle.desk_record.specs.Record.{judge_of, record_of}
use Rattle.desk_tally.specs.declared.Tallied.{Tallied}

-- the record and the tally after a line
unfoldable pub tallied_of : Record → List ℕ → Tally → Tallied
tallied_of r s t = record { «record» = record_of (tallied (judge_of r) s t).judge; tally = (tallied (judge_of r) s t).tally }
