-- Document 02, W5: the running total. "Begun at zero with a fresh judge", then a line at a call.
use Rattle.std.specs.Prelude.{ℕ, List, [], ◌∷◌, ◌++◌}
use Rattle.tally.specs.declared.Tally.{Tally}
use Rattle.tally.specs.Tally.{no_orders}
use Rattle.desk_record.specs.declared.Record.{Record}
use Rattle.promises.specs.Calls.{JudgeBegins, JudgeStepsTally}

-- the record and the tally after a run of calls: begun for a day with the tally at zero, then these lines, each lent with the record and the
-- tally that the call before it left
pub data Run (day : ℕ) : List (List ℕ) → Record → Tally → Type 0 where
  begins : (r : Record) → JudgeBegins day r → Run day [] r no_orders
  goes : (ss : List (List ℕ)) (r : Record) (t : Tally) (line : List ℕ) (r' : Record) (t' : Tally) → Run day ss r t → JudgeStepsTally r line t r' t' → Run day (ss ++ (line ∷ [])) r' t'
