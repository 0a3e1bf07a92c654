-- Document 01, "The wage file", the writer: one line into lent room. The refusals of the day, the kind and the room, and what is left there.
use Rattle.std.specs.Prelude.{ℕ, ◌≡◌, cond, ◌||◌, List, ◌++◌, eqb, leb, drop, Ok, Err}
use Rattle.refusal.specs.Refusal.{Answer, none}
use Rattle.refusal.specs.declared.Refusal.TheVariants.{Form, Date, Room}
use Rattle.dates.specs.Dates.{is_date}

-- ---------------------------------------------------------------------------
-- Refusals in their order

-- "11 for the day"
abbrev pub for_day : ℕ → Answer → Answer
for_day day rest = cond (is_date day) rest (Err (Date none))

-- "5, field 0, for a kind not 4 or 5"
abbrev pub for_kind : ℕ → Answer → Answer
for_kind kind rest = cond (eqb kind 4 || eqb kind 5) rest (Err (Form none))

-- "15 exactly when the room is under 1,002"
abbrev pub for_room : ℕ → Answer
for_room n = cond (leb 1002 n) (Ok tt) (Err (Room none 1002))

unfoldable pub closing_answer : ℕ → ℕ → Answer
closing_answer day room = for_day day (for_room room)

-- ---------------------------------------------------------------------------
-- What is left in the lent room

-- the line at the front, "changes nothing after the line"; a refusal changes nothing
abbrev pub left_by_line : Answer → List ℕ → List ℕ → List ℕ
left_by_line (Ok u) line out = line ++ drop 1002 out
left_by_line (Err r) line out = out

-- a call that answers so, and leaves that
pub record Writes (a : Answer) (line out : List ℕ) (r : Answer) (after : List ℕ) : Type 0 where
  pub answers : r ≡ a
  pub leaves : after ≡ left_by_line a line out
