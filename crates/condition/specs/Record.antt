-- Document 01, "The wage file": the judge's record. "The judge stands in one condition: fresh, after the label, inside a group, closed, or
-- refused with its first refusal inside".
use Rattle.std.specs.Prelude.{ℕ, ◌+◌, Bool, cond, ◌&&◌, eqb, leb, Result, Err, Ok}
use Rattle.condition.specs.declared.Counts.{Counts}
use Rattle.refusal.specs.Refusal.{refusal_of}
use Rattle.refusal.specs.declared.Refusal.{Refusal}
use Rattle.refusal.specs.declared.Place.{Place}
use Rattle.sums.specs.Sums.{no_cents, fits}
use Rattle.tally.specs.Tally.{no_orders, is_within}
use Rattle.dates.specs.Dates.{is_date}
use Rattle.condition.specs.declared.Condition.{Condition}
use Rattle.condition.specs.declared.Condition.TheVariants.{Fresh, Labelled, Grouped, Closed, Refused}
use Rattle.condition.specs.declared.Judge.{Judge}

-- ---------------------------------------------------------------------------
-- Conditions

-- "one condition: fresh, after the label, inside a group, closed, or refused", numbered in this order
abbrev pub stage_of : Condition → ℕ
stage_of Fresh = 0
stage_of Labelled = 1
stage_of Grouped = 2
stage_of Closed = 3
stage_of (Refused r) = 4

abbrev pub is_refused : Condition → Bool
is_refused c = eqb (stage_of c) 4

-- "refused with its first refusal inside", all else as it stood
abbrev pub refused_with : Refusal → Judge → Judge
refused_with r j = record { condition = Refused r; day = j.day; kind = j.kind; read = j.read; group = j.group }

-- ---------------------------------------------------------------------------
-- Places

-- "Refusals 1, 2, 10, 12, 13, 14, 17 and 15 have field 0 and byte 0": the place of a line alone
abbrev pub line_place : ℕ → Place
line_place line = record { line = line; field = 0; byte = 0 }

-- a number told of it
abbrev pub at_line : ℕ → ℕ → Refusal
at_line number line = refusal_of number (line_place line) 0

-- "17 names line 1,000,001"
abbrev pub beyond : Refusal
beyond = at_line 17 1000001

-- the refusal inside a condition; where there is none, 17
abbrev pub refusal_in : Condition → Refusal
refusal_in Fresh = beyond
refusal_in Labelled = beyond
refusal_in Grouped = beyond
refusal_in Closed = beyond
refusal_in (Refused r) = r

-- the line that comes next
abbrev pub next_line : Judge → ℕ
next_line j = j.read.lines + 1

-- "an unrefused record with a count above 1,000,000 or a sum of 10^20 or more gets it too"; document 02, W5, of the file's own total: "10^21 or
-- more there is 17"
unfoldable pub is_sound : Judge → Bool
is_sound j =
    leb j.read.lines 1000000 && is_within j.read.tally && leb j.group.declared 1000000 && leb j.group.counted 1000000 &&
    fits 100 j.group.promised && fits 100 j.group.total

-- ---------------------------------------------------------------------------
-- The beginning

-- nothing read yet
abbrev pub fresh : ℕ → Judge
fresh day = record {
  condition = Fresh;
  day = day;
  kind = 0;
  read = record { lines = 0; tally = no_orders };
  group = record { declared = 0; promised = no_cents; counted = 0; total = no_cents };
}

-- "The day of submission is given at the start; if not a date, 11 with line, field and byte 0 comes before all else"
unfoldable pub begun : ℕ → Judge
begun day = cond (is_date day) (fresh day) (refused_with (at_line 11 0) (fresh day))

-- ---------------------------------------------------------------------------
-- The end

-- a refusal again; 17; "The end gives 14, at the next line number, unless the 399 was read"; "Acceptance tells lines, groups and orders",
-- "and acceptance tells the file's own total too"
unfoldable pub ended : Judge → Result Counts Refusal
ended j =
    cond (is_refused j.condition) (Err (refusal_in j.condition))
    (cond (is_sound j)
    (cond (eqb (stage_of j.condition) 3) (Ok j.read) (Err (at_line 14 (next_line j))))
    (Err beyond))
