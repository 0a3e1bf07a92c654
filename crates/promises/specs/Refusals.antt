-- Demand 1: what a call may tell; and which refusal comes first, of one slip, of one wage line, of one wage file.
use Rattle.std.specs.Prelude.{ℕ, ◌-◌, ◌<◌, ◌≤◌, ◌≡◌, Bool, true, false, cond, ◌&&◌, List, [], ltb, length, get_or, take, Ok, Err, ◌⊎◌}
use Rattle.refusal.specs.Refusal.{none, is_tabled, in_line}
use Rattle.refusal.specs.declared.Refusal.{Refusal}
use Rattle.refusal.specs.declared.Refusal.TheVariants.{Size, Ends, Date}
use Rattle.verdict.specs.Verdict.{passed, refusal_at, answer_at}
use Rattle.verdict.specs.declared.Fault.{Fault}
use Rattle.text.specs.Split.{split}
use Rattle.slip_fields.specs.declared.Currency.{Currency}
use Rattle.slip_fields.specs.Fields.{field_verdict}
use Rattle.slip.specs.Slip.{slip_ends}
use Rattle.slip.proofs.Theorems.{field_text, text_before}
use Rattle.text.specs.Lines.{join_lines}
use Rattle.dates.specs.Dates.{is_date}
use Rattle.wage_places.specs.declared.LineType.{LineType}
use Rattle.wage_places.specs.Places.{spots}
use Rattle.wage_places.proofs.Theorems.{place_at}
use Rattle.wage_line.specs.Line.{typed_of}
use Rattle.wage_line.specs.Pieces.{pieces}
use Rattle.wage_fields.specs.Rules.{place_answer}
use Rattle.condition.specs.declared.Judge.{Judge}
use Rattle.condition.specs.Record.{stage_of, is_refused, line_place, at_line, beyond, next_line, is_sound, begun}
use Rattle.standing.specs.Standing.{stand_verdict}
use Rattle.judge.specs.Judge.{steps}
use Rattle.boundary.specs.declared.Told.{Told}
use Rattle.boundary.specs.Told.{accepted, refusal, told_of}

-- ---------------------------------------------------------------------------
-- Numbers

-- "one of the documents' numbers, with line, field and byte": acceptance, or a refusal with a number of document 01's table or of document 02
abbrev pub Known : Told → Type 0
Known t = (t ≡ accepted) ⊎ ((q : Refusal) × ((t ≡ refusal q) × (is_tabled t.number ≡ true)))

-- ---------------------------------------------------------------------------
-- A slip

-- where field n of a slip begins: behind the fields before it and their line feeds
abbrev pub start_of : List ℕ → ℕ → ℕ
start_of s n = length (join_lines (take (n - 1) (split 10 s)))

-- a slip in currency c: "Order: 1, then 2, then fields 1 to 14"
pub data SlipRefused (c : Currency) (s : List ℕ) (r : Told) : Type 0 where
  -- more than 483 bytes
  size : 483 < length s → r ≡ refusal (Size none) → SlipRefused c s r
  -- else not fourteen line feeds with one last
  ends : length s ≤ 483 → slip_ends s ≡ false → r ≡ refusal (Ends none) → SlipRefused c s r
  -- else field n, before which every field is right
  field :
      length s ≤ 483 → slip_ends s ≡ true → (n : ℕ) → 1 ≤ n → n ≤ 14 → ((k : ℕ) → 1 ≤ k → k < n → field_verdict c k (text_before s k) (field_text s k) ≡ passed)
      → (field_verdict c n (text_before s n) (field_text s n) ≡ passed → ⊥) → r ≡ told_of (answer_at n (start_of s n) (field_verdict c n (text_before s n) (field_text s n))) → SlipRefused c s r

-- ---------------------------------------------------------------------------
-- A wage line, where the judge stands

-- a record that the judge made, within the line limit
abbrev pub goes_on : Judge → Bool
goes_on j = is_sound j && ltb j.read.lines 1000000

-- "Order in a line: 17, 1, 2, 5 (type), 10, 12, 13, then the fields in order"
pub data LineRefused (j : Judge) (s : List ℕ) (q : Refusal) : Type 0 where
  -- 17
  late : goes_on j ≡ false → q ≡ beyond → LineRefused j s q
  -- else 1, 2, 5
  untyped : goes_on j ≡ true → (r : Refusal) → typed_of s ≡ Err r → q ≡ in_line (next_line j) r → LineRefused j s q
  -- else 10, 12, 13
  misplaced :
      goes_on j ≡ true → (t : LineType) → typed_of s ≡ Ok t → (f : Fault) → stand_verdict j.condition j.group t ≡ Err f
      → q ≡ refusal_at f (line_place (next_line j)) → LineRefused j s q
  -- else the first place that is not right
  place :
      goes_on j ≡ true → (t : LineType) → typed_of s ≡ Ok t → stand_verdict j.condition j.group t ≡ passed
      → (k : ℕ) → k < length (spots t) → ((i : ℕ) → i < k → place_answer j.day j.kind t (place_at t i) s ≡ Ok tt)
      → (r : Refusal) → place_answer j.day j.kind t (place_at t k) s ≡ Err r → q ≡ in_line (next_line j) r → LineRefused j s q

-- ---------------------------------------------------------------------------
-- A wage file

-- the judge before line n of a file, counted from 0
abbrev pub judge_before : ℕ → ℕ → List ℕ → Judge
judge_before day n s = steps (begun day) (take n (pieces s))

-- the day, then the first line that is refused, then the end
pub data FileRefused (day : ℕ) (s : List ℕ) (q : Refusal) : Type 0 where
  -- 11
  undated : is_date day ≡ false → q ≡ Date none → FileRefused day s q
  -- else a line, before which none is refused
  line : is_date day ≡ true → (n : ℕ) → n < length (pieces s) → is_refused (judge_before day n s).condition ≡ false → LineRefused (judge_before day n s) (get_or (pieces s) n []) q → FileRefused day s q
  -- else the end: 14 at the line behind the last, unless the 399 was read
  end :
      is_date day ≡ true → is_refused (steps (begun day) (pieces s)).condition ≡ false
      → (is_sound (steps (begun day) (pieces s)) ≡ true → stage_of (steps (begun day) (pieces s)).condition ≡ 3 → ⊥)
      → q ≡ cond (is_sound (steps (begun day) (pieces s))) (at_line 14 (next_line (steps (begun day) (pieces s)))) beyond → FileRefused day s q
