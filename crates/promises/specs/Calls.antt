-- What a theorem about a call of the static library is: a claim C that holds of whatever the call was lent, whatever it answered, and whatever it left
-- in memory lent to be written, where its contract allows them. Each call is proved to meet its contract, so C holds of every call that ends, and
-- every call ends. "Every call" of a name is the generated postcondition, `Reads.Post`, of that function.
use Rattle.std.specs.Prelude.{ℕ, List, ◌≡◌}
use contract.Lifetimes.{Lfts}
use denote.Triple.Clauses.{Lasts, at_exit}
use borrow.Fn.Kinds.{ParamKind, ResultKind, Out, Dens, res_t, ended_of}
use Rattle.text.specs.declared.Part.{Part}
use Rattle.boundary.specs.declared.Told.{Told}
use Rattle.boundary.specs.declared.Valued.{Valued}
use Rattle.desk_standing.specs.declared.StandingTold.{StandingTold}
use Rattle.desk_standing.specs.declared.StandingWritten.{StandingWritten}
use Rattle.desk_ledger.specs.declared.Ledger.{Ledger}
use Rattle.tally.specs.declared.Tally.{Tally}
use Rattle.desk_record.specs.declared.Record.{Record}
use Rattle.desk_judge.specs.declared.Ended.{Ended}
use Rattle.desk_checks.proofs as checks
use Rattle.desk_wet.proofs as wet
use Rattle.desk_slips.proofs as slips
use Rattle.desk_standing.proofs as standings
use Rattle.desk_ledger.proofs as ledgers
use Rattle.desk_judge.proofs as judge
use Rattle.desk_tally.proofs as tallied
use Rattle.desk_writers.proofs as writers

-- of any function: given a, it answers z and leaves w
abbrev pub Every : (n : ℕ) (ps : List (ParamKind n)) (r : ResultKind n) → Out n ps r → ((κs : Lfts n) (a : Dens κs ps) → (res_t r κs).Denot → Lasts (ended_of n ps r) κs a → Type 0) → Type 0
Every n ps r P C =
    (κs : Lfts n) (a : Dens κs ps) (z : (res_t r κs).Denot) (w : Lasts (ended_of n ps r) κs a) →
    P κs a z (at_exit (ended_of n ps r) κs a w) →
    C κs a z w

-- some call of a function: there are such a, z and w
abbrev pub Some : (n : ℕ) (ps : List (ParamKind n)) (r : ResultKind n) → Out n ps r → ((κs : Lfts n) (a : Dens κs ps) → (res_t r κs).Denot → Lasts (ended_of n ps r) κs a → Type 0) → Type 0
Some n ps r P C =
    (κs : Lfts n) × ((a : Dens κs ps) × ((z : (res_t r κs).Denot) × ((w : Lasts (ended_of n ps r) κs a) × (P κs a z (at_exit (ended_of n ps r) κs a w) × C κs a z w))))

-- ---------------------------------------------------------------------------
-- Check digits, accounts and references

-- rule, digits, answer
abbrev pub EveryCheckDigits : (ℕ → List ℕ → Told → Type 0) → Type 0
EveryCheckDigits C = Every _ checks.lanecockle_check_digits.Kinds.ps checks.lanecockle_check_digits.Kinds.r checks.lanecockle_check_digits.Reads.Post (λ κs a z w. C a.0 a.1.0.now z)

-- rule, digits, answer
abbrev pub EveryMakeDigit : (ℕ → List ℕ → Valued → Type 0) → Type 0
EveryMakeDigit C = Every _ checks.lanecockle_make_digit.Kinds.ps checks.lanecockle_make_digit.Kinds.r checks.lanecockle_make_digit.Reads.Post (λ κs a z w. C a.0 a.1.0.now z)

-- text, answer
abbrev pub EveryIban : (List ℕ → Told → Type 0) → Type 0
EveryIban C = Every _ checks.lanecockle_iban.Kinds.ps checks.lanecockle_iban.Kinds.r checks.lanecockle_iban.Reads.Post (λ κs a z w. C a.0.now z)

-- text, answer
abbrev pub EveryOib : (List ℕ → Told → Type 0) → Type 0
EveryOib C = Every _ checks.lanecockle_oib.Kinds.ps checks.lanecockle_oib.Kinds.r checks.lanecockle_oib.Reads.Post (λ κs a z w. C a.0.now z)

-- model, text, answer
abbrev pub EveryReference : (List ℕ → List ℕ → Told → Type 0) → Type 0
EveryReference C = Every _ checks.lanecockle_reference.Kinds.ps checks.lanecockle_reference.Kinds.r checks.lanecockle_reference.Reads.Post (λ κs a z w. C a.0.now a.1.0.now z)

-- ---------------------------------------------------------------------------
-- Wet slips

-- text, room, answer, what is left in the room
abbrev pub EveryListIban : (List ℕ → List ℕ → Valued → List ℕ → Type 0) → Type 0
EveryListIban C = Every _ wet.lanecockle_list_iban.Kinds.ps wet.lanecockle_list_iban.Kinds.r wet.lanecockle_list_iban.Reads.Post (λ κs a z w. C a.0.now a.1.0.now z w.1.0)

-- model, text, room, answer, what is left in the room
abbrev pub EveryListReference : (List ℕ → List ℕ → List ℕ → Valued → List ℕ → Type 0) → Type 0
EveryListReference C =
    Every _ wet.lanecockle_list_reference.Kinds.ps wet.lanecockle_list_reference.Kinds.r wet.lanecockle_list_reference.Reads.Post
    (λ κs a z w. C a.0.now a.1.0.now a.1.1.0.now z w.1.1.0)

-- text, number, room, answer, what is left in the room
abbrev pub EveryFilled : (List ℕ → ℕ → List ℕ → Told → List ℕ → Type 0) → Type 0
EveryFilled C = Every _ wet.lanecockle_filled.Kinds.ps wet.lanecockle_filled.Kinds.r wet.lanecockle_filled.Reads.Post (λ κs a z w. C a.0.now a.1.0 a.1.1.0.now z w.1.1.0)

-- ---------------------------------------------------------------------------
-- Slips

-- slip, answer
abbrev pub EverySlipRead : (List ℕ → Told → Type 0) → Type 0
EverySlipRead C = Every _ slips.lanecockle_slip_read.Kinds.ps slips.lanecockle_slip_read.Kinds.r slips.lanecockle_slip_read.Reads.Post (λ κs a z w. C a.0.now z)

-- slip, the field's number, where it stands
abbrev pub EverySlipField : (List ℕ → ℕ → Part → Type 0) → Type 0
EverySlipField C = Every _ slips.lanecockle_slip_field.Kinds.ps slips.lanecockle_slip_field.Kinds.r slips.lanecockle_slip_field.Reads.Post (λ κs a z w. C a.0.now a.1.0 z)

-- slip, answer
abbrev pub EverySlipCents : (List ℕ → Valued → Type 0) → Type 0
EverySlipCents C = Every _ slips.lanecockle_slip_cents.Kinds.ps slips.lanecockle_slip_cents.Kinds.r slips.lanecockle_slip_cents.Reads.Post (λ κs a z w. C a.0.now z)

-- cents, the fields' text and sizes, room, answer, what is left in the room
abbrev pub EverySlipWrite : (ℕ → List ℕ → List ℕ → List ℕ → Valued → List ℕ → Type 0) → Type 0
EverySlipWrite C =
    Every _ slips.lanecockle_slip_write.Kinds.ps slips.lanecockle_slip_write.Kinds.r slips.lanecockle_slip_write.Reads.Post
    (λ κs a z w. C a.0 a.1.0.now a.1.1.0.now a.1.1.1.0.now z w.1.1.1.0)

-- ---------------------------------------------------------------------------
-- Standing text

-- the field's number, the farm's sheet, the association's, answer
abbrev pub EveryStandingText : (ℕ → List ℕ → List ℕ → StandingTold → Type 0) → Type 0
EveryStandingText C =
    Every _ standings.lanecockle_standing_text.Kinds.ps standings.lanecockle_standing_text.Kinds.r standings.lanecockle_standing_text.Reads.Post
    (λ κs a z w. C a.0 a.1.0.now a.1.1.0.now z)

-- cents, the fields' text and sizes, the farm's sheet, the association's, room, answer, what is left in the room
abbrev pub EverySlipWriteStanding : (ℕ → List ℕ → List ℕ → List ℕ → List ℕ → List ℕ → StandingWritten → List ℕ → Type 0) → Type 0
EverySlipWriteStanding C =
    Every _ standings.lanecockle_slip_write_standing.Kinds.ps standings.lanecockle_slip_write_standing.Kinds.r standings.lanecockle_slip_write_standing.Reads.Post
    (λ κs a z w. C a.0 a.1.0.now a.1.1.0.now a.1.1.1.0.now a.1.1.1.1.0.now a.1.1.1.1.1.0.now z w.1.1.1.1.1.0)

-- ---------------------------------------------------------------------------
-- Slips of either currency

-- slip, answer
abbrev pub EveryLedgerRead : (List ℕ → Ledger → Type 0) → Type 0
EveryLedgerRead C = Every _ ledgers.lanecockle_ledger_read.Kinds.ps ledgers.lanecockle_ledger_read.Kinds.r ledgers.lanecockle_ledger_read.Reads.Post (λ κs a z w. C a.0.now z)

-- slip, the field's number, where it stands
abbrev pub EveryLedgerField : (List ℕ → ℕ → Part → Type 0) → Type 0
EveryLedgerField C = Every _ ledgers.lanecockle_ledger_field.Kinds.ps ledgers.lanecockle_ledger_field.Kinds.r ledgers.lanecockle_ledger_field.Reads.Post (λ κs a z w. C a.0.now a.1.0 z)

-- lipa, cents
abbrev pub EveryLipaInCents : (ℕ → ℕ → Type 0) → Type 0
EveryLipaInCents C = Every _ ledgers.lanecockle_lipa_in_cents.Kinds.ps ledgers.lanecockle_lipa_in_cents.Kinds.r ledgers.lanecockle_lipa_in_cents.Reads.Post (λ κs a z w. C a.0 z)

-- ---------------------------------------------------------------------------
-- Wage files judged

-- day, the record
abbrev pub EveryJudgeBegin : (ℕ → Record → Type 0) → Type 0
EveryJudgeBegin C = Every _ judge.lanecockle_judge_begin.Kinds.ps judge.lanecockle_judge_begin.Kinds.r judge.lanecockle_judge_begin.Reads.Post (λ κs a z w. C a.0 z)

-- begun for a day, this is the record
abbrev pub JudgeBegins : ℕ → Record → Type 0
JudgeBegins day r = Some _ judge.lanecockle_judge_begin.Kinds.ps judge.lanecockle_judge_begin.Kinds.r judge.lanecockle_judge_begin.Reads.Post (λ κs a z w. (a.0 ≡ day) × (z ≡ r))

-- record, line, the record after it
abbrev pub EveryJudgeStep : (Record → List ℕ → Record → Type 0) → Type 0
EveryJudgeStep C = Every _ judge.lanecockle_judge_step.Kinds.ps judge.lanecockle_judge_step.Kinds.r judge.lanecockle_judge_step.Reads.Post (λ κs a z w. C a.0 a.1.0.now z)

-- record, line, the lent tally, the record after it, what is left in the tally
abbrev pub EveryJudgeStepTally : (Record → List ℕ → Tally → Record → Tally → Type 0) → Type 0
EveryJudgeStepTally C = Every _ tallied.Contract.ps tallied.Contract.r tallied.Contract.Post (λ κs a z w. C a.0 a.1.0.now a.1.1.0.now z w.1.1.0)

-- lent this record, this line and this tally, it answers r' and leaves t'
abbrev pub JudgeStepsTally : Record → List ℕ → Tally → Record → Tally → Type 0
JudgeStepsTally r line t r' t' =
    Some _ tallied.Contract.ps tallied.Contract.r tallied.Contract.Post (λ κs a z w. (a.0 ≡ r) × ((a.1.0.now ≡ line) × ((a.1.1.0.now ≡ t) × ((z ≡ r') × (w.1.1.0 ≡ t')))))

-- record, lines, the record after them
abbrev pub EveryJudgeLines : (Record → List ℕ → Record → Type 0) → Type 0
EveryJudgeLines C = Every _ judge.lanecockle_judge_lines.Kinds.ps judge.lanecockle_judge_lines.Kinds.r judge.lanecockle_judge_lines.Reads.Post (λ κs a z w. C a.0 a.1.0.now z)

-- record, answer
abbrev pub EveryJudgeEnd : (Record → Ended → Type 0) → Type 0
EveryJudgeEnd C = Every _ judge.lanecockle_judge_end.Kinds.ps judge.lanecockle_judge_end.Kinds.r judge.lanecockle_judge_end.Reads.Post (λ κs a z w. C a.0 z)

-- day, file, answer
abbrev pub EveryWageFile : (ℕ → List ℕ → Ended → Type 0) → Type 0
EveryWageFile C = Every _ judge.lanecockle_wage_file.Kinds.ps judge.lanecockle_wage_file.Kinds.r judge.lanecockle_wage_file.Reads.Post (λ κs a z w. C a.0 a.1.0.now z)

-- line, the place's field number, where it stands
abbrev pub EveryWagePlace : (List ℕ → ℕ → Part → Type 0) → Type 0
EveryWagePlace C = Every _ judge.lanecockle_wage_place.Kinds.ps judge.lanecockle_wage_place.Kinds.r judge.lanecockle_wage_place.Reads.Post (λ κs a z w. C a.0.now a.1.0 z)

-- ---------------------------------------------------------------------------
-- Wage lines written

-- day, the fields' text and sizes, room, answer, what is left in the room
abbrev pub EveryWriteLabel : (ℕ → List ℕ → List ℕ → List ℕ → Told → List ℕ → Type 0) → Type 0
EveryWriteLabel C =
    Every _ writers.lanecockle_write_label.Kinds.ps writers.lanecockle_write_label.Kinds.r writers.lanecockle_write_label.Reads.Post
    (λ κs a z w. C a.0 a.1.0.now a.1.1.0.now a.1.1.1.0.now z w.1.1.1.0)

-- day, kind, the fields' text and sizes, room, answer, what is left in the room
abbrev pub EveryWriteOrder : (ℕ → ℕ → List ℕ → List ℕ → List ℕ → Told → List ℕ → Type 0) → Type 0
EveryWriteOrder C =
    Every _ writers.lanecockle_write_order.Kinds.ps writers.lanecockle_write_order.Kinds.r writers.lanecockle_write_order.Reads.Post
    (λ κs a z w. C a.0 a.1.0 a.1.1.0.now a.1.1.1.0.now a.1.1.1.1.0.now z w.1.1.1.1.0)

-- day, kind, the fields' text and sizes, orders, room, answer, what is left in the room
abbrev pub EveryWriteGroup : (ℕ → ℕ → List ℕ → List ℕ → List ℕ → List ℕ → Told → List ℕ → Type 0) → Type 0
EveryWriteGroup C =
    Every _ writers.lanecockle_write_group.Kinds.ps writers.lanecockle_write_group.Kinds.r writers.lanecockle_write_group.Reads.Post
    (λ κs a z w. C a.0 a.1.0 a.1.1.0.now a.1.1.1.0.now a.1.1.1.1.0.now a.1.1.1.1.1.0.now z w.1.1.1.1.1.0)

-- day, room, answer, what is left in the room
abbrev pub EveryWriteClosing : (ℕ → List ℕ → Told → List ℕ → Type 0) → Type 0
EveryWriteClosing C = Every _ writers.lanecockle_write_closing.Kinds.ps writers.lanecockle_write_closing.Kinds.r writers.lanecockle_write_closing.Reads.Post (λ κs a z w. C a.0 a.1.0.now z w.1.0)
