-- Demand 1: "A refusal is one of the documents' numbers, with line, field and byte", of every call that answers. Assumes nothing.
use Rattle.refusal.proofs.Basics.{refl, Bool, true, false, cond, eqb, inl, inr}
use Rattle.std.specs.Prelude.{Err, Ok, Result, ℕ}
use Rattle.refusal.specs.Refusal.{Answer, none}
use Rattle.condition.specs.declared.Counts.{Counts}
use Rattle.refusal.specs.declared.Refusal.{Refusal}
use Rattle.refusal.specs.declared.Refusal.TheVariants.{Size, Form}
use Rattle.ledger_slip.specs.declared.Amount.{Amount}
use Rattle.ledger_slip.specs.declared.Amount.TheVariants.{Euro, Kuna}
use Rattle.condition.specs.declared.Judge.{Judge}
use Rattle.condition.specs.Record.{is_refused, refusal_in}
use Rattle.lent_fields.specs.Fields.{lent_whole}
use Rattle.boundary.specs.declared.Told.{Told}
use Rattle.boundary.specs.Told.{refusal, told_of, value_told, valued, no_rule}
use Rattle.boundary.proofs.Theorems.{number_in_table}
use Rattle.desk_standing.specs.Standings.{standing_told, written_told}
use Rattle.desk_ledger.specs.Ledgers.{ledger_told}
use Rattle.desk_record.specs.Record.{record_of}
use Rattle.desk_judge.specs.Wages.{ended_of}
use Rattle.desk_tally.specs.Tallied.{tallied_of}
use Rattle.promises.specs.Calls.{EveryCheckDigits, EveryMakeDigit, EveryIban, EveryOib, EveryReference, EveryListIban, EveryListReference, EveryFilled, EverySlipRead, EverySlipCents, EverySlipWrite, EveryStandingText, EverySlipWriteStanding, EveryLedgerRead, EveryJudgeBegin, EveryJudgeStep, EveryJudgeStepTally, EveryJudgeLines, EveryJudgeEnd, EveryWageFile, EveryWriteLabel, EveryWriteOrder, EveryWriteGroup, EveryWriteClosing}
use Rattle.promises.specs.Refusals.{Known}

-- ---------------------------------------------------------------------------
-- What is told

refusal_known : (q : Refusal) → Known (refusal q)
refusal_known q = inr (q, (refl, number_in_table q))

either_known : (b : Bool) (t u : Told) → Known t → Known u → Known (cond b t u)
either_known true t u k l = k
either_known false t u k l = l

-- an answer, a value, a slip of either currency, an end, a judge's record
answer_known : (x : Answer) → Known (told_of x)
unfolding told_of
answer_known (Ok u) = inl refl
answer_known (Err r) = refusal_known r

value_known : (x : Result ℕ Refusal) → Known (value_told x).told
unfolding value_told
value_known (Ok n) = inl refl
value_known (Err r) = refusal_known r

ledger_known : (x : Result Amount Refusal) → Known (ledger_told x).told
unfolding ledger_told
ledger_known (Ok (Euro c)) = inl refl
ledger_known (Ok (Kuna l)) = inl refl
ledger_known (Err r) = refusal_known r

ended_known : (x : Result Counts Refusal) → Known (ended_of x).told
unfolding ended_of
ended_known (Ok n) = inl refl
ended_known (Err r) = refusal_known r

record_known : (j : Judge) → Known (record_of j).told
unfolding record_of
record_known j = either_known (is_refused j.condition) _ _ (refusal_known (refusal_in j.condition)) (inl refl)

-- ---------------------------------------------------------------------------
-- Of every call

pub check_digits_known : EveryCheckDigits (λ rule digits r. Known r)
check_digits_known κs a z w call = rw call (either_known (eqb a.0 0) _ _ (answer_known _) (either_known (eqb a.0 1) _ _ (answer_known _) (refusal_known (Form none))))

-- by the rule of a number
rule_known : (b₀ b₁ : Bool) (x y : Result ℕ Refusal) → Known (cond b₀ (value_told x) (cond b₁ (value_told y) (valued no_rule 0))).told
rule_known true b₁ x y = value_known x
rule_known false true x y = value_known y
rule_known false false x y = refusal_known (Form none)

pub make_digit_known : EveryMakeDigit (λ rule digits r. Known r.told)
make_digit_known κs a z w call = rw call (rule_known (eqb a.0 0) (eqb a.0 1) _ _)

pub iban_known : EveryIban (λ text r. Known r)
iban_known κs a z w call = rw call (answer_known _)

pub oib_known : EveryOib (λ text r. Known r)
oib_known κs a z w call = rw call (answer_known _)

pub reference_known : EveryReference (λ model text r. Known r)
reference_known κs a z w call = rw call (answer_known _)

pub list_iban_known : EveryListIban (λ text out r after. Known r.told)
list_iban_known κs a z w call = rw call.0 (value_known _)

pub list_reference_known : EveryListReference (λ model text out r after. Known r.told)
list_reference_known κs a z w call = rw call.0 (value_known _)

pub filled_known : EveryFilled (λ text number out r after. Known r)
filled_known κs a z w call = rw call.0 (answer_known _)

pub slip_read_known : EverySlipRead (λ slip r. Known r)
slip_read_known κs a z w call = rw call (answer_known _)

pub slip_cents_known : EverySlipCents (λ slip r. Known r.told)
slip_cents_known κs a z w call = rw call (value_known _)

pub ledger_read_known : EveryLedgerRead (λ slip l. Known l.told)
ledger_read_known κs a z w call = rw call (ledger_known _)

-- where it is asked first whether the fields are lent whole
sized_known : (b : Bool) (x : Result ℕ Refusal) → Known (cond b (value_told x) (valued (refusal (Size none)) 0)).told
sized_known true x = value_known x
sized_known false x = refusal_known (Size none)

pub slip_write_known : EverySlipWrite (λ cents text sizes out r after. Known r.told)
slip_write_known κs a z w call = rw call.answers (sized_known (lent_whole 11 a.1.1.0.now a.1.0.now) _)

pub standing_text_known : EveryStandingText (λ n farm association r. Known r.told)
unfolding standing_told
standing_text_known κs a z w call = rw call (answer_known _)

pub slip_write_standing_known : EverySlipWriteStanding (λ cents text sizes farm association out r after. Known r.told)
unfolding written_told
slip_write_standing_known κs a z w call = rw call.answers (value_known _)

pub judge_begin_known : EveryJudgeBegin (λ day r. Known r.told)
judge_begin_known κs a z w call = rw call (record_known _)

pub judge_step_known : EveryJudgeStep (λ before line r. Known r.told)
judge_step_known κs a z w call = rw call (record_known _)

pub judge_step_tally_known : EveryJudgeStepTally (λ before line tally r after. Known r.told)
unfolding tallied_of
judge_step_tally_known κs a z w call = rw call.0 (record_known _)

pub judge_lines_known : EveryJudgeLines (λ before bytes r. Known r.told)
judge_lines_known κs a z w call = rw call (record_known _)

pub judge_end_known : EveryJudgeEnd (λ before r. Known r.told)
judge_end_known κs a z w call = rw call (ended_known _)

pub wage_file_known : EveryWageFile (λ day bytes r. Known r.told)
wage_file_known κs a z w call = rw call (ended_known _)

pub write_label_known : EveryWriteLabel (λ day text sizes out r after. Known r)
write_label_known κs a z w call = rw call.answers (answer_known _)

pub write_order_known : EveryWriteOrder (λ day kind text sizes out r after. Known r)
write_order_known κs a z w call = rw call.answers (answer_known _)

pub write_group_known : EveryWriteGroup (λ day kind text sizes orders out r after. Known r)
write_group_known κs a z w call = rw call.answers (answer_known _)

pub write_closing_known : EveryWriteClosing (λ day out r after. Known r)
write_closing_known κs a z w call = rw call.answers (answer_known _)
