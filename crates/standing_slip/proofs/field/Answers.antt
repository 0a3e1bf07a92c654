-- `standing_slip::field` meets its contract: as it is given, or what the sheets supply. Assumes nothing.
use Rattle.refusal.proofs.Basics.{sym, ap, ◌∙◌, length, not-true, not-false}
use Rattle.standing_slip.proofs.Laws.{field_given, field_alone, field_supplied}
use Rattle.standing_slip.proofs.field.Goals as goal

pub returns-then-given-ne0 : goal.returns-then-given-ne0
returns-then-given-ne0 c = let e = c.given-given.ensures in
    e ∙ field_given _ _ _ _ _ _ (λ z. c.if-given-ne0.true (ap length e ∙ z))

pub returns-then-not-is_standing : goal.returns-then-not-is_standing
returns-then-not-is_standing c = c.given-given.ensures ∙ field_alone _ _ _ _ _ _ (sym c.is_standing.ensures ∙ not-true _ c.if-not-is_standing.true-raw)

pub returns : goal.returns
returns c = field_supplied _ _ _ _ _ _ _ (ap length (sym c.given-given.ensures) ∙ c.if-given-ne0.false) (sym c.is_standing.ensures ∙ not-false _ c.if-not-is_standing.false-raw)
    (c.bytes_in.ensures ∙ rw c.supply.ensures)
