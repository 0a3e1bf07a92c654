-- `standing_slip::write` meets its contract: the sizes, then both sheets, then the writer. Assumes nothing.
use Rattle.refusal.proofs.Basics.{◌≡◌, sym, ◌∙◌, not-true, not-false}
use Rattle.standing_text.specs.Standing.{both_judged}
use Rattle.standing_text.proofs.Laws.{found_judged}
use Rattle.standing_slip.proofs.Laws.{unsized, sheets_refused, sheets_right}
use Rattle.standing_slip.proofs.write.Goals as goal

pub returns-then-not-is_lent_whole : goal.returns-then-not-is_lent_whole
returns-then-not-is_lent_whole c = rw c.nowhere.ensures (unsized _ _ _ _ _ _ (sym c.is_lent_whole.ensures ∙ not-true _ c.if-not-is_lent_whole.true-raw))

pub returns-in-Err : goal.returns-in-Err
returns-in-Err c =
    let judged : c.judge_sheets-judged.result ≡ both_judged c.args.farm.now c.args.association.now = found_judged _ _ _ (c.judge_sheets-judged.ensures ∙ rw (c.read-f.ensures, c.read-a.ensures)) in
    sheets_refused _ _ _ _ _ _ (sym c.is_lent_whole.ensures ∙ not-false _ c.if-not-is_lent_whole.false-raw) _ (judged) _ c.in-Err.is

pub returns : goal.returns
returns c =
    let judged : c.judge_sheets-judged.result ≡ both_judged c.args.farm.now c.args.association.now = found_judged _ _ _ (c.judge_sheets-judged.ensures ∙ rw (c.read-f.ensures, c.read-a.ensures)) in
    sheets_right _ _ _ _ _ _ (sym c.is_lent_whole.ensures ∙ not-false _ c.if-not-is_lent_whole.false-raw) _ (judged) _ _ c.in_default.is
    (rw (← c.read-f.ensures, ← c.read-a.ensures) c.write_filled.ensures)
