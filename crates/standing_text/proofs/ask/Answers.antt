-- `standing_text::ask` meets its contract: 28, then 20, then what the sheets supply. Assumes nothing.
use Rattle.refusal.proofs.Basics.{◌≡◌, sym, ◌∙◌, not-true, not-false}
use Rattle.standing_text.specs.Standing.{both_judged}
use Rattle.standing_text.proofs.Laws.{found_judged, not_standing, sheets_refused, sheets_right}
use Rattle.standing_text.proofs.ask.Goals as goal

pub returns-then-not-is_standing : goal.returns-then-not-is_standing
returns-then-not-is_standing c = let a = c.args in
    rw c.nowhere.ensures (not_standing a.n a.farm.now a.association.now (sym c.is_standing.ensures ∙ not-true _ c.if-not-is_standing.true-raw))

pub returns-in-Err : goal.returns-in-Err
returns-in-Err c =
    let judged : c.judge_sheets-judged.result ≡ both_judged c.args.farm.now c.args.association.now = found_judged _ _ _ (c.judge_sheets-judged.ensures ∙ rw (c.read-f.ensures, c.read-a.ensures)) in
    let a = c.args in
    sheets_refused a.n a.farm.now a.association.now (sym c.is_standing.ensures ∙ not-false _ c.if-not-is_standing.false-raw) _ (judged) _ c.in-Err.is

pub returns : goal.returns
returns c =
    let judged : c.judge_sheets-judged.result ≡ both_judged c.args.farm.now c.args.association.now = found_judged _ _ _ (c.judge_sheets-judged.ensures ∙ rw (c.read-f.ensures, c.read-a.ensures)) in
    let a = c.args in
    c.supply.ensures
    ∙ (rw (c.read-f.ensures, c.read-a.ensures)
    (sheets_right a.n a.farm.now a.association.now (sym c.is_standing.ensures ∙ not-false _ c.if-not-is_standing.false-raw) _ (judged) c.in_default.is))
