-- `wage_file::lines` meets its contract: each line is a step, and a refusal stays. Assumes nothing.
use Rattle.refusal.proofs.Basics.{sym, ◌∙◌}
use Rattle.wage_line.proofs.PieceLaws.{pieces_cut}
use Rattle.judge.proofs.Theorems.{refusal_stays_on}
use Rattle.wage_file.proofs.Laws.{lines_on, lines_end}
use Rattle.wage_file.proofs.lines.Goals as goal

pub lines-preserved : goal.lines-preserved
lines-preserved c = let l = c.lines in
    let n = c.in-Some.ensures.steps in
    (n.0 ∙ l.invariant.0, l.invariant.1 ∙ rw c.step-j.ensures (lines_on l.j _ _ _ (pieces_cut _ _ _ n.1.0 (rw l.invariant.0 at n.1.1) n.1.2)))

pub returns-then-is_refused : goal.returns-then-is_refused
returns-then-is_refused c = let l = c.lines in
    sym (refusal_stays_on l.j (sym c.is_refused.ensures ∙ c.if-is_refused.true) _) ∙ sym l.invariant.1

pub returns-in-None : goal.returns-in-None
returns-in-None c = let l = c.lines in
    sym (lines_end l.j _ c.in-None.ensures.steps.1.0) ∙ sym l.invariant.1
