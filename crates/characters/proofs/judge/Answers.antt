-- `characters::judge` meets its contract: each turn passes a character, or tells the byte where none stands. Assumes nothing.
use Rattle.refusal.proofs.Basics.{sym, ◌∙◌, arith, ◌<◌, length}
use Rattle.text.proofs.Laws.{to_the_end}
use Rattle.characters.proofs.Laws.{passed_none, passed_single, passed_pair, passed_wrong, passed_all, wrong_told, counted_told}
use Rattle.characters.proofs.judge.Goals as goal
use Rattle.characters.proofs.judge.Goals.{then-is_single, else-is_single+then-is_completed}

pub loop-rest-init : goal.loop-rest-init
loop-rest-init c = passed_none _

pub loop-rest-preserved : goal.loop-rest-preserved
loop-rest-preserved c = let l = c.loop-rest in
    let h : 0 < length l.rest.now = omega arith in
    elim c.if-is_single.branch [
      | then-is_single w ↦ rw (w.rest-is, to_the_end) (passed_single _ l.n l.rest.now l.invariant h (sym c.is_single.ensures ∙ w.if-is_single.true))
      | else-is_single+then-is_completed w ↦
          rw (w.rest-is, to_the_end, to_the_end)
          (passed_pair _ l.n l.rest.now l.invariant h (sym c.is_single.ensures ∙ w.if-is_single.false) (rw to_the_end at (sym w.is_completed.ensures ∙ w.if-is_completed.true)))
    ]

pub returns-else-is_completed : goal.returns-else-is_completed
returns-else-is_completed c = let a = c.args in
    let l = c.loop-rest in
    let h : 0 < length l.rest.now = omega arith in
    wrong_told a.most a.s.now _
    (passed_wrong a.s.now l.n l.rest.now l.invariant h (sym c.is_single.ensures ∙ c.if-is_single.false) (rw to_the_end at (sym c.is_completed.ensures ∙ c.if-is_completed.false)))

pub returns : goal.returns
returns c = let a = c.args in
    let l = c.loop-rest in
    c.only_if.ensures ∙ counted_told a.most l.n a.s.now (passed_all a.s.now l.n l.rest.now l.invariant (omega arith))
