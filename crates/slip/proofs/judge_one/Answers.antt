-- `slip::judge_one` meets its contract: a 3's byte lies within the field, so that its place in the slip fits. Assumes nothing.
use Rattle.refusal.proofs.Basics.{arith, length}
use Rattle.verdict.proofs.Verdicts.{byte_within}
use Rattle.slip_fields.proofs.Theorems.{field_within}
use Rattle.slip.proofs.judge_one.Goals as goal

pub overflow_add-start : goal.overflow_add-start
overflow_add-start c = let a = c.args in
    let w = byte_within (length a.s.now) c.judge_field-verdict.result (rw c.judge_field-verdict.ensures (field_within a.currency a.n a.before.now a.s.now)) in
    omega (arith, w, c.byte_of.ensures)
