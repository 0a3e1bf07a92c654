-- `sheet::read` meets its contract. The loop's invariant: what reading the sheet finds is what the lines from `at` on add. Assumes nothing.
use Rattle.refusal.proofs.Basics.{sym, ◌∙◌, rules, arith}
use Rattle.sheet.proofs.Laws.{reached_first, reached_ends, reached_number, reached_bad, reached_next, reached_open, reached_last}
use Rattle.sheet.proofs.read.Goals as goal

pub loop-i-init : goal.loop-i-init
loop-i-init c = reached_first _

pub overflow_add-stop : goal.overflow_add-stop
overflow_add-stop c = let h = reached_ends _ _ _ _ _ _ c.loop-i.invariant _ (sym c.first_bad.ensures ∙ c.in-Some.is) in omega arith

pub slice_bounds-right_number-end : goal.slice_bounds-right_number-end
slice_bounds-right_number-end c = let h = reached_ends _ _ _ _ _ _ c.loop-i.invariant _ (sym c.first_bad.ensures ∙ c.in-Some.is) in omega arith

pub returns-then-n-eq0 : goal.returns-then-n-eq0
returns-then-n-eq0 c = c.malformed.ensures ∙ reached_bad _ _ _ _ _ _ c.loop-i.invariant _ (sym c.first_bad.ensures ∙ c.in-Some.is) _ c.right_number-n.ensures c.if-n-eq0.true

pub offset_bounds-starts-n : goal.offset_bounds-starts-n
offset_bounds-starts-n c = let h = (reached_number _ _ _ _ _ _ c.loop-i.invariant _ (sym c.first_bad.ensures ∙ c.in-Some.is) _ c.right_number-n.ensures c.if-n-eq0.false).0 in search rules

pub bounds-starts-n : goal.bounds-starts-n
bounds-starts-n c = let h = (reached_number _ _ _ _ _ _ c.loop-i.invariant _ (sym c.first_bad.ensures ∙ c.in-Some.is) _ c.right_number-n.ensures c.if-n-eq0.false).0 in omega arith

pub overflow_sub-lengths : goal.overflow_sub-lengths
overflow_sub-lengths c = rw c.text_start-before.ensures (reached_number _ _ _ _ _ _ c.loop-i.invariant _ (sym c.first_bad.ensures ∙ c.in-Some.is) _ c.right_number-n.ensures c.if-n-eq0.false).1

pub offset_bounds-lengths-n : goal.offset_bounds-lengths-n
offset_bounds-lengths-n c = let h = (reached_number _ _ _ _ _ _ c.loop-i.invariant _ (sym c.first_bad.ensures ∙ c.in-Some.is) _ c.right_number-n.ensures c.if-n-eq0.false).0 in search rules

pub bounds-lengths-n : goal.bounds-lengths-n
bounds-lengths-n c = let h = (reached_number _ _ _ _ _ _ c.loop-i.invariant _ (sym c.first_bad.ensures ∙ c.in-Some.is) _ c.right_number-n.ensures c.if-n-eq0.false).0 in omega arith

pub loop-i-smaller : goal.loop-i-smaller
loop-i-smaller c = let h = reached_ends _ _ _ _ _ _ c.loop-i.invariant _ (sym c.first_bad.ensures ∙ c.in-Some.is) in omega arith

pub loop-i-preserved : goal.loop-i-preserved
loop-i-preserved c = rw c.text_start-before.ensures (reached_next _ _ _ _ _ _ c.loop-i.invariant _ (sym c.first_bad.ensures ∙ c.in-Some.is) _ c.right_number-n.ensures c.if-n-eq0.false)

pub returns-then-at-s : goal.returns-then-at-s
returns-then-at-s c = c.malformed-then-at-s.ensures ∙ reached_open _ _ _ _ _ _ c.loop-i.invariant (sym c.first_bad.ensures ∙ c.in_default.is) c.if-at-s.true

pub returns : goal.returns
returns c = reached_last _ _ _ _ _ _ c.loop-i.invariant (sym c.first_bad.ensures ∙ c.in_default.is) c.if-at-s.false
