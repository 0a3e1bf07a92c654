-- `wage_orders::judge_lines`: the answer is that of the lines that are left, the first of them being `n`; each turn leaves fewer bytes.
-- Assumes nothing.
use Rattle.refusal.proofs.Basics.{◌≡◌, ◌+◌, ◌≤◌, length}
use Rattle.std.specs.Slice.Iter.{chunks_rest, chunks_size}
use Rattle.wage_line.specs.Pieces.{pieces}
use Rattle.wage_orders.specs.Orders.{orders_from}
use Rattle.wage_orders.proofs.judge_lines.Given as goal

abbrev pub invariant-loop-line : goal.invariant-loop-line
invariant-loop-line l =
    (chunks_size l.line-iterator ≡ 1002) × (l.n + length (chunks_rest l.line-iterator) ≤ length l.s + 1)
    × (orders_from l.day l.kind 1 (pieces l.s) ≡ orders_from l.day l.kind l.n (pieces (chunks_rest l.line-iterator)))
