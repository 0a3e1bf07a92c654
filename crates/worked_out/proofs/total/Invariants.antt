-- `worked_out::total` meets its contract. The loop's invariant: the whole sum is `sum` with the amounts of the lines that are left. Assumes nothing.
use Rattle.refusal.proofs.Basics.{◌≡◌}
use Rattle.std.specs.Slice.Iter.{chunks_rest, chunks_size}
use Rattle.sums.specs.Sums.{cents_of, sum_of, added}
use Rattle.wage_line.specs.Pieces.{pieces}
use Rattle.worked_out.specs.Amounts.{amounts}
use Rattle.worked_out.proofs.total.Given as goal

abbrev pub invariant-loop-line : goal.invariant-loop-line
invariant-loop-line l = record {
  size : chunks_size l.line-iterator ≡ 1002;
  whole : sum_of 100 (amounts (pieces l.s)) ≡ added 100 l.sum (amounts (pieces (chunks_rest l.line-iterator)));
  kept : sum_of 100 (cents_of l.sum) ≡ l.sum;
}
