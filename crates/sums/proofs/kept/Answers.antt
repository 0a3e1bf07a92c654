-- `sums::kept` meets its contract: the limit is reached where the high parts reach it. Assumes nothing.
use Rattle.refusal.proofs.Basics.{refl, arith, ◌+◌, ◌*◌}
use Rattle.sums.specs.Sums.{limb}
use Rattle.sums.proofs.Laws.{sum_large, sum_of_parts}
use Rattle.sums.proofs.kept.Goals as goal

pub returns-then-most-high : goal.returns-then-most-high
returns-then-most-high c = let a = c.args in sum_large a.most ((a.high + a.more) * limb + a.low) (omega arith)

pub returns-then-most-high-2 : goal.returns-then-most-high-2
returns-then-most-high-2 c = let a = c.args in sum_large a.most ((a.high + a.more) * limb + a.low) (omega arith)

pub returns : goal.returns
returns c = let a = c.args in sum_of_parts a.most _ (a.high + a.more) a.low refl (omega arith) (omega arith)
