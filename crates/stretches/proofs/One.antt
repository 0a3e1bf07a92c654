-- Any two answers that the contract of a public call allows are equal, and so is what they leave in lent memory. Assumes nothing.
use Rattle.refusal.proofs.Basics.{sym, ◌∙◌}
use Rattle.refusal.specs.One.{OneSeen}
use Rattle.stretches.proofs as here

pub stretch_one : OneSeen _ here.stretch.Kinds.ps here.stretch.Kinds.r (λ κs z. z.now) here.stretch.Reads.Post
stretch_one κs a z z' w w' p q = p ∙ sym q
