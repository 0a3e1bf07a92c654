-- Any two answers that the contract of a public call allows are equal, and so is what they leave in lent memory. Assumes nothing.
use Rattle.refusal.proofs.Basics.{sym, ◌∙◌}
use Rattle.refusal.specs.One.{One}
use Rattle.slip_printed.proofs as here

pub print_ledger_one : One _ here.print_ledger.Kinds.ps here.print_ledger.Kinds.r here.print_ledger.Reads.Post
print_ledger_one κs a z z' w w' p q = (p.answers ∙ sym q.answers, p.leaves ∙ sym q.leaves)

pub print_one : One _ here.print.Kinds.ps here.print.Kinds.r here.print.Reads.Post
print_one κs a z z' w w' p q = (p.answers ∙ sym q.answers, p.leaves ∙ sym q.leaves)
