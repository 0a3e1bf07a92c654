-- Any two answers that the contract of a public call allows are equal, and so is what they leave in lent memory. Assumes nothing.
use Rattle.refusal.proofs.Basics.{sym, ◌∙◌}
use Rattle.refusal.specs.One.{One}
use Rattle.sums.proofs as here

pub nothing_one : One _ here.nothing.Kinds.ps here.nothing.Kinds.r here.nothing.Reads.Post
nothing_one κs a z z' w w' p q = p ∙ sym q

pub fits_one : One _ here.fits.Kinds.ps here.fits.Kinds.r here.fits.Reads.Post
fits_one κs a z z' w w' p q = p ∙ sym q

pub add_one : One _ here.add.Kinds.ps here.add.Kinds.r here.add.Reads.Post
add_one κs a z z' w w' p q = p ∙ sym q

pub is_same_one : One _ here.is_same.Kinds.ps here.is_same.Kinds.r here.is_same.Reads.Post
is_same_one κs a z z' w w' p q = p ∙ sym q

pub written_one : One _ here.written.Kinds.ps here.written.Kinds.r here.written.Reads.Post
written_one κs a z z' w w' p q = p ∙ sym q

pub number_one : One _ here.number.Kinds.ps here.number.Kinds.r here.number.Reads.Post
number_one κs a z z' w w' p q = p ∙ sym q
