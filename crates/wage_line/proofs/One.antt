-- Any two answers that the contract of a public call allows are equal, and so is what they leave in lent memory. Assumes nothing.
use Rattle.refusal.proofs.Basics.{sym, ◌∙◌}
use Rattle.refusal.specs.One.{One, OneSeen}
use Rattle.wage_line.proofs as here

pub read_type_one : One _ here.read_type.Kinds.ps here.read_type.Kinds.r here.read_type.Reads.Post
read_type_one κs a z z' w w' p q = p ∙ sym q

pub place_one : OneSeen _ here.place.Kinds.ps here.place.Kinds.r (λ κs z. z.now) here.place.Reads.Post
place_one κs a z z' w w' p q = p ∙ sym q

pub piece_one : OneSeen _ here.piece.Kinds.ps here.piece.Kinds.r (λ κs z. z.now) here.piece.Reads.Post
piece_one κs a z z' w w' p q = p ∙ sym q

pub next_piece_one : One _ here.next_piece.Kinds.ps here.next_piece.Kinds.r here.next_piece.Reads.Post
next_piece_one κs a z z' w w' p q = p ∙ sym q
