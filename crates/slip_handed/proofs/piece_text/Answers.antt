-- `slip_handed::piece_text` meets its contract: the bytes of the piece's part. Assumes nothing.
use Rattle.refusal.proofs.Basics.{◌∙◌}
use Rattle.slip_handed.proofs.Laws.{piece_stands}
use Rattle.slip_handed.proofs.piece_text.Goals as goal

pub bytes-requires : goal.bytes-requires
bytes-requires c = rw c.piece.ensures (piece_stands c.args.k c.args.s.now).0

pub returns : goal.returns
returns c = c.bytes.ensures ∙ rw c.piece.ensures (piece_stands c.args.k c.args.s.now).1
