-- `slip_handed::field_in` meets its contract: the bytes of the field's part. Assumes nothing.
use Rattle.refusal.proofs.Basics.{◌∙◌}
use Rattle.slip_handed.proofs.Laws.{field_stands}
use Rattle.slip_handed.proofs.field_in.Goals as goal

pub bytes-requires : goal.bytes-requires
bytes-requires c = rw c.part_in.ensures (field_stands _ c.args.s.now c.args.n).0

pub returns : goal.returns
returns c = c.bytes.ensures ∙ rw c.part_in.ensures (field_stands _ c.args.s.now c.args.n).1
