-- `lent_fields::is_lent_whole` meets its contract. The loop's invariant: what is left of the text is what the fields so far have left of it. Assumes nothing.
use Rattle.refusal.proofs.Basics.{◌≡◌, ◌+◌, length, drop, take}
use Rattle.lent_fields.specs.Fields.{together}
use Rattle.lent_fields.proofs.is_lent_whole.Given as goal

abbrev pub invariant-loop-size : goal.invariant-loop-size
invariant-loop-size l = let ns = take l.fields l.sizes in together ns + l.left ≡ length l.text + together (drop (length l.yielded) ns)
