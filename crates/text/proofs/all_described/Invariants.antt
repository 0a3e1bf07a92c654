-- `text::all_described` meets its contract. The loop's invariant: the answer is the test so far and that of what is left from the byte on.
-- Assumes nothing.
use Rattle.refusal.proofs.Basics.{◌≡◌, drop, ◌&&◌}
use Rattle.text.specs.Bytes.{all_of}
use Rattle.classes.specs.declared.Class.TheVariants.{Description}
use Rattle.text.proofs.all_described.Given as goal

abbrev pub invariant-loop-b : goal.invariant-loop-b
invariant-loop-b l = all_of Description l.s ≡ (l.right && all_of Description (drop l.b-index l.s))
