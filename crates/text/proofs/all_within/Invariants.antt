-- `text::all_within` meets its contract. The loop's invariant: for a class that permits just the bytes between the two, the answer is the
-- test so far and that of what is left from the byte on. Assumes nothing.
use Rattle.refusal.proofs.Basics.{◌≡◌, ℕ, drop, ◌&&◌, leb}
use Rattle.classes.specs.Classes.{permits}
use Rattle.text.specs.Bytes.{all_of}
use Rattle.classes.specs.declared.Class.{Class}
use Rattle.text.proofs.all_within.Given as goal

abbrev pub invariant-loop-b : goal.invariant-loop-b
invariant-loop-b l = (k : Class) → ((b : ℕ) → permits k b ≡ (leb l.least b && leb b l.most)) → all_of k l.s ≡ (l.right && all_of k (drop l.b-index l.s))
