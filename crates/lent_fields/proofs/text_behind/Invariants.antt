-- `lent_fields::text_behind` meets its contract. The loop's invariant: the text from `at` on is the text behind the fields so far. Assumes nothing.
use Rattle.refusal.proofs.Basics.{◌≡◌, ◌≤◌, length, drop, map}
use Rattle.lent_fields.specs.Fields.{behind}
use Rattle.lent_fields.proofs.text_behind.Given as goal

abbrev pub invariant-loop-size : goal.invariant-loop-size
invariant-loop-size l = (l.at ≤ length l.text) × (drop l.at l.text ≡ behind (map (λ n. n.now) l.yielded) l.text)
