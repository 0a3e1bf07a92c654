-- `room::put_digits` meets its contract. The loop's invariant: the digits left make up the whole. Assumes nothing.
use Rattle.refusal.proofs.Basics.{◌≡◌, length, sets}
use Rattle.text.specs.Digits.{digits_text}
use Rattle.room.proofs.put_digits.Given as goal

abbrev pub invariant-loop-i : goal.invariant-loop-i
invariant-loop-i l = (length l.out ≡ length l.initial.out) × (sets l.out l.at (digits_text l.i l.rest) ≡ sets l.initial.out l.at (digits_text l.digits l.n))
