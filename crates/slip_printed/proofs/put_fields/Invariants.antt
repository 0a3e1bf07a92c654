-- `slip_printed::put_fields` meets its contract. The loop's invariant: what puts the lines that are left, puts all. Assumes nothing.
use Rattle.refusal.proofs.Basics.{◌≡◌, ℕ, ◌-◌, ◌≤◌, length, List}
use Rattle.printed.specs.Printed.{Puts}
use Rattle.slip_printed.specs.SlipPrinted.{field_lines}
use Rattle.slip_printed.proofs.put_fields.Given as goal

abbrev pub invariant-loop-n : goal.invariant-loop-n
invariant-loop-n l = (length l.out ≡ length l.initial.out) × (l.next ≤ length l.out)
    × ((r : ℕ) (after : List ℕ) → Puts (field_lines l.s l.n (15 - l.n)) l.next l.out r after → Puts (field_lines l.s 3 12) l.at l.initial.out r after)
