-- `account::run_over` meets its contract. The loop's invariant: the sum leaves what the number of the digits so far does, and the place
-- before them is known. Assumes nothing.
use Rattle.refusal.proofs.Basics.{◌≡◌, ◌≤◌, ◌-◌, ◌*◌, ◌^◌, ◌%◌, length, drop}
use Rattle.text.specs.Digits.{digits_of, value_of}
use Rattle.account.proofs.run_over.Given as goal

abbrev pub invariant-loop-b : goal.invariant-loop-b
invariant-loop-b l = record {
  place : l.at ≡ 10 ^ length l.yielded * l.place % l.modulus;
  sum : l.sum % l.modulus ≡ value_of (digits_of (drop (length l.s - length l.yielded) l.s)) * l.place % l.modulus;
  small : l.sum ≤ 1000 * length l.yielded;
}
