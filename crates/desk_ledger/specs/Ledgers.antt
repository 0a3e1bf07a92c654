-- What the call of a slip of either currency tells at the boundary.
use Rattle.boundary.specs.Told.{accepted, refusal}
use Rattle.units.specs.Units.{lipa_in_cents}
use Rattle.std.specs.Prelude.{Result, Ok, Err}
use Rattle.refusal.specs.declared.Refusal.{Refusal}
use Rattle.ledger_slip.specs.declared.Amount.{Amount}
use Rattle.ledger_slip.specs.declared.Amount.TheVariants.{Euro, Kuna}
use Rattle.desk_ledger.specs.declared.Ledger.{Ledger}

-- currency 1 is euro, 2 is kuna; a unit that a slip does not have is 0, and a refusal has neither
unfoldable pub ledger_told : Result Amount Refusal → Ledger
ledger_told (Ok (Euro c)) = record { told = accepted; currency = 1; cents = c.number; lipa = 0; converted = 0 }
ledger_told (Ok (Kuna l)) = record { told = accepted; currency = 2; cents = 0; lipa = l.number; converted = lipa_in_cents l.number }
ledger_told (Err r) = record { told = refusal r; currency = 0; cents = 0; lipa = 0; converted = 0 }
