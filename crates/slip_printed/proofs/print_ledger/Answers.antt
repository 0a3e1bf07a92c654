-- `slip_printed::print_ledger` meets its contract: the arm says what the slip is. Assumes nothing.
use Rattle.refusal.proofs.Basics.{sym, ap, ◌∙◌}
use Rattle.std.specs.Prelude.{Ok}
use Rattle.printed.proofs.Laws.{puts_then}
use Rattle.slip_printed.specs.SlipPrinted.{ledger_printed}
use Rattle.slip_printed.proofs.print_ledger.Goals as goal

pub returns-in-Ok-Euro : goal.returns-in-Ok-Euro
unfolding ledger_printed
returns-in-Ok-Euro c = rw (sym c.read.ensures ∙ (c.in-Ok-Euro.is ∙ ap Ok c.in-Ok-Euro.field-0-is)) c.put_accepted.ensures

pub returns-in-Ok-Kuna : goal.returns-in-Ok-Kuna
unfolding ledger_printed
returns-in-Ok-Kuna c = rw (sym c.read.ensures ∙ (c.in-Ok-Kuna.is ∙ ap Ok c.in-Ok-Kuna.field-0-is)) (puts_then c.put_accepted-next.ensures c.put_cents.ensures)

pub returns-in-Err : goal.returns-in-Err
unfolding ledger_printed
returns-in-Err c = rw (sym c.read.ensures ∙ c.in-Err.is) c.put_refused.ensures
