-- `running_total::growth` meets its contract: the arm says what the type is. Assumes nothing.
use Rattle.refusal.proofs.Basics.{sym, ◌∙◌}
use Rattle.running_total.specs.RunningTotal.{growth_in}
use Rattle.running_total.proofs.growth.Goals as goal

pub returns-in-Ok : goal.returns-in-Ok
unfolding growth_in
returns-in-Ok c = rw (sym c.read_type.ensures ∙ c.in-Ok.is) c.growth.ensures

pub returns-in-Err : goal.returns-in-Err
unfolding growth_in
returns-in-Err c = rw (sym c.read_type.ensures ∙ c.in-Err.is)
