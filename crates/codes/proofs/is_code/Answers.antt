-- `codes::is_code` meets its contract: a code is what is found. Assumes nothing.
use Rattle.refusal.proofs.Basics.{sym, ◌∙◌}
use Rattle.codes.specs.Codes.{is_code}
use Rattle.codes.proofs.is_code.Goals as goal

pub returns-in-Some : goal.returns-in-Some
unfolding is_code
returns-in-Some c = rw (sym c.place.ensures ∙ c.in-Some.is)

pub returns-in-None : goal.returns-in-None
unfolding is_code
returns-in-None c = rw (sym c.place.ensures ∙ c.in-None.is)
