-- `wet::list_model` meets its contract: 7, else the listing by what is found of one filling. Assumes nothing.
use Rattle.refusal.proofs.Basics.{not-false}
use Rattle.wet.proofs.Accepts.{reference_listed}
use Rattle.wet.proofs.list_model.Goals as goal

pub returns : goal.returns
returns c = let a = c.args in
    reference_listed a.model a.s.now a.out.now _ _ (not-false a.model.handled c.if-not-model.false) c.requires.0 c.requires.1 (rw c.aimed.ensures at c.list_into.ensures)
