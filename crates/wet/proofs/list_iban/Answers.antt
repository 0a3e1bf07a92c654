-- `wet::list_iban` meets its contract: each refusal is the definition's choice on the tests that led there, and the listing over what is
-- asked of each filling is that over all that the rules ask. Assumes nothing.
use Rattle.refusal.proofs.Basics.{sym, ◌∙◌, not-false}
use Rattle.wet.proofs.Accepts.{iban_listed}
use Rattle.wet.proofs.list_iban.Goals as goal

pub returns : goal.returns
returns c = iban_listed _ _ _ _ c.if-s-ne21.false
    (sym c.is_wet_iban.ensures ∙ not-false _ c.if-not-is_wet_iban.false-raw)
    c.list_into.ensures
