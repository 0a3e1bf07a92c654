-- `wage_places::find_in` meets its contract: the search stops at the first place of the field. Assumes nothing.
use Rattle.refusal.proofs.Basics.{refl, sym, ◌∙◌, arith, get_or}
use Rattle.wage_places.specs.Places.{no_spot}
use Rattle.wage_places.proofs.Laws.{find_stops}
use Rattle.wage_places.proofs.find_in.Goals as goal

pub returns-then-p-field : goal.returns-then-p-field
returns-then-p-field c =
    let a = c.args in
    let l = c.loop-p in
    find_stops a.field a.places.now l.p-index (get_or a.places.now l.p-index no_spot) (omega arith) refl c.if-p-field.true ∙ sym l.invariant
