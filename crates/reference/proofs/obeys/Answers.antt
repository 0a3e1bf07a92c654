-- `reference::obeys` meets its contract: what is found is judged by its groups, and what is not does not obey. Assumes nothing.
use Rattle.refusal.proofs.Basics.{◌≡◌, sym, ◌∙◌, rules, arith, ◌≤◌, length}
use Rattle.parts.proofs.Pieces.{Bytes, formed_short}
use Rattle.parts.proofs.Laws.{found_formed}
use Rattle.reference.proofs.Laws.{found_obeys}
use Rattle.reference.proofs.obeys.Goals as goal

pub returns-in-Some : goal.returns-in-Some
returns-in-Some c =
    let bytes : Bytes c.args.model.lengths = λ i. search rules in
    let eight : length c.args.model.lengths ≤ 8 = let e : length c.args.model.lengths ≡ 8 = search rules in omega arith in
    let a = c.args in
    let f = sym c.in-Some.is ∙ c.parts.ensures in
    found_obeys a.model a.s.now _ f c.obeys_at.result (formed_short a.model a.s.now (bytes) (eight) (found_formed a.model a.s.now _ f).0) c.obeys_at.ensures
