-- `parts::parts` meets its contract: of no byte the definition's choice on the fewest parts, nothing in a text that is too long, and else
-- what the readers read, where there are as many parts as the model asks. Assumes nothing.
use Rattle.refusal.proofs.Basics.{◌≡◌, refl, ◌∙◌, rules, arith, ◌≤◌, length, eq-eqb, ne_eqb, taken, left}
use Rattle.parts.proofs.Pieces.{Bytes}
use Rattle.parts.proofs.Laws.{found_empty, found_read, found_far}
use Rattle.parts.proofs.parts.Goals as goal

pub returns-then-s-eq0 : goal.returns-then-s-eq0
returns-then-s-eq0 c = c.then_some.ensures ∙ found_empty c.args.model c.args.s.now c.if-s-eq0.true

pub returns-then-s-gt1023 : goal.returns-then-s-gt1023
returns-then-s-gt1023 c =
    let bytes : Bytes c.args.model.lengths = λ i. search rules in
    let eight : length c.args.model.lengths ≤ 8 = let e : length c.args.model.lengths ≡ 8 = search rules in omega arith in
    found_far c.args.model c.args.s.now (bytes) (eight) c.if-s-gt1023.true

pub returns-then-ends-eq0 : goal.returns-then-ends-eq0
returns-then-ends-eq0 c = let a = c.args in
    taken _ _ _ (eq-eqb _ 0 c.if-ends-eq0.true) ∙ found_read a.model a.s.now c.part-ends.result c.if-s-eq0.false (omega arith) c.part-ends.ensures

pub returns : goal.returns
returns c = let a = c.args in
    c.then_some-2.ensures ∙ rw (c.count_fits.ensures, c.wide.ensures, c.wide-2.ensures) (left _ _ _ _ (ne_eqb _ 0 c.if-ends-eq0.false) refl)
    ∙ found_read a.model a.s.now c.part-ends.result c.if-s-eq0.false (omega arith) c.part-ends.ensures
