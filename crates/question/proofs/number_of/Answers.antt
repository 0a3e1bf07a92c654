-- There are as many verbs as bars and one; the search stops at the first that is the same, passes any other, and ends with the last. Assumes nothing.
use Rattle.refusal.proofs.Basics.{◌≡◌, sym, ◌∙◌, arith, ◌+◌}
use Rattle.text.specs.Split.{split}
use Rattle.text.proofs.Pieces.{pieces_counted}
use Rattle.question.proofs.Laws.{count_within, place_here, place_on, place_none}
use Rattle.question.proofs.number_of.Goals as goal

pub overflow_add-n : goal.overflow_add-n
overflow_add-n c = omega (arith, c.count-n.ensures, count_within 124 c.args.verbs.now)

pub returns-then-eq : goal.returns-then-eq
returns-then-eq c =
    place_here c.args.verb.now (split 124 c.args.verbs.now) c.loop-k.k
    (omega (arith, c.count-n.ensures, pieces_counted 124 c.args.verbs.now))
    (rw c.field.ensures at (sym c.eq.ensures ∙ c.if-eq.true))
    ∙ sym c.loop-k.invariant

pub loop-k-preserved : goal.loop-k-preserved
loop-k-preserved c =
    c.loop-k.invariant
    ∙ place_on c.args.verb.now (split 124 c.args.verbs.now) c.loop-k.k
    (omega (arith, c.count-n.ensures, pieces_counted 124 c.args.verbs.now))
    (rw c.field.ensures at (sym c.eq.ensures ∙ c.if-eq.false))

pub returns : goal.returns
returns c =
    let e : c.count-n.result + 1 ≡ c.loop-k.k = omega arith in
    e
    ∙ place_none c.args.verb.now (split 124 c.args.verbs.now) c.loop-k.k
    (omega (arith, c.count-n.ensures, pieces_counted 124 c.args.verbs.now))
    ∙ sym c.loop-k.invariant
