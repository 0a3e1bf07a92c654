-- `fillings::list` meets its contract. `o` in each answer: the scan stopped at the first of the marks left. Assumes nothing.
use Rattle.refusal.proofs.Basics.{refl, sym, ◌∙◌, arith, ◌+◌, ◌<◌, set-set}
use Rattle.fillings.proofs.Laws.{first_mark, no_mark, block_dry, number_small, Open, first_before, one_fewer, digits_none, digits_more, digits_all, digits_fit, digits_place}
use Rattle.fillings.proofs.+list.Goals as goal

pub returns-then-left-eq0 : goal.returns-then-left-eq0
returns-then-left-eq0 t c = rw (block_dry _ _ _ (sym c.requires.1.0 ∙ c.if-left-eq0.true)) c.leaf.ensures

pub returns-in_default : goal.returns-in_default
returns-in_default t c = absurd (c.if-left-eq0.false (c.requires.1.0 ∙ no_mark _ (sym c.first_bad.ensures ∙ c.in_default.is)))

pub loop-d-init : goal.loop-d-init
loop-d-init t c = (λ b. refl, digits_none _ _ _ _ _ _)

pub bounds-w-i : goal.bounds-w-i
bounds-w-i t c =
    let o : Open c.args.t.now c.args.n c.in-Some.i c.args.left = record { first = first_mark _ _ (sym c.first_bad.ensures ∙ c.in-Some.is); all = c.requires.1.0; some = c.if-left-eq0.false } in
    omega (arith, c.requires.0, first_before o)

pub overflow_mul-number : goal.overflow_mul-number
overflow_mul-number t c = omega (arith, number_small c.args.number c.args.left c.requires.1.1.0)

pub overflow_add-number : goal.overflow_add-number
overflow_add-number t c = omega (arith, number_small c.args.number c.args.left c.requires.1.1.0)

pub list-next-requires : goal.list-next-requires
list-next-requires t c =
    let o : Open c.args.t.now c.args.n c.in-Some.i c.args.left = record { first = first_mark _ _ (sym c.first_bad.ensures ∙ c.in-Some.is); all = c.requires.1.0; some = c.if-left-eq0.false } in
    let l = c.loop-d in
    let small : l.d < 10 = omega arith in
    let number = c.args.number in
    (omega (arith, c.decreases, o.some), (c.requires.0, (rw (l.invariant.0 (48 + l.d)) (one_fewer o l.d small), (digits_fit o number l.d small c.requires.1.1.0, digits_place o _ number l.d c.requires.1.1.1 l.invariant.1))))

pub loop-d-preserved : goal.loop-d-preserved
loop-d-preserved t c =
    let o : Open c.args.t.now c.args.n c.in-Some.i c.args.left = record { first = first_mark _ _ (sym c.first_bad.ensures ∙ c.in-Some.is); all = c.requires.1.0; some = c.if-left-eq0.false } in
    let l = c.loop-d in
    (λ b. rw set-set (l.invariant.0 b), digits_more o _ c.args.number l.d (omega arith) l.invariant.1 (rw (l.invariant.0 (48 + l.d)) at c.list-next.ensures))

pub returns : goal.returns
returns t c =
    let o : Open c.args.t.now c.args.n c.in-Some.i c.args.left = record { first = first_mark _ _ (sym c.first_bad.ensures ∙ c.in-Some.is); all = c.requires.1.0; some = c.if-left-eq0.false } in
    let l = c.loop-d in
    digits_all o _ c.args.number l.d (omega arith) (omega arith) l.invariant.1
