-- `sums::number` meets its contract. The loop's invariant: `v` is the number of the bytes up to here. Assumes nothing.
use Rattle.refusal.proofs.Basics.{refl, ap, ◌∙◌, arith, length, length-take, map, [], ◌∷◌}
use Rattle.std.proofs.lemmas.Iterator.{YieldsList-from_take, YieldsList-from_slice}
use Rattle.std.proofs.lemmas.Iterator.Consumers.{YieldsList-turn, YieldsList-end}
use Rattle.std.proofs.lemmas.List.{length_push, map-append}
use Rattle.text.specs.Digits.{digits_of, value_from}
use Rattle.text.proofs.Laws.{digits_append, value_append}
use Rattle.text.proofs.Values.{value_grows, value_small}
use Rattle.sums.specs.Sums.{number_of}
use Rattle.sums.proofs.number.Goals as goal

pub loop-b-init : goal.loop-b-init
unfolding value_from digits_of
loop-b-init c = (omega arith, refl)

pub longer-v-requires : goal.longer-v-requires
longer-v-requires c = let l = c.loop-b in
    let t = YieldsList-turn (YieldsList-from_take 18 (YieldsList-from_slice c.args.s.now cc) cc) l.yielded _ l.yielded_by _ _ c.in-Some.b c.in-Some.is c.next.ensures.steps in
    value_small l.v (length l.yielded) (omega (arith, t.0, length-take 18 c.args.s.now)) l.invariant.0

pub loop-b-preserved : goal.loop-b-preserved
loop-b-preserved c = let l = c.loop-b in
    let b = c.in-Some.b.now in
    let before = map (λ b. b.now) l.yielded in
    let e = ap (value_from 0) (digits_append before (b ∷ [])) ∙ value_append 0 (digits_of before) (digits_of (b ∷ [])) in
    rw (c.longer-v.ensures, length_push l.yielded c.in-Some.b, map-append (λ b. b.now) l.yielded (c.in-Some.b ∷ []), e, ← l.invariant.1)
    (value_grows l.v _ (length l.yielded) l.invariant.0, refl)

pub returns : goal.returns
returns c = let l = c.loop-b in
    let t = YieldsList-end (YieldsList-from_take 18 (YieldsList-from_slice c.args.s.now cc) cc) l.yielded _ l.yielded_by _ _ c.in-None.is c.next.ensures.steps in
    l.invariant.1 ∙ ap number_of t.0
