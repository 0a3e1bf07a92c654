-- `lent_fields::text_behind` meets its contract: what the loop went through is the first sizes. Assumes nothing.
use Rattle.refusal.proofs.Basics.{refl, ap, ◌∙◌, arith, map, drop}
use Rattle.std.proofs.lemmas.List.{map_push}
use Rattle.std.proofs.lemmas.Iterator.{YieldsList-from_slice, YieldsList-from_take}
use Rattle.std.proofs.lemmas.Iterator.Consumers.{YieldsList-at, YieldsList-end}
use Rattle.text.proofs.Laws.{to_the_end}
use Rattle.lent_fields.specs.Fields.{behind}
use Rattle.lent_fields.proofs.Laws.{behind_more, field_ends}
use Rattle.lent_fields.proofs.text_behind.Goals as goal

pub loop-size-init : goal.loop-size-init
unfolding behind
loop-size-init c = (omega arith, refl)

pub loop-size-preserved : goal.loop-size-preserved
loop-size-preserved c = let text = c.args.text.now in
    let l = c.loop-size in
    let n = c.in-Some.size.now in
    let e = field_ends text l.at n c.end_of-at.result (omega arith) c.end_of-at.ensures in
    (e.within, e.rest ∙ ap (drop n) l.invariant.1 ∙ rw (map_push (λ n. n.now) l.yielded c.in-Some.size, behind_more (map (λ n. n.now) l.yielded) n text))

pub returns : goal.returns
returns c = let text = c.args.text.now in
    let l = c.loop-size in
    let first = YieldsList-from_take c.args.fields (YieldsList-from_slice c.args.sizes.now cc) c.take-size-items.ensures.count in
    let seen = YieldsList-end (YieldsList-at c.into_iter-size-iterator.ensures.into_iter_gives first) l.yielded _ l.yielded_by _ _ c.in-None.is c.next.ensures.steps in
    to_the_end l.at text ∙ l.invariant.1 ∙ ap (λ ns. behind ns text) seen.0
