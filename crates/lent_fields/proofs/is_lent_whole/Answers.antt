-- `lent_fields::is_lent_whole` meets its contract: the loop goes through the first sizes. Assumes nothing.
use Rattle.refusal.proofs.Basics.{◌≡◌, arith, ◌+◌, length, take, drop}
use Rattle.std.proofs.lemmas.List.{at_drop_all, length_push}
use Rattle.std.proofs.lemmas.Bool.Decides.{nat_tests}
use Rattle.std.proofs.lemmas.Iterator.{YieldsList-from_slice, YieldsList-from_take}
use Rattle.std.proofs.lemmas.Iterator.Consumers.{YieldsList-at, YieldsList-turn, YieldsList-end}
use Rattle.lent_fields.specs.Fields.{lent_whole, together}
use Rattle.lent_fields.proofs.Laws.{together_from}
use Rattle.lent_fields.proofs.is_lent_whole.Goals as goal

pub returns-then-left-size : goal.returns-then-left-size
unfolding lent_whole
returns-then-left-size c =
    let l = c.loop-size in
    let ns = take c.args.fields c.args.sizes.now in
    let i = length l.yielded in
    let n = c.in-Some.size.now in
    let e : together (drop i ns) ≡ n + together (drop (i + 1) ns) = together_from ns i n (YieldsList-turn (YieldsList-at c.into_iter-size-iterator.ensures.into_iter_gives (YieldsList-from_take c.args.fields (YieldsList-from_slice c.args.sizes.now cc) c.take-size-items.ensures.count)) l.yielded _ l.yielded_by _ _ c.in-Some.size c.in-Some.is c.next.ensures.steps) in
    grind (arith, nat_tests)

pub loop-size-preserved : goal.loop-size-preserved
loop-size-preserved c =
    let l = c.loop-size in
    let ns = take c.args.fields c.args.sizes.now in
    let i = length l.yielded in
    let n = c.in-Some.size.now in
    let e : together (drop i ns) ≡ n + together (drop (i + 1) ns) = together_from ns i n (YieldsList-turn (YieldsList-at c.into_iter-size-iterator.ensures.into_iter_gives (YieldsList-from_take c.args.fields (YieldsList-from_slice c.args.sizes.now cc) c.take-size-items.ensures.count)) l.yielded _ l.yielded_by _ _ c.in-Some.size c.in-Some.is c.next.ensures.steps) in
    rw (length_push l.yielded c.in-Some.size) (omega arith)

pub returns : goal.returns
unfolding lent_whole together
returns c =
    let l = c.loop-size in
    let ns = take c.args.fields c.args.sizes.now in
    let i = length l.yielded in
    let e : together (drop i ns) ≡ 0 = at_drop_all together ns i (omega (arith, (YieldsList-end (YieldsList-at c.into_iter-size-iterator.ensures.into_iter_gives (YieldsList-from_take c.args.fields (YieldsList-from_slice c.args.sizes.now cc) c.take-size-items.ensures.count)) l.yielded _ l.yielded_by _ _ c.in-None.is c.next.ensures.steps).1)) in
    grind (arith, nat_tests)
