-- `worked_out::total` meets its contract. The loop's invariant: the whole sum is `sum` with the amounts of the lines that are left. Assumes nothing.
use Rattle.refusal.proofs.Basics.{◌≡◌, refl, sym, ◌∙◌, ◌+◌}
use Rattle.std.specs.Slice.Iter.{chunks_rest}
use Rattle.sums.specs.Sums.{cents_of, number_in}
use Rattle.sums.proofs.Laws.{no_cents_lem}
use Rattle.wage_places.specs.declared.LineType.TheVariants.{Order}
use Rattle.wage_places.specs.Places.{part_of}
use Rattle.wage_line.specs.Pieces.{pieces}
use Rattle.worked_out.specs.Amounts.{amounts}
use Rattle.worked_out.proofs.Laws.{kept, amounts_first, amounts_on, amounts_end}
use Rattle.worked_out.proofs.total.Goals as goal

pub loop-line-init : goal.loop-line-init
loop-line-init c =
    rw (c.into_iter-line-iterator.ensures.into_iter_gives, c.chunks-line-items.ensures.rest, c.chunks-line-items.ensures.size, c.nothing-sum.ensures)
    (record { size = refl; whole = amounts_first (amounts (pieces c.args.s.now)); kept = sym (no_cents_lem 100) })

pub loop-line-preserved : goal.loop-line-preserved
loop-line-preserved c = let l = c.loop-line in
    let line = c.in-Some.line.now in
    let n = c.in-Some.ensures.steps in
    let x = number_in (part_of Order 10 line) in
    let e : c.number.result ≡ x = c.number.ensures ∙ rw (c.part.ensures, c.find-amount.ensures) refl in
    rw (c.add-sum.ensures, e)
    (record {
      size = n.0 ∙ l.invariant.size;
      whole = l.invariant.whole ∙ amounts_on l.sum (chunks_rest l.line-iterator) line (chunks_rest c.next.new.self) n.1.0 (rw l.invariant.size at n.1.1) n.1.2;
      kept = kept (cents_of l.sum + x);
    })

pub returns : goal.returns
returns c = let l = c.loop-line in
    sym (l.invariant.whole ∙ amounts_end l.sum (chunks_rest l.line-iterator) c.in-None.ensures.steps.1.0 ∙ l.invariant.kept)
