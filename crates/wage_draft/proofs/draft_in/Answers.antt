-- `wage_draft::draft_in` meets its contract: what is left to be drafted is the whole draft. Assumes nothing.
use Rattle.refusal.proofs.Basics.{◌≡◌, ◌∙◌, arith, ◌+◌, ◌-◌}
use Rattle.std.proofs.lemmas.Result.{err_from_is_err_and}
use Rattle.wage_places.specs.Places.{spots}
use Rattle.wage_draft.proofs.Laws.{draft_on, draft_stops}
use Rattle.lent_fields.proofs.Laws.{field_ends}
use Rattle.wage_draft.proofs.draft_in.Goals as goal

pub loop-k-preserved : goal.loop-k-preserved
loop-k-preserved c = let a = c.args in
    let l = c.loop-k in
    let e = field_ends a.text.now l.at _ _ (omega arith) (rw c.size_at.ensures at c.end_of-end.ensures) in
    let n : l.k + 1 - a.first ≡ l.k - a.first + 1 = omega arith in
    (e.within, l.invariant.1 ∙ rw n (draft_on _ _ a.t (spots a.t) a.last l.k a.sizes.now (l.k - a.first) _ _ _ _ e (omega arith) (omega (arith, c.count-count.ensures)) _ _ c.place.ensures c.in_ok-place.was))

pub returns-in_err-place : goal.returns-in_err-place
returns-in_err-place c = let a = c.args in
    let l = c.loop-k in
    let e = field_ends a.text.now l.at _ _ (omega arith) (rw c.size_at.ensures at c.end_of-end.ensures) in
    let p = err_from_is_err_and c.from_residual.result c.from_residual.ensures.1 in
    rw (p.1, p.2, l.invariant.1) (draft_stops _ _ a.t (spots a.t) a.last l.k a.sizes.now (l.k - a.first) _ _ _ _ e (omega arith) (omega (arith, c.count-count.ensures)) _ _ c.place.ensures _ c.in_err-place.was)
