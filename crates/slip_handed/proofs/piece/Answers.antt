-- `slip_handed::piece` meets its contract: a line feed leaves one piece fewer, and past the last there is none. Assumes nothing.
use Rattle.refusal.proofs.Basics.{◌≡◌, sym, ◌∙◌, arith, ◌+◌, ◌-◌}
use Rattle.text.proofs.Pieces.{next_piece_lem}
use Rattle.slip_handed.proofs.Laws.{behind_none, piece_again, piece_none, piece_here}
use Rattle.slip_handed.proofs.piece.Goals as goal

pub loop-init : goal.loop-init
loop-init c = (omega arith, let e : c.args.k - 0 ≡ c.args.k = omega arith in rw e (behind_none _))

pub overflow_add-at : goal.overflow_add-at
overflow_add-at c = omega (arith, (next_piece_lem c.args.s.now c.loop.at c.in-Some.i (omega arith) (sym c.first_bad.ensures ∙ c.in-Some.is)).0)

pub overflow_add-at-in-Some : goal.overflow_add-at-in-Some
overflow_add-at-in-Some c = omega (arith, (next_piece_lem c.args.s.now c.loop.at c.in-Some.i (omega arith) (sym c.first_bad.ensures ∙ c.in-Some.is)).0)

pub loop-preserved : goal.loop-preserved
loop-preserved c = let s = c.args.s.now in
    let l = c.loop in
    let e = sym c.first_bad.ensures ∙ c.in-Some.is in
    let k : c.args.k - (l.counter + 1) ≡ c.args.k - l.counter - 1 = omega arith in
    (omega (arith, (next_piece_lem s l.at _ (omega arith) e).0), rw k (l.invariant.1 ∙ piece_again s l.at (c.args.k - l.counter) _ (omega arith) e))

pub returns-in-None : goal.returns-in-None
returns-in-None c = let l = c.loop in
    piece_none c.args.s.now l.at (c.args.k - l.counter) (omega arith) (sym c.first_bad.ensures ∙ c.in-None.is) ∙ sym l.invariant.1

pub returns : goal.returns
returns c = let l = c.loop in
    piece_here c.args.s.now l.at (c.args.k - l.counter) _ (omega arith) c.first_length.ensures ∙ sym l.invariant.1
