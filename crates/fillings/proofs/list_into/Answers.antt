-- `fillings::list_into` meets its contract: 1 and 16 first; then nothing where no filling mends the form, else the count is that of all fillings,
-- and they are written where there is room: room for ten thousand is room for all. Assumes nothing.
use Rattle.refusal.proofs.Basics.{refl, arith, ◌≤◌, length}
use Rattle.text.specs.Bytes.{marks}
use Rattle.fillings.specs.Mirror.{accepts}
use Rattle.fillings.specs.Fillings.{fillings}
use Rattle.fillings.proofs.Laws.{fillings_fit, written_all, room_refused, room_counted, all_listed, none_listed}
use Rattle.fillings.proofs.list_into.Goals as goal

pub returns-in-Unmendable : goal.returns-in-Unmendable
returns-in-Unmendable c =
    let short : length (c.args.s.now) ≤ 22 = omega (arith, c.if-n-gt22.false) in
    let few : marks (c.args.s.now) ≤ 4 = omega (arith, c.count-left.ensures, c.if-left-gt4.false) in
    let a = c.args in
    rw c.in-Unmendable.is (none_listed (c.args.s.now) (short) (few) a.out.now)

pub returns-then-out-ge10000 : goal.returns-then-out-ge10000
returns-then-out-ge10000 c =
    let short : length (c.args.s.now) ≤ 22 = omega (arith, c.if-n-gt22.false) in
    let few : marks (c.args.s.now) ≤ 4 = omega (arith, c.count-left.ensures, c.if-left-gt4.false) in
    let a = c.args in
    let w = written_all (accepts a.aim) (c.args.s.now) _ c.held-t.ensures c.list.ensures in
    all_listed (c.args.s.now) (short) (few) (accepts a.aim) a.out.now _ _
    (room_counted (fillings (accepts a.aim) (c.args.s.now)) a.out.now _ _ _ w.counted w (omega (arith, fillings_fit (accepts a.aim) (c.args.s.now) (few), c.if-out-ge10000.true)))

pub returns-then-count-out : goal.returns-then-count-out
returns-then-count-out c =
    let short : length (c.args.s.now) ≤ 22 = omega (arith, c.if-n-gt22.false) in
    let few : marks (c.args.s.now) ≤ 4 = omega (arith, c.count-left.ensures, c.if-left-gt4.false) in
    let a = c.args in
    let w = written_all (accepts a.aim) (c.args.s.now) _ c.held-t.ensures c.list-count.ensures in
    all_listed (c.args.s.now) (short) (few) (accepts a.aim) a.out.now _ _
    (room_refused (fillings (accepts a.aim) (c.args.s.now)) _ _ _ w.counted c.if-count-out.true c.nowhere-then-count-out.ensures, refl)

pub returns : goal.returns
returns c =
    let short : length (c.args.s.now) ≤ 22 = omega (arith, c.if-n-gt22.false) in
    let few : marks (c.args.s.now) ≤ 4 = omega (arith, c.count-left.ensures, c.if-left-gt4.false) in
    let a = c.args in
    let v = written_all (accepts a.aim) (c.args.s.now) _ c.held-t.ensures c.list-count.ensures in
    let w = written_all (accepts a.aim) (c.args.s.now) _ c.held-t.ensures c.list-2.ensures in
    all_listed (c.args.s.now) (short) (few) (accepts a.aim) a.out.now _ _
    (room_counted (fillings (accepts a.aim) (c.args.s.now)) a.out.now _ _ _ v.counted w (omega (arith, v.counted, c.if-count-out.false)))
