-- `account::run_over` meets its contract. The loop's invariant: the sum leaves what the number of the digits so far does, and the place
-- before them is known. Assumes nothing.
use Rattle.refusal.proofs.Basics.{◌≡◌, arith, ◌≤◌, ◌<◌, ◌-◌, ◌*◌, ◌^◌, length, get_or, mul-le-mul_right, mod-lt}
use Rattle.std.proofs.lemmas.Iterator.Adapters.{YieldsList-from_rev_slice}
use Rattle.std.proofs.lemmas.Iterator.Consumers.{YieldsList-turn, YieldsList-end}
use Rattle.std.proofs.lemmas.List.{length_push, length-reverse}
use Rattle.classes.proofs.Laws.{digit_bounds}
use Rattle.account.proofs.Runs.{from_end, digit_at, run_starts, run_on, place_on}
use Rattle.account.proofs.run_over.Goals as goal
use Rattle.account.proofs.run_over.Goals.{In-Some}

-- this turn's byte is a digit, and its place and their product are small
turn : (c : In-Some) → let s = c.args.s.now in let n = length c.loop-b.yielded in let b = c.in-Some.b.now in
    ((n < length s) × (b ≡ get_or s (length s - 1 - n) 0)) × ((48 ≤ b) × (b ≤ 57)) × ((c.loop-b.at < 100) × ((b - 48) * c.loop-b.at ≤ 1000))
turn c = let s = c.args.s.now in
    let l = c.loop-b in
    let n = length l.yielded in
    let b = c.in-Some.b.now in
    let t = from_end s n b (YieldsList-turn (YieldsList-from_rev_slice s cc) l.yielded _ l.yielded_by _ _ c.in-Some.b c.in-Some.is c.next.ensures.steps) in
    let d = rw (← t.1) at (digit_bounds (get_or s (length s - 1 - n) 0) (digit_at s c.requires.0 (length s - 1 - n) (omega (arith, t.0)))) in
    let h : l.at < c.args.modulus = omega (arith, l.invariant.place, mod-lt (10 ^ n * c.args.place) {m = c.args.modulus} (omega (arith, c.requires))) in
    (t, d, (omega (arith, h, c.requires), omega (arith, h, c.requires, mul-le-mul_right {m = b - 48} {n = 9} l.at (omega (arith, d)))))

pub loop-b-init : goal.loop-b-init
loop-b-init c = let a = c.args in
    let t = run_starts a.modulus a.place a.s.now c.requires.1.1.0 in
    record { place = t.0; sum = t.1; small = omega arith }

pub loop-b-preserved : goal.loop-b-preserved
loop-b-preserved c = let a = c.args in
    let l = c.loop-b in
    let n = length l.yielded in
    let t = turn (goal.at.loop-b-preserved c).In-Some in
    rw (length_push l.yielded c.in-Some.b)
    (record {
      place = place_on a.modulus a.place n l.at l.invariant.place;
      sum = rw t.0.1 (run_on a.s.now c.requires.0 a.modulus a.place n l.at l.sum t.0.0 l.invariant.place l.invariant.sum);
      small = omega (arith, t.2.1, l.invariant.small);
    })

pub overflow_sub-sum : goal.overflow_sub-sum
overflow_sub-sum c = (turn (goal.at.overflow_sub-sum c).In-Some).1.0

pub returns : goal.returns
returns c = let s = c.args.s.now in
    let l = c.loop-b in
    let t = YieldsList-end (YieldsList-from_rev_slice s cc) l.yielded _ l.yielded_by _ _ c.in-None.is c.next.ensures.steps in
    let e : length l.yielded ≡ length s = omega (arith, t.1, length-reverse s) in
    let z : length s - length l.yielded ≡ 0 = omega (arith, e) in
    (rw z at l.invariant.sum, omega (arith, e, l.invariant.small, c.requires))
