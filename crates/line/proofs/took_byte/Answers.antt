-- `line::took_byte` meets its contract: each return is the definition's choice on the tests that led there. Assumes nothing.
use Rattle.refusal.proofs.Basics.{◌∙◌, eq-eqb, ne_eqb}
use Rattle.line.specs.Mirror.{kept_of}
use Rattle.line.proofs.Laws.{took_ended, took_feed, took_behind, took_space, took_ahead}
use Rattle.line.proofs.took_byte.Goals as goal

pub returns-then-seen : goal.returns-then-seen
returns-then-seen c = let a = c.args in
    took_ended (kept_of a.seen a.head.now a.tail.now) a.b c.if-seen.true

pub returns-then-b-eq10 : goal.returns-then-b-eq10
returns-then-b-eq10 c = let a = c.args in
    took_feed (kept_of a.seen a.head.now a.tail.now) a.b c.if-seen.false (eq-eqb _ _ c.if-b-eq10.true)

pub returns-then-seen-2 : goal.returns-then-seen-2
returns-then-seen-2 c = let a = c.args in
    c.took_tail.ensures a.head.now
    ∙ took_behind (kept_of a.seen a.head.now a.tail.now) a.b c.if-seen.false (ne_eqb _ _ c.if-b-eq10.false) c.if-seen-2.true

pub returns-then-b-eq32 : goal.returns-then-b-eq32
returns-then-b-eq32 c = let a = c.args in
    took_space (kept_of a.seen a.head.now a.tail.now) a.b c.if-seen.false (ne_eqb _ _ c.if-b-eq10.false) c.if-seen-2.false (eq-eqb _ _ c.if-b-eq32.true)

pub returns : goal.returns
returns c = let a = c.args in
    c.took_head.ensures a.tail.now
    ∙ took_ahead (kept_of a.seen a.head.now a.tail.now) a.b c.if-seen.false (ne_eqb _ _ c.if-b-eq10.false) c.if-seen-2.false (ne_eqb _ _ c.if-b-eq32.false)
