-- Document 02, W5, the running total: what is promised of the call `lanecockle_judge_step_tally`, alone and in runs that begin at zero, and of the
-- file's own total in the judge's record. Assumes nothing.
use Rattle.refusal.proofs.Basics.{◌≡◌, refl, sym, ap, ◌∙◌, arith, ℕ, ◌≤◌, ◌*◌, List, [], Bool, true, false, eqb, ne_eqb, eqb-true, le-ltb, false≢true, ◌↔◌}
use Rattle.refusal.specs.Refusal.{refusal_number}
use Rattle.refusal.specs.declared.Refusal.{Refusal}
use Rattle.sums.specs.Sums.{limb, cents_of}
use Rattle.tally.specs.declared.Tally.{Tally}
use Rattle.tally.specs.Tally.{is_within, grown}
use Rattle.tally.proofs.Laws.{within_small}
use Rattle.worked_out.specs.Amounts.{amounts}
use Rattle.condition.specs.declared.Condition.{Condition}
use Rattle.condition.specs.declared.Condition.TheVariants as condition
use Rattle.condition.specs.declared.Judge.{Judge}
use Rattle.condition.specs.Record.{stage_of, is_refused, refused_with, at_line, beyond, next_line, is_sound, begun}
use Rattle.condition.proofs.Laws.{sound_within}
use Rattle.judge.specs.Judge.{stepped, steps}
use Rattle.judge.proofs.Theorems.{not_made_is_17, begun_never_29}
use Rattle.running_total.specs.declared.Tallied.{Tallied}
use Rattle.running_total.specs.RunningTotal.{growth_in, tallied, tallied_all}
use Rattle.running_total.specs.AllOrders.{is_order, among, tally_in}
use Rattle.running_total.proofs.Theorems.{judge_first, overfull_is_29, brought_up, refused_leaves, all_and_one}
use Rattle.running_total.proofs.FromZero.{from_zero, from_zero_same_judge, from_zero_tally, from_zero_cents}
use Rattle.boundary.specs.Told.{refusal}
use Rattle.desk_record.specs.declared.Record.{Record}
use Rattle.desk_record.specs.Record.{condition_told, judge_of, record_of}
use Rattle.desk_record.proofs.Theorems.{record_told_back}
use Rattle.desk_judge.specs.Wages.{ended_of}
use Rattle.desk_tally.specs.Tallied.{tallied_of}
use Rattle.promises.specs.Calls.{EveryJudgeStep, EveryJudgeStepTally, EveryJudgeEnd}
use Rattle.promises.specs.RunningTotals.{Run}

-- ---------------------------------------------------------------------------
-- One call

-- a record's condition is 4 exactly when its judge is refused
refused_number : (j : Judge) → (record_of j).condition ≡ 4 → is_refused j.condition ≡ true
unfolding record_of
refused_number j e = rw e

unrefused_number : (j : Judge) → ((record_of j).condition ≡ 4 → ⊥) → is_refused j.condition ≡ false
unfolding record_of
unrefused_number j e = ne_eqb (stage_of j.condition) 4 e

-- an unrefused judge tells no refusal
tells_none : (j : Judge) → is_refused j.condition ≡ false → (record_of j).told.number ≡ 0
unfolding record_of
tells_none j e = rw e

-- and one refused with 29 tells it
number_29 : (j : Judge) → (record_of (refused_with (at_line 29 (next_line j)) j)).told.number ≡ 29
unfolding record_of
number_29 j = refl

-- and one that is not refused with it does not
tells_no_29 : (j : Judge) → ((r : Refusal) → j.condition ≡ condition.Refused r → refusal_number r ≡ 29 → ⊥) → (record_of j).told.number ≡ 29 → ⊥
unfolding record_of
tells_no_29 j f e = go j.condition refl e
  where
    go : (c : Condition) → j.condition ≡ c → (condition_told c).number ≡ 29 → ⊥
    go condition.Fresh g h = let z : ◌≡◌ {A = ℕ} 0 29 = h in omega arith
    go condition.Labelled g h = let z : ◌≡◌ {A = ℕ} 0 29 = h in omega arith
    go condition.Grouped g h = let z : ◌≡◌ {A = ℕ} 0 29 = h in omega arith
    go condition.Closed g h = let z : ◌≡◌ {A = ℕ} 0 29 = h in omega arith
    go (condition.Refused r) g h = f r g h

-- what is no 4
not_four : (n : ℕ) → eqb n 4 ≡ false → n ≡ 4 → ⊥
not_four n h i = false≢true (sym h ∙ ap (λ (m : ℕ). eqb m 4) i)

module _ (r : Record) (line : List ℕ) (t : Tally) where
  abbrev next : Judge
  next = stepped (judge_of r) line

  abbrev given : Tallied
  given = tallied (judge_of r) line t

  -- what the call tells is what the step gives
  told_record : (tallied_of r line t).«record» ≡ record_of given.judge
  unfolding tallied_of
  told_record = refl

  told_tally : (tallied_of r line t).tally ≡ given.tally
  unfolding tallied_of
  told_tally = refl

-- "A refused line leaves it as it stood"
pub step_tally_refused_leaves : EveryJudgeStepTally (λ r line t r' t'. r'.condition ≡ 4 → t' ≡ t)
step_tally_refused_leaves κs a z w call e =
    let r = a.0 in
    let line = a.1.0.now in
    let t = a.1.1.0.now in
    let j = (given r line t).judge in
    call.1 ∙ (told_tally r line t ∙ refused_leaves (judge_of r) line t (refused_number j (ap (λ (x : Record). x.condition) (sym (call.0 ∙ told_record r line t)) ∙ e)))

-- a line that a step without a tally refuses is refused with one as without, whatever the tally
pub step_tally_judge_first :
    EveryJudgeStepTally (λ r line t r' t'. EveryJudgeStep (λ r₁ line₁ k. r₁ ≡ r → line₁ ≡ line → k.condition ≡ 4 → (r' ≡ k) × (t' ≡ t)))
step_tally_judge_first κs a z w call κs1 a1 k w1 step sameRecord sameLine e =
    let r = a.0 in
    let line = a.1.0.now in
    let t = a.1.1.0.now in
    let same : k ≡ record_of (next r line t) = rw (step, sameRecord, sameLine) refl in
    let first = judge_first (judge_of r) line t (refused_number (next r line t) (ap (λ (x : Record). x.condition) (sym same) ∙ e)) in
    (call.0 ∙ (told_record r line t ∙ (ap (λ (x : Tallied). record_of x.judge) first ∙ sym same)), call.1 ∙ (told_tally r line t ∙ ap (λ (x : Tallied). x.tally) first))

-- any other is 29, the record else as it stood and the tally too, exactly when it would leave the tally beyond its limits; else the record is
-- that of a step without a tally, and the tally has what the line adds
pub step_tally_29_exactly :
    EveryJudgeStepTally (λ r line t r' t'. EveryJudgeStep (λ r₁ line₁ k. r₁ ≡ r → line₁ ≡ line → (k.condition ≡ 4 → ⊥) →
    ((r'.told.number ≡ 29) ↔ (is_within (grown t (growth_in line)) ≡ false))
    × ((is_within (grown t (growth_in line)) ≡ false → r' ≡ record_of (refused_with (at_line 29 (next_line (judge_of r))) (judge_of r)))
    × (is_within (grown t (growth_in line)) ≡ true → (r' ≡ k) × (t' ≡ grown t (growth_in line))))))
step_tally_29_exactly κs a z w call κs1 a1 k w1 step sameRecord sameLine e =
    let r = a.0 in
    let line = a.1.0.now in
    let t = a.1.1.0.now in
    let same : k ≡ record_of (next r line t) = rw (step, sameRecord, sameLine) refl in
    let takes : is_refused (next r line t).condition ≡ false = unrefused_number (next r line t) (λ f. e (ap (λ (x : Record). x.condition) same ∙ f)) in
    let answer : z ≡ record_of (given r line t).judge = call.0 ∙ told_record r line t in
    let over = overfull_is_29 (judge_of r) line t takes in
    let up = brought_up (judge_of r) line t takes in
    let refused : is_within (grown t (growth_in line)) ≡ false → z ≡ record_of (refused_with (at_line 29 (next_line (judge_of r))) (judge_of r)) =
    λ f. answer ∙ ap (λ (x : Tallied). record_of x.judge) (over f) in
    let none : is_within (grown t (growth_in line)) ≡ true → z.told.number ≡ 0 =
    λ f. ap (λ (x : Record). x.told.number) (answer ∙ ap (λ (x : Tallied). record_of x.judge) (up f)) ∙ tells_none (next r line t) takes in (
      (
        number_beyond (is_within (grown t (growth_in line))) refl none,
        (λ (f : is_within (grown t (growth_in line)) ≡ false). ap (λ (x : Record). x.told.number) (refused f) ∙ number_29 (judge_of r)),
      ),
      (
        refused,
        (λ (f : is_within (grown t (growth_in line)) ≡ true). (answer ∙ (ap (λ (x : Tallied). record_of x.judge) (up f) ∙ sym same), call.1 ∙ (told_tally r line t ∙ ap (λ (x : Tallied). x.tally) (up f)))),
      ),
    )
  where
    number_beyond : (b : Bool) → is_within (grown a.1.1.0.now (growth_in a.1.0.now)) ≡ b → (is_within (grown a.1.1.0.now (growth_in a.1.0.now)) ≡ true → z.told.number ≡ 0) → z.told.number ≡ 29 → is_within (grown a.1.1.0.now (growth_in a.1.0.now)) ≡ false
    number_beyond true f none g = let zero = none f in absurd (omega arith)
    number_beyond false f none g = f

-- where 29 does not come, the judge is the one of a step without a tally
pub step_tally_same_judge :
    EveryJudgeStepTally (λ r line t r' t'. EveryJudgeStep (λ r₁ line₁ k. r₁ ≡ r → line₁ ≡ line → (r'.told.number ≡ 29 → ⊥) → r' ≡ k))
step_tally_same_judge κs a z w call κs1 a1 k w1 step sameRecord sameLine not29 =
    let fits = is_within (grown a.1.1.0.now (growth_in a.1.0.now)) in
    go (eqb k.condition 4) fits refl refl
  where
    go : (b c : Bool) → eqb k.condition 4 ≡ b → is_within (grown a.1.1.0.now (growth_in a.1.0.now)) ≡ c → z ≡ k
    go true c f g = (step_tally_judge_first κs a z w call κs1 a1 k w1 step sameRecord sameLine (eqb-true k.condition 4 f)).0
    go false true f g = ((step_tally_29_exactly κs a z w call κs1 a1 k w1 step sameRecord sameLine (not_four k.condition f)).1.1 g).0
    go false false f g = absurd (not29 ((step_tally_29_exactly κs a z w call κs1 a1 k w1 step sameRecord sameLine (not_four k.condition f)).0.1 g))

-- ---------------------------------------------------------------------------
-- "Begun at zero with a fresh judge": any lines

module _ (day : ℕ) where
  -- a run comes to what the steps come to
  run_is : (ss : List (List ℕ)) (r : Record) (t : Tally) → Run day ss r t → (r ≡ record_of (tallied_all (from_zero day) ss).judge) × (t ≡ (tallied_all (from_zero day) ss).tally)
  unfolding tallied_all tallied_of
  run_is _ _ _ (Run.begins r call) =
      let d = call.1.1.1.1 in
      (sym d.1.1 ∙ (d.0 ∙ ap (λ (n : ℕ). record_of (begun n)) d.1.0), refl)
  run_is _ _ _ (Run.goes ss r t line r' t' before call) =
      let w = run_is ss r t before in
      let x = tallied_all (from_zero day) ss in
      let d = call.1.1.1.1 in
      let same = d.1 in
      let j : judge_of r ≡ x.judge = ap judge_of w.0 ∙ record_told_back x.judge in
      let one = all_and_one ss (from_zero day) line in (
        sym same.1.1.1.0 ∙ (d.0.0 ∙ rw (same.0, same.1.0, same.1.1.0, j, w.1) (ap (λ (y : Tallied). record_of y.judge) (sym one))),
        sym same.1.1.1.1 ∙ (d.0.1 ∙ rw (same.0, same.1.0, same.1.1.0, j, w.1) (ap (λ (y : Tallied). y.tally) (sym one))),
      )

  module _ (ss : List (List ℕ)) (r : Record) (t : Tally) (run : Run day ss r t) where
    -- "a file read from zero never meets it": the record is the one of the lines judged without a tally
    pub running_same_judge : r ≡ record_of (steps (begun day) ss)
    running_same_judge = (run_is ss r t run).0 ∙ ap record_of (from_zero_same_judge day ss)

    -- and its number is not 29, whatever the lines and the day
    pub running_never_29 : r.told.number ≡ 29 → ⊥
    running_never_29 e = tells_no_29 (steps (begun day) ss) (begun_never_29 day ss) (ap (λ (x : Record). x.told.number) (sym running_same_judge) ∙ e)

    -- "after every accepted line it equals what adding all the orders read so far would give"
    pub running_total_lem : (r.condition ≡ 4 → ⊥) → t ≡ tally_in ss
    running_total_lem e =
        let takes = unrefused_number (steps (begun day) ss) (λ f. e (ap (λ (x : Record). x.condition) running_same_judge ∙ f)) in
        (run_is ss r t run).1 ∙ from_zero_tally day ss takes

    -- exactly
    pub running_cents : (r.condition ≡ 4 → ⊥) → cents_of t.total ≡ amounts (among is_order ss)
    running_cents e =
        let takes = unrefused_number (steps (begun day) ss) (λ f. e (ap (λ (x : Record). x.condition) running_same_judge ∙ f)) in
        ap (λ (u : Tally). cents_of u.total) ((run_is ss r t run).1 ∙ from_zero_tally day ss takes) ∙ from_zero_cents day ss takes

-- ---------------------------------------------------------------------------
-- The file's own total in the record: "10^21 or more there is 17"

-- such a record is not sound
total_unsound : (j : Judge) → 1000 * limb ≤ cents_of j.read.tally.total → is_sound j ≡ false
total_unsound j h = go (is_sound j) refl
  where
    go : (b : Bool) → is_sound j ≡ b → b ≡ false
    go true f = absurd (false≢true (sym (le-ltb (cents_of j.read.tally.total) (1000 * limb) h) ∙ (within_small j.read.tally (sound_within j f).tally).total))
    go false f = refl

-- an unrefused record stands for an unrefused judge
stands_unrefused : (r : Record) → is_refused (judge_of r).condition ≡ false → 1000 * limb ≤ cents_of r.file_total → is_sound (judge_of r) ≡ false
unfolding judge_of
stands_unrefused r e h = total_unsound (judge_of r) h

-- at a step
pub total_beyond_at_step : EveryJudgeStep (λ r line r'. is_refused (judge_of r).condition ≡ false → 1000 * limb ≤ cents_of r.file_total → r'.told ≡ refusal beyond)
unfolding record_of
total_beyond_at_step κs a z w call e h =
    let c = (not_made_is_17 (judge_of a.0) e (stands_unrefused a.0 e h) a.1.0.now).0 in
    ap (λ (r : Record). r.told) call ∙ ap condition_told c

-- and at the end
pub total_beyond_at_end : EveryJudgeEnd (λ r z. is_refused (judge_of r).condition ≡ false → 1000 * limb ≤ cents_of r.file_total → z.told ≡ refusal beyond)
unfolding ended_of
total_beyond_at_end κs a z w call e h =
    rw (call, (not_made_is_17 (judge_of a.0) e (stands_unrefused a.0 e h) []).1) refl
