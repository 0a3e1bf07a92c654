-- Demand 1: which refusal comes first, of the calls `lanecockle_slip_read`, `lanecockle_judge_step` and `lanecockle_wage_file`. Assumes nothing.
use Rattle.refusal.proofs.Basics.{◌≡◌, refl, sym, ap, ◌∙◌, arith, ℕ, zero, suc, ◌+◌, ◌-◌, ◌≤◌, ◌<◌, length, length-append, get_or, take, eqb-true, eqb-false, eq-eqb, leb-true, leb-false, le-ltb, List, [], ◌∷◌, ◌++◌, Bool, true, false, cond, ◌&&◌, false≢true, eqb, leb, ltb, add-zero, zero-add, both_true}
use Rattle.std.specs.Prelude.{Err, Ok, Result}
use Rattle.refusal.specs.Refusal.{Answer, none}
use Rattle.condition.specs.declared.Counts.{Counts}
use Rattle.refusal.specs.declared.Refusal.{Refusal}
use Rattle.refusal.specs.declared.Refusal.TheVariants.{Size, Ends}
use Rattle.verdict.specs.Verdict.{Verdict, passed, answer_at}
use Rattle.verdict.proofs.Verdicts.{fault_no_pass}
use Rattle.text.specs.Bytes.{count_of}
use Rattle.text.specs.Split.{split}
use Rattle.text.proofs.Pieces.{pieces_counted}
use Rattle.slip_fields.specs.declared.Currency.{Currency}
use Rattle.slip_fields.specs.declared.Currency.TheVariants.{Euro}
use Rattle.slip_fields.specs.Fields.{field_verdict}
use Rattle.slip.specs.Slip.{slip_ends, fields_answer, slip_answer_in, piece_of}
use Rattle.text.specs.Lines.{join_lines}
use Rattle.dates.specs.Dates.{is_date}
use Rattle.wage_places.specs.declared.LineType.{LineType}
use Rattle.wage_places.specs.declared.LineType.TheVariants.{Label, Group, Order, Closing}
use Rattle.wage_line.specs.Line.{typed_of}
use Rattle.wage_line.specs.Pieces.{pieces}
use Rattle.wage_fields.specs.Rules.{places_answer}
use Rattle.wage_fields.proofs.Theorems.{first_refused}
use Rattle.condition.specs.declared.Condition.{Condition}
use Rattle.condition.specs.declared.Condition.TheVariants as condition
use Rattle.condition.specs.declared.Judge.{Judge}
use Rattle.condition.specs.Record.{stage_of, is_refused, refused_with, at_line, beyond, next_line, is_sound, begun, ended}
use Rattle.condition.proofs.Theorems.{refusal_ends}
use Rattle.standing.specs.Standing.{stand_verdict, after}
use Rattle.judge.specs.Judge.{type_step, typed_step, after_places, after_verdict, stepped, steps}
use Rattle.judge.proofs.Theorems.{refusal_stays, refusal_stays_on, no_date_is_11}
use Rattle.wage_file.specs.File.{file_answer}
use Rattle.desk_record.specs.declared.Record.{Record}
use Rattle.desk_record.specs.Record.{condition_of, judge_of, record_of}
use Rattle.desk_record.proofs.Theorems.{record_told_back}
use Rattle.desk_judge.specs.declared.Ended.{Ended}
use Rattle.desk_judge.specs.Wages.{ended_of}
use Rattle.boundary.specs.declared.Told.{Told}
use Rattle.boundary.specs.Told.{refusal, told_of}
use Rattle.promises.specs.Calls.{EverySlipRead, EveryJudgeStep, EveryJudgeEnd, EveryWageFile}
use Rattle.promises.specs.Refusals.{SlipRefused, size, ends, field, goes_on, LineRefused, late, untyped, misplaced, place, FileRefused, undated, line, end}

-- ---------------------------------------------------------------------------
-- A slip

-- what the rule says of the piece at k of a slip in currency c, which is field n + k, behind the field m
abbrev verdict_of : Currency → ℕ → List ℕ → List (List ℕ) → ℕ → Verdict
verdict_of c n m ps k = field_verdict c (n + k) (get_or (m ∷ ps) k []) (get_or ps k [])

-- the first of the pieces that is not right, and the answer that it gives
record FirstWrong (c : Currency) (n start : ℕ) (m : List ℕ) (ps : List (List ℕ)) : Type 0 where
  order : ℕ
  known : order + 1 < length ps
  before : (k : ℕ) → k < order → verdict_of c n m ps k ≡ passed
  wrong : verdict_of c n m ps order ≡ passed → ⊥
  answer : fields_answer c n start m ps ≡ answer_at (n + order) (start + length (join_lines (take order ps))) (verdict_of c n m ps order)

-- pieces that are not accepted have one
first_wrong_lem : (c : Currency) (n start : ℕ) (m : List ℕ) (ps : List (List ℕ)) → (fields_answer c n start m ps ≡ Ok tt → ⊥) → FirstWrong c n start m ps
unfolding fields_answer join_lines
first_wrong_lem c n start m [] h = absurd (h refl)
first_wrong_lem c n start m (p ∷ []) h = absurd (h refl)
first_wrong_lem c n start m (p ∷ (q ∷ ps)) h = go (field_verdict c n m p) refl (first_wrong_lem c (n + 1) (start + length p + 1) p (q ∷ ps))
  where
    go :
        (v : Verdict) → field_verdict c n m p ≡ v
        → ((fields_answer c (n + 1) (start + length p + 1) p (q ∷ ps) ≡ Ok tt → ⊥) → FirstWrong c (n + 1) (start + length p + 1) p (q ∷ ps))
        → FirstWrong c n start m (p ∷ (q ∷ ps))
    go (Ok u) e rest =
        let w = rest (rw e at h) in
        let o = w.order in
        let z : n + suc o ≡ n + 1 + o = omega arith in
        let ls = join_lines (take o (q ∷ ps)) in
        let y : start + length (p ++ (10 ∷ ls)) ≡ start + length p + 1 + length ls = omega (arith, length-append p (10 ∷ ls)) in
        record {
          order = suc o;
          known = omega (arith, w.known);
          before = earlier w;
          wrong = rw z w.wrong;
          answer = rw (e, z, y) w.answer;
        }
      where
        earlier : (w : FirstWrong c (n + 1) (start + length p + 1) p (q ∷ ps)) (k : ℕ) → k < suc w.order → verdict_of c n m (p ∷ (q ∷ ps)) k ≡ passed
        earlier w zero g = rw (add-zero n) e
        earlier w (suc k) g = let z : n + suc k ≡ n + 1 + k = omega arith in rw z (w.before k (omega arith))
    go (Err f) e rest =
        let z = add-zero n in
        let y = add-zero start in
        record {
          order = 0;
          known = omega arith;
          before = λ k g. absurd (omega arith);
          wrong = rw (z, e) (fault_no_pass f);
          answer = rw (z, y, e);
        }

-- a slip that is not accepted in a currency
pub slip_refused : (c : Currency) (s : List ℕ) → (slip_answer_in c s ≡ Ok tt → ⊥) → SlipRefused c s (told_of (slip_answer_in c s))
unfolding slip_answer_in told_of piece_of
slip_refused c s h = short (leb (length s) 483) refl h
  where
    told : length s ≤ 483 → slip_ends s ≡ true → FirstWrong c 1 0 [] (split 10 s) → SlipRefused c s (told_of (fields_answer c 1 0 [] (split 10 s)))
    told l e w =
        let o = w.order in
        let z : 1 + o - 1 ≡ o = omega arith in
        let f = eqb-true (count_of 10 s) 14 (both_true (eqb (count_of 10 s) 14) _ e).0 in
        field l e (1 + o) (omega arith) (omega (arith, w.known, pieces_counted 10 s))
        (λ k i j. let y : 1 + (k - 1) ≡ k = omega arith in rw y at (w.before (k - 1) (omega arith)))
        (rw z w.wrong) (rw z (rw (zero-add (length (join_lines (take o (split 10 s))))) at (ap told_of w.answer)))

    feeds :
        (b : Bool) → slip_ends s ≡ b → length s ≤ 483 → (cond b (fields_answer c 1 0 [] (split 10 s)) (Err (Ends none)) ≡ Ok tt → ⊥)
        → SlipRefused c s (told_of (cond b (fields_answer c 1 0 [] (split 10 s)) (Err (Ends none))))
    feeds true e l g = told l e (first_wrong_lem c 1 0 [] (split 10 s) g)
    feeds false e l g = ends l e refl

    short :
        (b : Bool) → leb (length s) 483 ≡ b → (cond b (cond (slip_ends s) (fields_answer c 1 0 [] (split 10 s)) (Err (Ends none))) (Err (Size none)) ≡ Ok tt → ⊥)
        → SlipRefused c s (told_of (cond b (cond (slip_ends s) (fields_answer c 1 0 [] (split 10 s)) (Err (Ends none))) (Err (Size none))))
    short true e g = feeds (slip_ends s) refl (leb-true (length s) 483 e) g
    short false e g = size (leb-false (length s) 483 e) refl

-- "Order: 1, then 2, then fields 1 to 14"
pub slip_refused_first : EverySlipRead (λ slip r. (r.number ≡ 0 → ⊥) → SlipRefused Euro slip r)
unfolding told_of
slip_refused_first κs a z w call h = rw call (slip_refused Euro a.0.now (λ e. h (ap (λ (t : Told). t.number) call ∙ ap (λ (x : Answer). (told_of x).number) e)))

-- ---------------------------------------------------------------------------
-- A wage line

-- a condition that is refused holds a refusal
refused_with_lem : (c : Condition) → is_refused c ≡ true → (q : Refusal) × (c ≡ condition.Refused q)
refused_with_lem condition.Fresh e = absurd (false≢true e)
refused_with_lem condition.Labelled e = absurd (false≢true e)
refused_with_lem condition.Grouped e = absurd (false≢true e)
refused_with_lem condition.Closed e = absurd (false≢true e)
refused_with_lem (condition.Refused q) e = (q, refl)

-- one alone
one_refusal : {q r : Refusal} → condition.Refused q ≡ condition.Refused r → r ≡ q
one_refusal e = cc

-- and a condition that is not refused none
no_refusal : (c : Condition) (q : Refusal) → is_refused c ≡ false → c ≡ condition.Refused q → ⊥
no_refusal c q h e = false≢true (sym h ∙ rw e)

-- a right line is not refused
after_unrefused : (j : Judge) (s : List ℕ) (t : LineType) → is_refused (after j s t).condition ≡ false
after_unrefused j s Label = refl
after_unrefused j s Group = refl
after_unrefused j s Order = refl
after_unrefused j s Closing = refl

-- a step that refuses
line_refused : (j : Judge) (s : List ℕ) → is_refused j.condition ≡ false → (q : Refusal) → (stepped j s).condition ≡ condition.Refused q → LineRefused j s q
unfolding stepped type_step
line_refused j s unrefused q e = limit (goes_on j) refl (rw unrefused at e)
  where
    fields :
        (t : LineType) → goes_on j ≡ true → typed_of s ≡ Ok t → stand_verdict j.condition j.group t ≡ passed → (a : Answer) → places_answer j.day j.kind t s ≡ a
        → (after_places j s t a).condition ≡ condition.Refused q → LineRefused j s q
    fields t g f v (Ok u) p h = absurd (no_refusal (after j s t).condition q (after_unrefused j s t) h)
    fields t g f v (Err r) p h = let w = first_refused j.day j.kind t s r p in place g t f v w.order w.known w.before r w.here (one_refusal h)

    stand :
        (t : LineType) → goes_on j ≡ true → typed_of s ≡ Ok t → (v : Verdict) → stand_verdict j.condition j.group t ≡ v
        → (after_verdict j s t v).condition ≡ condition.Refused q → LineRefused j s q
    stand t g f (Ok u) i h = fields t g f i (places_answer j.day j.kind t s) refl h
    stand t g f (Err x) i h = misplaced g t f x i (one_refusal h)

    kind : goes_on j ≡ true → (t : Result LineType Refusal) → typed_of s ≡ t → (typed_step j s t).condition ≡ condition.Refused q → LineRefused j s q
    kind g (Ok t) f h = stand t g f (stand_verdict j.condition j.group t) refl h
    kind g (Err r) f h = untyped g r f (one_refusal h)

    limit : (b : Bool) → goes_on j ≡ b → (cond b (typed_step j s (typed_of s)) (refused_with beyond j)).condition ≡ condition.Refused q → LineRefused j s q
    limit true g h = kind g (typed_of s) refl h
    limit false g h = late g (one_refusal h)

-- a record whose condition is 0 to 3 stands for a judge that is not refused
unrefused_record : (n : ℕ) (t : Told) → n ≤ 3 → is_refused (condition_of n t) ≡ false
unrefused_record zero t h = refl
unrefused_record (suc zero) t h = refl
unrefused_record (suc (suc zero)) t h = refl
unrefused_record (suc (suc (suc zero))) t h = refl
unrefused_record (suc (suc (suc (suc n)))) t h = absurd (omega arith)

-- what the record of a refused judge tells
record_refused : (j : Judge) (z : Record) → z ≡ record_of j → z.condition ≡ 4 → (q : Refusal) × ((z.told ≡ refusal q) × (j.condition ≡ condition.Refused q))
unfolding record_of
record_refused j z e h =
    let w = refused_with_lem j.condition (eq-eqb (stage_of j.condition) 4 (ap (λ (r : Record). r.condition) (sym e) ∙ h)) in
    (w.0, (rw w.1 at (ap (λ (r : Record). r.told) e), w.1))

-- "Order in a line: 17, 1, 2, 5 (type), 10, 12, 13, then the fields in order"
pub step_refused_first : EveryJudgeStep (λ r line after. r.condition ≤ 3 → after.condition ≡ 4 → (q : Refusal) × ((after.told ≡ refusal q) × LineRefused (judge_of r) line q))
unfolding judge_of
step_refused_first κs a z w call h e =
    let j = judge_of a.0 in
    let s = a.1.0.now in
    let f = record_refused (stepped j s) z call e in
    (f.0, (f.1.0, line_refused j s (unrefused_record a.0.condition a.0.told h) f.0 f.1.1))

-- a test and one that fails
second_false : (b : Bool) → (b && false) ≡ false
second_false true = refl
second_false false = refl

-- "17 names line 1,000,001"
pub step_line_limit : EveryJudgeStep (λ r line after. r.condition ≤ 3 → 1000000 ≤ r.lines → after.told ≡ refusal beyond)
unfolding stepped judge_of record_of
step_line_limit κs a z w call h e =
    let j = judge_of a.0 in
    let late : ltb j.read.lines 1000000 ≡ false = le-ltb j.read.lines 1000000 e in
    rw (call, unrefused_record a.0.condition a.0.told h, late, second_false (is_sound j))

-- the judge of a record that was told
told_judge : (r r' : Record) (j : Judge) → r ≡ record_of j → r' ≡ r → judge_of r' ≡ j
told_judge r r' j e same = ap judge_of (same ∙ e) ∙ record_told_back j

-- "After a refusal each step .. give that refusal again"
pub step_refusal_stays : EveryJudgeStep (λ r line after. after.condition ≡ 4 → EveryJudgeStep (λ r' line' after'. r' ≡ after → after' ≡ after))
step_refusal_stays κs a z w call h κs' a' z' w' call' same =
    let j = stepped (judge_of a.0) a.1.0.now in
    let f = record_refused j z call h in
    let stays = refusal_stays j (rw f.1.1) a'.1.0.now in
    call' ∙ (ap (λ (k : Judge). record_of (stepped k a'.1.0.now)) (told_judge z a'.0 j call same) ∙ (ap record_of stays ∙ sym call))

-- "and the end"
pub end_refusal_stays : EveryJudgeStep (λ r line after. after.condition ≡ 4 → EveryJudgeEnd (λ r' e. r' ≡ after → e.told ≡ after.told))
unfolding ended_of
end_refusal_stays κs a z w call h κs' a' z' w' call' same =
    let j = stepped (judge_of a.0) a.1.0.now in
    let f = record_refused j z call h in
    let ends : z' ≡ ended_of (Err f.0) = call' ∙ ap (λ (k : Judge). ended_of (ended k)) (told_judge z a'.0 j call same) ∙ ap ended_of (refusal_ends j f.0 f.1.1) in
    ap (λ (r : Ended). r.told) ends ∙ sym f.1.0

-- ---------------------------------------------------------------------------
-- A wage file

-- the first of the lines that is refused, with what was refused
record FirstLine (j : Judge) (ss : List (List ℕ)) (q : Refusal) : Type 0 where
  order : ℕ
  known : order < length ss
  before : is_refused (steps j (take order ss)).condition ≡ false
  here : LineRefused (steps j (take order ss)) (get_or ss order []) q

-- lines that are refused have one
first_line_lem : (j : Judge) (ss : List (List ℕ)) (q : Refusal) → is_refused j.condition ≡ false → (steps j ss).condition ≡ condition.Refused q → FirstLine j ss q
unfolding steps
first_line_lem j [] q h e = absurd (no_refusal j.condition q h e)
first_line_lem j (s ∷ ss) q h e = go (is_refused (stepped j s).condition) refl (first_line_lem (stepped j s) ss q)
  where
    go :
        (b : Bool) → is_refused (stepped j s).condition ≡ b
        → (is_refused (stepped j s).condition ≡ false → (steps (stepped j s) ss).condition ≡ condition.Refused q → FirstLine (stepped j s) ss q) → FirstLine j (s ∷ ss) q
    go true f rest =
        record { order = 0; known = omega arith; before = h; here = line_refused j s h q (ap (λ (k : Judge). k.condition) (sym (refusal_stays_on (stepped j s) f ss)) ∙ e) }
    go false f rest = let w = rest f e in record { order = suc w.order; known = omega (arith, w.known); before = w.before; here = w.here }

-- an end holds one refusal
one_end : {q r : Refusal} → ◌≡◌ {A = Result Counts Refusal} (Err q) (Err r) → r ≡ q
one_end e = cc

-- an end that refuses where no line was refused
end_stops :
    (j : Judge) (q : Refusal) → is_refused j.condition ≡ false → ended j ≡ Err q
    → (is_sound j ≡ true → stage_of j.condition ≡ 3 → ⊥) × (q ≡ cond (is_sound j) (at_line 14 (next_line j)) beyond)
unfolding ended
end_stops j q h e = go (is_sound j) (eqb (stage_of j.condition) 3) refl refl (rw h at e)
  where
    go :
        (sound closed : Bool) → is_sound j ≡ sound → eqb (stage_of j.condition) 3 ≡ closed
        → cond sound (cond closed (Ok j.read) (Err (at_line 14 (next_line j)))) (Err beyond) ≡ Err q
        → (is_sound j ≡ true → stage_of j.condition ≡ 3 → ⊥) × (q ≡ cond (is_sound j) (at_line 14 (next_line j)) beyond)
    go true true f g k = let z : ◌≡◌ {A = ℕ} 0 1 = cc in absurd (omega arith)
    go true false f g k = (λ x. eqb-false (stage_of j.condition) 3 g, rw f (one_end k))
    go false closed f g k = (λ x. absurd (false≢true (sym f ∙ x)), rw f (one_end k))

-- a file that is refused
file_refused : (day : ℕ) (s : List ℕ) (q : Refusal) → file_answer day s ≡ Err q → FileRefused day s q
unfolding file_answer begun
file_refused day s q e = day_first (is_date day) refl
  where
    lines : (b : Bool) → is_refused (steps (begun day) (pieces s)).condition ≡ b → is_date day ≡ true → FileRefused day s q
    lines true u d =
        let r = refused_with_lem (steps (begun day) (pieces s)).condition u in
        let z = one_end (sym (refusal_ends (steps (begun day) (pieces s)) r.0 r.1) ∙ e) in
        let w = first_line_lem (begun day) (pieces s) q (rw d) (rw z r.1) in
        line d w.order w.known w.before w.here
    lines false u d = let w = end_stops (steps (begun day) (pieces s)) q u e in end d u w.0 w.1

    day_first : (b : Bool) → is_date day ≡ b → FileRefused day s q
    day_first true d = lines (is_refused (steps (begun day) (pieces s)).condition) refl d
    day_first false d = undated d (one_end (sym (no_date_is_11 day (pieces s) d) ∙ e))

-- what the end of a refused file tells
end_refused : (x : Result Counts Refusal) (z : Ended) → z ≡ ended_of x → (z.told.number ≡ 0 → ⊥) → (q : Refusal) × ((z.told ≡ refusal q) × (x ≡ Err q))
unfolding ended_of
end_refused (Ok c) z e h = absurd (h (ap (λ (r : Ended). r.told.number) e))
end_refused (Err q) z e h = (q, (ap (λ (r : Ended). r.told) e, refl))

-- the day, then the first line that is refused, then the end
pub file_refused_first : EveryWageFile (λ day file r. (r.told.number ≡ 0 → ⊥) → (q : Refusal) × ((r.told ≡ refusal q) × FileRefused day file q))
file_refused_first κs a z w call h =
    let day = a.0 in
    let s = a.1.0.now in
    let f = end_refused (file_answer day s) z call h in
    (f.0, (f.1.0, file_refused day s f.0 f.1.1))
