-- Document 02, W2, said of the calls of standing text: accepted exactly when, whose text it is, the refusals in their order, and a slip
-- written with standing text.
-- Assumes nothing.
use Rattle.refusal.proofs.Basics.{◌≡◌, refl, sym, ap, ◌∙◌, arith, ℕ, ◌+◌, ◌-◌, ◌^◌, ◌≤◌, length, take, drop, get_or, take-nil, drop_of_length-le, List, [], map, Bool, true, false, cond, eqb, ltb, eqb-true, eqb-false, ◌↔◌}
use Rattle.verdict.specs.Verdict.{passed}
use Rattle.std.specs.Prelude.{Err, Ok, Result}
use Rattle.refusal.specs.Refusal.{Answer, none, refusal_number}
use Rattle.refusal.specs.declared.Refusal.{Refusal}
use Rattle.refusal.specs.declared.Refusal.TheVariants.{Size, Length, Room}
use Rattle.refusal.proofs.Theorems.{refused_not_accepted}
use Rattle.text.specs.Split.{joined}
use Rattle.lent_fields.specs.Fields.{fields_of, given_of, lent_whole}
use Rattle.lent_fields.proofs.Laws.{fields_joined, joined_lent_whole}
use Rattle.slip_fields.specs.declared.Currency.TheVariants.{Euro}
use Rattle.slip_fields.specs.Fields.{field_verdict}
use Rattle.slip_given.specs.Given.{given_answer}
use Rattle.slip_given.proofs.Laws.{not_there}
use Rattle.slip_writer.specs.Writer.{slip_text, after_fields, write_answer, left_by_slip}
use Rattle.sheet.specs.Sheet.{is_standing, bad_line}
use Rattle.sheet.specs.Claims.{FieldLine, RightLines, sheet_text, fields_in, text_among, is_among}
use Rattle.sheet.proofs.Laws.{standing_within}
use Rattle.sheet.proofs.Theorems.{right_exactly, written_back}
use Rattle.sheet.proofs.First.{bad_is_first}
use Rattle.standing_text.specs.declared.Sheet.{Sheet}
use Rattle.standing_text.specs.declared.Sheet.TheVariants.{Neither, Farm, Association}
use Rattle.standing_text.specs.declared.Judged.{Judged}
use Rattle.standing_text.specs.declared.Standing.{Standing}
use Rattle.standing_text.specs.Standing.{malformed_in, sheets_judged, both_judged, standing_of, bytes_from, standing_bytes, standing_text}
use Rattle.standing_text.proofs.Laws.{neither_bad}
use Rattle.standing_text.proofs.Theorems as standing
use Rattle.standing_slip.specs.declared.StandingSlip.{StandingSlip}
use Rattle.standing_slip.specs.Filled.{eleven_of, filled_field, filled_fields, slip_after_sheets, standing_slip}
use Rattle.standing_slip.proofs.Theorems.{filled_at, slip_of_empty_sheets, with_empty_sheets}
use Rattle.boundary.specs.declared.Told.{Told}
use Rattle.boundary.specs.declared.Valued.{Valued}
use Rattle.boundary.specs.Told.{accepted, refusal, told_of, value_told, valued}
use Rattle.boundary.proofs.Theorems.{number_not_zero}
use Rattle.desk_standing.specs.declared.StandingTold.{StandingTold}
use Rattle.desk_standing.specs.declared.StandingWritten.{StandingWritten}
use Rattle.desk_standing.specs.Standings.{sheet_number, standing_told, written_told, WritesStandingTold}
use Rattle.promises.specs.Calls.{EverySlipRead, EverySlipField, EverySlipCents, EverySlipWrite, EveryStandingText, EverySlipWriteStanding}
use Rattle.promises.specs.Standings.{RightSheet, sheet_of, told_text, malformed_line, SheetRefused, farms, associations, StandingRefused, field, line, SlipStandingRefused, sizing, sheets, writer}
use Rattle.promises.proofs.Laws.{told_zero}
use Rattle.promises.proofs.Slips.{Wrote, answer_wrote, given_at, reads_accepted, reads_cents, reads_field}

-- ---------------------------------------------------------------------------
-- What is told

-- an accepted question tells 0, and no other
asked_zero : (s : Standing) (z : StandingTold) → z ≡ standing_told s → (z.told.number ≡ 0) ↔ (s.answer ≡ Ok tt)
unfolding standing_told
asked_zero s z e = told_zero s.answer z.told (ap (λ (t : StandingTold). t.told) e)

-- no bytes have no part
none_of_none : (l k : ℕ) (s : List ℕ) → length s ≡ 0 → take l (drop k s) ≡ []
none_of_none l k s e = let h : length s ≤ k = omega arith in rw (drop_of_length-le s h) (take-nil l)

-- the text that is told is the standing text
bytes_told : (s : Standing) (farm association : List ℕ) → told_text (standing_told s) farm association ≡ standing_bytes s farm association
unfolding standing_told sheet_number bytes_from
bytes_told s farm association = go s.sheet
  where
    go : (x : Sheet) → take s.part.length (drop s.part.start (sheet_of (sheet_number x) farm association)) ≡ bytes_from x s.part farm association
    go Neither = none_of_none s.part.length s.part.start [] refl
    go Farm = refl
    go Association = refl

-- ---------------------------------------------------------------------------
-- Accepted exactly when

-- the number is one of 4 to 9, 13 and 14, and both sheets are right, whatever is asked for
pub standing_text_exactly : EveryStandingText (λ n farm association r. (r.told.number ≡ 0) ↔ ((is_standing n ≡ true) × ((RightSheet farm) × (RightSheet association))))
standing_text_exactly κs a z w call =
    let n = a.0 in
    let farm = a.1.0.now in
    let association = a.1.1.0.now in
    let h = asked_zero (standing_of n farm association) z call in
    let g = standing.asked_exactly n farm association in (
      λ e. let x = g.0 (h.0 e) in (x.0, ((right_exactly farm).0 x.1.0, (right_exactly association).0 x.1.1)),
      λ x. h.1 (g.1 (x.0, ((right_exactly farm).1 x.1.0, (right_exactly association).1 x.1.1))),
    )

-- ---------------------------------------------------------------------------
-- Whose text it is

-- "the farm's text if its sheet has that line, even if empty, otherwise the association's"; "A line neither has is an empty field"
pub standing_text_is :
    EveryStandingText (λ n farm association r. r.told.number ≡ 0 →
    told_text r farm association ≡ cond (is_among n (fields_in farm)) (text_among n (fields_in farm)) (text_among n (fields_in association)))
standing_text_is κs a z w call e =
    let n = a.0 in
    let farm = a.1.0.now in
    let association = a.1.1.0.now in
    let x = (standing.asked_exactly n farm association).0 ((asked_zero (standing_of n farm association) z call).0 e) in
    rw call (bytes_told (standing_of n farm association) farm association ∙ standing.standing_text_is n farm association x.0 x.1.0 x.1.1)

-- and the sheet that is told is the one that has the line
pub standing_sheet_is :
    EveryStandingText (λ n farm association r. r.told.number ≡ 0 →
    r.sheet ≡ cond (is_among n (fields_in farm)) 1 (cond (is_among n (fields_in association)) 2 0))
unfolding standing_told sheet_number
standing_sheet_is κs a z w call e =
    let n = a.0 in
    let farm = a.1.0.now in
    let association = a.1.1.0.now in
    let x = (standing.asked_exactly n farm association).0 ((asked_zero (standing_of n farm association) z call).0 e) in
    rw call (ap sheet_number (standing.standing_sheet_is n farm association x.0 x.1.0 x.1.1) ∙ go (is_among n (fields_in farm)) (is_among n (fields_in association)))
  where
    go : (t u : Bool) → sheet_number (cond t Farm (cond u Association Neither)) ≡ cond t 1 (cond u 2 0)
    go true u = refl
    go false true = refl
    go false false = refl

-- the part that is told lies within its sheet; where neither has the line, and where the question is refused, it has no byte
pub standing_text_within : EveryStandingText (λ n farm association r. r.start + r.length ≤ length (sheet_of r.sheet farm association))
unfolding standing_told sheet_number
standing_text_within κs a z w call =
    let n = a.0 in
    let farm = a.1.0.now in
    let association = a.1.1.0.now in
    rw call (go (standing_of n farm association).sheet (standing.standing_part_within n farm association))
  where
    go : (x : Sheet) {k : ℕ} → k ≤ length (standing.sheet_of x a.1.0.now a.1.1.0.now) → k ≤ length (sheet_of (sheet_number x) a.1.0.now a.1.1.0.now)
    go Neither h = h
    go Farm h = h
    go Association h = h

-- "sheets that are written from a list of fields read back as that list"
pub standing_text_written_back :
    (fs gs : List FieldLine) → RightLines 0 fs → RightLines 0 gs →
    EveryStandingText (λ n farm association r. farm ≡ sheet_text fs → association ≡ sheet_text gs → is_standing n ≡ true →
    (r.told.number ≡ 0) × (told_text r farm association ≡ cond (is_among n fs) (text_among n fs) (text_among n gs)))
standing_text_written_back fs gs u v κs a z w call f g h =
    let e = (standing_text_exactly κs a z w call).1 (h, ((fs, (u, f)), (gs, (v, g)))) in
    let x = ap fields_in f ∙ written_back fs u in
    let y = ap fields_in g ∙ written_back gs v in
    (e, rw (x, y) at (standing_text_is κs a z w call e))

-- ---------------------------------------------------------------------------
-- Refusals in their order

-- the sheets' refusal
sheets_refused :
    (farm association : List ℕ) (r : Refusal) (t : Told) (k : ℕ) → (both_judged farm association).answer ≡ Err r → t ≡ refusal r → k ≡ sheet_number (both_judged farm association).sheet
    → SheetRefused farm association t k
unfolding sheets_judged sheet_number told_of
sheets_refused farm association r t k e told sheet = go (eqb (bad_line farm) 0) (eqb (bad_line association) 0) refl refl e sheet
  where
    same : (n : ℕ) → ◌≡◌ {A = Answer} (Err (Refusal.Sheet (record { line = n; field = 0; byte = 0 }))) (Err r) → refusal r ≡ malformed_line n
    same n h = ap (λ (x : Answer). told_of x) (sym h)

    judged : Bool → Bool → Judged
    judged x y = cond x (cond y (record { sheet = Neither; answer = Ok tt }) (malformed_in Association (bad_line association))) (malformed_in Farm (bad_line farm))

    go : (x y : Bool) → eqb (bad_line farm) 0 ≡ x → eqb (bad_line association) 0 ≡ y → (judged x y).answer ≡ Err r → k ≡ sheet_number (judged x y).sheet → SheetRefused farm association t k
    go true true p q h s = absurd (refused_not_accepted r (sym h))
    go true false p q h s =
        let is : (malformed_in Association (bad_line association)).answer ≡ Err r = h in
        associations ((right_exactly farm).0 (eqb-true (bad_line farm) 0 p)) (bad_line association) (bad_is_first association (eqb-false (bad_line association) 0 q)) (told ∙ same (bad_line association) is) s
    go false y p q h s =
        let is : (malformed_in Farm (bad_line farm)).answer ≡ Err r = h in
        farms (bad_line farm) (bad_is_first farm (eqb-false (bad_line farm) 0 p)) (told ∙ same (bad_line farm) is) s

-- what is told of a refused question
refused_told :
    (n : ℕ) (farm association : List ℕ) (z : StandingTold) → z ≡ standing_told (standing_of n farm association) → (z.told.number ≡ 0 → ⊥)
    → (StandingRefused n farm association z.told z.sheet) × ((z.start ≡ 0) × (z.length ≡ 0))
unfolding standing_told standing_of sheet_number told_of
refused_told n farm association z call h = go (is_standing n) refl (both_judged farm association).answer refl call
  where
    go :
        (t : Bool) → is_standing n ≡ t → (x : Answer) → (both_judged farm association).answer ≡ x → z ≡ standing_told (standing.asked t x n farm association)
        → (StandingRefused n farm association z.told z.sheet) × ((z.start ≡ 0) × (z.length ≡ 0))
    go false e x f c =
        (field e (ap (λ (t : StandingTold). t.told) c) (ap (λ (t : StandingTold). t.sheet) c), (ap (λ (t : StandingTold). t.start) c, ap (λ (t : StandingTold). t.length) c))
    go true e (Ok u) f c =
        absurd (h ((asked_zero (standing_of n farm association) z call).1 ((standing.asked_exactly n farm association).1 (e, neither_bad (bad_line farm) (bad_line association) f))))
    go true e (Err r) f c =
        (line e (sheets_refused farm association r z.told z.sheet f (ap (λ (t : StandingTold). t.told) c) (ap (λ (t : StandingTold). t.sheet) c)), (ap (λ (t : StandingTold). t.start) c, ap (λ (t : StandingTold). t.length) c))

-- 28, then 20 with the first malformed line, the farm's sheet first
pub standing_text_refused_first : EveryStandingText (λ n farm association r. (r.told.number ≡ 0 → ⊥) → StandingRefused n farm association r.told r.sheet)
standing_text_refused_first κs a z w call h = (refused_told a.0 a.1.0.now a.1.1.0.now z call h).0

-- a refused question gives no part
pub standing_text_refused_empty : EveryStandingText (λ n farm association r. (r.told.number ≡ 0 → ⊥) → (r.start ≡ 0) × (r.length ≡ 0))
standing_text_refused_empty κs a z w call h = (refused_told a.0 a.1.0.now a.1.1.0.now z call h).1

-- ---------------------------------------------------------------------------
-- The slip's writer accepts it

-- no refusal of the writer is told of a field that is right whatever stands before it
written_elsewhere :
    (cents : ℕ) (fields : List (List ℕ)) (room n : ℕ) → 4 ≤ n → n ≤ 14 → length fields ≡ 11 → ((m : List ℕ) → field_verdict Euro n m (get_or fields (n - 4) []) ≡ passed)
    → (value_told (write_answer cents fields room)).told.field ≡ n → ⊥
unfolding write_answer value_told
written_elsewhere cents fields room n l u all right = go (ltb cents (10 ^ 15)) (given_answer 4 [] fields) refl
  where
    there : 4 + (n - 4) ≡ n
    there = omega arith

    room_told : (b : Bool) → (value_told (cond b (Err (Room none (length (slip_text cents fields)))) (Ok (length (slip_text cents fields))))).told.field ≡ n → ⊥
    room_told true e = omega (arith, e)
    room_told false e = omega (arith, e)

    go :
        (t : Bool) (x : Answer) → given_answer 4 [] fields ≡ x
        → (value_told (cond t (after_fields x (slip_text cents fields) room) (Err (Length (record { line = 0; field = 3; byte = 0 }))))).told.field ≡ n → ⊥
    go false x g e = omega (arith, e)
    go true (Ok u) g e = room_told (ltb room (length (slip_text cents fields))) e
    go true (Err r) g e = not_there 4 [] fields r (n - 4) g (omega arith) (rw there right) (e ∙ sym there)

-- "what is answered for a field is accepted by the slip's writer at that field"
pub standing_text_writable :
    EveryStandingText (λ n farm association r. is_standing n ≡ true →
    EverySlipWrite (λ cents text sizes out q after. get_or (fields_of sizes text) (n - 4) [] ≡ told_text r farm association → q.told.field ≡ n → ⊥))
standing_text_writable κs a z w call h κs' a' z' w' call' given =
    let n = a.0 in
    let farm = a.1.0.now in
    let association = a.1.1.0.now in
    let text = a'.1.0.now in
    let sizes = a'.1.1.0.now in
    let b = standing_within n h in
    let is : get_or (eleven_of sizes text) (n - 4) [] ≡ standing_text n farm association =
    given_at sizes text (n - 4) (omega (arith, b.0, b.1)) ∙ (given ∙ (ap (λ (t : StandingTold). told_text t farm association) call ∙ bytes_told (standing_of n farm association) farm association)) in
    rw call'.answers
    (go (lent_whole 11 sizes text) _ (written_elsewhere a'.0 (eleven_of sizes text) (length a'.1.1.1.0.now) n b.0 b.1 refl (λ m. rw is (standing.standing_obeys n m farm association h))))
  where
    go : (t : Bool) (x : Valued) → (x.told.field ≡ a.0 → ⊥) → (cond t x (valued (refusal (Size none)) 0)).told.field ≡ a.0 → ⊥
    go true x f e = f e
    go false x f e = omega (arith, e, (standing_within a.0 h).0)

-- ---------------------------------------------------------------------------
-- A slip written with standing text

-- what the call answers: 1, or 20, or what the writer answers
data Answered (cents : ℕ) (sizes text farm association : List ℕ) (room : ℕ) (s : StandingSlip) : Type 0 where
  unsized : lent_whole 11 sizes text ≡ false → s ≡ record { sheet = Neither; written = Err (Size none) } → Answered cents sizes text farm association room s
  malformed :
      lent_whole 11 sizes text ≡ true → (r : Refusal) → (both_judged farm association).answer ≡ Err r
      → s ≡ record { sheet = (both_judged farm association).sheet; written = Err r } → Answered cents sizes text farm association room s
  writes :
      lent_whole 11 sizes text ≡ true → bad_line farm ≡ 0 → bad_line association ≡ 0
      → s ≡ record { sheet = Neither; written = write_answer cents (filled_fields sizes text farm association) room } → Answered cents sizes text farm association room s

answered : (cents : ℕ) (sizes text farm association : List ℕ) (room : ℕ) → Answered cents sizes text farm association room (standing_slip cents sizes text farm association room)
unfolding standing_slip
answered cents sizes text farm association room = go (lent_whole 11 sizes text) refl (both_judged farm association).answer refl
  where
    go :
        (t : Bool) → lent_whole 11 sizes text ≡ t → (x : Answer) → (both_judged farm association).answer ≡ x
        → Answered cents sizes text farm association room (cond t (slip_after_sheets (both_judged farm association).sheet x (write_answer cents (filled_fields sizes text farm association) room)) (record { sheet = Neither; written = Err (Size none) }))
    go false e x f = unsized e refl
    go true e (Err r) f = malformed e r f refl
    go true e (Ok u) f = let b = neither_bad (bad_line farm) (bad_line association) f in writes e b.0 b.1 refl

-- of a right call: the writer's answer
right_answered :
    (cents : ℕ) (sizes text farm association : List ℕ) (room : ℕ) → lent_whole 11 sizes text ≡ true → bad_line farm ≡ 0 → bad_line association ≡ 0
    → standing_slip cents sizes text farm association room ≡ record { sheet = Neither; written = write_answer cents (filled_fields sizes text farm association) room }
unfolding standing_slip sheets_judged
right_answered cents sizes text farm association room h f a = rw (h, f, a)

-- 1, then 20, then the writer's refusals
pub slip_write_standing_refused_first :
    EverySlipWriteStanding (λ cents text sizes farm association out r after. (r.told.number ≡ 0 → ⊥) →
    SlipStandingRefused sizes text farm association (write_answer cents (filled_fields sizes text farm association) (length out)) r.told r.sheet)
unfolding written_told value_told sheet_number
slip_write_standing_refused_first κs a z w call h = go (answered cents given text farm association (length out))
  where
    cents : ℕ
    cents = a.0

    text : List ℕ
    text = a.1.0.now

    given : List ℕ
    given = a.1.1.0.now

    farm : List ℕ
    farm = a.1.1.1.0.now

    association : List ℕ
    association = a.1.1.1.1.0.now

    out : List ℕ
    out = a.1.1.1.1.1.0.now

    by : (x : Result ℕ Refusal) → write_answer cents (filled_fields given text farm association) (length out) ≡ x → z ≡ written_told (record { sheet = Neither; written = x }) → (r : Refusal) × ((x ≡ Err r) × ((z.told ≡ refusal r) × (z.sheet ≡ 0)))
    by (Ok n) q e = absurd (h (ap (λ (t : StandingWritten). t.told.number) e))
    by (Err r) q e = (r, (refl, (ap (λ (t : StandingWritten). t.told) e, ap (λ (t : StandingWritten). t.sheet) e)))

    go :
        Answered cents given text farm association (length out) (standing_slip cents given text farm association (length out))
        → SlipStandingRefused given text farm association (write_answer cents (filled_fields given text farm association) (length out)) z.told z.sheet
    go (unsized p e) =
        let c = call.answers ∙ ap written_told e in
        sizing p (ap (λ (t : StandingWritten). t.told) c) (ap (λ (t : StandingWritten). t.sheet) c)
    go (malformed p r f e) =
        let c = call.answers ∙ ap written_told e in
        sheets p (sheets_refused farm association r z.told z.sheet f (ap (λ (t : StandingWritten). t.told) c) (ap (λ (t : StandingWritten). t.sheet) c))
    go (writes p f g e) =
        let x = by (write_answer cents (filled_fields given text farm association) (length out)) refl (call.answers ∙ ap written_told e) in
        writer p ((right_exactly farm).0 f) ((right_exactly association).0 g) x.0 x.1.0 x.1.1.0 x.1.1.1

-- "It is the composition of the calls above": of right sheets it answers and leaves what the slip's writer does, lent the filled fields
pub slip_write_standing_is_slip_write :
    EverySlipWriteStanding (λ cents text sizes farm association out r after. lent_whole 11 sizes text ≡ true → RightSheet farm → RightSheet association →
    EverySlipWrite (λ cents' text' sizes' out' q after'.
    cents' ≡ cents → text' ≡ joined (filled_fields sizes text farm association) → sizes' ≡ map length (filled_fields sizes text farm association) → out' ≡ out →
    (r.told ≡ q.told) × ((r.value ≡ q.value) × (after ≡ after'))))
unfolding written_told given_of
slip_write_standing_is_slip_write κs a z w call h f g κs' a' z' w' call' cents text sizes out =
    let fields = filled_fields a.1.1.0.now a.1.0.now a.1.1.1.0.now a.1.1.1.1.0.now in
    let room = length a.1.1.1.1.1.0.now in
    let s = right_answered a.0 a.1.1.0.now a.1.0.now a.1.1.1.0.now a.1.1.1.1.0.now room h ((right_exactly _).1 f) ((right_exactly _).1 g) in
    let c = call.answers ∙ ap written_told s in
    let whole : lent_whole 11 (map length fields) (joined fields) ≡ true = joined_lent_whole fields in
    let again : eleven_of (map length fields) (joined fields) ≡ fields = rw (fields_joined fields) in
    let d : z' ≡ value_told (write_answer a.0 fields room) = rw (cents, text, sizes, out, whole, again) at call'.answers in
    let l : w'.1.1.1.0 ≡ left_by_slip (write_answer a.0 fields room) (slip_text a.0 fields) a.1.1.1.1.1.0.now = rw (cents, text, sizes, out, whole, again) at call'.leaves in (
      ap (λ (t : StandingWritten). t.told) c ∙ sym (ap (λ (v : Valued). v.told) d),
      (
        ap (λ (t : StandingWritten). t.value) c ∙ sym (ap (λ (v : Valued). v.value) d),
        call.leaves ∙ (ap (λ (x : StandingSlip). left_by_slip x.written (slip_text a.0 fields) a.1.1.1.1.1.0.now) s ∙ sym l),
      ),
    )

-- of two empty sheets it is the slip's writer
pub slip_write_standing_of_empty_sheets :
    EverySlipWriteStanding (λ cents text sizes farm association out r after. farm ≡ [] → association ≡ [] →
    EverySlipWrite (λ cents' text' sizes' out' q after'. cents' ≡ cents → text' ≡ text → sizes' ≡ sizes → out' ≡ out →
    (r.told ≡ q.told) × ((r.value ≡ q.value) × (after ≡ after'))))
unfolding written_told value_told
slip_write_standing_of_empty_sheets κs a z w call f g κs' a' z' w' call' cents text sizes out =
    let given = a.1.1.0.now in
    let lent = a.1.0.now in
    let old = a.1.1.1.1.1.0.now in
    let s = slip_of_empty_sheets a.0 given lent (length old) in
    let c : z ≡ written_told (standing_slip a.0 given lent [] [] (length old)) = rw (f, g) at call.answers in
    let l : w.1.1.1.1.1.0 ≡ left_by_slip (standing_slip a.0 given lent [] [] (length old)).written (slip_text a.0 (filled_fields given lent [] [])) old = rw (f, g) at call.leaves in
    go (lent_whole 11 given lent) (write_answer a.0 (eleven_of given lent) (length old)) (slip_text a.0 (eleven_of given lent)) old
    (rw s at c) (rw (s, with_empty_sheets given lent) at l) (rw (cents, text, sizes, out) at call'.answers) (rw (cents, text, sizes, out) at call'.leaves)
  where
    go :
        (t : Bool) (x : Result ℕ Refusal) (slip old : List ℕ)
        → z ≡ written_told (cond {A = StandingSlip} t (record { sheet = Neither; written = x }) (record { sheet = Neither; written = Err (Size none) }))
        → w.1.1.1.1.1.0 ≡ left_by_slip (cond {A = StandingSlip} t (record { sheet = Neither; written = x }) (record { sheet = Neither; written = Err (Size none) })).written slip old
        → z' ≡ cond t (value_told x) (valued (refusal (Size none)) 0) → w'.1.1.1.0 ≡ cond t (left_by_slip x slip old) old
        → (z.told ≡ z'.told) × ((z.value ≡ z'.value) × (w.1.1.1.1.1.0 ≡ w'.1.1.1.0))
    go true x slip old c l d m = (ap (λ (y : StandingWritten). y.told) c ∙ sym (ap (λ (v : Valued). v.told) d), (ap (λ (y : StandingWritten). y.value) c ∙ sym (ap (λ (v : Valued). v.value) d), l ∙ sym m))
    go false x slip old c l d m = (ap (λ (y : StandingWritten). y.told) c ∙ sym (ap (λ (v : Valued). v.told) d), (ap (λ (y : StandingWritten). y.value) c ∙ sym (ap (λ (v : Valued). v.value) d), l ∙ sym m))

-- by a call that accepted
wrote_standing :
    {cents : ℕ} {sizes text farm association out : List ℕ} {z : StandingWritten} {after : List ℕ} → WritesStandingTold cents sizes text farm association out z after → z.told.number ≡ 0
    → Wrote cents (filled_fields sizes text farm association) out z.value after
unfolding written_told value_told
wrote_standing {cents} {sizes} {text} {farm} {association} {out} {z} {after} call h = go (answered cents sizes text farm association (length out))
  where
    go : Answered cents sizes text farm association (length out) (standing_slip cents sizes text farm association (length out)) → Wrote cents (filled_fields sizes text farm association) out z.value after
    go (unsized p e) = let k : ◌≡◌ {A = ℕ} 0 1 = sym h ∙ ap (λ (t : StandingWritten). t.told.number) (call.answers ∙ ap written_told e) in absurd (omega arith)
    go (malformed p r f e) = let k : 0 ≡ refusal_number r = sym h ∙ ap (λ (t : StandingWritten). t.told.number) (call.answers ∙ ap written_told e) in absurd (omega (arith, number_not_zero r))
    go (writes p f g e) =
        let x = write_answer cents (filled_fields sizes text farm association) (length out) in
        let c = call.answers ∙ ap written_told e in
        rw (ap (λ (t : StandingWritten). t.value) c)
        (answer_wrote cents (filled_fields sizes text farm association) refl out (value_told x) after (sym (ap (λ (t : StandingWritten). t.told.number) c) ∙ h) x refl refl
        (call.leaves ∙ ap (λ (y : StandingSlip). left_by_slip y.written (slip_text cents (filled_fields sizes text farm association)) out) e))

-- the slip that was written: at the front of the room, and all behind it as it was
pub slip_standing_in_front : EverySlipWriteStanding (λ cents text sizes farm association out r after. r.told.number ≡ 0 → (r.value ≤ length out) × (drop r.value after ≡ drop r.value out))
slip_standing_in_front κs a z w call h = let s = wrote_standing call h in (s.within, s.rest)

-- is accepted
pub slip_standing_is_accepted : EverySlipWriteStanding (λ cents text sizes farm association out r after. r.told.number ≡ 0 → EverySlipRead (λ slip q. slip ≡ take r.value after → q.number ≡ 0))
slip_standing_is_accepted κs a z w call h = reads_accepted (wrote_standing call h)

-- reads back as the same amount
pub slip_standing_same_cents : EverySlipWriteStanding (λ cents text sizes farm association out r after. r.told.number ≡ 0 → EverySlipCents (λ slip q. slip ≡ take r.value after → q ≡ valued accepted cents))
slip_standing_same_cents κs a z w call h = reads_cents (wrote_standing call h)

-- and as its fields: those that were given, and where one was empty the standing text
pub slip_standing_same_fields :
    EverySlipWriteStanding (λ cents text sizes farm association out r after. r.told.number ≡ 0 →
    EverySlipField (λ slip n part. slip ≡ take r.value after → 4 ≤ n → n ≤ 14 →
    take part.length (drop part.start slip) ≡ filled_field n (get_or (fields_of sizes text) (n - 4) []) farm association))
slip_standing_same_fields κs a z w call h κs' a' z' w' call' e l u =
    let n = a'.1.0 in
    let sizes = a.1.1.0.now in
    let text = a.1.0.now in
    let there : 4 + (n - 4) ≡ n = omega arith in
    reads_field (wrote_standing call h) κs' a' z' w' call' e l u
    ∙ (filled_at 4 (eleven_of sizes text) a.1.1.1.0.now a.1.1.1.1.0.now (n - 4) (omega arith) ∙ rw (there, given_at sizes text (n - 4) (omega arith)))
