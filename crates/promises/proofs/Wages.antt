-- Demand 2, wage files: accepted exactly when; whole, in parts and line by line; written, and read back; read, and written again. Of the calls
-- `lanecockle_wage_file`, `lanecockle_judge_begin`, `_step`, `_lines`, `_end`, `lanecockle_wage_place` and the four writers. Assumes nothing.
use Rattle.refusal.proofs.Basics.{◌≡◌, refl, sym, ap, ◌∙◌, arith, ℕ, ◌/◌, ◌%◌, ◌≤◌, ◌<◌, length, take, drop, get_or, drop_of_length-le, List, [], ◌∷◌, ◌++◌, Bool, true, false, cond, ◌||◌, eqb, take_all, take_at, drop_at, ◌↔◌}
use Rattle.std.specs.Prelude.{Err, Ok, Result}
use Rattle.refusal.specs.Refusal.{Answer, none, refusal_number}
use Rattle.refusal.specs.declared.Refusal.{Refusal}
use Rattle.refusal.specs.declared.Refusal.TheVariants.{Size}
use Rattle.text.specs.declared.Part.{Part}
use Rattle.text.specs.Split.{joined}
use Rattle.dates.specs.Dates.{is_date}
use Rattle.sums.specs.Sums.{cents_of, sum_of}
use Rattle.wage_places.specs.declared.LineType.{LineType}
use Rattle.wage_places.specs.declared.LineType.TheVariants.{Label, Group, Order, Closing}
use Rattle.wage_places.specs.Places.{spots}
use Rattle.wage_places.proofs.Theorems.{place_at}
use Rattle.wage_line.specs.Line.{typed_of, place_of}
use Rattle.wage_line.specs.Pieces.{pieces_of, pieces}
use Rattle.wage_line.proofs.PieceLaws.{pieces_first}
use Rattle.wage_line.proofs.Theorems.{typed_exactly}
use Rattle.wage_fields.specs.Rules.{RightLine}
use Rattle.condition.specs.declared.Counts.{Counts}
use Rattle.condition.specs.declared.Judge.{Judge}
use Rattle.condition.specs.Record.{begun}
use Rattle.judge.specs.Judge.{steps}
use Rattle.worked_out.specs.Amounts.{amounts}
use Rattle.wage_file.specs.Right.{File, lines_of, orders_in, amounts_in, counts_in, RightGroup, RightFile}
use Rattle.wage_file.specs.File.{file_answer}
use Rattle.wage_file.proofs.Theorems.{file_accepted_exactly, total_exact, in_parts}
use Rattle.lent_fields.specs.Fields.{fields_of, lent_whole, for_sizes}
use Rattle.wage_draft.specs.Draft.{parts_of_line, sizes_of, PlainElsewhere}
use Rattle.wage_writer.specs.Writer.{label_answer, label_draft, order_answer, order_draft}
use Rattle.group_writer.specs.GroupWriter.{group_fields, group_answer, group_draft}
use Rattle.line_room.specs.LineRoom.{closing_answer}
use Rattle.bare_line.specs.Bare.{bare_line}
use Rattle.wage_round.specs.Round.{five_parts, five_sizes}
use Rattle.wage_round.proofs.Theorems as round
use Rattle.boundary.specs.declared.Told.{Told}
use Rattle.boundary.specs.Told.{told_of}
use Rattle.boundary.proofs.Theorems.{number_not_zero}
use Rattle.desk_record.specs.declared.Record.{Record}
use Rattle.desk_record.specs.Record.{judge_of, record_of}
use Rattle.desk_record.proofs.Theorems.{record_told_back}
use Rattle.desk_judge.specs.declared.Ended.{Ended}
use Rattle.desk_judge.specs.Wages.{ended_of, place_part}
use Rattle.desk_judge.proofs.Theorems.{whole_is_begin_lines_end, part_is_place}
use Rattle.desk_writers.specs.Writes.{WritesLine}
use Rattle.promises.proofs.Laws.{told_zero}
use Rattle.promises.specs.Calls.{EveryJudgeBegin, EveryJudgeStep, EveryJudgeLines, EveryJudgeEnd, EveryWageFile, EveryWagePlace, EveryWriteLabel, EveryWriteOrder, EveryWriteGroup, EveryWriteClosing}
use Rattle.promises.specs.Wages.{RightBytes}

-- ---------------------------------------------------------------------------
-- Accepted exactly when

-- an end told by 0 is an acceptance
accepted_end : (e : Result Counts Refusal) (z : Ended) → z ≡ ended_of e → z.told.number ≡ 0 → (n : Counts) × (e ≡ Ok n)
unfolding ended_of
accepted_end (Ok n) z w h = (n, refl)
accepted_end (Err r) z w h = let q : refusal_number r ≡ 0 = ap (λ (t : Ended). t.told.number) (sym w) ∙ h in absurd (omega (arith, number_not_zero r))

-- and tells its counts
counts_told :
    (e : Result Counts Refusal) (n : Counts) (z : Ended) → z ≡ ended_of e → e ≡ Ok n
    → (z.told.number ≡ 0) × ((z.lines ≡ n.lines) × ((z.groups ≡ n.tally.groups) × ((z.orders ≡ n.tally.orders) × (z.total ≡ n.tally.total))))
unfolding ended_of
counts_told e n z w a = let q = w ∙ ap ended_of a in rw q (refl, (refl, (refl, (refl, refl))))

-- a right file's answer
right_answer : (day : ℕ) (bytes : List ℕ) (w : RightBytes day bytes) → file_answer day bytes ≡ Ok (counts_in w.file)
right_answer day bytes w = (file_accepted_exactly day bytes (counts_in w.file)).1 (record { file = w.file; lines = sym w.lines; right = w.right; counts = refl })

-- accepted exactly when it is right
pub file_exactly : EveryWageFile (λ day bytes r. (r.told.number ≡ 0) ↔ RightBytes day bytes)
file_exactly κs a z w call =
    let day = a.0 in
    let bytes = a.1.0.now in (
      (λ (h : z.told.number ≡ 0).
          let e = accepted_end (file_answer day bytes) z call h in
          let l = (file_accepted_exactly day bytes e.0).0 e.1 in
          record { file = l.file; lines = sym l.lines; right = l.right }),
      (λ (v : RightBytes day bytes). (counts_told (file_answer day bytes) (counts_in v.file) z call (right_answer day bytes v)).0),
    )

-- and then its lines, groups and orders are told
pub file_counts : EveryWageFile (λ day bytes r. (w : RightBytes day bytes) → (r.lines ≡ length (lines_of w.file)) × ((r.groups ≡ length w.file.groups) × (r.orders ≡ orders_in w.file.groups)))
file_counts κs a z w call v =
    let c = (counts_told (file_answer a.0 a.1.0.now) (counts_in v.file) z call (right_answer a.0 a.1.0.now v)).1 in
    (c.0, (c.1.0, c.1.1.0))

-- and its total, exactly
pub file_total_lem : EveryWageFile (λ day bytes r. (w : RightBytes day bytes) → cents_of r.total ≡ amounts_in w.file.groups)
file_total_lem κs a z w call v =
    ap cents_of (counts_told (file_answer a.0 a.1.0.now) (counts_in v.file) z call (right_answer a.0 a.1.0.now v)).1.1.1.1 ∙ total_exact a.0 v.file v.right

-- ---------------------------------------------------------------------------
-- Whole, in parts and line by line

-- the judge that a record stands for
stands_for : (r : Record) (j : Judge) → r ≡ record_of j → judge_of r ≡ j
stands_for r j e = ap judge_of e ∙ record_told_back j

-- begun, its lines judged, and ended, it gets the same answer
pub file_in_steps :
    EveryJudgeBegin (λ day begun. EveryJudgeLines (λ «record» bytes after. «record» ≡ begun → EveryJudgeEnd (λ record' e. record' ≡ after →
    EveryWageFile (λ day' bytes' whole. day' ≡ day → bytes' ≡ bytes → whole ≡ e))))
file_in_steps κs a z w begins κs1 a1 z1 w1 judges e1 κs2 a2 z2 w2 ends e2 κs3 a3 z3 w3 answers sameDay sameBytes =
    let day = a.0 in
    let bytes = a1.1.0.now in
    let i : judge_of a1.0 ≡ begun day = stands_for a1.0 (begun day) (e1 ∙ begins) in
    let j : judge_of a2.0 ≡ steps (begun day) (pieces bytes) = stands_for a2.0 (steps (judge_of a1.0) (pieces bytes)) (e2 ∙ judges) ∙ ap (λ (k : Judge). steps k (pieces bytes)) i in
    rw (answers, ends, sameDay, sameBytes, j) (whole_is_begin_lines_end day bytes)

-- lines judged in two parts, the first of whole lines, are judged as one
pub lines_in_parts :
    EveryJudgeLines (λ «record» first between. length first % 1002 ≡ 0 → EveryJudgeLines (λ record' rest after. record' ≡ between →
    EveryJudgeLines (λ record'' bytes together. record'' ≡ «record» → bytes ≡ first ++ rest → together ≡ after)))
lines_in_parts κs a z w judges whole κs1 a1 z1 w1 goes_on e1 κs2 a2 z2 w2 at_once sameRecord sameBytes =
    let first = a.1.0.now in
    let rest = a1.1.0.now in
    let j : judge_of a1.0 ≡ steps (judge_of a.0) (pieces first) = stands_for a1.0 (steps (judge_of a.0) (pieces first)) (e1 ∙ judges) in
    rw (at_once, goes_on, sameRecord, sameBytes, j) (ap record_of (in_parts (judge_of a.0) first rest whole))

-- the pieces of one line
one_piece : (line : List ℕ) → length line ≡ 1002 → pieces line ≡ line ∷ []
unfolding pieces_of
one_piece line e =
    let short : length line ≤ 1002 = omega arith in
    pieces_first line (omega arith) ∙ rw (take_all 1002 line short, drop_of_length-le line short)

-- a line of 1,002 bytes judged by a step is judged as a part of one line
pub step_is_line : EveryJudgeStep (λ «record» line after. length line ≡ 1002 → EveryJudgeLines (λ record' bytes after'. record' ≡ «record» → bytes ≡ line → after' ≡ after))
unfolding steps
step_is_line κs a z w step whole κs1 a1 z1 w1 lines sameRecord sameBytes = rw (lines, step, sameRecord, sameBytes, one_piece a.1.0.now whole)

-- ---------------------------------------------------------------------------
-- Written

-- where it is asked first whether the fields are lent whole: the rest is accepted
sized : (fields : ℕ) (sizes text : List ℕ) (rest : Answer) → for_sizes fields sizes text rest ≡ Ok tt → rest ≡ Ok tt
sized fields sizes text rest = go (lent_whole fields sizes text)
  where
    go : (b : Bool) → cond b rest (Err (Size none)) ≡ Ok tt → rest ≡ Ok tt
    go true e = e
    go false e = let z : ◌≡◌ {A = ℕ} 0 1 = cc in absurd (omega arith)

-- a line at the front of the room, what is behind it as it was
record Front (line out after : List ℕ) : Type 0 where
  front : take 1002 after ≡ line
  behind : drop 1002 after ≡ drop 1002 out

-- where an accepted line stands
stands : {a : Answer} {line out : List ℕ} {z : Told} {after : List ℕ} → WritesLine a line out z after → a ≡ Ok tt → length line ≡ 1002 → Front line out after
stands {a} {line} {out} {z} {after} call e whole =
    let l : after ≡ line ++ drop 1002 out = rw e at call.leaves in
    record { front = rw l (take_at line (drop 1002 out) 1002 whole); behind = rw l (drop_at line (drop 1002 out) 1002 whole) }

-- from fields that are lent with their sizes
lent_stands :
    (fields : ℕ) (sizes text : List ℕ) (rest : Answer) (line out : List ℕ) (z : Told) (after : List ℕ) → WritesLine (for_sizes fields sizes text rest) line out z after → z.number ≡ 0
    → (rest ≡ Ok tt → length line ≡ 1002) → (rest ≡ Ok tt) × Front line out after
lent_stands fields sizes text rest line out z after call h whole =
    let e = (told_zero (for_sizes fields sizes text rest) z call.answers).0 h in
    let r = sized fields sizes text rest e in
    (r, stands call e (whole r))

-- a line of a type has 1,002 bytes
typed_whole : (t : LineType) (s : List ℕ) → typed_of s ≡ Ok t → length s ≡ 1002
typed_whole t s e = ((typed_exactly t s).0 e).whole

-- a 300
label_stands :
    (day : ℕ) (fs : List (List ℕ)) (sizes text : List ℕ) {out : List ℕ} {z : Told} {after : List ℕ}
    → WritesLine (for_sizes 8 sizes text (label_answer day fs (length out))) (label_draft day fs).line out z after → z.number ≡ 0
    → (label_answer day fs (length out) ≡ Ok tt) × Front (label_draft day fs).line out after
label_stands day fs sizes text call h = lent_stands 8 sizes text _ _ _ _ _ call h (λ e. typed_whole Label _ (round.written_label_right day _ fs e).typed)

-- a 309
order_stands :
    (day kind : ℕ) (fs : List (List ℕ)) (sizes text : List ℕ) {out : List ℕ} {z : Told} {after : List ℕ}
    → WritesLine (for_sizes 16 sizes text (order_answer day kind fs (length out))) (order_draft day kind fs).line out z after → z.number ≡ 0
    → (order_answer day kind fs (length out) ≡ Ok tt) × Front (order_draft day kind fs).line out after
order_stands day kind fs sizes text call h = lent_stands 16 sizes text _ _ _ _ _ call h (λ e. typed_whole Order _ (round.written_order_right day _ kind fs e).typed)

-- a 301
group_stands :
    (day kind : ℕ) (fs : List (List ℕ)) (sizes text orders : List ℕ) {out : List ℕ} {z : Told} {after : List ℕ}
    → WritesLine (for_sizes 5 sizes text (group_answer day kind fs orders (length out))) (group_draft day kind fs orders).line out z after → z.number ≡ 0
    → (group_answer day kind fs orders (length out) ≡ Ok tt) × Front (group_draft day kind fs orders).line out after
group_stands day kind fs sizes text orders call h = lent_stands 5 sizes text _ _ _ _ _ call h (λ e. typed_whole Group _ (round.written_group_right day _ kind fs orders e).head.typed)

-- what the writer of a 300 writes is right, and the room behind the line stays
pub written_label : EveryWriteLabel (λ day text sizes out r after. r.number ≡ 0 → RightLine day 0 Label (take 1002 after) × (drop 1002 after ≡ drop 1002 out))
written_label κs a z w call h = let l = label_stands _ _ _ _ call h in (rw l.1.front (round.written_label_right _ _ _ l.0), l.1.behind)

-- so of a 309
pub written_order : EveryWriteOrder (λ day kind text sizes out r after. r.number ≡ 0 → RightLine day kind Order (take 1002 after) × (drop 1002 after ≡ drop 1002 out))
written_order κs a z w call h = let l = order_stands _ _ _ _ _ call h in (rw l.1.front (round.written_order_right _ _ _ _ l.0), l.1.behind)

-- a 301 heads a right group of the lent orders
pub written_group_lem :
    EveryWriteGroup
    (λ day kind text sizes orders out r after.
    r.number ≡ 0 → RightGroup day kind (record { head = take 1002 after; orders = pieces orders }) × (drop 1002 after ≡ drop 1002 out))
written_group_lem κs a z w call h = let l = group_stands _ _ _ _ _ _ call h in (rw l.1.front (round.written_group_right _ _ _ _ _ l.0), l.1.behind)

-- and a 399 is one
pub written_closing : EveryWriteClosing (λ day out r after. r.number ≡ 0 → (typed_of (take 1002 after) ≡ Ok Closing) × (drop 1002 after ≡ drop 1002 out))
written_closing κs a z w call h =
    let l = stands call ((told_zero (closing_answer a.0 (length a.1.0.now)) z call.answers).0 h) (typed_whole Closing (bare_line Closing) round.written_closing_right) in
    (rw l.front round.written_closing_right, l.behind)

-- ---------------------------------------------------------------------------
-- Read back

-- the part that is told of a place is the place
pub wage_place_handed : EveryWagePlace (λ line n part. take part.length (drop part.start line) ≡ place_of line n)
wage_place_handed κs a part w call = rw call (part_is_place a.0.now a.1.0)

-- so of the same line and number
part_read_lem :
    (line line' : List ℕ) (n n' : ℕ) (part : Part) → part ≡ place_part line n → line ≡ line' → n ≡ n'
    → take part.length (drop part.start line) ≡ place_of line' n'
part_read_lem line line' n n' part p e f = rw (p, e, f) (part_is_place line' n')

-- a written 300 reads back as the same fields
pub label_reads_back :
    EveryWriteLabel (λ day text sizes out r after. r.number ≡ 0 → (k : ℕ) → k < length (spots Label) →
    EveryWagePlace (λ line n part. line ≡ take 1002 after → n ≡ (place_at Label k).field → take part.length (drop part.start line) ≡ get_or (fields_of sizes text) k []))
label_reads_back κs a z w call h k small κs1 a1 part w1 told sameLine sameField =
    let l = label_stands _ _ _ _ call h in
    part_read_lem _ _ _ _ part told (sameLine ∙ l.1.front) sameField ∙ round.written_label_reads_back _ _ _ l.0 k small

-- so does a 309
pub order_reads_back :
    EveryWriteOrder (λ day kind text sizes out r after. r.number ≡ 0 → (k : ℕ) → k < length (spots Order) →
    EveryWagePlace (λ line n part. line ≡ take 1002 after → n ≡ (place_at Order k).field → take part.length (drop part.start line) ≡ get_or (fields_of sizes text) k []))
order_reads_back κs a z w call h k small κs1 a1 part w1 told sameLine sameField =
    let l = order_stands _ _ _ _ _ call h in
    part_read_lem _ _ _ _ part told (sameLine ∙ l.1.front) sameField ∙ round.written_order_reads_back _ _ _ _ l.0 k small

-- and a 301 as the five that were lent, and the number and the sum of its orders
pub group_reads_back :
    EveryWriteGroup (λ day kind text sizes orders out r after. r.number ≡ 0 → (k : ℕ) → k < length (spots Group) →
    EveryWagePlace (λ line n part. line ≡ take 1002 after → n ≡ (place_at Group k).field →
    take part.length (drop part.start line) ≡ get_or (group_fields (fields_of sizes text) (length orders / 1002) (amounts (pieces orders))) k []))
group_reads_back κs a z w call h k small κs1 a1 part w1 told sameLine sameField =
    let l = group_stands _ _ _ _ _ _ call h in
    part_read_lem _ _ _ _ part told (sameLine ∙ l.1.front) sameField ∙ round.written_group_reads_back _ _ _ _ _ l.0 k small

-- ---------------------------------------------------------------------------
-- One behind the other

-- right lines in order, one behind the other, are an accepted file with its counts told
pub right_lines_accepted :
    EveryWageFile (λ day bytes r. (f : File) → RightFile day f → bytes ≡ joined (lines_of f) →
    (r.told.number ≡ 0) × ((r.lines ≡ length (lines_of f)) × ((r.groups ≡ length f.groups) × ((r.orders ≡ orders_in f.groups) × (r.total ≡ sum_of 1000 (amounts_in f.groups))))))
right_lines_accepted κs a z w call f right e =
    counts_told (file_answer a.0 a.1.0.now) (counts_in f) z call (ap (file_answer a.0) e ∙ round.right_file_accepted a.0 f right)

-- ---------------------------------------------------------------------------
-- Read, and written again

-- where the sizes are the text's, the rest accepts and its line is s, s is what is written
again :
    (fields : ℕ) (sizes text : List ℕ) (rest : Answer) (line out : List ℕ) (z : Told) (after s : List ℕ) → WritesLine (for_sizes fields sizes text rest) line out z after
    → lent_whole fields sizes text ≡ true → (rest ≡ Ok tt) × (line ≡ s) → length s ≡ 1002 → (z.number ≡ 0) × (take 1002 after ≡ s)
unfolding told_of
again fields sizes text rest line out z after s call lent e whole =
    let f : for_sizes fields sizes text rest ≡ (Ok tt) = rw (lent, e.0) in
    let t = call.answers ∙ ap told_of f in
    (rw t, (stands call f (ap length e.1 ∙ whole)).front ∙ e.1)

-- a right 300, whose places not read hold what the writer puts there, written again from its own parts is the same line
pub label_again :
    EveryWriteLabel (λ day text sizes out r after. (s : List ℕ) → is_date day ≡ true → 1002 ≤ length out → RightLine day 0 Label s → PlainElsewhere Label s →
    text ≡ joined (parts_of_line Label s) → sizes ≡ sizes_of Label → (r.number ≡ 0) × (take 1002 after ≡ s))
label_again κs a z w call s dated room right plain sameText sameSizes =
    let whole = typed_whole Label s right.typed in
    again 8 a.1.1.0.now a.1.0.now _ _ _ _ _ s call (rw (sameText, sameSizes) (round.read_label_lent_whole s whole))
    (rw (sameText, sameSizes) (round.label_again a.0 (length a.1.1.1.0.now) dated room s right plain)) whole

-- so is a 309 under kind 4 or 5
pub order_again :
    EveryWriteOrder (λ day kind text sizes out r after. (s : List ℕ) → is_date day ≡ true → (eqb kind 4 || eqb kind 5) ≡ true → 1002 ≤ length out → RightLine day kind Order s →
    PlainElsewhere Order s → text ≡ joined (parts_of_line Order s) → sizes ≡ sizes_of Order → (r.number ≡ 0) × (take 1002 after ≡ s))
order_again κs a z w call s dated known room right plain sameText sameSizes =
    let whole = typed_whole Order s right.typed in
    again 16 a.1.1.1.0.now a.1.1.0.now _ _ _ _ _ s call (rw (sameText, sameSizes) (round.read_order_lent_whole s whole))
    (rw (sameText, sameSizes) (round.order_again a.0 (length a.1.1.1.1.0.now) dated room s a.1.0 known right plain)) whole

-- and the 301 of a right group, from its five parts and its orders
pub group_again :
    EveryWriteGroup (λ day kind text sizes orders out r after. (s : List ℕ) → is_date day ≡ true → (eqb kind 4 || eqb kind 5) ≡ true → 1002 ≤ length out → length orders % 1002 ≡ 0 →
    RightGroup day kind (record { head = s; orders = pieces orders }) → PlainElsewhere Group s → text ≡ joined (five_parts s) → sizes ≡ five_sizes → (r.number ≡ 0) × (take 1002 after ≡ s))
group_again κs a z w call s dated known room lines right plain sameText sameSizes =
    let whole = typed_whole Group s right.head.typed in
    again 5 a.1.1.1.0.now a.1.1.0.now _ _ _ _ _ s call (rw (sameText, sameSizes) (round.read_five_lent_whole s whole))
    (rw (sameText, sameSizes) (round.group_again a.0 (length a.1.1.1.1.1.0.now) dated room a.1.0 known s a.1.1.1.1.0.now lines right plain)) whole
