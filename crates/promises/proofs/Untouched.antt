-- Demand 1: "A refusal .. writes to none of the lent memory", of the calls that are lent memory to write (the listings': Listings.antt); and fields that are not lent whole are
-- refused. Assumes nothing.
use Rattle.refusal.proofs.Basics.{◌≡◌, refl, ap, ◌∙◌, ℕ, length, take, ne_eqb, List, Bool, true, false, cond}
use Rattle.std.specs.Prelude.{Err, Ok, Result}
use Rattle.refusal.specs.Refusal.{Answer, none}
use Rattle.refusal.specs.declared.Refusal.{Refusal}
use Rattle.refusal.specs.declared.Refusal.TheVariants.{Size}
use Rattle.filling.specs.Filling.{filled_answer, filled_by}
use Rattle.slip_writer.specs.Writer.{write_answer, slip_text, left_by_slip}
use Rattle.lent_fields.specs.Fields.{together, lent_whole, for_sizes}
use Rattle.line_room.specs.LineRoom.{left_by_line}
use Rattle.boundary.specs.declared.Told.{Told}
use Rattle.boundary.specs.declared.Valued.{Valued}
use Rattle.boundary.specs.Told.{refusal, told_of, value_told, valued}
use Rattle.standing_slip.specs.Filled.{eleven_of, standing_slip}
use Rattle.desk_standing.specs.declared.StandingWritten.{StandingWritten}
use Rattle.desk_standing.specs.Standings.{sheet_number, written_told}
use Rattle.desk_writers.specs.Writes.{WritesLine}
use Rattle.promises.specs.Calls.{EveryFilled, EverySlipWrite, EverySlipWriteStanding, EveryWriteLabel, EveryWriteOrder, EveryWriteGroup, EveryWriteClosing}

-- ---------------------------------------------------------------------------
-- Wet slips

-- what an answer leaves, where a refusal leaves all as it was
kept : (left : Answer → List ℕ) (out : List ℕ) → ((r : Refusal) → left (Err r) ≡ out) → (a : Answer) (z : Told) (after : List ℕ) → z ≡ told_of a → after ≡ left a → (z.number ≡ 0 → ⊥) → after ≡ out
unfolding told_of
kept left out keeps (Ok u) z after e w h = absurd (h (ap (λ (t : Told). t.number) e))
kept left out keeps (Err r) z after e w h = w ∙ keeps r

pub filled_untouched : EveryFilled (λ text number out r after. (r.number ≡ 0 → ⊥) → after ≡ out)
filled_untouched κs a z w call =
    let text = a.0.now in
    let out = a.1.1.0.now in
    kept (λ (x : Answer). filled_by x text a.1.0 out) out (λ r. refl) (filled_answer text (length out)) z w.1.1.0 call.0 call.1

-- ---------------------------------------------------------------------------
-- Slips

-- what a slip leaves
slip_kept : (x : Result ℕ Refusal) (s out after : List ℕ) (z : Valued) → z ≡ value_told x → after ≡ left_by_slip x s out → (z.told.number ≡ 0 → ⊥) → after ≡ out
unfolding value_told
slip_kept (Ok n) s out after z e w h = absurd (h (ap (λ (v : Valued). v.told.number) e))
slip_kept (Err r) s out after z e w h = w

-- where it is asked first whether the fields are lent whole
whole_kept :
    (b : Bool) (x : Result ℕ Refusal) (s out after : List ℕ) (z : Valued) → z ≡ cond b (value_told x) (valued (refusal (Size none)) 0) → after ≡ cond b (left_by_slip x s out) out
    → (z.told.number ≡ 0 → ⊥) → after ≡ out
whole_kept true x s out after z e w h = slip_kept x s out after z e w h
whole_kept false x s out after z e w h = w

pub slip_write_untouched : EverySlipWrite (λ cents text sizes out r after. (r.told.number ≡ 0 → ⊥) → after ≡ out)
slip_write_untouched κs a z w call =
    let fields = eleven_of a.1.1.0.now a.1.0.now in
    let out = a.1.1.1.0.now in
    whole_kept (lent_whole 11 a.1.1.0.now a.1.0.now) (write_answer a.0 fields (length out)) (slip_text a.0 fields) out w.1.1.1.0 z call.answers call.leaves

pub slip_write_standing_untouched : EverySlipWriteStanding (λ cents text sizes farm association out r after. (r.told.number ≡ 0 → ⊥) → after ≡ out)
unfolding written_told
slip_write_standing_untouched κs a z w call h =
    let out = a.1.1.1.1.1.0.now in
    let s = standing_slip a.0 a.1.1.0.now a.1.0.now a.1.1.1.0.now a.1.1.1.1.0.now (length out) in
    slip_kept s.written _ out w.1.1.1.1.1.0 (value_told s.written) refl call.leaves (λ e. h (ap (λ (t : StandingWritten). t.told.number) call.answers ∙ e))

-- ---------------------------------------------------------------------------
-- Wage lines

-- what a line leaves
line_kept : {x : Answer} {line out : List ℕ} {z : Told} {after : List ℕ} → WritesLine x line out z after → (z.number ≡ 0 → ⊥) → after ≡ out
line_kept {x} {line} {out} {z} {after} call = kept (λ (y : Answer). left_by_line y line out) out (λ r. refl) x z after call.answers call.leaves

pub write_label_untouched : EveryWriteLabel (λ day text sizes out r after. (r.number ≡ 0 → ⊥) → after ≡ out)
write_label_untouched κs a z w call = line_kept call

pub write_order_untouched : EveryWriteOrder (λ day kind text sizes out r after. (r.number ≡ 0 → ⊥) → after ≡ out)
write_order_untouched κs a z w call = line_kept call

pub write_group_untouched : EveryWriteGroup (λ day kind text sizes orders out r after. (r.number ≡ 0 → ⊥) → after ≡ out)
write_group_untouched κs a z w call = line_kept call

pub write_closing_untouched : EveryWriteClosing (λ day out r after. (r.number ≡ 0 → ⊥) → after ≡ out)
write_closing_untouched κs a z w call = line_kept call

-- ---------------------------------------------------------------------------
-- Fields lent whole: where the sizes are not together the text's, the answer is 1 at no place, before every other refusal

-- the sizes of so many fields are not the text's
not_whole : (fields : ℕ) (sizes text : List ℕ) → (together (take fields sizes) ≡ length text → ⊥) → lent_whole fields sizes text ≡ false
unfolding lent_whole
not_whole fields sizes text h = ne_eqb (together (take fields sizes)) (length text) h

pub slip_write_lent_whole : EverySlipWrite (λ cents text sizes out r after. (together (take 11 sizes) ≡ length text → ⊥) → (r ≡ valued (refusal (Size none)) 0) × (after ≡ out))
slip_write_lent_whole κs a z w call h = let n = not_whole 11 a.1.1.0.now a.1.0.now h in (rw n at call.answers, rw n at call.leaves)

pub slip_write_standing_lent_whole :
    EverySlipWriteStanding (λ cents text sizes farm association out r after. (together (take 11 sizes) ≡ length text → ⊥) →
    (r.told ≡ refusal (Size none)) × ((r.value ≡ 0) × ((r.sheet ≡ 0) × (after ≡ out))))
unfolding written_told standing_slip sheet_number value_told
slip_write_standing_lent_whole κs a z w call h =
    let n = not_whole 11 a.1.1.0.now a.1.0.now h in
    (rw (call.answers, n), (rw (call.answers, n), (rw (call.answers, n), rw n at call.leaves)))

-- of a line whose fields are not lent whole
line_not_whole :
    (fields : ℕ) (sizes text : List ℕ) (rest : Answer) (line out : List ℕ) (z : Told) (after : List ℕ) → WritesLine (for_sizes fields sizes text rest) line out z after
    → (together (take fields sizes) ≡ length text → ⊥) → (z ≡ refusal (Size none)) × (after ≡ out)
unfolding told_of
line_not_whole fields sizes text rest line out z after call h = let n = not_whole fields sizes text h in (rw n at call.answers, rw n at call.leaves)

pub write_label_lent_whole : EveryWriteLabel (λ day text sizes out r after. (together (take 8 sizes) ≡ length text → ⊥) → (r ≡ refusal (Size none)) × (after ≡ out))
write_label_lent_whole κs a z w call = line_not_whole 8 _ _ _ _ _ _ _ call

pub write_order_lent_whole : EveryWriteOrder (λ day kind text sizes out r after. (together (take 16 sizes) ≡ length text → ⊥) → (r ≡ refusal (Size none)) × (after ≡ out))
write_order_lent_whole κs a z w call = line_not_whole 16 _ _ _ _ _ _ _ call

pub write_group_lent_whole : EveryWriteGroup (λ day kind text sizes orders out r after. (together (take 5 sizes) ≡ length text → ⊥) → (r ≡ refusal (Size none)) × (after ≡ out))
write_group_lent_whole κs a z w call = line_not_whole 5 _ _ _ _ _ _ _ call
