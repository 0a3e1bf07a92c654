-- Demand 2, slips: accepted exactly when; written, and read back; read, and written again. Of the calls `lanecockle_slip_read`, `lanecockle_slip_field`,
-- `lanecockle_slip_cents` and `lanecockle_slip_write`. Assumes nothing.
use Rattle.refusal.proofs.Basics.{◌≡◌, refl, ap, ◌∙◌, arith, ℕ, zero, suc, ◌+◌, ◌-◌, ◌<◌, ◌≤◌, length, get_or, take, drop, List, [], ◌∷◌, ◌++◌, map, Memᴰ, Bool, true, false, cond, take-append_seam, drop-append_seam, zero-add, add-zero, ◌↔◌}
use Rattle.std.specs.Prelude.{Err, Ok, Some, Result}
use Rattle.refusal.specs.declared.Refusal.{Refusal}
use Rattle.refusal.specs.Refusal.{none, refusal_number}
use Rattle.refusal.specs.declared.Refusal.TheVariants.{Size}
use Rattle.text.specs.Split.{joined}
use Rattle.check_digits.specs.CheckDigit.{passes}
use Rattle.models.specs.declared.Group.{Group}
use Rattle.models.specs.Models.{model_of}
use Rattle.model_text.specs.Texts.{model_number}
use Rattle.parts.specs.Parts.{parts_of}
use Rattle.groups.specs.Groups.{present}
use Rattle.slip_fields.specs.declared.Currency.TheVariants.{Euro}
use Rattle.slip.specs.Slip.{slip_answer}
use Rattle.slip.proofs.Theorems.{field_text}
use Rattle.slip.proofs.Plain.{PlainSlip, accepted_plainly, accepted_groups_pass}
use Rattle.slip_handed.specs.Handed.{amount_of, field_of, slip_cents}
use Rattle.slip_writer.specs.Writer.{slip_text, write_answer, left_by_slip}
use Rattle.slip_writer.specs.Claims.{ReadsBack, slip_fields}
use Rattle.slip_writer.proofs.Theorems.{bytes_counted, written_is_accepted, read_and_written_again, accepted_is_written}
use Rattle.lent_fields.specs.Fields.{fields_of, given_of, lent_whole}
use Rattle.lent_fields.proofs.Laws.{fields_joined, joined_lent_whole}
use Rattle.boundary.specs.declared.Valued.{Valued}
use Rattle.boundary.specs.Told.{accepted, refusal, value_told, valued}
use Rattle.boundary.proofs.Theorems.{number_not_zero}
use Rattle.standing_slip.specs.Filled.{eleven_of}
use Rattle.desk_slips.specs.Slips.{WritesSlipGiven}
use Rattle.desk_slips.proofs.Theorems.{part_is_field}
use Rattle.promises.specs.Calls.{EverySlipRead, EverySlipField, EverySlipCents, EverySlipWrite}
use Rattle.promises.proofs.Laws.{told_zero}

-- ---------------------------------------------------------------------------
-- Read

-- a slip is accepted exactly when it is as document 01 asks
pub slip_exactly : EverySlipRead (λ slip r. (r.number ≡ 0) ↔ PlainSlip Euro slip)
slip_exactly κs a z w call =
    let zero = told_zero _ z call in
    let plainly = accepted_plainly Euro a.0.now in
    (λ h. plainly.0 (zero.0 h), λ p. zero.1 (plainly.1 p))

-- of an accepted slip's reference each check group that has parts there ends in its check digit
pub slip_groups_pass :
    EverySlipRead (λ slip r. r.number ≡ 0 → (n : ℕ) → model_number (field_text slip 11) ≡ Some n → (g : Group) → Memᴰ g (model_of n).groups →
    let here = present g (parts_of (field_text slip 12)) in (here ≡ [] → ⊥) → passes g.rule (joined here) ≡ true)
slip_groups_pass κs a z w call h = accepted_groups_pass Euro a.0.now ((told_zero _ z call).0 h)

-- the part that is told of a field is the field
pub slip_field_handed : EverySlipField (λ slip n part. take part.length (drop part.start slip) ≡ field_of slip n)
slip_field_handed κs a z w call = rw call (part_is_field a.0.now a.1.0)

-- the amount that is told of an accepted slip
pub cents_told_lem : (s : List ℕ) → slip_answer s ≡ Ok tt → value_told (slip_cents s) ≡ valued accepted (amount_of s)
unfolding value_told
cents_told_lem s e = rw e

-- ---------------------------------------------------------------------------
-- Written, and read back

-- what was written: a slip at the front of the room that reads back as what was given, and all behind it as it was
pub record Wrote (cents : ℕ) (fields : List (List ℕ)) (out : List ℕ) (n : ℕ) (after : List ℕ) : Type 0 where
  pub back : ReadsBack cents fields n
  pub within : n ≤ length out
  pub front : take n after ≡ slip_text cents fields
  pub rest : drop n after ≡ drop n out

module _ (cents : ℕ) (fields : List (List ℕ)) (all : length fields ≡ 11) (out : List ℕ) (z : Valued) (after : List ℕ) (h : z.told.number ≡ 0) where
  bytes_wrote : (n : ℕ) → write_answer cents fields (length out) ≡ Ok n → after ≡ slip_text cents fields ++ drop (length (slip_text cents fields)) out → Wrote cents fields out n after
  bytes_wrote n q w =
      let s = slip_text cents fields in
      let b = written_is_accepted cents fields (length out) n all q in
      record {
        back = b;
        within = (bytes_counted cents fields (length out) n q).fits;
        front = rw (b.size, w) (take-append_seam s (drop (length s) out));
        rest = rw (b.size, w) (drop-append_seam s (drop (length s) out));
      }

  pub answer_wrote : (x : Result ℕ Refusal) → write_answer cents fields (length out) ≡ x → z ≡ value_told x → after ≡ left_by_slip x (slip_text cents fields) out → Wrote cents fields out z.value after
  unfolding value_told
  answer_wrote (Ok n) q e w = rw e (bytes_wrote n q w)
  answer_wrote (Err r) q e w = let k : refusal_number r ≡ 0 = rw e at h in absurd (omega (arith, number_not_zero r))

  whole_wrote :
      (b : Bool) → z ≡ cond b (value_told (write_answer cents fields (length out))) (valued (refusal (Size none)) 0)
      → after ≡ cond b (left_by_slip (write_answer cents fields (length out)) (slip_text cents fields) out) out → Wrote cents fields out z.value after
  whole_wrote true e w = answer_wrote (write_answer cents fields (length out)) refl e w
  whole_wrote false e w = let k : ◌≡◌ {A = ℕ} 1 0 = rw e at h in absurd (omega arith)

-- by a call that accepted
wrote : {cents : ℕ} {sizes text out : List ℕ} {z : Valued} {after : List ℕ} → WritesSlipGiven cents sizes text out z after → z.told.number ≡ 0 → Wrote cents (eleven_of sizes text) out z.value after
wrote {cents} {sizes} {text} {out} {z} {after} call h = whole_wrote cents (eleven_of sizes text) refl out z after h (lent_whole 11 sizes text) call.answers call.leaves

-- the slip that was written: at the front of the room, and all behind it as it was
pub slip_written_in_front : EverySlipWrite (λ cents text sizes out r after. r.told.number ≡ 0 → (r.value ≤ length out) × (drop r.value after ≡ drop r.value out))
slip_written_in_front κs a z w call h = let s = wrote call h in (s.within, s.rest)

-- what was written is accepted, and reads back as its amount and its fields
module _ {cents : ℕ} {fields : List (List ℕ)} {out : List ℕ} {n : ℕ} {after : List ℕ} (s : Wrote cents fields out n after) where
  pub reads_accepted : EverySlipRead (λ slip q. slip ≡ take n after → q.number ≡ 0)
  reads_accepted κs a z w call e = (told_zero _ z call).1 (ap slip_answer (e ∙ s.front) ∙ s.back.accepted)

  pub reads_cents : EverySlipCents (λ slip q. slip ≡ take n after → q ≡ valued accepted cents)
  reads_cents κs a z w call e =
      call ∙ (ap (λ (x : List ℕ). value_told (slip_cents x)) (e ∙ s.front) ∙ (cents_told_lem _ s.back.accepted ∙ ap (λ (k : ℕ). valued accepted k) s.back.amount))

  pub reads_field : EverySlipField (λ slip k part. slip ≡ take n after → 4 ≤ k → k ≤ 14 → take part.length (drop part.start slip) ≡ get_or fields (k - 4) [])
  reads_field κs a z w call e l u =
      let k = a.1.0 in
      slip_field_handed κs a z w call ∙ (ap (λ (x : List ℕ). field_of x k) (e ∙ s.front) ∙ s.back.texts k l u)

-- is accepted
pub slip_written_is_accepted : EverySlipWrite (λ cents text sizes out r after. r.told.number ≡ 0 → EverySlipRead (λ slip q. slip ≡ take r.value after → q.number ≡ 0))
slip_written_is_accepted κs a z w call h = reads_accepted (wrote call h)

-- and reads back as the same amount
pub slip_written_same_cents : EverySlipWrite (λ cents text sizes out r after. r.told.number ≡ 0 → EverySlipCents (λ slip q. slip ≡ take r.value after → q ≡ valued accepted cents))
slip_written_same_cents κs a z w call h = reads_cents (wrote call h)

-- the values of f at k places from n on
abbrev listed : (ℕ → List ℕ) → ℕ → ℕ → List (List ℕ)
listed f n zero = []
listed f n (suc k) = f n ∷ listed f (n + 1) k

listed_at : (f : ℕ → List ℕ) (n k i : ℕ) → i < k → get_or (listed f n k) i [] ≡ f (n + i)
listed_at f n zero i h = absurd (omega arith)
listed_at f n (suc k) zero h = rw (add-zero n)
listed_at f n (suc k) (suc i) h = let z : n + suc i ≡ n + 1 + i = omega arith in rw z (listed_at f (n + 1) k i (omega arith))

-- a field that was given
pub given_at : (sizes text : List ℕ) (k : ℕ) → k < 11 → get_or (eleven_of sizes text) k [] ≡ get_or (fields_of sizes text) k []
unfolding given_of
given_at sizes text k h = listed_at (λ (i : ℕ). get_or (fields_of sizes text) i []) 0 11 k h ∙ rw (zero-add k)

-- and the same fields
pub slip_written_same_fields :
    EverySlipWrite (λ cents text sizes out r after. r.told.number ≡ 0 →
    EverySlipField (λ slip n part. slip ≡ take r.value after → 4 ≤ n → n ≤ 14 → take part.length (drop part.start slip) ≡ get_or (fields_of sizes text) (n - 4) []))
slip_written_same_fields κs a z w call h κs' a' z' w' call' e l u =
    let n = a'.1.0 in
    reads_field (wrote call h) κs' a' z' w' call' e l u ∙ given_at a.1.1.0.now a.1.0.now (n - 4) (omega arith)

-- ---------------------------------------------------------------------------
-- Read, and written again

-- the fields of a slip, lent one behind the other, are those fields
fields_again : (slip : List ℕ) → eleven_of (map length (slip_fields slip)) (joined (slip_fields slip)) ≡ slip_fields slip
unfolding given_of
fields_again slip = rw (fields_joined (slip_fields slip))

-- by the amount that was read
written_again :
    (slip out : List ℕ) (z : Valued) (after : List ℕ) → slip_answer slip ≡ Ok tt → length slip ≤ length out
    → WritesSlipGiven (amount_of slip) (map length (slip_fields slip)) (joined (slip_fields slip)) out z after → (z ≡ valued accepted (length slip)) × (take (length slip) after ≡ slip)
unfolding value_told
written_again slip out z after e fits call =
    let whole = joined_lent_whole (slip_fields slip) in
    let again = accepted_is_written slip (length out) e fits in
    let same = (read_and_written_again slip e).same in
    let left : after ≡ slip ++ drop (length slip) out = rw (whole, fields_again slip, again, same) at call.leaves in
    (rw (whole, fields_again slip, again) at call.answers, rw left (take-append_seam slip (drop (length slip) out)))

-- an accepted slip, written again from its own amount and fields into enough room, has the same bytes
pub slip_written_again :
    EverySlipRead (λ slip r. r.number ≡ 0 →
    EverySlipCents (λ slip' c. slip' ≡ slip →
    EverySlipWrite (λ cents text sizes out q after. cents ≡ c.value → text ≡ joined (slip_fields slip) → sizes ≡ map length (slip_fields slip) → length slip ≤ length out →
    (q ≡ valued accepted (length slip)) × (take (length slip) after ≡ slip))))
slip_written_again κs a z w call h κs' a' z' w' call' same κs'' a'' z'' w'' call'' cents text sizes fits =
    let slip = a.0.now in
    let e = (told_zero _ z call).0 h in
    let told : z' ≡ valued accepted (amount_of slip) = call' ∙ (ap (λ (x : List ℕ). value_told (slip_cents x)) same ∙ cents_told_lem slip e) in
    let amount : a''.0 ≡ amount_of slip = cents ∙ ap (λ (v : Valued). v.value) told in
    written_again slip a''.1.1.1.0.now z'' w''.1.1.1.0 e fits (rw (amount, text, sizes) at call'')
