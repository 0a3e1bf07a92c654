-- The fields that the code fills by what reading both sheets found are those of the definition, and what the call answers.
-- Assumes nothing.
use Rattle.refusal.proofs.Basics.{◌≡◌, refl, sym, ap, ◌∙◌, ℕ, length, List, [], true, false, cond, ◌&&◌, eqb, eqb-true, ne_eqb, and-false, Bool}
use Rattle.std.specs.Prelude.{Result, Ok, Err}
use Rattle.refusal.specs.declared.Refusal.{Refusal}
use Rattle.refusal.specs.declared.Refusal.TheVariants.{Size}
use Rattle.refusal.specs.Refusal.{none}
use Rattle.lent_fields.specs.Fields.{given_of, lent_whole}
use Rattle.slip_fields.proofs.Plain.{no_byte}
use Rattle.slip_writer.specs.Steps.{WritesSlip}
use Rattle.sheet.specs.Sheet.{is_standing, bad_line}
use Rattle.sheet.specs.Mirror.{lines_of, held_in}
use Rattle.sheet.specs.declared.Lines.{Lines}
use Rattle.sheet.proofs.Tables.{held_told}
use Rattle.standing_text.specs.declared.Sheet.{Sheet}
use Rattle.standing_text.specs.declared.Judged.{Judged}
use Rattle.standing_text.specs.Standing.{supplied_by, both_judged, standing_of, bytes_from, standing_text, standing_bytes}
use Rattle.standing_text.proofs.Laws.{neither_bad}
use Rattle.standing_text.proofs.Theorems.{standing_supplied}
use Rattle.standing_slip.specs.Filled.{filled_field, filled_fields, standing_slip, WritesStanding}
use Rattle.standing_slip.specs.Steps.{field_by, fields_by}

-- ---------------------------------------------------------------------------
-- One field, as the code goes

module _ (n : ℕ) (given : List ℕ) (f a : Lines) (farm association : List ℕ) where
  -- a field that is given
  pub field_given : (length given ≡ 0 → ⊥) → given ≡ field_by n given f a farm association
  unfolding field_by
  field_given h = rw (ne_eqb (length given) 0 h)

  -- one without standing text
  pub field_alone : is_standing n ≡ false → given ≡ field_by n given f a farm association
  unfolding field_by
  field_alone h = rw (h, and-false (eqb (length given) 0))

  -- one that the sheets supply
  pub field_supplied : (s : List ℕ) → length given ≡ 0 → is_standing n ≡ true → s ≡ standing_bytes (supplied_by (held_in f n) (held_in a n)) farm association → s ≡ field_by n given f a farm association
  unfolding field_by
  field_supplied s e h g = rw (e, h) g

-- ---------------------------------------------------------------------------
-- It is the definition's, where both sheets are right

-- a field without standing text has none
no_standing : (n : ℕ) (farm association : List ℕ) → is_standing n ≡ false → standing_text n farm association ≡ []
unfolding standing_of bytes_from
no_standing n farm association h = rw h

module _ (farm association : List ℕ) (right : bad_line farm ≡ 0) (right' : bad_line association ≡ 0) where
  field_filled : (n : ℕ) (given : List ℕ) → field_by n given (lines_of farm) (lines_of association) farm association ≡ filled_field n given farm association
  unfolding field_by
  field_filled n given = go (eqb (length given) 0) (is_standing n) refl refl
    where
      go :
          (t u : Bool) → eqb (length given) 0 ≡ t → is_standing n ≡ u
          → cond (t && u) (standing_bytes (supplied_by (held_in (lines_of farm) n) (held_in (lines_of association) n)) farm association) given ≡ cond t (standing_text n farm association) given
      go true true e h = rw (standing_supplied n farm association h right right', held_told farm n h right, held_told association n h right')
      go true false e h = no_byte given (eqb-true (length given) 0 e) ∙ sym (no_standing n farm association h)
      go false u e h = refl

  pub fields_filled : (sizes text : List ℕ) → fields_by sizes text (lines_of farm) (lines_of association) farm association ≡ filled_fields sizes text farm association
  fields_filled sizes text =
      rw (field_filled 4 (given_of sizes text 0), field_filled 5 (given_of sizes text 1), field_filled 6 (given_of sizes text 2), field_filled 7 (given_of sizes text 3), field_filled 8 (given_of sizes text 4), field_filled 9 (given_of sizes text 5), field_filled 10 (given_of sizes text 6), field_filled 11 (given_of sizes text 7), field_filled 12 (given_of sizes text 8), field_filled 13 (given_of sizes text 9), field_filled 14 (given_of sizes text 10))

-- ---------------------------------------------------------------------------
-- What the call answers

module _ (cents : ℕ) (sizes text farm association out : List ℕ) where
  -- the sizes are not the text's
  pub unsized : lent_whole 11 sizes text ≡ false → WritesStanding cents sizes text farm association out (record { sheet = Sheet.Neither; written = Err (Size none) }) out
  unfolding standing_slip
  unsized h = record { answers = rw h; leaves = refl }

  module _ (whole : lent_whole 11 sizes text ≡ true) (j : Judged) (judged : j ≡ both_judged farm association) where
    -- a sheet is malformed
    pub sheets_refused : (r : Refusal) → j.answer ≡ Err r → WritesStanding cents sizes text farm association out (record { sheet = j.sheet; written = Err r }) out
    unfolding standing_slip
    sheets_refused r e = record { answers = rw (whole, ← judged, e); leaves = refl }

    -- both are right: the writer's answer
    pub sheets_right :
        (w : Result ℕ Refusal) (after : List ℕ) → j.answer ≡ Ok tt → WritesSlip cents (fields_by sizes text (lines_of farm) (lines_of association) farm association) out w after
        → WritesStanding cents sizes text farm association out (record { sheet = Sheet.Neither; written = w }) after
    unfolding standing_slip
    sheets_right w after e v =
        let x = neither_bad (bad_line farm) (bad_line association) (ap (λ (y : Judged). y.answer) (sym judged) ∙ e) in
        let f = fields_filled farm association x.0 x.1 sizes text in
        record { answers = rw (whole, ← judged, e, ← f) (ap (λ (y : Result ℕ Refusal). record { sheet = Sheet.Neither; written = y }) v.0); leaves = rw (← f) v.1 }
