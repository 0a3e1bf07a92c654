-- What is promised of standing text: when it is accepted, whose text it is, where that stands, and that the slip's rule accepts it.
-- Assumes nothing.
use Rattle.refusal.proofs.Basics.{◌≡◌, refl, sym, ◌∙◌, ℕ, ◌+◌, ◌≤◌, arith, length, List, [], Bool, true, false, cond, ◌↔◌, false≢true}
use Rattle.verdict.specs.Verdict.{passed}
use Rattle.std.specs.Prelude.{Option, Some, None, Ok, Err}
use Rattle.refusal.specs.Refusal.{Answer, none}
use Rattle.text.specs.declared.Part.{Part}
use Rattle.refusal.specs.declared.Refusal.{Refusal}
use Rattle.refusal.proofs.Theorems.{refused_not_accepted}
use Rattle.slip_fields.specs.declared.Currency.TheVariants.{Euro}
use Rattle.slip_fields.specs.Fields.{field_verdict}
use Rattle.slip_fields.proofs.Theorems.{before_matters_to_12_alone}
use Rattle.sheet.specs.Sheet.{is_standing, bad_line, line_held}
use Rattle.sheet.specs.Claims.{fields_in, text_among, is_among, StandsAs, is_held}
use Rattle.sheet.proofs.Laws.{standing_within}
use Rattle.sheet.proofs.Theorems.{held_stands, held_where, empty_obeys, among_obeys, sheet_fields_right}
use Rattle.standing_text.specs.declared.Sheet.{Sheet}
use Rattle.standing_text.specs.declared.Sheet.TheVariants.{Neither, Farm, Association}
use Rattle.standing_text.specs.declared.Standing.{Standing}
use Rattle.standing_text.specs.Standing.{no_part, sheets_judged, supplied_by, after_sheets, both_judged, standing_of, bytes_from, standing_bytes, standing_text}
use Rattle.standing_text.proofs.Laws.{neither_bad}

-- ---------------------------------------------------------------------------
-- Accepted exactly when

-- what the sheets supply is accepted
supplied_accepted : (h h' : Option Part) → (supplied_by h h').answer ≡ Ok tt
unfolding supplied_by
supplied_accepted (Some p) h' = refl
supplied_accepted None (Some p) = refl
supplied_accepted None None = refl

-- what is answered, by whether the number is one of document 02's and by what both sheets are judged to be
abbrev pub asked : Bool → Answer → ℕ → List ℕ → List ℕ → Standing
asked t x n farm association =
    cond t (after_sheets (both_judged farm association).sheet x (supplied_by (line_held n farm) (line_held n association)))
    (record { sheet = Neither; answer = Err (Refusal.Field none); part = no_part })

module _ (n : ℕ) (farm association : List ℕ) where
  -- of a field with standing text, from two right sheets: what these supply
  pub standing_supplied : is_standing n ≡ true → bad_line farm ≡ 0 → bad_line association ≡ 0 → standing_of n farm association ≡ supplied_by (line_held n farm) (line_held n association)
  unfolding standing_of sheets_judged
  standing_supplied h f a = rw (h, f, a)

  -- the number is one of document 02's, and both sheets are right
  pub asked_exactly : ((standing_of n farm association).answer ≡ Ok tt) ↔ ((is_standing n ≡ true) × ((bad_line farm ≡ 0) × (bad_line association ≡ 0)))
  asked_exactly = (there, λ w. rw (standing_supplied w.0 w.1.0 w.1.1) (supplied_accepted (line_held n farm) (line_held n association)))
    where
      sheets : (x : Answer) → (both_judged farm association).answer ≡ x → (after_sheets (both_judged farm association).sheet x (supplied_by (line_held n farm) (line_held n association))).answer ≡ Ok tt → (bad_line farm ≡ 0) × (bad_line association ≡ 0)
      sheets (Ok u) g e = neither_bad (bad_line farm) (bad_line association) g
      sheets (Err r) g e = absurd (refused_not_accepted r e)

      go :
          (t : Bool) → is_standing n ≡ t
          → (asked t (both_judged farm association).answer n farm association).answer ≡ Ok tt
          → (is_standing n ≡ true) × ((bad_line farm ≡ 0) × (bad_line association ≡ 0))
      go true g e = (g, sheets (both_judged farm association).answer refl e)
      go false g e = absurd (refused_not_accepted _ e)

      there : (standing_of n farm association).answer ≡ Ok tt → (is_standing n ≡ true) × ((bad_line farm ≡ 0) × (bad_line association ≡ 0))
      there e = unfold standing_of in go (is_standing n) refl e

-- ---------------------------------------------------------------------------
-- Whose text it is

-- the bytes that two sheets supply
supplied_text :
    (h h' : Option Part) (farm association t t' : List ℕ) → StandsAs h farm t → StandsAs h' association t'
    → standing_bytes (supplied_by h h') farm association ≡ cond (is_held h) t t'
unfolding supplied_by bytes_from
supplied_text (Some p) h' farm association t t' w w' = w.1
supplied_text None (Some p) farm association t t' w w' = w'.1
supplied_text None None farm association t t' w w' = sym w'

-- the sheet that supplies them
supplied_sheet : (h h' : Option Part) → (supplied_by h h').sheet ≡ cond (is_held h) Farm (cond (is_held h') Association Neither)
unfolding supplied_by
supplied_sheet (Some p) h' = refl
supplied_sheet None (Some p) = refl
supplied_sheet None None = refl

module _ (n : ℕ) (farm association : List ℕ) (standing : is_standing n ≡ true) (f : bad_line farm ≡ 0) (a : bad_line association ≡ 0) where
  above : 0 + 1 ≤ n
  above = omega (arith, (standing_within n standing).0)

  -- "the farm's text if its sheet has that line, even if empty, otherwise the association's"
  pub standing_text_is : standing_text n farm association ≡ cond (is_among n (fields_in farm)) (text_among n (fields_in farm)) (text_among n (fields_in association))
  standing_text_is =
      rw (standing_supplied n farm association standing f a, ← (held_where n above farm))
      (supplied_text (line_held n farm) (line_held n association) farm association (text_among n (fields_in farm)) (text_among n (fields_in association)) (held_stands n above farm f) (held_stands n above association a))

  pub standing_sheet_is : (standing_of n farm association).sheet ≡ cond (is_among n (fields_in farm)) Farm (cond (is_among n (fields_in association)) Association Neither)
  standing_sheet_is =
      rw (standing_supplied n farm association standing f a, ← (held_where n above farm), ← (held_where n above association))
      (supplied_sheet (line_held n farm) (line_held n association))

-- ---------------------------------------------------------------------------
-- It lies within its sheet

-- the bytes of the sheet that a standing text is from; none where it is from neither
abbrev pub sheet_of : Sheet → List ℕ → List ℕ → List ℕ
sheet_of Neither farm association = []
sheet_of Farm farm association = farm
sheet_of Association farm association = association

supplied_within :
    (h h' : Option Part) (farm association t t' : List ℕ) → StandsAs h farm t → StandsAs h' association t'
    → (supplied_by h h').part.start + (supplied_by h h').part.length ≤ length (sheet_of (supplied_by h h').sheet farm association)
unfolding supplied_by
supplied_within (Some p) h' farm association t t' w w' = w.0
supplied_within None (Some p) farm association t t' w w' = w'.0
supplied_within None None farm association t t' w w' = omega arith

pub standing_part_within :
    (n : ℕ) (farm association : List ℕ)
    → (standing_of n farm association).part.start + (standing_of n farm association).part.length ≤ length (sheet_of (standing_of n farm association).sheet farm association)
unfolding standing_of
standing_part_within n farm association = go (is_standing n) refl (both_judged farm association).answer refl
  where
    go :
        (t : Bool) → is_standing n ≡ t → (x : Answer) → (both_judged farm association).answer ≡ x
        → (asked t x n farm association).part.start + (asked t x n farm association).part.length ≤ length (sheet_of (asked t x n farm association).sheet farm association)
    go false g x e = omega arith
    go true g (Err r) e = omega arith
    go true g (Ok u) e =
        let w = neither_bad (bad_line farm) (bad_line association) e in
        let z : 0 + 1 ≤ n = omega (arith, (standing_within n g).0) in
        supplied_within (line_held n farm) (line_held n association) farm association _ _ (held_stands n z farm w.0) (held_stands n z association w.1)

-- ---------------------------------------------------------------------------
-- The slip's rule accepts it

-- a refused question gives no text
no_bytes : (s : Sheet) (farm association : List ℕ) → bytes_from s no_part farm association ≡ []
unfolding bytes_from
no_bytes Neither farm association = refl
no_bytes Farm farm association = refl
no_bytes Association farm association = refl

pub refused_empty : (n : ℕ) (farm association : List ℕ) (r : Refusal) → (standing_of n farm association).answer ≡ Err r → standing_text n farm association ≡ []
unfolding standing_of
refused_empty n farm association r = go (is_standing n) (both_judged farm association).answer
  where
    go : (t : Bool) (x : Answer) → (asked t x n farm association).answer ≡ Err r → standing_bytes (asked t x n farm association) farm association ≡ []
    go false x e = no_bytes Neither farm association
    go true (Err q) e = no_bytes (both_judged farm association).sheet farm association
    go true (Ok u) e = absurd (refused_not_accepted r (sym e ∙ supplied_accepted (line_held n farm) (line_held n association)))

-- what is answered for a field obeys that field's rule, whatever stands before it
pub standing_obeys : (n : ℕ) (m farm association : List ℕ) → is_standing n ≡ true → field_verdict Euro n m (standing_text n farm association) ≡ passed
standing_obeys n m farm association h =
    before_matters_to_12_alone Euro n m [] (standing_text n farm association) not_twelve ∙ go (standing_of n farm association).answer refl
  where
    not_twelve : n ≡ 12 → ⊥
    not_twelve e = false≢true (unfold is_standing in rw e at h)

    go : (x : Answer) → (standing_of n farm association).answer ≡ x → field_verdict Euro n [] (standing_text n farm association) ≡ passed
    go (Err r) e = rw (refused_empty n farm association r e) (empty_obeys n h)
    go (Ok u) e =
        let w = (asked_exactly n farm association).0 e in
        rw (standing_text_is n farm association h w.1.0 w.1.1)
        (either (is_among n (fields_in farm)) (text_among n (fields_in farm)) (text_among n (fields_in association)) (among_obeys n 0 (fields_in farm) h (sheet_fields_right farm w.1.0)) (among_obeys n 0 (fields_in association) h (sheet_fields_right association w.1.1)))
      where
        either : (t : Bool) (x y : List ℕ) → field_verdict Euro n [] x ≡ passed → field_verdict Euro n [] y ≡ passed → field_verdict Euro n [] (cond t x y) ≡ passed
        either true x y f g = f
        either false x y f g = g
