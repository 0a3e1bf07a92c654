-- What W4 leaves as it was: under every model but HR69, and under HR69 of fewer than three parts, the answer is document 01's; and whatever moved
-- is a 5.
-- Assumes nothing.
use Rattle.refusal.proofs.Basics.{◌≡◌, refl, sym, ◌∙◌, arith, ℕ, ◌≤◌, length, lt-ltb, eqb-true, eqb-false, List, Bool, true, false, eqb, leb, ◌⊎◌, inl, inr}
use Rattle.std.specs.Prelude.{Option, Some, None, Ok, Err}
use Rattle.verdict.specs.Verdict.{Verdict, passed, only_if, and_then}
use Rattle.verdict.specs.declared.Fault.{Fault}
use Rattle.verdict.proofs.Verdicts.{fault_no_pass}
use Rattle.text.specs.Bytes.{bytes_verdict}
use Rattle.classes.specs.declared.Class.TheVariants.{Reference}
use Rattle.models.specs.declared.Model.{Model}
use Rattle.model_text.specs.Texts.{model_number}
use Rattle.models.specs.Models.{model_of, special_of}
use Rattle.models.proofs.Theorems.{only_69_asks}
use Rattle.parts.specs.Parts.{parts_of, formed}
use Rattle.part_contents.specs.Contents.{contents_right}
use Rattle.groups.specs.Groups.{groups_right}
use Rattle.reference.specs.Answers.{modelled_verdict, number_verdict, reference_verdict}
use Rattle.reference.specs.Before.{modelled_before, number_before, reference_before}

-- ---------------------------------------------------------------------------
-- Over every model and text

-- where one rule is followed by another, what is told of the second is told of both
then_either : (v w x : Verdict) → (w ≡ x) ⊎ (w ≡ Err Fault.Form) → (and_then v w ≡ and_then v x) ⊎ (and_then v w ≡ Err Fault.Form)
then_either (Ok u) w x h = h
then_either (Err f) w x h = inl refl

-- an answer that accepts did not move
kept : (v w : Verdict) → (v ≡ w) ⊎ (v ≡ Err Fault.Form) → v ≡ passed → w ≡ passed
kept v w (inl h) e = sym h ∙ e
kept v w (inr h) e = fault_no_pass Fault.Form (sym h ∙ e)

module _ (model : Model) (s : List ℕ) where
  -- where its parts hold what is asked, the answer is as before
  pub held_as_before : contents_right model (parts_of s) ≡ true → modelled_verdict model s ≡ modelled_before model s
  held_as_before e = rw e

  -- where they do not, it is as before or 5
  pub moved_to_five : (modelled_verdict model s ≡ modelled_before model s) ⊎ (modelled_verdict model s ≡ Err Fault.Form)
  moved_to_five =
      then_either (only_if model.handled Fault.Model) _ _
      (then_either (bytes_verdict Reference s) _ _
      (then_either (only_if (leb (length s) 22) Fault.Length) _ _
      (then_either (only_if (formed model s) Fault.Parts) _ _ (last (contents_right model (parts_of s))))))
    where
      last : (b : Bool) → (and_then (only_if b Fault.Form) (only_if (groups_right model.groups (parts_of s)) Fault.Digit) ≡ only_if (groups_right model.groups (parts_of s)) Fault.Digit) ⊎ (and_then (only_if b Fault.Form) (only_if (groups_right model.groups (parts_of s)) Fault.Digit) ≡ Err Fault.Form)
      last true = inl refl
      last false = inr refl

  -- so whatever is accepted was accepted before
  pub accepted_before : modelled_verdict model s ≡ passed → modelled_before model s ≡ passed
  accepted_before e = kept (modelled_verdict model s) (modelled_before model s) moved_to_five e

-- ---------------------------------------------------------------------------
-- Under each model's number

-- fewer than three parts are not asked under HR69
few_asked : (ps : List (List ℕ)) → length ps ≤ 2 → contents_right (model_of 69) ps ≡ true
unfolding model_of special_of
few_asked ps h = rw (lt-ltb (length ps) 3 (omega arith))

-- under a model's number, HR69 with three parts or more left out
pub number_as_before : (n : ℕ) (s : List ℕ) → (n ≡ 69 → length (parts_of s) ≤ 2) → modelled_verdict (model_of n) s ≡ modelled_before (model_of n) s
number_as_before n s h = held_as_before (model_of n) s (go (eqb n 69) refl)
  where
    go : (b : Bool) → eqb n 69 ≡ b → contents_right (model_of n) (parts_of s) ≡ true
    go true e = let z = eqb-true n 69 e in rw z (few_asked (parts_of s) (h z))
    go false e = rw (only_69_asks n (eqb-false n 69 e))

-- under a model's text: where the answer moved, it is 5
pub reference_moved : (m s : List ℕ) → (reference_verdict m s ≡ reference_before m s) ⊎ (reference_verdict m s ≡ Err Fault.Form)
reference_moved m s = go (model_number m)
  where
    go : (f : Option ℕ) → (number_verdict s f ≡ number_before s f) ⊎ (number_verdict s f ≡ Err Fault.Form)
    go (Some n) = moved_to_five (model_of n) s
    go None = inl refl

pub reference_accepted_before : (m s : List ℕ) → reference_verdict m s ≡ passed → reference_before m s ≡ passed
reference_accepted_before m s e = kept (reference_verdict m s) (reference_before m s) (reference_moved m s) e

-- and but for three parts under HR69 it did not move
pub reference_as_before : (m s : List ℕ) → (model_number m ≡ Some 69 → length (parts_of s) ≤ 2) → reference_verdict m s ≡ reference_before m s
reference_as_before m s h = go (model_number m) refl
  where
    go : (f : Option ℕ) → model_number m ≡ f → number_verdict s f ≡ number_before s f
    go (Some n) e = number_as_before n s (λ z. h (e ∙ rw z))
    go None e = refl
