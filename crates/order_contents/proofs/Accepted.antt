-- What acceptance of what only a 309 holds means: each verdict refuses nothing exactly when the place is what document 01 says.
-- Assumes nothing.
use Rattle.refusal.proofs.Basics.{◌≡◌, refl, sym, ◌∙◌, ℕ, length, get_or, eqb-true, List, Bool, true, false, cond, not, ◌&&◌, ◌||◌, false≢true, eqb, ◌↔◌}
use Rattle.std.specs.Prelude.{Option, Some, None}
use Rattle.verdict.specs.Verdict.{passed, only_if}
use Rattle.verdict.specs.declared.Fault.{Fault}
use Rattle.verdict.proofs.Verdicts.{both_pass, test_holds, test_exactly}
use Rattle.text.specs.Bytes.{bytes_verdict, first_bad, all_of, trimmed}
use Rattle.classes.specs.declared.Class.TheVariants.{Digits, Reference, Letters, Blanks, Description}
use Rattle.text.proofs.Blanks.{trimmed_blanks, trimmed_some}
use Rattle.model_text.specs.Texts.{model_number, model_from}
use Rattle.model_text.proofs.Theorems.{HandledModel, model_accepted_exactly}
use Rattle.reference.specs.Answers.{number_verdict}
use Rattle.reference.proofs.Theorems.{RightReference, reference_accepted_exactly}
use Rattle.codes.specs.Codes.{is_code}
use Rattle.sums.specs.Sums.{number_in}
use Rattle.order_contents.specs.declared.Held.TheVariants.{Blank}
use Rattle.wage_contents.specs.Contents.{tested, one_of}
use Rattle.order_contents.specs.Contents.{purpose_place_verdict, sign_verdict, held_from, held_in, held_blank, held_verdict, reference_held, description_verdict, code_verdict}
use Rattle.wage_contents.proofs.Accepted.{Exactly, after_bytes}

-- blank or letters
pub purpose_accepted : (f : List ℕ) → Exactly (purpose_place_verdict f) (all_of Blanks f || all_of Letters f)
unfolding purpose_place_verdict
purpose_accepted f = test_exactly (all_of Blanks f || all_of Letters f) Fault.Form

-- one of three bytes
pub sign_accepted : (a b c : ℕ) (f : List ℕ) → Exactly (sign_verdict a b c f) (one_of a b c (get_or f 0 0))
unfolding sign_verdict
sign_accepted a b c f = test_exactly (one_of a b c (get_or f 0 0)) Fault.Form

-- "A blank model needs a blank reference"
pub blank_model_accepted : (f : List ℕ) → Exactly (reference_held Blank f) (all_of Blanks f)
unfolding reference_held tested bytes_verdict first_bad
blank_model_accepted f = (
  (λ e. blank (all_of Blanks f) refl (eqb-true (length (trimmed f)) 0 (test_holds _ Fault.Parts (both_pass (bytes_verdict Reference (trimmed f)) (only_if (eqb (length (trimmed f)) 0) Fault.Parts) e).1))),
  (λ e. rw (trimmed_blanks f e)),
)
  where
    blank : (t : Bool) → all_of Blanks f ≡ t → length (trimmed f) ≡ 0 → t ≡ true
    blank true e z = refl
    blank false e z = absurd (trimmed_some f e z)

-- "model": blank, or `HR` and two digits of a handled model
pub model_accepted : (f : List ℕ) → (held_verdict (held_in f) ≡ passed) ↔ (all_of Blanks f ≡ false → HandledModel f)
unfolding held_in held_verdict
model_accepted f = go (all_of Blanks f)
  where
    by_number : (n : Option ℕ) → held_verdict (held_from n) ≡ model_from n
    by_number (Some n) = refl
    by_number None = refl

    go : (t : Bool) → (held_verdict (cond t Blank (held_from (model_number f))) ≡ passed) ↔ (t ≡ false → HandledModel f)
    go true = ((λ e q. absurd (false≢true (sym q))), (λ w. refl))
    go false = (
      (λ e q. (model_accepted_exactly f).0 (sym (by_number (model_number f)) ∙ e)),
      (λ w. by_number (model_number f) ∙ (model_accepted_exactly f).1 (w refl)),
    )

-- "Trailing blanks end a reference. A blank model needs a blank reference": m is the place of the reference's model
pub reference_accepted :
    (m f : List ℕ) →
    (reference_held (held_in m) f ≡ passed) ↔ ((all_of Blanks m ≡ true → all_of Blanks f ≡ true) × (all_of Blanks m ≡ false → RightReference m (trimmed f)))
unfolding held_in reference_held
reference_accepted m f = go (all_of Blanks m)
  where
    by_number : (n : Option ℕ) → reference_held (held_from n) f ≡ number_verdict (trimmed f) n
    by_number (Some n) = refl
    by_number None = refl

    go : (t : Bool) → (reference_held (cond t Blank (held_from (model_number m))) f ≡ passed) ↔ ((t ≡ true → all_of Blanks f ≡ true) × (t ≡ false → RightReference m (trimmed f)))
    go true = ((λ e. ((λ q. (blank_model_accepted f).0 e), (λ q. absurd (false≢true (sym q))))), (λ w. (blank_model_accepted f).1 (w.0 refl)))
    go false = (
      (λ e. ((λ q. absurd (false≢true q)), (λ q. (reference_accepted_exactly m (trimmed f)).0 (sym (by_number (model_number m)) ∙ e)))),
      (λ w. by_number (model_number m) ∙ (reference_accepted_exactly m (trimmed f)).1 (w.1 refl)),
    )

-- "not all blank"
pub description_accepted : (f : List ℕ) → Exactly (description_verdict f) (all_of Description f && not (all_of Blanks f))
unfolding description_verdict
description_accepted f = after_bytes Description f _ Fault.Form

-- a code, and with it the model that code 500 needs
pub code_accepted : (kind : ℕ) (blank : Bool) (f : List ℕ) → Exactly (code_verdict kind blank f) (all_of Digits f && (is_code (number_in f) && not (eqb kind 5 && (eqb (number_in f) 500 && blank))))
unfolding code_verdict
code_accepted kind blank f = after_bytes Digits f _ Fault.Form

-- a model's place holds nothing exactly when it is blank
held_blank_lem : (m : List ℕ) → held_blank (held_in m) ≡ all_of Blanks m
unfolding held_in
held_blank_lem m = go (all_of Blanks m) (model_number m)
  where
    go : (t : Bool) (n : Option ℕ) → held_blank (cond t Blank (held_from n)) ≡ t
    go true n = refl
    go false (Some n) = refl
    go false None = refl

-- "For kind 5, code 500 with a blank recipient's model is 5": m is the place of the recipient's model
pub code_modelled_accepted :
    (kind : ℕ) (m f : List ℕ) → Exactly (code_verdict kind (held_blank (held_in m)) f) (all_of Digits f && (is_code (number_in f) && not (eqb kind 5 && (eqb (number_in f) 500 && all_of Blanks m))))
code_modelled_accepted kind m f = rw (← held_blank_lem m) (code_accepted kind (held_blank (held_in m)) f)
