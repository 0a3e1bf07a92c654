-- What is promised of references, over every model, every list of groups and every text.
-- Assumes nothing.
use Rattle.refusal.proofs.Basics.{◌≡◌, refl, ap, ◌∙◌, ℕ, ◌≤◌, length, leb-true, le-leb, List, true, ◌&&◌, leb, ◌↔◌, both_true}
use Rattle.std.specs.Prelude.{Option, Some, None}
use Rattle.verdict.specs.Verdict.{passed, only_if, Within}
use Rattle.verdict.specs.declared.Fault.{Fault}
use Rattle.verdict.proofs.Verdicts.{fault_no_pass, both_pass, pass_both, test_holds, plain_within, then_within, only_within}
use Rattle.text.specs.Bytes.{all_of, bytes_verdict}
use Rattle.classes.specs.declared.Class.TheVariants.{Reference}
use Rattle.text.proofs.Laws.{all_passes, passes_all, bytes_within}
use Rattle.models.specs.declared.Model.{Model}
use Rattle.model_text.specs.Texts.{model_number}
use Rattle.model_text.proofs.Theorems.{HandledModel}
use Rattle.models.specs.Models.{model_of}
use Rattle.parts.specs.Parts.{parts_of, formed}
use Rattle.parts.proofs.Pieces.{formed_bytes}
use Rattle.part_contents.specs.Contents.{contents_right}
use Rattle.groups.specs.Groups.{groups_right, parts_right}
use Rattle.reference.specs.Answers.{obeys, text_verdict, modelled_verdict, number_verdict, reference_verdict}

-- ---------------------------------------------------------------------------
-- Accepted exactly when

-- a text is accepted exactly when it has at most 22 bytes and obeys its model
pub accepted_obeys : (model : Model) (s : List ℕ) → (text_verdict model s ≡ passed) ↔ ((leb (length s) 22 && obeys model s) ≡ true)
accepted_obeys model s = (λ e. accepted e, λ e. obeyed e)
  where
    accepted : text_verdict model s ≡ passed → (leb (length s) 22 && obeys model s) ≡ true
    accepted e =
        let a = both_pass (bytes_verdict Reference s) _ e in
        let b = both_pass (only_if (leb (length s) 22) Fault.Length) _ a.1 in
        let c = both_pass (only_if (formed model s) Fault.Parts) _ b.1 in
        let d = both_pass (only_if (contents_right model (parts_of s)) Fault.Form) _ c.1 in
        rw (test_holds (leb (length s) 22) Fault.Length b.0, test_holds (formed model s) Fault.Parts c.0, test_holds (contents_right model (parts_of s)) Fault.Form d.0, test_holds (groups_right model.groups (parts_of s)) Fault.Digit d.1)

    obeyed : (leb (length s) 22 && obeys model s) ≡ true → text_verdict model s ≡ passed
    obeyed e =
        let a = both_true (leb (length s) 22) (obeys model s) e in
        let b = both_true (formed model s) (parts_right model (parts_of s)) a.1 in
        let c = both_true (contents_right model (parts_of s)) (groups_right model.groups (parts_of s)) b.1 in
        rw (all_passes Reference s (formed_bytes model s b.0), a.0, b.0, c.0, c.1)

-- "digits and hyphens, at most 22 characters, obeying the model": the text s is a reference of the model whose text is m
pub record RightReference (m s : List ℕ) : Type 0 where
  -- "`HR` and two digits" of a model that is handled
  pub model : HandledModel m
  -- "digits and hyphens"
  pub bytes : all_of Reference s ≡ true
  -- "at most 22 characters"
  pub short : length s ≤ 22
  -- "obeying the model"
  pub obeyed : obeys (model_of model.number) s ≡ true

-- a reference is accepted exactly when it is that
pub reference_accepted_exactly : (m s : List ℕ) → (reference_verdict m s ≡ passed) ↔ RightReference m s
reference_accepted_exactly m s = (by_number (model_number m) refl, right)
  where
    by_number : (f : Option ℕ) → model_number m ≡ f → number_verdict s f ≡ passed → RightReference m s
    by_number (Some n) q e =
        let a = both_pass (only_if (model_of n).handled Fault.Model) (text_verdict (model_of n) s) e in
        let b = both_true (leb (length s) 22) (obeys (model_of n) s) ((accepted_obeys (model_of n) s).0 a.1) in
        record {
          model = record { number = n; named = q; handled = test_holds _ Fault.Model a.0 };
          bytes = passes_all Reference s (both_pass (bytes_verdict Reference s) _ a.1).0;
          short = leb-true (length s) 22 b.0;
          obeyed = b.1;
        }
    by_number None q e = fault_no_pass Fault.Form e

    right : RightReference m s → reference_verdict m s ≡ passed
    right w =
        let model = model_of w.model.number in
        ap (number_verdict s) w.model.named ∙
        pass_both (only_if model.handled Fault.Model) (text_verdict model s) (rw w.model.handled) ((accepted_obeys model s).1 (rw (le-leb (length s) 22 w.short, w.obeyed)))

-- ---------------------------------------------------------------------------
-- A 3's byte is one of the text's

pub modelled_within : (model : Model) (s : List ℕ) → Within (length s) (modelled_verdict model s)
modelled_within model s =
    let n = length s in
    let only = only_within n in
    then_within n _ _ (only model.handled Fault.Model refl)
    (then_within n _ _ (bytes_within Reference s)
    (then_within n _ _ (only (leb n 22) Fault.Length refl)
    (then_within n _ _ (only (formed model s) Fault.Parts refl)
    (then_within n _ _ (only (contents_right model (parts_of s)) Fault.Form refl) (only (groups_right model.groups (parts_of s)) Fault.Digit refl)))))

number_within : (s : List ℕ) (f : Option ℕ) → Within (length s) (number_verdict s f)
number_within s (Some n) = modelled_within (model_of n) s
number_within s None = plain_within (length s) Fault.Form refl

pub reference_within : (m s : List ℕ) → Within (length s) (reference_verdict m s)
reference_within m s = number_within s (model_number m)
