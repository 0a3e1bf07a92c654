-- What is promised of a model's text: accepted exactly when, and no byte is told.
-- Assumes nothing.
use Rattle.refusal.proofs.Basics.{◌≡◌, refl, ap, ◌∙◌, ℕ, List, true, ◌↔◌}
use Rattle.std.specs.Prelude.{Option, Some, None}
use Rattle.verdict.specs.Verdict.{passed, Within}
use Rattle.verdict.specs.declared.Fault.{Fault}
use Rattle.verdict.proofs.Verdicts.{fault_no_pass, test_holds, plain_within, only_within}
use Rattle.model_text.specs.Texts.{model_number, model_from, model_verdict}
use Rattle.models.specs.Models.{model_of}

-- ---------------------------------------------------------------------------
-- Accepted exactly when

-- "`HR` and two digits" of a model that is handled
pub record HandledModel (s : List ℕ) : Type 0 where
  pub number : ℕ
  pub named : model_number s ≡ Some number
  pub handled : (model_of number).handled ≡ true

-- a model's text is accepted exactly when it is that
pub model_accepted_exactly : (s : List ℕ) → (model_verdict s ≡ passed) ↔ HandledModel s
model_accepted_exactly s = (by_number (model_number s) refl, λ w. ap model_from w.named ∙ rw w.handled)
  where
    by_number : (f : Option ℕ) → model_number s ≡ f → model_from f ≡ passed → HandledModel s
    by_number (Some n) q e = record { number = n; named = q; handled = test_holds _ Fault.Model e }
    by_number None q e = fault_no_pass Fault.Form e

-- ---------------------------------------------------------------------------
-- A model's refusal tells no byte

from_within : (n : ℕ) (f : Option ℕ) → Within n (model_from f)
from_within n (Some i) = only_within n (model_of i).handled Fault.Model refl
from_within n None = plain_within n Fault.Form refl

pub model_within : (n : ℕ) (s : List ℕ) → Within n (model_verdict s)
model_within n s = from_within n (model_number s)
