-- The byte that the refusal of what only a 309 holds tells lies within its place.
-- Assumes nothing.
use Rattle.refusal.proofs.Basics.{refl, ℕ, length, get_or, List, Bool, ◌||◌}
use Rattle.verdict.specs.Verdict.{Within}
use Rattle.verdict.specs.declared.Fault.{Fault}
use Rattle.verdict.proofs.Verdicts.{wider_within, pass_within, plain_within, only_within}
use Rattle.text.specs.Bytes.{all_of, trimmed}
use Rattle.classes.specs.declared.Class.TheVariants.{Digits, Reference, Letters, Blanks, Description}
use Rattle.text.proofs.Blanks.{trimmed_shorter}
use Rattle.models.specs.Models.{model_of}
use Rattle.reference.proofs.Theorems.{modelled_within}
use Rattle.order_contents.specs.declared.Held.{Held}
use Rattle.order_contents.specs.declared.Held.TheVariants.{Blank, NoModel, Number}
use Rattle.wage_contents.specs.Contents.{one_of}
use Rattle.order_contents.specs.Contents.{purpose_place_verdict, sign_verdict, held_verdict, bare_held, reference_held, description_verdict, code_verdict}
use Rattle.wage_contents.proofs.Within.{tested_within}

pub purpose_within : (f : List ℕ) → Within (length f) (purpose_place_verdict f)
unfolding purpose_place_verdict
purpose_within f = only_within (length f) (all_of Blanks f || all_of Letters f) Fault.Form refl

pub sign_within : (a b c : ℕ) (f : List ℕ) → Within (length f) (sign_verdict a b c f)
unfolding sign_verdict
sign_within a b c f = only_within (length f) (one_of a b c (get_or f 0 0)) Fault.Form refl

pub held_within : (h : Held) (n : ℕ) → Within n (held_verdict h)
unfolding held_verdict
held_within Blank n = pass_within n
held_within NoModel n = plain_within n Fault.Form refl
held_within (Number k) n = only_within n (model_of k).handled Fault.Model refl

pub reference_within : (h : Held) (f : List ℕ) → Within (length f) (reference_held h f)
unfolding reference_held
reference_within h f = wider_within (length (trimmed f)) (length f) _ (trimmed_shorter f) (bare h (trimmed f))
  where
    bare : (k : Held) (g : List ℕ) → Within (length g) (bare_held k g)
    bare Blank g = tested_within Reference g _ Fault.Parts refl
    bare NoModel g = plain_within (length g) Fault.Form refl
    bare (Number n) g = modelled_within (model_of n) g

pub description_within : (f : List ℕ) → Within (length f) (description_verdict f)
unfolding description_verdict
description_within f = tested_within Description f _ Fault.Form refl

pub code_within : (kind : ℕ) (blank : Bool) (f : List ℕ) → Within (length f) (code_verdict kind blank f)
unfolding code_verdict
code_within kind blank f = tested_within Digits f _ Fault.Form refl
