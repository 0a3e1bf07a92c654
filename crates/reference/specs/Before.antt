-- Document 01's answer to a reference, whatever its parts hold: what W4 (proofs/Before.antt) leaves as it was.
use Rattle.std.specs.Prelude.{ℕ, List, leb, length, Option, Some, None, Err}
use Rattle.verdict.specs.Verdict.{Verdict, only_if, and_then}
use Rattle.verdict.specs.declared.Fault.{Fault}
use Rattle.text.specs.Bytes.{bytes_verdict}
use Rattle.classes.specs.declared.Class.TheVariants.{Reference}
use Rattle.models.specs.declared.Model.{Model}
use Rattle.model_text.specs.Texts.{model_number}
use Rattle.models.specs.Models.{model_of}
use Rattle.parts.specs.Parts.{parts_of, formed}
use Rattle.groups.specs.Groups.{groups_right}

-- under a model: 7, 3, 4, 8, 9
abbrev pub modelled_before : Model → List ℕ → Verdict
modelled_before model s =
    and_then (only_if model.handled Fault.Model)
    (and_then (bytes_verdict Reference s)
    (and_then (only_if (leb (length s) 22) Fault.Length)
    (and_then (only_if (formed model s) Fault.Parts)
    (only_if (groups_right model.groups (parts_of s)) Fault.Digit))))

-- under a model's number, or none
abbrev pub number_before : List ℕ → Option ℕ → Verdict
number_before s (Some n) = modelled_before (model_of n) s
number_before s None = Err Fault.Form

-- under a model's text
abbrev pub reference_before : List ℕ → List ℕ → Verdict
reference_before m s = number_before s (model_number m)
