-- What judging a reference answers: 5 and 7 of its model, 3 and 4 of its bytes, 8 of its parts, 5 of what they hold and 9 of its groups, in
-- the order of the slip's fields 11 and 12.
use Rattle.std.specs.Prelude.{ℕ, Bool, ◌&&◌, List, leb, length, Option, Some, None, Err}
use Rattle.verdict.specs.Verdict.{Verdict, only_if, and_then}
use Rattle.verdict.specs.declared.Fault.{Fault}
use Rattle.text.specs.Bytes.{bytes_verdict}
use Rattle.classes.specs.declared.Class.TheVariants.{Reference}
use Rattle.models.specs.declared.Model.{Model}
use Rattle.model_text.specs.Texts.{model_number}
use Rattle.models.specs.Models.{model_of}
use Rattle.parts.specs.Parts.{parts_of, formed}
use Rattle.part_contents.specs.Contents.{contents_right}
use Rattle.groups.specs.Groups.{groups_right, parts_right}

-- "obeying the model": a text of parts that are right
abbrev pub obeys : Model → List ℕ → Bool
obeys model s = formed model s && parts_right model (parts_of s)

-- "digits and hyphens, at most 22 characters, obeying the model": 3, 4, 8, 9; "5 .. judged after 8 and before 9" (W4)
abbrev pub text_verdict : Model → List ℕ → Verdict
text_verdict model s =
    and_then (bytes_verdict Reference s)
    (and_then (only_if (leb (length s) 22) Fault.Length)
    (and_then (only_if (formed model s) Fault.Parts)
    (and_then (only_if (contents_right model (parts_of s)) Fault.Form)
    (only_if (groups_right model.groups (parts_of s)) Fault.Digit))))

-- "7: model not handled", then the text
abbrev pub modelled_verdict : Model → List ℕ → Verdict
modelled_verdict model s = and_then (only_if model.handled Fault.Model) (text_verdict model s)

-- "`HR` and two digits, else 5", then the rest
abbrev pub number_verdict : List ℕ → Option ℕ → Verdict
number_verdict s (Some n) = modelled_verdict (model_of n) s
number_verdict s None = Err Fault.Form

abbrev pub reference_verdict : List ℕ → List ℕ → Verdict
reference_verdict m s = number_verdict s (model_number m)
