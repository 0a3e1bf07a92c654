-- Document 01, "Reference models": a model's text, and what judging it answers.
use Rattle.std.specs.Prelude.{ℕ, cond, ◌&&◌, List, eqb, length, get_or, Option, Some, None, Err}
use Rattle.verdict.specs.Verdict.{Verdict, only_if}
use Rattle.verdict.specs.declared.Fault.{Fault}
use Rattle.text.specs.Digits.{two_digits}
use Rattle.models.specs.Models.{model_of}

-- "`HR` and two digits": the model's number; `H` is 72, `R` is 82
abbrev pub model_number : List ℕ → Option ℕ
model_number s =
    cond (eqb (length s) 4 && (eqb (get_or s 0 0) 72 && eqb (get_or s 1 0) 82))
    (two_digits (get_or s 2 0) (get_or s 3 0))
    None

-- ---------------------------------------------------------------------------
-- What judging a model's text answers: "`HR` and two digits, else 5 (never 3 or 4); then 7"

-- of a model's number
abbrev pub model_from : Option ℕ → Verdict
model_from (Some n) = only_if (model_of n).handled Fault.Model
model_from None = Err Fault.Form

abbrev pub model_verdict : List ℕ → Verdict
model_verdict s = model_from (model_number s)
