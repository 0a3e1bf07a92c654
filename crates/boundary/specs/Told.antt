-- How answers stand at the boundary: document 01's number, line, field and byte, the needed number, and what an acceptance tells. Number 0 is
-- acceptance; then all else but what it tells is 0.
use Rattle.std.specs.Prelude.{ℕ, Result, Err, Ok}
use Rattle.refusal.specs.Refusal.{Answer, none, refusal_number, refusal_place, needed_of}
use Rattle.verdict.specs.Verdict.{Verdict, answer_in, number_answer}
use Rattle.refusal.specs.declared.Place.{Place}
use Rattle.refusal.specs.declared.Refusal.{Refusal}
use Rattle.refusal.specs.declared.Refusal.TheVariants.{Form}
use Rattle.boundary.specs.declared.Told.{Told}
use Rattle.boundary.specs.declared.Valued.{Valued}

-- acceptance, which tells nothing
abbrev pub accepted : Told
accepted = record { number = 0; line = 0; field = 0; byte = 0; needed = 0 }

-- a refusal
abbrev pub refusal : Refusal → Told
refusal r = record { number = refusal_number r; line = (refusal_place r).line; field = (refusal_place r).field; byte = (refusal_place r).byte; needed = needed_of r }

unfoldable pub told_of : Answer → Told
told_of (Ok u) = accepted
told_of (Err r) = refusal r

-- a verdict, told of no place
abbrev pub verdict_told : Verdict → Told
verdict_told v = told_of (answer_in 0 v)

-- a verdict that is one number, told of no place
abbrev pub number_told : ℕ → Told
number_told v = told_of (number_answer 0 v)

-- an answer with a value: 0 where it is a refusal
abbrev pub valued : Told → ℕ → Valued
valued t v = record { told = t; value = v }

unfoldable pub value_told : Result ℕ Refusal → Valued
value_told (Ok n) = valued accepted n
value_told (Err r) = valued (refusal r) 0

-- a rule that there is not: 5
abbrev pub no_rule : Told
no_rule = refusal (Form none)

-- the place that an answer tells
abbrev pub told_place : Told → Place
told_place t = record { line = t.line; field = t.field; byte = t.byte }
