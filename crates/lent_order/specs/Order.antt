-- Document 01, "The wage file", the writer of a 301: a line of its group's lent 309 lines. "the first refusal in them, 10 for another type, with
-- its line in the group".
use Rattle.std.specs.Prelude.{ℕ, List, Result, Ok, Err}
use Rattle.refusal.specs.Refusal.{Answer, in_line}
use Rattle.refusal.specs.declared.Refusal.{Refusal}
use Rattle.wage_places.specs.declared.LineType.{LineType}
use Rattle.refusal.specs.declared.Refusal.TheVariants.{Misplaced}
use Rattle.wage_places.specs.declared.LineType.TheVariants.{Label, Group, Order, Closing}
use Rattle.wage_line.specs.Line.{typed_of}
use Rattle.wage_fields.specs.Rules.{places_answer}

-- an answer of line n, a refusal's field and byte kept
abbrev pub answer_of_line : ℕ → Answer → Answer
answer_of_line n (Ok u) = Ok tt
answer_of_line n (Err r) = Err (in_line n r)

-- another type
abbrev pub no_order : ℕ → Answer
no_order n = Err (Misplaced (record { line = n; field = 0; byte = 0 }))

abbrev pub order_from : ℕ → ℕ → ℕ → List ℕ → Result LineType Refusal → Answer
order_from day kind n s (Ok Label) = no_order n
order_from day kind n s (Ok Group) = no_order n
order_from day kind n s (Ok Order) = answer_of_line n (places_answer day kind Order s)
order_from day kind n s (Ok Closing) = no_order n
order_from day kind n s (Err r) = Err (in_line n r)

-- line n of a group's orders
unfoldable pub lent_order_answer : ℕ → ℕ → ℕ → List ℕ → Answer
lent_order_answer day kind n s = order_from day kind n s (typed_of s)
