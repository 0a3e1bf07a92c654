-- Document 02, W5: "what adding all the orders read so far would give", said without a judge and without a tally that is kept.
use Rattle.std.specs.Prelude.{ℕ, Bool, true, false, cond, List, [], ◌∷◌, length, Result, Ok, Err}
use Rattle.refusal.specs.declared.Refusal.{Refusal}
use Rattle.wage_places.specs.declared.LineType.{LineType}
use Rattle.sums.specs.Sums.{sum_of}
use Rattle.tally.specs.declared.Tally.{Tally}
use Rattle.wage_places.specs.declared.LineType.TheVariants.{Label, Group, Order, Closing}
use Rattle.wage_line.specs.Line.{typed_of}
use Rattle.worked_out.specs.Amounts.{amounts}

-- a 301
abbrev pub is_group : Result LineType Refusal → Bool
is_group (Ok Label) = false
is_group (Ok Group) = true
is_group (Ok Order) = false
is_group (Ok Closing) = false
is_group (Err r) = false

-- a 309
abbrev pub is_order : Result LineType Refusal → Bool
is_order (Ok Label) = false
is_order (Ok Group) = false
is_order (Ok Order) = true
is_order (Ok Closing) = false
is_order (Err r) = false

-- the lines whose type passes a test, in order
unfoldable pub among : (Result LineType Refusal → Bool) → List (List ℕ) → List (List ℕ)
among p [] = []
among p (s ∷ ss) = cond (p (typed_of s)) (s ∷ among p ss) (among p ss)

-- the groups, the orders, and the exact sum of the orders' amounts
abbrev pub tally_in : List (List ℕ) → Tally
tally_in ss = record { groups = length (among is_group ss); orders = length (among is_order ss); total = sum_of 1000 (amounts (among is_order ss)) }
