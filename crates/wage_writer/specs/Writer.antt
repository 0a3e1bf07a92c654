-- Document 01, "The wage file", the writer: "one line into lent room: a 300, 309 or 399 from its fields".
use Rattle.std.specs.Prelude.{ℕ, List}
use Rattle.refusal.specs.Refusal.{Answer, first_of}
use Rattle.wage_places.specs.declared.LineType.TheVariants.{Label, Order}
use Rattle.wage_places.specs.Places.{spots}
use Rattle.bare_line.specs.Bare.{bare_line}
use Rattle.wage_draft.specs.Draft.{Draft, drafted}
use Rattle.line_room.specs.LineRoom.{for_day, for_kind, for_room}

-- ---------------------------------------------------------------------------
-- The lines, from their fields

-- a 300, for a day; its fields ask for no kind
abbrev pub label_draft : ℕ → List (List ℕ) → Draft
label_draft day fs = drafted day 0 Label (spots Label) fs (bare_line Label)

-- a 309, for a day and a kind
abbrev pub order_draft : ℕ → ℕ → List (List ℕ) → Draft
order_draft day kind fs = drafted day kind Order (spots Order) fs (bare_line Order)

-- ---------------------------------------------------------------------------
-- Refusals in their order

unfoldable pub label_answer : ℕ → List (List ℕ) → ℕ → Answer
label_answer day fs room = for_day day (first_of (label_draft day fs).answer (for_room room))

unfoldable pub order_answer : ℕ → ℕ → List (List ℕ) → ℕ → Answer
order_answer day kind fs room = for_day day (for_kind kind (first_of (order_draft day kind fs).answer (for_room room)))
