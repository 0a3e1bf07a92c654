-- Document 01, "The wage file", the writer: "a 301 from its fields and its group's lent 309 lines, whose number and sum it works out".
use Rattle.std.specs.Prelude.{ℕ, ◌/◌, List, [], ◌∷◌, length, get_or}
use Rattle.refusal.specs.Refusal.{Answer, first_of}
use Rattle.text.specs.Digits.{digits_text}
use Rattle.wage_places.specs.declared.LineType.TheVariants.{Group}
use Rattle.wage_places.specs.Places.{spots}
use Rattle.wage_line.specs.Pieces.{pieces}
use Rattle.worked_out.specs.Amounts.{amounts}
use Rattle.bare_line.specs.Bare.{bare_line}
use Rattle.wage_draft.specs.Draft.{Draft, drafted}
use Rattle.wage_orders.specs.Orders.{group_orders}
use Rattle.line_room.specs.LineRoom.{for_day, for_kind, for_room}

-- the fields of a 301: five are given, and the number and the sum of its orders worked out
abbrev pub group_fields : List (List ℕ) → ℕ → ℕ → List (List ℕ)
group_fields fs n cents =
    get_or fs 0 [] ∷ (get_or fs 1 [] ∷ (get_or fs 2 [] ∷ (get_or fs 3 [] ∷ (digits_text 5 n ∷ (digits_text 20 cents ∷ (get_or fs 4 [] ∷ []))))))

-- a 301, for a day and a kind, of a group's orders
abbrev pub group_draft : ℕ → ℕ → List (List ℕ) → List ℕ → Draft
group_draft day kind fs orders =
    drafted day kind Group (spots Group) (group_fields fs (length orders / 1002) (amounts (pieces orders))) (bare_line Group)

-- its refusals in their order
unfoldable pub group_answer : ℕ → ℕ → List (List ℕ) → List ℕ → ℕ → Answer
group_answer day kind fs orders room =
    for_day day (for_kind kind (first_of (group_orders day kind orders) (first_of (group_draft day kind fs orders).answer (for_room room))))
