-- Document 01, "The wage file", the writer of a 301: its group's lent 309 lines. "1 if the lent lines are not whole, 10 if there are none, 12
-- above 99,999, then the first refusal in them, 10 for another type, with its line in the group".
use Rattle.std.specs.Prelude.{ℕ, ◌+◌, ◌/◌, ◌%◌, cond, List, [], ◌∷◌, eqb, leb, length, Ok, Err}
use Rattle.refusal.specs.Refusal.{Answer, none, first_of}
use Rattle.refusal.specs.declared.Refusal.TheVariants.{Size, Misplaced, Orders}
use Rattle.wage_line.specs.Pieces.{pieces}
use Rattle.lent_order.specs.Order.{lent_order_answer}

-- the orders from line n on
unfoldable pub orders_from : ℕ → ℕ → ℕ → List (List ℕ) → Answer
orders_from day kind n [] = Ok tt
orders_from day kind n (s ∷ ss) = first_of (lent_order_answer day kind n s) (orders_from day kind (n + 1) ss)

-- the lent lines of a group
unfoldable pub group_orders : ℕ → ℕ → List ℕ → Answer
group_orders day kind s =
    cond (eqb (length s % 1002) 0)
    (cond (eqb (length s) 0) (Err (Misplaced none))
    (cond (leb (length s / 1002) 99999) (orders_from day kind 1 (pieces s)) (Err (Orders none))))
    (Err (Size none))
