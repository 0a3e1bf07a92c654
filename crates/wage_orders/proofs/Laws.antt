-- Laws of a group's orders: their answer from a place on. Assumes nothing.
use Rattle.refusal.proofs.Basics.{◌≡◌, ℕ, ◌+◌, length, List, ◌∷◌}
use Rattle.std.specs.Prelude.{Ok, Err}
use Rattle.refusal.specs.declared.Refusal.{Refusal}
use Rattle.wage_line.specs.Pieces.{pieces_of, pieces}
use Rattle.lent_order.specs.Order.{lent_order_answer}
use Rattle.wage_orders.specs.Orders.{orders_from}

-- ---------------------------------------------------------------------------
-- The orders, the first line being n

module _ (day kind n : ℕ) (s line rest : List ℕ) (cut : pieces s ≡ line ∷ pieces rest) where
  -- an accepted line: the answer is that of the lines behind it
  pub orders_on : lent_order_answer day kind n line ≡ Ok tt → orders_from day kind n (pieces s) ≡ orders_from day kind (n + 1) (pieces rest)
  unfolding orders_from
  orders_on e = rw (cut, e)

  -- a refused one: its refusal
  pub orders_stop : (r : Refusal) → lent_order_answer day kind n line ≡ Err r → orders_from day kind n (pieces s) ≡ Err r
  unfolding orders_from
  orders_stop r e = rw (cut, e)

-- at the end all were accepted
pub orders_end : (day kind n : ℕ) (s : List ℕ) → length s ≡ 0 → orders_from day kind n (pieces s) ≡ Ok tt
unfolding orders_from pieces_of
orders_end day kind n s h = rw h
