-- What is promised of a group's lent orders: accepted exactly when they are whole, some, not too many and each right. Assumes nothing.
use Rattle.refusal.proofs.Basics.{◌≡◌, refl, arith, ℕ, suc, ◌+◌, ◌/◌, ◌%◌, ◌≤◌, ◌<◌, length, get_or, leb-true, eqb-true, eqb-false, le-leb, eq-eqb, ne_eqb, List, [], ◌∷◌, Bool, true, false, cond, eqb, leb, ◌↔◌}
use Rattle.std.specs.Prelude.{Err, Ok, Result}
use Rattle.refusal.specs.Refusal.{Answer, none, first_of}
use Rattle.refusal.specs.declared.Refusal.{Refusal}
use Rattle.wage_places.specs.declared.LineType.{LineType}
use Rattle.refusal.specs.declared.Refusal.TheVariants.{Size, Misplaced, Orders}
use Rattle.wage_places.specs.declared.LineType.TheVariants.{Label, Group, Order, Closing}
use Rattle.wage_line.specs.Line.{typed_of}
use Rattle.wage_line.specs.Pieces.{pieces}
use Rattle.wage_line.proofs.PieceLaws.{Each, each_more}
use Rattle.wage_fields.specs.Rules.{places_answer, RightLine}
use Rattle.worked_out.specs.Amounts.{amounts}
use Rattle.worked_out.proofs.Theorems.{amounts_small}
use Rattle.lent_order.specs.Order.{answer_of_line, order_from, lent_order_answer}
use Rattle.wage_orders.specs.Orders.{orders_from, group_orders}

-- ---------------------------------------------------------------------------
-- Accepted exactly when

module _ (day kind : ℕ) where
  -- an accepted line is a right order
  order_told : (n : ℕ) (s : List ℕ) → lent_order_answer day kind n s ≡ Ok tt → RightLine day kind Order s
  unfolding lent_order_answer
  order_told n s e = go (typed_of s) refl e
    where
      fields : (a : Answer) → answer_of_line n a ≡ Ok tt → a ≡ Ok tt
      fields (Ok u) g = refl
      fields (Err r) g = let z : ◌≡◌ {A = ℕ} 0 1 = cc in absurd (omega arith)

      go : (t : Result LineType Refusal) → typed_of s ≡ t → order_from day kind n s t ≡ Ok tt → RightLine day kind Order s
      go (Ok Label) f g = let z : ◌≡◌ {A = ℕ} 0 1 = cc in absurd (omega arith)
      go (Ok Group) f g = let z : ◌≡◌ {A = ℕ} 0 1 = cc in absurd (omega arith)
      go (Ok Order) f g = record { typed = f; fields = fields (places_answer day kind Order s) g }
      go (Ok Closing) f g = let z : ◌≡◌ {A = ℕ} 0 1 = cc in absurd (omega arith)
      go (Err r) f g = let z : ◌≡◌ {A = ℕ} 0 1 = cc in absurd (omega arith)

  -- a right order is accepted
  order_made : (n : ℕ) (s : List ℕ) → RightLine day kind Order s → lent_order_answer day kind n s ≡ Ok tt
  unfolding lent_order_answer
  order_made n s w = rw (w.typed, w.fields)

  -- each line of some is a right order
  abbrev EachRight : List (List ℕ) → Type 0
  EachRight ss = Each (RightLine day kind Order) [] ss

  -- accepted lines are right orders
  orders_told_lem : (n : ℕ) (ss : List (List ℕ)) → orders_from day kind n ss ≡ Ok tt → EachRight ss
  unfolding orders_from
  orders_told_lem n [] e = λ k h. absurd (omega arith)
  orders_told_lem n (s ∷ ss) e = go (lent_order_answer day kind n s) refl e (orders_told_lem (n + 1) ss)
    where
      go : (a : Answer) → lent_order_answer day kind n s ≡ a → first_of a (orders_from day kind (n + 1) ss) ≡ Ok tt → (orders_from day kind (n + 1) ss ≡ Ok tt → EachRight ss) → EachRight (s ∷ ss)
      go (Ok u) f g rest = each_more (RightLine day kind Order) [] s ss (order_told n s f) (rest g)
      go (Err r) f g rest = let z : ◌≡◌ {A = ℕ} 0 1 = cc in absurd (omega arith)

  -- right orders are accepted
  orders_made : (n : ℕ) (ss : List (List ℕ)) → EachRight ss → orders_from day kind n ss ≡ Ok tt
  unfolding orders_from
  orders_made n [] f = refl
  orders_made n (s ∷ ss) f = rw (order_made n s (f 0 (omega arith))) (orders_made (n + 1) ss (λ k h. f (suc k) (omega arith)))

  module _ (s : List ℕ) where
    -- what is accepted
    group_told :
        group_orders day kind s ≡ Ok tt →
        (length s % 1002 ≡ 0) × (0 < length s) × (length s / 1002 ≤ 99999) × EachRight (pieces s)
    unfolding group_orders
    group_told e = go (eqb (length s % 1002) 0) (eqb (length s) 0) (leb (length s / 1002) 99999) refl refl refl e
      where
        go :
            (a b c : Bool) → eqb (length s % 1002) 0 ≡ a → eqb (length s) 0 ≡ b → leb (length s / 1002) 99999 ≡ c →
            cond a (cond b (Err (Misplaced none)) (cond c (orders_from day kind 1 (pieces s)) (Err (Orders none)))) (Err (Size none)) ≡ Ok tt →
            (length s % 1002 ≡ 0) × (0 < length s) × (length s / 1002 ≤ 99999) × EachRight (pieces s)
        go true false true p q r g =
            let n = eqb-false (length s) 0 q in
            (eqb-true (length s % 1002) 0 p, omega arith, leb-true (length s / 1002) 99999 r, orders_told_lem 1 (pieces s) g)
        go true false false p q r g = let z : ◌≡◌ {A = ℕ} 0 1 = cc in absurd (omega arith)
        go true true c p q r g = let z : ◌≡◌ {A = ℕ} 0 1 = cc in absurd (omega arith)
        go false b c p q r g = let z : ◌≡◌ {A = ℕ} 0 1 = cc in absurd (omega arith)

    -- what is right
    group_made :
        (length s % 1002 ≡ 0) × (0 < length s) × (length s / 1002 ≤ 99999) × EachRight (pieces s) →
        group_orders day kind s ≡ Ok tt
    unfolding group_orders
    group_made w =
        let p : length s % 1002 ≡ 0 = w.0 in
        let q : 0 < length s = w.1 in
        let r : length s / 1002 ≤ 99999 = w.2 in
        let n : length s ≡ 0 → ⊥ = λ e. omega arith in
        rw (eq-eqb (length s % 1002) 0 p, ne_eqb (length s) 0 n, le-leb (length s / 1002) 99999 r) (orders_made 1 (pieces s) w.3)

    -- lent orders are accepted exactly when they are whole lines, at least one and at most 99,999, and each is a right order
    pub orders_right :
        (group_orders day kind s ≡ Ok tt)
        ↔ ((length s % 1002 ≡ 0) × (0 < length s) × (length s / 1002 ≤ 99999) × ((k : ℕ) → k < length (pieces s) → RightLine day kind Order (get_or (pieces s) k [])))
    orders_right = (group_told, group_made)

-- so the sum of accepted orders has at most twenty digits
pub accepted_small : (day kind : ℕ) (s : List ℕ) → group_orders day kind s ≡ Ok tt → amounts (pieces s) < 100000000000000000000
accepted_small day kind s e = let h = (orders_right day kind s).0 e in amounts_small s h.2 h.0
