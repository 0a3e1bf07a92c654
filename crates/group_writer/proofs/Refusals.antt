-- Laws of what a refusal of the lent orders tells: its line, or that they are not lines of a group; so it is not the refusal of the room.
-- Assumes nothing.
use Rattle.refusal.proofs.Basics.{◌≡◌, refl, ◌∙◌, arith, ℕ, ◌+◌, ◌/◌, ◌%◌, ◌≤◌, length, List, [], ◌∷◌, Bool, true, false, cond, eqb, leb}
use Rattle.std.specs.Prelude.{Err, Ok, Result}
use Rattle.refusal.specs.Refusal.{Answer, none, refusal_place, in_line, first_of}
use Rattle.wage_places.specs.declared.LineType.{LineType}
use Rattle.refusal.specs.declared.Refusal.{Refusal}
use Rattle.refusal.specs.declared.Refusal.TheVariants.{Size, Ends, Byte, Length, Form, Check, Model, Parts, Digit, Misplaced, Date, Orders, Sum, Unfinished, Room, Marks, Beyond, Sheet, Field, Overfull}
use Rattle.wage_places.specs.declared.LineType.TheVariants.{Label, Group, Order, Closing}
use Rattle.wage_line.specs.Line.{typed_of}
use Rattle.wage_line.specs.Pieces.{pieces}
use Rattle.wage_fields.specs.Rules.{places_answer}
use Rattle.lent_order.specs.Order.{answer_of_line, order_from, lent_order_answer}
use Rattle.wage_orders.specs.Orders.{orders_from, group_orders}
use Rattle.line_room.proofs.Laws.{no_room}

-- the line that is told
line_told : (n : ℕ) (r : Refusal) → (refusal_place (in_line n r)).line ≡ n
line_told n (Size p) = refl
line_told n (Ends p) = refl
line_told n (Byte p) = refl
line_told n (Length p) = refl
line_told n (Form p) = refl
line_told n (Check p) = refl
line_told n (Model p) = refl
line_told n (Parts p) = refl
line_told n (Digit p) = refl
line_told n (Misplaced p) = refl
line_told n (Date p) = refl
line_told n (Orders p) = refl
line_told n (Sum p) = refl
line_told n (Unfinished p) = refl
line_told n (Room p m) = refl
line_told n (Marks p) = refl
line_told n (Beyond p) = refl
line_told n (Sheet p) = refl
line_told n (Field p) = refl
line_told n (Overfull p) = refl

-- the refusal that is told of a line
told_of_lem : (n : ℕ) (q r : Refusal) → ◌≡◌ {A = Answer} (Err (in_line n q)) (Err r) → (refusal_place r).line ≡ n
told_of_lem n q r e = let g : in_line n q ≡ r = cc in rw (← g) (line_told n q)

module _ (day kind : ℕ) (r : Refusal) where
  -- of one line
  order_line : (n : ℕ) (s : List ℕ) → lent_order_answer day kind n s ≡ Err r → (refusal_place r).line ≡ n
  unfolding lent_order_answer
  order_line n s e = go (typed_of s) e
    where
      places : (a : Answer) → answer_of_line n a ≡ Err r → (refusal_place r).line ≡ n
      places (Ok u) g = let z : ◌≡◌ {A = ℕ} 0 1 = cc in absurd (omega arith)
      places (Err q) g = told_of_lem n q r g

      other : ◌≡◌ {A = Answer} (Err (Misplaced (record { line = n; field = 0; byte = 0 }))) (Err r) → (refusal_place r).line ≡ n
      other g = told_of_lem n (Misplaced none) r g

      go : (t : Result LineType Refusal) → order_from day kind n s t ≡ Err r → (refusal_place r).line ≡ n
      go (Ok Label) g = other g
      go (Ok Group) g = other g
      go (Ok Order) g = places (places_answer day kind Order s) g
      go (Ok Closing) g = other g
      go (Err q) g = told_of_lem n q r g

  -- of lines from one on
  orders_line : (n : ℕ) (ss : List (List ℕ)) → orders_from day kind n ss ≡ Err r → n ≤ (refusal_place r).line
  unfolding orders_from
  orders_line n [] e = let z : ◌≡◌ {A = ℕ} 0 1 = cc in absurd (omega arith)
  orders_line n (s ∷ ss) e = go (lent_order_answer day kind n s) refl e (orders_line (n + 1) ss)
    where
      go :
          (a : Answer) → lent_order_answer day kind n s ≡ a → first_of a (orders_from day kind (n + 1) ss) ≡ Err r
          → (orders_from day kind (n + 1) ss ≡ Err r → n + 1 ≤ (refusal_place r).line) → n ≤ (refusal_place r).line
      go (Ok u) f g later = omega (arith, later g)
      go (Err q) f g later = omega (arith, order_line n s (f ∙ g))

-- the lent orders are not refused for the room
pub orders_no_room : (day kind : ℕ) (s : List ℕ) → group_orders day kind s ≡ no_room → ⊥
unfolding group_orders
orders_no_room day kind s e = go (eqb (length s % 1002) 0) (eqb (length s) 0) (leb (length s / 1002) 99999) e
  where
    go :
        (a b c : Bool)
        → cond a (cond b (Err (Misplaced none)) (cond c (orders_from day kind 1 (pieces s)) (Err (Orders none)))) (Err (Size none)) ≡ no_room
        → ⊥
    go true false true g = let h : 1 ≤ 0 = orders_line day kind (Room none 1002) 1 (pieces s) g in omega arith
    go true false false g = let z : ◌≡◌ {A = ℕ} 0 1 = cc in omega arith
    go true true c g = let z : ◌≡◌ {A = ℕ} 0 1 = cc in omega arith
    go false b c g = let z : ◌≡◌ {A = ℕ} 0 1 = cc in omega arith
