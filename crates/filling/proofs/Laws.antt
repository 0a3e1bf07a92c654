-- Laws of a filled text: written from the last byte to the first, and read where it stands.
-- Assumes nothing.
use Rattle.refusal.proofs.Basics.{◌≡◌, refl, sym, ◌∙◌, arith, ℕ, suc, ◌+◌, ◌/◌, ◌%◌, ◌^◌, ◌≤◌, ◌<◌, length, get_or, take, drop, set, take-append-drop, ne_eqb, lt-ltb, le-ltb, List, ◌∷◌, ◌++◌, take-suc, append_snoc, set_at, length-take-le, drop-length, drop-cons, take_at, pow-suc, div-one, div-div-eq-div-mul, left}
use Rattle.std.specs.Prelude.{Ok, Err}
use Rattle.refusal.specs.Refusal.{Answer, none}
use Rattle.refusal.specs.declared.Place.{Place}
use Rattle.refusal.specs.declared.Refusal.TheVariants.{Room}
use Rattle.text.specs.Bytes.{count_of, marks}
use Rattle.filling.specs.Filling.{fill, filled_answer, filled_by}
use Rattle.filling.proofs.Theorems.{fill_length}

-- the bytes from i on are written, and k has the digits that are still to come
pub record WrittenFrom (s b : List ℕ) (number i k : ℕ) (after : List ℕ) : Type 0 where
  pub digits : k ≡ number / 10 ^ marks (drop i s)
  pub content : after ≡ take i b ++ (fill (drop i s) number ++ drop (length s) b)

-- a store in front of what is written
store_before : (b rest : List ℕ) (j v : ℕ) → j < length b → set (take (suc j) b ++ rest) j v ≡ take j b ++ v ∷ rest
store_before b rest j v h = rw (take-suc b j 0 h, append_snoc) (set_at (take j b) (get_or b j 0) rest v j (length-take-le j b (omega arith)))

-- at the end nothing is written
pub from_end : (s b : List ℕ) (number : ℕ) → WrittenFrom s b number (length s) number b
unfolding fill count_of
from_end s b number =
    record {
      digits = rw (drop-length, div-one);
      content = rw drop-length (sym (take-append-drop (length s) b));
    }

module _ (s b : List ℕ) (number i j k : ℕ) (after : List ℕ) (e : i ≡ suc j) (h : i ≤ length s) (g : length s ≤ length b) (w : WrittenFrom s b number i k after) where
  -- one byte before it: a mark gets the next digit
  pub from_mark : get_or s j 0 ≡ 63 → WrittenFrom s b number j (k / 10) (set after j (48 + k % 10))
  unfolding fill count_of
  from_mark m =
      let l : j < length s = omega arith in
      let v : WrittenFrom s b number (suc j) k after = rw e at w in
      record {
        digits = rw (drop-cons s j 0 l, m, v.digits, pow-suc) (div-div-eq-div-mul number (10 ^ marks (drop (suc j) s)) 10);
        content = rw (drop-cons s j 0 l, m, v.content, v.digits) (store_before b (fill (drop (suc j) s) number ++ drop (length s) b) j _ (omega arith));
      }

  -- any other byte stays
  pub from_byte : (get_or s j 0 ≡ 63 → ⊥) → WrittenFrom s b number j k (set after j (get_or s j 0))
  unfolding fill count_of
  from_byte m =
      let l : j < length s = omega arith in
      let v : WrittenFrom s b number (suc j) k after = rw e at w in
      record {
        digits = rw (drop-cons s j 0 l, ne_eqb (get_or s j 0) 63 m) v.digits;
        content = rw (drop-cons s j 0 l, ne_eqb (get_or s j 0) 63 m, v.content) (store_before b (fill (drop (suc j) s) number ++ drop (length s) b) j _ (omega arith));
      }

-- at the front all is written
pub from_front : (s b : List ℕ) (number i k : ℕ) (after : List ℕ) → i ≡ 0 → WrittenFrom s b number i k after → after ≡ fill s number ++ drop (length s) b
from_front s b number i k after e w = (rw e at w).content

-- too little room: refused
pub short_refused : (s : List ℕ) (room : ℕ) (place : Place) → room < length s → place ≡ none → Err (Room place (length s)) ≡ filled_answer s room
short_refused s room place h g = rw (lt-ltb room (length s) h, g)

-- room enough: accepted
pub enough_accepted : (s : List ℕ) (room : ℕ) → length s ≤ room → (Ok tt) ≡ filled_answer s room
enough_accepted s room h = rw (le-ltb room (length s) h)

-- a filled text stands at the front
pub filled_front : (s out last : List ℕ) (k : ℕ) (r : Answer) → length s ≤ length out → r ≡ filled_answer s (length out) → last ≡ filled_by r s k out → take (length s) last ≡ fill s k
filled_front s out last k r h e f =
    let a : r ≡ (Ok tt) = e ∙ sym (left _ _ _ _ (le-ltb (length out) (length s) h) refl) in
    rw (f, a) (take_at (fill s k) (drop (length s) out) (length s) (fill_length s k))
