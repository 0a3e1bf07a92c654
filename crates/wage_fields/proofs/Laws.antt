-- Laws of a line's places: the byte that a verdict tells, answers joined, the places from one up to another, and the first that is refused.
-- Assumes nothing.
use Rattle.refusal.proofs.Basics.{◌≡◌, refl, sym, ap, ◌∙◌, arith, ℕ, zero, suc, add-zero, ◌+◌, ◌-◌, ◌≤◌, ◌<◌, ◌^◌, length, drop, get_or, length-take, get_or-eq_default, ltb-true, ltb-false, eqb-true, ne_eqb, List, [], ◌∷◌, Bool, true, false, cond, eqb, ltb, add-one}
use Rattle.std.specs.Prelude.{Ok, Err}
use Rattle.refusal.specs.Refusal.{Answer, none, refusal_number, refusal_place, first_of}
use Rattle.verdict.specs.Verdict.{Verdict, passed, refusal_at, fault_byte, verdict_byte, answer_at, Within}
use Rattle.refusal.specs.declared.Place.{Place}
use Rattle.refusal.specs.declared.Refusal.{Refusal}
use Rattle.refusal.specs.declared.Refusal.TheVariants.{Size}
use Rattle.verdict.specs.declared.Fault.{Fault}
use Rattle.verdict.specs.declared.Fault.TheVariants.{Byte, Length, Form, Check, Model, Parts, Digit, Misplaced, Date, Orders, Sum}
use Rattle.verdict.proofs.Verdicts.{refusal_no_pass, fault_told, pass_within, byte_within}
use Rattle.wage_places.specs.declared.LineType.{LineType}
use Rattle.wage_places.specs.declared.LineType.TheVariants.{Label, Group, Order, Closing}
use Rattle.wage_places.specs.declared.Spot.{Spot}
use Rattle.wage_places.specs.Places.{spots, no_spot, part_at}
use Rattle.wage_places.proofs.Theorems.{place_at, Small, sizes_small}
use Rattle.label_rules.proofs.Theorems.{label_within}
use Rattle.group_rules.proofs.Theorems.{group_within}
use Rattle.order_rules.proofs.Theorems.{order_within}
use Rattle.wage_fields.specs.Rules.{rule_verdict, place_verdict, place_answer, places_from, places_answer, spots_from}

-- ---------------------------------------------------------------------------
-- The byte that a verdict tells lies within its place

-- a rule tells a byte of the bytes that it was given
pub rule_within : (day kind : ℕ) (t : LineType) (n : ℕ) (f s : List ℕ) → Within (length f) (rule_verdict day kind t n f s)
rule_within day kind Label n f s = label_within day n f s
rule_within day kind Group n f s = group_within day n f
rule_within day kind Order n f s = order_within kind n f s
rule_within day kind Closing n f s = pass_within (length f)

-- so of a place, or the one behind it
pub place_within : (day kind : ℕ) (t : LineType) (p : Spot) (s : List ℕ) → verdict_byte (place_verdict day kind t p s) ≤ p.size
unfolding place_verdict
place_within day kind t p s =
    omega (arith, byte_within (length (part_at p s)) _ (rule_within day kind t p.field (part_at p s) s), length-take p.size (drop p.start s))

-- every place ends at byte 562 or before, and so does what is no place
place_small : (t : LineType) (k : ℕ) → Small (place_at t k)
place_small t k = go (ltb k (length (spots t))) refl
  where
    go : (b : Bool) → ltb k (length (spots t)) ≡ b → Small (place_at t k)
    go true e = sizes_small t k (ltb-true k (length (spots t)) e)
    go false e = rw (get_or-eq_default (spots t) no_spot (ltb-false k (length (spots t)) e)) (record { short = omega arith; within = omega arith })

-- so its byte in the line is a number: p is the place at k, and f the fault that its rule finds
pub fits : (day kind : ℕ) (t : LineType) (k : ℕ) (s : List ℕ) (p : Spot) (f : Fault) → p ≡ place_at t k → Err f ≡ place_verdict day kind t (place_at t k) s → p.start + fault_byte f < 2 ^ 64
fits day kind t k s p f e w =
    let b : fault_byte f ≤ (place_at t k).size = rw (← w) at (place_within day kind t (place_at t k) s) in
    rw e (omega (arith, b, (place_small t k).within))

-- ---------------------------------------------------------------------------
-- Answers joined

-- both are accepted
pub accept_both : (a b : Answer) → a ≡ Ok tt → b ≡ Ok tt → first_of a b ≡ Ok tt
accept_both a b e f = rw e f

-- what is accepted of a line passed its size
pub size_right : (n : ℕ) (a : Answer) → cond (eqb n 1002) a (Err (Size none)) ≡ Ok tt → (n ≡ 1002) × (a ≡ Ok tt)
size_right n a e = go (eqb n 1002) refl e
  where
    go : (b : Bool) → eqb n 1002 ≡ b → cond b a (Err (Size none)) ≡ Ok tt → (n ≡ 1002) × (a ≡ Ok tt)
    go true z h = (eqb-true n 1002 z, h)
    go false z h = let z : ◌≡◌ {A = ℕ} 0 1 = cc in absurd (omega arith)

-- the byte that a refusal tells: of a 3 one of the n bytes that were judged, of any other the first of them
pub told_byte :
    (n : ℕ) (v : Verdict) (field start : ℕ) (r : Refusal) → Within n v → 0 < n → answer_at field start v ≡ Err r →
    (refusal_number r ≡ 3 → (start ≤ (refusal_place r).byte) × ((refusal_place r).byte < start + n)) × ((refusal_number r ≡ 3 → ⊥) → (refusal_place r).byte ≡ start)
told_byte n (Ok u) field start r w some e = refusal_no_pass r (sym e)
told_byte n (Err f) field start r w some e = go f w cc
  where
    at : Fault → Place
    at g = record { line = 0; field = field; byte = start + fault_byte g }

    Told : Refusal → Type 0
    Told q =
        (refusal_number q ≡ 3 → (start ≤ (refusal_place q).byte) × ((refusal_place q).byte < start + n))
        × ((refusal_number q ≡ 3 → ⊥) → (refusal_place q).byte ≡ start)

    -- every fault but a 3 tells the first byte
    plain : (g : Fault) → fault_byte g ≡ 0 → (refusal_number (refusal_at g (at g)) ≡ 3 → ⊥) → refusal_at g (at g) ≡ r → Told r
    plain g b d z = rw (← z) ((λ q. absurd (d q)), λ no. ap (λ (x : Place). x.byte) (fault_told g (at g)).0 ∙ rw b (add-zero start))

    go : (g : Fault) → Within n (Err g) → refusal_at g (at g) ≡ r → Told r
    go (Byte i) h z = let k = h i refl in rw (← z) ((λ q. (omega arith, omega arith)), λ no. absurd (no refl))
    go Length h z = plain Length refl (λ q. omega arith) z
    go Form h z = plain Form refl (λ q. omega arith) z
    go Check h z = plain Check refl (λ q. omega arith) z
    go Model h z = plain Model refl (λ q. omega arith) z
    go Parts h z = plain Parts refl (λ q. omega arith) z
    go Digit h z = plain Digit refl (λ q. omega arith) z
    go Misplaced h z = plain Misplaced refl (λ q. omega arith) z
    go Date h z = plain Date refl (λ q. omega arith) z
    go Orders h z = plain Orders refl (λ q. omega arith) z
    go Sum h z = plain Sum refl (λ q. omega arith) z

-- ---------------------------------------------------------------------------
-- The places from one on, up to another

module _ (day kind : ℕ) (t : LineType) (s : List ℕ) (k last : ℕ) where
  -- what is left of them
  abbrev pub Rest : Answer
  Rest = places_from day kind t (spots_from t k (last - k)) s

  -- none: accepted
  pub range_end : last ≤ k → (Ok tt) ≡ Rest
  unfolding places_from spots_from
  range_end h = let e : last - k ≡ 0 = omega arith in rw e

  -- the place at k, and those behind it
  range_next : k < last → Rest ≡ first_of (place_answer day kind t (place_at t k) s) (places_from day kind t (spots_from t (k + 1) (last - (k + 1))) s)
  unfolding places_from spots_from
  range_next h = let e : last - k ≡ suc (last - (k + 1)) = omega arith in rw (e, add-one k)

  -- the line has another size: refused
  pub range_size : k < last → (length s ≡ 1002 → ⊥) → Err (Size none) ≡ Rest
  unfolding place_answer
  range_size h e = rw (range_next h, ne_eqb (length s) 1002 e)

  module _ (h : k < last) (whole : length s ≡ 1002) (v : Verdict) (e : v ≡ place_verdict day kind t (place_at t k) s) where
    -- the place at k says nothing: those behind it answer
    pub range_on : v ≡ passed → Rest ≡ places_from day kind t (spots_from t (k + 1) (last - (k + 1))) s
    unfolding place_answer
    range_on z = rw (range_next h, whole, ← e, z)

    -- it says something: that is the answer
    pub range_stop : (f : Fault) → v ≡ Err f → answer_at (place_at t k).field (place_at t k).start (Err f) ≡ Rest
    unfolding place_answer
    range_stop f z = rw (range_next h, whole, ← e, z)

-- no type has more than sixteen
pub few : (t : LineType) → length (spots t) ≤ 16
unfolding spots
few Label = omega arith
few Group = omega arith
few Order = omega arith
few Closing = omega arith

-- from the first as many as there are: all
all_spots : (t : LineType) → spots_from t 0 (length (spots t) - 0) ≡ spots t
unfolding spots_from spots
all_spots Label = refl
all_spots Group = refl
all_spots Order = refl
all_spots Closing = refl

module _ (day kind : ℕ) (t : LineType) (s : List ℕ) where
  -- one place
  pub range_one : (k : ℕ) → Rest day kind t s k (k + 1) ≡ place_answer day kind t (place_at t k) s
  unfolding places_from spots_from
  range_one k = let e : k + 1 - k ≡ 1 = omega arith in rw e (alone (place_answer day kind t (place_at t k) s))
    where
      alone : (a : Answer) → first_of a (Ok tt) ≡ a
      alone (Ok u) = refl
      alone (Err r) = refl

  -- past the last there is none, and all are alike
  pub range_past : (k : ℕ) → length (spots t) < k → Rest day kind t s (length (spots t)) (length (spots t) + 1) ≡ place_answer day kind t (place_at t k) s
  range_past k h =
      let n = length (spots t) in
      let g : n ≤ k = omega arith in
      let e : n ≤ n = omega arith in
      range_one n ∙ rw (get_or-eq_default (spots t) no_spot e, get_or-eq_default (spots t) no_spot g)

  -- all of them
  pub range_all : Rest day kind t s 0 (length (spots t)) ≡ places_answer day kind t s
  unfolding places_answer
  range_all = ap (λ (ps : List Spot). places_from day kind t ps s) (all_spots t)

-- ---------------------------------------------------------------------------
-- The first place that is refused

-- the places before it are accepted, and it is refused
pub record Stops (day kind : ℕ) (t : LineType) (s : List ℕ) (ps : List Spot) (r : Refusal) : Type 0 where
  pub order : ℕ
  pub known : order < length ps
  pub before : (k : ℕ) → k < order → place_answer day kind t (get_or ps k no_spot) s ≡ Ok tt
  pub here : place_answer day kind t (get_or ps order no_spot) s ≡ Err r

module _ (day kind : ℕ) (t : LineType) (s : List ℕ) (r : Refusal) where
  -- places that are refused stop at one
  pub stops : (ps : List Spot) → places_from day kind t ps s ≡ Err r → Stops day kind t s ps r
  unfolding places_from
  stops [] e = let z : ◌≡◌ {A = ℕ} 0 1 = cc in absurd (omega arith)
  stops (p ∷ ps) e = go (place_answer day kind t p s) refl e (stops ps)
    where
      go :
          (a : Answer) → place_answer day kind t p s ≡ a → first_of a (places_from day kind t ps s) ≡ Err r →
          (places_from day kind t ps s ≡ Err r → Stops day kind t s ps r) → Stops day kind t s (p ∷ ps) r
      go (Err q) f g rest = record { order = 0; known = omega arith; before = λ k h. absurd (omega arith); here = f ∙ g }
      go (Ok u) f g rest =
          let w = rest g in
          record {
            order = suc w.order;
            known = let h = w.known in omega arith;
            before = λ k h. earlier w k h;
            here = w.here;
          }
        where
          earlier : (w : Stops day kind t s ps r) (k : ℕ) → k < suc w.order → place_answer day kind t (get_or (p ∷ ps) k no_spot) s ≡ Ok tt
          earlier w zero h = f
          earlier w (suc k) h = w.before k (omega arith)
