-- What is promised of a line's places: accepted exactly when each is, and what a refusal tells.
-- Assumes nothing.
use Rattle.refusal.proofs.Basics.{◌≡◌, refl, ap, arith, ℕ, zero, suc, ◌+◌, ◌≤◌, ◌<◌, length, get_or, ltb-true, List, [], ◌∷◌, Bool, true, false, cond, ◌&&◌, eqb, ltb, ◌↔◌, both_true}
use Rattle.std.specs.Prelude.{Ok, Err}
use Rattle.refusal.specs.Refusal.{none, refusal_number, refusal_place, answer_number}
use Rattle.verdict.specs.Verdict.{passed, verdict_byte, answer_at}
use Rattle.refusal.specs.declared.Place.{Place}
use Rattle.refusal.specs.declared.Refusal.{Refusal}
use Rattle.refusal.specs.declared.Refusal.TheVariants.{Size}
use Rattle.verdict.proofs.Verdicts.{answer_accepted, accepted_answer, first_both, told_place_lem, answer_never_29}
use Rattle.text.specs.Bytes.{bytes_verdict}
use Rattle.classes.specs.declared.Class.TheVariants.{Digits}
use Rattle.wage_places.specs.declared.LineType.{LineType}
use Rattle.wage_places.specs.declared.LineType.TheVariants.{Label, Group, Order, Closing}
use Rattle.wage_places.specs.declared.Spot.{Spot}
use Rattle.wage_places.specs.Places.{spots, no_spot, part_at, part_of}
use Rattle.wage_places.proofs.Laws.{each, each_at}
use Rattle.wage_places.proofs.Theorems.{place_at, found_spot, place_size}
use Rattle.wage_contents.specs.Contents.{among_verdict}
use Rattle.wage_fields.specs.Rules.{rule_verdict, place_verdict, place_answer, places_from, places_answer}
use Rattle.wage_fields.proofs.Laws.{size_right, accept_both, rule_within, told_byte, Stops, stops}

-- ---------------------------------------------------------------------------
-- Accepted exactly when

module _ (day kind : ℕ) (t : LineType) (s : List ℕ) where
  -- a place is accepted exactly when the line has 1,002 bytes and its field's rule refuses nothing of its bytes
  pub place_right : (p : Spot) → (place_answer day kind t p s ≡ Ok tt) ↔ ((length s ≡ 1002) × (rule_verdict day kind t p.field (part_at p s) s ≡ passed))
  unfolding place_answer place_verdict
  place_right p =
      let v = rule_verdict day kind t p.field (part_at p s) s in
      (λ e. let w = size_right (length s) _ e in (w.0, answer_accepted v p.field _ w.1), λ w. rw w.0 (accepted_answer v p.field _ w.1))

  -- places that are accepted are so each
  each_accepted : (ps : List Spot) → places_from day kind t ps s ≡ Ok tt → (k : ℕ) → k < length ps → place_answer day kind t (get_or ps k no_spot) s ≡ Ok tt
  unfolding places_from
  each_accepted [] e k h = absurd (omega arith)
  each_accepted (p ∷ ps) e zero h = (first_both (place_answer day kind t p s) (places_from day kind t ps s) e).0
  each_accepted (p ∷ ps) e (suc k) h = each_accepted ps (first_both (place_answer day kind t p s) (places_from day kind t ps s) e).1 k (omega arith)

  -- and the other way round
  all_accepted : (ps : List Spot) → ((k : ℕ) → k < length ps → place_answer day kind t (get_or ps k no_spot) s ≡ Ok tt) → places_from day kind t ps s ≡ Ok tt
  unfolding places_from
  all_accepted [] f = refl
  all_accepted (p ∷ ps) f = accept_both (place_answer day kind t p s) (places_from day kind t ps s) (f 0 (omega arith)) (all_accepted ps (λ k h. f (suc k) (omega arith)))

  -- a line's places are accepted exactly when each place is
  pub places_right : (places_answer day kind t s ≡ Ok tt) ↔ ((k : ℕ) → k < length (spots t) → place_answer day kind t (place_at t k) s ≡ Ok tt)
  unfolding places_answer
  places_right = (each_accepted (spots t), all_accepted (spots t))

  -- of an accepted line, the rule of each field that has a place refuses nothing of the field's bytes
  pub field_right : places_answer day kind t s ≡ Ok tt → (n k : ℕ) → k < length (spots t) → (place_at t k).field ≡ n → rule_verdict day kind t n (part_of t n s) s ≡ passed
  field_right e n k h f =
      rw (← f, found_spot t k h) ((place_right (place_at t k)).0 (places_right.0 e k h)).1

-- ---------------------------------------------------------------------------
-- What later rules read

module _ (day kind : ℕ) (s : List ℕ) where
  -- an accepted 300 tells its kind, 4 or 5
  pub label_kind : places_answer day kind Label s ≡ Ok tt → among_verdict 4 5 5 (part_of Label 2 s) ≡ passed
  unfolding spots
  label_kind e = field_right day kind Label s e 2 1 (omega arith) refl

  -- an accepted 301 tells its number of orders in digits
  pub group_number_digits : places_answer day kind Group s ≡ Ok tt → bytes_verdict Digits (part_of Group 5 s) ≡ passed
  unfolding spots
  group_number_digits e = field_right day kind Group s e 5 4 (omega arith) refl

  -- and its sum
  pub group_sum_digits : places_answer day kind Group s ≡ Ok tt → bytes_verdict Digits (part_of Group 6 s) ≡ passed
  unfolding spots
  group_sum_digits e = field_right day kind Group s e 6 5 (omega arith) refl

  -- an accepted 309 tells its amount in digits
  pub order_amount_digits : places_answer day kind Order s ≡ Ok tt → bytes_verdict Digits (part_of Order 10 s) ≡ passed
  unfolding spots
  order_amount_digits e = field_right day kind Order s e 10 7 (omega arith) refl

  -- a 399 has no places
  pub closing_has_none : places_answer day kind Closing s ≡ Ok tt
  unfolding places_answer places_from spots
  closing_has_none = refl

-- ---------------------------------------------------------------------------
-- The kind matters to a 309 alone

module _ (day k k' : ℕ) (s : List ℕ) where
  -- where the rules are the same under two kinds, so are the answers
  same_rules :
      (t : LineType) → ((n : ℕ) (f : List ℕ) → rule_verdict day k t n f s ≡ rule_verdict day k' t n f s) → (ps : List Spot) → places_from day k t ps s ≡ places_from day k' t ps s
  unfolding places_from place_answer place_verdict
  same_rules t f [] = refl
  same_rules t f (p ∷ ps) = rw (f p.field (part_at p s), same_rules t f ps)

  -- a 300 is judged alike under any kind
  pub label_ignores_kind : places_answer day k Label s ≡ places_answer day k' Label s
  unfolding places_answer
  label_ignores_kind = same_rules Label (λ n f. refl) (spots Label)

  -- so is a 301
  pub group_ignores_kind : places_answer day k Group s ≡ places_answer day k' Group s
  unfolding places_answer
  group_ignores_kind = same_rules Group (λ n f. refl) (spots Group)

-- ---------------------------------------------------------------------------
-- What a refusal tells

-- no line, a field of the type's places; a 3 a byte of that place, any other refusal its first byte
pub record Told (t : LineType) (r : Refusal) : Type 0 where
  pub no_line : (refusal_place r).line ≡ 0
  pub order : ℕ
  pub known : order < length (spots t)
  pub numbered : (refusal_place r).field ≡ (place_at t order).field
  pub some_field : 0 < (refusal_place r).field
  pub inside : refusal_number r ≡ 3 → ((place_at t order).start ≤ (refusal_place r).byte) × ((refusal_place r).byte < (place_at t order).start + (place_at t order).size)
  pub first : (refusal_number r ≡ 3 → ⊥) → (refusal_place r).byte ≡ (place_at t order).start

-- every place has a number and a byte: a test, which each table passes
all_numbered : (t : LineType) → each (λ p. ltb 0 p.field && ltb 0 p.size) (spots t) ≡ true
unfolding spots
all_numbered Label = refl
all_numbered Group = refl
all_numbered Order = refl
all_numbered Closing = refl

module _ (day kind : ℕ) (t : LineType) (s : List ℕ) (r : Refusal) where
  -- a refusal is that of the first place that is not accepted
  pub first_refused : places_answer day kind t s ≡ Err r → Stops day kind t s (spots t) r
  unfolding places_answer
  first_refused e = stops day kind t s r (spots t) e

  -- a refusal of a line of 1,002 bytes tells no line, a field that has a place, and a byte there: of a 3 the wrong one, else the first
  pub refusal_no_line : length s ≡ 1002 → places_answer day kind t s ≡ Err r → Told t r
  unfolding place_answer place_verdict
  refusal_no_line whole e =
      let w = first_refused e in
      let k = w.order in
      let p = place_at t k in
      let v = place_verdict day kind t p s in
      let q = (told_place_lem v p.field (p.start + verdict_byte v) r (rw whole at w.here)).0 in
      let f : (refusal_place r).field ≡ p.field = ap (λ (x : Place). x.field) q in
      let g = both_true _ _ (each_at (λ x. ltb 0 x.field && ltb 0 x.size) (spots t) (all_numbered t) k w.known) in
      let n : 0 < p.field = ltb-true 0 p.field g.0 in
      let size = place_size t s whole k w.known in
      let b = told_byte (length (part_at p s)) v p.field p.start r (rule_within day kind t p.field (part_at p s) s) (rw size (ltb-true 0 p.size g.1)) (rw whole at w.here) in
      record {
        no_line = ap (λ (x : Place). x.line) q;
        order = k;
        known = w.known;
        numbered = f;
        some_field = omega arith;
        inside = rw size at b.0;
        first = b.1;
      }

-- the number 29, of a tally, is not among those that a line's places give
pub places_never_29 : (day kind : ℕ) (t : LineType) (s : List ℕ) (r : Refusal) → places_answer day kind t s ≡ Err r → refusal_number r ≡ 29 → ⊥
unfolding place_answer place_verdict
places_never_29 day kind t s r e h =
    let w = first_refused day kind t s r e in
    go (place_at t w.order) (eqb (length s) 1002) w.here
  where
    go : (p : Spot) (b : Bool) → cond b (answer_at p.field p.start (place_verdict day kind t p s)) (Err (Size none)) ≡ Err r → ⊥
    go p true f = answer_never_29 (place_verdict day kind t p s) p.field _ r f h
    go p false f = let n : 1 ≡ refusal_number r = ap answer_number f in omega arith
