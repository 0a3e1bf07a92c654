-- Laws of places: of tables, of the search by field number, of the bytes of a place, and of tests over a whole table.
-- Assumes nothing.
use Rattle.refusal.proofs.Basics.{◌≡◌, sym, ◌∙◌, arith, ℕ, zero, suc, ◌+◌, ◌≤◌, ◌<◌, length, drop, get_or, length-drop, drop_of_length-le, get_or-eq_default, eq-eqb, ne_eqb, List, [], ◌∷◌, Bool, true, false, cond, ◌&&◌, eqb, drop-cons, length-take-le, add-one, both_true}
use Rattle.wage_places.specs.declared.Spot.{Spot}
use Rattle.wage_places.specs.Places.{no_spot, spot_in, part_at}

-- ---------------------------------------------------------------------------
-- Tables by order

-- k is none of the numbers below n: what is known where a match on the numbers below n has no arm for k
abbrev pub NoneBelow : ℕ → ℕ → Type 0
NoneBelow zero k = Unit {0}
NoneBelow (suc n) k = NoneBelow n k × (k ≡ n → ⊥)

-- so it is not below n
none_below : (n k : ℕ) → NoneBelow n k → n ≤ k
none_below zero k r = omega arith
none_below (suc n) k r = let h = none_below n k r.0 in let g = r.1 in omega arith

-- the place p that a match on k answers is the table's: in the arm of a number, and past the last
module _ (ps : List Spot) (k : ℕ) (p : Spot) where
  pub there : (n : ℕ) → k ≡ n → p ≡ get_or ps n no_spot → p ≡ get_or ps k no_spot
  there n e h = rw e h

  pub past : NoneBelow (length ps) k → p ≡ no_spot → p ≡ get_or ps k no_spot
  past r h = h ∙ sym (get_or-eq_default ps no_spot (none_below (length ps) k r))

-- both
pub ruleset arms = (there, past)

-- ---------------------------------------------------------------------------
-- The search for a field, from place k on

module _ (n : ℕ) (ps : List Spot) (k : ℕ) where
  -- the place k is of another field
  pub find_on : k < length ps → ((get_or ps k no_spot).field ≡ n → ⊥) → spot_in n (drop k ps) ≡ spot_in n (drop (k + 1) ps)
  unfolding spot_in
  find_on h g = let p = get_or ps k no_spot in rw (drop-cons ps k no_spot h, add-one k, ne_eqb n p.field (λ (f : n ≡ p.field). g (sym f)))

  -- the place k is of field n
  pub find_stops : (p : Spot) → k < length ps → p ≡ get_or ps k no_spot → p.field ≡ n → p ≡ spot_in n (drop k ps)
  unfolding spot_in
  find_stops p h e f = rw (drop-cons ps k no_spot h, ← e, eq-eqb n p.field (sym f))

  -- there are no more places
  pub find_ends : length ps ≤ k → no_spot ≡ spot_in n (drop k ps)
  unfolding spot_in
  find_ends h = rw (drop_of_length-le ps h)

-- ---------------------------------------------------------------------------
-- The bytes of a place

module _ (p : Spot) (s : List ℕ) where
  -- a place within the line has all of its bytes
  pub part_length : p.start + p.size ≤ length s → length (part_at p s) ≡ p.size
  part_length h = length-take-le p.size (drop p.start s) (omega (arith, length-drop p.start s))

-- ---------------------------------------------------------------------------
-- Tests over a whole table

module _ (f : Spot → Bool) where
  -- the test passes at each place
  abbrev pub each : List Spot → Bool
  each [] = true
  each (p ∷ ps) = f p && each ps

  -- so it does at the place k
  pub each_at : (ps : List Spot) → each ps ≡ true → (k : ℕ) → k < length ps → f (get_or ps k no_spot) ≡ true
  each_at [] e k h = absurd (omega arith)
  each_at (p ∷ ps) e zero h = (both_true (f p) (each ps) e).0
  each_at (p ∷ ps) e (suc k) h = each_at ps (both_true (f p) (each ps) e).1 k (omega arith)

  -- and at the place that is found, if there is one
  pub each_found : (ps : List Spot) → each ps ≡ true → f no_spot ≡ true → (n : ℕ) → f (spot_in n ps) ≡ true
  unfolding spot_in
  each_found [] e z n = z
  each_found (p ∷ ps) e z n = go (eqb n p.field) (each_found ps (both_true (f p) (each ps) e).1 z n)
    where
      go : (b : Bool) → f (spot_in n ps) ≡ true → f (cond b p (spot_in n ps)) ≡ true
      go true g = (both_true (f p) (each ps) e).0
      go false g = g

module _ (f : Spot → Spot → Bool) where
  -- the test passes at each place and the one behind it
  abbrev pub each_pair : List Spot → Bool
  each_pair [] = true
  each_pair (p ∷ []) = true
  each_pair (p ∷ (q ∷ ps)) = f p q && each_pair (q ∷ ps)

  -- so it does at the places k and k + 1
  pub pair_at : (ps : List Spot) → each_pair ps ≡ true → (k : ℕ) → k + 1 < length ps → f (get_or ps k no_spot) (get_or ps (k + 1) no_spot) ≡ true
  pair_at [] e k h = absurd (omega arith)
  pair_at (p ∷ []) e k h = absurd (omega arith)
  pair_at (p ∷ (q ∷ ps)) e zero h = (both_true (f p q) (each_pair (q ∷ ps)) e).0
  pair_at (p ∷ (q ∷ ps)) e (suc k) h = rw (add-one (suc k)) (rw (add-one k) at (pair_at (q ∷ ps) (both_true (f p q) (each_pair (q ∷ ps)) e).1 k (omega arith)))
