-- What is promised of the places of a wage line: apart and small, found by their number, and their parts.
-- Assumes nothing.
use Rattle.refusal.proofs.Basics.{◌≡◌, refl, sym, arith, ℕ, suc, ◌+◌, ◌≤◌, ◌<◌, length, get_or, ne_eqb, eqb-true, leb-true, ltb-true, List, [], ◌∷◌, Bool, true, ◌&&◌, eqb, leb, ltb, both_true}
use Rattle.wage_places.specs.declared.LineType.{LineType}
use Rattle.wage_places.specs.declared.LineType.TheVariants.{Label, Group, Order, Closing}
use Rattle.wage_places.specs.declared.Spot.{Spot}
use Rattle.wage_places.specs.Places.{no_spot, spots, spot_in, spot_of, part_at, part_of}
use Rattle.wage_places.proofs.Laws.{each, each_at, each_found, each_pair, pair_at, part_length}

-- ---------------------------------------------------------------------------
-- The places of each type

-- the place of a line at an order, counted from 0
abbrev pub place_at : LineType → ℕ → Spot
place_at t k = get_or (spots t) k no_spot

-- p ends before q begins, and its field's number is smaller
pub record Apart (p q : Spot) : Type 0 where
  pub ends : p.start + p.size ≤ q.start
  pub ascends : p.field < q.field

-- the same as a test, which each table passes
apart : Spot → Spot → Bool
apart p q = leb (p.start + p.size) q.start && ltb p.field q.field

all_apart : (t : LineType) → each_pair apart (spots t) ≡ true
unfolding spots apart
all_apart Label = refl
all_apart Group = refl
all_apart Order = refl
all_apart Closing = refl

-- the places of a line ascend, with their numbers, and do not overlap
pub places_apart : (t : LineType) (k : ℕ) → k + 1 < length (spots t) → Apart (place_at t k) (place_at t (k + 1))
unfolding apart
places_apart t k h =
    let p = place_at t k in
    let q = place_at t (k + 1) in
    let b = both_true (leb (p.start + p.size) q.start) (ltb p.field q.field) (pair_at apart (spots t) (all_apart t) k h) in
    record { ends = leb-true (p.start + p.size) q.start b.0; ascends = ltb-true p.field q.field b.1 }

-- p has at most 140 bytes, and ends at byte 562 or before
pub record Small (p : Spot) : Type 0 where
  pub short : p.size ≤ 140
  pub within : p.start + p.size ≤ 562

-- the same as a test, which each table passes
small : Spot → Bool
small p = leb p.size 140 && leb (p.start + p.size) 562

all_small : (t : LineType) → each small (spots t) ≡ true
unfolding spots small
all_small Label = refl
all_small Group = refl
all_small Order = refl
all_small Closing = refl

-- the test is right
is_small : (p : Spot) → small p ≡ true → Small p
unfolding small
is_small p e =
    let b = both_true (leb p.size 140) (leb (p.start + p.size) 562) e in
    record { short = leb-true p.size 140 b.0; within = leb-true (p.start + p.size) 562 b.1 }

-- every place is small
pub sizes_small : (t : LineType) (k : ℕ) → k < length (spots t) → Small (place_at t k)
sizes_small t k h = is_small (place_at t k) (each_at small (spots t) (all_small t) k h)

-- the same of the place of any field's number
pub field_small : (t : LineType) (n : ℕ) → Small (spot_of t n)
unfolding small
field_small t n = is_small (spot_of t n) (each_found small (spots t) (all_small t) refl n)

-- all places lie before the type, in the first 997 bytes
pub places_within : (t : LineType) (k : ℕ) → k < length (spots t) → (place_at t k).start + (place_at t k).size ≤ 997
places_within t k h = let w = (sizes_small t k h).within in omega arith

-- ---------------------------------------------------------------------------
-- Found by its number

-- two places have the same three numbers: a test
same : Spot → Spot → Bool
same p q = eqb p.field q.field && (eqb p.start q.start && eqb p.size q.size)

is_same : (p q : Spot) → same p q ≡ true → p ≡ q
unfolding same
is_same p q e =
    let a = both_true (eqb p.field q.field) (eqb p.start q.start && eqb p.size q.size) e in
    let b = both_true (eqb p.start q.start) (eqb p.size q.size) a.1 in
    rw (← (eqb-true p.field q.field a.0), ← (eqb-true p.start q.start b.0), ← (eqb-true p.size q.size b.1))

-- a place is the one that its number finds: a test, which each table passes
found : LineType → Spot → Bool
found t p = same (spot_of t p.field) p

all_found : (t : LineType) → each (found t) (spots t) ≡ true
unfolding spots found same spot_in
all_found Label = refl
all_found Group = refl
all_found Order = refl
all_found Closing = refl

-- the place of a place's number is that place
pub found_spot : (t : LineType) (k : ℕ) → k < length (spots t) → spot_of t (place_at t k).field ≡ place_at t k
unfolding found
found_spot t k h = is_same (spot_of t (place_at t k).field) (place_at t k) (each_at (found t) (spots t) (all_found t) k h)

-- among places of other numbers none is found
none_found : (n : ℕ) (ps : List Spot) → ((k : ℕ) → k < length ps → (get_or ps k no_spot).field ≡ n → ⊥) → spot_in n ps ≡ no_spot
unfolding spot_in
none_found n [] f = refl
none_found n (p ∷ ps) f = rw (ne_eqb n p.field (λ (e : n ≡ p.field). f 0 (omega arith) (sym e))) (none_found n ps (λ k h e. f (suc k) (omega arith) e))

-- a number that no place has gives no place
pub unknown_spot : (t : LineType) (n : ℕ) → ((k : ℕ) → k < length (spots t) → (place_at t k).field ≡ n → ⊥) → spot_of t n ≡ no_spot
unknown_spot t n f = none_found n (spots t) f

-- ---------------------------------------------------------------------------
-- The parts of a line of 1,002 bytes

module _ (t : LineType) (s : List ℕ) (whole : length s ≡ 1002) where
  -- a place's part has the place's size
  pub place_size : (k : ℕ) → k < length (spots t) → length (part_at (place_at t k) s) ≡ (place_at t k).size
  place_size k h = let w = (sizes_small t k h).within in part_length (place_at t k) s (omega arith)

  -- so has the part of any field's number
  pub field_size : (n : ℕ) → length (part_of t n s) ≡ (spot_of t n).size
  field_size n = let w = (field_small t n).within in part_length (spot_of t n) s (omega arith)
