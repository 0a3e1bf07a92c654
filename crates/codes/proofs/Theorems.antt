-- What is promised of the codes: 55 of three digits, ascending; each is found at its place, and nothing else is found.
-- Assumes nothing.
use Rattle.refusal.proofs.Basics.{◌≡◌, refl, arith, ℕ, zero, suc, ◌≤◌, ◌<◌, length, get_or, ltb-true, leb-true, eq-eqb, ne_eqb, List, [], ◌∷◌, Bool, true, false≢true, ◌&&◌, ltb, leb, ◌↔◌, both_true}
use Rattle.std.specs.Prelude.{Option, Some, None}
use Rattle.codes.specs.Codes.{codes, first_in, code_place, is_found, is_code}
use Rattle.codes.proofs.Laws.{place_tells}

-- ---------------------------------------------------------------------------
-- The table

-- 55 codes
pub codes_counted : length codes ≡ 55
codes_counted = refl

-- each number is below the next
unfoldable pub ascending : List ℕ → Bool
ascending [] = true
ascending (a ∷ []) = true
ascending (a ∷ (b ∷ s)) = ltb a b && ascending (b ∷ s)

-- so are the codes
pub codes_ascending : ascending codes ≡ true
unfolding ascending
codes_ascending = refl

-- each number is one of a to b
unfoldable pub all_within : ℕ → ℕ → List ℕ → Bool
all_within a b [] = true
all_within a b (c ∷ s) = (leb a c && leb c b) && all_within a b s

-- the codes are of three digits
pub codes_within : all_within 100 699 codes ≡ true
unfolding all_within
codes_within = refl

-- what is left of an ascending list ascends
rest_ascending : (a : ℕ) (s : List ℕ) → ascending (a ∷ s) ≡ true → ascending s ≡ true
unfolding ascending
rest_ascending a [] e = refl
rest_ascending a (b ∷ s) e = (both_true (ltb a b) (ascending (b ∷ s)) e).1

-- its first number is below each other
first_lowest : (a : ℕ) (s : List ℕ) (j : ℕ) → ascending (a ∷ s) ≡ true → j < length s → a < get_or s j 0
unfolding ascending
first_lowest a [] j e h = absurd (omega arith)
first_lowest a (b ∷ s) zero e h = ltb-true a b (both_true (ltb a b) (ascending (b ∷ s)) e).0
first_lowest a (b ∷ s) (suc j) e h =
    let t = both_true (ltb a b) (ascending (b ∷ s)) e in
    omega (arith, ltb-true a b t.0, first_lowest b s j t.1 (omega arith))

-- what the test says of each place
each_within : (a b : ℕ) (s : List ℕ) (j : ℕ) → all_within a b s ≡ true → j < length s → (a ≤ get_or s j 0) × (get_or s j 0 ≤ b)
unfolding all_within
each_within a b [] j e h = absurd (omega arith)
each_within a b (c ∷ s) zero e h =
    let t = both_true (leb a c) (leb c b) (both_true (leb a c && leb c b) (all_within a b s) e).0 in
    (leb-true a c t.0, leb-true c b t.1)
each_within a b (c ∷ s) (suc j) e h = each_within a b s j (both_true (leb a c && leb c b) (all_within a b s) e).1 (omega arith)

-- ---------------------------------------------------------------------------
-- Option ℕ exactly where it stands

-- what an ascending list holds is found at its place
found_there : (s : List ℕ) (i : ℕ) → ascending s ≡ true → i < length s → first_in (get_or s i 0) s ≡ Some i
unfolding first_in
found_there [] i e h = absurd (omega arith)
found_there (c ∷ s) zero e h = rw (eq-eqb c c refl)
found_there (c ∷ s) (suc j) e h =
    let g = first_lowest c s j e (omega arith) in
    rw (ne_eqb (get_or s j 0) c (λ q. omega arith), found_there s j (rest_ascending c s e) (omega arith))

module _ (n : ℕ) where
  -- a number is found at a place exactly when it is the code there
  pub place_exactly : (i : ℕ) → (code_place n ≡ Some i) ↔ ((i < 55) × (get_or codes i 0 ≡ n))
  unfolding code_place
  place_exactly i = (place_tells n codes i, λ w. rw w.1 at (found_there codes i codes_ascending w.0))

  -- and nowhere exactly when it is no code
  pub no_place_exactly : (code_place n ≡ None) ↔ ((i : ℕ) → i < 55 → get_or codes i 0 ≡ n → ⊥)
  no_place_exactly = (λ e i h q. (let f = (place_exactly i).1 (h, q) in let z : ◌≡◌ {A = ℕ} 0 1 = cc in omega arith), back (code_place n) refl)
    where
      back : (f : Option ℕ) → code_place n ≡ f → ((i : ℕ) → i < 55 → get_or codes i 0 ≡ n → ⊥) → code_place n ≡ None
      back (Some i) e g = let w = (place_exactly i).0 e in absurd (g i w.0 w.1)
      back None e g = e

  -- a number is a code exactly when it stands in the list
  pub code_exactly : (is_code n ≡ true) ↔ ((i : ℕ) × (i < 55) × (get_or codes i 0 ≡ n))
  unfolding is_code
  code_exactly = (there (code_place n) refl, λ w. rw ((place_exactly w.0).1 (w.1, w.2)))
    where
      there : (f : Option ℕ) → code_place n ≡ f → is_found f ≡ true → (i : ℕ) × (i < 55) × (get_or codes i 0 ≡ n)
      there (Some i) e t = let w = (place_exactly i).0 e in (i, w.0, w.1)
      there None e t = absurd (false≢true t)

  -- a code has three digits
  pub code_bounds : (i : ℕ) → code_place n ≡ Some i → (100 ≤ n) × (n ≤ 699)
  code_bounds i e = let w = (place_exactly i).0 e in rw w.1 at (each_within 100 699 codes i codes_within w.0)

-- each code is found at its place
pub each_code_found : (i : ℕ) → i < 55 → code_place (get_or codes i 0) ≡ Some i
each_code_found i h = (place_exactly (get_or codes i 0) i).1 (h, refl)
