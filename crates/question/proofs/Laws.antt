-- Laws of the loops that read a question, and of those that lay out its fields.
-- Assumes nothing.
use Rattle.refusal.proofs.Basics.{◌≡◌, refl, sym, ap, ◌∙◌, arith, ℕ, zero, suc, ◌+◌, ◌-◌, ◌≤◌, ◌<◌, length, take, drop, get_or, set, length-drop, drop_of_length-le, eq-eqb, ne_eqb, lt-ltb, le-ltb, ltb-true, ltb-false, List, [], ◌∷◌, Bool, true, false, cond, eqb, ltb, sets, drop-cons, drop-drop, take_all, add-zero, add-one, taken, left}
use Rattle.std.proofs.Common.{Option}
use Rattle.std.proofs.lemmas.Iterator.{index_from_first}
use Rattle.std.specs.List.{AllWithin, HoldsAt, fold}
use Rattle.std.specs.Option.{MatchOption, unwrap_or}
use Rattle.text.specs.Bytes.{same, count_of}
use Rattle.text.specs.Digits.{digits_of, value_from}
use Rattle.text.specs.Split.{longer, split, joined}
use Rattle.text.proofs.Laws.{to_the_end}
use Rattle.text.proofs.Values.{value_keeps, value_on}
use Rattle.room.proofs.Laws.{sets_past}
use Rattle.question.specs.Question.{piece_at, field_at, behind_bars, place_among, largest, capped, line_byte, lined, lengths_of}

-- ---------------------------------------------------------------------------
-- The pieces between the bytes c

module _ (c : ℕ) where
  -- what pieces a text has: itself, or its bytes before the first c and the pieces behind it
  abbrev Apart : List ℕ → List (List ℕ) → Type 0
  Apart s [] = ⊥
  Apart s (p ∷ []) = p ≡ s
  Apart s (p ∷ (q ∷ ps)) = (length p < length s) × ((p ≡ take (length p) s) × (q ∷ ps ≡ split c (drop (length p + 1) s)))

  -- a byte more in front, other than c
  apart_longer : (b : ℕ) (s : List ℕ) (ps : List (List ℕ)) → Apart s ps → Apart (b ∷ s) (longer b ps)
  apart_longer b s [] h = absurd h
  apart_longer b s (p ∷ []) h = ap (λ (l : List ℕ). b ∷ l) h
  apart_longer b s (p ∷ (q ∷ ps)) (l, (f, r)) = (omega arith, (ap (λ (t : List ℕ). b ∷ t) f, rw (add-one (suc (length p))) (rw (add-one (length p)) at r)))

  -- c itself in front
  apart_none : (b : ℕ) (s : List ℕ) (ps : List (List ℕ)) → Apart s ps → ps ≡ split c s → Apart (b ∷ s) ([] ∷ ps)
  apart_none b s [] h e = absurd h
  apart_none b s (p ∷ ps) h e = (omega arith, (refl, e))

  apart : (s : List ℕ) → Apart s (split c s)
  unfolding split
  apart [] = refl
  apart (b ∷ s) = go (eqb b c) (apart s)
    where
      go : (t : Bool) → Apart s (split c s) → Apart (b ∷ s) (cond t ([] ∷ split c s) (longer b (split c s)))
      go true h = apart_none b s (split c s) h refl
      go false h = apart_longer b s (split c s) h

  -- the first piece is the front of the text
  first_front : (s : List ℕ) → (length (piece_at c 0 s) ≤ length s) × (take (length (piece_at c 0 s)) s ≡ piece_at c 0 s)
  first_front s = go (split c s) (apart s)
    where
      go : (ps : List (List ℕ)) → Apart s ps → (length (get_or ps 0 []) ≤ length s) × (take (length (get_or ps 0 [])) s ≡ get_or ps 0 [])
      go [] h = absurd h
      go (p ∷ []) h = rw h (omega arith, take_all (length s) s (omega arith))
      go (p ∷ (q ∷ ps)) h = let l = h.0 in (omega arith, sym h.1.0)

  -- there are no more bytes c than bytes
  pub count_within : (s : List ℕ) → count_of c s ≤ length s
  unfolding count_of
  count_within [] = omega arith
  count_within (b ∷ s) = go (eqb b c) (count_within s)
    where
      go : (t : Bool) → count_of c s ≤ length s → cond t (suc (count_of c s)) (count_of c s) ≤ suc (length s)
      go true h = omega arith
      go false h = omega arith

-- ---------------------------------------------------------------------------
-- How long the first piece is, from place i on

-- a byte more
first_longer : (b : ℕ) (ps : List (List ℕ)) → length (get_or (longer b ps) 0 []) ≡ suc (length (get_or ps 0 []))
first_longer b [] = refl
first_longer b (p ∷ ps) = refl

-- the place of the first byte c says it
module _ (c : ℕ) where
  piece_none : length (piece_at c 0 []) ≡ 0
  unfolding split
  piece_none = refl

  piece_stops : (b : ℕ) (s : List ℕ) → b ≡ c → length (piece_at c 0 (b ∷ s)) ≡ 0
  unfolding split
  piece_stops b s e = rw (eq-eqb b c e)

  piece_on : (b : ℕ) (s : List ℕ) → (b ≡ c → ⊥) → length (piece_at c 0 (b ∷ s)) ≡ length (piece_at c 0 s) + 1
  unfolding split
  piece_on b s e = rw (ne_eqb b c e, first_longer b (split c s)) (omega arith)

  pub piece_found :
      (s : List ℕ) (r : Option ℕ)
      → MatchOption r (AllWithin (λ (b : ℕ). b ≡ c → ⊥) s 0 (length s)) (λ i. (i < length s) × HoldsAt (λ (b : ℕ). b ≡ c) s i × AllWithin (λ (b : ℕ). b ≡ c → ⊥) s 0 i)
      → unwrap_or r (length s) ≡ length (piece_at c 0 s)
  piece_found s r h = sym (index_from_first (λ (t : List ℕ). length (piece_at c 0 t)) (λ (b : ℕ). b ≡ c) (λ (b : ℕ). b ≡ c → ⊥) piece_none piece_stops piece_on s r h)

-- ---------------------------------------------------------------------------
-- What stands behind bars, from place i on

-- nothing behind nothing
behind_nothing : (k : ℕ) → behind_bars k [] ≡ []
unfolding behind_bars
behind_nothing zero = refl
behind_nothing (suc k) = refl

-- a bar in front, or another byte
behind_first : (k b : ℕ) (s : List ℕ) → (k ≡ 0 → ⊥) → behind_bars k (b ∷ s) ≡ cond (eqb b 124) (behind_bars (k - 1) s) (behind_bars k s)
unfolding behind_bars
behind_first zero b s h = absurd (h refl)
behind_first (suc k) b s h = let e : suc k - 1 ≡ k = omega arith in rw e

module _ (s : List ℕ) (left i : ℕ) where
  pub behind_here : left ≡ 0 → take (length s - i) (drop i s) ≡ behind_bars left (drop i s)
  unfolding behind_bars
  behind_here e = rw e (to_the_end i s)

  pub behind_bar : i < length s → (left ≡ 0 → ⊥) → get_or s i 0 ≡ 124 → behind_bars left (drop i s) ≡ behind_bars (left - 1) (drop (i + 1) s)
  behind_bar h z e = rw (drop-cons s i 0 h, behind_first left (get_or s i 0) (drop (suc i) s) z, eq-eqb (get_or s i 0) 124 e, add-one i)

  pub behind_other : i < length s → (left ≡ 0 → ⊥) → (get_or s i 0 ≡ 124 → ⊥) → behind_bars left (drop i s) ≡ behind_bars left (drop (i + 1) s)
  behind_other h z e = rw (drop-cons s i 0 h, behind_first left (get_or s i 0) (drop (suc i) s) z, ne_eqb (get_or s i 0) 124 e, add-one i)

  pub behind_end : length s ≤ i → [] ≡ behind_bars left (drop i s)
  behind_end h = rw (drop_of_length-le s h) (sym (behind_nothing left))

-- past the first piece, a byte more in it changes nothing
later_longer : (b k : ℕ) (ps : List (List ℕ)) → get_or ps (suc k) [] ≡ get_or (longer b ps) (suc k) []
later_longer b k [] = refl
later_longer b k (p ∷ ps) = refl

-- the field behind k bars is field k
field_behind : (k : ℕ) (s : List ℕ) → field_at 0 (behind_bars k s) ≡ field_at k s
unfolding behind_bars split
field_behind zero s = refl
field_behind (suc k) [] = refl
field_behind (suc k) (b ∷ s) = go (eqb b 124) (field_behind k s) (field_behind (suc k) s)
  where
    go :
        (t : Bool) → field_at 0 (behind_bars k s) ≡ field_at k s → field_at 0 (behind_bars (suc k) s) ≡ field_at (suc k) s
        → field_at 0 (cond t (behind_bars k s) (behind_bars (suc k) s)) ≡ get_or (cond t ([] ∷ split 124 s) (longer b (split 124 s))) (suc k) []
    go true e f = e
    go false e f = f ∙ later_longer b k (split 124 s)

-- it is their front up to the next bar
pub field_front : (k : ℕ) (s : List ℕ) → take (length (field_at 0 (behind_bars k s))) (behind_bars k s) ≡ field_at k s
field_front k s = (first_front 124 (behind_bars k s)).1 ∙ field_behind k s

-- ---------------------------------------------------------------------------
-- The place of a word, from place k on

module _ (w : List ℕ) (ps : List (List ℕ)) (k : ℕ) where
  pub place_here : k < length ps → same w (get_or ps k []) ≡ true → k ≡ k + place_among w (drop k ps)
  unfolding place_among
  place_here h e = rw (drop-cons ps k [] h, e) (sym (add-zero k))

  pub place_on : k < length ps → same w (get_or ps k []) ≡ false → k + place_among w (drop k ps) ≡ k + 1 + place_among w (drop (k + 1) ps)
  unfolding place_among
  place_on h e = rw (drop-cons ps k [] h, e, add-one k) (omega arith)

  pub place_none : length ps ≤ k → k ≡ k + place_among w (drop k ps)
  unfolding place_among
  place_none h = rw (drop_of_length-le ps h) (sym (add-zero k))

-- ---------------------------------------------------------------------------
-- Numbers

module _ (n : ℕ) where
  pub capped_fits : n ≤ largest → n ≡ capped n
  unfolding capped
  capped_fits h = left _ _ _ _ (le-ltb largest n h) refl

  pub capped_more : largest < n → largest ≡ capped n
  unfolding capped
  capped_more h = taken _ _ _ (lt-ltb largest n h)

-- what is no less than the largest
capped_most : (n : ℕ) → largest ≤ n → capped n ≡ largest
unfolding capped
capped_most n h = go (ltb largest n) refl
  where
    go : (t : Bool) → ltb largest n ≡ t → cond t largest n ≡ largest
    go true e = refl
    go false e = let g = ltb-false largest n e in omega arith

-- more digits after the largest are the largest again
pub capped_on : (v : ℕ) (ds : List ℕ) → capped (value_from (capped v) ds) ≡ capped (value_from v ds)
capped_on v ds = go (ltb largest v) refl
  where
    go : (t : Bool) → ltb largest v ≡ t → capped (value_from (capped v) ds) ≡ capped (value_from v ds)
    go false e = rw (← (capped_fits v (ltb-false largest v e)))
    go true e =
        let m = capped_most v (omega (arith, ltb-true largest v e)) in
        rw m
        (capped_most (value_from largest ds) (value_keeps largest ds)
        ∙ capped_more (value_from v ds) (omega (arith, value_keeps v ds, ltb-true largest v e)))

capped_within : (n : ℕ) → capped n ≤ largest
unfolding capped
capped_within n = go (ltb largest n) refl
  where
    go : (t : Bool) → ltb largest n ≡ t → cond t largest n ≤ largest
    go true e = omega arith
    go false e = ltb-false largest n e

-- a text read byte by byte, each as one digit more
abbrev pub one_more : ℕ → ℕ → ℕ
one_more n b = capped (value_from n (digits_of (b ∷ [])))

pub number_read : (n : ℕ) (s : List ℕ) → n ≤ largest → fold one_more n s ≡ capped (value_from n (digits_of s))
unfolding value_from digits_of
number_read n [] h = capped_fits n h
number_read n (b ∷ s) h =
    let v = value_from n (digits_of (b ∷ [])) in
    number_read (capped v) s (capped_within v) ∙ capped_on v (digits_of s) ∙ ap capped (sym (value_on n (b ∷ s) 0 (omega arith)))

-- ---------------------------------------------------------------------------
-- Written into lent room, as far as it goes: what is left makes up the whole

-- no room is left
pub written_full : (out whole : List ℕ) (at : ℕ) (xs : List ℕ) → length out ≤ at → sets out at xs ≡ whole → out ≡ whole
written_full out whole at xs h e = sym (sets_past out at xs h) ∙ e

-- one number more
written_more : (out whole : List ℕ) (at x : ℕ) (xs ys : List ℕ) → ys ≡ x ∷ xs → sets out at ys ≡ whole → sets (set out at x) (at + 1) xs ≡ whole
written_more out whole at x xs ys f e = rw (add-one at) (rw f at e)

-- a text with its bytes c as line feeds, from place i on
module _ (c : ℕ) (s : List ℕ) (i : ℕ) (out whole : List ℕ) where
  pub line_more : i < length s → sets out i (lined c (drop i s)) ≡ whole → sets (set out i (line_byte c (get_or s i 0))) (i + 1) (lined c (drop (i + 1) s)) ≡ whole
  line_more h e = written_more out whole i (line_byte c (get_or s i 0)) (lined c (drop (i + 1) s)) (lined c (drop i s)) (rw (drop-cons s i 0 h, add-one i)) e

  pub line_last : length s ≤ i → sets out i (lined c (drop i s)) ≡ whole → out ≡ whole
  line_last h e = rw (drop_of_length-le s h) at e

-- fields one behind the other
joined_longer : (b : ℕ) (ps : List (List ℕ)) → joined (longer b ps) ≡ b ∷ joined ps
unfolding joined
joined_longer b [] = refl
joined_longer b (p ∷ ps) = refl

-- the fields together are the bytes that are no bar
pub joined_counted : (s : List ℕ) → length (joined (split 124 s)) + count_of 124 s ≡ length s
unfolding joined split count_of
joined_counted [] = refl
joined_counted (b ∷ s) = go (eqb b 124) (joined_counted s)
  where
    go :
        (t : Bool) → length (joined (split 124 s)) + count_of 124 s ≡ length s
        → length (joined (cond t ([] ∷ split 124 s) (longer b (split 124 s)))) + cond t (suc (count_of 124 s)) (count_of 124 s) ≡ suc (length s)
    go true h = omega arith
    go false h = rw (joined_longer b (split 124 s)) (omega arith)

module _ (s : List ℕ) (i : ℕ) where
  pub joined_bar : i < length s → get_or s i 0 ≡ 124 → joined (split 124 (drop i s)) ≡ joined (split 124 (drop (i + 1) s))
  unfolding joined split
  joined_bar h e = rw (drop-cons s i 0 h, eq-eqb (get_or s i 0) 124 e, add-one i)

  joined_on : i < length s → (get_or s i 0 ≡ 124 → ⊥) → joined (split 124 (drop i s)) ≡ get_or s i 0 ∷ joined (split 124 (drop (i + 1) s))
  unfolding split
  joined_on h e = rw (drop-cons s i 0 h, ne_eqb (get_or s i 0) 124 e, add-one i) (joined_longer (get_or s i 0) (split 124 (drop (suc i) s)))

  module _ (out whole : List ℕ) (at : ℕ) where
    pub byte_more :
        i < length s → (get_or s i 0 ≡ 124 → ⊥) → sets out at (joined (split 124 (drop i s))) ≡ whole
        → sets (set out at (get_or s i 0)) (at + 1) (joined (split 124 (drop (i + 1) s))) ≡ whole
    byte_more h n e = written_more out whole at (get_or s i 0) (joined (split 124 (drop (i + 1) s))) (joined (split 124 (drop i s))) (joined_on h n) e

    pub byte_last : length s ≤ i → sets out at (joined (split 124 (drop i s))) ≡ whole → out ≡ whole
    unfolding joined split
    byte_last h e = rw (drop_of_length-le s h) at e

-- their sizes
module _ (t : List ℕ) where
  sizes_on : (ps : List (List ℕ)) → Apart 124 t ps → length (get_or ps 0 []) < length t → lengths_of ps ≡ length (get_or ps 0 []) ∷ lengths_of (split 124 (drop (length (get_or ps 0 []) + 1) t))
  sizes_on [] h l = absurd h
  sizes_on (p ∷ []) h l = absurd (omega (arith, ap length h))
  sizes_on (p ∷ (q ∷ ps)) h l = ap (λ (r : List (List ℕ)). length p ∷ lengths_of r) h.1.1

  sizes_last : (ps : List (List ℕ)) → Apart 124 t ps → length t ≤ length (get_or ps 0 []) → lengths_of ps ≡ length (get_or ps 0 []) ∷ []
  sizes_last [] h l = absurd h
  sizes_last (p ∷ []) h l = refl
  sizes_last (p ∷ (q ∷ ps)) h l = let g = h.0 in absurd (omega arith)

module _ (s : List ℕ) (at n : ℕ) (e : n ≡ length (piece_at 124 0 (take (length s - at) (drop at s)))) where
  -- as the loop finds it
  first_from : n ≡ length (field_at 0 (drop at s))
  first_from = e ∙ rw (to_the_end at s)

  size_on : n < length s - at → lengths_of (split 124 (drop at s)) ≡ n ∷ lengths_of (split 124 (drop (at + (n + 1)) s))
  size_on h =
      rw (first_from, ← (drop-drop (length (field_at 0 (drop at s)) + 1) at s))
      (sizes_on (drop at s) (split 124 (drop at s)) (apart 124 (drop at s)) (omega (arith, first_from, length-drop at s)))

  size_end : length s - at ≤ n → lengths_of (split 124 (drop at s)) ≡ n ∷ []
  size_end h = rw first_from (sizes_last (drop at s) (split 124 (drop at s)) (apart 124 (drop at s)) (omega (arith, first_from, length-drop at s)))

  module _ (out whole : List ℕ) (k : ℕ) (w : sets out k (lengths_of (split 124 (drop at s))) ≡ whole) where
    pub size_more : n < length s - at → sets (set out k n) (k + 1) (lengths_of (split 124 (drop (at + (n + 1)) s))) ≡ whole
    size_more h = written_more out whole k n (lengths_of (split 124 (drop (at + (n + 1)) s))) (lengths_of (split 124 (drop at s))) (size_on h) w

    pub size_last : length s - at ≤ n → set out k n ≡ whole
    size_last h = written_more out whole k n [] (lengths_of (split 124 (drop at s))) (size_end h) w
