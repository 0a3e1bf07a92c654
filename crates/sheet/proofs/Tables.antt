-- What reading a sheet finds is what the definitions say: its first malformed line, and where the text of each field stands.
-- Assumes nothing.
use Rattle.refusal.proofs.Basics.{◌≡◌, refl, sym, ap, ◌∙◌, arith, ℕ, zero, suc, ◌+◌, ◌-◌, ◌≤◌, ◌<◌, length, get_or, set, replicate, length-set, get_or-set_same, get_or-set_other, ne_eqb, eqb-true, eqb-false, le-ltb, ltb-true, List, [], ◌∷◌, Bool, true, false, cond, eqb, ltb, both_true}
use Rattle.std.specs.Prelude.{Option, Some, None}
use Rattle.text.specs.declared.Part.{Part}
use Rattle.text.specs.Split.{split}
use Rattle.text.specs.Lines.{lines_among}
use Rattle.sheet.specs.declared.Lines.{Lines}
use Rattle.sheet.specs.Sheet.{is_standing, line_number, text_start, is_right, bad_from, bad_line, held_from, line_held}
use Rattle.sheet.specs.Mirror.{right_number, malformed_at, lines_from, lines_of, held_in, no_texts}
use Rattle.sheet.proofs.Laws.{standing_within}

-- ---------------------------------------------------------------------------
-- A line in its turn

-- the number of a right line is above the one before it
pub right_above : (last : ℕ) (p : List ℕ) → is_right last p ≡ true → last < line_number p
right_above last p e = ltb-true last (line_number p) (both_true (ltb last (line_number p)) _ e).0

module _ (last : ℕ) (p : List ℕ) where
  -- what the code asks is what the definition asks
  right_asked : is_right last p ≡ true → right_number last p ≡ line_number p
  unfolding right_number
  right_asked e = rw e

  wrong_asked : is_right last p ≡ false → right_number last p ≡ 0
  unfolding right_number
  wrong_asked e = rw e

-- a right line, and the lines behind it
lines_on :
    (k last at : ℕ) (xs ys p q : List ℕ) (ps : List (List ℕ)) → is_right last p ≡ true
    → lines_from k last at xs ys (p ∷ (q ∷ ps)) ≡ lines_from (k + 1) (line_number p) (at + length p + 1) (set xs (line_number p) (at + text_start (line_number p))) (set ys (line_number p) (length p - text_start (line_number p))) (q ∷ ps)
unfolding lines_from
lines_on k last at xs ys p q ps e = rw (right_asked last p e, ne_eqb (line_number p) 0 (λ (z : line_number p ≡ 0). omega (arith, z, right_above last p e)))

-- a malformed one
lines_stop : (k last at : ℕ) (xs ys p q : List ℕ) (ps : List (List ℕ)) → is_right last p ≡ false → lines_from k last at xs ys (p ∷ (q ∷ ps)) ≡ malformed_at k
unfolding lines_from
lines_stop k last at xs ys p q ps e = rw (wrong_asked last p e)

-- ---------------------------------------------------------------------------
-- The first malformed line

bad_from_lem : (k last at : ℕ) (xs ys : List ℕ) (ps : List (List ℕ)) → (lines_from k last at xs ys ps).bad ≡ bad_from k last ps
unfolding lines_from bad_from
bad_from_lem k last at xs ys [] = refl
bad_from_lem k last at xs ys (p ∷ []) = go (eqb (length p) 0)
  where
    go : (t : Bool) → (cond t (record { bad = 0; starts = xs; lengths = ys }) (malformed_at k)).bad ≡ cond t 0 k
    go true = refl
    go false = refl
bad_from_lem k last at xs ys (p ∷ (q ∷ ps)) = go (is_right last p) refl (λ xs' ys'. bad_from_lem (k + 1) (line_number p) (at + length p + 1) xs' ys' (q ∷ ps))
  where
    go :
        (t : Bool) → is_right last p ≡ t
        → ((xs' ys' : List ℕ) → (lines_from (k + 1) (line_number p) (at + length p + 1) xs' ys' (q ∷ ps)).bad ≡ bad_from (k + 1) (line_number p) (q ∷ ps))
        → (lines_from k last at xs ys (p ∷ (q ∷ ps))).bad ≡ cond t (bad_from (k + 1) (line_number p) (q ∷ ps)) k
    go true e on = ap (λ (l : Lines). l.bad) (lines_on k last at xs ys p q ps e) ∙ on _ _
    go false e on = ap (λ (l : Lines). l.bad) (lines_stop k last at xs ys p q ps e)

-- the first malformed line is told
pub bad_told : (s : List ℕ) → (lines_of s).bad ≡ bad_line s
unfolding lines_of
bad_told s = bad_from_lem 1 0 0 no_texts no_texts (split 10 s)

-- ---------------------------------------------------------------------------
-- Where a text stands

-- lines that are right: the first is, and so are those behind it
pub right_on : (k last : ℕ) (p q : List ℕ) (ps : List (List ℕ)) → 0 < k → bad_from k last (p ∷ (q ∷ ps)) ≡ 0 → (is_right last p ≡ true) × (bad_from (k + 1) (line_number p) (q ∷ ps) ≡ 0)
unfolding bad_from
right_on k last p q ps h e = go (is_right last p) refl e
  where
    go : (t : Bool) → is_right last p ≡ t → cond t (bad_from (k + 1) (line_number p) (q ∷ ps)) k ≡ 0 → (t ≡ true) × (bad_from (k + 1) (line_number p) (q ∷ ps) ≡ 0)
    go true r z = (refl, z)
    go false r z = absurd (omega arith)

-- the last piece of right lines has no byte
pub right_last : (k last : ℕ) (p : List ℕ) → 0 < k → bad_from k last (p ∷ []) ≡ 0 → p ≡ []
unfolding bad_from
right_last k last [] h e = refl
right_last k last (b ∷ p) h e =
    let z : eqb (length (b ∷ p)) 0 ≡ false = ne_eqb (length (b ∷ p)) 0 (λ (y : length (b ∷ p) ≡ 0). omega (arith, y)) in
    let w : cond (eqb (length (b ∷ p)) 0) 0 k ≡ 0 = e in
    absurd (omega (arith, rw z at w))

-- no line behind one of a number has that number, or one below it
none_later : (n k last at : ℕ) (ps : List (List ℕ)) → n ≤ last → 0 < k → bad_from k last ps ≡ 0 → held_from n at (lines_among ps) ≡ None
unfolding held_from
none_later n k last at [] h j e = refl
none_later n k last at (p ∷ []) h j e = refl
none_later n k last at (p ∷ (q ∷ ps)) h j e =
    let r = right_on k last p q ps j e in
    let a = right_above last p r.0 in
    rw (ne_eqb (line_number p) n (λ (f : line_number p ≡ n). omega (arith, f)))
    (none_later n (k + 1) (line_number p) (at + length p + 1) (q ∷ ps) (omega arith) (omega arith) r.1)

-- the first of two that is there
abbrev or_else : Option Part → Option Part → Option Part
or_else (Some p) h = Some p
or_else None h = h

or_nothing : (h : Option Part) → or_else h None ≡ h
or_nothing (Some p) = refl
or_nothing None = refl

-- what a table holds of field n
abbrev entry : ℕ → List ℕ → List ℕ → Option Part
entry n xs ys = cond (eqb (get_or xs n 0) 0) None (Some (record { start = get_or xs n 0; length = get_or ys n 0 }))

module _ (n : ℕ) (high : n ≤ 14) where
  -- the text of another field leaves it
  entry_other : (m x y : ℕ) (xs ys : List ℕ) → (m ≡ n → ⊥) → entry n (set xs m x) (set ys m y) ≡ entry n xs ys
  entry_other m x y xs ys h = rw (get_or-set_other xs m n x 0 (λ (e : n ≡ m). h (sym e)), get_or-set_other ys m n y 0 (λ (e : n ≡ m). h (sym e)))

  -- its own is there
  entry_own : (x y : ℕ) (xs ys : List ℕ) → length xs ≡ 15 → length ys ≡ 15 → 0 < x → entry n (set xs n x) (set ys n y) ≡ Some (record { start = x; length = y })
  entry_own x y xs ys f g h =
      rw (get_or-set_same xs n x 0 (omega arith), get_or-set_same ys n y 0 (omega arith), ne_eqb x 0 (λ (e : x ≡ 0). omega (arith, e)))

  -- the text begins behind the first byte of its line
  start_above : (at : ℕ) → 0 < at + text_start n
  start_above at = go (ltb n 10)
    where
      go : (t : Bool) → 0 < at + cond t 2 3
      go true = omega arith
      go false = omega arith

  -- one line more, of the number m
  held_step :
      (m at size : ℕ) (xs ys : List ℕ) (rest : Option Part) (l : Lines) → length xs ≡ 15 → length ys ≡ 15 → (m ≡ n → rest ≡ None)
      → entry n l.starts l.lengths ≡ or_else rest (entry n (set xs m (at + text_start m)) (set ys m (size - text_start m)))
      → entry n l.starts l.lengths ≡ or_else (cond (eqb m n) (Some (record { start = at + text_start n; length = size - text_start n })) rest) (entry n xs ys)
  held_step m at size xs ys rest l f g none ih = go (eqb m n) refl
    where
      go : (t : Bool) → eqb m n ≡ t → entry n l.starts l.lengths ≡ or_else (cond t (Some (record { start = at + text_start n; length = size - text_start n })) rest) (entry n xs ys)
      go true z =
          let e = eqb-true m n z in
          ih ∙ rw (none e, e) (entry_own (at + text_start n) (size - text_start n) xs ys f g (start_above at))
      go false z = ih ∙ ap (or_else rest) (entry_other m (at + text_start m) (size - text_start m) xs ys (eqb-false m n z))

  -- the table holds what the lines hold, or what it held before them
  held_from_lem :
      (k last at : ℕ) (xs ys : List ℕ) (ps : List (List ℕ)) → 0 < k → length xs ≡ 15 → length ys ≡ 15 → bad_from k last ps ≡ 0
      → entry n (lines_from k last at xs ys ps).starts (lines_from k last at xs ys ps).lengths ≡ or_else (held_from n at (lines_among ps)) (entry n xs ys)
  unfolding lines_from held_from
  held_from_lem k last at xs ys [] j f g e = refl
  held_from_lem k last at xs ys (p ∷ []) j f g e = rw (right_last k last p j e)
  held_from_lem k last at xs ys (p ∷ (q ∷ ps)) j f g e =
      let r = right_on k last p q ps j e in
      let m = line_number p in
      let xs' = set xs m (at + text_start m) in
      let ys' = set ys m (length p - text_start m) in
      let ih = held_from_lem (k + 1) m (at + length p + 1) xs' ys' (q ∷ ps) (omega arith) (length-set xs m _ ∙ f) (length-set ys m _ ∙ g) r.1 in
      rw (lines_on k last at xs ys p q ps r.0)
      (held_step m at (length p) xs ys (held_from n (at + length p + 1) (lines_among (q ∷ ps))) (lines_from (k + 1) m (at + length p + 1) xs' ys' (q ∷ ps)) f g
      (λ z. none_later n (k + 1) m (at + length p + 1) (q ∷ ps) (omega (arith, z)) (omega arith) r.1) ih)

-- a table of no text holds none
no_entry : (k n : ℕ) → ◌≡◌ {A = ℕ} (get_or (replicate k 0) n 0) 0
no_entry zero n = refl
no_entry (suc k) zero = refl
no_entry (suc k) (suc n) = no_entry k n

-- where the text of a field stands is told, of a right sheet
pub held_told : (s : List ℕ) (n : ℕ) → is_standing n ≡ true → bad_line s ≡ 0 → held_in (lines_of s) n ≡ line_held n s
unfolding held_in lines_of
held_told s n h e =
    let w = standing_within n h in
    rw (le-ltb 14 n w.1) (held_from_lem n w.1 1 0 0 no_texts no_texts (split 10 s) (omega arith) refl refl e ∙ (rw (no_entry 15 n) (or_nothing (line_held n s))))
