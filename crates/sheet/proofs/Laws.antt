-- Laws of one line of a sheet, and how the loop goes through a sheet line by line.
-- Assumes nothing.
use Rattle.refusal.proofs.Basics.{◌≡◌, refl, sym, ap, ◌∙◌, arith, ℕ, ◌+◌, ◌-◌, ◌≤◌, ◌<◌, length, take, drop, set, length-drop, length-set, length-append, ne_eqb, eq-eqb, eqb-true, le-leb, leb-true, lt-ltb, le-ltb, List, [], ◌∷◌, ◌++◌, Bool, true, false, cond, ◌&&◌, ◌||◌, eqb, leb, ltb, false≢true, length-take-le, both_true}
use Rattle.verdict.specs.Verdict.{passed}
use Rattle.std.specs.Prelude.{Some, None, Err}
use Rattle.verdict.specs.declared.Fault.{Fault}
use Rattle.classes.specs.declared.Class.TheVariants.{Line}
use Rattle.text.specs.Bytes.{first_bad}
use Rattle.text.specs.Split.{split}
use Rattle.text.proofs.Pieces.{first_piece, next_piece_lem, last_piece_lem}
use Rattle.slip_fields.specs.declared.Currency.TheVariants.{Euro}
use Rattle.slip_fields.specs.Fields.{field_verdict}
use Rattle.sheet.specs.Sheet.{is_standing, one_digit, two_digit, line_number, text_start, line_text, is_right}
use Rattle.sheet.specs.Mirror.{right_number, malformed_at, lines_from, lines_of, no_texts}
use Rattle.sheet.specs.Claims.{number_text}

-- ---------------------------------------------------------------------------
-- The number of a line

-- 4 to 9, 13 or 14
pub data OneOf (n : ℕ) : Type 0 where
  low : 4 ≤ n → n ≤ 9 → OneOf n
  thirteen : n ≡ 13 → OneOf n
  fourteen : n ≡ 14 → OneOf n

pub one_of_lem : (n : ℕ) → is_standing n ≡ true → OneOf n
unfolding is_standing
one_of_lem n e = go (leb 4 n) (leb n 9) (eqb n 13) (eqb n 14) refl refl refl refl e
  where
    go : (a b c d : Bool) → leb 4 n ≡ a → leb n 9 ≡ b → eqb n 13 ≡ c → eqb n 14 ≡ d → ((a && b) || (c || d)) ≡ true → OneOf n
    go true true c d p q r t h = low (leb-true 4 n p) (leb-true n 9 q)
    go true false true d p q r t h = thirteen (eqb-true n 13 r)
    go true false false true p q r t h = fourteen (eqb-true n 14 t)
    go true false false false p q r t h = absurd (false≢true h)
    go false b true d p q r t h = thirteen (eqb-true n 13 r)
    go false b false true p q r t h = fourteen (eqb-true n 14 t)
    go false b false false p q r t h = absurd (false≢true h)

-- so it is small
pub standing_within : (n : ℕ) → is_standing n ≡ true → (4 ≤ n) × (n ≤ 14)
standing_within n h = go (one_of_lem n h)
  where
    go : OneOf n → (4 ≤ n) × (n ≤ 14)
    go (low a b) = (a, omega arith)
    go (thirteen e) = (omega arith, omega arith)
    go (fourteen e) = (omega arith, omega arith)

-- a line that has a number: it begins with that number and `=`
pub record Numbered (p : List ℕ) : Type 0 where
  pub standing : is_standing (line_number p) ≡ true
  pub whole : p ≡ number_text (line_number p) ++ (61 ∷ line_text p)

-- with one digit
one_numbered : (a : ℕ) (s : List ℕ) → (one_digit a ≡ 0 → ⊥) → (is_standing (one_digit a) ≡ true) × (a ∷ (61 ∷ s) ≡ number_text (one_digit a) ++ (61 ∷ drop (text_start (one_digit a)) (a ∷ (61 ∷ s))))
unfolding is_standing
one_numbered a s = go (leb 52 a && leb a 57) refl
  where
    go :
        (t : Bool) → (leb 52 a && leb a 57) ≡ t → (cond t (a - 48) 0 ≡ 0 → ⊥)
        → (is_standing (cond t (a - 48) 0) ≡ true) × (a ∷ (61 ∷ s) ≡ number_text (cond t (a - 48) 0) ++ (61 ∷ drop (text_start (cond t (a - 48) 0)) (a ∷ (61 ∷ s))))
    go true e h =
        let w = both_true (leb 52 a) (leb a 57) e in
        let x = leb-true 52 a w.0 in
        let y = leb-true a 57 w.1 in
        let z : 48 + (a - 48) ≡ a = omega arith in
        (rw (le-leb 4 (a - 48) (omega arith), le-leb (a - 48) 9 (omega arith)), rw (lt-ltb (a - 48) 10 (omega arith), z))
    go false e h = absurd (h refl)

-- with two
two_numbered :
    (a b : ℕ) (s : List ℕ) → (two_digit a b ≡ 0 → ⊥)
    → (is_standing (two_digit a b) ≡ true) × (a ∷ (b ∷ (61 ∷ s)) ≡ number_text (two_digit a b) ++ (61 ∷ drop (text_start (two_digit a b)) (a ∷ (b ∷ (61 ∷ s)))))
unfolding is_standing
two_numbered a b s = go (eqb a 49) (eqb b 51) (eqb b 52) refl refl refl
  where
    go :
        (x y z : Bool) → eqb a 49 ≡ x → eqb b 51 ≡ y → eqb b 52 ≡ z → (◌≡◌ {A = ℕ} (cond x (cond y 13 (cond z 14 0)) 0) 0 → ⊥)
        → (is_standing (cond x (cond y 13 (cond z 14 0)) 0) ≡ true) × (a ∷ (b ∷ (61 ∷ s)) ≡ number_text (cond x (cond y 13 (cond z 14 0)) 0) ++ (61 ∷ drop (text_start (cond x (cond y 13 (cond z 14 0)) 0)) (a ∷ (b ∷ (61 ∷ s)))))
    go true true z e f g h = (refl, rw (eqb-true a 49 e, eqb-true b 51 f))
    go true false true e f g h = (refl, rw (eqb-true a 49 e, eqb-true b 52 g))
    go true false false e f g h = absurd (h refl)
    go false y z e f g h = absurd (h refl)

pub numbered : (p : List ℕ) → (line_number p ≡ 0 → ⊥) → Numbered p
unfolding line_number
numbered [] h = absurd (h refl)
numbered (a ∷ []) h = absurd (h refl)
numbered (a ∷ (b ∷ [])) h = go (eqb b 61) refl h
  where
    go : (t : Bool) → eqb b 61 ≡ t → (cond t (one_digit a) 0 ≡ 0 → ⊥) → Numbered (a ∷ (b ∷ []))
    go true e h =
        let w = one_numbered a [] h in
        record { standing = rw e w.0; whole = rw (e, eqb-true b 61 e) w.1 }
    go false e h = absurd (h refl)
numbered (a ∷ (b ∷ (c ∷ s))) h = go (eqb b 61) (eqb c 61) refl refl h
  where
    go : (t u : Bool) → eqb b 61 ≡ t → eqb c 61 ≡ u → (cond t (one_digit a) (cond u (two_digit a b) 0) ≡ 0 → ⊥) → Numbered (a ∷ (b ∷ (c ∷ s)))
    go true u e f h =
        let w = one_numbered a (c ∷ s) h in
        record { standing = rw e w.0; whole = rw (e, eqb-true b 61 e) w.1 }
    go false true e f h =
        let w = two_numbered a b s h in
        record { standing = rw (e, f) w.0; whole = rw (e, f, eqb-true c 61 f) w.1 }
    go false false e f h = absurd (h refl)

-- so its text begins within it
pub text_within : (p : List ℕ) → (line_number p ≡ 0 → ⊥) → text_start (line_number p) ≤ length p
text_within p h = go (ltb (line_number p) 10) refl
  where
    size : length p ≡ length (number_text (line_number p)) + length (61 ∷ line_text p)
    size = ap length (numbered p h).whole ∙ length-append (number_text (line_number p)) (61 ∷ line_text p)

    go : (t : Bool) → ltb (line_number p) 10 ≡ t → cond t 2 3 ≤ length p
    go true e = let z : length (number_text (line_number p)) ≡ 1 = rw e in omega (arith, size)
    go false e = let z : length (number_text (line_number p)) ≡ 2 = rw e in omega (arith, size)

-- ---------------------------------------------------------------------------
-- A right line

module _ (last : ℕ) (p : List ℕ) where
  -- its number is not above the one before
  pub not_above : line_number p ≤ last → 0 ≡ right_number last p
  unfolding right_number
  not_above h = rw (le-ltb last (line_number p) h)

  -- its text is refused
  pub not_obeying : last < line_number p → (f : Fault) → field_verdict Euro (line_number p) [] (line_text p) ≡ Err f → 0 ≡ right_number last p
  unfolding right_number
  not_obeying h f e = rw (lt-ltb last (line_number p) h, e)

  -- it is right
  pub obeying : last < line_number p → field_verdict Euro (line_number p) [] (line_text p) ≡ passed → line_number p ≡ right_number last p
  unfolding right_number
  obeying h e = rw (lt-ltb last (line_number p) h, e)

  -- its number is 0 exactly where it is malformed
  pub right_is : (right_number last p ≡ 0 → ⊥) → (is_right last p ≡ true) × (right_number last p ≡ line_number p)
  unfolding right_number
  right_is h = go (is_right last p) refl h
    where
      go : (t : Bool) → is_right last p ≡ t → (cond t (line_number p) 0 ≡ 0 → ⊥) → (t ≡ true) × (cond t (line_number p) 0 ≡ line_number p)
      go true e h = (refl, refl)
      go false e h = absurd (h refl)

-- its number is one of a field with standing text, and its text begins within it
pub right_numbered : (last : ℕ) (p : List ℕ) → (right_number last p ≡ 0 → ⊥) → (right_number last p ≤ 14) × (text_start (right_number last p) ≤ length p)
right_numbered last p h =
    let e = (right_is last p h).1 in
    let g : line_number p ≡ 0 → ⊥ = λ z. h (e ∙ z) in
    rw e ((standing_within (line_number p) (numbered p g).standing).1, text_within p g)

-- ---------------------------------------------------------------------------
-- Lines, from place `at` on

-- what the code lends as `&s[from..to]`
abbrev pub part : ℕ → ℕ → List ℕ → List ℕ
part from to s = take (to - from) (drop from s)

-- the lines before `at` are right: what reading the sheet finds is what the lines from `at` on add
pub record Reached (s : List ℕ) (line last at : ℕ) (starts lengths : List ℕ) : Type 0 where
  pub within : at ≤ length s
  pub fewer : line ≤ at + 1
  pub starting : length starts ≡ 15
  pub sized : length lengths ≡ 15
  pub whole : lines_of s ≡ lines_from line last at starts lengths (split 10 (drop at s))

-- the first line
pub reached_first : (s : List ℕ) → Reached s 1 0 0 no_texts no_texts
unfolding lines_of
reached_first s = record { within = omega arith; fewer = omega arith; starting = refl; sized = refl; whole = refl }

-- a line and what follows it
lines_step :
    (k last at : ℕ) (xs ys p t : List ℕ)
    → lines_from k last at xs ys (p ∷ split 10 t) ≡ cond (eqb (right_number last p) 0) (malformed_at k) (lines_from (k + 1) (right_number last p) (at + length p + 1) (set xs (right_number last p) (at + text_start (right_number last p))) (set ys (right_number last p) (length p - text_start (right_number last p))) (split 10 t))
unfolding lines_from
lines_step k last at xs ys p t = rw (first_piece 10 t).2

module _ (s : List ℕ) (line last at : ℕ) (starts lengths : List ℕ) (w : Reached s line last at starts lengths) where
  module _ (i : ℕ) (e : first_bad Line (take (length s - at) (drop at s)) ≡ Some i) where
    -- the line that a scan found ends within the sheet
    pub reached_ends : at + i < length s
    reached_ends = (next_piece_lem s at i w.within e).0

    -- it has as many bytes as the scan passed
    pub reached_length : length (part at (at + i) s) ≡ i
    reached_length = let z : at + i - at ≡ i = omega arith in rw z (length-take-le i (drop at s) (omega (arith, reached_ends, length-drop at s)))

    -- what is found is what it and the lines behind it add
    reached_line :
        lines_of s ≡ cond (eqb (right_number last (part at (at + i) s)) 0) (malformed_at line) (lines_from (line + 1) (right_number last (part at (at + i) s)) (at + i + 1) (set starts (right_number last (part at (at + i) s)) (at + text_start (right_number last (part at (at + i) s)))) (set lengths (right_number last (part at (at + i) s)) (i - text_start (right_number last (part at (at + i) s)))) (split 10 (drop (at + i + 1) s)))
    reached_line =
        let z : at + i - at ≡ i = omega arith in
        let y : at + (i + 1) ≡ at + i + 1 = omega arith in
        let p = part at (at + i) s in
        let d : split 10 (drop at s) ≡ p ∷ split 10 (drop (at + i + 1) s) = (next_piece_lem s at i w.within e).1 ∙ rw (z, y) in
        w.whole ∙ (ap (lines_from line last at starts lengths) d ∙ (lines_step line last at starts lengths p (drop (at + i + 1) s) ∙ rw reached_length))

    module _ (n : ℕ) (j : n ≡ right_number last (part at (at + i) s)) where
      -- malformed: that is found
      pub reached_bad : n ≡ 0 → malformed_at line ≡ lines_of s
      reached_bad z = sym (reached_line ∙ rw (sym j ∙ z))

      -- right: on to the next line
      pub reached_next : (n ≡ 0 → ⊥) → Reached s (line + 1) n (at + i + 1) (set starts n (at + text_start n)) (set lengths n (i - text_start n))
      reached_next h =
          record {
            within = omega (arith, reached_ends);
            fewer = omega (arith, w.fewer);
            starting = length-set starts n _ ∙ w.starting;
            sized = length-set lengths n _ ∙ w.sized;
            whole = reached_line ∙ rw (← j, ne_eqb n 0 h);
          }

      -- its number fits the table, and its text the line
      pub reached_number : (n ≡ 0 → ⊥) → (n ≤ 14) × (text_start n ≤ i)
      reached_number h =
          let g = right_numbered last (part at (at + i) s) (λ z. h (j ∙ z)) in
          rw j (g.0, rw reached_length at g.1)

  module _ (e : first_bad Line (take (length s - at) (drop at s)) ≡ None) where
    -- bytes behind the last line feed: a line without one
    pub reached_open : at < length s → malformed_at line ≡ lines_of s
    unfolding lines_from
    reached_open h = sym (w.whole ∙ rw (last_piece_lem s at e, ne_eqb (length (drop at s)) 0 (λ (z : length (drop at s) ≡ 0). omega (arith, z, length-drop at s))))

    -- none: all lines are right
    pub reached_last : length s ≤ at → record { bad = 0; starts = starts; lengths = lengths } ≡ lines_of s
    unfolding lines_from
    reached_last h = sym (w.whole ∙ rw (last_piece_lem s at e, eq-eqb (length (drop at s)) 0 (omega (arith, length-drop at s))))
