-- What is promised of a sheet: it is right exactly when it is written from right fields, a sheet that is written reads back as its
-- fields, the text that is told stands in it, and each text obeys its field's rule.
-- Assumes nothing.
use Rattle.refusal.proofs.Basics.{◌≡◌, refl, sym, ap, ◌∙◌, arith, ℕ, ◌+◌, ◌-◌, ◌≤◌, ◌<◌, length, drop, length-append, length-drop, ne_eqb, eqb-true, le-leb, lt-ltb, List, [], ◌∷◌, ◌++◌, map, append-nil, append_assoc, Bool, true, false, false≢true, cond, eqb, ltb, both_true, ◌↔◌, inl, inr, drop-append-add, take-append_seam, drop-append-le}
use Rattle.verdict.specs.Verdict.{Verdict, passed}
use Rattle.std.specs.Prelude.{Some, Ok, Err, is_ok}
use Rattle.classes.specs.declared.Class.TheVariants.{Line}
use Rattle.text.specs.Bytes.{all_of}
use Rattle.text.specs.Split.{split}
use Rattle.text.specs.Lines.{join_lines, lines_among, last_piece, EachLine, none as no_line, more as one_line}
use Rattle.text.proofs.Lines.{split_joined, split_join}
use Rattle.characters.specs.Characters.{first_wrong, characters}
use Rattle.slip_fields.specs.declared.Currency.TheVariants.{Euro}
use Rattle.slip_fields.specs.Fields.{field_verdict}
use Rattle.slip_fields.proofs.Theorems.{no_line_feed}
use Rattle.slip_fields.proofs.Plain.{text_exactly, thirteenth_exactly}
use Rattle.sheet.specs.Sheet.{is_standing, line_number, text_start, line_text, is_right, bad_from, bad_line, held_from, line_held}
use Rattle.sheet.specs.Claims.{FieldLine, number_text, line_of, sheet_text, RightLines, none, more, field_of, fields_in, text_among, is_among, StandsAs, is_held}
use Rattle.sheet.proofs.Laws.{OneOf, low, thirteen, fourteen, one_of_lem, numbered, text_within}
use Rattle.sheet.proofs.Tables.{right_above, right_on, right_last}

-- ---------------------------------------------------------------------------
-- A line that is written, read

-- a written line has its number and its text
pub line_read : (n : ℕ) (t : List ℕ) → is_standing n ≡ true → (line_number (number_text n ++ (61 ∷ t)) ≡ n) × (drop (text_start n) (number_text n ++ (61 ∷ t)) ≡ t)
unfolding line_number
line_read n t h = go (one_of_lem n h)
  where
    go : OneOf n → (line_number (number_text n ++ (61 ∷ t)) ≡ n) × (drop (text_start n) (number_text n ++ (61 ∷ t)) ≡ t)
    go (low a b) =
        let z : 48 + n - 48 ≡ n = omega arith in
        rw (lt-ltb n 10 (omega arith)) (rw (le-leb 52 (48 + n) (omega arith), le-leb (48 + n) 57 (omega arith), z), refl)
    go (thirteen e) = rw e (refl, refl)
    go (fourteen e) = rw e (refl, refl)

-- its number's bytes are no line feed
pub number_free : (n : ℕ) (t : List ℕ) → all_of Line t ≡ true → all_of Line (number_text n ++ (61 ∷ t)) ≡ true
unfolding all_of
number_free n t e = go (ltb n 10)
  where
    go : (b : Bool) → all_of Line (cond b ((48 + n) ∷ []) (49 ∷ ((38 + n) ∷ [])) ++ (61 ∷ t)) ≡ true
    go true = rw (ne_eqb (48 + n) 10 (λ (z : 48 + n ≡ 10). omega (arith, z)), e)
    go false = rw (ne_eqb (38 + n) 10 (λ (z : 38 + n ≡ 10). omega (arith, z)), e)

-- no line of right fields has a line feed in it
each_free : {last : ℕ} {ls : List FieldLine} → RightLines last ls → EachLine (map (λ (l : FieldLine). line_of l) ls)
each_free none = no_line
each_free (more {l = l} a s v w) = one_line (number_free l.number l.text (no_line_feed Euro l.number [] l.text v)) (each_free w)

-- ---------------------------------------------------------------------------
-- A sheet that is written from right fields is right, and reads back as them

-- a written line is right behind one of a lower number
pub line_right : (last : ℕ) (l : FieldLine) → last < l.number → is_standing l.number ≡ true → field_verdict Euro l.number [] l.text ≡ passed → is_right last (line_of l) ≡ true
line_right last l a s v = let r = line_read l.number l.text s in rw (r.0, r.1, lt-ltb last l.number a, v)

right_written : {last : ℕ} {ls : List FieldLine} (k : ℕ) → RightLines last ls → bad_from k last (map (λ (l : FieldLine). line_of l) ls ++ ([] ∷ [])) ≡ 0
unfolding bad_from
right_written k none = refl
right_written {last = last} k (more {l = l} a s v none) =
    rw (line_right last l a s v)
right_written {last = last} k (more {l = l} a s v (more b t u w)) =
    rw (line_right last l a s v, (line_read l.number l.text s).0) (right_written (k + 1) (more b t u w))

-- "a sheet's rule": what is written from right fields is accepted
pub written_right : (ls : List FieldLine) → RightLines 0 ls → bad_line (sheet_text ls) ≡ 0
written_right ls w = rw (split_joined (each_free w)) (right_written 1 w)

-- lines with nothing behind them are the lines
lines_closed : (ms : List (List ℕ)) → lines_among (ms ++ ([] ∷ [])) ≡ ms
lines_closed [] = refl
lines_closed (m ∷ []) = refl
lines_closed (m ∷ (m' ∷ ms)) = ap (λ (xs : List (List ℕ)). m ∷ xs) (lines_closed (m' ∷ ms))

-- the fields of written lines
fields_written : {last : ℕ} {ls : List FieldLine} → RightLines last ls → map (λ (p : List ℕ). field_of p) (map (λ (l : FieldLine). line_of l) ls) ≡ ls
fields_written none = refl
fields_written (more {l = l} a s v w) = let r = line_read l.number l.text s in rw (r.0, r.1, fields_written w)

-- "sheets that are written from a list of fields read back as that list"
pub written_back : (ls : List FieldLine) → RightLines 0 ls → fields_in (sheet_text ls) ≡ ls
written_back ls w = rw (split_joined (each_free w), lines_closed (map (λ (l : FieldLine). line_of l) ls)) (fields_written w)

-- ---------------------------------------------------------------------------
-- A right sheet is written from its fields, which are right

-- a verdict that is not an error refuses nothing
pub obeyed : (v : Verdict) → is_ok v ≡ true → v ≡ passed
obeyed (Ok u) e = refl
obeyed (Err f) e = absurd (false≢true e)

-- its fields are right
fields_right : (k last : ℕ) (ps : List (List ℕ)) → 0 < k → bad_from k last ps ≡ 0 → RightLines last (map (λ (p : List ℕ). field_of p) (lines_among ps))
fields_right k last [] h e = none
fields_right k last (p ∷ []) h e = none
fields_right k last (p ∷ (q ∷ ps)) h e =
    let r = right_on k last p q ps h e in
    let a = right_above last p r.0 in
    more a (numbered p (λ (z : line_number p ≡ 0). omega (arith, z))).standing (obeyed _ (both_true (ltb last (line_number p)) _ r.0).1)
    (fields_right (k + 1) (line_number p) (q ∷ ps) (omega arith) r.1)

pub sheet_fields_right : (s : List ℕ) → bad_line s ≡ 0 → RightLines 0 (fields_in s)
sheet_fields_right s e = fields_right 1 0 (split 10 s) (omega arith) e

-- its lines are those of its fields
fields_lines : (k last : ℕ) (ps : List (List ℕ)) → 0 < k → bad_from k last ps ≡ 0 → map (λ (l : FieldLine). line_of l) (map (λ (p : List ℕ). field_of p) (lines_among ps)) ≡ lines_among ps
fields_lines k last [] h e = refl
fields_lines k last (p ∷ []) h e = refl
fields_lines k last (p ∷ (q ∷ ps)) h e =
    let r = right_on k last p q ps h e in
    let a = right_above last p r.0 in
    rw (← (numbered p (λ (z : line_number p ≡ 0). omega (arith, z))).whole, fields_lines (k + 1) (line_number p) (q ∷ ps) (omega arith) r.1)

-- nothing stands behind its last line feed
nothing_behind : (k last : ℕ) (ps : List (List ℕ)) → 0 < k → bad_from k last ps ≡ 0 → last_piece ps ≡ []
nothing_behind k last [] h e = refl
nothing_behind k last (p ∷ []) h e = right_last k last p h e
nothing_behind k last (p ∷ (q ∷ ps)) h e = nothing_behind (k + 1) (line_number p) (q ∷ ps) (omega arith) (right_on k last p q ps h e).1

-- so it is its lines
lines_are : (s : List ℕ) → bad_line s ≡ 0 → join_lines (lines_among (split 10 s)) ≡ s
lines_are s e = sym (append-nil (join_lines (lines_among (split 10 s)))) ∙ rw (nothing_behind 1 0 (split 10 s) (omega arith) e) at (split_join s)

-- and what is written from its fields
pub written_from : (s : List ℕ) → bad_line s ≡ 0 → sheet_text (fields_in s) ≡ s
written_from s e = rw (fields_lines 1 0 (split 10 s) (omega arith) e) (lines_are s e)

-- right exactly when it is written from fields of document 02, W2
pub right_exactly : (s : List ℕ) → (bad_line s ≡ 0) ↔ ((ls : List FieldLine) × ((RightLines 0 ls) × (s ≡ sheet_text ls)))
right_exactly s = (
  λ e. (fields_in s, (sheet_fields_right s e, sym (written_from s e))),
  λ w. rw w.1.1 (written_right w.0 w.1.0),
)

-- ---------------------------------------------------------------------------
-- The text that is told

module _ (n : ℕ) (above : 0 < n) where
  -- it is that of the line of its number, which stands behind `front`
  stands_from :
      (ms : List (List ℕ)) (front : List ℕ)
      → StandsAs (held_from n (length front) ms) (front ++ join_lines ms) (text_among n (map (λ (p : List ℕ). field_of p) ms))
  unfolding held_from text_among join_lines
  stands_from [] front = refl
  stands_from (p ∷ ms) front = go (eqb (line_number p) n) refl (stands_from ms (front ++ (p ++ (10 ∷ []))))
    where
      on : (front ++ (p ++ (10 ∷ []))) ++ join_lines ms ≡ front ++ (p ++ (10 ∷ join_lines ms))
      on = rw (append_assoc, append_assoc)

      size : length (front ++ (p ++ (10 ∷ []))) ≡ length front + length p + 1
      size = length-append front (p ++ (10 ∷ [])) ∙ omega (arith, length-append p (10 ∷ []))

      go :
          (t : Bool) → eqb (line_number p) n ≡ t
          → StandsAs (held_from n (length (front ++ (p ++ (10 ∷ [])))) ms) ((front ++ (p ++ (10 ∷ []))) ++ join_lines ms) (text_among n (map (λ (p : List ℕ). field_of p) ms))
          → StandsAs (cond t (Some (record { start = length front + text_start n; length = length p - text_start n })) (held_from n (length front + length p + 1) ms)) (front ++ (p ++ (10 ∷ join_lines ms))) (cond t (line_text p) (text_among n (map (λ (p : List ℕ). field_of p) ms)))
      go true z ih =
          let e = eqb-true (line_number p) n z in
          let w : text_start n ≤ length p = rw e at (text_within p (λ (y : line_number p ≡ 0). omega (arith, y, e))) in
          let rest : List ℕ = 10 ∷ join_lines ms in (
            omega (arith, w, length-append front (p ++ rest), length-append p rest),
            rw (e, drop-append-add front (p ++ rest) (text_start n), drop-append-le (text_start n) p rest w, ← (length-drop (text_start n) p)) (take-append_seam (drop (text_start n) p) rest),
          )
      go false z ih = rw (size, on) at ih

  -- it is told where there is such a line
  told_where : (at : ℕ) (ms : List (List ℕ)) → is_held (held_from n at ms) ≡ is_among n (map (λ (p : List ℕ). field_of p) ms)
  unfolding held_from is_among
  told_where at [] = refl
  told_where at (p ∷ ms) = go (eqb (line_number p) n) (told_where (at + length p + 1) ms)
    where
      go :
          (t : Bool) → is_held (held_from n (at + length p + 1) ms) ≡ is_among n (map (λ (p : List ℕ). field_of p) ms)
          → is_held (cond t (Some (record { start = at + text_start n; length = length p - text_start n })) (held_from n (at + length p + 1) ms)) ≡ cond t true (is_among n (map (λ (p : List ℕ). field_of p) ms))
      go true ih = refl
      go false ih = ih

  -- of a right sheet: the part that is told is the text of that field
  pub held_stands : (s : List ℕ) → bad_line s ≡ 0 → StandsAs (line_held n s) s (text_among n (fields_in s))
  held_stands s e = rw (lines_are s e) at (stands_from (lines_among (split 10 s)) [])

  pub held_where : (s : List ℕ) → is_held (line_held n s) ≡ is_among n (fields_in s)
  held_where s = told_where 0 (lines_among (split 10 s))

-- ---------------------------------------------------------------------------
-- "each text obeying its field's rule"

-- the empty text does, of a field with standing text
pub empty_obeys : (n : ℕ) → is_standing n ≡ true → field_verdict Euro n [] [] ≡ passed
unfolding first_wrong characters
empty_obeys n h = go (one_of_lem n h)
  where
    go : OneOf n → field_verdict Euro n [] [] ≡ passed
    go (low a b) = (text_exactly Euro [] [] n (inl (a, b))).1 (refl, omega arith)
    go (thirteen e) = rw e ((thirteenth_exactly Euro [] []).1 (inl refl))
    go (fourteen e) = (text_exactly Euro [] [] n (inr e)).1 (refl, omega arith)

-- so does the text of a field among right ones
pub among_obeys : (n last : ℕ) (ls : List FieldLine) → is_standing n ≡ true → RightLines last ls → field_verdict Euro n [] (text_among n ls) ≡ passed
unfolding text_among
among_obeys n last [] h none = empty_obeys n h
among_obeys n last (l ∷ ls) h (more a s v w) = go (eqb l.number n) refl (among_obeys n l.number ls h w)
  where
    go : (t : Bool) → eqb l.number n ≡ t → field_verdict Euro n [] (text_among n ls) ≡ passed → field_verdict Euro n [] (cond t l.text (text_among n ls)) ≡ passed
    go true e ih = rw (eqb-true l.number n e) at v
    go false e ih = ih
