-- "with the first such line": the line that a refused sheet tells is its first malformed one.
-- Assumes nothing.
use Rattle.refusal.proofs.Basics.{◌≡◌, refl, sym, ap, ◌∙◌, arith, ℕ, ◌+◌, length, get_or, length-append, ne_eqb, List, [], ◌∷◌, ◌++◌, append_assoc, Bool, true, false, cond, eqb, ltb, false≢true, and-false, both_true}
use Rattle.classes.specs.Classes.{permits}
use Rattle.classes.specs.declared.Class.TheVariants.{Line}
use Rattle.text.specs.Bytes.{all_of}
use Rattle.text.specs.Split.{longer, split}
use Rattle.text.specs.Lines.{join_lines, lines_among, last_piece, EachLine, none as no_line, more as one_line}
use Rattle.text.proofs.Pieces.{first_piece}
use Rattle.text.proofs.Lines.{split_line, split_join}
use Rattle.slip_fields.specs.declared.Currency.TheVariants.{Euro}
use Rattle.slip_fields.proofs.Theorems.{no_line_feed}
use Rattle.sheet.specs.Sheet.{line_number, is_right, bad_from, bad_line}
use Rattle.sheet.specs.Claims.{FieldLine, line_of, sheet_text, field_of, RightLines, none, more, FirstMalformed}
use Rattle.sheet.proofs.Laws.{numbered}
use Rattle.sheet.proofs.Tables.{right_above}
use Rattle.sheet.proofs.Theorems.{number_free, line_right, obeyed}

-- ---------------------------------------------------------------------------
-- Pieces between line feeds have none

split_free : (s : List ℕ) → EachLine (split 10 s)
unfolding split all_of
split_free [] = one_line {p = []} refl no_line
split_free (b ∷ s) = go (eqb b 10) refl (first_piece 10 s) (split_free s)
  where
    behind : (p : List ℕ) (ps : List (List ℕ)) → eqb b 10 ≡ false → EachLine (p ∷ ps) → EachLine ((b ∷ p) ∷ ps)
    behind p ps e (one_line f w) = one_line {p = b ∷ p} (rw (e, f)) w

    go : (t : Bool) → eqb b 10 ≡ t → (p : List ℕ) × (ps : List (List ℕ)) × (split 10 s ≡ p ∷ ps) → EachLine (split 10 s) → EachLine (cond t ([] ∷ split 10 s) (longer b (split 10 s)))
    go true e f w = one_line {p = []} refl w
    go false e f w = rw f.2 (behind f.0 f.1 e (rw f.2 at w))

-- a text with a line feed in it is no such piece
feed_in : (q t : List ℕ) → all_of Line (q ++ (10 ∷ t)) ≡ false
unfolding all_of
feed_in [] t = refl
feed_in (b ∷ q) t = rw (feed_in q t) (and-false (permits Line b))

-- two texts with a first line: it is the same
same_line : (p q s t : List ℕ) → all_of Line p ≡ true → all_of Line q ≡ true → p ++ (10 ∷ s) ≡ q ++ (10 ∷ t) → p ≡ q
same_line p q s t f g e =
    let head : List ℕ → List ℕ = λ x. get_or (split 10 x) 0 [] in
    ap (λ (xs : List (List ℕ)). get_or xs 0 []) (sym (split_line p s f)) ∙ (ap head e ∙ ap (λ (xs : List (List ℕ)). get_or xs 0 []) (split_line q t g))

-- ---------------------------------------------------------------------------
-- The lines before the first malformed one

-- of pieces: where they stop being right
record Stops (k last : ℕ) (ps : List (List ℕ)) : Type 0 where
  before : List FieldLine
  rest : List ℕ
  right : RightLines last before
  counted : bad_from k last ps ≡ k + length before
  whole : join_lines (lines_among ps) ++ last_piece ps ≡ sheet_text before ++ rest
  there : rest ≡ [] → ⊥
  wrong : (l : FieldLine) (t : List ℕ) → RightLines last (before ++ (l ∷ [])) → rest ≡ line_of l ++ (10 ∷ t) → ⊥

-- bytes behind the last line feed
stops_open : (k last : ℕ) (p : List ℕ) → all_of Line p ≡ true → (length p ≡ 0 → ⊥) → Stops k last (p ∷ [])
unfolding join_lines bad_from
stops_open k last p f h =
    record {
      before = [];
      rest = p;
      right = none;
      counted = rw (ne_eqb (length p) 0 h) (omega arith);
      whole = refl;
      there = λ z. h (ap length z);
      wrong = λ l t r g. false≢true (sym (feed_in (line_of l) t) ∙ (ap (all_of Line) (sym g) ∙ f));
    }

-- a malformed line
stops_here : (k last : ℕ) (p q : List ℕ) (ps : List (List ℕ)) → all_of Line p ≡ true → is_right last p ≡ false → Stops k last (p ∷ (q ∷ ps))
unfolding join_lines bad_from
stops_here k last p q ps f e =
    record {
      before = [];
      rest = p ++ (10 ∷ (join_lines (lines_among (q ∷ ps)) ++ last_piece (q ∷ ps)));
      right = none;
      counted = rw e (omega arith);
      whole = append_assoc p (10 ∷ join_lines (lines_among (q ∷ ps))) (last_piece (q ∷ ps));
      there = λ z. some (join_lines (lines_among (q ∷ ps)) ++ last_piece (q ∷ ps)) z;
      wrong = λ l t r g. other l t r g;
    }
  where
    some : (s : List ℕ) → p ++ (10 ∷ s) ≡ [] → ⊥
    some s z = let n : length (p ++ (10 ∷ s)) ≡ 0 = ap length z in omega (arith, n, length-append p (10 ∷ s))

    other : (l : FieldLine) (t : List ℕ) → RightLines last (l ∷ []) → p ++ (10 ∷ (join_lines (lines_among (q ∷ ps)) ++ last_piece (q ∷ ps))) ≡ line_of l ++ (10 ∷ t) → ⊥
    other l t (more a s v w) g =
        let free = number_free l.number l.text (no_line_feed Euro l.number [] l.text v) in
        let is = same_line p (line_of l) _ t f free g in
        false≢true (sym e ∙ (ap (is_right last) is ∙ line_right last l a s v))

-- a right line, and where the others stop
stops_later : (k last : ℕ) (p q : List ℕ) (ps : List (List ℕ)) → is_right last p ≡ true → Stops (k + 1) (line_number p) (q ∷ ps) → Stops k last (p ∷ (q ∷ ps))
unfolding join_lines bad_from
stops_later k last p q ps e w =
    let a = right_above last p e in
    let n = numbered p (λ (z : line_number p ≡ 0). omega (arith, z)) in
    record {
      before = field_of p ∷ w.before;
      rest = w.rest;
      right = more a n.standing (obeyed _ (both_true (ltb last (line_number p)) _ e).1) w.right;
      counted = rw e (w.counted ∙ omega arith);
      whole = append_assoc p (10 ∷ join_lines (lines_among (q ∷ ps))) (last_piece (q ∷ ps)) ∙ (rw (w.whole, ← n.whole) (sym (append_assoc p (10 ∷ sheet_text w.before) w.rest)));
      there = w.there;
      wrong = λ l t r g. others l t r g;
    }
  where
    others : (l : FieldLine) (t : List ℕ) → RightLines last (field_of p ∷ (w.before ++ (l ∷ []))) → w.rest ≡ line_of l ++ (10 ∷ t) → ⊥
    others l t (more a s v r) g = w.wrong l t r g

stops : (k last : ℕ) (ps : List (List ℕ)) → EachLine ps → (bad_from k last ps ≡ 0 → ⊥) → Stops k last ps
stops k last [] w h = absurd (h (unfold bad_from in refl))
stops k last (p ∷ []) (one_line f w) h = stops_open k last p f (λ (z : length p ≡ 0). h (unfold bad_from in rw z))
stops k last (p ∷ (q ∷ ps)) (one_line f w) h = go (is_right last p) refl (λ (g : bad_from (k + 1) (line_number p) (q ∷ ps) ≡ 0 → ⊥). stops (k + 1) (line_number p) (q ∷ ps) w g)
  where
    go : (t : Bool) → is_right last p ≡ t → ((bad_from (k + 1) (line_number p) (q ∷ ps) ≡ 0 → ⊥) → Stops (k + 1) (line_number p) (q ∷ ps)) → Stops k last (p ∷ (q ∷ ps))
    go true e on = stops_later k last p q ps e (on (λ z. h (unfold bad_from in rw e z)))
    go false e on = stops_here k last p q ps f e

-- the line that is told is the first malformed one
pub bad_is_first : (s : List ℕ) → (bad_line s ≡ 0 → ⊥) → FirstMalformed s (bad_line s)
bad_is_first s h =
    let w = stops 1 0 (split 10 s) (split_free s) h in
    record {
      before = w.before;
      rest = w.rest;
      right = w.right;
      counted = w.counted ∙ omega arith;
      whole = sym (split_join s) ∙ w.whole;
      there = w.there;
      wrong = w.wrong;
    }
