-- Laws of lines: a text is split at its line feeds, and joined from its lines. Assumes nothing.
use Rattle.refusal.proofs.Basics.{◌≡◌, refl, sym, ap, ◌∙◌, arith, ℕ, zero, suc, ◌+◌, ◌-◌, ◌<◌, length, get_or, length-append, eqb-true, eqb-false, not-true, List, [], ◌∷◌, ◌++◌, append-nil, Bool, true, false, cond, not, eqb, get_or-append-add, both_true}
use Rattle.text.specs.Bytes.{all_of, count_of}
use Rattle.classes.specs.declared.Class.TheVariants.{Line}
use Rattle.text.specs.Split.{longer, split}
use Rattle.text.proofs.Pieces.{pieces_counted}
use Rattle.text.specs.Lines.{join_lines, lines_among, last_piece, EachLine, none, more}

-- ---------------------------------------------------------------------------
-- Lines joined, then split

-- the first byte of a line is no line feed
line_first : (b : ℕ) (p : List ℕ) → all_of Line (b ∷ p) ≡ true → (eqb b 10 ≡ false) × (all_of Line p ≡ true)
unfolding all_of
line_first b p e = let h = both_true (not (eqb b 10)) (all_of Line p) e in (not-true (eqb b 10) h.0, h.1)

-- a line, a line feed and more
pub split_line : (p s : List ℕ) → all_of Line p ≡ true → split 10 (p ++ (10 ∷ s)) ≡ p ∷ split 10 s
unfolding split
split_line [] s e = refl
split_line (b ∷ p) s e = let h = line_first b p e in rw (h.0, split_line p s h.1)

-- lines joined are split into the lines, with nothing behind the last
pub split_joined : {ps : List (List ℕ)} → EachLine ps → split 10 (join_lines ps) ≡ ps ++ ([] ∷ [])
unfolding join_lines
split_joined none = unfold split in refl
split_joined (more {p = p} {ps = ps} e l) = split_line p (join_lines ps) e ∙ rw (split_joined l)

-- line feeds of a line, a line feed and more
count_line : (p s : List ℕ) → all_of Line p ≡ true → count_of 10 (p ++ (10 ∷ s)) ≡ suc (count_of 10 s)
unfolding count_of
count_line [] s e = refl
count_line (b ∷ p) s e = let h = line_first b p e in rw h.0 (count_line p s h.1)

-- as many line feeds as lines
pub count_joined : {ps : List (List ℕ)} → EachLine ps → count_of 10 (join_lines ps) ≡ length ps
unfolding join_lines
count_joined none = unfold count_of in refl
count_joined (more {p = p} {ps = ps} e l) = count_line p (join_lines ps) e ∙ ap suc (count_joined l)

-- the last byte of two texts is that of the second
last_append : (xs ys : List ℕ) → 0 < length ys → get_or (xs ++ ys) (length (xs ++ ys) - 1) 0 ≡ get_or ys (length ys - 1) 0
last_append xs ys h =
    let e : length (xs ++ ys) - 1 ≡ length xs + (length ys - 1) = omega (arith, length-append xs ys) in
    rw e (get_or-append-add xs ys (length ys - 1) 0)

-- some line has some byte
joined_some : (p : List ℕ) (ps : List (List ℕ)) → 0 < length (join_lines (p ∷ ps))
unfolding join_lines
joined_some p ps = omega (arith, length-append p (10 ∷ join_lines ps))

-- lines joined end in a line feed
pub last_joined : (p : List ℕ) (ps : List (List ℕ)) → get_or (join_lines (p ∷ ps)) (length (join_lines (p ∷ ps)) - 1) 0 ≡ 10
unfolding join_lines
last_joined p [] = last_append p (10 ∷ []) (omega arith)
last_joined p (q ∷ ps) =
    last_append p (10 ∷ join_lines (q ∷ ps)) (omega arith) ∙ last_append (10 ∷ []) (join_lines (q ∷ ps)) (joined_some q ps) ∙ last_joined q ps

-- ---------------------------------------------------------------------------
-- A text split, then joined

-- there is always a piece
longer_some : (b : ℕ) (ps : List (List ℕ)) → 0 < length (longer b ps)
longer_some b [] = omega arith
longer_some b (p ∷ ps) = omega arith

split_some : (s : List ℕ) → 0 < length (split 10 s)
unfolding split
split_some [] = omega arith
split_some (b ∷ s) = go (eqb b 10)
  where
    go : (t : Bool) → 0 < length (cond t ([] ∷ split 10 s) (longer b (split 10 s)))
    go true = omega arith
    go false = longer_some b (split 10 s)

-- the lines and what stands behind the last one make up the text
pub split_join : (s : List ℕ) → join_lines (lines_among (split 10 s)) ++ last_piece (split 10 s) ≡ s
unfolding split join_lines
split_join [] = refl
split_join (b ∷ s) = go (eqb b 10) refl (split 10 s) (split_some s) (split_join s)
  where
    go :
        (t : Bool) → eqb b 10 ≡ t → (qs : List (List ℕ)) → 0 < length qs → join_lines (lines_among qs) ++ last_piece qs ≡ s
        → join_lines (lines_among (cond t ([] ∷ qs) (longer b qs))) ++ last_piece (cond t ([] ∷ qs) (longer b qs)) ≡ b ∷ s
    go t e [] l ih = absurd (omega arith)
    go true e (q ∷ qs) l ih = rw (eqb-true b 10 e, ih)
    go false e (q ∷ []) l ih = rw ih
    go false e (q ∷ (r ∷ qs)) l ih = rw ih

-- no line feed stands behind the last one
last_free : (s : List ℕ) → all_of Line (last_piece (split 10 s)) ≡ true
unfolding split all_of
last_free [] = refl
last_free (b ∷ s) = go (eqb b 10) refl (split 10 s) (split_some s) (last_free s)
  where
    go :
        (t : Bool) → eqb b 10 ≡ t → (qs : List (List ℕ)) → 0 < length qs → all_of Line (last_piece qs) ≡ true
        → all_of Line (last_piece (cond t ([] ∷ qs) (longer b qs))) ≡ true
    go t e [] l ih = absurd (omega arith)
    go true e (q ∷ qs) l ih = ih
    go false e (q ∷ []) l ih = rw (e, ih)
    go false e (q ∷ (r ∷ qs)) l ih = ih

-- so it does not end in one
free_last : (p : List ℕ) → all_of Line p ≡ true → 0 < length p → get_or p (length p - 1) 0 ≡ 10 → ⊥
free_last [] e l g = omega arith
free_last (b ∷ []) e l g = eqb-false b 10 (line_first b [] e).0 g
free_last (b ∷ (c ∷ p)) e l g = free_last (c ∷ p) (line_first b (c ∷ p) e).1 (omega arith) (sym (last_append (b ∷ []) (c ∷ p) (omega arith)) ∙ g)

-- a text that ends in a line feed is its lines
pub joined_split : (s : List ℕ) → get_or s (length s - 1) 0 ≡ 10 → join_lines (lines_among (split 10 s)) ≡ s
joined_split s e = go (last_piece (split 10 s)) refl
  where
    go : (p : List ℕ) → last_piece (split 10 s) ≡ p → join_lines (lines_among (split 10 s)) ≡ s
    go [] g = sym (append-nil (join_lines (lines_among (split 10 s)))) ∙ rw g at (split_join s)
    go (b ∷ p) g =
        let w : join_lines (lines_among (split 10 s)) ++ (b ∷ p) ≡ s = rw g at (split_join s) in
        absurd (free_last (b ∷ p) (rw g at (last_free s)) (omega arith) (sym (last_append (join_lines (lines_among (split 10 s))) (b ∷ p) (omega arith)) ∙ rw w e))

-- ---------------------------------------------------------------------------
-- How many

-- one line fewer than pieces
lines_counted : (ps : List (List ℕ)) → length (lines_among ps) ≡ length ps - 1
lines_counted [] = omega arith
lines_counted (p ∷ []) = omega arith
lines_counted (p ∷ (q ∷ ps)) = omega (arith, lines_counted (q ∷ ps))

-- as many lines as line feeds
pub lines_of_text : (s : List ℕ) → length (lines_among (split 10 s)) ≡ count_of 10 s
lines_of_text s = omega (arith, lines_counted (split 10 s), pieces_counted 10 s)

-- a line is the piece at its place
pub line_at : (ps : List (List ℕ)) (i : ℕ) → i < length (lines_among ps) → get_or (lines_among ps) i [] ≡ get_or ps i []
line_at [] i h = refl
line_at (p ∷ []) i h = absurd (omega arith)
line_at (p ∷ (q ∷ ps)) zero h = refl
line_at (p ∷ (q ∷ ps)) (suc i) h = line_at (q ∷ ps) i (omega arith)
