-- The pieces of a text between the bytes c that divide it. Assumes nothing.
use Rattle.refusal.proofs.Basics.{◌≡◌, refl, ap, ◌∙◌, arith, ℕ, suc, ◌+◌, ◌-◌, ◌≤◌, ◌<◌, length, take, drop, length-drop, List, [], ◌∷◌, Bool, true, false, cond, not, eqb, drop-drop, add-one}
use Rattle.classes.specs.Classes.{permits}
use Rattle.classes.specs.declared.Class.{Class}
use Rattle.classes.specs.declared.Class.TheVariants.{Line}
use Rattle.std.specs.Prelude.{Option, Some, None}
use Rattle.text.specs.Bytes.{later, first_bad, count_of}
use Rattle.text.specs.Split.{longer, split}
use Rattle.text.proofs.Laws.{to_the_end}

module _ (c : ℕ) where
  -- there is always a first piece
  pub first_piece : (s : List ℕ) → (p : List ℕ) × (ps : List (List ℕ)) × (split c s ≡ p ∷ ps)
  unfolding split
  first_piece [] = ([], [], refl)
  first_piece (b ∷ s) = go (eqb b c) (first_piece s)
    where
      go : (h : Bool) → (p : List ℕ) × (ps : List (List ℕ)) × (split c s ≡ p ∷ ps) → (p : List ℕ) × (ps : List (List ℕ)) × (cond h ([] ∷ split c s) (longer b (split c s)) ≡ p ∷ ps)
      go true w = ([], split c s, refl)
      go false w = (b ∷ w.0, w.1, rw w.2)

  -- and one more for each c
  pub pieces_counted : (s : List ℕ) → length (split c s) ≡ suc (count_of c s)
  unfolding split count_of
  pieces_counted [] = refl
  pieces_counted (b ∷ s) = go (eqb b c) (first_piece s) (pieces_counted s)
    where
      go : (h : Bool) → (p : List ℕ) × (ps : List (List ℕ)) × (split c s ≡ p ∷ ps) → length (split c s) ≡ suc (count_of c s) → length (cond h ([] ∷ split c s) (longer b (split c s))) ≡ suc (cond h (suc (count_of c s)) (count_of c s))
      go true w e = ap suc e
      go false w e = rw w.2 (rw w.2 at e)

-- ---------------------------------------------------------------------------
-- Where a scan stops

module _ (c : ℕ) where
  -- a text that stops at a place is the piece up to there and the pieces of what follows; one that does not is one piece
  abbrev pub Divided : List ℕ → Option ℕ → Type 0
  Divided s (Some i) = (i < length s) × (split c s ≡ take i s ∷ split c (drop (i + 1) s))
  Divided s None = split c s ≡ s ∷ []

  -- a byte more in front, other than c
  divided_later : (b : ℕ) (s : List ℕ) (f : Option ℕ) → eqb b c ≡ false → Divided s f → Divided (b ∷ s) (later f)
  unfolding split
  divided_later b s (Some i) e (h, g) = (omega arith, rw (e, g, add-one (suc i), add-one i))
  divided_later b s None e g = rw (e, g)

  -- what a scan that stops at c alone finds divides the text
  pub divided : (k : Class) → ((b : ℕ) → permits k b ≡ not (eqb b c)) → (s : List ℕ) → Divided s (first_bad k s)
  unfolding first_bad split
  divided k only [] = refl
  divided k only (b ∷ s) = rw (only b) (go (eqb b c) refl (divided k only s))
    where
      go : (t : Bool) → eqb b c ≡ t → Divided s (first_bad k s) → Divided (b ∷ s) (cond (not t) (later (first_bad k s)) (Some 0))
      go true e d = (omega arith, rw e)
      go false e d = divided_later b s (first_bad k s) e d

-- a text with a line feed: the piece before the first, and the pieces of what follows it
pub split_at : (s : List ℕ) (i : ℕ) → first_bad Line s ≡ Some i → (i < length s) × (split 10 s ≡ take i s ∷ split 10 (drop (i + 1) s))
split_at s i e = rw e at (divided 10 Line (λ b. refl) s)

-- a text with none: one piece
pub split_whole : (s : List ℕ) → first_bad Line s ≡ None → split 10 s ≡ s ∷ []
split_whole s e = rw e at (divided 10 Line (λ b. refl) s)

-- ---------------------------------------------------------------------------
-- Pieces, from place `at` on

module _ (s : List ℕ) (at : ℕ) where
  -- the scan stopped: a piece, and the rest after the line feed
  pub next_piece_lem : (i : ℕ) → at ≤ length s → first_bad Line (take (length s - at) (drop at s)) ≡ Some i → (at + i < length s) × (split 10 (drop at s) ≡ take i (drop at s) ∷ split 10 (drop (at + (i + 1)) s))
  next_piece_lem i h e =
      let d = split_at (drop at s) i (rw (to_the_end at s) at e) in
      (omega (arith, d.0, length-drop at s), d.1 ∙ rw (drop-drop (i + 1) at s))

  -- it did not: the last piece
  pub last_piece_lem : first_bad Line (take (length s - at) (drop at s)) ≡ None → split 10 (drop at s) ≡ drop at s ∷ []
  last_piece_lem e = split_whole (drop at s) (rw (to_the_end at s) at e)
