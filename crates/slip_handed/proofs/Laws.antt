-- Where the pieces of a text stand between its line feeds, and the fields that a slip hands back.
-- Assumes nothing.
use Rattle.refusal.proofs.Basics.{◌≡◌, refl, sym, ap, ◌∙◌, arith, ℕ, zero, suc, ◌+◌, ◌-◌, ◌≤◌, ◌<◌, length, take, drop, length-drop, List, [], ◌∷◌, Bool, true, false, cond, drop-drop, length-take-le, take_all, zero-add, add-zero}
use Rattle.std.specs.Prelude.{Option, Some, None}
use Rattle.text.specs.Bytes.{first_bad}
use Rattle.classes.specs.declared.Class.TheVariants.{Line}
use Rattle.text.specs.declared.Part.{Part}
use Rattle.text.specs.Split.{split}
use Rattle.text.proofs.Laws.{to_the_end}
use Rattle.slip_fields.specs.declared.Currency.{Currency}
use Rattle.slip.specs.Slip.{piece_of}
use Rattle.text.proofs.Pieces.{first_piece, split_at, split_whole}
use Rattle.slip_handed.specs.Handed.{piece_start, piece_part, is_handed, field_part_in, field_in}

-- ---------------------------------------------------------------------------
-- Where a piece stands

-- with pieces behind a first one of i bytes
start_behind : (s t : List ℕ) (i k : ℕ) → i ≤ length s → piece_start (suc k) (take i s ∷ split 10 t) ≡ i + 1 + piece_start k (split 10 t)
unfolding piece_start
start_behind s t i k h = rw ((first_piece 10 t).2, length-take-le i s h)

-- a part further on in the text
abbrev pub behind : ℕ → Part → Part
behind n p = record { start = n + p.start; length = p.length }

-- nothing further on
pub behind_none : (p : Part) → p ≡ behind 0 p
behind_none p = rw (zero-add p.start)

-- past the end of a text without a line feed there is no piece
piece_past : (s : List ℕ) (k : ℕ) → 0 < k → first_bad Line s ≡ None → piece_part k (split 10 s) ≡ record { start = 0; length = 0 }
unfolding piece_start piece_of
piece_past s zero h e = absurd (omega arith)
piece_past s (suc k) h e = rw (split_whole s e)

-- behind its first line feed stand the others
piece_on : (s : List ℕ) (k i : ℕ) → 0 < k → first_bad Line s ≡ Some i → piece_part k (split 10 s) ≡ behind (i + 1) (piece_part (k - 1) (split 10 (drop (i + 1) s)))
unfolding piece_of
piece_on s zero i h e = absurd (omega arith)
piece_on s (suc k) i h e =
    let d = split_at s i e in
    let z : suc k - 1 ≡ k = omega arith in
    rw (d.1, start_behind s (drop (i + 1) s) i k (omega (arith, d.0)), z)

-- the piece that is `left` pieces on from place `at`
module _ (s : List ℕ) (at left : ℕ) where
  -- a line feed: one piece fewer
  pub piece_again :
      (i : ℕ) → 0 < left → first_bad Line (take (length s - at) (drop at s)) ≡ Some i
      → behind at (piece_part left (split 10 (drop at s))) ≡ behind (at + (i + 1)) (piece_part (left - 1) (split 10 (drop (at + (i + 1)) s)))
  piece_again i h e =
      let q : at + (i + 1 + piece_start (left - 1) (split 10 (drop (at + (i + 1)) s))) ≡ at + (i + 1) + piece_start (left - 1) (split 10 (drop (at + (i + 1)) s)) = omega arith in
      ap (behind at) (piece_on (drop at s) left i h (rw (to_the_end at s) at e)) ∙ rw (drop-drop (i + 1) at s, q)

  -- none: it has no byte
  pub piece_none : 0 < left → first_bad Line (take (length s - at) (drop at s)) ≡ None → record { start = at; length = 0 } ≡ behind at (piece_part left (split 10 (drop at s)))
  piece_none h e = base ∙ ap (behind at) (sym (piece_past (drop at s) left h (rw (to_the_end at s) at e)))
    where
      base : record { start = at; length = 0 } ≡ behind at (record { start = 0; length = 0 })
      base = rw (add-zero at)

  -- it is the first
  pub piece_here :
      (r : ℕ) → left ≤ 0 → r ≡ length (piece_of 0 (split 10 (take (length s - at) (drop at s))))
      → record { start = at; length = r } ≡ behind at (piece_part left (split 10 (drop at s)))
  unfolding piece_start
  piece_here r h e = let z : left ≡ 0 = omega arith in rw (z, e, to_the_end at s, add-zero at)

-- its bytes are the piece's, and lie within the text
abbrev pub Stands : List ℕ → List ℕ → Part → Type 0
Stands s piece p = (p.start + p.length ≤ length s) × (take p.length (drop p.start s) ≡ piece)

pub piece_stands : (k : ℕ) (s : List ℕ) → Stands s (piece_of k (split 10 s)) (piece_part k (split 10 s))
unfolding piece_of piece_start
piece_stands zero s = go (first_bad Line s) refl
  where
    go : (f : Option ℕ) → first_bad Line s ≡ f → Stands s (piece_of 0 (split 10 s)) (piece_part 0 (split 10 s))
    go (Some i) e =
        let d = split_at s i e in
        rw (d.1, length-take-le i s (omega (arith, d.0))) (omega (arith, d.0), refl)
    go None e = rw (split_whole s e) (omega arith, take_all (length s) s (omega arith))
piece_stands (suc k) s = go (first_bad Line s) refl (λ t. piece_stands k t)
  where
    go : (f : Option ℕ) → first_bad Line s ≡ f → ((t : List ℕ) → Stands t (piece_of k (split 10 t)) (piece_part k (split 10 t))) → Stands s (piece_of (suc k) (split 10 s)) (piece_part (suc k) (split 10 s))
    go (Some i) e on =
        let d = split_at s i e in
        let t = drop (i + 1) s in
        rw (d.1, start_behind s t i k (omega (arith, d.0)), ← (drop-drop (piece_start k (split 10 t)) (i + 1) s))
        (omega (arith, (on t).0, d.0, length-drop (i + 1) s), (on t).1)
    go None e on = rw (split_whole s e) (omega arith, refl)

-- ---------------------------------------------------------------------------
-- Fields

module _ (c : Currency) (s : List ℕ) (n : ℕ) where
  -- it is the field
  pub field_stands : Stands s (field_in c s n) (field_part_in c s n)
  unfolding field_part_in field_in
  field_stands = go (is_handed c s n)
    where
      go : (b : Bool) → Stands s (cond b (piece_of (n - 1) (split 10 s)) []) (cond b (piece_part (n - 1) (split 10 s)) (record { start = 0; length = 0 }))
      go true = piece_stands (n - 1) s
      go false = (omega arith, refl)
