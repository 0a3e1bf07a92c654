-- How the loops go through a slip piece by piece.
-- Assumes nothing.
use Rattle.refusal.proofs.Basics.{◌≡◌, refl, sym, ap, ◌∙◌, arith, ℕ, ◌+◌, ◌-◌, ◌≤◌, ◌<◌, length, take, drop, get_or, length-drop, ne_eqb, eq-eqb, le-leb, List, [], ◌∷◌, true, false, eqb, leb, length-take-le, entered, and_first, and_second}
use Rattle.std.specs.Prelude.{Some, None, Ok, Err}
use Rattle.refusal.specs.Refusal.{Answer, first_of}
use Rattle.verdict.specs.Verdict.{answer_at}
use Rattle.refusal.specs.declared.Refusal.{Refusal}
use Rattle.text.specs.Bytes.{first_bad, count_of}
use Rattle.classes.specs.declared.Class.TheVariants.{Line}
use Rattle.text.specs.Split.{split}
use Rattle.text.proofs.Pieces.{first_piece, next_piece_lem, last_piece_lem}
use Rattle.slip_fields.specs.declared.Currency.{Currency}
use Rattle.slip_fields.specs.Fields.{field_verdict}
use Rattle.slip.specs.Slip.{slip_ends, fields_answer, slip_answer_in}

-- ---------------------------------------------------------------------------
-- Line feeds

-- a text with no byte has no line feed
pub no_byte_no_end : (s : List ℕ) → length s ≡ 0 → count_of 10 s ≡ 14 → ⊥
unfolding count_of
no_byte_no_end [] h e = omega arith
no_byte_no_end (b ∷ s) h e = omega arith

-- the tests in their order, with n line feeds
module _ (s : List ℕ) (n : ℕ) (e : n ≡ count_of 10 s) where
  -- another number than fourteen
  pub other_number : (n ≡ 14 → ⊥) → false ≡ slip_ends s
  other_number h = and_first (eqb (count_of 10 s) 14) _ (ne_eqb (count_of 10 s) 14 (λ g. h (e ∙ g)))

  -- fourteen in no byte: there is no such text
  pub none_last : n ≡ 14 → length s ≡ 0 → false ≡ slip_ends s
  none_last h z = absurd (no_byte_no_end s z (sym e ∙ h))

  -- fourteen: what the last byte is decides
  pub one_last : n ≡ 14 → eqb (get_or s (length s - 1) 0) 10 ≡ slip_ends s
  one_last h = and_second (eqb (count_of 10 s) 14) _ _ (eq-eqb (count_of 10 s) 14 (sym e ∙ h)) refl

-- ---------------------------------------------------------------------------
-- Fields, from place `at` on

-- what the code lends as `&s[from..to]`
abbrev pub part : ℕ → ℕ → List ℕ → List ℕ
part from to s = take (to - from) (drop from s)

-- the fields before `n` are accepted: the answer is that of the pieces from `at` on, after the field from `before` to `end`
pub record Reached (c : Currency) (s : List ℕ) (n before end at : ℕ) : Type 0 where
  pub within : at ≤ length s
  pub fewer : n ≤ at + 1
  pub ordered : before ≤ end
  pub passed : end ≤ length s
  pub whole : fields_answer c 1 0 [] (split 10 s) ≡ fields_answer c n at (part before end s) (split 10 (drop at s))

-- a piece and what follows it
fields_step : (c : Currency) (n start : ℕ) (m p t : List ℕ) → fields_answer c n start m (p ∷ split 10 t) ≡ first_of (answer_at n start (field_verdict c n m p)) (fields_answer c (n + 1) (start + length p + 1) p (split 10 t))
unfolding fields_answer
fields_step c n start m p t = rw (first_piece 10 t).2

-- the first field
pub reached_first : (c : Currency) (s : List ℕ) → Reached c s 1 0 0 0
reached_first c s = record { within = omega arith; fewer = omega arith; ordered = omega arith; passed = omega arith; whole = refl }

module _ (c : Currency) (s : List ℕ) (n before end at : ℕ) (w : Reached c s n before end at) where
  module _ (i : ℕ) (e : first_bad Line (take (length s - at) (drop at s)) ≡ Some i) where
    -- the field that a scan found ends within the text
    pub reached_ends : at + i < length s
    reached_ends = (next_piece_lem s at i w.within e).0

    -- it has as many bytes as the scan passed
    reached_length : length (part at (at + i) s) ≡ i
    reached_length = let z : at + i - at ≡ i = omega arith in rw z (length-take-le i (drop at s) (omega (arith, reached_ends, length-drop at s)))

    -- the answer is its answer and that of what follows
    reached_field : fields_answer c 1 0 [] (split 10 s) ≡ first_of (answer_at n at (field_verdict c n (part before end s) (part at (at + i) s))) (fields_answer c (n + 1) (at + i + 1) (part at (at + i) s) (split 10 (drop (at + i + 1) s)))
    reached_field =
        let z : at + i - at ≡ i = omega arith in
        let y : at + (i + 1) ≡ at + i + 1 = omega arith in
        let m = part before end s in
        let p = part at (at + i) s in
        let d : split 10 (drop at s) ≡ p ∷ split 10 (drop (at + i + 1) s) = (next_piece_lem s at i w.within e).1 ∙ rw (z, y) in
        w.whole ∙ (ap (fields_answer c n at m) d ∙ (fields_step c n at m p (drop (at + i + 1) s) ∙ rw reached_length))

    module _ (r : Answer) (j : r ≡ answer_at n at (field_verdict c n (part before end s) (part at (at + i) s))) where
      -- accepted: on to the next field
      pub reached_next : r ≡ Ok tt → Reached c s (n + 1) at (at + i) (at + i + 1)
      reached_next a =
          record {
            within = omega (arith, reached_ends);
            fewer = omega (arith, w.fewer);
            ordered = omega arith;
            passed = omega (arith, reached_ends);
            whole = reached_field ∙ rw (sym j ∙ a);
          }

      -- refused: that is the answer
      pub reached_refusal : (q : Refusal) → r ≡ Err q → Err q ≡ fields_answer c 1 0 [] (split 10 s)
      reached_refusal q a = sym (reached_field ∙ rw (sym j ∙ a))

  -- no further line feed: every field was accepted
  pub reached_last : first_bad Line (take (length s - at) (drop at s)) ≡ None → (Ok tt) ≡ fields_answer c 1 0 [] (split 10 s)
  unfolding fields_answer
  reached_last e = sym (w.whole ∙ rw (last_piece_lem s at e))

-- ---------------------------------------------------------------------------
-- The slip, and a field of it

module _ (c : Currency) (s : List ℕ) where
  -- 1, then 2, then the fields
  pub fields_judged : (r : Answer) → length s ≤ 483 → slip_ends s ≡ true → r ≡ fields_answer c 1 0 [] (split 10 s) → r ≡ slip_answer_in c s
  unfolding slip_answer_in
  fields_judged r h e f = entered (leb (length s) 483) _ _ _ (le-leb (length s) 483 h) (entered (slip_ends s) _ _ _ e f)
