-- How the readers go through a reference (specs/Mirror.antt): their turns, the room for the ends of the parts, and that what they read is where
-- the parts of a formed text end.
-- Assumes nothing.
use Rattle.refusal.proofs.Basics.{◌≡◌, sym, ◌∙◌, arith, ℕ, zero, suc, ◌+◌, ◌*◌, ◌-◌, ◌%◌, ◌^◌, ◌≤◌, ◌<◌, length, take, drop, get_or, drop_of_length-le, eq-eqb, ne_eqb, lt-ltb, le-ltb, List, [], ◌∷◌, Bool, true, false, cond, ◌&&◌, and-true, and-false, eqb, leb, ltb, drop-cons, one-le-pow, add-zero, add-one}
use Rattle.std.specs.List.{prefix_len}
use Rattle.std.proofs.lemmas.List.Sums.{prefix_len-le-length, prefix_len_passes}
use Rattle.classes.specs.Classes.{is_digit}
use Rattle.text.specs.Bytes.{all_of}
use Rattle.classes.specs.declared.Class.TheVariants.{Digits}
use Rattle.text.specs.Split.{split}
use Rattle.classes.proofs.Laws.{digit_bounds}
use Rattle.text.proofs.Laws.{to_the_end}
use Rattle.parts.specs.Parts.{length_fits, parts_fit}
use Rattle.parts.specs.Mirror.{ends_from, part_read, digit_read}
use Rattle.parts.proofs.Pieces.{first_part, span_of, short_span}

-- ---------------------------------------------------------------------------
-- The digit reader's turns, after n digits of a part that begins at a byte

-- the rest is read, or it is not
rest_read : (t : Bool) (a r x : ℕ) → 0 < x → r ≡ cond t x 0 → cond (eqb r 0) 0 (a + 1024 * r) ≡ cond t (a + 1024 * x) 0
rest_read true a r x h e = rw (e, ne_eqb x 0 (λ (z : x ≡ 0). omega arith))
rest_read false a r x h e = rw e

module _ (ls : List ℕ) (at n : ℕ) (s : List ℕ) where
  -- the text is at its end
  pub digits_end : length s ≤ n → at + n ≡ digit_read ls (at + n) (split 45 (drop n s))
  unfolding split all_of parts_fit ends_from
  digits_end h = rw (drop_of_length-le s h) (omega arith)

  module _ (h : n < length s) where
    -- a digit is one more
    pub digits_on : is_digit (get_or s n 0) ≡ true → digit_read ls (at + n) (split 45 (drop n s)) ≡ digit_read ls (at + (n + 1)) (split 45 (drop (n + 1) s))
    unfolding split all_of ends_from
    digits_on e =
        let d = digit_bounds (get_or s n 0) e in
        let w = first_part (drop (suc n) s) in
        let m : at + n + suc (length w.0) ≡ at + suc n + length w.0 = omega arith in
        rw (drop-cons s n 0 h, ne_eqb (get_or s n 0) 45 (λ (z : get_or s n 0 ≡ 45). omega arith), add-one n, w.2, e, m)

    -- a byte that is no digit and no hyphen breaks off
    pub digits_break : (get_or s n 0 ≡ 45 → ⊥) → is_digit (get_or s n 0) ≡ false → 0 ≡ digit_read ls (at + n) (split 45 (drop n s))
    unfolding split all_of
    digits_break g e = rw (drop-cons s n 0 h, ne_eqb (get_or s n 0) 45 g, (first_part (drop (suc n) s)).2, e)

    -- a hyphen hands over to the next part
    module _ (g : get_or s n 0 ≡ 45) (r : ℕ) (f : r ≡ part_read ls (at + n + 1) (split 45 (take (length s - (n + 1)) (drop (n + 1) s)))) where
      handed : cond (eqb r 0) 0 (at + n + 1024 * r) ≡ digit_read ls (at + n) (split 45 (drop n s))
      unfolding split all_of ends_from
      handed =
          let w = first_part (drop (suc n) s) in
          rw (drop-cons s n 0 h, g, add-zero (at + n))
          (rest_read (parts_fit ls (split 45 (drop (suc n) s))) (at + n) r _ (rw w.2 (omega arith)) (rw (to_the_end (n + 1) s, add-one) at f))

      pub handed_none : r ≡ 0 → 0 ≡ digit_read ls (at + n) (split 45 (drop n s))
      handed_none e = sym (sym handed ∙ rw (eq-eqb r 0 e))

      pub handed_on : (r ≡ 0 → ⊥) → at + n + 1024 * r ≡ digit_read ls (at + n) (split 45 (drop n s))
      handed_on e = sym (sym handed ∙ rw (ne_eqb r 0 e))

-- the digits that a text begins with are passed
pub digits_passed : (ls : List ℕ) (at : ℕ) (s : List ℕ) (n : ℕ) → n ≤ prefix_len is_digit s → digit_read ls at (split 45 s) ≡ digit_read ls (at + n) (split 45 (drop n s))
digits_passed ls at s zero h = rw (add-zero at)
digits_passed ls at s (suc n) h =
    let l = prefix_len-le-length is_digit s in
    digits_passed ls at s n (omega arith) ∙ rw (← (add-one n)) (digits_on ls at n s (omega arith) (prefix_len_passes is_digit s n 0 (omega arith)))

-- ---------------------------------------------------------------------------
-- The part reader judges the length

-- a part that begins at a byte ends behind it where it is not empty
behind : (a n : ℕ) → ltb a (a + n) ≡ ltb 0 n
behind a zero = le-ltb a (a + 0) (omega arith)
behind a (suc n) = lt-ltb a (a + suc n) (omega arith) ∙ sym (lt-ltb 0 (suc n) (omega arith))

-- with no lengths for it, a part is not read
pub unread : (ls : List ℕ) (at : ℕ) (s : List ℕ) → length ls < 2 → 0 ≡ part_read ls at (split 45 s)
unfolding parts_fit
unread [] at s h = rw (first_part s).2
unread (l ∷ []) at s h = rw (first_part s).2
unread (l ∷ (m ∷ ls)) at s h = absurd (omega arith)

-- what the digit reader read, judged by the end of its part
pub part_judged :
    (ls : List ℕ) (at : ℕ) (s : List ℕ) (ends : ℕ) → 1 < length ls → at + length s < 1024 → ends ≡ digit_read (take (length ls - 2) (drop 2 ls)) at (split 45 s) →
    cond (ltb at (ends % 1024) && (leb (get_or ls 0 0) (ends % 1024 - at) && leb (ends % 1024 - at) (get_or ls 1 0))) ends 0 ≡ part_read ls at (split 45 s)
unfolding span_of parts_fit ends_from
part_judged [] at s ends h g e = absurd (omega arith)
part_judged (l ∷ []) at s ends h g e = absurd (omega arith)
part_judged (l ∷ (m ∷ ls)) at s ends h g e = let w = first_part s in rw w.2 (go (length w.0) (ends_from (at + length w.0 + 1) w.1) (all_of Digits w.0) (parts_fit ls w.1) (omega (arith, rw w.2 at (short_span s at g))) (rw (to_the_end 2 (l ∷ (m ∷ ls)), w.2) at e))
  where
    go : (n x : ℕ) (t u : Bool) → at + n < 1024 → ends ≡ cond (t && u) (at + n + 1024 * x) 0 →
        cond (ltb at (ends % 1024) && (leb l (ends % 1024 - at) && leb (ends % 1024 - at) m)) ends 0 ≡ cond (t && (length_fits l m n && u)) (at + n + 1024 * x) 0
    go n x true true b e =
        let f : ends % 1024 ≡ at + n = omega arith in
        let d : at + n - at ≡ n = omega arith in
        rw (f, d, behind at n, and-true (length_fits l m n), e)
    go n x true false b e = rw (e, le-ltb at 0 (omega arith), and-false (length_fits l m n))
    go n x false u b e = rw (e, le-ltb at 0 (omega arith))

-- ---------------------------------------------------------------------------
-- There is room for the ends

pub read_small : (k : ℕ) (ls : List ℕ) (at : ℕ) (ps : List (List ℕ)) → length ls ≤ k + k → at + span_of ps ≤ 1024 → part_read ls at ps < 1024 ^ k
unfolding parts_fit ends_from span_of
read_small k ls at [] h g = one-le-pow k 1024 (omega arith)
read_small k [] at (p ∷ ps) h g = one-le-pow k 1024 (omega arith)
read_small k (l ∷ []) at (p ∷ ps) h g = one-le-pow k 1024 (omega arith)
read_small zero (l ∷ (m ∷ ls)) at (p ∷ ps) h g = absurd (omega arith)
read_small (suc k) (l ∷ (m ∷ ls)) at (p ∷ ps) h g = go (all_of Digits p) (length_fits l m (length p)) (parts_fit ls ps) (read_small k ls (at + length p + 1) ps (omega arith) (omega arith))
  where
    go : (t w u : Bool) → cond u (ends_from (at + length p + 1) ps) 0 < 1024 ^ k → cond (t && (w && u)) (at + length p + 1024 * ends_from (at + length p + 1) ps) 0 < 1024 ^ suc k
    go true true true f = omega arith
    go true true false f = one-le-pow (suc k) 1024 (omega arith)
    go true false u f = one-le-pow (suc k) 1024 (omega arith)
    go false w u f = one-le-pow (suc k) 1024 (omega arith)
