-- A text's characters, one after another, from a place of the text on.
-- Assumes nothing.
use Rattle.refusal.proofs.Basics.{◌≡◌, refl, sym, ap, ◌∙◌, arith, ℕ, suc, ◌+◌, ◌-◌, ◌≤◌, ◌<◌, length, drop, get_or, ne_eqb, lt-ltb, List, [], ◌∷◌, Bool, true, false, false≢true, cond, ◌||◌, zero-add, add-zero, taken, left}
use Rattle.std.specs.Prelude.{Some, None, leb}
use Rattle.text.specs.Bytes.{later}
use Rattle.text.proofs.Laws.{shifted, shifted_zero, shifted_later, Below, below_later}
use Rattle.verdict.specs.Verdict.{wrong_at, only_if}
use Rattle.verdict.specs.declared.Fault.{Fault}
use Rattle.characters.specs.Answers.{characters_verdict}
use Rattle.characters.specs.Characters.{is_single, after_c4, after_c5, is_pair, is_completed, first_wrong, characters}

-- ---------------------------------------------------------------------------
-- The first character of a text

-- a character of one byte is passed
pub single_passed : (b : ℕ) (s : List ℕ) → is_single b ≡ true → first_wrong (b ∷ s) ≡ later (first_wrong s)
unfolding first_wrong
single_passed b [] e = sym (taken (is_single b) None (Some 0) e)
single_passed b (c ∷ s) e =
    sym (taken (is_single b) (later (first_wrong (c ∷ s))) (cond (is_pair b c) (later (later (first_wrong s))) (Some 0)) e)

-- and counted
pub single_counted : (b : ℕ) (s : List ℕ) → is_single b ≡ true → characters (b ∷ s) ≡ suc (characters s)
unfolding characters
single_counted b [] e = refl
single_counted b (c ∷ s) e = sym (taken (is_single b) (suc (characters (c ∷ s))) (suc (characters s)) e)

-- nothing else may stand last
pub lone_wrong : (b : ℕ) → is_single b ≡ false → first_wrong (b ∷ []) ≡ Some 0
unfolding first_wrong
lone_wrong b e = sym (left (is_single b) None (Some 0) (Some 0) e refl)

module _ (b c : ℕ) (s : List ℕ) (e : is_single b ≡ false) where
  -- a character of two bytes is passed
  pub pair_passed : is_pair b c ≡ true → first_wrong (b ∷ (c ∷ s)) ≡ later (later (first_wrong s))
  unfolding first_wrong
  pair_passed p =
      sym (left (is_single b) (later (first_wrong (c ∷ s))) (cond (is_pair b c) (later (later (first_wrong s))) (Some 0)) (later (later (first_wrong s))) e
      (taken (is_pair b c) (later (later (first_wrong s))) (Some 0) p))

  -- and counted as one
  pub pair_counted : characters (b ∷ (c ∷ s)) ≡ suc (characters s)
  unfolding characters
  pair_counted = sym (left (is_single b) (suc (characters (c ∷ s))) (suc (characters s)) (suc (characters s)) e refl)

  -- no other two bytes are
  pub others_wrong : is_pair b c ≡ false → first_wrong (b ∷ (c ∷ s)) ≡ Some 0
  unfolding first_wrong
  others_wrong p =
      sym (left (is_single b) (later (first_wrong (c ∷ s))) (cond (is_pair b c) (later (later (first_wrong s))) (Some 0)) (Some 0) e
      (left (is_pair b c) (later (later (first_wrong s))) (Some 0) (Some 0) p refl))

-- ---------------------------------------------------------------------------
-- The scan, with what is left of the text

-- the bytes before what is left are n permitted characters
pub record Passed (s rest : List ℕ) (n : ℕ) : Type 0 where
  pub fewer : n + length rest ≤ length s
  pub wrong : first_wrong s ≡ shifted (length s - length rest) (first_wrong rest)
  pub count : characters s ≡ n + characters rest

-- at the start
pub passed_none : (s : List ℕ) → Passed s s 0
passed_none s = record {
  fewer = omega arith;
  wrong = let z : length s - length s ≡ 0 = omega arith in rw z (shifted_zero (first_wrong s));
  count = sym (zero-add (characters s));
}

module _ (s : List ℕ) (n : ℕ) where
  -- a character of one byte stands next
  pub passed_single : (rest : List ℕ) → Passed s rest n → 0 < length rest → is_single (get_or rest 0 0) ≡ true → Passed s (drop 1 rest) (n + 1)
  passed_single [] p h e = absurd (omega arith)
  passed_single (b ∷ r) p h e =
      let w = p.fewer in
      let i = length s - suc (length r) in
      let x : i + 1 ≡ length s - length r = omega arith in
      record {
        fewer = omega arith;
        wrong = p.wrong ∙ ap (shifted i) (single_passed b r e) ∙ shifted_later i (first_wrong r) ∙ ap (λ (k : ℕ). shifted k (first_wrong r)) x;
        count = p.count ∙ ap (λ (k : ℕ). n + k) (single_counted b r e) ∙ omega arith;
      }

  -- a character of two bytes stands next
  pub passed_pair :
      (rest : List ℕ) → Passed s rest n → 0 < length rest → is_single (get_or rest 0 0) ≡ false → is_completed (get_or rest 0 0) (drop 1 rest) 0 ≡ true
      → Passed s (drop 1 (drop 1 rest)) (n + 1)
  passed_pair [] p h e q = absurd (omega arith)
  passed_pair (b ∷ []) p h e q = absurd (false≢true q)
  passed_pair (b ∷ (c ∷ r)) p h e q =
      let w = p.fewer in
      let i = length s - suc (suc (length r)) in
      let x : i + 1 + 1 ≡ length s - length r = omega arith in
      record {
        fewer = omega arith;
        wrong =
            p.wrong
            ∙ ap (shifted i) (pair_passed b c r e (rw (lt-ltb 0 (suc (length r)) (omega arith)) at q))
            ∙ shifted_later i (later (first_wrong r))
            ∙ shifted_later (i + 1) (first_wrong r)
            ∙ ap (λ (k : ℕ). shifted k (first_wrong r)) x;
        count = p.count ∙ ap (λ (k : ℕ). n + k) (pair_counted b c r e) ∙ omega arith;
      }

  -- no character stands next
  pub passed_wrong :
      (rest : List ℕ) → Passed s rest n → 0 < length rest → is_single (get_or rest 0 0) ≡ false → is_completed (get_or rest 0 0) (drop 1 rest) 0 ≡ false
      → first_wrong s ≡ Some (length s - length rest)
  unfolding shifted
  passed_wrong rest p h e q = p.wrong ∙ ap (shifted (length s - length rest)) (first rest h e q) ∙ here (length s - length rest)
    where
      first : (rest : List ℕ) → 0 < length rest → is_single (get_or rest 0 0) ≡ false → is_completed (get_or rest 0 0) (drop 1 rest) 0 ≡ false → first_wrong rest ≡ Some 0
      first [] h e q = absurd (omega arith)
      first (b ∷ []) h e q = lone_wrong b e
      first (b ∷ (c ∷ r)) h e q = others_wrong b c r e (rw (lt-ltb 0 (suc (length r)) (omega arith)) at q)

      here : (i : ℕ) → shifted i (Some 0) ≡ Some i
      here i = ap Some (add-zero i)

  -- at the end
  pub passed_all : (rest : List ℕ) → Passed s rest n → length rest ≡ 0 → (first_wrong s ≡ None) × (characters s ≡ n)
  unfolding first_wrong characters shifted
  passed_all [] p h = (p.wrong, p.count ∙ add-zero n)
  passed_all (b ∷ r) p h = absurd (omega arith)

-- ---------------------------------------------------------------------------
-- Where the scan stops: within the text

-- what the scan for characters finds
pub wrong_below : (s : List ℕ) → Below (length s) (first_wrong s)
unfolding first_wrong
wrong_below [] = tt
wrong_below (b ∷ []) = go (is_single b)
  where
    go : (t : Bool) → Below 1 (cond t None (Some 0))
    go true = tt
    go false = omega arith
wrong_below (b ∷ (c ∷ s)) = go (is_single b) (is_pair b c) (wrong_below (c ∷ s)) (wrong_below s)
  where
    go : (t u : Bool) → Below (suc (length s)) (first_wrong (c ∷ s)) → Below (length s) (first_wrong s) →
        Below (suc (suc (length s))) (cond t (later (first_wrong (c ∷ s))) (cond u (later (later (first_wrong s))) (Some 0)))
    go true u f g = below_later (suc (length s)) (first_wrong (c ∷ s)) f
    go false true f g = below_later (suc (length s)) (later (first_wrong s)) (below_later (length s) (first_wrong s) g)
    go false false f g = omega arith

-- ---------------------------------------------------------------------------
-- The answers, by what the scan came to

-- 3, told of the byte
pub wrong_told : (most : ℕ) (s : List ℕ) (i : ℕ) → first_wrong s ≡ Some i → wrong_at i ≡ characters_verdict most s
wrong_told most s i e = rw e

-- 4, where the characters are too many
pub counted_told : (most n : ℕ) (s : List ℕ) → (first_wrong s ≡ None) × (characters s ≡ n) → only_if (leb n most) Fault.Length ≡ characters_verdict most s
counted_told most n s e = rw (e.0, e.1)

-- ---------------------------------------------------------------------------
-- The letters of two bytes, by their first

-- C4
pub pair_c4 : (b c : ℕ) (r : Bool) → b ≡ 196 → r ≡ after_c4 c → r ≡ is_pair b c
pair_c4 b c r e h = rw e (go (after_c4 c) h)
  where
    go : (x : Bool) → r ≡ x → r ≡ (x || false)
    go true h = h
    go false h = h

-- C5
pub pair_c5 : (b c : ℕ) (r : Bool) → b ≡ 197 → r ≡ after_c5 c → r ≡ is_pair b c
pair_c5 b c r e h = rw e h

-- another byte
pub no_pair : (b c : ℕ) → (b ≡ 196 → ⊥) → (b ≡ 197 → ⊥) → false ≡ is_pair b c
no_pair b c e f = rw (ne_eqb b 196 e, ne_eqb b 197 f)
