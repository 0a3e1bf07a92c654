-- What is promised of text fields: which texts are permitted, accepted exactly when, characters against bytes.
-- Assumes nothing.
use Rattle.refusal.proofs.Basics.{◌≡◌, refl, ap, ◌∙◌, arith, ℕ, zero, suc, ◌*◌, ◌≤◌, ◌<◌, length, get_or, leb-true, le-leb, eqb-true, List, [], ◌∷◌, Bool, true, false, cond, ◌&&◌, ◌||◌, and-false, eqb, ◌↔◌}
use Rattle.std.specs.Prelude.{Option, Some, None, Err}
use Rattle.verdict.proofs.Verdicts.{both_pass, test_holds}
use Rattle.verdict.specs.Verdict.{passed}
use Rattle.verdict.specs.declared.Fault.{Fault}
use Rattle.text.specs.Bytes.{later, found}
use Rattle.text.proofs.Laws.{nothing_found}
use Rattle.characters.specs.Characters.{is_single, after_c4, after_c5, is_pair, first_wrong, characters}
use Rattle.characters.specs.Answers.{characters_verdict}
use Rattle.characters.proofs.Laws.{single_passed, single_counted, pair_passed, pair_counted}

-- ---------------------------------------------------------------------------
-- Permitted texts

-- a text that is nothing but permitted characters, one after another
pub data Permitted : List ℕ → Type 0 where
  empty : Permitted []
  single : {b : ℕ} {s : List ℕ} → is_single b ≡ true → Permitted s → Permitted (b ∷ s)
  pair : {b c : ℕ} {s : List ℕ} → is_pair b c ≡ true → Permitted s → Permitted (b ∷ (c ∷ s))

-- the first byte of a letter of two bytes is no character of its own
pair_starts : (b c : ℕ) → is_pair b c ≡ true → is_single b ≡ false
pair_starts b c = go (eqb b 196) (eqb b 197) (after_c4 c) (after_c5 c) refl refl
  where
    go : (t u x y : Bool) → eqb b 196 ≡ t → eqb b 197 ≡ u → ((t && x) || (u && y)) ≡ true → is_single b ≡ false
    go true u x y p q e = ap is_single (eqb-true b 196 p)
    go false true x y p q e = ap is_single (eqb-true b 197 q)
    go false false x y p q e = let z : ◌≡◌ {A = ℕ} 0 1 = cc in absurd (omega arith)

-- nothing further on is nothing
nothing_later : (f : Option ℕ) → later f ≡ None → f ≡ None
nothing_later (Some i) e = let z : ◌≡◌ {A = ℕ} 0 1 = cc in absurd (omega arith)
nothing_later None e = refl

-- the first character of a text in which nothing is wrong, by what its first two bytes are
first_permitted : (b c : ℕ) (s : List ℕ) (t u : Bool) → is_single b ≡ t → is_pair b c ≡ u → (first_wrong (c ∷ s) ≡ None → Permitted (c ∷ s)) → (first_wrong s ≡ None → Permitted s) → cond t (later (first_wrong (c ∷ s))) (cond u (later (later (first_wrong s))) (Some 0)) ≡ None → Permitted (b ∷ (c ∷ s))
first_permitted b c s true u p q f g e = single p (f (nothing_later (first_wrong (c ∷ s)) e))
first_permitted b c s false true p q f g e = pair q (g (nothing_later (first_wrong s) (nothing_later (later (first_wrong s)) e)))
first_permitted b c s false false p q f g e = let z : ◌≡◌ {A = ℕ} 0 1 = cc in absurd (omega arith)

-- a text of one byte in which nothing is wrong
last_permitted : (b : ℕ) (t : Bool) → is_single b ≡ t → cond {A = Option ℕ} t None (Some 0) ≡ None → Permitted (b ∷ [])
last_permitted b true p e = single p empty
last_permitted b false p e = let z : ◌≡◌ {A = ℕ} 0 1 = cc in absurd (omega arith)

-- where nothing is wrong, all is permitted characters
is_permitted : (s : List ℕ) → first_wrong s ≡ None → Permitted s
unfolding first_wrong
is_permitted [] e = empty
is_permitted (b ∷ []) e = last_permitted b (is_single b) refl e
is_permitted (b ∷ (c ∷ s)) e = first_permitted b c s (is_single b) (is_pair b c) refl refl (is_permitted (c ∷ s)) (is_permitted s) e

-- and the other way round
nothing_wrong : {s : List ℕ} → Permitted s → first_wrong s ≡ None
unfolding first_wrong
nothing_wrong empty = refl
nothing_wrong (single {b} {s} e p) = single_passed b s e ∙ ap later (nothing_wrong p)
nothing_wrong (pair {b} {c} {s} e p) = pair_passed b c s (pair_starts b c e) e ∙ ap (λ (f : Option ℕ). later (later f)) (nothing_wrong p)

-- nothing is wrong in a text exactly when it is nothing but permitted characters
pub permitted_exactly : (s : List ℕ) → (first_wrong s ≡ None) ↔ Permitted s
permitted_exactly s = (is_permitted s, nothing_wrong)

-- ---------------------------------------------------------------------------
-- Accepted exactly when

-- a text is accepted exactly when nothing in it is wrong and its characters are not too many
pub accepted_exactly : (most : ℕ) (s : List ℕ) → (characters_verdict most s ≡ passed) ↔ ((first_wrong s ≡ None) × (characters s ≤ most))
accepted_exactly most s = (
  λ e. let h = both_pass (found (first_wrong s)) _ e in (nothing_found (first_wrong s) h.0, leb-true (characters s) most (test_holds _ _ h.1)),
  λ h. rw (h.0, le-leb (characters s) most h.1),
)

-- ---------------------------------------------------------------------------
-- Characters against bytes

-- a text has no more characters than bytes
pub characters_at_most_bytes : (s : List ℕ) → characters s ≤ length s
unfolding characters
characters_at_most_bytes [] = omega arith
characters_at_most_bytes (b ∷ []) = omega arith
characters_at_most_bytes (b ∷ (c ∷ s)) = go (is_single b) (characters_at_most_bytes (c ∷ s)) (characters_at_most_bytes s)
  where
    go : (t : Bool) → characters (c ∷ s) ≤ length (c ∷ s) → characters s ≤ length s → cond t (suc (characters (c ∷ s))) (suc (characters s)) ≤ length (b ∷ (c ∷ s))
    go true h g = omega arith
    go false h g = omega arith

-- no character has more than two bytes
bytes_of_permitted : {s : List ℕ} → Permitted s → length s ≤ 2 * characters s
unfolding characters
bytes_of_permitted empty = omega arith
bytes_of_permitted (single {b} {s} e p) = let h = bytes_of_permitted p in omega (arith, single_counted b s e)
bytes_of_permitted (pair {b} {c} {s} e p) = let h = bytes_of_permitted p in omega (arith, pair_counted b c s (pair_starts b c e))

-- and, where nothing in it is wrong, no fewer than half as many
pub bytes_at_most_twice : (s : List ℕ) → first_wrong s ≡ None → length s ≤ 2 * characters s
bytes_at_most_twice s e = bytes_of_permitted (is_permitted s e)

-- ---------------------------------------------------------------------------
-- Bytes that no character has

-- a byte that is part of no permitted character
pub record InNone (x : ℕ) : Type 0 where
  pub alone : is_single x ≡ false
  pub first : (c : ℕ) → is_pair x c ≡ false
  pub second : (b : ℕ) → is_pair b x ≡ false

-- a test has one outcome
clash : (t : Bool) → t ≡ true → t ≡ false → ⊥
clash t e f = let z : ◌≡◌ {A = ℕ} 0 1 = cc in omega arith

-- such a byte stands at no place of a permitted text
not_permitted : (x : ℕ) → InNone x → {s : List ℕ} → Permitted s → (i : ℕ) → i < length s → get_or s i 0 ≡ x → ⊥
not_permitted x n empty i h g = omega arith
not_permitted x n (single {b} e p) zero h g = clash (is_single b) e (ap is_single g ∙ n.alone)
not_permitted x n (single e p) (suc i) h g = not_permitted x n p i (omega arith) g
not_permitted x n (pair {b} {c} e p) zero h g = clash (is_pair b c) e (ap (λ (y : ℕ). is_pair y c) g ∙ n.first c)
not_permitted x n (pair {b} {c} e p) (suc zero) h g = clash (is_pair b c) e (ap (is_pair b) g ∙ n.second b)
not_permitted x n (pair e p) (suc (suc i)) h g = not_permitted x n p i (omega arith) g

-- such a byte stands at no place of a text in which nothing is wrong
pub stands_nowhere : (x : ℕ) → InNone x → (s : List ℕ) → first_wrong s ≡ None → (i : ℕ) → i < length s → get_or s i 0 ≡ x → ⊥
stands_nowhere x n s e = not_permitted x n (is_permitted s e)

-- a line feed is such a byte
line_feed_in_none : InNone 10
line_feed_in_none = record { alone = refl; first = λ c. refl; second = λ b. rw (and-false (eqb b 196), and-false (eqb b 197)) }

-- no line feed stands in a text in which nothing is wrong
pub no_line_feed : (s : List ℕ) → first_wrong s ≡ None → (i : ℕ) → i < length s → get_or s i 0 ≡ 10 → ⊥
no_line_feed = stands_nowhere 10 line_feed_in_none

-- ---------------------------------------------------------------------------
-- "Thirty Ž in field 4 pass; thirty-one give 4"

-- n times Ž
unfoldable pub manyŽ : ℕ → List ℕ
manyŽ zero = []
manyŽ (suc n) = 197 ∷ (189 ∷ manyŽ n)

-- thirty are accepted
pub thirty_accepted : characters_verdict 30 (manyŽ 30) ≡ passed
unfolding manyŽ first_wrong characters
thirty_accepted = refl

-- thirty-one are 4
pub thirty_one_refused : characters_verdict 30 (manyŽ 31) ≡ Err Fault.Length
unfolding manyŽ first_wrong characters
thirty_one_refused = refl
