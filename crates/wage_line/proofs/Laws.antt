-- Laws of a line: of choices, and of its end.
-- Assumes nothing.
use Rattle.refusal.proofs.Basics.{◌≡◌, arith, ℕ, ◌≤◌, length, take, drop, get_or, drop_of_length-le, eq-eqb, ne_eqb, List, [], ◌∷◌, drop-cons, left, entered}

-- ---------------------------------------------------------------------------
-- Choices

-- the answer of a chain of choices, each on whether two numbers are equal
pub ruleset choices = (left, entered, eq-eqb, ne_eqb)

-- ---------------------------------------------------------------------------
-- The ends of a line

module _ (s : List ℕ) (whole : length s ≡ 1002) where
  -- the bytes of the type
  pub last_three : take 3 (drop 997 s) ≡ get_or s 997 0 ∷ (get_or s 998 0 ∷ (get_or s 999 0 ∷ []))
  last_three = rw (drop-cons s 997 0 (omega arith), drop-cons s 998 0 (omega arith), drop-cons s 999 0 (omega arith))

  -- the bytes behind it
  pub last_two : drop 1000 s ≡ get_or s 1000 0 ∷ (get_or s 1001 0 ∷ [])
  last_two =
      let g : length s ≤ 1002 = omega arith in
      rw (drop-cons s 1000 0 (omega arith), drop-cons s 1001 0 (omega arith), drop_of_length-le s g)
