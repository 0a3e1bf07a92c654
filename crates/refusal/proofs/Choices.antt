-- The laws of choices and of tests joined, which answer nearly every return.
-- Assumes nothing.
use mathlib.Core.Path.{◌≡◌, refl}
use mathlib.Core.Bool.{Bool, true, false, cond, ◌&&◌, ◌||◌}
use Prim.Native.Nat.{ℕ}
use native.Mathlib.Omega.{arith}

-- ---------------------------------------------------------------------------
-- Choices on a test

module _ {A : Type 0} where
  -- the test held: the first answer
  pub taken : (b : Bool) (x y : A) → b ≡ true → x ≡ cond b x y
  taken true x y e = refl
  taken false x y e = let z : ◌≡◌ {A = ℕ} 0 1 = cc in absurd (omega arith)

  -- the test failed: what answers the rest answers the whole
  pub left : (b : Bool) (x y r : A) → b ≡ false → r ≡ y → r ≡ cond b x y
  left false x y r e h = h
  left true x y r e h = let z : ◌≡◌ {A = ℕ} 0 1 = cc in absurd (omega arith)

  -- the test held: what answers the first part answers the whole
  pub entered : (b : Bool) (x y r : A) → b ≡ true → r ≡ x → r ≡ cond b x y
  entered true x y r e h = h
  entered false x y r e h = let z : ◌≡◌ {A = ℕ} 0 1 = cc in absurd (omega arith)

  -- the answer is not the second: the test held, and it is the first
  pub chosen : (b : Bool) (x y r : A) → (y ≡ r → ⊥) → cond b x y ≡ r → (b ≡ true) × (x ≡ r)
  chosen true x y r n e = (refl, e)
  chosen false x y r n e = absurd (n e)

-- ---------------------------------------------------------------------------
-- Tests joined

pub or_first : (a b : Bool) → a ≡ true → true ≡ (a || b)
or_first true b e = refl
or_first false b e = let z : ◌≡◌ {A = ℕ} 0 1 = cc in absurd (omega arith)

pub or_second : (a b r : Bool) → a ≡ false → r ≡ b → r ≡ (a || b)
or_second false b r e h = h
or_second true b r e h = let z : ◌≡◌ {A = ℕ} 0 1 = cc in absurd (omega arith)

pub and_first : (a b : Bool) → a ≡ false → false ≡ (a && b)
and_first false b e = refl
and_first true b e = let z : ◌≡◌ {A = ℕ} 0 1 = cc in absurd (omega arith)

pub and_second : (a b r : Bool) → a ≡ true → r ≡ b → r ≡ (a && b)
and_second true b r e h = h
and_second false b r e h = let z : ◌≡◌ {A = ℕ} 0 1 = cc in absurd (omega arith)

pub both_true : (a b : Bool) → (a && b) ≡ true → (a ≡ true) × (b ≡ true)
both_true true b e = (refl, e)
both_true false b e = let z : ◌≡◌ {A = ℕ} 0 1 = cc in absurd (omega arith)
