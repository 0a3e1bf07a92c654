-- The number that digits write, digit by digit.
-- Assumes nothing.
use Rattle.refusal.proofs.Basics.{◌≡◌, refl, ap, ◌∙◌, arith, ℕ, suc, ◌+◌, ◌-◌, ◌*◌, ◌^◌, ◌≤◌, ◌<◌, length, take, drop, get_or, List, [], ◌∷◌, Bool, true, false, cond, drop-cons, drop-length, take-suc, pow-suc, pow-le-pow_right, add-zero, add-one}
use Rattle.classes.specs.Classes.{is_digit}
use Rattle.text.specs.Digits.{digits_of, value_from}
use Rattle.text.proofs.Laws.{digits_append, value_append}
use Rattle.classes.proofs.Laws.{digit_bounds}

-- ---------------------------------------------------------------------------
-- One byte more

-- what is no digit is passed over
pub value_skips : (v b : ℕ) → is_digit b ≡ false → v ≡ value_from v (digits_of (b ∷ []))
unfolding value_from digits_of
value_skips v b e = rw e

-- a digit is written after the others
pub value_takes : (v b : ℕ) → is_digit b ≡ true → v * 10 + (b - 48) ≡ value_from v (digits_of (b ∷ []))
unfolding value_from digits_of
value_takes v b e = rw e

-- the number stays below the next power of ten
pub value_grows : (v b i : ℕ) → v < 10 ^ i → value_from v (digits_of (b ∷ [])) < 10 ^ (i + 1)
unfolding value_from digits_of
value_grows v b i h = rw (add-one i, pow-suc 10 i) (go (is_digit b) refl)
  where
    go : (t : Bool) → is_digit b ≡ t → value_from v (cond t ((b - 48) ∷ []) []) < 10 ^ i * 10
    go true e = let d = digit_bounds b e in omega arith
    go false e = omega arith

-- and below 10^18 where i is below 18
pub value_small : (v i : ℕ) → i < 18 → v < 10 ^ i → v < 10 ^ 18
value_small v i h l = omega (arith, pow-le-pow_right {n = 10} (omega arith) {i = i} {j = 18} (omega arith))

-- ---------------------------------------------------------------------------
-- The digits of a text, one byte after the other

module _ (v : ℕ) (s : List ℕ) (i : ℕ) where
  -- from place i on
  pub value_on : i < length s → value_from v (digits_of (drop i s)) ≡ value_from (value_from v (digits_of (get_or s i 0 ∷ []))) (digits_of (drop (i + 1) s))
  value_on h =
      rw (drop-cons s i 0 h, add-one)
      (ap (value_from v) (digits_append (get_or s i 0 ∷ []) (drop (suc i) s))
      ∙ value_append v (digits_of (get_or s i 0 ∷ [])) (digits_of (drop (suc i) s)))

  -- at the end
  pub value_ends : length s ≤ i → i ≤ length s → v ≡ value_from v (digits_of (drop i s))
  unfolding value_from digits_of
  value_ends h g = let e : i ≡ length s = omega arith in rw (e, drop-length)

  -- up to place i
  pub value_to : i < length s → value_from v (digits_of (take (i + 1) s)) ≡ value_from (value_from v (digits_of (take i s))) (digits_of (get_or s i 0 ∷ []))
  value_to h =
      rw (add-one, take-suc s i 0 h)
      (ap (value_from v) (digits_append (take i s) (get_or s i 0 ∷ []))
      ∙ value_append v (digits_of (take i s)) (digits_of (get_or s i 0 ∷ [])))

-- more digits write no smaller number
pub value_keeps : (v : ℕ) (ds : List ℕ) → v ≤ value_from v ds
unfolding value_from
value_keeps v [] = omega arith
value_keeps v (d ∷ ds) = omega (arith, value_keeps (v * 10 + d) ds)

-- k digits more multiply by less than 10^k
pub value_below : (v i : ℕ) (s : List ℕ) → v < 10 ^ i → value_from v (digits_of s) < 10 ^ (i + length (digits_of s))
unfolding value_from digits_of
value_below v i [] l = rw add-zero l
value_below v i (b ∷ s) l = go (is_digit b) refl (λ (w j : ℕ). value_below w j s)
  where
    go : (t : Bool) → is_digit b ≡ t → ((w j : ℕ) → w < 10 ^ j → value_from w (digits_of s) < 10 ^ (j + length (digits_of s))) → value_from v (cond t ((b - 48) ∷ digits_of s) (digits_of s)) < 10 ^ (i + length (cond t ((b - 48) ∷ digits_of s) (digits_of s)))
    go true e f =
        let d = digit_bounds b e in
        let z : i + suc (length (digits_of s)) ≡ suc i + length (digits_of s) = omega arith in
        rw z (f (v * 10 + (b - 48)) (suc i) (rw (pow-suc 10 i) (omega arith)))
    go false e f = f v i l

-- a text has no more digits than bytes
pub digits_few : (s : List ℕ) → length (digits_of s) ≤ length s
unfolding digits_of
digits_few [] = omega arith
digits_few (b ∷ s) = go (is_digit b) (digits_few s)
  where
    go : (t : Bool) → length (digits_of s) ≤ length s → length (cond t ((b - 48) ∷ digits_of s) (digits_of s)) ≤ suc (length s)
    go true h = omega arith
    go false h = omega arith
