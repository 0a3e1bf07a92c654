-- Two numbers base 10^18 as one, and a sum that is kept as its limit from there on.
-- Assumes nothing.
use Rattle.refusal.proofs.Basics.{◌≡◌, refl, sym, ap, ◌∙◌, arith, ℕ, zero, suc, ◌+◌, ◌*◌, ◌/◌, ◌%◌, ◌≤◌, ◌<◌, lt-ltb, le-ltb, ltb-true, ltb-false, eq-eqb, ne_eqb, eqb-true, eqb-false, List, Bool, true, false, ltb, eqb, lit<, div-add-mod', mod-lt, add-zero, taken, left}
use Rattle.text.specs.Digits.{value_from}
use Rattle.text.proofs.Values.{value_keeps}
use Rattle.sums.specs.Sums.{limb, cents_of, no_cents, sum_of, added}

-- ---------------------------------------------------------------------------
-- Over plain numbers

-- how often a number holds 10^18, and what is left
pub in_limbs : (n : ℕ) → n / limb * limb + n % limb ≡ n
in_limbs n = div-add-mod' n limb

-- which is below 10^18
pub low_small : (n : ℕ) → n % limb < limb
low_small n = mod-lt n (lit< tt)

-- high and low and some more, with both carried
pub carried_more : (high low n : ℕ) → (high + (low / limb + n / limb + (low % limb + n % limb) / limb)) * limb + (low % limb + n % limb) % limb ≡ high * limb + low + n
carried_more high low n = omega (arith, in_limbs low, in_limbs n, in_limbs (low % limb + n % limb))

-- high and low with a digit after them
pub carried_digit : (high low d : ℕ) → (high * 10 + (low / limb * 10 + (low % limb * 10 + d) / limb)) * limb + (low % limb * 10 + d) % limb ≡ (high * limb + low) * 10 + d
carried_digit high low d = omega (arith, in_limbs low, in_limbs (low % limb * 10 + d))

module _ (a b c d : ℕ) where
  -- two tests agree where what they test does: which number is less
  pub same_less : (a < b → c < d) → (b ≤ a → d ≤ c) → ltb a b ≡ ltb c d
  same_less f g = go (ltb a b) refl
    where
      go : (t : Bool) → ltb a b ≡ t → t ≡ ltb c d
      go true e = sym (lt-ltb c d (f (ltb-true a b e)))
      go false e = sym (le-ltb c d (g (ltb-false a b e)))

  -- and whether two are the same
  pub same_equal : (a ≡ b → c ≡ d) → (c ≡ d → a ≡ b) → eqb a b ≡ eqb c d
  same_equal f g = go (eqb a b) refl
    where
      go : (t : Bool) → eqb a b ≡ t → t ≡ eqb c d
      go true e = sym (eq-eqb c d (f (eqb-true a b e)))
      go false e = sym (ne_eqb c d (λ p. eqb-false a b e (g p)))

-- ---------------------------------------------------------------------------
-- A number as a sum

module _ (most n : ℕ) where
  -- below the limit: its two parts
  pub sum_small : n < most * limb → record { high = n / limb; low = n % limb } ≡ sum_of most n
  unfolding sum_of
  sum_small h = taken (ltb n (most * limb)) _ (record { high = most; low = 0 }) (lt-ltb n (most * limb) h)

  -- from there on: the limit
  pub sum_large : most * limb ≤ n → record { high = most; low = 0 } ≡ sum_of most n
  unfolding sum_of
  sum_large h = left (ltb n (most * limb)) (record { high = n / limb; low = n % limb }) _ _ (le-ltb n (most * limb) h) refl

  -- two parts make up the sum of their number
  pub sum_of_parts : (q r : ℕ) → q * limb + r ≡ n → r < limb → q < most → record { high = q; low = r } ≡ sum_of most n
  sum_of_parts q r e h g =
      let a : n / limb ≡ q = omega arith in
      let b : n % limb ≡ r = omega arith in
      rw (a, b) at (sum_small (omega arith))

  -- the number that the sum of a number stands for: itself
  pub cents_small : n < most * limb → cents_of (sum_of most n) ≡ n
  cents_small h = ap cents_of (sym (sum_small h)) ∙ in_limbs n

  -- or the limit
  pub cents_large : most * limb ≤ n → cents_of (sum_of most n) ≡ most * limb
  cents_large h = ap cents_of (sym (sum_large h)) ∙ add-zero (most * limb)

-- no cents, whatever the limit
pub no_cents_lem : (most : ℕ) → no_cents ≡ sum_of most 0
no_cents_lem zero = sum_large 0 0 (omega arith)
no_cents_lem (suc k) = sum_small (suc k) 0 (omega arith)

-- ---------------------------------------------------------------------------
-- Counting on from a sum that was kept as its limit

module _ (most : ℕ) where
  -- whatever makes no number smaller
  counted_on : (f : ℕ → ℕ) → ((m : ℕ) → m ≤ f m) → (n : ℕ) → sum_of most (f (cents_of (sum_of most n))) ≡ sum_of most (f n)
  counted_on f up n = go (ltb n (most * limb)) refl
    where
      go : (t : Bool) → ltb n (most * limb) ≡ t → sum_of most (f (cents_of (sum_of most n))) ≡ sum_of most (f n)
      go true e = rw (cents_small most n (ltb-true n (most * limb) e))
      go false e =
          let h : most * limb ≤ n = ltb-false n (most * limb) e in
          rw (cents_large most n h) (sym (sum_large most (f (most * limb)) (up (most * limb))) ∙ sum_large most (f n) (omega (arith, up n)))

  -- some cents more
  pub added_on : (m n : ℕ) → added most (sum_of most m) n ≡ sum_of most (m + n)
  added_on m n = counted_on (λ (x : ℕ). x + n) (λ x. omega arith) m

  -- some digits more
  pub written_on : (n : ℕ) (ds : List ℕ) → sum_of most (value_from (cents_of (sum_of most n)) ds) ≡ sum_of most (value_from n ds)
  written_on n ds = counted_on (λ (v : ℕ). value_from v ds) (λ v. value_keeps v ds) n
