-- What is promised of sums and of numbers read from digits: sums exact below any limit and told apart.
-- Assumes nothing.
use Rattle.refusal.proofs.Basics.{◌≡◌, refl, sym, ap, ◌∙◌, arith, ℕ, ◌+◌, ◌*◌, ◌^◌, ◌≤◌, ◌<◌, length, lt-ltb, le-ltb, ltb-true, ltb-false, eq-eqb, ne_eqb, eqb-true, List, Bool, true, false, false≢true, ltb, take_all, zero-add, pow-le-pow_right, ◌↔◌}
use Rattle.text.specs.Digits.{digits_of}
use Rattle.text.proofs.Values.{value_below, digits_few}
use Rattle.sums.specs.declared.Sum.{Sum}
use Rattle.sums.specs.Sums.{limb, cents_of, sum_of, fits, added, same_sum, number_of, number_in}
use Rattle.sums.proofs.Laws.{cents_small, cents_large}

-- ---------------------------------------------------------------------------
-- "Sums exact to twenty digits", and below any other limit

module _ (most n : ℕ) where
  -- a sum below the limit stands for its number
  pub sum_exact : n < most * limb → cents_of (sum_of most n) ≡ n
  sum_exact h = cents_small most n h

  -- and is one that fits
  pub sum_fits : n < most * limb → fits most (sum_of most n) ≡ true
  sum_fits h = rw (cents_small most n h) (lt-ltb n (most * limb) h)

  -- a sum of more never is
  pub sum_beyond : most * limb ≤ n → fits most (sum_of most n) ≡ false
  sum_beyond h = rw (cents_large most n h) (le-ltb (most * limb) (most * limb) (omega arith))

  -- some cents more are counted exactly
  pub added_exact : (s : Sum) → cents_of s + n < most * limb → cents_of (added most s n) ≡ cents_of s + n
  added_exact s h = cents_small most (cents_of s + n) h

  -- a number whose sum fits is what the sum stands for
  pub exact_where_fits : fits most (sum_of most n) ≡ true → cents_of (sum_of most n) ≡ n
  exact_where_fits e = go (ltb n (most * limb)) refl
    where
      go : (t : Bool) → ltb n (most * limb) ≡ t → cents_of (sum_of most n) ≡ n
      go true f = sum_exact (ltb-true n (most * limb) f)
      go false f = absurd (false≢true (sym (sum_beyond (ltb-false n (most * limb) f)) ∙ e))

-- a sum of more stays one, whatever is added
pub beyond_stays : (most n : ℕ) (s : Sum) → fits most s ≡ false → fits most (added most s n) ≡ false
beyond_stays most n s e = sum_beyond most (cents_of s + n) (omega (arith, ltb-false (cents_of s) (most * limb) e))

-- a sum of more is the same as none that fits
pub beyond_never_same : (most m : ℕ) (t : Sum) → most * limb ≤ m → fits most t ≡ true → same_sum (sum_of most m) t ≡ false
beyond_never_same most m t h e = ne_eqb (cents_of (sum_of most m)) (cents_of t) (λ p. omega (arith, cents_large most m h, ltb-true (cents_of t) (most * limb) e))

-- any sum and one that fits are the same exactly when their numbers are
pub sums_told_apart : (most m n : ℕ) → n < most * limb → (same_sum (sum_of most m) (sum_of most n) ≡ true) ↔ (m ≡ n)
sums_told_apart most m n h = (there, λ e. eq-eqb (cents_of (sum_of most m)) (cents_of (sum_of most n)) (ap (λ (k : ℕ). cents_of (sum_of most k)) e))
  where
    there : same_sum (sum_of most m) (sum_of most n) ≡ true → m ≡ n
    there e = go (ltb m (most * limb)) refl (eqb-true (cents_of (sum_of most m)) (cents_of (sum_of most n)) e)
      where
        go : (t : Bool) → ltb m (most * limb) ≡ t → cents_of (sum_of most m) ≡ cents_of (sum_of most n) → m ≡ n
        go true f p = sym (cents_small most m (ltb-true m (most * limb) f)) ∙ p ∙ cents_small most n h
        go false f p = omega (arith, cents_large most m (ltb-false m (most * limb) f), cents_small most n h)

-- sums of twenty digits that agree in their low 64 bits are told apart: 2^64 is 18446744073709551616
pub not_by_64_bits : (n : ℕ) → n < 10000000000000000000 → same_sum (sum_of 100 (n + 18446744073709551616)) (sum_of 100 n) ≡ false
not_by_64_bits n h = go (same_sum (sum_of 100 (n + 18446744073709551616)) (sum_of 100 n)) refl
  where
    go : (t : Bool) → same_sum (sum_of 100 (n + 18446744073709551616)) (sum_of 100 n) ≡ t → t ≡ false
    go true e = let g = (sums_told_apart 100 (n + 18446744073709551616) n (omega arith)).0 e in absurd (omega arith)
    go false e = refl

-- ---------------------------------------------------------------------------
-- Numbers read from digits

-- at most k digits write a number below 10^k
pub number_small : (k : ℕ) (s : List ℕ) → length (digits_of s) ≤ k → number_of s < 10 ^ k
number_small k s h =
    let g : number_of s < 10 ^ length (digits_of s) = rw zero-add at (value_below 0 0 s (omega arith)) in
    omega (arith, pow-le-pow_right {n = 10} (omega arith) {i = length (digits_of s)} {j = k} h)

-- and so do at most k bytes
pub text_small : (k : ℕ) (s : List ℕ) → length s ≤ k → number_of s < 10 ^ k
text_small k s h = number_small k s (omega (arith, digits_few s))

-- a text of eighteen bytes is read whole
pub number_of_all : (s : List ℕ) → length s ≤ 18 → number_in s ≡ number_of s
number_of_all s h = ap number_of (take_all 18 s h)
