-- What holds of the fillings of one text: they are the texts that fill it, each by one number; and what `filled` answers is determined.
-- Assumes nothing.
use Rattle.refusal.proofs.Basics.{◌≡◌, refl, sym, ap, ◌∙◌, arith, ℕ, zero, suc, ◌+◌, ◌-◌, ◌*◌, ◌/◌, ◌%◌, ◌^◌, ◌<◌, length, get_or, drop, eq-eqb, ne_eqb, eqb-true, eqb-false, List, [], ◌∷◌, Bool, true, false, cond, eqb, mul_assoc, pow-succ', one-le-pow, mod-one, mod-eq_of_lt, mul-add-div_right}
use lib.Arith.{digits_lt, digits_div, mod-mul}
use Rattle.text.specs.Bytes.{count_of, marks}
use Rattle.filling.specs.Filling.{fill}
use Rattle.filling.specs.Claims.{Fills, filling_number}

-- ---------------------------------------------------------------------------
-- The texts that fill a text

-- a filling has the text's length
pub fill_length : (s : List ℕ) (k : ℕ) → length (fill s k) ≡ length s
unfolding fill
fill_length [] k = refl
fill_length (b ∷ s) k = ap suc (fill_length s k)

-- what a filling has at a place
fill_at : (s : List ℕ) (k i : ℕ) → i < length s → get_or (fill s k) i 0 ≡ cond (eqb (get_or s i 0) 63) (48 + (k / 10 ^ marks (drop (suc i) s)) % 10) (get_or s i 0)
unfolding fill
fill_at [] k i h = absurd (omega arith)
fill_at (b ∷ s) k zero h = refl
fill_at (b ∷ s) k (suc i) h = fill_at s k i (omega arith)

-- a filling fills the text
pub fill_fills : (s : List ℕ) (k : ℕ) → Fills s (fill s k)
fill_fills s k =
    record {
      size = fill_length s k;
      same = λ i h n. fill_at s k i h ∙ rw (ne_eqb (get_or s i 0) 63 n);
      digit = λ i h e. let z : get_or (fill s k) i 0 ≡ 48 + (k / 10 ^ marks (drop (suc i) s)) % 10 = fill_at s k i h ∙ rw (eq-eqb (get_or s i 0) 63 e) in (omega arith, omega arith);
    }

-- what fills a text fills its rest
rest_fills : (b c : ℕ) (s t : List ℕ) → Fills (b ∷ s) (c ∷ t) → Fills s t
rest_fills b c s t f =
    record {
      size = omega (arith, f.size);
      same = λ i h n. f.same (suc i) (omega arith) n;
      digit = λ i h e. f.digit (suc i) (omega arith) e;
    }

-- digits in front of the number of a rest leave the rest's filling as it is
fill_rest : (s : List ℕ) (d k : ℕ) → fill s (d * 10 ^ marks s + k) ≡ fill s k
unfolding fill count_of
fill_rest [] d k = refl
fill_rest (b ∷ s) d k = go (eqb b 63) (λ d. fill_rest s d k)
  where
    go : (t : Bool) → ((d : ℕ) → fill s (d * 10 ^ marks s + k) ≡ fill s k) → ◌≡◌ {A = List ℕ} (cond t (48 + ((d * 10 ^ cond t (suc (marks s)) (marks s) + k) / 10 ^ marks s) % 10) b ∷ fill s (d * 10 ^ cond t (suc (marks s)) (marks s) + k)) (cond t (48 + (k / 10 ^ marks s) % 10) b ∷ fill s k)
    go true ih =
        let e : d * 10 ^ suc (marks s) ≡ d * 10 * 10 ^ marks s = rw (pow-succ', mul_assoc) in
        rw (e, ih (d * 10), mul-add-div_right (one-le-pow (marks s) 10 (omega arith)) (d * 10) k) (ap (λ (x : ℕ). x ∷ fill s k) (omega arith))
    go false ih = rw (ih d)

-- the number of a filling is the number, as far as the marks have digits for it
pub number_of_fill : (s : List ℕ) (k : ℕ) → filling_number s (fill s k) ≡ k % 10 ^ marks s
unfolding fill count_of filling_number
number_of_fill [] k = sym (mod-one k)
number_of_fill (b ∷ s) k = go (eqb b 63) (number_of_fill s k)
  where
    go : (t : Bool) → filling_number s (fill s k) ≡ k % 10 ^ marks s → cond t ((cond t (48 + (k / 10 ^ marks s) % 10) b - 48) * 10 ^ marks s + filling_number s (fill s k)) (filling_number s (fill s k)) ≡ k % 10 ^ cond t (suc (marks s)) (marks s)
    go true ih =
        let e : 48 + (k / 10 ^ marks s) % 10 - 48 ≡ (k / 10 ^ marks s) % 10 = omega arith in
        rw (e, ih, pow-succ', mod-mul k {m = 10} {c = 10 ^ marks s} (omega arith) (one-le-pow (marks s) 10 (omega arith)))
    go false ih = ih

-- two numbers, two fillings
pub fill_injective : (s : List ℕ) (k k' : ℕ) → k < 10 ^ marks s → k' < 10 ^ marks s → fill s k ≡ fill s k' → k ≡ k'
fill_injective s k k' h h' e = sym (mod-eq_of_lt h) ∙ sym (number_of_fill s k) ∙ ap (filling_number s) e ∙ number_of_fill s k' ∙ mod-eq_of_lt h'

-- the number of a text that fills s has as many digits as s has marks
number_below : (s t : List ℕ) → Fills s t → filling_number s t < 10 ^ marks s
unfolding count_of filling_number
number_below [] t f = omega arith
number_below (b ∷ s) [] f = absurd (omega (arith, f.size))
number_below (b ∷ s) (c ∷ t) f = go (eqb b 63) refl (number_below s t (rest_fills b c s t f))
  where
    go : (x : Bool) → eqb b 63 ≡ x → filling_number s t < 10 ^ marks s → cond x ((c - 48) * 10 ^ marks s + filling_number s t) (filling_number s t) < 10 ^ cond x (suc (marks s)) (marks s)
    go true e ih = let h = f.digit 0 (omega arith) (eqb-true b 63 e) in rw pow-succ' (digits_lt (omega arith) ih)
    go false e ih = ih

-- a text that fills s is the filling by its number
fill_of_number : (s t : List ℕ) → Fills s t → fill s (filling_number s t) ≡ t
unfolding fill count_of filling_number
fill_of_number [] [] f = refl
fill_of_number [] (c ∷ t) f = absurd (omega (arith, f.size))
fill_of_number (b ∷ s) [] f = absurd (omega (arith, f.size))
fill_of_number (b ∷ s) (c ∷ t) f = go (eqb b 63) refl (fill_of_number s t (rest_fills b c s t f))
  where
    go : (x : Bool) → eqb b 63 ≡ x → fill s (filling_number s t) ≡ t → ◌≡◌ {A = List ℕ} (cond x (48 + (cond x ((c - 48) * 10 ^ marks s + filling_number s t) (filling_number s t) / 10 ^ marks s) % 10) b ∷ fill s (cond x ((c - 48) * 10 ^ marks s + filling_number s t) (filling_number s t))) (c ∷ t)
    go true e ih =
        let h = f.digit 0 (omega arith) (eqb-true b 63 e) in
        rw (fill_rest s (c - 48) (filling_number s t), ih, digits_div (c - 48) (number_below s t (rest_fills b c s t f))) (ap (λ (x : ℕ). x ∷ t) (omega arith))
    go false e ih = rw (ih, f.same 0 (omega arith) (eqb-false b 63 e))

-- every text that fills s is its filling by a number of as many digits as s has marks
pub fill_onto : (s t : List ℕ) → Fills s t → (k : ℕ) × ((k < 10 ^ marks s) × (fill s k ≡ t))
fill_onto s t f = (filling_number s t, (number_below s t f, fill_of_number s t f))

-- a text with no mark stays as it is
pub fill_dry : (s : List ℕ) (k : ℕ) → marks s ≡ 0 → fill s k ≡ s
unfolding fill count_of
fill_dry [] k e = refl
fill_dry (b ∷ s) k e = go (eqb b 63) (fill_dry s k) e
  where
    go : (t : Bool) → (marks s ≡ 0 → fill s k ≡ s) → cond t (suc (marks s)) (marks s) ≡ 0 → cond t (48 + (k / 10 ^ marks s) % 10) b ∷ fill s k ≡ b ∷ s
    go true ih e = absurd (omega arith)
    go false ih e = rw (ih e)
