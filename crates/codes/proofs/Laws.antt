-- Where a number stands in a list, from place i on.
-- Assumes nothing.
use Rattle.refusal.proofs.Basics.{◌≡◌, refl, sym, ap, ◌∙◌, arith, ℕ, suc, ◌+◌, ◌≤◌, ◌<◌, length, drop, get_or, eq-eqb, ne_eqb, eqb-true, List, [], ◌∷◌, Bool, true, false, cond, eqb, drop-cons, drop-length, add-zero, add-one}
use Rattle.std.specs.Prelude.{Option, Some, None}
use Rattle.text.specs.Bytes.{later}
use Rattle.text.proofs.Laws.{shifted, shifted_later}
use Rattle.codes.specs.Codes.{first_in}

-- ---------------------------------------------------------------------------
-- The loop's turns, and its end

module _ (n : ℕ) (s : List ℕ) (i : ℕ) where
  -- another number stands here
  pub search_on : i < length s → (n ≡ get_or s i 0 → ⊥) → shifted i (first_in n (drop i s)) ≡ shifted (i + 1) (first_in n (drop (i + 1) s))
  unfolding first_in
  search_on h e = rw (drop-cons s i 0 h, ne_eqb n (get_or s i 0) e, add-one) (shifted_later i (first_in n (drop (suc i) s)) ∙ rw add-one)

  -- the number stands here
  pub search_stops : i < length s → n ≡ get_or s i 0 → Some i ≡ shifted i (first_in n (drop i s))
  unfolding first_in shifted
  search_stops h e = rw (drop-cons s i 0 h, eq-eqb n (get_or s i 0) e) (ap Some (sym (add-zero i)))

  -- at the end
  pub search_ends : length s ≤ i → i ≤ length s → None ≡ shifted i (first_in n (drop i s))
  unfolding first_in shifted
  search_ends h g = let e : i ≡ length s = omega arith in rw (e, drop-length)

-- ---------------------------------------------------------------------------
-- What stands at the place that was found

-- within the list, the number
pub place_tells : (n : ℕ) (s : List ℕ) (k : ℕ) → first_in n s ≡ Some k → (k < length s) × (get_or s k 0 ≡ n)
unfolding first_in
place_tells n [] k e = let z : ◌≡◌ {A = ℕ} 0 1 = cc in absurd (omega arith)
place_tells n (c ∷ cs) k e = go (eqb n c) (first_in n cs) refl (λ (j : ℕ). place_tells n cs j) e
  where
    go : (t : Bool) (f : Option ℕ) → eqb n c ≡ t → ((j : ℕ) → f ≡ Some j → (j < length cs) × (get_or cs j 0 ≡ n)) → cond t (Some 0) (later f) ≡ Some k → (k < suc (length cs)) × (get_or (c ∷ cs) k 0 ≡ n)
    go true f q h p = let z : k ≡ 0 = cc in rw z (omega arith, sym (eqb-true n c q))
    go false (Some j) q h p =
        let z : k ≡ suc j = cc in
        let w = h j refl in
        rw z (omega arith, w.1)
    go false None q h p = let z : ◌≡◌ {A = ℕ} 0 1 = cc in absurd (omega arith)
