-- What holds of every listing, over any rule p and any text s: it has every accepted filling and no other, ascending, each once, and as many
-- as there are; a rule that agrees on the fillings of s lists the same. (That the fillings of s are the texts that fill it: filling/proofs/Theorems.antt.)
-- Assumes nothing.
use Rattle.refusal.proofs.Basics.{◌≡◌, refl, sym, ap, ◌∙◌, arith, ℕ, zero, suc, ◌+◌, ◌^◌, ◌≤◌, ◌<◌, length, get_or, length-append, eqb-true, eqb-false, ltb-true, ltb-false, List, [], ◌∷◌, ◌++◌, Bool, true, false, cond, eqb, ltb, zero-add, zero-mul, inl, inr, ⊎_elim, add-one}
use Rattle.text.specs.Bytes.{marks}
use Rattle.filling.specs.Filling.{fill}
use Rattle.fillings.specs.Mirror.{between}
use Rattle.fillings.specs.Fillings.{among, fillings}
use Rattle.fillings.specs.Listing.{Member, Ascending, accepted_below}
use Rattle.fillings.proofs.Laws.{among_append, among_ext, block_dry}

-- ---------------------------------------------------------------------------
-- The accepted numbers of a range: complete, sound, ascending

-- what stands in a list stands in it behind one number more
member_behind : (b : Bool) (k x : ℕ) (xs : List ℕ) → Member k xs → Member k (cond b (x ∷ xs) xs)
unfolding Member
member_behind true k x xs m = inr m
member_behind false k x xs m = m

-- every accepted number of the range is listed
among_complete : (q : ℕ → Bool) (a n k : ℕ) → a ≤ k → k < a + n → q k ≡ true → Member k (among q a n)
unfolding among Member
among_complete q a zero k l u e = absurd (omega arith)
among_complete q a (suc n) k l u e = go (eqb k a) refl (among_complete q (suc a) n k)
  where
    go : (t : Bool) → eqb k a ≡ t → (suc a ≤ k → k < suc a + n → q k ≡ true → Member k (among q (suc a) n)) → Member k (cond (q a) (a ∷ among q (suc a) n) (among q (suc a) n))
    go true g ih = let z : k ≡ a = eqb-true k a g in rw (← z, e) (inl refl)
    go false g ih = let z : k ≡ a → ⊥ = eqb-false k a g in member_behind (q a) k a (among q (suc a) n) (ih (omega arith) (omega arith) e)

-- what is listed is an accepted number of the range
among_sound : (q : ℕ → Bool) (a n k : ℕ) → Member k (among q a n) → (a ≤ k) × ((k < a + n) × (q k ≡ true))
unfolding among Member
among_sound q a zero k m = absurd m
among_sound q a (suc n) k m = go (q a) refl (among_sound q (suc a) n k) m
  where
    wider : (suc a ≤ k) × ((k < suc a + n) × (q k ≡ true)) → (a ≤ k) × ((k < a + suc n) × (q k ≡ true))
    wider h = (omega arith, (omega arith, h.1.1))

    go : (t : Bool) → q a ≡ t → (Member k (among q (suc a) n) → (suc a ≤ k) × ((k < suc a + n) × (q k ≡ true))) → Member k (cond t (a ∷ among q (suc a) n) (among q (suc a) n)) → (a ≤ k) × ((k < a + suc n) × (q k ≡ true))
    go true g ih m = ⊎_elim (λ (e : k ≡ a). (omega arith, (omega arith, ap q e ∙ g))) (λ h. wider (ih h)) m
    go false g ih m = wider (ih m)

-- every entry is in the range
among_above : (q : ℕ → Bool) (a n i : ℕ) → i < length (among q a n) → a ≤ get_or (among q a n) i 0
unfolding among
among_above q a zero i h = absurd (omega arith)
among_above q a (suc n) i h = go (q a) i (among_above q (suc a) n) h
  where
    go : (t : Bool) (i : ℕ) → ((j : ℕ) → j < length (among q (suc a) n) → suc a ≤ get_or (among q (suc a) n) j 0) → i < length (cond t (a ∷ among q (suc a) n) (among q (suc a) n)) → a ≤ get_or (cond t (a ∷ among q (suc a) n) (among q (suc a) n)) i 0
    go true zero ih h = omega arith
    go true (suc i) ih h = omega (arith, ih i (omega arith))
    go false i ih h = omega (arith, ih i h)

-- the numbers of a range ascend
among_ascending : (q : ℕ → Bool) (a n : ℕ) → Ascending (among q a n)
unfolding among
among_ascending q a zero i h = absurd (omega arith)
among_ascending q a (suc n) i h = go (q a) i (among_ascending q (suc a) n) h
  where
    go : (t : Bool) (i : ℕ) → Ascending (among q (suc a) n) → suc i < length (cond t (a ∷ among q (suc a) n) (among q (suc a) n)) → get_or (cond t (a ∷ among q (suc a) n) (among q (suc a) n)) i 0 < get_or (cond t (a ∷ among q (suc a) n) (among q (suc a) n)) (suc i) 0
    go true zero ih h = among_above q (suc a) n 0 (omega arith)
    go true (suc i) ih h = ih i (omega arith)
    go false i ih h = ih i h

-- the last number of a range
among_last : (q : ℕ → Bool) (a n : ℕ) → among q a (suc n) ≡ among q a n ++ cond (q (a + n)) ((a + n) ∷ []) []
unfolding among
among_last q a n = ap (among q a) (sym (add-one n)) ∙ among_append q a n 1

-- a list, and one number more or none
length_last : (b : Bool) (x : ℕ) (xs : List ℕ) → length (xs ++ cond b (x ∷ []) []) ≡ cond b (suc (length xs)) (length xs)
length_last true x xs = length-append xs (x ∷ []) ∙ omega arith
length_last false x xs = length-append xs [] ∙ omega arith

-- a range has as many as are accepted
among_counted : (q : ℕ → Bool) (n : ℕ) → length (among q 0 n) ≡ accepted_below q n
unfolding accepted_below
among_counted q zero = unfold among in refl
among_counted q (suc n) = rw (among_last q 0 n, length_last (q (0 + n)) (0 + n) (among q 0 n), zero-add, among_counted q n)

-- ---------------------------------------------------------------------------
-- Lists that ascend

-- an earlier place holds a smaller number
ascending_below : (xs : List ℕ) → Ascending xs → (i j : ℕ) → i < j → j < length xs → get_or xs i 0 < get_or xs j 0
ascending_below xs up i zero l u = absurd (omega arith)
ascending_below xs up i (suc j) l u = go (eqb i j) refl (ascending_below xs up i j)
  where
    go : (t : Bool) → eqb i j ≡ t → (i < j → j < length xs → get_or xs i 0 < get_or xs j 0) → get_or xs i 0 < get_or xs (suc j) 0
    go true g ih = let z : i ≡ j = eqb-true i j g in rw z (up j u)
    go false g ih = let z : i ≡ j → ⊥ = eqb-false i j g in omega (arith, ih (omega arith) (omega arith), up j u)

-- two places hold two numbers
pub ascending_once : (xs : List ℕ) → Ascending xs → (i j : ℕ) → i < length xs → j < length xs → (i ≡ j → ⊥) → get_or xs i 0 ≡ get_or xs j 0 → ⊥
ascending_once xs up i j h g ne e = go (ltb i j) refl
  where
    go : (t : Bool) → ltb i j ≡ t → ⊥
    go true z = let l : i < j = ltb-true i j z in omega (arith, ascending_below xs up i j l g)
    go false z = let l : j ≤ i = ltb-false i j z in omega (arith, ascending_below xs up j i (omega arith) h)

-- ---------------------------------------------------------------------------
-- The listing

module _ (p : List ℕ → Bool) (s : List ℕ) where
  -- every accepted filling is listed
  pub complete : (k : ℕ) → k < 10 ^ marks s → p (fill s k) ≡ true → Member k (fillings p s)
  unfolding fillings
  complete k h e = among_complete (λ (k : ℕ). p (fill s k)) 0 (10 ^ marks s) k (omega arith) (omega arith) e

  -- and nothing else
  pub sound : (k : ℕ) → Member k (fillings p s) → (k < 10 ^ marks s) × (p (fill s k) ≡ true)
  unfolding fillings
  sound k m = let h = among_sound (λ (k : ℕ). p (fill s k)) 0 (10 ^ marks s) k m in (omega arith, h.1.1)

  -- in ascending order
  pub ascending : Ascending (fillings p s)
  unfolding fillings
  ascending = among_ascending (λ (k : ℕ). p (fill s k)) 0 (10 ^ marks s)

  -- each once
  pub once : (i j : ℕ) → i < length (fillings p s) → j < length (fillings p s) → (i ≡ j → ⊥) → get_or (fillings p s) i 0 ≡ get_or (fillings p s) j 0 → ⊥
  once = ascending_once (fillings p s) ascending

  -- as many as there are
  pub counted : length (fillings p s) ≡ accepted_below (λ (k : ℕ). p (fill s k)) (10 ^ marks s)
  unfolding fillings
  counted = among_counted (λ (k : ℕ). p (fill s k)) (10 ^ marks s)

-- a rule that agrees on the fillings of s lists the same
pub changed_rule : (p p' : List ℕ → Bool) (s : List ℕ) → ((k : ℕ) → k < 10 ^ marks s → p (fill s k) ≡ p' (fill s k)) → fillings p s ≡ fillings p' s
unfolding fillings
changed_rule p p' s h = among_ext (λ (k : ℕ). p (fill s k)) (λ (k : ℕ). p' (fill s k)) 0 (10 ^ marks s) (λ k l u. h k (omega arith))

-- "No mark: the number 0 if the text is accepted, else nothing"
pub no_mark_listed : (p : List ℕ → Bool) (s : List ℕ) → marks s ≡ 0 → fillings p s ≡ cond (p s) (0 ∷ []) []
unfolding fillings between
no_mark_listed p s e = rw zero-mul at (block_dry p s 0 e)
