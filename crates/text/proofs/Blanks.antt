-- Laws of a text's blanks: the text without those at its end.
-- Assumes nothing.
use Rattle.refusal.proofs.Basics.{◌≡◌, refl, sym, ap, arith, ℕ, suc, ◌≤◌, length, List, [], ◌∷◌, ◌++◌, Bool, true, false, cond, ◌&&◌, false≢true, eqb, left}
use Rattle.classes.specs.declared.Class.TheVariants.{Blanks}
use Rattle.text.specs.Bytes.{all_of, trimmed}

-- a text of blanks alone is nothing without them
pub trimmed_blanks : (s : List ℕ) → all_of Blanks s ≡ true → trimmed s ≡ []
unfolding trimmed
trimmed_blanks [] e = refl
trimmed_blanks (b ∷ s) e = rw e

-- another is something
pub trimmed_some : (s : List ℕ) → all_of Blanks s ≡ false → length (trimmed s) ≡ 0 → ⊥
unfolding trimmed all_of
trimmed_some [] e = absurd (false≢true (sym e))
trimmed_some (b ∷ s) e = rw e (λ z. omega arith)

-- all blank with one blank more, exactly when all blank without it
blank_more : (s : List ℕ) → all_of Blanks (s ++ (32 ∷ [])) ≡ all_of Blanks s
unfolding all_of
blank_more [] = refl
blank_more (b ∷ s) = ap (λ (t : Bool). eqb b 32 && t) (blank_more s)

-- one blank more at the end is taken away
pub trimmed_blank : (s : List ℕ) → trimmed (s ++ (32 ∷ [])) ≡ trimmed s
unfolding trimmed all_of
trimmed_blank [] = refl
trimmed_blank (b ∷ s) = rw (blank_more s, trimmed_blank s)

-- x is no blank
module _ (x : ℕ) (h : eqb x 32 ≡ false) where
  -- not all blank
  not_blank : (s : List ℕ) → all_of Blanks (s ++ (x ∷ [])) ≡ false
  unfolding all_of
  not_blank [] = rw h
  not_blank (b ∷ s) = go (eqb b 32) (not_blank s)
    where
      go : (t : Bool) → all_of Blanks (s ++ (x ∷ [])) ≡ false → (t && all_of Blanks (s ++ (x ∷ []))) ≡ false
      go true e = e
      go false e = refl

  -- a text that ends in no blank stays as it is
  pub trimmed_same : (s : List ℕ) → trimmed (s ++ (x ∷ [])) ≡ s ++ (x ∷ [])
  unfolding trimmed all_of
  trimmed_same [] = rw h
  trimmed_same (b ∷ s) = sym (left (eqb b 32 && all_of Blanks (s ++ (x ∷ []))) [] (b ∷ trimmed (s ++ (x ∷ []))) (b ∷ (s ++ (x ∷ []))) (not_blank (b ∷ s)) (ap (λ (l : List ℕ). b ∷ l) (sym (trimmed_same s))))

-- nothing is left of nothing
pub trimmed_of_nothing : (s : List ℕ) → length s ≡ 0 → trimmed s ≡ s
unfolding trimmed
trimmed_of_nothing [] e = refl
trimmed_of_nothing (b ∷ s) e = absurd (omega arith)

-- what is left is no longer than the whole
pub trimmed_shorter : (s : List ℕ) → length (trimmed s) ≤ length s
unfolding trimmed
trimmed_shorter [] = omega arith
trimmed_shorter (b ∷ s) = go (all_of Blanks (b ∷ s)) (trimmed_shorter s)
  where
    go : (t : Bool) → length (trimmed s) ≤ length s → length (cond t [] (b ∷ trimmed s)) ≤ suc (length s)
    go true h = omega arith
    go false h = omega arith
