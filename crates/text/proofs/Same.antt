-- Laws of two texts that are the same bytes.
-- Assumes nothing.
use Rattle.refusal.proofs.Basics.{◌≡◌, refl, arith, ℕ, eqb-true, List, [], ◌∷◌, true, eqb, both_true}
use Rattle.text.specs.Bytes.{same}

-- texts that are the same bytes are one text
pub same_equal : (w s : List ℕ) → same w s ≡ true → s ≡ w
same_equal [] [] e = refl
same_equal [] (b ∷ s) e = let z : ◌≡◌ {A = ℕ} 0 1 = cc in absurd (omega arith)
same_equal (a ∷ w) [] e = let z : ◌≡◌ {A = ℕ} 0 1 = cc in absurd (omega arith)
same_equal (a ∷ w) (b ∷ s) e =
    let h = both_true (eqb a b) (same w s) e in
    let p = eqb-true a b h.0 in
    let q = same_equal w s h.1 in
    cc
