-- Laws of lists written at a place of a lent slice, one behind the other.
-- Assumes nothing.
use Rattle.refusal.proofs.Basics.{◌≡◌, refl, ap, ◌∙◌, arith, ℕ, suc, ◌+◌, ◌≤◌, length, drop, set, length-append, List, [], ◌∷◌, ◌++◌, sets, sets-eq, length-sets, add-zero, zero-add}
use Rattle.text.specs.Stands.{Stands}

-- two lists, one behind the other
pub sets_append : (l : List ℕ) (i : ℕ) (xs ys : List ℕ) → sets (sets l i xs) (i + length xs) ys ≡ sets l i (xs ++ ys)
sets_append l i [] ys = rw add-zero
sets_append l i (x ∷ xs) ys = let e : i + suc (length xs) ≡ suc i + length xs = omega arith in rw e (sets_append (set l i x) (suc i) xs ys)

-- nothing was written
pub stands_none : (b : List ℕ) (at : ℕ) → Stands b at [] at b
stands_none b at = record { counted = omega arith; content = refl }

-- one list was written behind another
pub stands_append : {b b₁ b₂ xs ys : List ℕ} {at n₁ n₂ : ℕ} → Stands b at xs n₁ b₁ → Stands b₁ n₁ ys n₂ b₂ → Stands b at (xs ++ ys) n₂ b₂
stands_append {b} {b₁} {b₂} {xs} {ys} {at} {n₁} {n₂} v w =
    record {
      counted = omega (arith, length-append xs ys, v.counted, w.counted);
      content = w.content ∙ rw (v.content, v.counted) (sets_append b at xs ys);
    }

-- the lent slice keeps its length
pub stands_length : {b after xs : List ℕ} {at next : ℕ} → Stands b at xs next after → length after ≡ length b
stands_length {b} {after} {xs} {at} w = ap length w.content ∙ length-sets b at xs

-- a list at the front, what is beyond it as it was
pub front_stands : (b after xs : List ℕ) (n : ℕ) → Stands b 0 xs n after → length xs ≤ length b → after ≡ xs ++ drop (length xs) b
front_stands b after xs n w h = w.content ∙ sets-eq xs b 0 (omega arith) ∙ rw zero-add
