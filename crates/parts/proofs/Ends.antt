-- The ends of parts unpacked (specs/Mirror.antt): where each part ends, and how many there are.
-- Assumes nothing.
use Rattle.refusal.proofs.Basics.{◌≡◌, refl, sym, ap, ◌∙◌, arith, ℕ, zero, suc, ◌+◌, ◌*◌, ◌-◌, ◌/◌, ◌≤◌, ◌<◌, ◌^◌, length, take, length-append, length-take, ne_eqb, le-leb, lt-leb, ltb-true, ltb-false, leb-true, leb-false, List, [], ◌∷◌, Bool, true, false, not, ◌&&◌, and-true, and-false, eqb, leb, ltb, eqb-suc-zero, leb-zero, pow-succ', zero-div, div-div-eq-div-mul}
use Rattle.parts.specs.Parts.{parts_of}
use Rattle.parts.specs.Mirror.{ends_from, end_of, count_fits}
use Rattle.parts.proofs.Pieces.{bound, span_of, Solid, short_span}

-- ---------------------------------------------------------------------------
-- The ends, unpacked

-- the ends behind the first
pub end_next : (k a x : ℕ) → a < 1024 → end_of (suc k) (a + 1024 * x) ≡ end_of k x
end_next k a x h =
    let e : (a + 1024 * x) / 1024 ≡ x = omega arith in
    rw (pow-succ' 1024 k, ← (div-div-eq-div-mul (a + 1024 * x) 1024 (1024 ^ k)), e)

-- a part ends where it does
pub end_there : (k at : ℕ) (ps : List (List ℕ)) → k < length ps → at + span_of ps ≤ 1024 → end_of k (ends_from at ps) ≡ at + length (bound (take (suc k) ps))
unfolding ends_from span_of bound
end_there k at [] h g = absurd (omega arith)
end_there zero at (p ∷ ps) h g = omega arith
end_there (suc k) at (p ∷ []) h g = absurd (omega arith)
end_there (suc k) at (p ∷ (q ∷ ps)) h g =
    end_next k (at + length p) _ (omega arith) ∙ end_there k (at + length p + 1) (q ∷ ps) (omega arith) (omega arith)
    ∙ rw (length-append p (45 ∷ bound (q ∷ take k ps))) (omega arith)

-- a part that is not there has no end
pub end_gone : (k at : ℕ) (ps : List (List ℕ)) → length ps ≤ k → at + span_of ps ≤ 1024 → end_of k (ends_from at ps) ≡ 0
unfolding ends_from span_of
end_gone k at [] h g = rw (zero-div (1024 ^ k))
end_gone zero at (p ∷ ps) h g = absurd (omega arith)
end_gone (suc k) at (p ∷ ps) h g = end_next k (at + length p) _ (omega arith) ∙ end_gone k (at + length p + 1) ps (omega arith) (omega arith)

-- solid parts have bytes
pub bound_some : (ps : List (List ℕ)) → Solid ps → 0 < length ps → 0 < length (bound ps)
unfolding bound
bound_some [] s h = absurd (omega arith)
bound_some (p ∷ []) s h = s.0
bound_some (p ∷ (q ∷ ps)) s h = rw (length-append p (45 ∷ bound (q ∷ ps))) (omega arith)

pub solid_take : (k : ℕ) (ps : List (List ℕ)) → Solid ps → Solid (take k ps)
solid_take zero ps h = tt
solid_take (suc k) [] h = h
solid_take (suc k) (p ∷ ps) h = (h.0, solid_take k ps h.1)

-- the end of part k is some byte, where it is there
pub end_some : (k at : ℕ) (ps : List (List ℕ)) → Solid ps → at + span_of ps ≤ 1024 → k < length ps → end_of k (ends_from at ps) ≡ 0 → ⊥
end_some k at ps s g h e = omega (arith, end_there k at ps h g, bound_some (take (suc k) ps) (solid_take (suc k) ps s) (omega (arith, length-take (suc k) ps)))

-- the parts of a short text have room for their ends
pub parts_span : (s : List ℕ) → length s < 1024 → span_of (parts_of s) ≤ 1024
unfolding parts_of span_of
parts_span [] h = omega arith
parts_span (b ∷ s) h = omega (arith, short_span (b ∷ s) 0 (omega arith))

-- ---------------------------------------------------------------------------
-- The number of parts

-- there is no part k where there are no more than k
pub count_ends : (k : ℕ) (ps : List (List ℕ)) → Solid ps → span_of ps ≤ 1024 → eqb (end_of k (ends_from 0 ps)) 0 ≡ leb (length ps) k
count_ends k ps s h = go (ltb k (length ps)) refl
  where
    go : (b : Bool) → ltb k (length ps) ≡ b → eqb (end_of k (ends_from 0 ps)) 0 ≡ leb (length ps) k
    go true e = let l = ltb-true k (length ps) e in ne_eqb _ 0 (end_some k 0 ps s (omega arith) l) ∙ sym (lt-leb (length ps) k l)
    go false e = let l = ltb-false k (length ps) e in rw (end_gone k 0 ps l (omega arith), le-leb (length ps) k l)

-- as many as a model asks
pub count_right : (fewest most : ℕ) (ps : List (List ℕ)) → Solid ps → span_of ps ≤ 1024 → count_fits fewest most (ends_from 0 ps) ≡ (leb fewest (length ps) && leb (length ps) most)
count_right zero most ps s h = rw (count_ends most ps s h, leb-zero (length ps)) (and-true (leb (length ps) most))
count_right (suc n) most ps s h =
    let x : suc n - 1 ≡ n = omega arith in
    rw (x, count_ends most ps s h, count_ends n ps s h, eqb-suc-zero n) (go (leb (length ps) n) refl)
  where
    go : (b : Bool) → leb (length ps) n ≡ b → (leb (length ps) most && not b) ≡ (leb (suc n) (length ps) && leb (length ps) most)
    go true e = let l = leb-true (length ps) n e in rw (lt-leb (suc n) (length ps) (omega arith)) (and-false (leb (length ps) most))
    go false e = let l = leb-false (length ps) n e in rw (le-leb (suc n) (length ps) l) (and-true (leb (length ps) most))

-- parts that are solid have ends
pub ends_some : (ps : List (List ℕ)) → Solid ps → span_of ps ≤ 1024 → 0 < length ps → ends_from 0 ps ≡ 0 → ⊥
ends_some ps s h g e = end_some 0 0 ps s (omega arith) g (ap (end_of 0) e)
