-- Which parts a stretch of a text is: where solid parts, with hyphens between them, are the text, a stretch is the parts from its first on.
-- Assumes nothing.
use Rattle.refusal.proofs.Basics.{◌≡◌, refl, sym, ap, ◌∙◌, arith, ℕ, zero, suc, ◌+◌, ◌-◌, ◌≤◌, ◌<◌, length, take, drop, length-append, length-take, ne_eqb, le-leb, ltb-true, ltb-false, List, [], ◌∷◌, ◌++◌, Bool, true, false, cond, eqb, ltb, eqb-suc-zero, take_all, take-length, take-append_seam, take-append-add, drop-append-add, drop-drop, zero-add, suc-add}
use Rattle.text.proofs.Laws.{to_the_end}
use Rattle.parts.specs.Parts.{parts_of, formed}
use Rattle.parts.specs.Mirror.{ends_from, ends_of, end_of}
use Rattle.parts.proofs.Pieces.{bound, span_of, Solid, bound_parts, formed_solid}
use Rattle.parts.proofs.Ends.{end_gone, end_next, end_some, end_there, parts_span}
use Rattle.models.specs.declared.Model.{Model}
use Rattle.models.specs.Every.{every}
use Rattle.models.proofs.Every.{every_same}
use Rattle.stretches.specs.Mirror.{up_to, stretch}

-- the first parts stand at the front
bound_front : (k : ℕ) (ps : List (List ℕ)) → take (length (bound (take (suc k) ps))) (bound ps) ≡ bound (take (suc k) ps)
unfolding bound
bound_front k [] = refl
bound_front zero (p ∷ []) = take-length p
bound_front zero (p ∷ (q ∷ ps)) = take-append_seam p (45 ∷ bound (q ∷ ps))
bound_front (suc k) (p ∷ []) = take-length p
bound_front (suc k) (p ∷ (q ∷ ps)) =
    rw (length-append p (45 ∷ bound (q ∷ take k ps)), take-append-add p (45 ∷ bound (q ∷ ps)))
    (ap (λ (l : List ℕ). p ++ (45 ∷ l)) (bound_front k (q ∷ ps)))

-- a text from a byte a up to a byte e is parts with their hyphens
record Stretch (t : List ℕ) (a e : ℕ) (ps : List (List ℕ)) : Type 0 where
  forward : a ≤ e
  within : e ≤ length t
  content : take (e - a) (drop a t) ≡ bound ps

-- a part behind another begins where it does without it
start_next :
    (k at : ℕ) (p : List ℕ) (ps : List (List ℕ)) → at + length p < 1024 →
    cond (eqb (suc k) 0) at (end_of (suc k - 1) (ends_from at (p ∷ ps)) + 1) ≡ cond (eqb k 0) (at + length p + 1) (end_of (k - 1) (ends_from (at + length p + 1) ps) + 1)
unfolding ends_from
start_next zero at p ps h = omega arith
start_next (suc k) at p ps h =
    let x : suc (suc k) - 1 ≡ suc k = omega arith in
    let y : suc k - 1 ≡ k = omega arith in
    rw (x, y, eqb-suc-zero (suc k), eqb-suc-zero k, end_next k (at + length p) (ends_from (at + length p + 1) ps) h)

-- parts from the k-th on, of a text in which they begin at a byte
stretched :
    (k j at : ℕ) (ps : List (List ℕ)) (t : List ℕ) → k < length ps → at + span_of ps ≤ 1024 → Solid ps → drop at t ≡ bound ps → length t ≡ at + length (bound ps) →
    Stretch t (cond (eqb k 0) at (end_of (k - 1) (ends_from at ps) + 1)) (up_to (end_of (k + j) (ends_from at ps)) t) (take (suc j) (drop k ps))
unfolding ends_from span_of bound
stretched zero j at ps t h g s d n = rw (zero-add j) (go (ltb j (length ps)) refl)
  where
    go : (b : Bool) → ltb j (length ps) ≡ b → Stretch t at (up_to (end_of j (ends_from at ps)) t) (take (suc j) ps)
    go true e =
        let l = ltb-true j (length ps) e in
        let x = length (bound (take (suc j) ps)) in
        let y : at + x - at ≡ x = omega arith in
        let f = bound_front j ps in
        rw (ne_eqb _ 0 (end_some j at ps s g l), end_there j at ps l g)
        (record { forward = omega arith; within = omega (arith, ap length f, length-take x (bound ps)); content = rw (y, d) f })
    go false e =
        let l = ltb-false j (length ps) e in
        rw (end_gone j at ps l g)
        (record { forward = omega arith; within = omega arith; content = to_the_end at t ∙ d ∙ ap bound (sym (take_all (suc j) ps (omega arith))) })
stretched (suc k) j at [] t h g s d n = absurd (omega arith)
stretched (suc k) j at (p ∷ []) t h g s d n = absurd (omega arith)
stretched (suc k) j at (p ∷ (q ∷ ps)) t h g s d n =
    let m : at + length p + 1 ≡ at + (length p + 1) = omega arith in
    let d' : drop (at + length p + 1) t ≡ bound (q ∷ ps) = rw m (sym (drop-drop (length p + 1) at t) ∙ ap (drop (length p + 1)) d ∙ drop-append-add p (45 ∷ bound (q ∷ ps)) 1) in
    rw (start_next k at p (q ∷ ps) (omega arith), suc-add k j, end_next (k + j) (at + length p) (ends_from (at + length p + 1) (q ∷ ps)) (omega arith))
    (stretched k j (at + length p + 1) (q ∷ ps) t (omega arith) (omega arith) s.1 d' (omega (arith, length-append p (45 ∷ bound (q ∷ ps)))))

-- from a part that is there on, a stretch of a text is its parts with their hyphens
pub stretch_parts :
    (k j : ℕ) (ps : List (List ℕ)) → Solid ps → span_of ps ≤ 1024 → k < length ps →
    stretch k (k + j) (ends_from 0 ps) (bound ps) ≡ bound (take (suc j) (drop k ps))
unfolding stretch
stretch_parts k j ps s h l =
    let w = stretched k j 0 ps (bound ps) l (omega arith) s refl (omega arith) in
    rw (le-leb _ _ w.forward, le-leb _ _ w.within, w.content)

-- what f asks of a text by the ends of its parts is what g asks of its parts: if so of any solid parts, then of a formed text, for each of a list
pub every_at :
    {A : Type 0} (f : A → ℕ → List ℕ → Bool) (g : A → List (List ℕ) → Bool) →
    ((x : A) (ps : List (List ℕ)) → Solid ps → span_of ps ≤ 1024 → f x (ends_from 0 ps) (bound ps) ≡ g x ps) →
    (model : Model) (s : List ℕ) → length s < 1024 → formed model s ≡ true → (xs : List A) →
    every (λ (x : A). f x (ends_of s) s) xs ≡ every (λ (x : A). g x (parts_of s)) xs
every_at {A} f g same model s h e xs =
    every_same (λ (x : A). f x (ends_of s) s) (λ (x : A). g x (parts_of s))
    (λ x. ap (f x (ends_of s)) (sym (bound_parts s)) ∙ same x (parts_of s) (formed_solid model s e) (parts_span s h)) xs
