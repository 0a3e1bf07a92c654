-- What parts hold, by where they end in a formed text, is what its parts hold.
-- Assumes nothing.
use Rattle.refusal.proofs.Basics.{◌≡◌, refl, sym, ap, ◌∙◌, arith, ℕ, zero, suc, ◌-◌, ◌≤◌, ◌<◌, length, drop, drop_of_length-le, le-leb, lt-leb, ltb-true, ltb-false, List, [], ◌∷◌, Bool, true, false, ◌||◌, eqb, leb, ltb, drop-cons, add-zero}
use Rattle.models.specs.declared.Asked.{Asked}
use Rattle.models.specs.declared.Model.{Model}
use Rattle.models.specs.Every.{every}
use Rattle.parts.specs.Parts.{parts_of, formed}
use Rattle.parts.specs.Mirror.{ends_from, ends_of}
use Rattle.parts.proofs.Pieces.{bound, span_of, Solid, formed_solid}
use Rattle.parts.proofs.Ends.{count_ends, parts_span}
use Rattle.stretches.specs.Mirror.{stretch}
use Rattle.stretches.proofs.Laws.{stretch_parts, every_at}
use Rattle.part_contents.specs.Contents.{holds, first_holds, asked_right, contents_right}
use Rattle.part_contents.specs.Mirror.{asked_at, contents_at}

-- a part that is there is its stretch
part_stretch : (k : ℕ) (ps : List (List ℕ)) → Solid ps → span_of ps ≤ 1024 → (p : List ℕ) (qs : List (List ℕ)) → drop k ps ≡ p ∷ qs → k < length ps → stretch k k (ends_from 0 ps) (bound ps) ≡ p
unfolding bound
part_stretch k ps s h p qs e l =
    ap (λ (last : ℕ). stretch k last (ends_from 0 ps) (bound ps)) (sym (add-zero k)) ∙ stretch_parts k 0 ps s h l ∙ rw e

-- so it holds what its stretch does; with none there nothing is asked
asked_right_lem : (a : Asked) (ps : List (List ℕ)) → Solid ps → span_of ps ≤ 1024 → asked_at a (ends_from 0 ps) (bound ps) ≡ asked_right a ps
unfolding first_holds
asked_right_lem a ps s h = rw (count_ends a.skipped ps s h) (go a.skipped (ltb a.skipped (length ps)) refl)
  where
    go : (k : ℕ) (b : Bool) → ltb k (length ps) ≡ b → (leb (length ps) k || holds a.content (stretch k k (ends_from 0 ps) (bound ps))) ≡ first_holds a.content (drop k ps)
    go k true e =
        let l = ltb-true k (length ps) e in
        let d = drop-cons ps k [] l in
        rw (lt-leb (length ps) k l, part_stretch k ps s h _ _ d l, d)
    go k false e = let l = ltb-false k (length ps) e in rw (le-leb (length ps) k l, drop_of_length-le ps l)

-- fewer than n are no more than those before the n-th
fewer : (m n : ℕ) → leb m n ≡ ltb m (suc n)
fewer m n = go (ltb m (suc n)) refl
  where
    go : (b : Bool) → ltb m (suc n) ≡ b → leb m n ≡ b
    go true e = let l = ltb-true m (suc n) e in le-leb m n (omega arith)
    go false e = let l = ltb-false m (suc n) e in lt-leb m n (omega arith)

-- all that is asked
pub contents_at_lem : (model : Model) (s : List ℕ) → length s < 1024 → formed model s ≡ true → contents_at model (ends_of s) s ≡ contents_right model (parts_of s)
contents_at_lem model s h e =
    rw (count_ends (model.from - 1) (parts_of s) (formed_solid model s e) (parts_span s h), every_at asked_at asked_right asked_right_lem model s h e model.asked)
    (go model.from (every (λ (a : Asked). asked_right a (parts_of s)) model.asked))
  where
    go : (n : ℕ) (b : Bool) → (eqb n 0 || (leb (length (parts_of s)) (n - 1) || b)) ≡ (eqb n 0 || (ltb (length (parts_of s)) n || b))
    go zero b = refl
    go (suc n) b = let x : suc n - 1 ≡ n = omega arith in rw (x, fewer (length (parts_of s)) n)
