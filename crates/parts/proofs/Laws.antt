-- What the readers find (specs/Mirror.antt), by whether the text is formed.
-- Assumes nothing.
use Rattle.refusal.proofs.Basics.{◌≡◌, refl, arith, ℕ, zero, suc, ◌≤◌, ◌<◌, length, ne_eqb, le-leb, List, [], ◌∷◌, Bool, true, false, cond, ◌&&◌, and-true, and-false, eqb, leb, eqb-suc-zero, leb-suc-zero}
use Rattle.std.specs.Prelude.{Some, None}
use Rattle.std.specs.Bool.{then_some}
use Rattle.text.specs.Split.{split}
use Rattle.models.specs.declared.Model.{Model}
use Rattle.parts.specs.Parts.{parts_of, parts_fit, formed}
use Rattle.parts.specs.Mirror.{ends_from, ends_of, part_read, count_fits, parts_found}
use Rattle.parts.proofs.Pieces.{Bytes, first_part, fit_solid, formed_short}
use Rattle.parts.proofs.Ends.{parts_span, count_right, ends_some}

-- ---------------------------------------------------------------------------
-- What is found

-- a choice between a number and none
then_choice : (b : Bool) (n : ℕ) → then_some b n ≡ cond b (Some n) None
then_choice true n = refl
then_choice false n = refl

module _ (model : Model) where
  -- no byte is no part
  pub found_empty : (s : List ℕ) → length s ≡ 0 → then_some {T = ℕ} (eqb model.fewest 0) 0 ≡ parts_found model s
  unfolding formed parts_of parts_fit ends_from
  found_empty [] h = rw (le-leb 0 model.most (omega arith), and-true) (go model.fewest)
    where
      go : (n : ℕ) → then_some {T = ℕ} (eqb n 0) 0 ≡ cond (leb n 0) (Some 0) None
      go zero = refl
      go (suc n) = rw (eqb-suc-zero n, leb-suc-zero n)
  found_empty (b ∷ s) h = absurd (omega arith)

  -- the ends that were read, where there are as many parts as the model asks
  pub found_read :
      (s : List ℕ) (ends : ℕ) → (length s ≡ 0 → ⊥) → length s < 1024 → ends ≡ part_read model.lengths 0 (split 45 s) →
      cond (eqb ends 0) None (then_some (count_fits model.fewest model.most ends) ends) ≡ parts_found model s
  unfolding formed parts_of
  found_read [] ends h g e = absurd (h refl)
  found_read (b ∷ s) ends h g e = go (parts_fit model.lengths ps) refl e
    where
      ps : List (List ℕ)
      ps = split 45 (b ∷ s)

      go : (t : Bool) → parts_fit model.lengths ps ≡ t → ends ≡ cond t (ends_from 0 ps) 0 →
          cond (eqb ends 0) None (then_some (count_fits model.fewest model.most ends) ends) ≡ cond (leb model.fewest (length ps) && (leb (length ps) model.most && t)) (Some (ends_from 0 ps)) None
      go true f e =
          let d = (fit_solid model.lengths ps f).1.0 in
          let l = parts_span (b ∷ s) g in
          rw (e, ne_eqb _ 0 (ends_some ps d l (rw (first_part (b ∷ s)).2 (omega arith))), count_right model.fewest model.most ps d l, and-true) (then_choice (leb model.fewest (length ps) && leb (length ps) model.most) (ends_from 0 ps))
      go false f e = rw (e, and-false, and-false)

  module _ (s : List ℕ) where
    -- nothing in a text of more bytes than parts can have
    pub found_far : Bytes model.lengths → length model.lengths ≤ 8 → 1023 < length s → None ≡ parts_found model s
    found_far b n h = go (formed model s) refl
      where
        go : (t : Bool) → formed model s ≡ t → None ≡ cond t (Some (ends_of s)) None
        go true e = absurd (omega (arith, formed_short model s b n e))
        go false e = refl

    -- what is found is formed
    pub found_formed : (ends : ℕ) → Some ends ≡ parts_found model s → (formed model s ≡ true) × (ends ≡ ends_of s)
    found_formed ends e = go (formed model s) refl e
      where
        go : (t : Bool) → formed model s ≡ t → Some ends ≡ cond t (Some (ends_of s)) None → (formed model s ≡ true) × (ends ≡ ends_of s)
        go true f e = (f, cc)
        go false f e = let z : ◌≡◌ {A = ℕ} 0 1 = cc in absurd (omega arith)

    -- where nothing is found the text is not
    pub found_none : None ≡ parts_found model s → formed model s ≡ false
    found_none e = go (formed model s) e
      where
        go : (t : Bool) → None ≡ cond t (Some (ends_of s)) None → t ≡ false
        go true e = let z : ◌≡◌ {A = ℕ} 0 1 = cc in absurd (omega arith)
        go false e = refl
