-- Check groups as stretches of the text, in which hyphens do not count: so what `obeys_at` asks of a formed text is what `parts_right` asks of
-- its parts.
-- Assumes nothing.
use Rattle.refusal.proofs.Basics.{◌≡◌, refl, sym, ap, ◌∙◌, arith, ℕ, zero, suc, ◌+◌, ◌-◌, ◌≤◌, ◌<◌, length, take, drop, get_or, length-append, length-take, length-drop, drop_of_length-le, ne_eqb, lt-ltb, ltb-true, ltb-false, List, [], ◌∷◌, ◌++◌, append_assoc, append-nil, Bool, true, false, cond, ◌||◌, eqb, ltb, eqb-suc-zero, take-append-add, get_or-append-add, append_snoc}
use Rattle.text.specs.Digits.{digits_of}
use Rattle.text.specs.Split.{joined}
use Rattle.text.proofs.Laws.{digits_append}
use Rattle.check_digits.specs.declared.Rule.{Rule}
use Rattle.check_digits.specs.CheckDigit.{check_digit, passes}
use Rattle.models.specs.declared.Group.{Group}
use Rattle.models.specs.declared.Model.{Model}
use Rattle.parts.specs.Parts.{parts_of, formed}
use Rattle.parts.specs.Mirror.{ends_from, ends_of, end_of}
use Rattle.parts.proofs.Pieces.{bound, span_of, Solid}
use Rattle.parts.proofs.Ends.{bound_some, end_gone, end_some, solid_take}
use Rattle.stretches.specs.Mirror.{stretch}
use Rattle.stretches.proofs.Laws.{stretch_parts, every_at}
use Rattle.part_contents.proofs.Laws.{contents_at_lem}
use Rattle.groups.specs.Groups.{present, group_right, groups_right, parts_right}
use Rattle.groups.specs.Mirror.{group_at, groups_at, obeys_at}

solid_drop : (k : ℕ) (ps : List (List ℕ)) → Solid ps → Solid (drop k ps)
solid_drop zero ps h = h
solid_drop (suc k) [] h = h
solid_drop (suc k) (p ∷ ps) h = solid_drop k ps h.1

-- ---------------------------------------------------------------------------
-- Hyphens inside a stretch do not count

-- a text passes by the digits of its front, and by what stands behind it
passes_behind : (rule : Rule) (p t : List ℕ) → 0 < length t → passes rule (p ++ t) ≡ eqb (get_or t (length t - 1) 0) (48 + check_digit rule (digits_of p ++ digits_of (take (length t - 1) t)))
unfolding passes
passes_behind rule p t h =
    let n : length (p ++ t) - 1 ≡ length p + (length t - 1) = omega (arith, length-append p t) in
    rw (lt-ltb 0 (length (p ++ t)) (omega (arith, length-append p t)), n, get_or-append-add p t (length t - 1) 0, take-append-add p t (length t - 1), digits_append p (take (length t - 1) t))

-- parts with their hyphens pass where the parts joined do, behind any front
bound_passes : (rule : Rule) (f : List ℕ) (ps : List (List ℕ)) → Solid ps → 0 < length ps → passes rule (f ++ bound ps) ≡ passes rule (f ++ joined ps)
unfolding bound joined digits_of
bound_passes rule f [] s h = absurd (omega arith)
bound_passes rule f (p ∷ []) s h = rw (append-nil p)
bound_passes rule f (p ∷ (q ∷ ps)) s h =
    let b = bound (q ∷ ps) in
    let l = bound_some (q ∷ ps) s.1 (omega arith) in
    let d : digits_of (f ++ p ++ (45 ∷ [])) ≡ digits_of (f ++ p) = digits_append (f ++ p) (45 ∷ []) ∙ append-nil (digits_of (f ++ p)) in
    ap (passes rule) (sym (append_assoc f p (45 ∷ b)) ∙ sym (append_snoc (f ++ p) 45 b))
    ∙ passes_behind rule (f ++ p ++ (45 ∷ [])) b l
    ∙ rw d (sym (passes_behind rule (f ++ p) b l))
    ∙ bound_passes rule (f ++ p) (q ∷ ps) s.1 (omega arith)
    ∙ ap (passes rule) (append_assoc f p (joined (q ∷ ps)))

-- ---------------------------------------------------------------------------
-- Groups

-- a group of parts that are there passes
group_there : (g : Group) (ps : List (List ℕ)) → Solid ps → 0 < length ps → passes g.rule (bound ps) ≡ group_right g ps
unfolding group_right
group_there g [] s h = absurd (omega arith)
group_there g (p ∷ ps) s h = bound_passes g.rule [] (p ∷ ps) s h

-- a group is right where its stretch is
group_right_lem : (g : Group) (ps : List (List ℕ)) → Solid ps → span_of ps ≤ 1024 → group_at g (ends_from 0 ps) (bound ps) ≡ group_right g (present g ps)
unfolding group_right
group_right_lem g ps s h = go g.skipped g.joins
  where
    go : (k j : ℕ) →
        cond (eqb j 0 || eqb (end_of k (ends_from 0 ps)) 0) true (passes g.rule (stretch k (k + j - 1) (ends_from 0 ps) (bound ps)))
        ≡ group_right g (take j (drop k ps))
    go k zero = refl
    go k (suc j) = there (ltb k (length ps)) refl
      where
        there : (b : Bool) → ltb k (length ps) ≡ b →
            cond (eqb (suc j) 0 || eqb (end_of k (ends_from 0 ps)) 0) true (passes g.rule (stretch k (k + suc j - 1) (ends_from 0 ps) (bound ps)))
            ≡ group_right g (take (suc j) (drop k ps))
        there true e =
            let l = ltb-true k (length ps) e in
            let x : k + suc j - 1 ≡ k + j = omega arith in
            rw (eqb-suc-zero j, ne_eqb _ 0 (end_some k 0 ps s (omega arith) l), x, stretch_parts k j ps s h l)
            (group_there g (take (suc j) (drop k ps)) (solid_take (suc j) (drop k ps) (solid_drop k ps s)) (omega (arith, length-take (suc j) (drop k ps), length-drop k ps)))
        there false e =
            let l = ltb-false k (length ps) e in
            rw (eqb-suc-zero j, end_gone k 0 ps l (omega arith), drop_of_length-le ps l)

-- ---------------------------------------------------------------------------
-- Of a formed text, what is asked by the ends of its parts is what is asked of its parts

module _ (model : Model) (s : List ℕ) (h : length s < 1024) (e : formed model s ≡ true) where
  -- of its groups
  pub groups_at_lem : groups_at model.groups (ends_of s) s ≡ groups_right model.groups (parts_of s)
  groups_at_lem = every_at group_at (λ (g : Group) (ps : List (List ℕ)). group_right g (present g ps)) group_right_lem model s h e model.groups

  -- of all
  pub obeys_at_lem : obeys_at model (ends_of s) s ≡ parts_right model (parts_of s)
  unfolding obeys_at
  obeys_at_lem = rw (contents_at_lem model s h e, groups_at_lem)
