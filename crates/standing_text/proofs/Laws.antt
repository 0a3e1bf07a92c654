-- What asking for a standing text answers, by what reading both sheets found.
-- Assumes nothing.
use Rattle.refusal.proofs.Basics.{◌≡◌, refl, sym, ap, ◌∙◌, arith, ℕ, ◌≤◌, ◌<◌, length, drop, take, take-nil, drop_of_length-le, List, [], true, false, cond, eqb, eqb-true, Bool}
use Rattle.std.specs.Prelude.{Ok, Err}
use Rattle.refusal.specs.declared.Refusal.{Refusal}
use Rattle.refusal.specs.Refusal.{none}
use Rattle.refusal.proofs.Theorems.{refused_not_accepted}
use Rattle.sheet.specs.Sheet.{is_standing, bad_line}
use Rattle.sheet.specs.Mirror.{lines_of, held_in}
use Rattle.sheet.proofs.Tables.{bad_told, held_told}
use Rattle.standing_text.specs.declared.Sheet.{Sheet}
use Rattle.standing_text.specs.declared.Judged.{Judged}
use Rattle.standing_text.specs.Standing.{no_part, malformed_in, sheets_judged, supplied_by, both_judged, standing_of}

-- ---------------------------------------------------------------------------
-- Both sheets

-- neither has a malformed line where both are accepted
pub neither_bad : (f a : ℕ) → (sheets_judged f a).answer ≡ Ok tt → (f ≡ 0) × (a ≡ 0)
unfolding sheets_judged
neither_bad f a e = go (eqb f 0) (eqb a 0) refl refl e
  where
    go :
        (t u : Bool) → eqb f 0 ≡ t → eqb a 0 ≡ u
        → (cond t (cond u (record { sheet = Sheet.Neither; answer = Ok tt }) (malformed_in Sheet.Association a)) (malformed_in Sheet.Farm f)).answer ≡ Ok tt
        → (f ≡ 0) × (a ≡ 0)
    go true true x y h = (eqb-true f 0 x, eqb-true a 0 y)
    go true false x y h = absurd (refused_not_accepted _ h)
    go false u x y h = absurd (refused_not_accepted _ h)

-- judged by what reading both found
pub found_judged : (farm association : List ℕ) (j : Judged) → j ≡ sheets_judged (lines_of farm).bad (lines_of association).bad → j ≡ both_judged farm association
found_judged farm association j e = e ∙ rw (bad_told farm, bad_told association)

-- ---------------------------------------------------------------------------
-- The text of a field

module _ (n : ℕ) (farm association : List ℕ) where
  -- 28
  pub not_standing : is_standing n ≡ false → record { sheet = Sheet.Neither; answer = Err (Refusal.Field none); part = no_part } ≡ standing_of n farm association
  unfolding standing_of
  not_standing e = rw e

  module _ (standing : is_standing n ≡ true) (j : Judged) (judged : j ≡ both_judged farm association) where
    -- 20
    pub sheets_refused : (r : Refusal) → j.answer ≡ Err r → record { sheet = j.sheet; answer = Err r; part = no_part } ≡ standing_of n farm association
    unfolding standing_of
    sheets_refused r e = rw (standing, ← judged, e)

    -- both right: the farm's text, else the association's
    pub sheets_right : j.answer ≡ Ok tt → supplied_by (held_in (lines_of farm) n) (held_in (lines_of association) n) ≡ standing_of n farm association
    unfolding standing_of
    sheets_right e =
        let w = neither_bad (bad_line farm) (bad_line association) (ap (λ (x : Judged). x.answer) (sym judged) ∙ e) in
        rw (standing, ← judged, e, held_told farm n standing w.0, held_told association n standing w.1)

-- ---------------------------------------------------------------------------
-- Parts

-- past the end of a text there is nothing
pub nothing_there : (length' start : ℕ) (s : List ℕ) → length s < start → [] ≡ take length' (drop start s)
nothing_there l start s h = let g : length s ≤ start = omega arith in rw (drop_of_length-le s g) (sym (take-nil l))
