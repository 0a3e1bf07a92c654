-- What the listing asks of each filling is all that the rules ask of it: whether a reference is formed, and where its parts end, depends on
-- its hyphens alone, so that one filling tells of all.
-- Assumes nothing.
use Rattle.refusal.proofs.Basics.{◌≡◌, refl, sym, ◌∙◌, arith, ℕ, ◌+◌, ◌/◌, ◌%◌, ◌^◌, ◌≤◌, ◌<◌, length, get_or, get_or-eq_default, eq-eqb, le-leb, List, [], ◌∷◌, Bool, true, false, cond, and-false, eqb, entered}
use Rattle.std.specs.Prelude.{Option, Some, None, Result}
use Rattle.refusal.specs.declared.Refusal.{Refusal}
use Rattle.classes.specs.Classes.{is_digit}
use Rattle.text.specs.Bytes.{marks}
use Rattle.classes.proofs.Laws.{digit_between}
use Rattle.account.specs.Answers.{is_iban}
use Rattle.models.specs.declared.Model.{Model}
use Rattle.parts.specs.Mirror.{parts_found}
use Rattle.parts.proofs.Laws.{found_none}
use Rattle.parts.proofs.Shape.{shape_of, shape_byte, same_shape_found}
use Rattle.reference.specs.Answers.{obeys}
use Rattle.reference.proofs.Laws.{found_obeys}
use Rattle.filling.specs.Filling.{fill}
use Rattle.filling.proofs.Theorems.{fill_length}
use Rattle.fillings.specs.declared.Aim.{Aim}
use Rattle.fillings.specs.Mirror.{accepts}
use Rattle.fillings.specs.Fillings.{fillings}
use Rattle.fillings.specs.Answers.{left_by_listing}
use Rattle.fillings.proofs.Laws.{ListedBy, taken_on}
use Rattle.fillings.proofs.Theorems.{changed_rule}
use Rattle.wet.specs.Wet.{aim_from, wet_iban, iban_listing, model_listing}

-- ---------------------------------------------------------------------------
-- What is asked of each filling

-- an IBAN's rule
pub iban_fillings : (s : List ℕ) → fillings is_iban s ≡ fillings (accepts Aim.Iban) s
unfolding accepts
iban_fillings s = changed_rule is_iban (accepts Aim.Iban) s (λ k h. refl)

-- a filled-in byte is a digit
filled_digit : (x : ℕ) → is_digit (48 + x % 10) ≡ true
filled_digit x = digit_between (48 + x % 10) (omega arith) (omega arith)

-- the fillings of a text have one shape
same_shape : (s : List ℕ) (k j : ℕ) → shape_of (fill s k) ≡ shape_of (fill s j)
unfolding fill shape_of
same_shape [] k j = refl
same_shape (b ∷ s) k j = go (eqb b 63) (same_shape s k j)
  where
    go : (m : Bool) → shape_of (fill s k) ≡ shape_of (fill s j) → ◌≡◌ {A = List ℕ} (shape_byte (cond m (48 + (k / 10 ^ marks s) % 10) b) ∷ shape_of (fill s k)) (shape_byte (cond m (48 + (j / 10 ^ marks s) % 10) b) ∷ shape_of (fill s j))
    go true e = rw (filled_digit (k / 10 ^ marks s), filled_digit (j / 10 ^ marks s), e)
    go false e = rw e

-- what a model asks of a text is what is asked by what is found of it
found_asked : (model : Model) (t : List ℕ) (f : Option ℕ) → length t ≤ 22 → parts_found model t ≡ f → obeys model t ≡ accepts (aim_from model f) t
unfolding accepts
found_asked model t (Some ends) h e = sym (found_obeys model t ends (sym e) _ (omega arith) refl)
found_asked model t None h e = rw (found_none model t (sym e))

-- so one filling tells of all
pub reference_fillings_lem : (model : Model) (s : List ℕ) → length s ≤ 22 → fillings (obeys model) s ≡ fillings (accepts (aim_from model (parts_found model (fill s 0)))) s
reference_fillings_lem model s h =
    changed_rule (obeys model) (accepts (aim_from model (parts_found model (fill s 0)))) s
    (λ k l. found_asked model (fill s k) (parts_found model (fill s 0)) (omega (arith, fill_length s k)) (same_shape_found model (fill s k) (fill s 0) (same_shape s k 0)))

-- ---------------------------------------------------------------------------
-- The listings' answers, from the listing over what is asked of each filling

-- a text too short for `HR`
pub short_is_not_wet : (s : List ℕ) → length s < 2 → false ≡ wet_iban s
short_is_not_wet s h = rw (get_or-eq_default s 0 {n = 1} (omega arith)) (sym (and-false (eqb (get_or s 0 0) 72)))

-- 16 and 15 are the listing's own
pub iban_listed : (s out : List ℕ) (r : Result ℕ Refusal) (o : List ℕ) → length s ≡ 21 → wet_iban s ≡ true → ListedBy (accepts Aim.Iban) s out r o → (r ≡ iban_listing s (length out)) × (o ≡ left_by_listing r (fillings is_iban s) out)
iban_listed s out r o n e h =
    let g : ListedBy is_iban s out r o = rw (iban_fillings s) h in
    (entered _ _ _ _ (eq-eqb (length s) 21 n) (entered _ _ _ _ e (rw (le-leb (length s) 22 (omega arith)) at g.0)), g.1)

-- 15 is
pub reference_listed : (model : Model) (s out : List ℕ) (r : Result ℕ Refusal) (o : List ℕ) → model.handled ≡ true → length s ≤ 22 → marks s ≤ 4 → ListedBy (accepts (aim_from model (parts_found model (fill s 0)))) s out r o → (r ≡ model_listing model s (length out)) × (o ≡ left_by_listing r (fillings (obeys model) s) out)
reference_listed model s out r o e l m h =
    let g : ListedBy (obeys model) s out r o = rw (reference_fillings_lem model s l) h in
    (entered _ _ _ _ e (g.0 ∙ taken_on s l m (obeys model) (length out)), g.1)
