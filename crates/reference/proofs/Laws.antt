-- The answers to a reference (specs/Answers.antt), by whether the text is formed.
-- Assumes nothing.
use Rattle.refusal.proofs.Basics.{◌≡◌, refl, ◌∙◌, arith, ℕ, zero, suc, ◌<◌, length, take, drop, lt-ltb, eqb-suc-zero, eqb, ltb, ◌||◌, List, [], ◌∷◌, Bool, true, false, cond, leb, leb-true}
use Rattle.std.specs.Prelude.{Option, Some, None, Err}
use Rattle.verdict.specs.Verdict.{Verdict, passed, only_if, and_then}
use Rattle.verdict.specs.declared.Fault.{Fault}
use Rattle.text.specs.Bytes.{bytes_verdict}
use Rattle.classes.specs.declared.Class.TheVariants.{Reference}
use Rattle.text.proofs.Laws.{all_passes}
use Rattle.models.specs.declared.Asked.{Asked}
use Rattle.models.specs.declared.Group.{Group}
use Rattle.models.specs.declared.Model.{Model}
use Rattle.models.specs.Every.{every}
use Rattle.models.proofs.Every.{each_every}
use Rattle.parts.specs.Parts.{parts_of, formed}
use Rattle.parts.specs.Mirror.{ends_of, parts_found}
use Rattle.parts.proofs.Pieces.{formed_bytes}
use Rattle.parts.proofs.Laws.{found_formed}
use Rattle.part_contents.specs.Contents.{asked_right, contents_right}
use Rattle.part_contents.specs.Mirror.{contents_at}
use Rattle.part_contents.proofs.Laws.{contents_at_lem}
use Rattle.groups.specs.Groups.{present, group_right, groups_right}
use Rattle.groups.specs.Mirror.{groups_at, obeys_at}
use Rattle.groups.proofs.Laws.{groups_at_lem, obeys_at_lem}
use Rattle.reference.specs.Answers.{obeys, text_verdict}

-- ---------------------------------------------------------------------------
-- An empty text has no parts, of which nothing is asked

no_parts : (s : List ℕ) → length s ≡ 0 → parts_of s ≡ []
unfolding parts_of
no_parts [] h = refl
no_parts (b ∷ s) h = absurd (omega arith)

none_asked : (model : Model) → contents_right model [] ≡ true
none_asked model = too_few model.from (every (λ (a : Asked). asked_right a []) model.asked)
  where
    too_few : (n : ℕ) (b : Bool) → (eqb n 0 || (ltb 0 n || b)) ≡ true
    too_few zero b = refl
    too_few (suc n) b = rw (eqb-suc-zero n, lt-ltb 0 (suc n) (omega arith))

none_right : (gs : List Group) → groups_right gs [] ≡ true
unfolding group_right
none_right gs = each_every (λ (g : Group). group_right g (present g [])) gs (λ g m. rw (none g.skipped g.joins))
  where
    none : (k n : ℕ) → take {A = List ℕ} n (drop k []) ≡ []
    none zero zero = refl
    none zero (suc n) = refl
    none (suc k) zero = refl
    none (suc k) (suc n) = refl

-- ---------------------------------------------------------------------------
-- What a text gets, by what is found of its parts

-- what is found has no byte for 3, and no 8; what is not gets 3, 4, then 8
abbrev pub text_from : Model → List ℕ → Option ℕ → Verdict
text_from model s (Some ends) =
    and_then (only_if (leb (length s) 22) Fault.Length)
    (and_then (only_if (contents_at model ends s) Fault.Form)
    (only_if (groups_at model.groups ends s) Fault.Digit))
text_from model s None = and_then (bytes_verdict Reference s) (and_then (only_if (leb (length s) 22) Fault.Length) (Err Fault.Parts))

module _ (model : Model) (s : List ℕ) where
  pub text_read : text_verdict model s ≡ text_from model s (parts_found model s)
  text_read = go (formed model s) refl (leb (length s) 22) refl
    where
      -- a long text is judged by its length alone
      go : (t : Bool) → formed model s ≡ t → (u : Bool) → leb (length s) 22 ≡ u → text_verdict model s ≡ text_from model s (cond t (Some (ends_of s)) None)
      go true e true h =
          let l : length s < 1024 = let k = leb-true (length s) 22 h in omega arith in
          rw (all_passes Reference s (formed_bytes model s e), e, contents_at_lem model s l e, groups_at_lem model s l e)
      go true e false h = rw (all_passes Reference s (formed_bytes model s e), h)
      go false e u h = rw e

  -- nothing is asked of an empty text
  pub text_bare : length s ≡ 0 → formed model s ≡ true → text_verdict model s ≡ passed
  text_bare h e = rw (all_passes Reference s (formed_bytes model s e), e, h, no_parts s h, none_asked model, none_right model.groups)

  -- it obeys where its parts are right
  pub found_obeys : (ends : ℕ) → Some ends ≡ parts_found model s → (r : Bool) → length s < 1024 → r ≡ obeys_at model ends s → r ≡ obeys model s
  found_obeys ends f r h e = let w = found_formed model s ends f in rw w.0 ((rw w.1 at e) ∙ obeys_at_lem model s h w.0)
