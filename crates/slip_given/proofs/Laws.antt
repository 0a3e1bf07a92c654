-- Fields judged one after the other.
-- Assumes nothing.
use Rattle.refusal.proofs.Basics.{◌≡◌, refl, sym, ap, ◌∙◌, arith, ℕ, zero, suc, ◌+◌, ◌≤◌, ◌<◌, length, get_or, List, [], ◌∷◌, ◌⊎◌, inl, inr, ⊎_elim, add-zero}
use Rattle.std.specs.Prelude.{Ok, Err, drop}
use Rattle.refusal.specs.Refusal.{Answer, refusal_place, first_of}
use Rattle.refusal.specs.declared.Place.{Place}
use Rattle.refusal.specs.declared.Refusal.{Refusal}
use Rattle.refusal.proofs.Theorems.{refused_not_accepted}
use Rattle.verdict.specs.Verdict.{passed, verdict_byte, answer_in}
use Rattle.verdict.proofs.Verdicts.{accepted_answer, told_place_lem}
use Rattle.slip_fields.specs.declared.Currency.TheVariants.{Euro}
use Rattle.slip_fields.specs.Fields.{field_verdict}
use Rattle.std.specs.Borrow.{Bor}
use Rattle.std.proofs.lemmas.List.{drop_more}
use Rattle.slip_given.specs.Given.{given_answer, texts}

-- ---------------------------------------------------------------------------
-- Answers one after another

-- where no field is: nothing lent
abbrev pub nothing_lent : Bor (List ℕ)
nothing_lent = record { ref_ptr = (0, 0); now = [] }

-- an answer, and nothing behind it
first_alone : (a : Answer) → a ≡ first_of a (Ok tt)
first_alone (Ok u) = refl
first_alone (Err r) = refl

-- one field
pub one_given : (n : ℕ) (m s : List ℕ) (x : Answer) → x ≡ answer_in n (field_verdict Euro n m s) → x ≡ given_answer n m (s ∷ [])
unfolding given_answer
one_given n m s x e = e ∙ first_alone (answer_in n (field_verdict Euro n m s))

-- the lent fields from place i on: the first of them, then those behind it
module _ (fields : List (Bor (List ℕ))) (i n : ℕ) (m : List ℕ) (h : i < length fields) {x : Answer} where
  module _ (e : x ≡ given_answer n m ((get_or fields i nothing_lent).now ∷ [])) where
    -- it is refused
    pub refused_first : (r : Refusal) → x ≡ Err r → Err r ≡ given_answer n m (texts (drop i fields))
    unfolding given_answer
    refused_first r g = rw (drop_more fields i nothing_lent h, first_alone (answer_in n (field_verdict Euro n m (get_or fields i nothing_lent).now)), sym e ∙ g)

    -- it is accepted
    pub accepted_next : x ≡ Ok tt → given_answer n m (texts (drop i fields)) ≡ given_answer (n + 1) (get_or fields i nothing_lent).now (texts (drop (i + 1) fields))
    unfolding given_answer
    accepted_next g = rw (drop_more fields i nothing_lent h, first_alone (answer_in n (field_verdict Euro n m (get_or fields i nothing_lent).now)), sym e ∙ g)

-- ---------------------------------------------------------------------------
-- A refusal is told of a field that is not right

-- of one field
one_refused : (n : ℕ) (m p : List ℕ) (r : Refusal) → answer_in n (field_verdict Euro n m p) ≡ Err r → ((refusal_place r).field ≡ n) × (field_verdict Euro n m p ≡ passed → ⊥)
one_refused n m p r e =
    let v = field_verdict Euro n m p in (
      ap (λ (x : Place). x.field) (told_place_lem v n (verdict_byte v) r e).0,
      λ (z : v ≡ passed). refused_not_accepted r (sym e ∙ accepted_answer v n (verdict_byte v) z),
    )

-- of the first of two answers, or of the second
either_refused : (a b : Answer) (r : Refusal) → first_of a b ≡ Err r → (a ≡ Err r) ⊎ (b ≡ Err r)
either_refused (Ok u) b r e = inr e
either_refused (Err q) b r e = inl e

-- of no field before the first
not_before : (n : ℕ) (m : List ℕ) (ps : List (List ℕ)) (r : Refusal) → given_answer n m ps ≡ Err r → n ≤ (refusal_place r).field
unfolding given_answer
not_before n m [] r e = absurd (refused_not_accepted r (sym e))
not_before n m (p ∷ ps) r e =
    ⊎_elim (λ (f : answer_in n (field_verdict Euro n m p) ≡ Err r). omega (arith, (one_refused n m p r f).0))
    (λ (f : given_answer (n + 1) p ps ≡ Err r). omega (arith, not_before (n + 1) p ps r f))
    (either_refused (answer_in n (field_verdict Euro n m p)) (given_answer (n + 1) p ps) r e)

-- and of no field that is right whatever stands before it
pub not_there :
    (n : ℕ) (m : List ℕ) (ps : List (List ℕ)) (r : Refusal) (i : ℕ) → given_answer n m ps ≡ Err r → i < length ps
    → ((before : List ℕ) → field_verdict Euro (n + i) before (get_or ps i []) ≡ passed) → (refusal_place r).field ≡ n + i → ⊥
unfolding given_answer
not_there n m [] r i e h right f = omega arith
not_there n m (p ∷ ps) r zero e h right f =
    ⊎_elim (λ (g : answer_in n (field_verdict Euro n m p) ≡ Err r). (one_refused n m p r g).1 (rw (add-zero n) at (right m)))
    (λ (g : given_answer (n + 1) p ps ≡ Err r). omega (arith, f, not_before (n + 1) p ps r g))
    (either_refused (answer_in n (field_verdict Euro n m p)) (given_answer (n + 1) p ps) r e)
not_there n m (p ∷ ps) r (suc i) e h right f =
    let z : n + suc i ≡ n + 1 + i = omega arith in
    ⊎_elim (λ (g : answer_in n (field_verdict Euro n m p) ≡ Err r). omega (arith, f, (one_refused n m p r g).0))
    (λ (g : given_answer (n + 1) p ps ≡ Err r). not_there (n + 1) p ps r i g (omega arith) (rw z at right) (rw z at f))
    (either_refused (answer_in n (field_verdict Euro n m p)) (given_answer (n + 1) p ps) r e)
