-- What each of a slip's fourteen fields is, in the words of document 01 and of document 02, W1: accepted exactly when.
-- Assumes nothing.
use Rattle.refusal.proofs.Basics.{◌≡◌, refl, arith, ℕ, ◌≤◌, ◌<◌, length, ne_eqb, List, [], ◌∷◌, true, false, eqb, ◌↔◌, ◌⊎◌, inl, inr, ⊎_elim}
use Rattle.verdict.specs.Verdict.{passed}
use Rattle.std.specs.Prelude.{None}
use Rattle.text.specs.Bytes.{all_of}
use Rattle.classes.specs.declared.Class.TheVariants.{Digits, Letters}
use Rattle.characters.specs.Characters.{first_wrong, characters}
use Rattle.characters.proofs.Theorems as texts
use Rattle.account.specs.Answers.{is_iban}
use Rattle.account.proofs.Theorems.{iban_field_exactly}
use Rattle.account_form.specs.AccountForm.{account_formed}
use Rattle.account_form.proofs.Theorems.{account_or_iban_exactly}
use Rattle.model_text.proofs.Theorems.{HandledModel, model_accepted_exactly}
use Rattle.reference.proofs.Theorems.{RightReference, reference_accepted_exactly}
use Rattle.slip_fields.specs.declared.Currency.{Currency}
use Rattle.slip_fields.specs.declared.Currency.TheVariants.{Euro, Kuna}
use Rattle.slip_fields.specs.Fields.{hrvhub30, currency_text, most_of, payee_verdict, field_verdict}
use Rattle.slip_fields.proofs.Accepted.{sized_exactly}
use Rattle.slip_fields.proofs.Theorems.{first_is_hrvhub30, hrvhub30_accepted, second_is_currency, currency_accepted, third_is_digits, digits_accepted}

-- a text of no byte
pub no_byte : (s : List ℕ) → length s ≡ 0 → s ≡ []
no_byte [] h = refl
no_byte (b ∷ s) h = absurd (omega arith)

-- the account of a payee: an IBAN, and in a kuna slip an account by its number too
abbrev pub RightPayee : Currency → List ℕ → Type 0
RightPayee Euro s = is_iban s ≡ true
RightPayee Kuna s = (is_iban s ≡ true) ⊎ (account_formed s ≡ true)

payee_exactly : (c : Currency) (s : List ℕ) → (payee_verdict c s ≡ passed) ↔ RightPayee c s
payee_exactly Euro s = iban_field_exactly s
payee_exactly Kuna s = account_or_iban_exactly s

-- the field s of a slip in currency c, where m is the field before it
module _ (c : Currency) (m s : List ℕ) where
  -- "1 is `HRVHUB30`"
  pub first_exactly : (field_verdict c 1 m s ≡ passed) ↔ (s ≡ hrvhub30)
  first_exactly = (first_is_hrvhub30 c m s, λ e. rw e (hrvhub30_accepted c m))

  -- "2 is `EUR`"; in a kuna slip `HRK`
  pub second_exactly : (field_verdict c 2 m s ≡ passed) ↔ (s ≡ currency_text c)
  second_exactly = (second_is_currency c m s, λ e. rw e (currency_accepted c m))

  -- "3: exactly fifteen digits"
  pub third_exactly : (field_verdict c 3 m s ≡ passed) ↔ ((all_of Digits s ≡ true) × (length s ≡ 15))
  third_exactly = (third_is_digits c m s, λ w. digits_accepted c m s w.0 w.1)

  -- "4 to 9 and 14: text of at most 30, 27, 27, 25, 25, 27 and 35 characters; may be empty here"
  pub text_exactly : (n : ℕ) → ((4 ≤ n) × (n ≤ 9)) ⊎ (n ≡ 14) → (field_verdict c n m s ≡ passed) ↔ ((first_wrong s ≡ None) × (characters s ≤ most_of n))
  unfolding field_verdict
  text_exactly n h =
      rw (below 1 (omega arith), below 2 (omega arith), below 3 (omega arith), between 10 (omega arith) (omega arith), between 11 (omega arith) (omega arith), between 12 (omega arith) (omega arith), between 13 (omega arith) (omega arith))
      (texts.accepted_exactly (most_of n) s)
    where
      below : (k : ℕ) → k < 4 → eqb n k ≡ false
      below k l = ne_eqb n k (λ e. ⊎_elim (λ (w : (4 ≤ n) × (n ≤ 9)). omega (arith, w.0)) (λ (w : n ≡ 14). omega arith) h)

      between : (k : ℕ) → 9 < k → k < 14 → eqb n k ≡ false
      between k l u = ne_eqb n k (λ e. ⊎_elim (λ (w : (4 ≤ n) × (n ≤ 9)). omega (arith, w.1)) (λ (w : n ≡ 14). omega arith) h)

  -- "10: A to Z and digits; 21 characters; `HR` and nineteen digits; IBAN check"; in a kuna slip "or seven digits, a hyphen and ten digits"
  pub tenth_exactly : (field_verdict c 10 m s ≡ passed) ↔ RightPayee c s
  unfolding field_verdict
  tenth_exactly = payee_exactly c s

  -- "11: `HR` and two digits, else 5 (never 3 or 4); then 7"
  pub eleventh_exactly : (field_verdict c 11 m s ≡ passed) ↔ HandledModel s
  unfolding field_verdict
  eleventh_exactly = model_accepted_exactly s

  -- "12: digits and hyphens, at most 22 characters, obeying the model of field 11"
  pub twelfth_exactly : (field_verdict c 12 m s ≡ passed) ↔ RightReference m s
  unfolding field_verdict
  twelfth_exactly = reference_accepted_exactly m s

  -- "13: empty (here) or four letters"
  pub thirteenth_exactly : (field_verdict c 13 m s ≡ passed) ↔ ((s ≡ []) ⊎ ((length s ≡ 4) × (all_of Letters s ≡ true)))
  unfolding field_verdict all_of
  thirteenth_exactly =
      let h = sized_exactly Letters 0 4 s in (
        λ e. let w = h.0 e in ⊎_elim (λ (l : length s ≡ 0). inl (no_byte s l)) (λ (l : length s ≡ 4). inr (l, w.0)) w.1,
        ⊎_elim (λ (e : s ≡ []). h.1 (rw e, inl (rw e))) (λ (w : (length s ≡ 4) × (all_of Letters s ≡ true)). h.1 (w.1, inr w.0)),
      )
