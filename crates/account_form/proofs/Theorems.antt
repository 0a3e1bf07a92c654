-- What is promised of field 10 of a kuna slip: accepted exactly when, and where a 3's byte lies.
-- Assumes nothing.
use Rattle.refusal.proofs.Basics.{◌≡◌, refl, sym, ◌∙◌, arith, ℕ, length, take, drop, get_or, eq-eqb, eqb-true, List, [], ◌∷◌, Bool, false≢true, true, false, cond, eqb, drop-cons, ◌↔◌, ◌⊎◌, inl, inr, ⊎_elim, both_true}
use Rattle.verdict.specs.declared.Fault.{Fault}
use Rattle.verdict.specs.Verdict.{passed, only_if, Within}
use Rattle.verdict.proofs.Verdicts.{both_pass, pass_both, test_holds, test_exactly, choice_within, then_within, only_within}
use Rattle.classes.specs.Classes.{is_digit}
use Rattle.classes.specs.declared.Class.TheVariants.{Digits, AccountForm}
use Rattle.text.specs.Bytes.{all_of, bytes_verdict}
use Rattle.text.proofs.Laws.{all_apart, all_wider, all_passes, bytes_within}
use Rattle.account.specs.Account.{iban_formed, iban_passes}
use Rattle.account.specs.Answers.{is_iban, iban_verdict}
use Rattle.account.proofs.Theorems.{iban_field_exactly, iban_within}
use Rattle.account_form.specs.AccountForm.{account_formed, account_form_verdict, account_or_iban_verdict}

-- ---------------------------------------------------------------------------
-- Accepted exactly when

module _ (s : List ℕ) (e : account_formed s ≡ true) where
  formed_length : length s ≡ 18
  formed_length = eqb-true (length s) 18 (both_true (eqb (length s) 18) _ e).0

  -- its bytes
  formed_bytes : (get_or s 7 0 ≡ 45) × (all_of Digits (take 7 s) ≡ true) × (all_of Digits (drop 8 s) ≡ true)
  formed_bytes =
      let t = (both_true (eqb (length s) 18) _ e).1 in
      let u = both_true (eqb (get_or s 7 0) 45) _ t in
      let d = both_true (all_of Digits (take 7 s)) (all_of Digits (drop 8 s)) u.1 in
      (eqb-true (get_or s 7 0) 45 u.0, d.0, d.1)

  -- digits are permitted
  digits_permitted : (t : List ℕ) → all_of Digits t ≡ true → all_of AccountForm t ≡ true
  digits_permitted = all_wider Digits AccountForm (λ b d. rw d)

  -- so are all
  formed_permitted : bytes_verdict AccountForm s ≡ passed
  unfolding all_of
  formed_permitted =
      let b = formed_bytes in
      all_passes AccountForm s (all_apart AccountForm 7 s ∙ rw (digits_permitted (take 7 s) b.1, drop-cons s 7 0 (omega (arith, formed_length)), b.0, digits_permitted (drop 8 s) b.2))

-- an account is accepted exactly when it is seven digits, a hyphen and ten digits
pub account_form_exactly : (s : List ℕ) → (account_form_verdict s ≡ passed) ↔ (account_formed s ≡ true)
account_form_exactly s = (
  λ e. test_holds (account_formed s) Fault.Form (both_pass (only_if (eqb (length s) 18) Fault.Length) _ (both_pass (bytes_verdict AccountForm s) _ e).1).1,
  λ e. pass_both _ _ (formed_permitted s e) (pass_both _ _ ((test_exactly _ Fault.Length).1 (eq-eqb (length s) 18 (formed_length s e))) ((test_exactly _ Fault.Form).1 e)),
)

-- a text that begins with seven digits begins with a digit
first_of_seven : (s : List ℕ) → length s ≡ 18 → all_of Digits (take 7 s) ≡ true → is_digit (get_or s 0 0) ≡ true
unfolding all_of
first_of_seven [] l e = absurd (omega arith)
first_of_seven (b ∷ s) l e = (both_true (is_digit b) (all_of Digits (take 6 s)) e).0

-- field 10 of a kuna slip is accepted exactly when it is an IBAN, or seven digits, a hyphen and ten digits
pub account_or_iban_exactly : (s : List ℕ) → (account_or_iban_verdict s ≡ passed) ↔ ((is_iban s ≡ true) ⊎ (account_formed s ≡ true))
account_or_iban_exactly s = go (is_digit (get_or s 0 0)) refl
  where
    -- an IBAN begins with a letter, an account with a digit
    iban_first : is_iban s ≡ true → is_digit (get_or s 0 0) ≡ false
    iban_first e =
        let f = (both_true (iban_formed s) (iban_passes s) e).0 in
        let h = eqb-true (get_or s 0 0) 72 (both_true (eqb (get_or s 0 0) 72) _ (both_true (eqb (length s) 21) _ f).1).0 in
        rw h

    account_first : account_formed s ≡ true → is_digit (get_or s 0 0) ≡ true
    account_first e = first_of_seven s (formed_length s e) (formed_bytes s e).1

    go : (d : Bool) → is_digit (get_or s 0 0) ≡ d → (cond d (account_form_verdict s) (iban_verdict s) ≡ passed) ↔ ((is_iban s ≡ true) ⊎ (account_formed s ≡ true))
    go true g = (
      λ e. inr ((account_form_exactly s).0 e),
      ⊎_elim (λ (e : is_iban s ≡ true). absurd (false≢true (sym (iban_first e) ∙ g))) (λ (e : account_formed s ≡ true). (account_form_exactly s).1 e),
    )
    go false g = (
      λ e. inl ((iban_field_exactly s).0 e),
      ⊎_elim (λ (e : is_iban s ≡ true). (iban_field_exactly s).1 e) (λ (e : account_formed s ≡ true). absurd (false≢true (sym g ∙ account_first e))),
    )

-- ---------------------------------------------------------------------------
-- A 3's byte lies within the text

pub account_or_iban_within : (s : List ℕ) → Within (length s) (account_or_iban_verdict s)
account_or_iban_within s =
    let n = length s in
    choice_within n (is_digit (get_or s 0 0)) _ _
    (then_within n _ _ (bytes_within AccountForm s) (then_within n _ _ (only_within n (eqb n 18) Fault.Length refl) (only_within n (account_formed s) Fault.Form refl)))
    (iban_within s)
