-- What is promised of accounts: nothing is refused exactly when, and where a 3's byte lies.
-- Assumes nothing.
use Rattle.refusal.proofs.Basics.{◌≡◌, refl, sym, arith, ℕ, length, eq-eqb, List, ◌∷◌, true, false, false≢true, ◌&&◌, eqb, ◌↔◌, both_true}
use Rattle.std.specs.Prelude.{Ok, Err, is_ok}
use Rattle.verdict.specs.declared.Fault.{Fault}
use Rattle.verdict.specs.Verdict.{Verdict, passed, only_if, Within}
use Rattle.verdict.proofs.Verdicts.{both_pass, pass_both, test_exactly, both_exactly, then_within, only_within}
use Rattle.text.specs.Bytes.{all_of, bytes_verdict}
use Rattle.text.specs.Digits.{digits_of, value_from, value_of}
use Rattle.classes.specs.declared.Class.TheVariants.{Digits, Account}
use Rattle.text.proofs.Laws.{all_passes, passes_all, bytes_within}
use Rattle.account.specs.Account.{iban_formed, check_digits, in_range, iban_passes, oib_passes}
use Rattle.account.specs.Answers.{is_iban, iban_check_verdict, iban_verdict, oib_verdict}
use Rattle.account.proofs.Laws.{formed_length, formed_permitted}

-- ---------------------------------------------------------------------------
-- Nothing is refused exactly when

-- form and check refuse nothing exactly when a text is `HR` and nineteen digits, and its check holds
pub iban_accepted_exactly : (s : List ℕ) → (iban_check_verdict s ≡ passed) ↔ (is_iban s ≡ true)
iban_accepted_exactly s = both_exactly _ _ (iban_formed s) (iban_passes s) (test_exactly (iban_formed s) Fault.Form) (test_exactly (iban_passes s) Fault.Check)

-- so does the whole verdict of a field: an IBAN's bytes and length are right
pub iban_field_exactly : (s : List ℕ) → (iban_verdict s ≡ passed) ↔ (is_iban s ≡ true)
iban_field_exactly s = (
  λ e. (iban_accepted_exactly s).0 (both_pass (only_if (eqb (length s) 21) Fault.Length) _ (both_pass (bytes_verdict Account s) _ e).1).1,
  λ e. let f = (both_true (iban_formed s) (iban_passes s) e).0 in pass_both _ _ (formed_permitted s f) (pass_both _ _ ((test_exactly _ Fault.Length).1 (eq-eqb (length s) 21 (formed_length s f))) ((iban_accepted_exactly s).1 e)),
)

ok_passed : (v : Verdict) → is_ok v ≡ true → v ≡ passed
ok_passed (Ok u) e = refl
ok_passed (Err f) e = absurd (false≢true e)

-- so of a text that form and check accept nothing is refused
pub iban_right : (s : List ℕ) → is_ok (iban_check_verdict s) ≡ true → Ok tt ≡ iban_verdict s
iban_right s e = sym ((iban_field_exactly s).1 ((iban_accepted_exactly s).0 (let u : iban_check_verdict s ≡ passed = ok_passed _ e in u)))

-- an OIB is accepted exactly when it is eleven digits that pass
pub oib_accepted_exactly : (s : List ℕ) → (oib_verdict s ≡ passed) ↔ ((all_of Digits s && (eqb (length s) 11 && oib_passes s)) ≡ true)
oib_accepted_exactly s =
    both_exactly _ _ (all_of Digits s) _ (passes_all Digits s, all_passes Digits s)
    (both_exactly _ _ (eqb (length s) 11) (oib_passes s) (test_exactly (eqb (length s) 11) Fault.Length) (test_exactly (oib_passes s) Fault.Check))

-- ---------------------------------------------------------------------------
-- "the two check digits lie in 02 to 98"

-- a text whose check digits lie elsewhere is not accepted
range_asked : (s : List ℕ) → in_range (value_of (check_digits s)) ≡ false → iban_verdict s ≡ passed → ⊥
unfolding iban_passes
range_asked s e h =
    let p = (both_true (iban_formed s) (iban_passes s) ((iban_field_exactly s).0 h)).1 in
    let r = (both_true (in_range (value_of (check_digits s))) _ p).0 in
    let z : ◌≡◌ {A = ℕ} 0 1 = cc in
    omega arith

-- `HR`, two check digits and what follows
abbrev pub with_digits : ℕ → ℕ → List ℕ → List ℕ
with_digits a b s = 72 ∷ (82 ∷ (a ∷ (b ∷ s)))

-- no IBAN with check digits 00, 01 or 99 is accepted; `0`, `1` and `9` are 48, 49 and 57
pub no_iban_of_00_01_99 : (s : List ℕ) → (iban_verdict (with_digits 48 48 s) ≡ passed → ⊥) × (iban_verdict (with_digits 48 49 s) ≡ passed → ⊥) × (iban_verdict (with_digits 57 57 s) ≡ passed → ⊥)
unfolding digits_of value_from
no_iban_of_00_01_99 s = (range_asked (with_digits 48 48 s) refl, range_asked (with_digits 48 49 s) refl, range_asked (with_digits 57 57 s) refl)

-- ---------------------------------------------------------------------------
-- A 3's byte lies within the text

pub iban_check_within : (n : ℕ) (s : List ℕ) → Within n (iban_check_verdict s)
iban_check_within n s = then_within n _ _ (only_within n (iban_formed s) Fault.Form refl) (only_within n (iban_passes s) Fault.Check refl)

pub iban_within : (s : List ℕ) → Within (length s) (iban_verdict s)
iban_within s =
    let n = length s in
    then_within n _ _ (bytes_within Account s) (then_within n _ _ (only_within n (eqb n 21) Fault.Length refl) (iban_check_within n s))

pub oib_within : (s : List ℕ) → Within (length s) (oib_verdict s)
oib_within s =
    let n = length s in
    then_within n _ _ (bytes_within Digits s) (then_within n _ _ (only_within n (eqb n 11) Fault.Length refl) (only_within n (oib_passes s) Fault.Check refl))
