-- What is promised of the fields of a slip: which bytes an accepted field has, how many, and what it depends on.
-- Assumes nothing.
use Rattle.refusal.proofs.Basics.{◌≡◌, refl, ap, arith, ℕ, ◌+◌, ◌≤◌, length, ne_eqb, List, Bool, true, false, cond, ◌||◌, eqb, leb}
use Rattle.std.specs.Prelude.{Err}
use Rattle.verdict.specs.Verdict.{Verdict, passed, Within}
use Rattle.verdict.specs.declared.Fault.{Fault}
use Rattle.verdict.proofs.Verdicts.{choice_within, then_within, only_within}
use Rattle.classes.specs.Classes.{permits}
use Rattle.text.specs.Bytes.{all_of, same}
use Rattle.classes.specs.declared.Class.{Class}
use Rattle.classes.specs.declared.Class.TheVariants.{Digits, Reference, Line, Letters}
use Rattle.text.proofs.Laws.{bytes_within, found_within, all_passes}
use Rattle.characters.specs.Characters.{first_wrong, characters}
use Rattle.characters.proofs.Laws.{wrong_below}
use Rattle.account.proofs.Theorems.{iban_within}
use Rattle.account_form.proofs.Theorems.{account_or_iban_within}
use Rattle.model_text.proofs.Theorems.{model_within}
use Rattle.reference.proofs.Theorems.{reference_within}
use Rattle.slip_fields.specs.declared.Currency.{Currency}
use Rattle.slip_fields.specs.declared.Currency.TheVariants.{Euro, Kuna}
use Rattle.slip_fields.specs.Fields.{hrvhub30, currency_text, payee_verdict, sized_verdict, most_of, field_verdict}
use Rattle.slip_fields.specs.Sizes.{size_of}
use Rattle.slip_fields.proofs.Accepted as accepted

-- ---------------------------------------------------------------------------
-- No line feed

-- an amount or a purpose has none
sized_free : (k : Class) → permits k 10 ≡ false → (a b : ℕ) (s : List ℕ) → sized_verdict k a b s ≡ passed → all_of Line s ≡ true
sized_free k n a b s e = accepted.class_free k n s (accepted.sized_is k a b s e).0

-- nor has the word of a currency
currency_free : (c : Currency) → all_of Line (currency_text c) ≡ true
unfolding all_of
currency_free Euro = refl
currency_free Kuna = refl

-- no line feed stands in an accepted field
pub no_line_feed : (c : Currency) (n : ℕ) (m s : List ℕ) → field_verdict c n m s ≡ passed → all_of Line s ≡ true
unfolding field_verdict all_of
no_line_feed c n m s =
    accepted.either (eqb n 1) _ _ (accepted.word_free hrvhub30 s refl)
    (accepted.either (eqb n 2) _ _ (accepted.word_free (currency_text c) s (currency_free c))
    (accepted.either (eqb n 3) _ _ (sized_free Digits refl 15 15 s)
    (accepted.either (eqb n 10) _ _ (λ e. (accepted.payee_is c s e).0)
    (accepted.either (eqb n 11) _ _ (accepted.model_free s)
    (accepted.either (eqb n 12) _ _ (λ e. accepted.class_free Reference refl s (accepted.reference_is m s e).0)
    (accepted.either (eqb n 13) _ _ (sized_free Letters refl 0 4 s)
    (accepted.text_free (most_of n) s)))))))

-- ---------------------------------------------------------------------------
-- The first three fields

-- "1 is `HRVHUB30`"
pub first_is_hrvhub30 : (c : Currency) (m s : List ℕ) → field_verdict c 1 m s ≡ passed → s ≡ hrvhub30
unfolding field_verdict
first_is_hrvhub30 c m s e = accepted.word_is hrvhub30 s e

-- and that is accepted
pub hrvhub30_accepted : (c : Currency) (m : List ℕ) → field_verdict c 1 m hrvhub30 ≡ passed
unfolding field_verdict
hrvhub30_accepted c m = refl

-- "2 is `EUR`"; in a kuna slip `HRK`
pub second_is_currency : (c : Currency) (m s : List ℕ) → field_verdict c 2 m s ≡ passed → s ≡ currency_text c
unfolding field_verdict
second_is_currency c m s e = accepted.word_is (currency_text c) s e

-- and that is accepted
pub currency_accepted : (c : Currency) (m : List ℕ) → field_verdict c 2 m (currency_text c) ≡ passed
unfolding field_verdict
currency_accepted Euro m = refl
currency_accepted Kuna m = refl

-- "3: exactly fifteen digits"
pub third_is_digits : (c : Currency) (m s : List ℕ) → field_verdict c 3 m s ≡ passed → (all_of Digits s ≡ true) × (length s ≡ 15)
unfolding field_verdict
third_is_digits c m s e = accepted.sized_alone Digits 15 s e

-- and those are accepted
pub digits_accepted : (c : Currency) (m s : List ℕ) → all_of Digits s ≡ true → length s ≡ 15 → field_verdict c 3 m s ≡ passed
unfolding field_verdict
digits_accepted c m s e l = rw (all_passes Digits s e, l)

-- ---------------------------------------------------------------------------
-- "obeying the model of field 11"

-- the field before matters to field 12 alone
pub before_matters_to_12_alone : (c : Currency) (n : ℕ) (m m' s : List ℕ) → (n ≡ 12 → ⊥) → field_verdict c n m s ≡ field_verdict c n m' s
unfolding field_verdict
before_matters_to_12_alone c n m m' s h = rw (ne_eqb n 12 h)

-- ---------------------------------------------------------------------------
-- Document 02, W1: "All else is as in 01"

-- the currency matters to fields 2 and 10 alone
pub currency_matters_to_2_and_10_alone : (c c' : Currency) (n : ℕ) (m s : List ℕ) → (n ≡ 2 → ⊥) → (n ≡ 10 → ⊥) → field_verdict c n m s ≡ field_verdict c' n m s
unfolding field_verdict
currency_matters_to_2_and_10_alone c c' n m s g h = rw (ne_eqb n 2 g, ne_eqb n 10 h)

-- the word of another currency is 5
pub other_currency_refused : (m : List ℕ) → (field_verdict Euro 2 m (currency_text Kuna) ≡ Err Fault.Form) × (field_verdict Kuna 2 m (currency_text Euro) ≡ Err Fault.Form)
unfolding field_verdict
other_currency_refused m = (refl, refl)

-- ---------------------------------------------------------------------------
-- Sizes

-- what is within the size of either answer where it accepts is within the size of the choice between them
within : (t : Bool) (x y : Verdict) (j k l : ℕ) → (x ≡ passed → l ≤ j) → (y ≡ passed → l ≤ k) → cond t x y ≡ passed → l ≤ cond t j k
within true x y j k l p q e = p e
within false x y j k l p q e = q e

-- what equals a text has its length
as_long : (s w : List ℕ) → s ≡ w → length s ≤ length w
as_long s w e = let h = ap length e in omega arith

-- the word of a currency has three bytes
currency_size : (c : Currency) → length (currency_text c) ≡ 3
currency_size Euro = refl
currency_size Kuna = refl

-- an accepted field has at most the bytes of its size
pub field_size : (c : Currency) (n : ℕ) (m s : List ℕ) → field_verdict c n m s ≡ passed → length s ≤ size_of n
unfolding field_verdict size_of
field_size c n m s =
    within (eqb n 1) _ _ _ _ _ (λ e. as_long s hrvhub30 (accepted.word_is hrvhub30 s e))
    (within (eqb n 2) _ _ _ _ _ (λ e. omega (arith, as_long s (currency_text c) (accepted.word_is (currency_text c) s e), currency_size c))
    (within (eqb n 3) _ _ _ _ _ (λ e. (accepted.sized_is Digits 15 15 s e).1 15 (omega arith) (omega arith))
    (within (eqb n 10) _ _ _ _ _ (λ e. (accepted.payee_is c s e).1)
    (within (eqb n 11) _ _ _ _ _ (λ e. omega (arith, (accepted.model_is s e).four))
    (within (eqb n 12) _ _ _ _ _ (λ e. (accepted.reference_is m s e).1)
    (within (eqb n 13) _ _ _ _ _ (λ e. (accepted.sized_is Letters 0 4 s e).1 4 (omega arith) (omega arith))
    (accepted.text_size (most_of n) s)))))))

-- all fourteen with their line feeds are at most 483 bytes
pub total_size : size_of 1 + size_of 2 + size_of 3 + size_of 4 + size_of 5 + size_of 6 + size_of 7 + size_of 8 + size_of 9 + size_of 10 + size_of 11 + size_of 12 + size_of 13 + size_of 14 + 14 ≡ 483
unfolding size_of
total_size = refl

-- ---------------------------------------------------------------------------
-- A 3's byte

-- lies within the field
pub field_within : (c : Currency) (n : ℕ) (m s : List ℕ) → Within (length s) (field_verdict c n m s)
unfolding field_verdict
field_within c n m s =
    choose (eqb n 1) _ _ (only_within _ (same hrvhub30 s) Fault.Form refl)
    (choose (eqb n 2) _ _ (only_within _ (same (currency_text c) s) Fault.Form refl)
    (choose (eqb n 3) _ _ (sized Digits 15 15)
    (choose (eqb n 10) _ _ (payee_within c)
    (choose (eqb n 11) _ _ (model_within (length s) s)
    (choose (eqb n 12) _ _ (reference_within m s)
    (choose (eqb n 13) _ _ (sized Letters 0 4)
    (then_within (length s) _ _ (found_within (length s) (first_wrong s) (wrong_below s)) (only_within _ (leb (characters s) (most_of n)) Fault.Length refl))))))))
  where
    choose : (b : Bool) (v w : Verdict) → Within (length s) v → Within (length s) w → Within (length s) (cond b v w)
    choose = choice_within (length s)

    payee_within : (c : Currency) → Within (length s) (payee_verdict c s)
    payee_within Euro = iban_within s
    payee_within Kuna = account_or_iban_within s

    sized : (k : Class) (a b : ℕ) → Within (length s) (sized_verdict k a b s)
    sized k a b = then_within (length s) _ _ (bytes_within k s) (only_within (length s) (eqb (length s) a || eqb (length s) b) Fault.Length refl)
