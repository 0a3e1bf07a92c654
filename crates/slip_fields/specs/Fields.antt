-- Document 01, "The slip's fourteen fields", and document 02, W1: what each field must be in a slip's currency. Within a field 3 with its
-- byte, 4, 5, then 6 to 9.
use Rattle.std.specs.Prelude.{ℕ, cond, ◌||◌, List, eqb, length}
use Rattle.refusal.specs.Basics.{spelt}
use Rattle.verdict.specs.Verdict.{Verdict, only_if, and_then}
use Rattle.verdict.specs.declared.Fault.{Fault}
use Rattle.text.specs.Bytes.{bytes_verdict, same, eur}
use Rattle.classes.specs.declared.Class.{Class}
use Rattle.classes.specs.declared.Class.TheVariants.{Digits, Letters}
use Rattle.characters.specs.Answers.{characters_verdict}
use Rattle.account.specs.Answers.{iban_verdict}
use Rattle.account_form.specs.AccountForm.{account_or_iban_verdict}
use Rattle.model_text.specs.Texts.{model_verdict}
use Rattle.reference.specs.Answers.{reference_verdict}
use Rattle.slip_fields.specs.declared.Currency.{Currency}
use Rattle.slip_fields.specs.declared.Currency.TheVariants.{Euro, Kuna}

-- ---------------------------------------------------------------------------
-- 1 and 2: words, "only 5 applies to them"

abbrev pub word_verdict : List ℕ → List ℕ → Verdict
word_verdict w s = only_if (same w s) Fault.Form

-- the header
abbrev pub hrvhub30 : List ℕ
hrvhub30 = spelt "HRVHUB30"

-- "2 is `EUR`"; W1: "currency `HRK`"
abbrev pub currency_text : Currency → List ℕ
currency_text Euro = eur
currency_text Kuna = spelt "HRK"

-- ---------------------------------------------------------------------------
-- 3 and 13: bytes of a class, and one of two lengths

-- a byte that the class does not permit is 3, another length 4
abbrev pub sized_verdict : Class → ℕ → ℕ → List ℕ → Verdict
sized_verdict k a b s = and_then (bytes_verdict k s) (only_if (eqb (length s) a || eqb (length s) b) Fault.Length)

-- 3: "exactly fifteen digits"
abbrev pub amount_verdict : List ℕ → Verdict
amount_verdict s = sized_verdict Digits 15 15 s

-- 13: "empty (here) or four letters; a byte not A to Z is 3, another length 4"
abbrev pub purpose_verdict : List ℕ → Verdict
purpose_verdict s = sized_verdict Letters 0 4 s

-- ---------------------------------------------------------------------------
-- 4 to 9 and 14: "text of at most 30, 27, 27, 25, 25, 27 and 35 characters; may be empty here"

abbrev pub most_of : ℕ → ℕ
most_of n =
    cond (eqb n 4) 30
    (cond (eqb n 5) 27
    (cond (eqb n 6) 27
    (cond (eqb n 7) 25
    (cond (eqb n 8) 25
    (cond (eqb n 9) 27 35)))))

-- ---------------------------------------------------------------------------
-- 10: an IBAN; W1: "an IBAN or seven digits, a hyphen and ten digits"

abbrev pub payee_verdict : Currency → List ℕ → Verdict
payee_verdict Euro s = iban_verdict s
payee_verdict Kuna s = account_or_iban_verdict s

-- ---------------------------------------------------------------------------
-- Every field

-- field n of a slip in currency c, where m is the field before it: 12 obeys "the model of field 11". W1: but for 2 and 10 "All else is as in 01"
unfoldable pub field_verdict : Currency → ℕ → List ℕ → List ℕ → Verdict
field_verdict c n m s =
    cond (eqb n 1) (word_verdict hrvhub30 s)
    (cond (eqb n 2) (word_verdict (currency_text c) s)
    (cond (eqb n 3) (amount_verdict s)
    (cond (eqb n 10) (payee_verdict c s)
    (cond (eqb n 11) (model_verdict s)
    (cond (eqb n 12) (reference_verdict m s)
    (cond (eqb n 13) (purpose_verdict s)
    (characters_verdict (most_of n) s)))))))
