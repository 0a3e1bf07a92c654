-- Document 01, "The wage file": what a place of a line may hold, each kind of content once, as a verdict (refusal/specs/Verdict.antt). Within
-- a field 3 with its byte, 5, 6, 11.
-- "Numeric fields are digits only (else 3), zeros for absent, unless stated. 3 is also given in an IBAN place for a byte not A to Z, digit or
-- blank .. Every other wrong byte or content is 5."
use Rattle.std.specs.Prelude.{ℕ, Bool, cond, not, ◌&&◌, ◌||◌, List, eqb, leb, take, drop}
use Rattle.verdict.specs.Verdict.{Verdict, passed, and_then, only_if}
use Rattle.verdict.specs.declared.Fault.{Fault}
use Rattle.text.specs.Bytes.{bytes_verdict, all_of, same, eur}
use Rattle.classes.specs.declared.Class.{Class}
use Rattle.classes.specs.declared.Class.TheVariants.{Digits, Blanks, Zeros, Place}
use Rattle.account.specs.Account.{oib_passes}
use Rattle.account.specs.Answers.{iban_check_verdict}
use Rattle.dates.specs.Dates.{is_date}
use Rattle.sums.specs.Sums.{number_in}

-- "digits only (else 3)", and of other classes: 3 with its byte, then the fault n unless a test holds
unfoldable pub tested : Class → List ℕ → Bool → Fault → Verdict
tested k f right n = and_then (bytes_verdict k f) (only_if right n)

-- ---------------------------------------------------------------------------
-- Numbers and dates

-- one of three
abbrev pub one_of : ℕ → ℕ → ℕ → ℕ → Bool
one_of a b c v = eqb v a || (eqb v b || eqb v c)

-- digits, one of three numbers
unfoldable pub among_verdict : ℕ → ℕ → ℕ → List ℕ → Verdict
among_verdict a b c f = tested Digits f (one_of a b c (number_in f)) Fault.Form

-- "OIB or zeros"; "OIB, zeros are 5"
unfoldable pub oib_place_verdict : Bool → List ℕ → Verdict
oib_place_verdict absent f = and_then (bytes_verdict Digits f) (cond (all_of Zeros f) (only_if absent Fault.Form) (only_if (oib_passes f) Fault.Check))

-- two of three
abbrev pub two_of : Bool → Bool → Bool → Bool
two_of a b c = (a && b) || ((a || b) && c)

-- "at least two of these three not zero, else 5 at field 7": f after the two fields before it
unfoldable pub employer_verdict : List ℕ → List ℕ → List ℕ → Verdict
employer_verdict before last f = tested Digits f (not (two_of (all_of Zeros before) (all_of Zeros last) (all_of Zeros f))) Fault.Form

-- "today"; "date, today or later": a date from one to another
unfoldable pub date_verdict : ℕ → ℕ → List ℕ → Verdict
date_verdict first last f = tested Digits f (is_date (number_in f) && (leb first (number_in f) && leb (number_in f) last)) Fault.Date

-- ---------------------------------------------------------------------------
-- IBAN, currency

-- "IBAN and thirteen blanks", "blank or IBAN"
unfoldable pub iban_place_verdict : Bool → List ℕ → Verdict
iban_place_verdict blank f =
    and_then (bytes_verdict Place f)
    (cond (blank && all_of Blanks f) passed (and_then (only_if (all_of Blanks (drop 21 f)) Fault.Form) (iban_check_verdict (take 21 f))))

-- "`EUR`", "blank or `EUR`"
unfoldable pub currency_verdict : Bool → List ℕ → Verdict
currency_verdict blank f = only_if ((blank && all_of Blanks f) || same eur f) Fault.Form
