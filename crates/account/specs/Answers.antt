-- What is said of a text where an IBAN or an OIB should stand: a verdict, 3 with its byte, 4, 5, 6.
use Rattle.std.specs.Prelude.{ℕ, Bool, ◌&&◌, List, eqb, length}
use Rattle.verdict.specs.Verdict.{Verdict, only_if, and_then}
use Rattle.verdict.specs.declared.Fault.{Fault}
use Rattle.text.specs.Bytes.{bytes_verdict}
use Rattle.classes.specs.declared.Class.TheVariants.{Digits, Account}
use Rattle.account.specs.Account.{iban_formed, iban_passes, oib_passes}

-- an IBAN: "`HR` and nineteen digits; IBAN check"
abbrev pub is_iban : List ℕ → Bool
is_iban s = iban_formed s && iban_passes s

-- "`HR` and nineteen digits; IBAN check": 5, then 6
abbrev pub iban_check_verdict : List ℕ → Verdict
iban_check_verdict s = and_then (only_if (iban_formed s) Fault.Form) (only_if (iban_passes s) Fault.Check)

-- "10: A to Z and digits; 21 characters; `HR` and nineteen digits; IBAN check": 3, 4, 5, 6
abbrev pub iban_verdict : List ℕ → Verdict
iban_verdict s = and_then (bytes_verdict Account s) (and_then (only_if (eqb (length s) 21) Fault.Length) (iban_check_verdict s))

-- "An OIB is eleven digits that pass": 3, 4, 6
abbrev pub oib_verdict : List ℕ → Verdict
oib_verdict s = and_then (bytes_verdict Digits s) (and_then (only_if (eqb (length s) 11) Fault.Length) (only_if (oib_passes s) Fault.Check))
