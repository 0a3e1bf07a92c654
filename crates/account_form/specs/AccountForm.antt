-- Document 02, W1: field 10 of a kuna slip, "an IBAN or seven digits, a hyphen and ten digits (an account starts with a digit)".
use Rattle.std.specs.Prelude.{ℕ, Bool, cond, ◌&&◌, List, eqb, length, get_or, take, drop}
use Rattle.verdict.specs.Verdict.{Verdict, only_if, and_then}
use Rattle.verdict.specs.declared.Fault.{Fault}
use Rattle.classes.specs.Classes.{is_digit}
use Rattle.classes.specs.declared.Class.TheVariants.{Digits, AccountForm}
use Rattle.text.specs.Bytes.{all_of, bytes_verdict}
use Rattle.account.specs.Answers.{iban_verdict}

-- "seven digits, a hyphen and ten digits", 18 bytes; a hyphen is 45
abbrev pub account_formed : List ℕ → Bool
account_formed s =
    eqb (length s) 18 && (eqb (get_or s 7 0) 45 && (all_of Digits (take 7 s) && all_of Digits (drop 8 s)))

-- "The account form gets size 4 (18 bytes) and form 5 as an IBAN does; no check. Its hyphen is a permitted byte there": 3, 4, 5
abbrev pub account_form_verdict : List ℕ → Verdict
account_form_verdict s = and_then (bytes_verdict AccountForm s) (and_then (only_if (eqb (length s) 18) Fault.Length) (only_if (account_formed s) Fault.Form))

-- "an account starts with a digit"; what does not is an IBAN
abbrev pub account_or_iban_verdict : List ℕ → Verdict
account_or_iban_verdict s = cond (is_digit (get_or s 0 0)) (account_form_verdict s) (iban_verdict s)
