-- Document 01, "The wage file", its list for 301: the rule of each place, by its field's number. f are the place's own bytes.
use Rattle.std.specs.Prelude.{ℕ, true, false, cond, List, eqb}
use Rattle.verdict.specs.Verdict.{Verdict, passed}
use Rattle.text.specs.Bytes.{bytes_verdict}
use Rattle.classes.specs.declared.Class.TheVariants.{Digits}
use Rattle.wage_contents.specs.Contents.{date_verdict, iban_place_verdict, currency_verdict}

-- "301: 1–21 IBAN; 22–24 `EUR`; 25–45 blank or IBAN; 46–48 blank or `EUR`; 49–53 number of orders; 54–73 sum in cents; 74–81 date, today or
-- later"; "Dates are YYYYMMDD, Gregorian, years 2023 to 9999"
abbrev pub group_rule : ℕ → ℕ → List ℕ → Verdict
group_rule day n f =
    cond (eqb n 1) (iban_place_verdict false f)
    (cond (eqb n 2) (currency_verdict false f)
    (cond (eqb n 3) (iban_place_verdict true f)
    (cond (eqb n 4) (currency_verdict true f)
    (cond (eqb n 5) (bytes_verdict Digits f)
    (cond (eqb n 6) (bytes_verdict Digits f)
    (cond (eqb n 7) (date_verdict day 99991231 f)
    passed))))))
