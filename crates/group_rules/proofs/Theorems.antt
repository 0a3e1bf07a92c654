-- What is promised of the rules of a 301: the byte that a verdict tells lies within its place.
-- Assumes nothing.
use Rattle.refusal.proofs.Basics.{ℕ, length, List, true, false, eqb}
use Rattle.verdict.specs.Verdict.{Within}
use Rattle.verdict.proofs.Verdicts.{pass_within, choice_within}
use Rattle.classes.specs.declared.Class.TheVariants.{Digits}
use Rattle.text.proofs.Laws.{bytes_within}
use Rattle.wage_contents.proofs.Within.{date_within, iban_place_within, currency_within}
use Rattle.group_rules.specs.Rules.{group_rule}

-- a rule tells a byte of the bytes that it was given
pub group_within : (day n : ℕ) (f : List ℕ) → Within (length f) (group_rule day n f)
group_within day n f =
    let or = choice_within (length f) in
    or (eqb n 1) _ _ (iban_place_within false f)
    (or (eqb n 2) _ _ (currency_within false f)
    (or (eqb n 3) _ _ (iban_place_within true f)
    (or (eqb n 4) _ _ (currency_within true f)
    (or (eqb n 5) _ _ (bytes_within Digits f)
    (or (eqb n 6) _ _ (bytes_within Digits f)
    (or (eqb n 7) _ _ (date_within day 99991231 f) (pass_within (length f))))))))
