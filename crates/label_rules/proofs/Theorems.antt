-- What is promised of the rules of a 300: the byte that a verdict tells lies within its place.
-- Assumes nothing.
use Rattle.refusal.proofs.Basics.{ℕ, length, List, true, false, eqb}
use Rattle.verdict.specs.Verdict.{Within}
use Rattle.verdict.proofs.Verdicts.{pass_within, choice_within}
use Rattle.classes.specs.declared.Class.TheVariants.{Digits}
use Rattle.text.proofs.Laws.{bytes_within}
use Rattle.wage_places.specs.declared.LineType.TheVariants.{Label}
use Rattle.wage_places.specs.Places.{part_of}
use Rattle.wage_contents.proofs.Within.{among_within, oib_within, employer_within, date_within}
use Rattle.label_rules.specs.Rules.{label_rule}

-- a rule tells a byte of the bytes that it was given
pub label_within : (day n : ℕ) (f s : List ℕ) → Within (length f) (label_rule day n f s)
label_within day n f s =
    let or = choice_within (length f) in
    or (eqb n 1) _ _ (date_within day day f)
    (or (eqb n 2) _ _ (among_within 4 5 5 f)
    (or (eqb n 3) _ _ (among_within 0 0 0 f)
    (or (eqb n 4) _ _ (among_within 1 2 2 f)
    (or (eqb n 5) _ _ (oib_within true f)
    (or (eqb n 6) _ _ (bytes_within Digits f)
    (or (eqb n 7) _ _ (employer_within (part_of Label 5 s) (part_of Label 6 s) f)
    (or (eqb n 8) _ _ (oib_within false f) (pass_within (length f)))))))))
