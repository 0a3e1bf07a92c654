-- What is promised of the rules of a 309: the byte that a verdict tells lies within its place.
-- Assumes nothing.
use Rattle.refusal.proofs.Basics.{ℕ, length, List, true, false, not, eqb}
use Rattle.verdict.specs.Verdict.{Within}
use Rattle.verdict.proofs.Verdicts.{pass_within, choice_within}
use Rattle.classes.specs.declared.Class.TheVariants.{Digits}
use Rattle.text.proofs.Laws.{bytes_within}
use Rattle.wage_places.specs.declared.LineType.TheVariants.{Order}
use Rattle.wage_places.specs.Places.{part_of}
use Rattle.wage_contents.proofs.Within.{among_within, oib_within, iban_place_within, currency_within}
use Rattle.order_contents.specs.Contents.{held_in, held_blank}
use Rattle.order_contents.proofs.Within.{purpose_within, sign_within, held_within, reference_within, description_within, code_within}
use Rattle.order_rules.specs.Rules.{order_rule}

-- a rule tells a byte of the bytes that it was given
pub order_within : (kind n : ℕ) (f s : List ℕ) → Within (length f) (order_rule kind n f s)
order_within kind n f s =
    let or = choice_within (length f) in
    or (eqb n 1) _ _ (iban_place_within false f)
    (or (eqb n 5) _ _ (among_within 0 191 191 f)
    (or (eqb n 6) _ _ (held_within (held_in f) (length f))
    (or (eqb n 7) _ _ (reference_within (held_in (part_of Order 6 s)) f)
    (or (eqb n 8) _ _ (purpose_within f)
    (or (eqb n 9) _ _ (description_within f)
    (or (eqb n 10) _ _ (bytes_within Digits f)
    (or (eqb n 11) _ _ (held_within (held_in f) (length f))
    (or (eqb n 12) _ _ (reference_within (held_in (part_of Order 11 s)) f)
    (or (eqb n 18) _ _ (among_within 0 1 2 f)
    (or (eqb n 19) _ _ (currency_within true f)
    (or (eqb n 20) _ _ (sign_within 32 48 51 f)
    (or (eqb n 21) _ _ (sign_within 32 48 48 f)
    (or (eqb n 22) _ _ (code_within kind (held_blank (held_in (part_of Order 11 s))) f)
    (or (eqb n 23) _ _ (oib_within (not (eqb kind 5)) f) (pass_within (length f))))))))))))))))
