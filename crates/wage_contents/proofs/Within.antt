-- The byte that the refusal of a place's content tells lies within that place.
-- Assumes nothing.
use Rattle.refusal.proofs.Basics.{◌≡◌, refl, true, ℕ, length, take, drop, List, Bool, ◌&&◌, ◌||◌}
use Rattle.verdict.specs.declared.Fault.{Fault}
use Rattle.verdict.specs.Verdict.{only_if, Within}
use Rattle.verdict.proofs.Verdicts.{is_plain, pass_within, choice_within, then_within, only_within}
use Rattle.text.specs.Bytes.{bytes_verdict, all_of, same, eur}
use Rattle.classes.specs.declared.Class.{Class}
use Rattle.classes.specs.declared.Class.TheVariants.{Digits, Blanks, Zeros, Place}
use Rattle.text.proofs.Laws.{bytes_within}
use Rattle.account.specs.Account.{oib_passes}
use Rattle.account.proofs.Theorems.{iban_check_within}
use Rattle.wage_contents.specs.Contents.{tested, among_verdict, oib_place_verdict, employer_verdict, date_verdict, iban_place_verdict, currency_verdict}

-- 3, then a test
pub tested_within : (k : Class) (f : List ℕ) (b : Bool) (n : Fault) → is_plain n ≡ true → Within (length f) (tested k f b n)
unfolding tested
tested_within k f b n h = then_within (length f) (bytes_verdict k f) (only_if b n) (bytes_within k f) (only_within (length f) b n h)

pub among_within : (a b c : ℕ) (f : List ℕ) → Within (length f) (among_verdict a b c f)
unfolding among_verdict
among_within a b c f = tested_within Digits f _ Fault.Form refl

pub oib_within : (absent : Bool) (f : List ℕ) → Within (length f) (oib_place_verdict absent f)
unfolding oib_place_verdict
oib_within absent f =
    then_within (length f) (bytes_verdict Digits f) _ (bytes_within Digits f)
    (choice_within (length f) (all_of Zeros f) _ _ (only_within (length f) absent Fault.Form refl) (only_within (length f) (oib_passes f) Fault.Check refl))

pub employer_within : (before last f : List ℕ) → Within (length f) (employer_verdict before last f)
unfolding employer_verdict
employer_within before last f = tested_within Digits f _ Fault.Form refl

pub date_within : (first last : ℕ) (f : List ℕ) → Within (length f) (date_verdict first last f)
unfolding date_verdict
date_within first last f = tested_within Digits f _ Fault.Date refl

pub iban_place_within : (blank : Bool) (f : List ℕ) → Within (length f) (iban_place_verdict blank f)
unfolding iban_place_verdict
iban_place_within blank f =
    let n = length f in
    then_within n (bytes_verdict Place f) _ (bytes_within Place f)
    (choice_within n (blank && all_of Blanks f) _ _ (pass_within n)
    (then_within n _ _ (only_within n (all_of Blanks (drop 21 f)) Fault.Form refl) (iban_check_within n (take 21 f))))

pub currency_within : (blank : Bool) (f : List ℕ) → Within (length f) (currency_verdict blank f)
unfolding currency_verdict
currency_within blank f = only_within (length f) ((blank && all_of Blanks f) || same eur f) Fault.Form refl
