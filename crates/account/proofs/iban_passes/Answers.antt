-- `account::iban_passes` meets its contract: the form decides first, then the check digits, then the number, taken in runs. Assumes nothing.
use Rattle.refusal.proofs.Basics.{◌≡◌, sym, ◌∙◌, rules, arith, take, drop, length-take, true, false, and_second}
use Rattle.text.specs.Digits.{value_of}
use Rattle.sums.proofs.Theorems.{number_of_all}
use Rattle.account.specs.Account.{check_digits, in_range, iban_formed}
use Rattle.account.proofs.Laws.{run_digits_lem, run_few, number_decides, range_fails}
use Rattle.account.proofs.iban_passes.Goals as goal

pub returns-then-not-contains : goal.returns-then-not-contains
returns-then-not-contains c = let s = c.args.s.now in
    let formed : iban_formed s ≡ true = sym c.is_iban_formed.ensures ∙ c.if-not-is_iban_formed.false in
    let check : c.number-k.result ≡ value_of (check_digits s) = c.number-k.ensures ∙ number_of_all (take 2 (drop 2 s)) (omega (arith, length-take 2 (drop 2 s))) in
    let range : in_range c.number-k.result ≡ false = search rules in
    and_second _ _ _ formed (range_fails s _ check range)

pub run_over-requires : goal.run_over-requires
run_over-requires c = let s = c.args.s.now in
    let formed : iban_formed s ≡ true = sym c.is_iban_formed.ensures ∙ c.if-not-is_iban_formed.false in
    search (rules, run_digits_lem s formed, run_few s formed)

pub run_over-requires-2 : goal.run_over-requires-2
run_over-requires-2 c = let s = c.args.s.now in
    let formed : iban_formed s ≡ true = sym c.is_iban_formed.ensures ∙ c.if-not-is_iban_formed.false in
    search (rules, run_digits_lem s formed, run_few s formed)

pub returns : goal.returns
returns c = let s = c.args.s.now in
    let formed : iban_formed s ≡ true = sym c.is_iban_formed.ensures ∙ c.if-not-is_iban_formed.false in
    let check : c.number-k.result ≡ value_of (check_digits s) = c.number-k.ensures ∙ number_of_all (take 2 (drop 2 s)) (omega (arith, length-take 2 (drop 2 s))) in
    let range : in_range c.number-k.result ≡ true = search rules in
    and_second _ _ _ formed (number_decides s formed c.number-k.result c.run_over.result c.run_over-2.result range check c.run_over.ensures.0 c.run_over-2.ensures.0)
