-- Laws that this crate's proofs share, of an IBAN's place.
-- Assumes nothing.
use Rattle.refusal.proofs.Basics.{◌≡◌, refl, sym, ap, ◌∙◌, ℕ, take, drop, take-append-drop, eqb-true, List, Bool, true, false, cond, ◌&&◌, or_first, both_true}
use Rattle.text.specs.Bytes.{bytes_verdict, all_of}
use Rattle.classes.specs.declared.Class.TheVariants.{Account, Blanks, Place}
use Rattle.text.proofs.Laws.{all_joined, all_wider, all_passes, passes_all}
use Rattle.account.specs.Account.{iban_formed, iban_passes}
use Rattle.account.specs.Answers.{is_iban}
use Rattle.account.proofs.Laws.{formed_permitted}
use Rattle.std.specs.Prelude.{Ok}
use Rattle.verdict.specs.Verdict.{passed}
use Rattle.verdict.proofs.Verdicts.{pass_both}
use Rattle.wage_contents.specs.Contents.{iban_place_verdict}

-- blanks are bytes that an IBAN's place permits
pub blanks_placed : (f : List ℕ) → all_of Blanks f ≡ true → all_of Place f ≡ true
blanks_placed f e = all_wider Blanks Place (λ x b. rw (eqb-true x 32 b)) f e

-- an IBAN with blanks behind it is bytes that its place permits
account_placed : (f : List ℕ) → all_of Blanks (drop 21 f) ≡ true → iban_formed (take 21 f) ≡ true → all_of Place f ≡ true
account_placed f e g =
    sym (ap (all_of Place) (take-append-drop 21 f))
    ∙ all_joined Place (take 21 f) (drop 21 f) (all_wider Account Place (λ x d. sym (or_first _ _ d)) (take 21 f) (passes_all Account (take 21 f) (formed_permitted (take 21 f) g)))
    (blanks_placed (drop 21 f) e)

-- so nothing is refused of it
pub account_right : (blank : Bool) (f : List ℕ) → (all_of Blanks (drop 21 f) && is_iban (take 21 f)) ≡ true → Ok tt ≡ iban_place_verdict blank f
unfolding iban_place_verdict
account_right blank f e =
    let a = both_true (all_of Blanks (drop 21 f)) (is_iban (take 21 f)) e in
    let b = both_true (iban_formed (take 21 f)) (iban_passes (take 21 f)) a.1 in
    sym (pass_both (bytes_verdict Place f) _ (all_passes Place f (account_placed f a.0 b.0)) (rw (a.0, b.0, b.1) (either (blank && all_of Blanks f))))
  where
    either : (t : Bool) → cond t passed passed ≡ passed
    either true = refl
    either false = refl
