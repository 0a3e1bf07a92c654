-- Demand 2, check digits, accounts and references: accepted exactly when, of the calls `lanecockle_iban`, `lanecockle_oib`, `lanecockle_reference`,
-- `lanecockle_check_digits` and `lanecockle_make_digit`. Assumes nothing.
use Rattle.refusal.proofs.Basics.{◌≡◌, refl, arith, ℕ, ◌+◌, ◌<◌, length, List, [], ◌∷◌, ◌++◌, Bool, true, false, cond, ◌&&◌, eqb, ◌↔◌, ◌⊎◌, inl, inr}
use Rattle.std.specs.Prelude.{Err, Ok, Result}
use Rattle.refusal.specs.declared.Refusal.{Refusal}
use Rattle.refusal.specs.Refusal.{refusal_number}
use Rattle.verdict.specs.Verdict.{Verdict, passed, Within}
use Rattle.verdict.specs.declared.Fault.TheVariants.{Byte, Length, Form, Check, Model, Parts, Digit, Misplaced, Date, Orders, Sum}
use Rattle.classes.specs.declared.Class.TheVariants.{Digits}
use Rattle.text.specs.Bytes.{all_of}
use Rattle.check_digits.specs.declared.Rule.{Rule}
use Rattle.check_digits.specs.declared.Rule.TheVariants.{Ini, Mod1110}
use Rattle.check_digits.specs.Answers.{check_answer, make_answer}
use Rattle.check_digits.proofs.Theorems.{made_is_checked}
use Rattle.account.specs.Account.{oib_passes}
use Rattle.account.specs.Answers.{is_iban, iban_verdict, oib_verdict}
use Rattle.account.proofs.Theorems.{iban_field_exactly, oib_accepted_exactly, with_digits, no_iban_of_00_01_99, iban_within, oib_within}
use Rattle.reference.specs.Answers.{reference_verdict}
use Rattle.reference.proofs.Theorems.{RightReference, reference_accepted_exactly, reference_within}
use Rattle.boundary.specs.declared.Told.{Told}
use Rattle.boundary.specs.declared.Valued.{Valued}
use Rattle.boundary.specs.Told.{valued, no_rule, told_of, value_told, verdict_told}
use Rattle.boundary.proofs.Theorems.{number_not_zero}
use Rattle.promises.proofs.Laws.{told_zero, verdict_zero}
use Rattle.promises.specs.Calls.{EveryCheckDigits, EveryMakeDigit, EveryIban, EveryOib, EveryReference}

-- ---------------------------------------------------------------------------
-- Accepted exactly when

-- an IBAN is accepted exactly when it is `HR` and nineteen digits that pass its check
pub iban_exactly : EveryIban (λ text r. (r.number ≡ 0) ↔ (is_iban text ≡ true))
iban_exactly κs a z w call = verdict_zero (iban_verdict a.0.now) z call (iban_field_exactly a.0.now)

-- no IBAN with check digits 00, 01 or 99 is accepted
pub iban_not_00_01_99 : EveryIban (λ text r. (s : List ℕ) → (text ≡ with_digits 48 48 s) ⊎ ((text ≡ with_digits 48 49 s) ⊎ (text ≡ with_digits 57 57 s)) → r.number ≡ 0 → ⊥)
iban_not_00_01_99 κs a z w call s digits h =
    go a.0.now digits ((verdict_zero (iban_verdict a.0.now) z call (λ e. e, λ e. e)).0 h)
  where
    go : (text : List ℕ) → (text ≡ with_digits 48 48 s) ⊎ ((text ≡ with_digits 48 49 s) ⊎ (text ≡ with_digits 57 57 s)) → iban_verdict text ≡ passed → ⊥
    go text (inl e) v = (no_iban_of_00_01_99 s).0 (rw e at v)
    go text (inr (inl e)) v = (no_iban_of_00_01_99 s).1 (rw e at v)
    go text (inr (inr e)) v = (no_iban_of_00_01_99 s).2 (rw e at v)

-- an OIB is accepted exactly when it is eleven digits that pass
pub oib_exactly : EveryOib (λ text r. (r.number ≡ 0) ↔ ((all_of Digits text && (eqb (length text) 11 && oib_passes text)) ≡ true))
oib_exactly κs a z w call = verdict_zero (oib_verdict a.0.now) z call (oib_accepted_exactly a.0.now)

-- a reference is accepted exactly when it is one of its model
pub reference_exactly : EveryReference (λ model text r. (r.number ≡ 0) ↔ RightReference model text)
reference_exactly κs a z w call =
    verdict_zero (reference_verdict a.0.now a.1.0.now) z call (reference_accepted_exactly a.0.now a.1.0.now)

-- ---------------------------------------------------------------------------
-- A 3 tells a byte of the text

-- a verdict that is told as 3 has its byte among n
byte_told : (n : ℕ) (v : Verdict) (z : Told) → z ≡ verdict_told v → Within n v → z.number ≡ 3 → z.byte < n
unfolding told_of
byte_told n v z e within h = rw e (go v within (rw e at h))
  where
    go : (x : Verdict) → Within n x → (verdict_told x).number ≡ 3 → (verdict_told x).byte < n
    go (Ok u) w g = absurd (omega arith)
    go (Err (Byte i)) w g = w i refl
    go (Err Length) w g = absurd (omega arith)
    go (Err Form) w g = absurd (omega arith)
    go (Err Check) w g = absurd (omega arith)
    go (Err Model) w g = absurd (omega arith)
    go (Err Parts) w g = absurd (omega arith)
    go (Err Digit) w g = absurd (omega arith)
    go (Err Misplaced) w g = absurd (omega arith)
    go (Err Date) w g = absurd (omega arith)
    go (Err Orders) w g = absurd (omega arith)
    go (Err Sum) w g = absurd (omega arith)

-- of an IBAN, of an OIB and of a reference
pub iban_byte_within : EveryIban (λ text r. r.number ≡ 3 → r.byte < length text)
iban_byte_within κs a z w call = byte_told _ _ z call (iban_within a.0.now)

pub oib_byte_within : EveryOib (λ text r. r.number ≡ 3 → r.byte < length text)
oib_byte_within κs a z w call = byte_told _ _ z call (oib_within a.0.now)

pub reference_byte_within : EveryReference (λ model text r. r.number ≡ 3 → r.byte < length text)
reference_byte_within κs a z w call = byte_told _ _ z call (reference_within a.0.now a.1.0.now)

-- ---------------------------------------------------------------------------
-- Made and checked

-- by one rule
made_checked :
    (rule : Rule) (s : List ℕ) (m : Result ℕ Refusal) → make_answer rule s ≡ m → (z : Valued) → z ≡ value_told m → z.told.number ≡ 0
    → (c : ℕ) (r : Told) → r ≡ told_of (check_answer rule (s ++ (c ∷ []))) → (r.number ≡ 0) ↔ (c ≡ 48 + z.value)
unfolding value_told
made_checked rule s (Ok d) m z e h c r q =
    let exactly = made_is_checked rule s d m c in
    let zero = told_zero _ r q in
    rw e (λ k. exactly.0 (zero.0 k), λ k. zero.1 (exactly.1 k))
made_checked rule s (Err x) m z e h c r q = let k : refusal_number x ≡ 0 = rw e at h in absurd (omega (arith, number_not_zero x))

-- by the rule of a number
rule_checked :
    (b₀ b₁ : Bool) (s : List ℕ) (z : Valued) → z ≡ cond b₀ (value_told (make_answer Ini s)) (cond b₁ (value_told (make_answer Mod1110 s)) (valued no_rule 0)) → z.told.number ≡ 0
    → (c : ℕ) (r : Told) → r ≡ cond b₀ (told_of (check_answer Ini (s ++ (c ∷ [])))) (cond b₁ (told_of (check_answer Mod1110 (s ++ (c ∷ [])))) no_rule)
    → (r.number ≡ 0) ↔ (c ≡ 48 + z.value)
rule_checked true b₁ s z e h c r q = made_checked Ini s (make_answer Ini s) refl z e h c r q
rule_checked false true s z e h c r q = made_checked Mod1110 s (make_answer Mod1110 s) refl z e h c r q
rule_checked false false s z e h c r q = let k : ◌≡◌ {A = ℕ} 5 0 = rw e at h in absurd (omega arith)

-- of the digit that was made: the digits with it behind them are accepted under the same rule, and with no other byte
pub made_is_accepted :
    EveryMakeDigit (λ rule digits made. made.told.number ≡ 0 →
    EveryCheckDigits (λ rule' text r. rule' ≡ rule → (c : ℕ) → text ≡ digits ++ (c ∷ []) → (r.number ≡ 0) ↔ (c ≡ 48 + made.value)))
made_is_accepted κs a z w call h κs' a' z' w' call' same c e =
    rule_checked (eqb a.0 0) (eqb a.0 1) a.1.0.now z call h c z' (rw (same, e) at call')
