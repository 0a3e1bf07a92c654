-- `check_digits::ends_right` meets its contract: the part before the last byte is what its check digit is made of. Assumes nothing.
use Rattle.refusal.proofs.Basics.{◌≡◌, refl, sym, ap, ◌∙◌, arith, ℕ, ◌+◌, ◌-◌, length, lt-ltb, le-ltb, List, [], ◌∷◌, ◌++◌, length-append, take-append_seam, get_or-append_seam, eqb, and_first}
use Rattle.text.specs.Digits.{digits_of}
use Rattle.check_digits.specs.declared.Rule.{Rule}
use Rattle.check_digits.specs.CheckDigit.{check_digit, passes}
use Rattle.check_digits.proofs.Theorems.{check_digit_small}
use Rattle.check_digits.proofs.ends_right.Goals as goal

-- a last byte, and those before it
passes_at : (rule : Rule) (s : List ℕ) (b : ℕ) → eqb b (48 + check_digit rule (digits_of s)) ≡ passes rule (s ++ (b ∷ []))
unfolding passes
passes_at rule s b =
    let n = length-append s (b ∷ []) in
    let e : length (s ++ (b ∷ [])) - 1 ≡ length s = omega arith in
    rw (lt-ltb 0 (length (s ++ (b ∷ []))) (omega arith), e, get_or-append_seam s b [] 0, take-append_seam s (b ∷ [])) refl

pub returns-in_default : goal.returns-in_default
unfolding passes
returns-in_default c = and_first _ _ (le-ltb 0 (length c.args.s.now) (omega (arith, c.in_default.ensures.cases)))

pub overflow_add-result : goal.overflow_add-result
overflow_add-result c = omega (arith, c.check_digit.ensures, check_digit_small c.args.rule (digits_of c.in-Some.before.now))

pub returns : goal.returns
returns c =
    ap (λ (d : ℕ). eqb c.in-Some.last.now (48 + d)) c.check_digit.ensures
    ∙ passes_at c.args.rule c.in-Some.before.now c.in-Some.last.now
    ∙ ap (passes c.args.rule) (sym c.in-Some.ensures.cases.0)
