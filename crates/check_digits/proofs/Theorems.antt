-- What is promised of check digits, over any number of digits and both rules: exactly one digit completes any digits, and the made digit
-- is that one.
-- Assumes nothing.
use Rattle.refusal.proofs.Basics.{◌≡◌, refl, sym, ◌∙◌, arith, ℕ, ◌+◌, ◌-◌, ◌≤◌, ◌<◌, length, length-append, lt-ltb, le-leb, eq-eqb, eqb-true, leb-true, ltb-false, List, [], ◌∷◌, ◌++◌, Bool, true, false, cond, eqb, leb, ltb, lit<, take-append_seam, get_or-append_seam, mod-lt, ◌↔◌, chosen, both_true}
use Rattle.std.specs.Prelude.{Err, Ok}
use Rattle.refusal.specs.Refusal.{none}
use Rattle.refusal.specs.declared.Refusal.{Refusal}
use Rattle.refusal.specs.declared.Refusal.TheVariants.{Size, Byte}
use Rattle.classes.specs.declared.Class.TheVariants.{Digits}
use Rattle.refusal.proofs.Theorems.{refused_not_accepted}
use Rattle.text.specs.Bytes.{all_of}
use Rattle.text.specs.Digits.{digits_of}
use Rattle.text.proofs.Laws.{all_joined}
use Rattle.check_digits.specs.declared.Rule.{Rule}
use Rattle.check_digits.specs.declared.Rule.TheVariants.{Ini, Mod1110}
use Rattle.check_digits.specs.CheckDigit.{check_digit, digit_for, remainder, passes}
use Rattle.check_digits.specs.Answers.{sized, check_answer, make_answer}

-- ---------------------------------------------------------------------------
-- One digit completes any digits

-- a rule gives a digit for any remainder
pub digit_small : (rule : Rule) (r : ℕ) → digit_for rule r < 10
digit_small Ini r = go (ltb r 2) refl
  where
    go : (t : Bool) → ltb r 2 ≡ t → cond t 0 (11 - r) < 10
    go true e = lit< tt
    go false e = let h : 2 ≤ r = ltb-false r 2 e in omega arith
digit_small Mod1110 p = mod-lt (11 - p) (lit< tt)

-- it is a digit
pub check_digit_small : (rule : Rule) (ds : List ℕ) → check_digit rule ds < 10
unfolding check_digit
check_digit_small rule ds = digit_small rule (remainder rule ds)

-- with c after it, a text passes exactly when c is its check digit
pub passes_snoc : (rule : Rule) (s : List ℕ) (c : ℕ) → passes rule (s ++ (c ∷ [])) ≡ eqb c (48 + check_digit rule (digits_of s))
unfolding passes
passes_snoc rule s c =
    let n : length (s ++ (c ∷ [])) ≡ length s + 1 = length-append s (c ∷ []) in
    let m : length s + 1 - 1 ≡ length s = omega arith in
    rw (n, m, lt-ltb 0 (length s + 1) (omega arith), take-append_seam s (c ∷ []), get_or-append_seam s c [] 0)

-- so the made digit passes
pub made_digit_passes : (rule : Rule) (s : List ℕ) → passes rule (s ++ ((48 + check_digit rule (digits_of s)) ∷ [])) ≡ true
made_digit_passes rule s = passes_snoc rule s (48 + check_digit rule (digits_of s)) ∙ eq-eqb (48 + check_digit rule (digits_of s)) (48 + check_digit rule (digits_of s)) refl

-- and no other byte does
pub only_made_digit_passes : (rule : Rule) (s : List ℕ) (c : ℕ) → passes rule (s ++ (c ∷ [])) ≡ true → c ≡ 48 + check_digit rule (digits_of s)
only_made_digit_passes rule s c e = eqb-true c (48 + check_digit rule (digits_of s)) (sym (passes_snoc rule s c) ∙ e)

-- ---------------------------------------------------------------------------
-- Made and checked

-- a refusal is no digit
refused_no_digit : (r : Refusal) (d : ℕ) → Err r ≡ Ok d → ⊥
refused_no_digit r d e = let z : ◌≡◌ {A = ℕ} 0 1 = cc in omega arith

-- "For one to nineteen digits, a check digit is made by one of the last two rules: the one that passes": where the digit d is made, the text
-- with a byte behind it is accepted exactly when that byte is d
pub made_is_checked : (rule : Rule) (s : List ℕ) (d : ℕ) → make_answer rule s ≡ Ok d → (c : ℕ) → (check_answer rule (s ++ (c ∷ [])) ≡ Ok tt) ↔ (c ≡ 48 + d)
unfolding all_of
made_is_checked rule s d e c =
    let a = chosen (sized 1 19 s) _ _ _ (refused_no_digit (Size none) d) e in
    let b = chosen (all_of Digits s) _ _ _ (refused_no_digit (Byte none) d) a.1 in
    let m : check_digit rule (digits_of s) ≡ d = cc in
    let l = both_true (leb 1 (length s)) (leb (length s) 19) a.0 in
    let n : length (s ++ (c ∷ [])) ≡ length s + 1 = length-append s (c ∷ []) in
    let h = leb-true (length s) 19 l.1 in
    let t = s ++ (c ∷ []) in (
      λ g. only_made_digit_passes rule s c (chosen (passes rule t) _ _ _ (refused_not_accepted _) (chosen (all_of Digits t) _ _ _ (refused_not_accepted _) (chosen (sized 1 22 t) _ _ _ (refused_not_accepted _) g).1).1).0 ∙ rw m,
      λ g.
          let k : c ≡ 48 + check_digit rule (digits_of s) = g ∙ rw m in
          let j = check_digit_small rule (digits_of s) in
          let i : all_of Digits (c ∷ []) ≡ true = rw (le-leb 48 c (omega arith), le-leb c 57 (omega arith)) in
          rw (n, le-leb 1 (length s + 1) (omega arith), le-leb (length s + 1) 22 (omega arith), all_joined Digits s (c ∷ []) b.0 i, passes_snoc rule s c, eq-eqb c _ k),
    )
