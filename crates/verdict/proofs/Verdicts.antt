-- Laws of verdicts: what a chain of rules answers, when it refuses nothing, and where its byte lies.
-- Assumes nothing.
use Rattle.refusal.proofs.Basics.{◌≡◌, refl, sym, ap, ◌∙◌, arith, ℕ, ◌≤◌, ◌<◌, Bool, true, false, cond, ◌&&◌, false≢true, ◌↔◌, both_true, and_second, ◌+◌, ◌-◌, le-leb, ne_eqb}
use Rattle.std.specs.Prelude.{Ok, Err}
use Rattle.refusal.specs.declared.Place.{Place}
use Rattle.refusal.specs.declared.Refusal.{Refusal}
use Rattle.refusal.specs.Refusal.{Answer, refusal_number, refusal_place, needed_of, first_of}
use Rattle.verdict.specs.declared.Fault.{Fault}
use Rattle.verdict.specs.declared.Fault.TheVariants.{Byte, Length, Form, Check, Model, Parts, Digit, Misplaced, Date, Orders, Sum}
use Rattle.verdict.specs.Verdict.{Verdict, passed, wrong_at, only_if, and_then, refusal_at, verdict_byte, answer_of, answer_in, Within, verdict_number, number_byte, number_answer, number_of}

-- ---------------------------------------------------------------------------
-- What a chain answers, as its code goes

-- the first rule refuses
pub refused : (v w r : Verdict) → (v ≡ passed → ⊥) → r ≡ v → r ≡ and_then v w
refused (Ok u) w r h e = absurd (h refl)
refused (Err f) w r h e = e

-- it refuses nothing: what answers the rest answers the whole
pub goes_on : (v w r : Verdict) → v ≡ passed → r ≡ w → r ≡ and_then v w
goes_on v w r h e = rw h e

-- a test fails
pub failed : (b : Bool) (f : Fault) (w : Verdict) → b ≡ false → Err f ≡ and_then (only_if b f) w
failed b f w e = rw e

-- it holds: what answers the rest answers the whole
pub met : (b : Bool) (f : Fault) (w r : Verdict) → b ≡ true → r ≡ w → r ≡ and_then (only_if b f) w
met b f w r e h = rw e h

-- ---------------------------------------------------------------------------
-- Refusing nothing

-- a fault refuses something
pub fault_no_pass : {P : Type 0} (f : Fault) → ◌≡◌ {A = Verdict} (Err f) passed → P
fault_no_pass f e = let z : ◌≡◌ {A = ℕ} 0 1 = cc in absurd (omega arith)

pub refusal_no_pass : {P : Type 0} (r : Refusal) → ◌≡◌ {A = Answer} (Err r) (Ok tt) → P
refusal_no_pass r e = let z : ◌≡◌ {A = ℕ} 0 1 = cc in absurd (omega arith)

-- two rules refuse nothing where each does
pub both_pass : (v w : Verdict) → and_then v w ≡ passed → (v ≡ passed) × (w ≡ passed)
both_pass (Ok u) w e = (refl, e)
both_pass (Err f) w e = fault_no_pass f e

pub pass_both : (v w : Verdict) → v ≡ passed → w ≡ passed → and_then v w ≡ passed
pass_both v w e h = rw (e, h)

-- a test's rule where it refuses nothing
pub test_holds : (b : Bool) (f : Fault) → only_if b f ≡ passed → b ≡ true
test_holds true f e = refl
test_holds false f e = fault_no_pass f e

pub test_exactly : (b : Bool) (f : Fault) → (only_if b f ≡ passed) ↔ (b ≡ true)
test_exactly b f = (test_holds b f, λ e. rw e)

-- two rules, where both refuse nothing
pub both_exactly : (v w : Verdict) (a b : Bool) → (v ≡ passed) ↔ (a ≡ true) → (w ≡ passed) ↔ (b ≡ true) → (and_then v w ≡ passed) ↔ ((a && b) ≡ true)
both_exactly v w a b p q = (
  λ e. let h = both_pass v w e in sym (and_second a b true (p.0 h.0) (sym (q.0 h.1))),
  λ e. let h = both_true a b e in pass_both v w (p.1 h.0) (q.1 h.1),
)

-- an answer refuses nothing where its verdict does
pub answer_accepted : (v : Verdict) (field byte : ℕ) → answer_of v field byte ≡ Ok tt → v ≡ passed
answer_accepted (Ok u) field byte e = refl
answer_accepted (Err f) field byte e = refusal_no_pass _ e

pub accepted_answer : (v : Verdict) (field byte : ℕ) → v ≡ passed → answer_of v field byte ≡ Ok tt
accepted_answer v field byte e = rw e

-- two answers accept where both do
pub first_both : (a b : Answer) → first_of a b ≡ Ok tt → (a ≡ Ok tt) × (b ≡ Ok tt)
first_both (Ok u) b e = (refl, e)
first_both (Err r) b e = refusal_no_pass r e

-- of three, whichever two are joined first
pub first_joined : (a b c : Answer) → first_of a (first_of b c) ≡ first_of (first_of a b) c
first_joined (Ok u) b c = refl
first_joined (Err r) b c = refl

-- ---------------------------------------------------------------------------
-- What a refusal tells

-- a fault's is told of its place, and has no needed number
pub fault_told : (f : Fault) (p : Place) → (refusal_place (refusal_at f p) ≡ p) × (needed_of (refusal_at f p) ≡ 0)
fault_told (Byte i) p = (refl, refl)
fault_told Length p = (refl, refl)
fault_told Form p = (refl, refl)
fault_told Check p = (refl, refl)
fault_told Model p = (refl, refl)
fault_told Parts p = (refl, refl)
fault_told Digit p = (refl, refl)
fault_told Misplaced p = (refl, refl)
fault_told Date p = (refl, refl)
fault_told Orders p = (refl, refl)
fault_told Sum p = (refl, refl)

-- so is a verdict's
pub told_place_lem : (v : Verdict) (field byte : ℕ) (r : Refusal) → answer_of v field byte ≡ Err r → (refusal_place r ≡ record { line = 0; field = field; byte = byte }) × (needed_of r ≡ 0)
told_place_lem (Ok u) field byte r e = refusal_no_pass r (sym e)
told_place_lem (Err f) field byte r e =
    let z : refusal_at f (record { line = 0; field = field; byte = byte }) ≡ r = cc in
    rw (← z) (fault_told f _)

-- ---------------------------------------------------------------------------
-- A verdict's 3 tells a byte within the text

-- so it does in a text that is no shorter
pub wider_within : (m n : ℕ) (v : Verdict) → m ≤ n → Within m v → Within n v
wider_within m n v h w i e = let g = w i e in omega arith

-- every fault but a 3
abbrev pub is_plain : Fault → Bool
is_plain (Byte i) = false
is_plain Length = true
is_plain Form = true
is_plain Check = true
is_plain Model = true
is_plain Parts = true
is_plain Digit = true
is_plain Misplaced = true
is_plain Date = true
is_plain Orders = true
is_plain Sum = true

module _ (n : ℕ) where
  pub pass_within : Within n passed
  pass_within i e = fault_no_pass (Byte i) (sym e)

  pub plain_within : (f : Fault) → is_plain f ≡ true → Within n (Err f)
  plain_within f h i e = let z : f ≡ Byte i = cc in absurd (false≢true (ap is_plain (sym z) ∙ h))

  -- a 3 at a byte of the text
  pub byte_at_within : (i : ℕ) → i < n → Within n (wrong_at i)
  byte_at_within i h k e = let z : i ≡ k = cc in omega arith

  pub choice_within : (b : Bool) (v w : Verdict) → Within n v → Within n w → Within n (cond b v w)
  choice_within true v w g h = g
  choice_within false v w g h = h

  pub then_within : (v w : Verdict) → Within n v → Within n w → Within n (and_then v w)
  then_within (Ok u) w g h = h
  then_within (Err f) w g h = g

  pub only_within : (b : Bool) (f : Fault) → is_plain f ≡ true → Within n (only_if b f)
  only_within b f h = choice_within b passed (Err f) pass_within (plain_within f h)

  -- so its byte is a place of the text, or its first
  pub byte_within : (v : Verdict) → Within n v → verdict_byte v ≤ n
  byte_within (Ok u) w = omega arith
  byte_within (Err (Byte i)) w = let h = w i refl in omega arith
  byte_within (Err Length) w = omega arith
  byte_within (Err Form) w = omega arith
  byte_within (Err Check) w = omega arith
  byte_within (Err Model) w = omega arith
  byte_within (Err Parts) w = omega arith
  byte_within (Err Digit) w = omega arith
  byte_within (Err Misplaced) w = omega arith
  byte_within (Err Date) w = omega arith
  byte_within (Err Orders) w = omega arith
  byte_within (Err Sum) w = omega arith

-- ---------------------------------------------------------------------------
-- No rule says 29

pub never_29 : (f : Fault) (p : Place) → refusal_number (refusal_at f p) ≡ 29 → ⊥
never_29 (Byte i) p e = omega arith
never_29 Length p e = omega arith
never_29 Form p e = omega arith
never_29 Check p e = omega arith
never_29 Model p e = omega arith
never_29 Parts p e = omega arith
never_29 Digit p e = omega arith
never_29 Misplaced p e = omega arith
never_29 Date p e = omega arith
never_29 Orders p e = omega arith
never_29 Sum p e = omega arith

-- and so has what is told of it
pub answer_never_29 : (v : Verdict) (field byte : ℕ) (r : Refusal) → answer_of v field byte ≡ Err r → refusal_number r ≡ 29 → ⊥
answer_never_29 (Ok u) field byte r e h = refusal_no_pass r (sym e)
answer_never_29 (Err f) field byte r e h =
    let z : refusal_at f (record { line = 0; field = field; byte = byte }) ≡ r = cc in
    never_29 f _ (ap (λ (x : Refusal). refusal_number x) z ∙ h)

-- ---------------------------------------------------------------------------
-- A verdict's number says what the verdict says

pub number_answers : (field : ℕ) (v : Verdict) → number_answer field (number_of v) ≡ answer_in field v
number_answers field (Ok u) = refl
number_answers field (Err (Byte i)) =
    let b : 32 + i - 32 ≡ i = omega arith in
    rw (ne_eqb (32 + i) 0 (λ q. omega arith), le-leb 32 (32 + i) (omega arith), b)
number_answers field (Err Length) = refl
number_answers field (Err Form) = refl
number_answers field (Err Check) = refl
number_answers field (Err Model) = refl
number_answers field (Err Parts) = refl
number_answers field (Err Digit) = refl
number_answers field (Err Misplaced) = refl
number_answers field (Err Date) = refl
number_answers field (Err Orders) = refl
number_answers field (Err Sum) = refl
