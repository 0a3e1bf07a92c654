-- What acceptance of a place's content means: each verdict refuses nothing exactly when a plain test holds.
-- Assumes nothing.
use Rattle.refusal.proofs.Basics.{◌≡◌, refl, sym, arith, ℕ, ◌+◌, ◌-◌, ◌≤◌, length, take, drop, drop_of_length-le, eq-eqb, ne_eqb, eqb-true, leb-true, leb-false, le-leb, List, [], ◌∷◌, Bool, true, false, cond, not, ◌&&◌, ◌||◌, false≢true, eqb, leb, take_all, ◌↔◌, both_true}
use Rattle.verdict.specs.declared.Fault.{Fault}
use Rattle.verdict.specs.Verdict.{Verdict, passed, only_if}
use Rattle.verdict.proofs.Verdicts.{test_exactly, both_exactly}
use Rattle.text.specs.Bytes.{bytes_verdict, all_of, same, eur}
use Rattle.classes.specs.declared.Class.{Class}
use Rattle.classes.specs.declared.Class.TheVariants.{Digits, Blanks, Zeros, Place}
use Rattle.text.specs.Digits.{digits_of, value_from, value_of}
use Rattle.classes.specs.Classes.{is_digit}
use Rattle.classes.proofs.Laws.{digit_bounds}
use Rattle.text.proofs.Laws.{all_passes, passes_all}
use Rattle.text.proofs.Values.{value_keeps}
use Rattle.account.specs.Account.{oib_passes}
use Rattle.account.specs.Answers.{is_iban}
use Rattle.account.proofs.Theorems.{iban_accepted_exactly}
use Rattle.dates.specs.Dates.{is_date}
use Rattle.dates.proofs.Theorems.{date_bounds}
use Rattle.sums.specs.Sums.{number_in}
use Rattle.wage_contents.specs.Contents.{tested, one_of, two_of, among_verdict, oib_place_verdict, employer_verdict, date_verdict, iban_place_verdict, currency_verdict}
use Rattle.wage_contents.proofs.Laws.{blanks_placed, account_right}

-- refusing nothing exactly when a test holds
abbrev pub Exactly : Verdict → Bool → Type 0
Exactly v b = (v ≡ passed) ↔ (b ≡ true)

-- ---------------------------------------------------------------------------
-- Verdicts joined

-- one of two, by a test
either : (t : Bool) (v w : Verdict) (a b : Bool) → Exactly v a → Exactly w b → Exactly (cond t v w) (cond t a b)
either true v w a b p q = p
either false v w a b p q = q

-- nothing is refused where a test holds, else by the other
if_not : (t : Bool) (w : Verdict) (b : Bool) → Exactly w b → Exactly (cond t passed w) (t || b)
if_not true w b q = ((λ e. refl), (λ e. refl))
if_not false w b q = q

-- ---------------------------------------------------------------------------
-- Each content

-- bytes of a class
pub bytes_accepted : (k : Class) (f : List ℕ) → Exactly (bytes_verdict k f) (all_of k f)
bytes_accepted k f = (passes_all k f, all_passes k f)

-- 3, then a test
pub after_bytes : (k : Class) (f : List ℕ) (b : Bool) (n : Fault) → Exactly (tested k f b n) (all_of k f && b)
unfolding tested
after_bytes k f b n = both_exactly (bytes_verdict k f) (only_if b n) (all_of k f) b (bytes_accepted k f) (test_exactly b n)

-- digits, one of three numbers
pub among_accepted : (a b c : ℕ) (f : List ℕ) → Exactly (among_verdict a b c f) (all_of Digits f && one_of a b c (number_in f))
unfolding among_verdict
among_accepted a b c f = after_bytes Digits f _ Fault.Form

-- digits that write 0 are zeros
written_zeros : (f : List ℕ) → all_of Digits f ≡ true → value_of (digits_of f) ≡ 0 → all_of Zeros f ≡ true
unfolding all_of digits_of value_from
written_zeros [] e z = refl
written_zeros (b ∷ f) e z =
    let h = both_true (is_digit b) (all_of Digits f) e in
    let y : value_from (0 + (b - 48)) (digits_of f) ≡ 0 = rw h.0 at z in
    let x : b ≡ 48 = omega (arith, digit_bounds b h.0, value_keeps (0 + (b - 48)) (digits_of f)) in
    rw x (written_zeros f h.1 (rw x at y))

-- zeros are digits that write 0
zeros_written : (f : List ℕ) → all_of Zeros f ≡ true → (all_of Digits f ≡ true) × (value_of (digits_of f) ≡ 0)
unfolding all_of digits_of value_from
zeros_written [] e = (refl, refl)
zeros_written (b ∷ f) e = let h = both_true (eqb b 48) (all_of Zeros f) e in rw (eqb-true b 48 h.0) (zeros_written f h.1)

-- "`000`": digits that write 0 are zeros
pub zeros_accepted : (f : List ℕ) → length f ≤ 18 → Exactly (among_verdict 0 0 0 f) (all_of Zeros f)
zeros_accepted f h = (
  (λ e. let g = both_true (all_of Digits f) _ ((among_accepted 0 0 0 f).0 e) in written_zeros f g.0 (rw (take_all 18 f h) at (zero (eqb (number_in f) 0) refl g.1))),
  (λ e. let g = zeros_written f e in (among_accepted 0 0 0 f).1 (rw (take_all 18 f h, g.0, g.1))),
)
  where
    zero : (t : Bool) → eqb (number_in f) 0 ≡ t → (t || (t || t)) ≡ true → number_in f ≡ 0
    zero true e g = eqb-true (number_in f) 0 e
    zero false e g = absurd (false≢true g)

-- an OIB, or zeros where they may stand for none
pub oib_accepted : (absent : Bool) (f : List ℕ) → Exactly (oib_place_verdict absent f) (all_of Digits f && cond (all_of Zeros f) absent (oib_passes f))
unfolding oib_place_verdict
oib_accepted absent f =
    both_exactly (bytes_verdict Digits f) _ (all_of Digits f) (cond (all_of Zeros f) absent (oib_passes f)) (bytes_accepted Digits f)
    (either (all_of Zeros f) _ _ absent (oib_passes f) (test_exactly absent Fault.Form) (test_exactly (oib_passes f) Fault.Check))

-- "at least two of these three not zero"
pub employer_accepted : (before last f : List ℕ) → Exactly (employer_verdict before last f) (all_of Digits f && not (two_of (all_of Zeros before) (all_of Zeros last) (all_of Zeros f)))
unfolding employer_verdict
employer_accepted before last f = after_bytes Digits f _ Fault.Form

-- a date from one to another
pub date_accepted : (first last : ℕ) (f : List ℕ) → Exactly (date_verdict first last f) (all_of Digits f && (is_date (number_in f) && (leb first (number_in f) && leb (number_in f) last)))
unfolding date_verdict
date_accepted first last f = after_bytes Digits f _ Fault.Date

-- from a number to the same number: that number
alone : (a n : ℕ) → (leb a n && leb n a) ≡ eqb n a
alone a n = go (leb a n) (leb n a) refl refl
  where
    go : (b c : Bool) → leb a n ≡ b → leb n a ≡ c → (b && c) ≡ eqb n a
    go true true e f = sym (eq-eqb n a (omega (arith, leb-true a n e, leb-true n a f)))
    go true false e f = sym (ne_eqb n a (λ h. omega (arith, leb-false n a f)))
    go false c e f = sym (ne_eqb n a (λ h. omega (arith, leb-false a n e)))

-- "today"
pub today_accepted : (day : ℕ) (f : List ℕ) → Exactly (date_verdict day day f) (all_of Digits f && (is_date (number_in f) && eqb (number_in f) day))
today_accepted day f = rw (← alone day (number_in f)) (date_accepted day day f)

-- "date, today or later": no date is above the last of 9999
pub later_accepted : (day : ℕ) (f : List ℕ) → Exactly (date_verdict day 99991231 f) (all_of Digits f && (is_date (number_in f) && leb day (number_in f)))
later_accepted day f = rw (← last (number_in f) (is_date (number_in f)) (leb day (number_in f)) refl) (date_accepted day 99991231 f)
  where
    last : (n : ℕ) (t b : Bool) → is_date n ≡ t → (t && (b && leb n 99991231)) ≡ (t && b)
    last n true true e = le-leb n 99991231 (date_bounds n e).1
    last n true false e = refl
    last n false b e = refl

-- an IBAN with blanks behind it, or blank where that may be, among bytes that the place permits
placed_accepted : (blank : Bool) (f : List ℕ) → Exactly (iban_place_verdict blank f) (all_of Place f && ((blank && all_of Blanks f) || (all_of Blanks (drop 21 f) && is_iban (take 21 f))))
unfolding iban_place_verdict
placed_accepted blank f =
    let g = take 21 f in
    both_exactly (bytes_verdict Place f) _ (all_of Place f) ((blank && all_of Blanks f) || (all_of Blanks (drop 21 f) && is_iban g)) (bytes_accepted Place f)
    (if_not (blank && all_of Blanks f) _ (all_of Blanks (drop 21 f) && is_iban g)
    (both_exactly (only_if (all_of Blanks (drop 21 f)) Fault.Form) _ (all_of Blanks (drop 21 f)) (is_iban g) (test_exactly (all_of Blanks (drop 21 f)) Fault.Form)
    (iban_accepted_exactly g)))

-- an IBAN with blanks behind it, or blank where that may be: the place permits the bytes of both
pub iban_place_accepted : (blank : Bool) (f : List ℕ) → Exactly (iban_place_verdict blank f) ((blank && all_of Blanks f) || (all_of Blanks (drop 21 f) && is_iban (take 21 f)))
iban_place_accepted blank f = (
  (λ e. (both_true (all_of Place f) _ ((placed_accepted blank f).0 e)).1),
  (λ e. go (blank && all_of Blanks f) refl e),
)
  where
    go : (t : Bool) → (blank && all_of Blanks f) ≡ t → (t || (all_of Blanks (drop 21 f) && is_iban (take 21 f))) ≡ true → iban_place_verdict blank f ≡ passed
    go true e g = (placed_accepted blank f).1 (rw (blanks_placed f (both_true blank (all_of Blanks f) e).1, e))
    go false e g = sym (account_right blank f g)

-- of 21 bytes: an IBAN, or blank where that may be
pub iban_whole_accepted : (blank : Bool) (f : List ℕ) → length f ≡ 21 → Exactly (iban_place_verdict blank f) ((blank && all_of Blanks f) || is_iban f)
unfolding all_of
iban_whole_accepted blank f h = let g : length f ≤ 21 = omega arith in rw (drop_of_length-le f g, take_all 21 f g) at (iban_place_accepted blank f)

-- `EUR`, or blank where that may be
pub currency_accepted : (blank : Bool) (f : List ℕ) → Exactly (currency_verdict blank f) ((blank && all_of Blanks f) || same eur f)
unfolding currency_verdict
currency_accepted blank f = test_exactly ((blank && all_of Blanks f) || same eur f) Fault.Form
