-- What an accepted field of each kind is: its bytes, its length, and that no line feed stands in it.
-- Assumes nothing.
use Rattle.refusal.proofs.Basics.{◌≡◌, refl, sym, ap, ◌∙◌, arith, ℕ, zero, suc, ◌*◌, ◌≤◌, ◌<◌, length, get_or, eqb-true, eq-eqb, ne_eqb, List, [], ◌∷◌, Bool, true, false, false≢true, cond, not, ◌&&◌, ◌||◌, or-true, eqb, ◌↔◌, ◌⊎◌, inl, inr, ⊎_elim, both_true, and_second}
use Rattle.std.specs.Prelude.{Option, Some, None, is_none}
use Rattle.verdict.specs.Verdict.{Verdict, passed}
use Rattle.verdict.specs.declared.Fault.{Fault}
use Rattle.verdict.proofs.Verdicts.{both_pass, test_holds}
use Rattle.classes.specs.Classes.{is_digit, permits}
use Rattle.text.specs.Bytes.{all_of, bytes_verdict, same}
use Rattle.text.specs.Digits.{two_digits}
use Rattle.classes.specs.declared.Class.{Class}
use Rattle.classes.specs.declared.Class.TheVariants.{Account, AccountForm, Reference, Line}
use Rattle.classes.proofs.Laws.{digit_bounds}
use Rattle.text.proofs.Laws.{all_passes, passes_all}
use Rattle.characters.specs.Answers.{characters_verdict}
use Rattle.characters.proofs.Theorems as texts
use Rattle.account.specs.Answers.{iban_verdict}
use Rattle.account_form.specs.AccountForm.{account_form_verdict}
use Rattle.model_text.specs.Texts.{model_verdict}
use Rattle.model_text.proofs.Theorems.{model_accepted_exactly}
use Rattle.reference.specs.Answers.{reference_verdict}
use Rattle.reference.proofs.Theorems.{reference_accepted_exactly}
use Rattle.slip_fields.specs.declared.Currency.{Currency}
use Rattle.slip_fields.specs.declared.Currency.TheVariants.{Euro, Kuna}
use Rattle.slip_fields.specs.Fields.{word_verdict, sized_verdict, payee_verdict}
use Rattle.text.proofs.Same.{same_equal}

-- ---------------------------------------------------------------------------
-- Choices

-- what follows of either answer where it accepts follows of the choice between them
pub either : {A : Type 0} (t : Bool) (x y : Verdict) → (x ≡ passed → A) → (y ≡ passed → A) → cond t x y ≡ passed → A
either true x y p q e = p e
either false x y p q e = q e

-- ---------------------------------------------------------------------------
-- No line feed

-- a text with a line feed at no place
free_by_places : (s : List ℕ) → ((i : ℕ) → i < length s → get_or s i 0 ≡ 10 → ⊥) → all_of Line s ≡ true
unfolding all_of
free_by_places [] h = refl
free_by_places (b ∷ s) h =
    rw (ne_eqb b 10 (h 0 (omega arith)))
    (free_by_places s (λ i l e. h (suc i) (omega arith) e))

-- a byte that a test permits is no line feed, where the test does not permit that
no_ten : (p : ℕ → Bool) → p 10 ≡ false → (b : ℕ) → p b ≡ true → not (eqb b 10) ≡ true
no_ten p n b e = go (eqb b 10) refl
  where
    go : (t : Bool) → eqb b 10 ≡ t → not t ≡ true
    go true q = let g : p b ≡ false = ap p (eqb-true b 10 q) ∙ n in let z : ◌≡◌ {A = ℕ} 0 1 = cc in absurd (omega arith)
    go false q = refl

-- a text of a class that does not permit a line feed
free_by_class : (k : Class) → permits k 10 ≡ false → (s : List ℕ) → all_of k s ≡ true → all_of Line s ≡ true
unfolding all_of
free_by_class k n [] e = refl
free_by_class k n (b ∷ s) e =
    let h = both_true (permits k b) (all_of k s) e in
    sym (and_second (not (eqb b 10)) (all_of Line s) true (no_ten (permits k) n b h.0) (sym (free_by_class k n s h.1)))

-- ---------------------------------------------------------------------------
-- Words

-- an accepted word is the word
pub word_is : (w s : List ℕ) → word_verdict w s ≡ passed → s ≡ w
word_is w s e = same_equal w s (test_holds (same w s) Fault.Form e)

-- and where the word has no line feed, the field has none
pub word_free : (w s : List ℕ) → all_of Line w ≡ true → word_verdict w s ≡ passed → all_of Line s ≡ true
word_free w s h e = rw (word_is w s e) h

-- ---------------------------------------------------------------------------
-- Bytes of a class

-- a field that begins with its bytes' rule has bytes of that class, and none is a line feed where the class permits none
pub class_free : (k : Class) → permits k 10 ≡ false → (s : List ℕ) → bytes_verdict k s ≡ passed → all_of Line s ≡ true
class_free k n s e = free_by_class k n s (passes_all k s e)

-- amounts and purposes: bytes of a class, and one of two lengths
pub sized_exactly : (k : Class) (a b : ℕ) (s : List ℕ) → (sized_verdict k a b s ≡ passed) ↔ ((all_of k s ≡ true) × ((length s ≡ a) ⊎ (length s ≡ b)))
sized_exactly k a b s = (
  λ e. let h = both_pass (bytes_verdict k s) _ e in (passes_all k s h.0, go (eqb (length s) a) (eqb (length s) b) refl refl (test_holds _ Fault.Length h.1)),
  λ w. rw (all_passes k s w.0, sized w.1),
)
  where
    go : (t u : Bool) → eqb (length s) a ≡ t → eqb (length s) b ≡ u → (t || u) ≡ true → (length s ≡ a) ⊎ (length s ≡ b)
    go true u f g h = inl (eqb-true (length s) a f)
    go false true f g h = inr (eqb-true (length s) b g)
    go false false f g h = let z : ◌≡◌ {A = ℕ} 0 1 = cc in absurd (omega arith)

    sized : (length s ≡ a) ⊎ (length s ≡ b) → (eqb (length s) a || eqb (length s) b) ≡ true
    sized (inl e) = rw (eq-eqb (length s) a e)
    sized (inr e) = rw (eq-eqb (length s) b e) (or-true (eqb (length s) a))

-- so they are no longer than either
pub sized_is : (k : Class) (a b : ℕ) (s : List ℕ) → sized_verdict k a b s ≡ passed → (bytes_verdict k s ≡ passed) × ((n : ℕ) → a ≤ n → b ≤ n → length s ≤ n)
sized_is k a b s e =
    let h = (sized_exactly k a b s).0 e in
    (all_passes k s h.0, λ n p q. ⊎_elim (λ (f : length s ≡ a). omega arith) (λ (f : length s ≡ b). omega arith) h.1)

-- one length where both are the same
pub sized_alone : (k : Class) (a : ℕ) (s : List ℕ) → sized_verdict k a a s ≡ passed → (all_of k s ≡ true) × (length s ≡ a)
sized_alone k a s e = let h = (sized_exactly k a a s).0 e in (h.0, ⊎_elim (λ (f : length s ≡ a). f) (λ (f : length s ≡ a). f) h.1)

-- ---------------------------------------------------------------------------
-- Accounts

-- an accepted account is 21 letters and digits
account_is : (s : List ℕ) → iban_verdict s ≡ passed → (bytes_verdict Account s ≡ passed) × (length s ≡ 21)
account_is s e =
    let h = both_pass (bytes_verdict Account s) _ e in
    (h.0, eqb-true (length s) 21 (test_holds _ Fault.Length (both_pass _ _ h.1).0))

-- an accepted account of the account form is 18 letters, digits and hyphens
account_form_is : (s : List ℕ) → account_form_verdict s ≡ passed → (bytes_verdict AccountForm s ≡ passed) × (length s ≡ 18)
account_form_is s e =
    let h = both_pass (bytes_verdict AccountForm s) _ e in
    (h.0, eqb-true (length s) 18 (test_holds _ Fault.Length (both_pass _ _ h.1).0))

-- an accepted payee has no line feed, and at most 21 bytes
pub payee_is : (c : Currency) (s : List ℕ) → payee_verdict c s ≡ passed → (all_of Line s ≡ true) × (length s ≤ 21)
payee_is c s = go c
  where
    iban : iban_verdict s ≡ passed → (all_of Line s ≡ true) × (length s ≤ 21)
    iban e = let h = account_is s e in (class_free Account refl s h.0, omega (arith, h.1))

    form : account_form_verdict s ≡ passed → (all_of Line s ≡ true) × (length s ≤ 21)
    form e = let h = account_form_is s e in (class_free AccountForm refl s h.0, omega (arith, h.1))

    go : (c : Currency) → payee_verdict c s ≡ passed → (all_of Line s ≡ true) × (length s ≤ 21)
    go Euro = iban
    go Kuna = either (is_digit (get_or s 0 0)) _ _ form iban

-- ---------------------------------------------------------------------------
-- Models

-- four bytes, `HR` and two digits
pub record Named (s : List ℕ) : Type 0 where
  pub four : length s ≡ 4
  pub first : get_or s 0 0 ≡ 72
  pub second : get_or s 1 0 ≡ 82
  pub third : is_digit (get_or s 2 0) ≡ true
  pub fourth : is_digit (get_or s 3 0) ≡ true

-- a choice between a number and none has a number only where its test holds and the number is there
numbered : (t : Bool) (f : Option ℕ) (n : ℕ) → cond t f None ≡ Some n → (t ≡ true) × (f ≡ Some n)
numbered true f n e = (refl, e)
numbered false f n e = let z : true ≡ false = ap is_none e in absurd (false≢true (sym z))

-- an accepted model is `HR` and two digits
pub model_is : (s : List ℕ) → model_verdict s ≡ passed → Named s
model_is s e =
    let w = (model_accepted_exactly s).0 e in
    let a = get_or s 0 0 in
    let b = get_or s 1 0 in
    let x = get_or s 2 0 in
    let y = get_or s 3 0 in
    let h = numbered (eqb (length s) 4 && (eqb a 72 && eqb b 82)) (two_digits x y) w.number w.named in
    let f = both_true (eqb (length s) 4) (eqb a 72 && eqb b 82) h.0 in
    let g = both_true (eqb a 72) (eqb b 82) f.1 in
    let d = both_true (is_digit x) (is_digit y) (numbered (is_digit x && is_digit y) _ _ h.1).0 in
    record { four = eqb-true (length s) 4 f.0; first = eqb-true a 72 g.0; second = eqb-true b 82 g.1; third = d.0; fourth = d.1 }

-- with no line feed
pub model_free : (s : List ℕ) → model_verdict s ≡ passed → all_of Line s ≡ true
model_free s e = free_by_places s (go (model_is s e))
  where
    go : Named s → (i : ℕ) → i < length s → get_or s i 0 ≡ 10 → ⊥
    go n zero l q = let h = n.first in omega arith
    go n (suc zero) l q = let h = n.second in omega arith
    go n (suc (suc zero)) l q = omega (arith, (digit_bounds (get_or s 2 0) n.third).0)
    go n (suc (suc (suc zero))) l q = omega (arith, (digit_bounds (get_or s 3 0) n.fourth).0)
    go n (suc (suc (suc (suc i)))) l q = let h = n.four in omega arith

-- ---------------------------------------------------------------------------
-- References

-- an accepted reference is at most 22 digits and hyphens
pub reference_is : (m s : List ℕ) → reference_verdict m s ≡ passed → (bytes_verdict Reference s ≡ passed) × (length s ≤ 22)
reference_is m s e = let w = (reference_accepted_exactly m s).0 e in (all_passes Reference s w.bytes, w.short)

-- ---------------------------------------------------------------------------
-- Texts

-- an accepted text has at most two bytes for each of its most characters
pub text_size : (most : ℕ) (s : List ℕ) → characters_verdict most s ≡ passed → length s ≤ 2 * most
text_size most s e = let h = (texts.accepted_exactly most s).0 e in omega (arith, h.1, texts.bytes_at_most_twice s h.0)

-- and no line feed
pub text_free : (most : ℕ) (s : List ℕ) → characters_verdict most s ≡ passed → all_of Line s ≡ true
text_free most s e = free_by_places s (texts.no_line_feed s ((texts.accepted_exactly most s).0 e).0)
