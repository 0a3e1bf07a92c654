-- Demand 3, wet slips, of the calls `lanecockle_list_iban`, `lanecockle_list_reference` and `lanecockle_filled`. Assumes nothing.
use Rattle.refusal.proofs.Basics.{◌≡◌, refl, ap, ◌∙◌, arith, ℕ, ◌<◌, ◌≤◌, length, take, drop, ltb-true, ltb-false, eq-eqb, le-leb, List, ◌++◌, Bool, true, false, cond, eqb, leb, ltb, take-append_seam, drop-append_seam, ◌⊎◌, inl, inr}
use Rattle.std.specs.Prelude.{Err, Ok, Some, Result}
use Rattle.refusal.specs.Refusal.{none, refusal_number, needed_of}
use Rattle.refusal.specs.declared.Refusal.{Refusal}
use Rattle.refusal.specs.declared.Refusal.TheVariants as refused
use Rattle.classes.specs.declared.Class.TheVariants.{WetReference}
use Rattle.text.specs.Bytes.{marks, all_of}
use Rattle.account.specs.Answers.{is_iban}
use Rattle.models.specs.Models.{model_of}
use Rattle.model_text.specs.Texts.{model_number}
use Rattle.model_text.proofs.Theorems.{HandledModel}
use Rattle.reference.specs.Answers.{obeys}
use Rattle.filling.specs.Filling.{fill, filled_answer}
use Rattle.filling.specs.Claims.{Fills}
use Rattle.filling.proofs.Theorems.{fill_length, fill_fills}
use Rattle.fillings.specs.Fillings.{fillings}
use Rattle.fillings.specs.Answers.{listed_in_room, left_by_listing}
use Rattle.fillings.proofs.Theorems.{complete, sound, ascending, once, counted}
use Rattle.wet.specs.Wet.{wet_iban, iban_listing, reference_listing, model_listing}
use Rattle.boundary.specs.declared.Valued.{Valued}
use Rattle.boundary.proofs.Theorems.{number_not_zero}
use Rattle.boundary.specs.Told.{value_told}
use Rattle.promises.proofs.Laws.{told_zero}
use Rattle.promises.specs.Calls.{EveryListIban, EveryListReference, EveryFilled}
use Rattle.promises.specs.Listings.{accepted_fillings, Lists, Listing}

-- ---------------------------------------------------------------------------
-- Any rule

module _ (p : List ℕ → Bool) (text out : List ℕ) where
  abbrev xs : List ℕ
  xs = fillings p text

  -- the accepted fillings at the front of the room, the entries beyond them as they were
  front : (after : List ℕ) → length xs ≤ length out → after ≡ xs ++ drop (length xs) out → Lists p text out (length xs) after
  front after fits e =
      let t : take (length xs) after ≡ xs = ap (take (length xs)) e ∙ take-append_seam xs (drop (length xs) out) in
      record {
        exactly = λ k. rw t (sound p text k, λ w. complete p text k w.0 w.1);
        once = rw t (once p text);
        ascending = rw t (ascending p text);
        number = counted p text;
        within = fits;
        beyond = ap (drop (length xs)) e ∙ drop-append_seam xs (drop (length xs) out);
      }

  -- what a listing answers: as many as there are in the room that there is, or a refusal other than 15
  abbrev Answers : Result ℕ Refusal → Type 0
  Answers l = (l ≡ listed_in_room xs (length out)) ⊎ ((q : Refusal) × ((l ≡ Err q) × (refusal_number q ≡ 15 → ⊥)))

  module _ (r : Valued) (after : List ℕ) where
    accepted_listing : length xs ≤ length out → r ≡ value_told (Ok (length xs)) → after ≡ left_by_listing (Ok (length xs)) xs out → Listing p text out r after
    unfolding value_told
    accepted_listing fits e w =
        record {
          lists = λ h. rw e (front after fits w);
          small = λ h. let z : ◌≡◌ {A = ℕ} 0 15 = rw e at h in absurd (omega arith);
          untouched = λ h. absurd (h (rw e refl));
        }

    refused_listing :
        (q : Refusal) → (refusal_number q ≡ 15 → (length out < length xs) × (needed_of q ≡ length xs))
        → r ≡ value_told (Err q) → after ≡ left_by_listing (Err q) xs out → Listing p text out r after
    unfolding value_told
    refused_listing q told e w =
        record {
          lists = λ h. let z : refusal_number q ≡ 0 = rw e at h in absurd (omega (arith, number_not_zero q));
          small = λ h. let z : refusal_number q ≡ 15 = rw e at h in let t = told z in (rw (counted p text) at t.0, rw e (t.1 ∙ counted p text));
          untouched = λ h. w;
        }

    in_room : (b : Bool) → ltb (length out) (length xs) ≡ b → (l : Result ℕ Refusal) → l ≡ cond b (Err (refused.Room none (length xs))) (Ok (length xs)) → r ≡ value_told l → after ≡ left_by_listing l xs out → Listing p text out r after
    in_room true g l z e w = refused_listing (refused.Room none (length xs)) (λ h. (ltb-true (length out) (length xs) g, refl)) (e ∙ ap value_told z) (w ∙ ap (λ (m : Result ℕ Refusal). left_by_listing m xs out) z)
    in_room false g l z e w = accepted_listing (ltb-false (length out) (length xs) g) (e ∙ ap value_told z) (w ∙ ap (λ (m : Result ℕ Refusal). left_by_listing m xs out) z)

    listing : (l : Result ℕ Refusal) → Answers l → r ≡ value_told l → after ≡ left_by_listing l xs out → Listing p text out r after
    listing l (inl z) e w = in_room (ltb (length out) (length xs)) refl l z e w
    listing l (inr (q, (z, n))) e w = refused_listing q (λ h. absurd (n h)) (e ∙ ap value_told z) (w ∙ ap (λ (m : Result ℕ Refusal). left_by_listing m xs out) z)

  -- what is told where the rest is right
  answered : (z : Valued) (l : Result ℕ Refusal) → z ≡ value_told l → l ≡ listed_in_room xs (length out) → z.told.number ≡ cond (ltb (length out) (accepted_fillings p text)) 15 0
  unfolding value_told
  answered z l e q = rw (← counted p text) (go (ltb (length out) (length xs)) (ap (λ (v : Valued). v.told.number) (e ∙ ap value_told q)))
    where
      go : (b : Bool) → z.told.number ≡ (value_told (cond b (Err (refused.Room none (length xs))) (Ok (length xs)))).told.number → z.told.number ≡ cond b 15 0
      go true h = h
      go false h = h

-- a refusal that is not 15
abbrev other : (p : List ℕ → Bool) (text out : List ℕ) (q : Refusal) → (refusal_number q ≡ 15 → ⊥) → Answers p text out (Err q)
other p text out q n = inr (q, (refl, n))

-- ---------------------------------------------------------------------------
-- IBANs

iban_answers : (text out : List ℕ) → Answers is_iban text out (iban_listing text (length out))
iban_answers text out = size (eqb (length text) 21)
  where
    few : (b : Bool) → Answers is_iban text out (cond b (listed_in_room (fillings is_iban text) (length out)) (Err (refused.Marks none)))
    few true = inl refl
    few false = other is_iban text out (refused.Marks none) (λ h. omega arith)

    form : (b : Bool) → Answers is_iban text out (cond b (cond (leb (marks text) 4) (listed_in_room (fillings is_iban text) (length out)) (Err (refused.Marks none))) (Err (refused.Byte none)))
    form true = few (leb (marks text) 4)
    form false = other is_iban text out (refused.Byte none) (λ h. omega arith)

    size : (b : Bool) → Answers is_iban text out (cond b (cond (wet_iban text) (cond (leb (marks text) 4) (listed_in_room (fillings is_iban text) (length out)) (Err (refused.Marks none))) (Err (refused.Byte none))) (Err (refused.Size none)))
    size true = form (wet_iban text)
    size false = other is_iban text out (refused.Size none) (λ h. omega arith)

-- the fillings of an IBAN that are listed are those that are IBANs
pub list_iban_lists : EveryListIban (λ text out r after. Listing is_iban text out r after)
list_iban_lists κs a z w call =
    let text = a.0.now in
    let out = a.1.0.now in
    listing is_iban text out z w.1.0 (iban_listing text (length out)) (iban_answers text out) call.0 call.1

-- a text of an IBAN's form with at most four marks is listed, or the room is too small
pub list_iban_answers :
    EveryListIban (λ text out r after. length text ≡ 21 → wet_iban text ≡ true → marks text ≤ 4 → r.told.number ≡ cond (ltb (length out) (accepted_fillings is_iban text)) 15 0)
list_iban_answers κs a z w call long wet few =
    let text = a.0.now in
    let out = a.1.0.now in
    answered is_iban text out z (iban_listing text (length out)) call.0 (rw (eq-eqb (length text) 21 long, wet, le-leb (marks text) 4 few))

-- ---------------------------------------------------------------------------
-- References

module _ (n : ℕ) (text out : List ℕ) where
  abbrev rule : List ℕ → Bool
  rule = obeys (model_of n)

  number_answers : Answers rule text out (model_listing (model_of n) text (length out))
  number_answers = handled (model_of n).handled
    where
      handled : (b : Bool) → Answers rule text out (cond b (listed_in_room (fillings rule text) (length out)) (Err (refused.Model none)))
      handled true = inl refl
      handled false = other rule text out (refused.Model none) (λ h. omega arith)

  reference_answers : Answers rule text out (cond (leb (length text) 22) (cond (all_of WetReference text) (cond (leb (marks text) 4) (model_listing (model_of n) text (length out)) (Err (refused.Marks none))) (Err (refused.Byte none))) (Err (refused.Size none)))
  reference_answers = size (leb (length text) 22)
    where
      few : (b : Bool) → Answers rule text out (cond b (model_listing (model_of n) text (length out)) (Err (refused.Marks none)))
      few true = number_answers
      few false = other rule text out (refused.Marks none) (λ h. omega arith)

      form : (b : Bool) → Answers rule text out (cond b (cond (leb (marks text) 4) (model_listing (model_of n) text (length out)) (Err (refused.Marks none))) (Err (refused.Byte none)))
      form true = few (leb (marks text) 4)
      form false = other rule text out (refused.Byte none) (λ h. omega arith)

      size : (b : Bool) → Answers rule text out (cond b (cond (all_of WetReference text) (cond (leb (marks text) 4) (model_listing (model_of n) text (length out)) (Err (refused.Marks none))) (Err (refused.Byte none))) (Err (refused.Size none)))
      size true = form (all_of WetReference text)
      size false = other rule text out (refused.Size none) (λ h. omega arith)

-- the fillings of a reference that are listed under the text of model n are those that obey it
pub list_reference_lists : EveryListReference (λ model text out r after. (n : ℕ) → model_number model ≡ Some n → Listing (obeys (model_of n)) text out r after)
list_reference_lists κs a z w call n e =
    let text = a.1.0.now in
    let out = a.1.1.0.now in
    listing (obeys (model_of n)) text out z w.1.1.0 _ (reference_answers n text out) (rw e at call.0) (rw e at call.1)

-- a text of digits, hyphens and at most four marks, of at most 22 bytes, is listed under a model that is handled, or the room is too small
pub list_reference_answers :
    EveryListReference
    (λ model text out r after.
    (m : HandledModel model) → length text ≤ 22 → all_of WetReference text ≡ true → marks text ≤ 4
    → r.told.number ≡ cond (ltb (length out) (accepted_fillings (obeys (model_of m.number)) text)) 15 0)
list_reference_answers κs a z w call m short wet few =
    let model = a.0.now in
    let text = a.1.0.now in
    let out = a.1.1.0.now in
    answered (obeys (model_of m.number)) text out z (reference_listing model text (length out)) call.0
    (rw (le-leb (length text) 22 short, wet, le-leb (marks text) 4 few, m.named, m.handled))

-- ---------------------------------------------------------------------------
-- A refusal writes nothing

-- what a listing leaves
listing_kept : (l : Result ℕ Refusal) (xs out after : List ℕ) (z : Valued) → z ≡ value_told l → after ≡ left_by_listing l xs out → (z.told.number ≡ 0 → ⊥) → after ≡ out
unfolding value_told
listing_kept (Ok n) ys out after z e w h = absurd (h (ap (λ (v : Valued). v.told.number) e))
listing_kept (Err r) ys out after z e w h = w

pub list_iban_untouched : EveryListIban (λ text out r after. (r.told.number ≡ 0 → ⊥) → after ≡ out)
list_iban_untouched κs a z w call = listing_kept _ _ _ _ _ call.0 call.1

pub list_reference_untouched : EveryListReference (λ model text out r after. (r.told.number ≡ 0 → ⊥) → after ≡ out)
list_reference_untouched κs a z w call = listing_kept _ _ _ _ _ call.0 call.1

-- ---------------------------------------------------------------------------
-- The filled texts

-- accepted, the text filled by the number stands at the front of the room, and the bytes behind it stay
pub filled_front_of_room : EveryFilled (λ text number out r after. r.number ≡ 0 → (take (length text) after ≡ fill text number) × (drop (length text) after ≡ drop (length text) out))
filled_front_of_room κs a z w call h =
    let text = a.0.now in
    let number = a.1.0 in
    let out = a.1.1.0.now in
    let after = w.1.1.0 in
    let e : after ≡ fill text number ++ drop (length text) out = rw ((told_zero (filled_answer text (length out)) z call.0).0 h) at call.1 in
    let n = fill_length text number in
    (rw e (rw n at (take-append_seam (fill text number) (drop (length text) out))), rw e (rw n at (drop-append_seam (fill text number) (drop (length text) out))))

-- which fills the text: a digit at each mark, all else as it is; every text that does is that of one number below 10 to the marks
pub filled_fills : EveryFilled (λ text number out r after. r.number ≡ 0 → Fills text (take (length text) after))
filled_fills κs a z w call h = rw (filled_front_of_room κs a z w call h).0 (fill_fills a.0.now a.1.0)
