-- Laws of what is listed of a line, and of a filled text put into room. Assumes nothing.
use Rattle.refusal.proofs.Basics.{◌≡◌, refl, sym, ◌∙◌, arith, ℕ, ◌≤◌, length, drop, eqb-true, leb-true, ltb-false, List, [], ◌∷◌, ◌++◌, Bool, true, false, cond, eqb, leb, ltb, zero-add}
use Rattle.std.specs.Prelude.{Option, Some, None, Result, Ok, Err}
use Rattle.refusal.specs.Refusal.{none}
use Rattle.refusal.specs.declared.Refusal.{Refusal}
use Rattle.refusal.specs.declared.Refusal.TheVariants.{Size, Room}
use Rattle.classes.specs.declared.Class.TheVariants.{WetReference}
use Rattle.text.specs.Bytes.{all_of, marks}
use Rattle.account.specs.Answers.{is_iban}
use Rattle.models.specs.Models.{model_of}
use Rattle.model_text.specs.Texts.{model_number}
use Rattle.reference.specs.Answers.{obeys}
use Rattle.fillings.specs.Fillings.{fillings}
use Rattle.fillings.specs.Answers.{listed_in_room}
use Rattle.wet.specs.Wet.{wet_iban, iban_listing, number_listing, reference_listing, number_fillings, reference_fillings}
use Rattle.refusal.proofs.Theorems.{refused_not_accepted}
use Rattle.room.proofs.Places.{front}
use Rattle.filling.specs.Filling.{fill, filled_answer}
use Rattle.filling.proofs.Theorems.{fill_length}
use Rattle.printed.specs.Printed.{Puts}
use Rattle.printed.proofs.Laws.{ends_whole, puts_then, puts_none}
use Rattle.listing_printed.specs.Listing.{line_in_room}

-- ---------------------------------------------------------------------------
-- What a count tells: its text was not cut, and it is the number of the fillings

-- behind a test that is else a refusal, a count tells that the test held
counts_on : (b : Bool) (x : Result ℕ Refusal) (r : Refusal) (n : ℕ) → cond b x (Err r) ≡ Ok n → (b ≡ true) × (x ≡ Ok n)
counts_on true x r n e = (refl, e)
counts_on false x r n e = let z : ◌≡◌ {A = ℕ} 0 1 = cc in absurd (omega arith)

-- as many as there are, and there is room for them
room_count : (xs : List ℕ) (room n : ℕ) → listed_in_room xs room ≡ Ok n → (n ≡ length xs) × (n ≤ room)
room_count xs room n e = go (ltb room (length xs)) refl e
  where
    go : (b : Bool) → ltb room (length xs) ≡ b → cond b (Err (Room none (length xs))) (Ok (length xs)) ≡ Ok n → (n ≡ length xs) × (n ≤ room)
    go true f g = let z : ◌≡◌ {A = ℕ} 0 1 = cc in absurd (omega arith)
    go false f g = let z : n ≡ length xs = cc in let h = ltb-false room (length xs) f in (z, omega arith)

-- an IBAN's
iban_count : (s : List ℕ) (room n : ℕ) → iban_listing s room ≡ Ok n → (length s ≤ 22) × ((n ≡ length (fillings is_iban s)) × (n ≤ room))
iban_count s room n e =
    let a = counts_on (eqb (length s) 21) _ _ n e in
    let b = counts_on (wet_iban s) _ _ n a.1 in
    let c = counts_on (leb (marks s) 4) _ _ n b.1 in
    let h = eqb-true (length s) 21 a.0 in
    (omega arith, room_count (fillings is_iban s) room n c.1)

-- a reference's
number_count : (f : Option ℕ) (s : List ℕ) (room n : ℕ) → number_listing f s room ≡ Ok n → (n ≡ length (number_fillings f s)) × (n ≤ room)
number_count (Some k) s room n e = room_count (fillings (obeys (model_of k)) s) room n (counts_on (model_of k).handled _ _ n e).1
number_count None s room n e = let z : ◌≡◌ {A = ℕ} 0 1 = cc in absurd (omega arith)

reference_count : (m s : List ℕ) (room n : ℕ) → reference_listing m s room ≡ Ok n → (length s ≤ 22) × ((n ≡ length (reference_fillings m s)) × (n ≤ room))
reference_count m s room n e =
    let a = counts_on (leb (length s) 22) _ _ n e in
    let b = counts_on (all_of WetReference s) _ _ n a.1 in
    let c = counts_on (leb (marks s) 4) _ _ n b.1 in
    (leb-true (length s) 22 a.0, number_count (model_number m) s room n c.1)

-- a line's, by its two sides
pub line_count : (ended spaced : Bool) (h t : List ℕ) (room n : ℕ) → cond ended (cond spaced (reference_listing h t room) (iban_listing h room)) (Err (Size none)) ≡ Ok n → (length (cond spaced t h) ≤ 22) × ((n ≡ length (cond spaced (reference_fillings h t) (fillings is_iban h))) × (n ≤ room))
line_count ended true h t room n e = reference_count h t room n (counts_on ended _ _ n e).1
line_count ended false h t room n e = iban_count h room n (counts_on ended _ _ n e).1

-- ---------------------------------------------------------------------------
-- A filled text put into lent room

module _ (text : List ℕ) (k : ℕ) {out after : List ℕ} where
  -- there is room for it: it stands at the front, and the line feed behind it
  pub line_put :
      {mid : List ℕ} {r : ℕ} → filled_answer text (length out) ≡ Ok tt → mid ≡ fill text k ++ drop (length text) out → Puts (10 ∷ []) (length text) mid r after
      → Puts (line_in_room text k (length out)) 0 out r after
  line_put {mid} {r} e f p = go (ltb (length out) (length text)) refl
    where
      l : length (fill text k) ≡ length text
      l = fill_length text k

      go : (b : Bool) → ltb (length out) (length text) ≡ b → Puts (line_in_room text k (length out)) 0 out r after
      go true g = let z : Err _ ≡ (Ok tt) = rw g at e in absurd (refused_not_accepted _ z)
      go false g =
          let h : length (fill text k) ≤ length out = rw l (ltb-false (length out) (length text) g) in
          let q : Puts (fill text k) 0 out (length text) mid = record {
            answers = sym l ∙ (sym (zero-add (length (fill text k))) ∙ ends_whole (length out) 0 (fill text k) (omega (arith, h)));
            leaves = f ∙ rw (← l) (sym (front out (fill text k) h));
          } in
          rw g (puts_then q p)

  -- there is none: nothing is put
  pub no_line_put : {q : Refusal} → filled_answer text (length out) ≡ Err q → after ≡ out → Puts (line_in_room text k (length out)) 0 out 0 after
  no_line_put e f = go (ltb (length out) (length text)) refl
    where
      go : (b : Bool) → ltb (length out) (length text) ≡ b → Puts (line_in_room text k (length out)) 0 out 0 after
      go true g = rw (g, f) (puts_none out 0 (omega arith))
      go false g = let z : (Ok tt) ≡ Err _ = rw g at e in absurd (refused_not_accepted _ (sym z))
