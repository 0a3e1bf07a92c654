-- A right line of each type, place by place, as document 01's section "The wage file" lists them: a plain test of the bytes of each place,
-- and that a line is right exactly when it has its size, ends and type and passes them all.
-- Assumes nothing.
use Rattle.refusal.proofs.Basics.{◌≡◌, refl, arith, ℕ, ◌≤◌, length, take, drop, get_or, List, [], ◌∷◌, true, false, cond, not, ◌&&◌, ◌||◌, eqb, leb, ◌↔◌}
use Rattle.verdict.specs.Verdict.{passed}
use Rattle.std.specs.Prelude.{Ok}
use Rattle.verdict.proofs.Verdicts.{first_both}
use Rattle.classes.specs.declared.Class.TheVariants.{Digits, Zeros, Blanks, Letters, Description}
use Rattle.text.specs.Bytes.{all_of, trimmed, same, eur}
use Rattle.account.specs.Account.{oib_passes}
use Rattle.account.specs.Answers.{is_iban}
use Rattle.dates.specs.Dates.{is_date}
use Rattle.sums.specs.Sums.{number_in}
use Rattle.codes.specs.Codes.{is_code}
use Rattle.model_text.proofs.Theorems.{HandledModel}
use Rattle.reference.proofs.Theorems.{RightReference}
use Rattle.wage_places.specs.declared.LineType.{LineType}
use Rattle.wage_places.specs.declared.LineType.TheVariants.{Label, Group, Order, Closing}
use Rattle.wage_places.specs.declared.Spot.{Spot}
use Rattle.wage_places.specs.Places.{spots, spot_in, part_at, part_of}
use Rattle.wage_places.proofs.Theorems.{field_size}
use Rattle.wage_line.specs.Line.{typed_of}
use Rattle.wage_line.proofs.Theorems.{typed_exactly}
use Rattle.wage_contents.specs.Contents.{one_of, two_of}
use Rattle.wage_contents.proofs.Accepted.{bytes_accepted, among_accepted, oib_accepted, employer_accepted, currency_accepted, zeros_accepted, today_accepted, later_accepted, iban_place_accepted, iban_whole_accepted}
use Rattle.order_contents.proofs.Accepted.{purpose_accepted, sign_accepted, model_accepted, reference_accepted, description_accepted, code_modelled_accepted}
use Rattle.wage_fields.specs.Rules.{rule_verdict, places_from, places_answer, RightLine}
use Rattle.wage_fields.proofs.Laws.{accept_both}
use Rattle.wage_fields.proofs.Theorems.{place_right, closing_has_none}

-- ---------------------------------------------------------------------------
-- The places of each type of line by their fields' numbers, f the bytes of each. "Positions count from 1"; "Numeric fields are digits only
-- (else 3), zeros for absent, unless stated"; "Dates are YYYYMMDD, Gregorian, years 2023 to 9999".

-- "300"
pub record LabelPlaces (day : ℕ) (s : List ℕ) : Type 0 where
  -- "1–8 today"
  pub field_1 : let f = part_of Label 1 s in (all_of Digits f && (is_date (number_in f) && eqb (number_in f) day)) ≡ true
  -- "9 is 4 or 5 (kind)"
  pub field_2 : let f = part_of Label 2 s in (all_of Digits f && one_of 4 5 5 (number_in f)) ≡ true
  -- "10–12 `000`"
  pub field_3 : all_of Zeros (part_of Label 3 s) ≡ true
  -- "13 is 1 or 2"
  pub field_4 : let f = part_of Label 4 s in (all_of Digits f && one_of 1 2 2 (number_in f)) ≡ true
  -- "14–24 OIB or zeros"
  pub field_5 : let f = part_of Label 5 s in (all_of Digits f && cond (all_of Zeros f) true (oib_passes f)) ≡ true
  -- "25–35"
  pub field_6 : all_of Digits (part_of Label 6 s) ≡ true
  -- "36–46; at least two of these three not zero"
  pub field_7 : let f = part_of Label 7 s in (all_of Digits f && not (two_of (all_of Zeros (part_of Label 5 s)) (all_of Zeros (part_of Label 6 s)) (all_of Zeros f))) ≡ true
  -- "47–57 OIB, zeros are 5"
  pub field_8 : let f = part_of Label 8 s in (all_of Digits f && cond (all_of Zeros f) false (oib_passes f)) ≡ true

-- "301"
pub record GroupPlaces (day : ℕ) (s : List ℕ) : Type 0 where
  -- "1–21 IBAN"
  pub field_1 : is_iban (part_of Group 1 s) ≡ true
  -- "22–24 `EUR`"
  pub field_2 : same eur (part_of Group 2 s) ≡ true
  -- "25–45 blank or IBAN"
  pub field_3 : let f = part_of Group 3 s in (all_of Blanks f || is_iban f) ≡ true
  -- "46–48 blank or `EUR`"
  pub field_4 : let f = part_of Group 4 s in (all_of Blanks f || same eur f) ≡ true
  -- "49–53 number of orders"
  pub field_5 : all_of Digits (part_of Group 5 s) ≡ true
  -- "54–73 sum in cents"
  pub field_6 : all_of Digits (part_of Group 6 s) ≡ true
  -- "74–81 date, today or later"
  pub field_7 : let f = part_of Group 7 s in (all_of Digits f && (is_date (number_in f) && leb day (number_in f))) ≡ true

-- "309"; "35–174 (name, address, seat), one field 2, are not judged"; a blank is 32, `0` is 48, `3` is 51
pub record OrderPlaces (kind : ℕ) (s : List ℕ) : Type 0 where
  -- "1–34 IBAN and thirteen blanks"
  pub field_1 : let f = part_of Order 1 s in (all_of Blanks (drop 21 f) && is_iban (take 21 f)) ≡ true
  -- "175–177 `000` or `191`"
  pub field_5 : let f = part_of Order 5 s in (all_of Digits f && one_of 0 191 191 (number_in f)) ≡ true
  -- "178–181 .. payer's model", where it is not blank
  pub field_6 : let f = part_of Order 6 s in all_of Blanks f ≡ false → HandledModel f
  -- "and 182–203 .. reference"; "Trailing blanks end a reference. A blank model needs a blank reference, else 8."
  pub field_7 : let f = part_of Order 7 s in let m = part_of Order 6 s in (all_of Blanks m ≡ true → all_of Blanks f ≡ true) × (all_of Blanks m ≡ false → RightReference m (trimmed f))
  -- "204–207 blank or four letters A to Z"
  pub field_8 : let f = part_of Order 8 s in (all_of Blanks f || all_of Letters f) ≡ true
  -- "208–347 description"; "not all blank"
  pub field_9 : let f = part_of Order 9 s in (all_of Description f && not (all_of Blanks f)) ≡ true
  -- "348–362 amount"
  pub field_10 : all_of Digits (part_of Order 10 s) ≡ true
  -- "363–366 .. recipient's model", where it is not blank
  pub field_11 : let f = part_of Order 11 s in all_of Blanks f ≡ false → HandledModel f
  -- "and 367–388 .. reference"
  pub field_12 : let f = part_of Order 12 s in let m = part_of Order 11 s in (all_of Blanks m ≡ true → all_of Blanks f ≡ true) × (all_of Blanks m ≡ false → RightReference m (trimmed f))
  -- "543 is 0, 1 or 2"
  pub field_18 : let f = part_of Order 18 s in (all_of Digits f && one_of 0 1 2 (number_in f)) ≡ true
  -- "544–546 blank or `EUR`"
  pub field_19 : let f = part_of Order 19 s in (all_of Blanks f || same eur f) ≡ true
  -- "547 blank, 0 or 3"
  pub field_20 : one_of 32 48 51 (get_or (part_of Order 20 s) 0 0) ≡ true
  -- "and 548 blank or 0, all else 5"
  pub field_21 : one_of 32 48 48 (get_or (part_of Order 21 s) 0 0) ≡ true
  -- "549–551 a code of 004's list (55 codes)"; "For kind 5, code 500 with a blank recipient's model is 5 at field 22"
  pub field_22 :
      let f = part_of Order 22 s in
      (all_of Digits f && (is_code (number_in f) && not (eqb kind 5 && (eqb (number_in f) 500 && all_of Blanks (part_of Order 11 s))))) ≡ true
  -- "552–562 OIB or zeros, for kind 5 zeros are 5"
  pub field_23 : let f = part_of Order 23 s in (all_of Digits f && cond (all_of Zeros f) (not (eqb kind 5)) (oib_passes f)) ≡ true

-- ---------------------------------------------------------------------------
-- A line is right exactly when

module _ (day kind : ℕ) (t : LineType) (s : List ℕ) where
  -- R holds where the rule of each place refuses nothing
  abbrev Asked : Type 0 → List Spot → Type 0
  Asked R [] = R
  Asked R (p ∷ ps) = rule_verdict day kind t p.field (part_at p s) s ≡ passed → Asked R ps

  -- of a line of 1,002 bytes, exactly when it holds where the places are accepted
  asked_exactly : length s ≡ 1002 → (R : Type 0) (ps : List Spot) → Asked R ps ↔ (places_from day kind t ps s ≡ Ok tt → R)
  unfolding places_from
  asked_exactly whole R [] = ((λ r e. r), (λ f. f refl))
  asked_exactly whole R (p ∷ ps) =
      let one = place_right day kind t s p in
      let rest = asked_exactly whole R ps in
      ((λ r e. let h = first_both _ _ e in rest.0 (r (one.0 h.0).1) h.1), (λ f q. rest.1 (λ e. f (accept_both _ _ (one.1 (whole, q)) e))))

  -- so a line is right exactly when it has its type and P holds, where P holds by its places' rules and they by P
  said_exactly :
      let Places = places_answer day kind t s ≡ Ok tt in
      (P : Type 0) → (length s ≡ 1002 → Asked P (spots t)) → (length s ≡ 1002 → P → Asked Places (spots t) → Places) →
      RightLine day kind t s ↔ ((typed_of s ≡ Ok t) × P)
  unfolding places_answer
  said_exactly P told made = (
    (λ w. let whole = ((typed_exactly t s).0 w.typed).whole in (w.typed, (asked_exactly whole P (spots t)).0 (told whole) w.fields)),
    (λ w.
        let whole = ((typed_exactly t s).0 w.0).whole in
        record { typed = w.0; fields = made whole w.1 ((asked_exactly whole _ (spots t)).1 (λ e. e)) }),
  )

module _ (day kind : ℕ) (s : List ℕ) where
  -- a 300
  pub label_exactly : RightLine day kind Label s ↔ ((typed_of s ≡ Ok Label) × LabelPlaces day s)
  unfolding spots spot_in
  label_exactly =
      said_exactly day kind Label s (LabelPlaces day s)
      (λ whole q1 q2 q3 q4 q5 q6 q7 q8. record {
        field_1 = (today_accepted day _).0 q1;
        field_2 = (among_accepted 4 5 5 _).0 q2;
        field_3 = (zeros_accepted _ (short whole)).0 q3;
        field_4 = (among_accepted 1 2 2 _).0 q4;
        field_5 = (oib_accepted true _).0 q5;
        field_6 = (bytes_accepted Digits _).0 q6;
        field_7 = (employer_accepted _ _ _).0 q7;
        field_8 = (oib_accepted false _).0 q8;
      })
      (λ whole w all. all ((today_accepted day _).1 w.field_1) ((among_accepted 4 5 5 _).1 w.field_2)
      ((zeros_accepted _ (short whole)).1 w.field_3) ((among_accepted 1 2 2 _).1 w.field_4) ((oib_accepted true _).1 w.field_5)
      ((bytes_accepted Digits _).1 w.field_6) ((employer_accepted _ _ _).1 w.field_7) ((oib_accepted false _).1 w.field_8))
    where
      short : length s ≡ 1002 → length (part_of Label 3 s) ≤ 18
      short whole = omega (arith, field_size Label s whole 3)

  -- a 301
  pub group_exactly : RightLine day kind Group s ↔ ((typed_of s ≡ Ok Group) × GroupPlaces day s)
  unfolding spots spot_in
  group_exactly =
      said_exactly day kind Group s (GroupPlaces day s)
      (λ whole q1 q2 q3 q4 q5 q6 q7. record {
        field_1 = (iban_whole_accepted false _ (field_size Group s whole 1)).0 q1;
        field_2 = (currency_accepted false _).0 q2;
        field_3 = (iban_whole_accepted true _ (field_size Group s whole 3)).0 q3;
        field_4 = (currency_accepted true _).0 q4;
        field_5 = (bytes_accepted Digits _).0 q5;
        field_6 = (bytes_accepted Digits _).0 q6;
        field_7 = (later_accepted day _).0 q7;
      })
      (λ whole w all. all ((iban_whole_accepted false _ (field_size Group s whole 1)).1 w.field_1) ((currency_accepted false _).1 w.field_2)
      ((iban_whole_accepted true _ (field_size Group s whole 3)).1 w.field_3) ((currency_accepted true _).1 w.field_4)
      ((bytes_accepted Digits _).1 w.field_5) ((bytes_accepted Digits _).1 w.field_6) ((later_accepted day _).1 w.field_7))

  -- a 309
  pub order_exactly : RightLine day kind Order s ↔ ((typed_of s ≡ Ok Order) × OrderPlaces kind s)
  unfolding spots spot_in
  order_exactly =
      said_exactly day kind Order s (OrderPlaces kind s)
      (λ whole q1 _ q5 q6 q7 q8 q9 q10 q11 q12 q18 q19 q20 q21 q22 q23. record {
        field_1 = (iban_place_accepted false _).0 q1;
        field_5 = (among_accepted 0 191 191 _).0 q5;
        field_6 = (model_accepted _).0 q6;
        field_7 = (reference_accepted _ _).0 q7;
        field_8 = (purpose_accepted _).0 q8;
        field_9 = (description_accepted _).0 q9;
        field_10 = (bytes_accepted Digits _).0 q10;
        field_11 = (model_accepted _).0 q11;
        field_12 = (reference_accepted _ _).0 q12;
        field_18 = (among_accepted 0 1 2 _).0 q18;
        field_19 = (currency_accepted true _).0 q19;
        field_20 = (sign_accepted 32 48 51 _).0 q20;
        field_21 = (sign_accepted 32 48 48 _).0 q21;
        field_22 = (code_modelled_accepted kind _ _).0 q22;
        field_23 = (oib_accepted (not (eqb kind 5)) _).0 q23;
      })
      (λ whole w all. all ((iban_place_accepted false _).1 w.field_1) refl ((among_accepted 0 191 191 _).1 w.field_5)
      ((model_accepted _).1 w.field_6) ((reference_accepted _ _).1 w.field_7) ((purpose_accepted _).1 w.field_8)
      ((description_accepted _).1 w.field_9) ((bytes_accepted Digits _).1 w.field_10) ((model_accepted _).1 w.field_11)
      ((reference_accepted _ _).1 w.field_12) ((among_accepted 0 1 2 _).1 w.field_18) ((currency_accepted true _).1 w.field_19)
      ((sign_accepted 32 48 51 _).1 w.field_20) ((sign_accepted 32 48 48 _).1 w.field_21) ((code_modelled_accepted kind _ _).1 w.field_22)
      ((oib_accepted (not (eqb kind 5)) _).1 w.field_23))

  -- a 399 has no places
  pub closing_exactly : RightLine day kind Closing s ↔ (typed_of s ≡ Ok Closing)
  closing_exactly = ((λ w. w.typed), (λ e. record { typed = e; fields = closing_has_none day kind s }))
