-- What is promised of a slip, to be held beside document 01, "The slip's fourteen fields": accepted exactly when, field by field, and the
-- check digits of an accepted slip's reference.
-- Assumes nothing.
use Rattle.refusal.proofs.Basics.{◌≡◌, refl, sym, subst, ◌∙◌, arith, ℕ, ◌+◌, ◌-◌, ◌≤◌, length, get_or, eqb-true, eqb-false, List, [], Memᴰ, Bool, true, false, eqb, ◌↔◌, ◌⊎◌, inl, inr, both_true}
use Rattle.verdict.specs.Verdict.{passed}
use Rattle.std.specs.Prelude.{Some, None, Ok}
use Rattle.classes.specs.declared.Class.TheVariants.{Digits, Letters}
use Rattle.text.specs.Bytes.{all_of, count_of}
use Rattle.text.specs.Split.{joined}
use Rattle.check_digits.specs.CheckDigit.{passes}
use Rattle.characters.specs.Characters.{first_wrong, characters}
use Rattle.models.specs.declared.Group.{Group}
use Rattle.models.specs.Models.{model_of}
use Rattle.model_text.specs.Texts.{model_number}
use Rattle.model_text.proofs.Theorems.{HandledModel}
use Rattle.parts.specs.Parts.{parts_of, formed}
use Rattle.part_contents.specs.Contents.{contents_right}
use Rattle.groups.specs.Groups.{present, groups_right, parts_right}
use Rattle.groups.proofs.Theorems.{groups_right_every}
use Rattle.reference.proofs.Theorems.{RightReference}
use Rattle.slip_fields.specs.declared.Currency.{Currency}
use Rattle.slip_fields.specs.Fields.{hrvhub30, currency_text, most_of, field_verdict}
use Rattle.slip_fields.proofs.Plain as field
use Rattle.slip.specs.Slip.{slip_answer_in, piece_of}
use Rattle.slip.proofs.Theorems.{field_text, text_before, Right, accepted_exactly}

-- ---------------------------------------------------------------------------
-- Accepted exactly when

-- a slip in currency c as document 01 asks for it, and document 02, W1
pub record PlainSlip (c : Currency) (s : List ℕ) : Type 0 where
  -- "Above 483 bytes is 1"
  pub short : length s ≤ 483
  -- "exactly fourteen LF with one last"
  pub ends : count_of 10 s ≡ 14
  pub last : get_or s (length s - 1) 0 ≡ 10
  -- "1 is `HRVHUB30`"
  pub first : field_text s 1 ≡ hrvhub30
  -- "2 is `EUR`"; W1: "currency `HRK`"
  pub second : field_text s 2 ≡ currency_text c
  -- "3: exactly fifteen digits, cents"; W1: "amount in lipa"
  pub third : (all_of Digits (field_text s 3) ≡ true) × (length (field_text s 3) ≡ 15)
  -- "4 to 9 and 14: text of at most 30, 27, 27, 25, 25, 27 and 35 characters; may be empty here"
  pub fourth : (first_wrong (field_text s 4) ≡ None) × (characters (field_text s 4) ≤ 30)
  pub fifth : (first_wrong (field_text s 5) ≡ None) × (characters (field_text s 5) ≤ 27)
  pub sixth : (first_wrong (field_text s 6) ≡ None) × (characters (field_text s 6) ≤ 27)
  pub seventh : (first_wrong (field_text s 7) ≡ None) × (characters (field_text s 7) ≤ 25)
  pub eighth : (first_wrong (field_text s 8) ≡ None) × (characters (field_text s 8) ≤ 25)
  pub ninth : (first_wrong (field_text s 9) ≡ None) × (characters (field_text s 9) ≤ 27)
  -- "10: A to Z and digits; 21 characters; `HR` and nineteen digits; IBAN check"; W1: "or seven digits, a hyphen and ten digits"
  pub tenth : field.RightPayee c (field_text s 10)
  -- "11: `HR` and two digits, else 5 (never 3 or 4); then 7": those of a model that is handled
  pub eleventh : HandledModel (field_text s 11)
  -- "12: digits and hyphens, at most 22 characters, obeying the model of field 11"
  pub twelfth : RightReference (field_text s 11) (field_text s 12)
  -- "13: empty (here) or four letters"
  pub thirteenth : (field_text s 13 ≡ []) ⊎ ((length (field_text s 13) ≡ 4) × (all_of Letters (field_text s 13) ≡ true))
  -- 14, a text as 4 to 9
  pub fourteenth : (first_wrong (field_text s 14) ≡ None) × (characters (field_text s 14) ≤ 35)

-- what holds of a, and of every number behind it up to 14, holds of every number from a to 14
from_on : (P : ℕ → Type 0) (a : ℕ) → P a → ((n : ℕ) → a + 1 ≤ n → n ≤ 14 → P n) → (n : ℕ) → a ≤ n → n ≤ 14 → P n
from_on P a p f n l u = go (eqb n a) refl
  where
    go : (t : Bool) → eqb n a ≡ t → P n
    go true e = subst P (sym (eqb-true n a e)) p
    go false e = let d = eqb-false n a e in f n (omega arith) u

module _ (c : Currency) (s : List ℕ) where
  -- field n is right
  abbrev RightField : ℕ → Type 0
  RightField n = field_verdict c n (text_before s n) (field_text s n) ≡ passed

  -- a text field is right exactly when it is permitted characters, and not too many
  text_field : (n : ℕ) → ((4 ≤ n) × (n ≤ 9)) ⊎ (n ≡ 14) → RightField n ↔ ((first_wrong (field_text s n) ≡ None) × (characters (field_text s n) ≤ most_of n))
  text_field n h = field.text_exactly c (text_before s n) (field_text s n) n h

  right_plain : Right c s → PlainSlip c s
  unfolding piece_of
  right_plain w =
      let f : (n : ℕ) → 1 ≤ n → n ≤ 14 → RightField n = w.fields in
      record {
        short = w.short;
        ends = w.ends;
        last = w.last;
        first = (field.first_exactly _ _ _).0 (f 1 (omega arith) (omega arith));
        second = (field.second_exactly _ _ _).0 (f 2 (omega arith) (omega arith));
        third = (field.third_exactly _ _ _).0 (f 3 (omega arith) (omega arith));
        fourth = (text_field 4 (inl (omega arith, omega arith))).0 (f 4 (omega arith) (omega arith));
        fifth = (text_field 5 (inl (omega arith, omega arith))).0 (f 5 (omega arith) (omega arith));
        sixth = (text_field 6 (inl (omega arith, omega arith))).0 (f 6 (omega arith) (omega arith));
        seventh = (text_field 7 (inl (omega arith, omega arith))).0 (f 7 (omega arith) (omega arith));
        eighth = (text_field 8 (inl (omega arith, omega arith))).0 (f 8 (omega arith) (omega arith));
        ninth = (text_field 9 (inl (omega arith, omega arith))).0 (f 9 (omega arith) (omega arith));
        tenth = (field.tenth_exactly _ _ _).0 (f 10 (omega arith) (omega arith));
        eleventh = (field.eleventh_exactly _ _ _).0 (f 11 (omega arith) (omega arith));
        twelfth = (field.twelfth_exactly _ _ _).0 (f 12 (omega arith) (omega arith));
        thirteenth = (field.thirteenth_exactly _ _ _).0 (f 13 (omega arith) (omega arith));
        fourteenth = (text_field 14 (inr refl)).0 (f 14 (omega arith) (omega arith));
      }

  plain_right : PlainSlip c s → Right c s
  unfolding piece_of
  plain_right w =
      record {
        short = w.short;
        ends = w.ends;
        last = w.last;
        fields =
            from_on RightField 1 ((field.first_exactly _ _ _).1 w.first)
            (from_on RightField 2 ((field.second_exactly _ _ _).1 w.second)
            (from_on RightField 3 ((field.third_exactly _ _ _).1 w.third)
            (from_on RightField 4 ((text_field 4 (inl (omega arith, omega arith))).1 w.fourth)
            (from_on RightField 5 ((text_field 5 (inl (omega arith, omega arith))).1 w.fifth)
            (from_on RightField 6 ((text_field 6 (inl (omega arith, omega arith))).1 w.sixth)
            (from_on RightField 7 ((text_field 7 (inl (omega arith, omega arith))).1 w.seventh)
            (from_on RightField 8 ((text_field 8 (inl (omega arith, omega arith))).1 w.eighth)
            (from_on RightField 9 ((text_field 9 (inl (omega arith, omega arith))).1 w.ninth)
            (from_on RightField 10 ((field.tenth_exactly _ _ _).1 w.tenth)
            (from_on RightField 11 ((field.eleventh_exactly _ _ _).1 w.eleventh)
            (from_on RightField 12 ((field.twelfth_exactly _ _ _).1 w.twelfth)
            (from_on RightField 13 ((field.thirteenth_exactly _ _ _).1 w.thirteenth)
            (from_on RightField 14 ((text_field 14 (inr refl)).1 w.fourteenth)
            (λ n l u. absurd (omega arith)))))))))))))));
      }

  -- a slip is accepted in a currency exactly when it is as the documents ask
  pub accepted_plainly : (slip_answer_in c s ≡ Ok tt) ↔ PlainSlip c s
  accepted_plainly = (λ e. right_plain ((accepted_exactly c s).0 e), λ w. (accepted_exactly c s).1 (plain_right w))

  -- ---------------------------------------------------------------------------
  -- Check groups

  -- "A check group joins those of its parts that are present and ends in its check digit; with none present it is not checked": so does every
  -- group of an accepted slip's model, over the parts of field 12
  pub accepted_groups_pass :
      slip_answer_in c s ≡ Ok tt → (n : ℕ) → model_number (field_text s 11) ≡ Some n → (g : Group) → Memᴰ g (model_of n).groups →
      let here = present g (parts_of (field_text s 12)) in (here ≡ [] → ⊥) → passes g.rule (joined here) ≡ true
  accepted_groups_pass e n q g m =
      let w = (accepted_plainly.0 e).twelfth in
      let z : w.model.number ≡ n = same_number (sym w.model.named ∙ q) in
      let o = both_true (formed (model_of n) (field_text s 12)) (parts_right (model_of n) (parts_of (field_text s 12))) (rw z at w.obeyed) in
      let r = both_true (contents_right (model_of n) (parts_of (field_text s 12))) (groups_right (model_of n).groups (parts_of (field_text s 12))) o.1 in
      groups_right_every (model_of n).groups (parts_of (field_text s 12)) r.1 g m
    where
      same_number : {i j : ℕ} → Some i ≡ Some j → i ≡ j
      same_number p = cc
