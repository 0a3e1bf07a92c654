-- Document 01, "The wage file", its list for 309: the rule of each place, by its field's number. f are the place's own bytes, s the line that it
-- stands in.
use Rattle.std.specs.Prelude.{ℕ, true, false, cond, not, List, eqb}
use Rattle.verdict.specs.Verdict.{Verdict, passed}
use Rattle.text.specs.Bytes.{bytes_verdict}
use Rattle.classes.specs.declared.Class.TheVariants.{Digits}
use Rattle.wage_places.specs.declared.LineType.TheVariants.{Order}
use Rattle.wage_places.specs.Places.{part_of}
use Rattle.wage_contents.specs.Contents.{among_verdict, oib_place_verdict, iban_place_verdict, currency_verdict}
use Rattle.order_contents.specs.Contents.{purpose_place_verdict, sign_verdict, held_in, held_blank, held_verdict, reference_held, description_verdict, code_verdict}

-- "309: 1–34 IBAN and thirteen blanks; 175–177 `000` or `191`; 178–181 and 182–203 payer's model and reference; 204–207 blank or four letters
-- A to Z; 208–347 description; 348–362 amount; 363–366 and 367–388 recipient's model and reference; 543 is 0, 1 or 2; 544–546 blank or `EUR`;
-- 547 blank, 0 or 3 and 548 blank or 0, all else 5; 549–551 a code of 004's list (55 codes); 552–562 OIB or zeros, for kind 5 zeros are 5";
-- a blank is 32, `0` is 48, `3` is 51; the payer's reference goes by the model at field 6, the recipient's and the code by that at 11
abbrev pub order_rule : ℕ → ℕ → List ℕ → List ℕ → Verdict
order_rule kind n f s =
    cond (eqb n 1) (iban_place_verdict false f)
    (cond (eqb n 5) (among_verdict 0 191 191 f)
    (cond (eqb n 6) (held_verdict (held_in f))
    (cond (eqb n 7) (reference_held (held_in (part_of Order 6 s)) f)
    (cond (eqb n 8) (purpose_place_verdict f)
    (cond (eqb n 9) (description_verdict f)
    (cond (eqb n 10) (bytes_verdict Digits f)
    (cond (eqb n 11) (held_verdict (held_in f))
    (cond (eqb n 12) (reference_held (held_in (part_of Order 11 s)) f)
    (cond (eqb n 18) (among_verdict 0 1 2 f)
    (cond (eqb n 19) (currency_verdict true f)
    (cond (eqb n 20) (sign_verdict 32 48 51 f)
    (cond (eqb n 21) (sign_verdict 32 48 48 f)
    (cond (eqb n 22) (code_verdict kind (held_blank (held_in (part_of Order 11 s))) f)
    (cond (eqb n 23) (oib_place_verdict (not (eqb kind 5)) f)
    passed))))))))))))))
