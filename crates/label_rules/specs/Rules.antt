-- Document 01, "The wage file", its list for 300: the rule of each place, by its field's number. f are the place's own bytes, s the line that it
-- stands in.
use Rattle.std.specs.Prelude.{ℕ, true, false, cond, List, eqb}
use Rattle.verdict.specs.Verdict.{Verdict, passed}
use Rattle.text.specs.Bytes.{bytes_verdict}
use Rattle.classes.specs.declared.Class.TheVariants.{Digits}
use Rattle.wage_places.specs.declared.LineType.TheVariants.{Label}
use Rattle.wage_places.specs.Places.{part_of}
use Rattle.wage_contents.specs.Contents.{among_verdict, oib_place_verdict, employer_verdict, date_verdict}

-- "300: 1–8 today; 9 is 4 or 5 (kind); 10–12 `000`; 13 is 1 or 2; 14–24 OIB or zeros; 25–35; 36–46; at least two of these three not zero,
-- else 5 at field 7; 47–57 OIB, zeros are 5"
abbrev pub label_rule : ℕ → ℕ → List ℕ → List ℕ → Verdict
label_rule day n f s =
    cond (eqb n 1) (date_verdict day day f)
    (cond (eqb n 2) (among_verdict 4 5 5 f)
    (cond (eqb n 3) (among_verdict 0 0 0 f)
    (cond (eqb n 4) (among_verdict 1 2 2 f)
    (cond (eqb n 5) (oib_place_verdict true f)
    (cond (eqb n 6) (bytes_verdict Digits f)
    (cond (eqb n 7) (employer_verdict (part_of Label 5 s) (part_of Label 6 s) f)
    (cond (eqb n 8) (oib_place_verdict false f)
    passed)))))))
