-- Document 02, W2: one sheet of field lines. "`number=text` with LF, numbers 4 to 9, 13 and 14, no leading zero, ascending, each at most
-- once, each text obeying its field's rule in 01".
use Rattle.std.specs.Prelude.{ℕ, ◌+◌, ◌-◌, Bool, cond, ◌&&◌, ◌||◌, List, [], ◌∷◌, eqb, leb, ltb, length, get_or, drop, Option, Some, None, is_ok}
use Rattle.text.specs.declared.Part.{Part}
use Rattle.text.specs.Split.{split}
use Rattle.text.specs.Lines.{lines_among}
use Rattle.slip_fields.specs.declared.Currency.TheVariants.{Euro}
use Rattle.slip_fields.specs.Fields.{field_verdict}

-- ---------------------------------------------------------------------------
-- One line: `=` is 61, the digits are 48 to 57

-- "numbers 4 to 9, 13 and 14"
unfoldable pub is_standing : ℕ → Bool
is_standing n = (leb 4 n && leb n 9) || (eqb n 13 || eqb n 14)

-- the field that one digit names, and that two name, "no leading zero"; else 0
abbrev pub one_digit : ℕ → ℕ
one_digit b = cond (leb 52 b && leb b 57) (b - 48) 0

abbrev pub two_digit : ℕ → ℕ → ℕ
two_digit a b = cond (eqb a 49) (cond (eqb b 51) 13 (cond (eqb b 52) 14 0)) 0

-- the number of a line, which stands before its `=`; 0 where no field's does
unfoldable pub line_number : List ℕ → ℕ
line_number p =
    cond (eqb (get_or p 1 0) 61) (one_digit (get_or p 0 0))
    (cond (eqb (get_or p 2 0) 61) (two_digit (get_or p 0 0) (get_or p 1 0)) 0)

-- where the text of a line begins, behind its number and the `=`
abbrev pub text_start : ℕ → ℕ
text_start n = cond (ltb n 10) 2 3

abbrev pub line_text : List ℕ → List ℕ
line_text p = drop (text_start (line_number p)) p

-- a line is right behind one of the number `last`: "ascending, each at most once, each text obeying its field's rule in 01"
abbrev pub is_right : ℕ → List ℕ → Bool
is_right last p = ltb last (line_number p) && is_ok (field_verdict Euro (line_number p) [] (line_text p))

-- ---------------------------------------------------------------------------
-- The sheet: its lines are the pieces between line feeds, and nothing stands behind the last

-- the first malformed line, the first of these being line k; 0 where there is none
unfoldable pub bad_from : ℕ → ℕ → List (List ℕ) → ℕ
bad_from k last [] = 0
bad_from k last (p ∷ []) = cond (eqb (length p) 0) 0 k
bad_from k last (p ∷ (q ∷ ps)) = cond (is_right last p) (bad_from (k + 1) (line_number p) (q ∷ ps)) k

-- "20, sheet line malformed, with the first such line"
abbrev pub bad_line : List ℕ → ℕ
bad_line s = bad_from 1 0 (split 10 s)

-- where the text of field n stands, the first of these lines beginning at byte `at`
unfoldable pub held_from : ℕ → ℕ → List (List ℕ) → Option Part
held_from n at [] = None
held_from n at (p ∷ ps) =
    cond (eqb (line_number p) n)
    (Some (record { start = at + text_start n; length = length p - text_start n }))
    (held_from n (at + length p + 1) ps)

-- "as the part of that sheet where it stands"
abbrev pub line_held : ℕ → List ℕ → Option Part
line_held n s = held_from n 0 (lines_among (split 10 s))
