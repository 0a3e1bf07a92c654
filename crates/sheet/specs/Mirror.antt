-- What reading a sheet finds, as the code keeps it: by the number of a field where its text begins and how many bytes it has.
-- proofs/Tables.antt leads from it to specs/Sheet.antt, and nobody has to read it to believe that.
use Rattle.std.specs.Prelude.{ℕ, ◌+◌, ◌-◌, cond, List, [], ◌∷◌, eqb, ltb, length, get_or, set, replicate, Option, Some, None}
use Rattle.text.specs.declared.Part.{Part}
use Rattle.text.specs.Split.{split}
use Rattle.sheet.specs.declared.Lines.{Lines}
use Rattle.sheet.specs.Sheet.{line_number, text_start, is_right}

-- the number of a line that is right behind one of the number `last`, and 0 where it is malformed
unfoldable pub right_number : ℕ → List ℕ → ℕ
right_number last p = cond (is_right last p) (line_number p) 0

-- no text
abbrev pub no_texts : List ℕ
no_texts = replicate 15 0

-- a sheet whose first malformed line is k
abbrev pub malformed_at : ℕ → Lines
malformed_at k = record { bad = k; starts = no_texts; lengths = no_texts }

-- what the lines from line k on add to what was found before them; the first of them begins at byte `at`, behind one of the number `last`
unfoldable pub lines_from : ℕ → ℕ → ℕ → List ℕ → List ℕ → List (List ℕ) → Lines
lines_from k last at xs ys [] = record { bad = 0; starts = xs; lengths = ys }
lines_from k last at xs ys (p ∷ []) = cond (eqb (length p) 0) (record { bad = 0; starts = xs; lengths = ys }) (malformed_at k)
lines_from k last at xs ys (p ∷ (q ∷ ps)) =
    cond (eqb (right_number last p) 0) (malformed_at k)
    (lines_from (k + 1) (right_number last p) (at + length p + 1)
    (set xs (right_number last p) (at + text_start (right_number last p)))
    (set ys (right_number last p) (length p - text_start (right_number last p)))
    (q ∷ ps))

-- of a whole sheet
unfoldable pub lines_of : List ℕ → Lines
lines_of s = lines_from 1 0 0 no_texts no_texts (split 10 s)

-- where the text of field n stands, by that
unfoldable pub held_in : Lines → ℕ → Option Part
held_in lines n =
    cond (ltb 14 n) None
    (cond (eqb (get_or lines.starts n 0) 0) None
    (Some (record { start = get_or lines.starts n 0; length = get_or lines.lengths n 0 })))
