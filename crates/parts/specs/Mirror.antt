-- Where the parts of a text end, packed into one number: it mirrors src/, and proofs/Readers.antt leads from what is read to `formed` of
-- Parts.antt.
use Rattle.std.specs.Prelude.{ℕ, ◌+◌, ◌-◌, ◌*◌, ◌/◌, ◌%◌, ◌^◌, Bool, cond, not, ◌&&◌, ◌||◌, List, [], ◌∷◌, eqb, length, Option, Some, None}
use Rattle.text.specs.Bytes.{all_of}
use Rattle.classes.specs.declared.Class.TheVariants.{Digits}
use Rattle.models.specs.declared.Model.{Model}
use Rattle.parts.specs.Parts.{parts_of, parts_fit, formed}

-- ---------------------------------------------------------------------------
-- The ends of parts

-- the ends of parts of which the first begins at a byte, each a digit of base 1024, the first end the lowest
unfoldable pub ends_from : ℕ → List (List ℕ) → ℕ
ends_from at [] = 0
ends_from at (p ∷ ps) = at + length p + 1024 * ends_from (at + length p + 1) ps

-- the ends of a text's parts
abbrev pub ends_of : List ℕ → ℕ
ends_of s = ends_from 0 (parts_of s)

-- those of a formed text
abbrev pub parts_found : Model → List ℕ → Option ℕ
parts_found model s = cond (formed model s) (Some (ends_of s)) None

-- the end of part k, counted from 0; 0 where there is no such part, since no part is empty
abbrev pub end_of : ℕ → ℕ → ℕ
end_of k ends = (ends / 1024 ^ k) % 1024

-- as many parts as a model asks: none behind the most, and there is a last of the fewest
abbrev pub count_fits : ℕ → ℕ → ℕ → Bool
count_fits fewest most ends =
    eqb (end_of most ends) 0 && (eqb fewest 0 || not (eqb (end_of (fewest - 1) ends) 0))

-- ---------------------------------------------------------------------------
-- "A part is read digit by digit and a hyphen hands over to the reading of the next part"

-- what the part reader answers of parts from a byte on: their ends, or 0 where one does not fit
abbrev pub part_read : List ℕ → ℕ → List (List ℕ) → ℕ
part_read lengths at ps = cond (parts_fit lengths ps) (ends_from at ps) 0

-- what the digit reader answers, of whose part the length is not judged yet
abbrev pub digit_read : List ℕ → ℕ → List (List ℕ) → ℕ
digit_read lengths at [] = 0
digit_read lengths at (p ∷ ps) = cond (all_of Digits p && parts_fit lengths ps) (ends_from at (p ∷ ps)) 0
