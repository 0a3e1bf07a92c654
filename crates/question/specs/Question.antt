-- What a question says (second/README.md, "Cases"): its fields between bars, its verb, the numbers in its fields, and a text of fields laid
-- out. `|` is 124, a line feed 10.
use Rattle.std.specs.Prelude.{ℕ, zero, suc, cond, List, [], ◌∷◌, map, eqb, ltb, length, get_or}
use Rattle.text.specs.Bytes.{same}
use Rattle.text.specs.Digits.{digits_of, value_of}
use Rattle.text.specs.Split.{split}

-- ---------------------------------------------------------------------------
-- Fields

-- the piece of a text at a place between the bytes c, counted from 0; past the last it is empty
abbrev pub piece_at : ℕ → ℕ → List ℕ → List ℕ
piece_at c k s = get_or (split c s) k []

-- a field of a question: "divided by `|`"; "a field that is not there is empty"
abbrev pub field_at : ℕ → List ℕ → List ℕ
field_at k s = piece_at 124 k s

-- what stands behind so many bars; nothing where there are fewer
unfoldable pub behind_bars : ℕ → List ℕ → List ℕ
behind_bars zero s = s
behind_bars (suc k) [] = []
behind_bars (suc k) (b ∷ s) = cond (eqb b 124) (behind_bars k s) (behind_bars (suc k) s)

-- the place of a word among others, counted from 0; their number where it is not there
unfoldable pub place_among : List ℕ → List (List ℕ) → ℕ
place_among w [] = 0
place_among w (p ∷ ps) = cond (same w p) 0 (suc (place_among w ps))

-- ---------------------------------------------------------------------------
-- Numbers

-- the largest number of 64 bits
abbrev pub largest : ℕ
largest = 18446744073709551615

-- "the largest of 64 bits where it is more"
unfoldable pub capped : ℕ → ℕ
capped n = cond (ltb largest n) largest n

-- "that of the digits in its field"
abbrev pub number_asked : List ℕ → ℕ
number_asked s = capped (value_of (digits_of s))

-- ---------------------------------------------------------------------------
-- A text of fields laid out

-- "`|` in the text stands for a line feed", in a sheet `~`: the byte c does
abbrev pub line_byte : ℕ → ℕ → ℕ
line_byte c b = cond (eqb b c) 10 b

-- a text with its bytes c as line feeds
abbrev pub lined : ℕ → List ℕ → List ℕ
lined c s = map (λ (b : ℕ). line_byte c b) s

-- the size of each field
abbrev pub lengths_of : List (List ℕ) → List ℕ
lengths_of fs = map (λ (f : List ℕ). length f) fs
