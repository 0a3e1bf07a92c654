-- The lines of a text, each ended by a line feed: those of a slip, and those of a sheet.
use Rattle.std.specs.Prelude.{ℕ, ◌≡◌, true, List, [], ◌∷◌, ◌++◌}
use Rattle.classes.specs.declared.Class.TheVariants.{Line}
use Rattle.text.specs.Bytes.{all_of}

-- each text with a line feed after it
unfoldable pub join_lines : List (List ℕ) → List ℕ
join_lines [] = []
join_lines (p ∷ ps) = p ++ (10 ∷ join_lines ps)

-- all pieces but the last: the lines of a text
abbrev pub lines_among : List (List ℕ) → List (List ℕ)
lines_among [] = []
lines_among (p ∷ []) = []
lines_among (p ∷ (q ∷ ps)) = p ∷ lines_among (q ∷ ps)

-- the last piece: what stands behind the last line feed
abbrev pub last_piece : List (List ℕ) → List ℕ
last_piece [] = []
last_piece (p ∷ []) = p
last_piece (p ∷ (q ∷ ps)) = last_piece (q ∷ ps)

-- no line feed stands in any of the texts
pub data EachLine : List (List ℕ) → Type 0 where
  none : EachLine []
  more : {p : List ℕ} {ps : List (List ℕ)} → all_of Line p ≡ true → EachLine ps → EachLine (p ∷ ps)
