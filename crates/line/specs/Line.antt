-- Document 01, "Wet slips": the listing program reads one line, and its first space divides it.
use Rattle.std.specs.Prelude.{ℕ, Bool, true, false, cond, List, [], ◌∷◌, eqb}

-- what stands before the first byte c; all of it where there is none
unfoldable pub before : ℕ → List ℕ → List ℕ
before c [] = []
before c (b ∷ s) = cond (eqb b c) [] (b ∷ before c s)

-- what stands after the first byte c; nothing where there is none
unfoldable pub following : ℕ → List ℕ → List ℕ
following c [] = []
following c (b ∷ s) = cond (eqb b c) s (following c s)

-- whether there is a byte c
unfoldable pub has : ℕ → List ℕ → Bool
has c [] = false
has c (b ∷ s) = cond (eqb b c) true (has c s)

-- the line: what stands before the first line feed, 10
abbrev pub line_of : List ℕ → List ℕ
line_of s = before 10 s

-- its two sides: before and after its first space, 32
abbrev pub head_of : List ℕ → List ℕ
head_of s = before 32 (line_of s)

abbrev pub tail_of : List ℕ → List ℕ
tail_of s = following 32 (line_of s)
