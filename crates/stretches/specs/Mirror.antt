-- The parts of a reference as stretches of its text, by where its parts end: it mirrors src/, and proofs/Laws.antt says which parts a stretch is.
use Rattle.std.specs.Prelude.{ℕ, ◌+◌, ◌-◌, cond, ◌&&◌, List, [], eqb, leb, length, take, drop}
use Rattle.parts.specs.Mirror.{end_of}

-- the byte at which part k begins, counted from 0
abbrev pub part_start : ℕ → ℕ → ℕ
part_start k ends = cond (eqb k 0) 0 (end_of (k - 1) ends + 1)

-- the end of a stretch, that of a part or, where there is no such part, that of the text
abbrev pub up_to : ℕ → List ℕ → ℕ
up_to e s = cond (eqb e 0) (length s) e

-- the bytes from a on and before e; none where they do not stand in the text
abbrev pub bytes_between : ℕ → ℕ → List ℕ → List ℕ
bytes_between a e s = cond (leb a e && leb e (length s)) (take (e - a) (drop a s)) []

-- from the start of a part to the end of another
unfoldable pub stretch : ℕ → ℕ → ℕ → List ℕ → List ℕ
stretch first last ends s = bytes_between (part_start first ends) (up_to (end_of last ends) s) s
