-- Document 01, "The wage file": "A whole lent file gives the answer of its 1,002-byte pieces, one by one; a short last piece is 1".
use Rattle.std.specs.Prelude.{ℕ, zero, suc, ◌+◌, cond, List, [], ◌∷◌, leb, length, take, drop}

-- at most n pieces
unfoldable pub pieces_of : ℕ → List ℕ → List (List ℕ)
pieces_of zero s = []
pieces_of (suc n) [] = []
pieces_of (suc n) (b ∷ s) = take 1002 (b ∷ s) ∷ pieces_of n (drop 1002 (b ∷ s))

-- all of them: there are no more than bytes
abbrev pub pieces : List ℕ → List (List ℕ)
pieces s = pieces_of (length s) s

-- where the piece after the one at a place begins, in n bytes: at their end, if there is none
abbrev pub next_piece : ℕ → ℕ → ℕ
next_piece n at = cond (leb (at + 1002) n) (at + 1002) n
