-- Document 01, "The slip's fourteen fields", and document 02, W1: what an accepted slip hands back.
use Rattle.std.specs.Prelude.{ℕ, zero, suc, ◌+◌, ◌-◌, Bool, cond, ◌&&◌, List, [], ◌∷◌, leb, length, Result, Ok, Err}
use Rattle.refusal.specs.Refusal.{Answer, is_accepted}
use Rattle.refusal.specs.declared.Refusal.{Refusal}
use Rattle.text.specs.declared.Part.{Part}
use Rattle.text.specs.Digits.{digits_of, value_of}
use Rattle.text.specs.Split.{split}
use Rattle.slip_fields.specs.declared.Currency.{Currency}
use Rattle.slip_fields.specs.declared.Currency.TheVariants.{Euro}
use Rattle.slip.specs.Slip.{slip_answer_in, slip_answer, piece_of}

-- ---------------------------------------------------------------------------
-- A field of a slip

-- a field is handed out: 4 to 14, of an accepted slip in currency c
abbrev pub is_handed : Currency → List ℕ → ℕ → Bool
is_handed c s n = leb 4 n && (leb n 14 && is_accepted (slip_answer_in c s))

-- "hands back each text field as the part of the lent bytes where it stands, 10 to 13 too (1 to 3 empty)"; an unknown number and a refused
-- slip give an empty one
unfoldable pub field_in : Currency → List ℕ → ℕ → List ℕ
field_in c s n = cond (is_handed c s n) (piece_of (n - 1) (split 10 s)) []

-- of a euro slip
abbrev pub field_of : List ℕ → ℕ → List ℕ
field_of s n = field_in Euro s n

-- where the piece at a place begins, behind the pieces before it and their line feeds
unfoldable pub piece_start : ℕ → List (List ℕ) → ℕ
piece_start zero ps = 0
piece_start (suc k) [] = 0
piece_start (suc k) (p ∷ []) = 0
piece_start (suc k) (p ∷ (q ∷ ps)) = length p + 1 + piece_start k (q ∷ ps)

-- the same field told as start and length
abbrev pub piece_part : ℕ → List (List ℕ) → Part
piece_part k ps = record { start = piece_start k ps; length = length (piece_of k ps) }

unfoldable pub field_part_in : Currency → List ℕ → ℕ → Part
field_part_in c s n = cond (is_handed c s n) (piece_part (n - 1) (split 10 s)) (record { start = 0; length = 0 })

-- of a euro slip
abbrev pub field_part : List ℕ → ℕ → Part
field_part s n = field_part_in Euro s n

-- ---------------------------------------------------------------------------
-- The amount of a slip

-- the number that its field 3 writes
abbrev pub amount_of : List ℕ → ℕ
amount_of s = value_of (digits_of (piece_of 2 (split 10 s)))

abbrev pub cents_from : List ℕ → Answer → Result ℕ Refusal
cents_from s (Ok u) = Ok (amount_of s)
cents_from s (Err r) = Err r

-- the amount of an accepted euro slip in cents; else its refusal
abbrev pub slip_cents : List ℕ → Result ℕ Refusal
slip_cents s = cents_from s (slip_answer s)
