-- Document 01, "The wage file": a line's size, ends and type, and its parts.
use Rattle.std.specs.Prelude.{ℕ, Bool, cond, ◌&&◌, List, [], eqb, length, get_or, Result, Ok, Err}
use Rattle.refusal.specs.declared.Refusal.{Refusal}
use Rattle.refusal.specs.Basics.{spelt}
use Rattle.refusal.specs.Refusal.{none}
use Rattle.refusal.specs.declared.Refusal.TheVariants.{Size, Ends, Form}
use Rattle.wage_places.specs.declared.LineType.{LineType}
use Rattle.wage_places.specs.declared.LineType.TheVariants.{Label, Group, Order, Closing}
use Rattle.wage_places.specs.Places.{part_of}

-- ---------------------------------------------------------------------------
-- Size, ends, type

-- "Lines of 1,000 bytes, WIN-1250, then CR LF": 13 and 10
abbrev pub ends_right : List ℕ → Bool
ends_right s = eqb (get_or s 1000 0) 13 && eqb (get_or s 1001 0) 10

-- "A wrong line type (5) has field 0, byte 997"
abbrev pub wrong_type : Result LineType Refusal
wrong_type = Err (Form (record { line = 0; field = 0; byte = 997 }))

-- `300`, `301`, `309` or `399`: `0` is 48, `1` is 49, `3` is 51, `9` is 57
unfoldable pub type_from : ℕ → ℕ → ℕ → Result LineType Refusal
type_from a b c =
    cond (eqb a 51)
    (cond (eqb b 48)
    (cond (eqb c 48) (Ok Label) (cond (eqb c 49) (Ok Group) (cond (eqb c 57) (Ok Order) wrong_type)))
    (cond (eqb b 57) (cond (eqb c 57) (Ok Closing) wrong_type) wrong_type))
    wrong_type

-- the three digits of each type
unfoldable pub type_text : LineType → List ℕ
type_text Label = spelt "300"
type_text Group = spelt "301"
type_text Order = spelt "309"
type_text Closing = spelt "399"

-- "Type at 998 to 1000"
abbrev pub type_of : List ℕ → Result LineType Refusal
type_of s = type_from (get_or s 997 0) (get_or s 998 0) (get_or s 999 0)

-- 1, 2, 5 (type)
unfoldable pub typed_of : List ℕ → Result LineType Refusal
typed_of s =
    cond (eqb (length s) 1002)
    (cond (ends_right s) (type_of s) (Err (Ends none)))
    (Err (Size none))

-- ---------------------------------------------------------------------------
-- A place of a line

abbrev pub queried : ℕ → List ℕ → Result LineType Refusal → List ℕ
queried n s (Ok t) = part_of t n s
queried n s (Err r) = []

-- "Each place named below, and field 2, is handed back by field number as a part of its 1,002-byte line, empty if 1, 2 or 5 (type) refuses
-- the line; no other rule is asked"
unfoldable pub place_of : List ℕ → ℕ → List ℕ
place_of s n = queried n s (typed_of s)
