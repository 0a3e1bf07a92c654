-- How the code keeps a line, byte by byte, in two lent arrays: it mirrors src/, and proofs/Theorems.antt says what is kept.
use Rattle.std.specs.Prelude.{ℕ, ◌+◌, true, false, cond, List, [], ◌∷◌, eqb, ltb, length, set}
use Rattle.line.specs.declared.Seen.{Seen}

-- nothing seen yet
abbrev pub starting : Seen
starting = record { head = 0; tail = 0; spaced = false; ended = false }

-- what was seen, and the two lent arrays
pub record Kept : Type 0 where
  pub seen : Seen
  pub head : List ℕ
  pub tail : List ℕ

abbrev pub kept_of : Seen → List ℕ → List ℕ → Kept
kept_of seen head tail = record { seen = seen; head = head; tail = tail }

-- a byte after the space: it goes to the tail, while there is room
abbrev pub took_tail : Kept → ℕ → Kept
took_tail k b =
    cond (ltb k.seen.tail (length k.tail))
    (kept_of (record { head = k.seen.head; tail = k.seen.tail + 1; spaced = true; ended = false }) k.head (set k.tail k.seen.tail b))
    k

-- a byte before the space that is none: it goes to the head, while there is room
abbrev pub took_head : Kept → ℕ → Kept
took_head k b =
    cond (ltb k.seen.head (length k.head))
    (kept_of (record { head = k.seen.head + 1; tail = k.seen.tail; spaced = false; ended = false }) (set k.head k.seen.head b) k.tail)
    k

-- one byte more: after the line's end nothing; a line feed ends it; after the space it goes to the tail; a space divides; any other goes to the
-- head
unfoldable pub took : Kept → ℕ → Kept
took k b =
    cond k.seen.ended k
    (cond (eqb b 10) (kept_of (record { head = k.seen.head; tail = k.seen.tail; spaced = k.seen.spaced; ended = true }) k.head k.tail)
    (cond k.seen.spaced (took_tail k b)
    (cond (eqb b 32) (kept_of (record { head = k.seen.head; tail = k.seen.tail; spaced = true; ended = false }) k.head k.tail)
    (took_head k b))))

-- one byte after the other
unfoldable pub feed : Kept → List ℕ → Kept
feed k [] = k
feed k (b ∷ s) = feed (took k b) s
