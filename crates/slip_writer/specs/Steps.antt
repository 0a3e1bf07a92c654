-- What is promised of a slip written: the answer, and what is left in the lent room.
use Rattle.std.specs.Prelude.{ℕ, ◌≡◌, List, length, Result}
use Rattle.refusal.specs.declared.Refusal.{Refusal}
use Rattle.slip_writer.specs.Writer.{slip_text, written_in_room, write_answer, left_by_slip}

-- what the writer answers and leaves in the lent room
abbrev pub WritesSlip : ℕ → List (List ℕ) → List ℕ → Result ℕ Refusal → List ℕ → Type 0
WritesSlip cents fields out r after = (r ≡ write_answer cents fields (length out)) × (after ≡ left_by_slip r (slip_text cents fields) out)

-- the same of fields that are accepted
abbrev pub WritesAccepted : ℕ → List (List ℕ) → List ℕ → Result ℕ Refusal → List ℕ → Type 0
WritesAccepted cents fields out r after = (r ≡ written_in_room (slip_text cents fields) (length out)) × (after ≡ left_by_slip r (slip_text cents fields) out)
