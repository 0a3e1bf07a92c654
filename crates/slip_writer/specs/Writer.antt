-- Document 01, "The slip's fourteen fields": what the writer of slips answers, and what it leaves in the lent room.
use Rattle.std.specs.Prelude.{ℕ, ◌^◌, cond, List, [], ◌∷◌, ◌++◌, ltb, length, drop, Result, Ok, Err}
use Rattle.refusal.specs.Refusal.{Answer, none}
use Rattle.refusal.specs.declared.Refusal.{Refusal}
use Rattle.refusal.specs.declared.Refusal.TheVariants.{Length, Room}
use Rattle.text.specs.Bytes.{eur}
use Rattle.text.specs.Lines.{join_lines}
use Rattle.text.specs.Digits.{digits_text}
use Rattle.slip_fields.specs.Fields.{hrvhub30}
use Rattle.slip_given.specs.Given.{given_answer}

-- ---------------------------------------------------------------------------
-- The slip's bytes

-- the slip of an amount in cents and the fields 4 to 14
unfoldable pub slip_text : ℕ → List (List ℕ) → List ℕ
slip_text cents fields = join_lines (hrvhub30 ∷ (eur ∷ (digits_text 15 cents ∷ fields)))

-- ---------------------------------------------------------------------------
-- Answers

-- "then 15 exactly when the room is too small"
abbrev pub written_in_room : List ℕ → ℕ → Result ℕ Refusal
written_in_room s room = cond (ltb room (length s)) (Err (Room none (length s))) (Ok (length s))

abbrev pub after_fields : Answer → List ℕ → ℕ → Result ℕ Refusal
after_fields (Ok u) s room = written_in_room s room
after_fields (Err r) s room = Err r

-- "the amount in cents (10^15 or more is 4)"
unfoldable pub write_answer : ℕ → List (List ℕ) → ℕ → Result ℕ Refusal
write_answer cents fields room =
    cond (ltb cents (10 ^ 15))
    (after_fields (given_answer 4 [] fields) (slip_text cents fields) room)
    (Err (Length (record { line = 0; field = 3; byte = 0 })))

-- "It writes at the front and changes nothing after the slip"; no refusal changes lent memory
abbrev pub left_by_slip : Result ℕ Refusal → List ℕ → List ℕ → List ℕ
left_by_slip (Ok n) s out = s ++ drop (length s) out
left_by_slip (Err r) s out = out
