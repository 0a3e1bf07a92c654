-- Laws of a line put into lent room: what the line leaves there, and what stands before the refusal of the room.
-- Assumes nothing.
use Rattle.refusal.proofs.Basics.{◌≡◌, refl, ap, ◌∙◌, arith, ℕ, ◌≤◌, ◌<◌, length, drop, le-leb, leb-false, List, ◌++◌, true, false, ◌||◌, Bool, cond, eqb, leb, sets}
use Rattle.std.specs.Prelude.{Ok, Err}
use Rattle.refusal.specs.Refusal.{Answer, none, first_of}
use Rattle.refusal.specs.declared.Refusal.TheVariants.{Form, Date, Room}
use Rattle.dates.specs.Dates.{is_date}
use Rattle.room.proofs.Places.{front}
use Rattle.line_room.specs.LineRoom.{for_day, for_kind, for_room, Writes}

-- there is room for the line
pub room_enough :
    (line out after : List ℕ) → length line ≡ 1002 → 1002 ≤ length out → after ≡ sets out 0 line
    → Writes (for_room (length out)) line out (Ok tt) after
room_enough line out after e h w =
    let f : after ≡ line ++ drop 1002 out = w ∙ front out line (omega arith) ∙ ap (λ (n : ℕ). line ++ drop n out) e in
    rw (le-leb 1002 (length out) h) (record { answers = refl; leaves = f })

-- ---------------------------------------------------------------------------
-- What stands before the refusal of the room

-- the refusal of the room
abbrev pub no_room : Answer
no_room = Err (Room none 1002)

-- the day is a date
pub day_before : (day : ℕ) (rest : Answer) → for_day day rest ≡ no_room → (is_date day ≡ true) × (rest ≡ no_room)
day_before day rest e = go (is_date day) refl e
  where
    go : (b : Bool) → is_date day ≡ b → cond b rest (Err (Date none)) ≡ no_room → (is_date day ≡ true) × (rest ≡ no_room)
    go true h g = (h, g)
    go false h g = let z : ◌≡◌ {A = ℕ} 0 1 = cc in absurd (omega arith)

-- the kind is 4 or 5
pub kind_before : (kind : ℕ) (rest : Answer) → for_kind kind rest ≡ no_room → ((eqb kind 4 || eqb kind 5) ≡ true) × (rest ≡ no_room)
kind_before kind rest e = go (eqb kind 4 || eqb kind 5) refl e
  where
    go : (b : Bool) → (eqb kind 4 || eqb kind 5) ≡ b → cond b rest (Err (Form none)) ≡ no_room → ((eqb kind 4 || eqb kind 5) ≡ true) × (rest ≡ no_room)
    go true h g = (h, g)
    go false h g = let z : ◌≡◌ {A = ℕ} 0 1 = cc in absurd (omega arith)

-- what comes before is accepted
pub accepted_before : (a rest : Answer) → (a ≡ no_room → ⊥) → first_of a rest ≡ no_room → (a ≡ Ok tt) × (rest ≡ no_room)
accepted_before (Ok u) rest other e = (refl, e)
accepted_before (Err r) rest other e = absurd (other e)

-- there is too little room
pub room_before : (n : ℕ) → for_room n ≡ no_room → n < 1002
room_before n e = go (leb 1002 n) refl e
  where
    go : (b : Bool) → leb 1002 n ≡ b → cond b (Ok tt) no_room ≡ no_room → n < 1002
    go true h g = let z : ◌≡◌ {A = ℕ} 0 1 = cc in absurd (omega arith)
    go false h g = leb-false 1002 n h
