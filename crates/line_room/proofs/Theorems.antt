-- What is promised of a line put into lent room: a refusal changes nothing there, and nothing changes behind
-- the line. Assumes nothing.
use Rattle.refusal.proofs.Basics.{◌≡◌, refl, ℕ, ◌<◌, length, drop, lt-leb, List, true, drop_at, ◌↔◌}
use Rattle.std.specs.Prelude.{Ok, Err}
use Rattle.refusal.specs.Refusal.{Answer}
use Rattle.refusal.specs.declared.Refusal.{Refusal}
use Rattle.dates.specs.Dates.{is_date}
use Rattle.line_room.specs.LineRoom.{for_room, closing_answer, left_by_line}
use Rattle.line_room.proofs.Laws.{no_room, day_before, room_before}

-- ---------------------------------------------------------------------------
-- What is not changed

-- a refusal leaves the whole room as it was
pub refusal_leaves_all : (r : Refusal) (line out : List ℕ) → left_by_line (Err r) line out ≡ out
refusal_leaves_all r line out = refl

-- and a line leaves what is behind it
pub behind_kept : (a : Answer) (line out : List ℕ) → length line ≡ 1002 → drop 1002 (left_by_line a line out) ≡ drop 1002 out
behind_kept (Ok u) line out e = drop_at line (drop 1002 out) 1002 e
behind_kept (Err r) line out e = refl

-- ---------------------------------------------------------------------------
-- 15 exactly when all else is right and the room is under 1,002

module _ (day room : ℕ) where
  -- for a 399
  pub room_exactly_closing : (closing_answer day room ≡ no_room) ↔ ((is_date day ≡ true) × (room < 1002))
  unfolding closing_answer
  room_exactly_closing = (
    (λ (e : closing_answer day room ≡ no_room). let d = day_before day (for_room room) e in (d.0, room_before room d.1)),
    (λ (w : (is_date day ≡ true) × (room < 1002)). rw (w.0, lt-leb 1002 room w.1)),
  )
