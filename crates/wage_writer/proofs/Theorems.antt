-- What is promised of the writer of a 300 and a 309: 15 exactly when all else is right and the
-- room is under 1,002. Assumes nothing.
use Rattle.refusal.proofs.Basics.{◌≡◌, ℕ, ◌<◌, lt-leb, List, true, ◌||◌, eqb, ◌↔◌}
use Rattle.std.specs.Prelude.{Ok}
use Rattle.dates.specs.Dates.{is_date}
use Rattle.wage_places.specs.declared.LineType.TheVariants.{Label, Order}
use Rattle.bare_line.specs.Bare.{bare_line}
use Rattle.line_room.specs.LineRoom.{for_room}
use Rattle.line_room.proofs.Laws.{no_room, day_before, kind_before, accepted_before, room_before}
use Rattle.wage_writer.specs.Writer.{label_draft, order_draft, label_answer, order_answer}
use Rattle.wage_writer.proofs.Refusals.{draft_no_room}

-- ---------------------------------------------------------------------------
-- 15 exactly when all else is right and the room is under 1,002

module _ (day room : ℕ) (fs : List (List ℕ)) where
  -- for a 300
  pub room_exactly_label : (label_answer day fs room ≡ no_room) ↔ ((is_date day ≡ true) × ((label_draft day fs).answer ≡ Ok tt) × (room < 1002))
  unfolding label_answer
  room_exactly_label = (
    (λ (e : label_answer day fs room ≡ no_room).
        let d = day_before day _ e in
        let f = accepted_before (label_draft day fs).answer (for_room room) (draft_no_room day 0 Label fs (bare_line Label)) d.1 in
        (d.0, f.0, room_before room f.1)),
    (λ (w : (is_date day ≡ true) × ((label_draft day fs).answer ≡ Ok tt) × (room < 1002)). rw (w.0, w.1, lt-leb 1002 room w.2)),
  )

  module _ (kind : ℕ) where
    -- for a 309
    pub room_exactly_order :
        (order_answer day kind fs room ≡ no_room)
        ↔ ((is_date day ≡ true) × ((eqb kind 4 || eqb kind 5) ≡ true) × ((order_draft day kind fs).answer ≡ Ok tt) × (room < 1002))
    unfolding order_answer
    room_exactly_order = (
      (λ (e : order_answer day kind fs room ≡ no_room).
          let d = day_before day _ e in
          let k = kind_before kind _ d.1 in
          let f = accepted_before (order_draft day kind fs).answer (for_room room) (draft_no_room day kind Order fs (bare_line Order)) k.1 in
          (d.0, k.0, f.0, room_before room f.1)),
      (λ (w : (is_date day ≡ true) × ((eqb kind 4 || eqb kind 5) ≡ true) × ((order_draft day kind fs).answer ≡ Ok tt) × (room < 1002)).
          rw (w.0, w.1, w.2, lt-leb 1002 room w.3)),
    )
