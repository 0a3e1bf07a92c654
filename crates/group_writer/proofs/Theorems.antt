-- What is promised of the writer of a 301: 15 exactly when all else is right and the room is under
-- 1,002. Assumes nothing.
use Rattle.refusal.proofs.Basics.{◌≡◌, ℕ, ◌<◌, lt-leb, List, true, ◌||◌, eqb, ◌↔◌}
use Rattle.std.specs.Prelude.{Ok}
use Rattle.dates.specs.Dates.{is_date}
use Rattle.wage_places.specs.declared.LineType.TheVariants.{Group}
use Rattle.bare_line.specs.Bare.{bare_line}
use Rattle.wage_orders.specs.Orders.{group_orders}
use Rattle.line_room.specs.LineRoom.{for_room}
use Rattle.line_room.proofs.Laws.{no_room, day_before, kind_before, accepted_before, room_before}
use Rattle.wage_writer.proofs.Refusals.{draft_no_room}
use Rattle.group_writer.specs.GroupWriter.{group_draft, group_answer}
use Rattle.group_writer.proofs.Refusals.{orders_no_room}

-- ---------------------------------------------------------------------------
-- 15 exactly when all else is right and the room is under 1,002

module _ (day room : ℕ) (fs : List (List ℕ)) (kind : ℕ) where
  -- for a 301
  pub room_exactly_group :
      (orders : List ℕ) → (group_answer day kind fs orders room ≡ no_room)
      ↔ ((is_date day ≡ true) × ((eqb kind 4 || eqb kind 5) ≡ true) × (group_orders day kind orders ≡ Ok tt) × ((group_draft day kind fs orders).answer ≡ Ok tt) × (room < 1002))
  unfolding group_answer
  room_exactly_group orders = (
    (λ (e : group_answer day kind fs orders room ≡ no_room).
        let d = day_before day _ e in
        let k = kind_before kind _ d.1 in
        let o = accepted_before (group_orders day kind orders) _ (orders_no_room day kind orders) k.1 in
        let f = accepted_before (group_draft day kind fs orders).answer (for_room room) (draft_no_room day kind Group _ (bare_line Group)) o.1 in
        (d.0, k.0, o.0, f.0, room_before room f.1)),
    (λ (w : (is_date day ≡ true) × ((eqb kind 4 || eqb kind 5) ≡ true) × (group_orders day kind orders ≡ Ok tt) × ((group_draft day kind fs orders).answer ≡ Ok tt) × (room < 1002)).
        rw (w.0, w.1, w.2, w.3, lt-leb 1002 room w.4)),
  )
