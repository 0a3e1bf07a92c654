-- What is promised of the judge's record: at the end a refusal again, 14 for a file cut short, or acceptance.
-- Assumes nothing.
use Rattle.refusal.proofs.Basics.{◌≡◌, true, false}
use Rattle.std.specs.Prelude.{Err, Ok}
use Rattle.refusal.specs.declared.Refusal.{Refusal}
use Rattle.refusal.specs.declared.Refusal.TheVariants.{Unfinished}
use Rattle.condition.specs.declared.Condition.TheVariants.{Closed, Refused}
use Rattle.condition.specs.declared.Judge.{Judge}
use Rattle.condition.specs.Record.{is_refused, is_sound, ended, next_line}
use Rattle.condition.proofs.Laws.{not_closed}

-- ---------------------------------------------------------------------------
-- The end

-- the end gives the refusal inside
pub refusal_ends : (j : Judge) (r : Refusal) → j.condition ≡ Refused r → ended j ≡ Err r
unfolding ended
refusal_ends j r e = rw e

-- "The end gives 14, at the next line number, unless the 399 was read"
pub unfinished_is_14 :
    (j : Judge) → is_refused j.condition ≡ false → is_sound j ≡ true → (j.condition ≡ Closed → ⊥) →
    ended j ≡ Err (Unfinished (record { line = next_line j; field = 0; byte = 0 }))
unfolding ended
unfinished_is_14 j unrefused sound unclosed = rw (unrefused, sound, not_closed j.condition unclosed)

-- "Acceptance tells lines, groups and orders"
pub closed_accepts : (j : Judge) → is_sound j ≡ true → j.condition ≡ Closed → ended j ≡ Ok j.read
unfolding ended
closed_accepts j sound e = rw (sound, e)
