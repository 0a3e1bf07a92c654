-- Laws of a sound record, what its test says of its counts, and of a condition's number.
-- Assumes nothing.
use Rattle.refusal.proofs.Basics.{◌≡◌, refl, ◌≤◌, leb-true, true, false, eqb, leb, both_true}
use Rattle.sums.specs.Sums.{fits}
use Rattle.tally.specs.Tally.{is_within}
use Rattle.condition.specs.declared.Condition.{Condition}
use Rattle.condition.specs.declared.Condition.TheVariants.{Fresh, Labelled, Grouped, Closed, Refused}
use Rattle.condition.specs.declared.Judge.{Judge}
use Rattle.condition.specs.Record.{stage_of, is_sound}

-- what a line changes, of a record that the judge goes on with
pub record Within (j : Judge) : Type 0 where
  pub lines : j.read.lines ≤ 1000000
  pub tally : is_within j.read.tally ≡ true
  pub counted : j.group.counted ≤ 1000000

-- a sound record has no count above 1,000,000, and a tally within its limits
pub sound_within : (j : Judge) → is_sound j ≡ true → Within j
unfolding is_sound
sound_within j e =
    let counts = both_true _ (leb j.group.counted 1000000) (both_true _ (fits 100 j.group.promised) (both_true _ (fits 100 j.group.total) e).0).0 in
    let read = both_true (leb j.read.lines 1000000) (is_within j.read.tally) (both_true _ (leb j.group.declared 1000000) counts.0).0 in
    record { lines = leb-true _ _ read.0; tally = read.1; counted = leb-true _ _ counts.1 }

-- what is not closed has another number
pub not_closed : (c : Condition) → (c ≡ Closed → ⊥) → eqb (stage_of c) 3 ≡ false
not_closed Fresh g = refl
not_closed Labelled g = refl
not_closed Grouped g = refl
not_closed Closed g = absurd (g refl)
not_closed (Refused r) g = refl
