-- What is promised of the judge's record: nothing is lost on the way through numbers. Assumes nothing.
use Rattle.refusal.proofs.Basics.{◌≡◌, refl, ap}
use Rattle.condition.specs.declared.Condition.{Condition}
use Rattle.condition.specs.declared.Condition.TheVariants as condition
use Rattle.condition.specs.declared.Judge.{Judge}
use Rattle.condition.specs.Record.{stage_of}
use Rattle.boundary.proofs.Theorems.{refusal_told_back}
use Rattle.desk_record.specs.Record.{condition_of, condition_told, judge_of, record_of}

-- a condition told as numbers loses nothing
condition_told_back : (c : Condition) → condition_of (stage_of c) (condition_told c) ≡ c
condition_told_back condition.Fresh = refl
condition_told_back condition.Labelled = refl
condition_told_back condition.Grouped = refl
condition_told_back condition.Closed = refl
condition_told_back (condition.Refused r) = ap condition.Refused (refusal_told_back r)

-- a judge's record loses nothing
pub record_told_back : (j : Judge) → judge_of (record_of j) ≡ j
unfolding judge_of record_of
record_told_back j = rw (condition_told_back j.condition)
