-- The judge's record as plain numbers, and what a record of any numbers stands for.
use Rattle.std.specs.Prelude.{ℕ, cond, eqb}
use Rattle.refusal.specs.Refusal.{refusal_of}
use Rattle.condition.specs.Record.{stage_of, is_refused, refusal_in, beyond}
use Rattle.condition.specs.declared.Condition.{Condition}
use Rattle.condition.specs.declared.Condition.TheVariants.{Fresh, Labelled, Grouped, Closed, Refused}
use Rattle.condition.specs.declared.Judge.{Judge}
use Rattle.boundary.specs.Told.{accepted, refusal, told_place}
use Rattle.boundary.specs.declared.Told.{Told}
use Rattle.desk_record.specs.declared.Record.{Record}

-- 0 fresh, 1 after the label, 2 inside a group, 3 closed, 4 refused, with the refusal beside it; another number is no condition that the
-- judge knows: 17
abbrev pub condition_of : ℕ → Told → Condition
condition_of n t =
    cond (eqb n 0) Fresh
    (cond (eqb n 1) Labelled
    (cond (eqb n 2) Grouped
    (cond (eqb n 3) Closed
    (cond (eqb n 4) (Refused (refusal_of t.number (told_place t) t.needed))
    (Refused beyond)))))

-- the judge that a record stands for
unfoldable pub judge_of : Record → Judge
judge_of r = record {
  condition = condition_of r.condition r.told;
  day = r.day;
  kind = r.kind;
  read = record { lines = r.lines; tally = record { groups = r.groups; orders = r.orders; total = r.file_total } };
  group = record { declared = r.declared; promised = r.promised; counted = r.counted; total = r.total };
}

-- the refusal of a condition, if it has one
abbrev pub condition_told : Condition → Told
condition_told c = cond (is_refused c) (refusal (refusal_in c)) accepted

-- the record of a judge
unfoldable pub record_of : Judge → Record
record_of j = record {
  condition = stage_of j.condition;
  told = condition_told j.condition;
  day = j.day;
  kind = j.kind;
  lines = j.read.lines;
  groups = j.read.tally.groups;
  orders = j.read.tally.orders;
  file_total = j.read.tally.total;
  declared = j.group.declared;
  promised = j.group.promised;
  counted = j.group.counted;
  total = j.group.total;
}
