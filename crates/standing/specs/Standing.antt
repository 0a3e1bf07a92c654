-- Document 01, "The wage file": what 10, 12 and 13 say of a line where the judge stands, and the record after a right line.
use Rattle.std.specs.Prelude.{ℕ, ◌+◌, cond, ◌&&◌, List, eqb, ltb}
use Rattle.verdict.specs.Verdict.{Verdict, passed, only_if, and_then}
use Rattle.verdict.specs.declared.Fault.{Fault}
use Rattle.sums.specs.Sums.{no_cents, sum_of, added, same_sum, number_of, number_in}
use Rattle.wage_places.specs.declared.LineType.{LineType}
use Rattle.wage_places.specs.declared.LineType.TheVariants.{Label, Group, Order, Closing}
use Rattle.wage_places.specs.Places.{part_of}
use Rattle.tally.specs.Tally.{grown}
use Rattle.tally.specs.declared.Growth.{Growth}
use Rattle.tally.specs.declared.Growth.TheVariants as growth
use Rattle.condition.specs.declared.Condition.{Condition}
use Rattle.condition.specs.declared.Condition.TheVariants.{Labelled, Grouped, Closed}
use Rattle.condition.specs.declared.Counts.{Counts}
use Rattle.condition.specs.Record.{stage_of}
use Rattle.condition.specs.declared.Open.{Open}
use Rattle.condition.specs.declared.Judge.{Judge}

-- ---------------------------------------------------------------------------
-- A right line

-- what a line of a type adds to a tally: a 301 a group, a 309 an order of its amount, the others nothing
abbrev pub growth_of : LineType → List ℕ → Growth
growth_of Label s = growth.Nothing
growth_of Group s = growth.Group
growth_of Order s = growth.Order (number_in (part_of Order 10 s))
growth_of Closing s = growth.Nothing

-- one line more, and what it adds
abbrev pub one_more : Growth → Counts → Counts
one_more more n = record { lines = n.lines + 1; tally = grown n.tally more }

-- a group's first line: the number and the sum that it declares
abbrev pub opened : List ℕ → Open
opened s = record { declared = number_in (part_of Group 5 s); promised = sum_of 100 (number_of (part_of Group 6 s)); counted = 0; total = no_cents }

-- the open group after a line: a 301 opens one, an order is counted in it and its amount added
abbrev pub group_after : Open → List ℕ → Growth → Open
group_after g s growth.Nothing = g
group_after g s growth.Group = opened s
group_after g s (growth.Order cents) = record { declared = g.declared; promised = g.promised; counted = g.counted + 1; total = added 100 g.total cents }

-- where the judge stands after a line
abbrev pub condition_after : LineType → Condition
condition_after Label = Labelled
condition_after Group = Grouped
condition_after Order = Grouped
condition_after Closing = Closed

-- the kind: the one that the label tells
abbrev pub kind_after : ℕ → List ℕ → LineType → ℕ
kind_after kind s Label = number_in (part_of Label 2 s)
kind_after kind s Group = kind
kind_after kind s Order = kind
kind_after kind s Closing = kind

-- the record after a right line
abbrev pub after : Judge → List ℕ → LineType → Judge
after j s t = record {
  condition = condition_after t;
  day = j.day;
  kind = kind_after j.kind s t;
  read = one_more (growth_of t s) j.read;
  group = group_after j.group s (growth_of t s);
}

-- ---------------------------------------------------------------------------
-- 10, 12, 13, then the fields in order: a verdict tells the first three

-- the end of a group, which has at least one order, "A 301 or 399 straight after a 301 is 10"; "too few give 12 at the following 301 or 399;
-- the sum is judged there too"
abbrev pub whole_verdict : Condition → Open → Verdict
whole_verdict c g =
    and_then (only_if (eqb (stage_of c) 2 && ltb 0 g.counted) Fault.Misplaced)
    (and_then (only_if (eqb g.counted g.declared) Fault.Orders) (only_if (same_sum g.total g.promised) Fault.Sum))

-- "One 300; then one or more groups, each one 301 and one or more 309; then one 399"; "A 309 beyond the declared number gives 12 at once"
unfoldable pub stand_verdict : Condition → Open → LineType → Verdict
stand_verdict c g Label = only_if (eqb (stage_of c) 0) Fault.Misplaced
stand_verdict c g Group = cond (eqb (stage_of c) 1) passed (whole_verdict c g)
stand_verdict c g Order = and_then (only_if (eqb (stage_of c) 2) Fault.Misplaced) (only_if (ltb g.counted g.declared) Fault.Orders)
stand_verdict c g Closing = whole_verdict c g
