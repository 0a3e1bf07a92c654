-- Document 02, W5: a step that is lent a tally. "A refused line leaves it as it stood"; 29, "line number kept and field 0, given last and exactly
-- when the line would leave the lent tally beyond 1,000,000 groups or orders or to 10^21 or more".
use Rattle.std.specs.Prelude.{ℕ, cond, List, [], ◌∷◌, Result, Ok, Err}
use Rattle.refusal.specs.declared.Refusal.{Refusal}
use Rattle.wage_places.specs.declared.LineType.{LineType}
use Rattle.tally.specs.declared.Tally.{Tally}
use Rattle.tally.specs.declared.Growth.{Growth}
use Rattle.tally.specs.declared.Growth.TheVariants.{Nothing}
use Rattle.tally.specs.Tally.{is_within, grown}
use Rattle.wage_line.specs.Line.{typed_of}
use Rattle.condition.specs.declared.Judge.{Judge}
use Rattle.condition.specs.Record.{at_line, is_refused, next_line, refused_with}
use Rattle.standing.specs.Standing.{growth_of}
use Rattle.judge.specs.Judge.{stepped}
use Rattle.running_total.specs.declared.Tallied.{Tallied}

-- what a line adds to a tally, by its type
abbrev pub typed_growth : List ℕ → Result LineType Refusal → Growth
typed_growth s (Ok t) = growth_of t s
typed_growth s (Err r) = Nothing

unfoldable pub growth_in : List ℕ → Growth
growth_in s = typed_growth s (typed_of s)

-- the record and the tally after a line: the judge's refusal first, then 29, then the tally with what the line adds
unfoldable pub tallied : Judge → List ℕ → Tally → Tallied
tallied j s t =
    cond (is_refused (stepped j s).condition) (record { judge = stepped j s; tally = t })
    (cond (is_within (grown t (growth_in s))) (record { judge = stepped j s; tally = grown t (growth_in s) })
    (record { judge = refused_with (at_line 29 (next_line j)) j; tally = t }))

-- the steps of several lines
unfoldable pub tallied_all : Tallied → List (List ℕ) → Tallied
tallied_all x [] = x
tallied_all x (s ∷ ss) = tallied_all (tallied x.judge s x.tally) ss
