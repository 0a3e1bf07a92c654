-- Document 01, "The wage file": the judge, which stands in one condition and reads a line at a step. "Order in a line: 17, 1, 2, 5 (type), 10,
-- 12, 13, then the fields in order".
use Rattle.std.specs.Prelude.{ℕ, cond, ◌&&◌, List, [], ◌∷◌, ltb, Result, Err, Ok}
use Rattle.verdict.specs.Verdict.{Verdict, refusal_at}
use Rattle.refusal.specs.Refusal.{Answer, in_line}
use Rattle.refusal.specs.declared.Refusal.{Refusal}
use Rattle.wage_places.specs.declared.LineType.{LineType}
use Rattle.wage_line.specs.Line.{typed_of}
use Rattle.wage_fields.specs.Rules.{places_answer}
use Rattle.condition.specs.declared.Judge.{Judge}
use Rattle.condition.specs.Record.{beyond, is_refused, is_sound, line_place, next_line, refused_with}
use Rattle.standing.specs.Standing.{after, stand_verdict}

-- ---------------------------------------------------------------------------
-- A line of a type: 10, 12, 13, then the fields in order

-- the record after a line's places
abbrev pub after_places : Judge → List ℕ → LineType → Answer → Judge
after_places j s t (Ok u) = after j s t
after_places j s t (Err r) = refused_with (in_line (next_line j) r) j

abbrev pub after_verdict : Judge → List ℕ → LineType → Verdict → Judge
after_verdict j s t (Ok u) = after_places j s t (places_answer j.day j.kind t s)
after_verdict j s t (Err f) = refused_with (refusal_at f (line_place (next_line j))) j

unfoldable pub type_step : Judge → List ℕ → LineType → Judge
type_step j s t = after_verdict j s t (stand_verdict j.condition j.group t)

-- ---------------------------------------------------------------------------
-- A step

-- 1, 2, 5 (type), then the rest
abbrev pub typed_step : Judge → List ℕ → Result LineType Refusal → Judge
typed_step j s (Ok t) = type_step j s t
typed_step j s (Err r) = refused_with (in_line (next_line j) r) j

-- "Each step reads one line. After a refusal each step .. give that refusal again"; 17 before all else
unfoldable pub stepped : Judge → List ℕ → Judge
stepped j s =
    cond (is_refused j.condition) j
    (cond (is_sound j && ltb j.read.lines 1000000) (typed_step j s (typed_of s)) (refused_with beyond j))

-- the steps of several lines
unfoldable pub steps : Judge → List (List ℕ) → Judge
steps j [] = j
steps j (s ∷ ss) = steps (stepped j s) ss
