-- What is promised of the judge: a refusal stays, a record that it did not make and a line too many get 17, and no line gets 29.
-- Assumes nothing.
use Rattle.refusal.proofs.Basics.{◌≡◌, refl, sym, ap, ◌∙◌, arith, ℕ, List, [], ◌∷◌, ◌++◌, Bool, true, false, cond, ◌&&◌, ltb, false≢true}
use Rattle.std.specs.Prelude.{Err, Ok, Result}
use Rattle.refusal.specs.Refusal.{Answer, none, refusal_number, in_line}
use Rattle.refusal.specs.declared.Refusal.{Refusal}
use Rattle.refusal.specs.declared.Refusal.TheVariants.{Date, Beyond}
use Rattle.verdict.specs.Verdict.{Verdict, refusal_at}
use Rattle.verdict.proofs.Verdicts.{never_29}
use Rattle.dates.specs.Dates.{is_date}
use Rattle.wage_places.specs.declared.LineType.{LineType}
use Rattle.wage_places.specs.declared.LineType.TheVariants.{Label, Group, Order, Closing}
use Rattle.wage_line.specs.Line.{typed_of}
use Rattle.wage_line.proofs.Theorems.{NotOverfull, type_never_29}
use Rattle.wage_fields.specs.Rules.{places_answer}
use Rattle.wage_fields.proofs.Theorems.{places_never_29}
use Rattle.condition.specs.declared.Condition.TheVariants.{Refused}
use Rattle.condition.specs.declared.Judge.{Judge}
use Rattle.condition.specs.Record.{line_place, is_refused, refused_with, at_line, next_line, beyond, is_sound, fresh, begun, ended}
use Rattle.condition.proofs.Theorems.{refusal_ends}
use Rattle.standing.specs.Standing.{after, stand_verdict}
use Rattle.standing.proofs.Laws.{in_line_29}
use Rattle.judge.specs.Judge.{after_places, after_verdict, type_step, typed_step, stepped, steps}

-- ---------------------------------------------------------------------------
-- "After a refusal each step and the end give that refusal again"

module _ (j : Judge) (refused : is_refused j.condition ≡ true) where
  -- a step changes nothing
  pub refusal_stays : (s : List ℕ) → stepped j s ≡ j
  unfolding stepped
  refusal_stays s = rw refused

  -- nor do any steps
  pub refusal_stays_on : (ss : List (List ℕ)) → steps j ss ≡ j
  unfolding steps
  refusal_stays_on [] = refl
  refusal_stays_on (s ∷ ss) = ap (λ (k : Judge). steps k ss) (refusal_stays s) ∙ refusal_stays_on ss

-- the steps of more lines go on where those before them came to
pub steps_append : (j : Judge) (xs ys : List (List ℕ)) → steps j (xs ++ ys) ≡ steps (steps j xs) ys
unfolding steps
steps_append j [] ys = refl
steps_append j (s ∷ xs) ys = steps_append (stepped j s) xs ys

-- so the first refusal of a file stands, whatever lines follow
pub first_refusal : (j : Judge) (xs ys : List (List ℕ)) → is_refused (steps j xs).condition ≡ true → steps j (xs ++ ys) ≡ steps j xs
first_refusal j xs ys e = steps_append j xs ys ∙ refusal_stays_on (steps j xs) e ys

-- "if not a date, 11 with line, field and byte 0 comes before all else"
pub no_date_is_11 : (day : ℕ) (ss : List (List ℕ)) → is_date day ≡ false → ended (steps (begun day) ss) ≡ Err (Date none)
unfolding begun
no_date_is_11 day ss e =
    let j = refused_with (Date none) (fresh day) in
    rw (e, refusal_stays_on j refl ss) (refusal_ends j (Date none) refl)

-- ---------------------------------------------------------------------------
-- 17

module _ (j : Judge) (unrefused : is_refused j.condition ≡ false) where
  -- "an unrefused record with a count above 1,000,000 or a sum of 10^20 or more gets it too, at a step or the end"
  pub not_made_is_17 : is_sound j ≡ false → (s : List ℕ) → ((stepped j s).condition ≡ Refused beyond) × (ended j ≡ Err beyond)
  unfolding stepped ended
  not_made_is_17 e s = (rw (unrefused, e), rw (unrefused, e))

  -- "17 names line 1,000,001"
  pub line_limit : is_sound j ≡ true → j.read.lines ≡ 1000000 → (s : List ℕ) → (stepped j s).condition ≡ Refused (Beyond (record { line = 1000001; field = 0; byte = 0 }))
  unfolding stepped
  line_limit e f s = rw (unrefused, e, f)

-- ---------------------------------------------------------------------------
-- No line judged without a tally is refused with 29

-- a judge that is not refused with it
abbrev Clear : Judge → Type 0
Clear j = (r : Refusal) → j.condition ≡ Refused r → refusal_number r ≡ 29 → ⊥

-- one refused with another number
other_clear : (q : Refusal) (j : Judge) → (refusal_number q ≡ 29 → ⊥) → Clear (refused_with q j)
other_clear q j f r e h = let z : q ≡ r = cc in f (ap (λ (x : Refusal). refusal_number x) z ∙ h)

-- one that is not refused
unrefused_clear : (j : Judge) → is_refused j.condition ≡ false → Clear j
unrefused_clear j f r e h = false≢true (sym f ∙ rw e)

-- of two
either_clear : (b : Bool) (j k : Judge) → Clear j → Clear k → Clear (cond b j k)
either_clear true j k f g = f
either_clear false j k f g = g

module _ (j : Judge) (s : List ℕ) where
  -- after a right line
  after_clear : (t : LineType) → Clear (after j s t)
  after_clear Label = unrefused_clear (after j s Label) refl
  after_clear Group = unrefused_clear (after j s Group) refl
  after_clear Order = unrefused_clear (after j s Order) refl
  after_clear Closing = unrefused_clear (after j s Closing) refl

  -- after a line of a type: 10, 12, 13 or what its places say
  type_clear : (t : LineType) → Clear (type_step j s t)
  unfolding type_step
  type_clear t = judged (stand_verdict j.condition j.group t)
    where
      placed : (a : Answer) → places_answer j.day j.kind t s ≡ a → Clear (after_places j s t a)
      placed (Ok u) e = after_clear t
      placed (Err r) e = other_clear (in_line (next_line j) r) j (λ h. places_never_29 j.day j.kind t s r e (in_line_29 (next_line j) r h))

      judged : (v : Verdict) → Clear (after_verdict j s t v)
      judged (Ok u) = placed (places_answer j.day j.kind t s) refl
      judged (Err f) = other_clear (refusal_at f (line_place (next_line j))) j (never_29 f _)

  -- after any line
  typed_clear : (t : Result LineType Refusal) → NotOverfull t → Clear (typed_step j s t)
  typed_clear (Ok t) f = type_clear t
  typed_clear (Err r) f = other_clear (in_line (next_line j) r) j (λ h. f (in_line_29 (next_line j) r h))

  -- a step leaves a judge so that is so
  step_clear : Clear j → Clear (stepped j s)
  unfolding stepped
  step_clear f =
      either_clear (is_refused j.condition) j _ f
      (either_clear (is_sound j && ltb j.read.lines 1000000) (typed_step j s (typed_of s)) (refused_with beyond j) (typed_clear (typed_of s) (type_never_29 s))
      (other_clear beyond j (λ (h : 17 ≡ 29). omega arith)))

  -- whatever record a judge that is not refused has, the line that it reads is not refused with 29
  pub judge_never_29 : is_refused j.condition ≡ false → (r : Refusal) → (stepped j s).condition ≡ Refused r → refusal_number r ≡ 29 → ⊥
  judge_never_29 f = step_clear (unrefused_clear j f)

-- nor are several lines
steps_clear : (ss : List (List ℕ)) (j : Judge) → Clear j → Clear (steps j ss)
unfolding steps
steps_clear [] j f = f
steps_clear (s ∷ ss) j f = steps_clear ss (stepped j s) (step_clear j s f)

-- so no file is, whatever its lines and its day
pub begun_never_29 : (day : ℕ) (ss : List (List ℕ)) (r : Refusal) → (steps (begun day) ss).condition ≡ Refused r → refusal_number r ≡ 29 → ⊥
unfolding begun
begun_never_29 day ss =
    steps_clear ss (begun day)
    (either_clear (is_date day) (fresh day) (refused_with (at_line 11 0) (fresh day)) (unrefused_clear (fresh day) refl)
    (other_clear (at_line 11 0) (fresh day) (λ (h : 11 ≡ 29). omega arith)))
