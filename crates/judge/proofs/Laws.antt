-- Laws of a step: which line is taken, and what is known of one that was.
-- Assumes nothing.
use Rattle.refusal.proofs.Basics.{◌≡◌, refl, sym, ◌∙◌, ℕ, ◌<◌, List, Bool, true, false, cond, ◌&&◌, ltb, lt-ltb, ltb-true, both_true, false≢true}
use Rattle.std.specs.Prelude.{Err, Ok, Result}
use Rattle.refusal.specs.Refusal.{Answer}
use Rattle.verdict.specs.Verdict.{Verdict, passed}
use Rattle.refusal.specs.declared.Refusal.{Refusal}
use Rattle.wage_places.specs.declared.LineType.{LineType}
use Rattle.wage_line.specs.Line.{typed_of}
use Rattle.wage_fields.specs.Rules.{places_answer, RightLine}
use Rattle.condition.specs.declared.Judge.{Judge}
use Rattle.condition.specs.Record.{is_refused, refused_with, beyond, is_sound}
use Rattle.standing.specs.Standing.{after, stand_verdict}
use Rattle.judge.specs.Judge.{after_places, after_verdict, type_step, typed_step, stepped}

-- a sound record that is not refused takes a right line where it may come
pub goes :
    (j : Judge) (s : List ℕ) (t : LineType) → is_refused j.condition ≡ false → is_sound j ≡ true → j.read.lines < 1000000 → RightLine j.day j.kind t s →
    stand_verdict j.condition j.group t ≡ passed → stepped j s ≡ after j s t
unfolding stepped type_step
goes j s t a b c w e = rw (a, b, lt-ltb _ _ c, w.typed, e, w.fields)

-- what is known of a line after which the judge is not refused: its type may come, its fields are right, and it was taken
pub record Taken (j : Judge) (s : List ℕ) : Type 0 where
  pub line : LineType
  pub typed : typed_of s ≡ Ok line
  pub sound : is_sound j ≡ true
  pub limit : j.read.lines < 1000000
  pub stands : stand_verdict j.condition j.group line ≡ passed
  pub fields : places_answer j.day j.kind line s ≡ Ok tt
  pub goes : stepped j s ≡ after j s line

module _ (j : Judge) (s : List ℕ) where
  -- of a record that is not refused, and sound, and below the limit of lines: the line has a type, which may come, and right fields
  taken_typed :
      is_refused j.condition ≡ false → is_sound j ≡ true → j.read.lines < 1000000 → is_refused (typed_step j s (typed_of s)).condition ≡ false → Taken j s
  unfolding type_step
  taken_typed unrefused sound limit e = typed_as (typed_of s) refl e
    where
      placed :
          (t : LineType) (a : Answer) → typed_of s ≡ Ok t → stand_verdict j.condition j.group t ≡ passed → places_answer j.day j.kind t s ≡ a →
          is_refused (after_places j s t a).condition ≡ false → Taken j s
      placed t (Ok u) f v p h = record {
        line = t;
        typed = f;
        sound = sound;
        limit = limit;
        stands = v;
        fields = p;
        goes = goes j s t unrefused sound limit (record { typed = f; fields = p }) v;
      }
      placed t (Err r) f v p h = absurd (false≢true (sym h))

      stood : (t : LineType) (v : Verdict) → typed_of s ≡ Ok t → stand_verdict j.condition j.group t ≡ v → is_refused (after_verdict j s t v).condition ≡ false → Taken j s
      stood t (Ok u) f v h = placed t (places_answer j.day j.kind t s) f v refl h
      stood t (Err r) f v h = absurd (false≢true (sym h))

      typed_as : (t : Result LineType Refusal) → typed_of s ≡ t → is_refused (typed_step j s t).condition ≡ false → Taken j s
      typed_as (Ok t) f h = stood t (stand_verdict j.condition j.group t) f refl h
      typed_as (Err r) f h = absurd (false≢true (sym h))

  pub taken : is_refused (stepped j s).condition ≡ false → Taken j s
  unfolding stepped
  taken e = go (is_refused j.condition) (is_sound j && ltb j.read.lines 1000000) refl refl e
    where
      go :
          (a b : Bool) → is_refused j.condition ≡ a → is_sound j && ltb j.read.lines 1000000 ≡ b →
          is_refused (cond a j (cond b (typed_step j s (typed_of s)) (refused_with beyond j))).condition ≡ false → Taken j s
      go true b f g h = absurd (false≢true (sym h ∙ f))
      go false false f g h = absurd (false≢true (sym h))
      go false true f g h = let both = both_true (is_sound j) (ltb j.read.lines 1000000) g in taken_typed f both.0 (ltb-true _ _ both.1) h
