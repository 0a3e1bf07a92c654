-- What is promised of a step with a tally: the judge's refusals first, then 29, and a refused line leaves the tally.
-- Assumes nothing.
use Rattle.refusal.proofs.Basics.{◌≡◌, refl, sym, ap, ◌∙◌, ℕ, List, [], ◌∷◌, ◌++◌, Bool, true, false, false≢true}
use Rattle.tally.specs.declared.Tally.{Tally}
use Rattle.tally.specs.Tally.{is_within, grown}
use Rattle.condition.specs.declared.Judge.{Judge}
use Rattle.condition.specs.Record.{at_line, is_refused, next_line, refused_with}
use Rattle.judge.specs.Judge.{stepped}
use Rattle.judge.proofs.Theorems.{refusal_stays}
use Rattle.running_total.specs.declared.Tallied.{Tallied}
use Rattle.running_total.specs.RunningTotal.{growth_in, tallied, tallied_all}

module _ (j : Judge) (s : List ℕ) (t : Tally) where
  -- a line that the judge refuses: its refusal, and the tally as it stood
  pub judge_first : is_refused (stepped j s).condition ≡ true → tallied j s t ≡ record { judge = stepped j s; tally = t }
  unfolding tallied
  judge_first e = rw e

  module _ (e : is_refused (stepped j s).condition ≡ false) where
    -- one that it takes, and that would leave the tally beyond its limits: 29, all else as it stood
    pub overfull_is_29 : is_within (grown t (growth_in s)) ≡ false → tallied j s t ≡ record { judge = refused_with (at_line 29 (next_line j)) j; tally = t }
    unfolding tallied
    overfull_is_29 f = rw (e, f)

    -- any other: the judge's record, and the tally with what the line adds
    pub brought_up : is_within (grown t (growth_in s)) ≡ true → tallied j s t ≡ record { judge = stepped j s; tally = grown t (growth_in s) }
    unfolding tallied
    brought_up f = rw (e, f)

  -- "A refused line leaves it as it stood"
  pub refused_leaves : is_refused (tallied j s t).judge.condition ≡ true → (tallied j s t).tally ≡ t
  refused_leaves r = go (is_refused (stepped j s).condition) (is_within (grown t (growth_in s))) refl refl
    where
      go : (a b : Bool) → is_refused (stepped j s).condition ≡ a → is_within (grown t (growth_in s)) ≡ b → (tallied j s t).tally ≡ t
      go true b f g = ap (λ (x : Tallied). x.tally) (judge_first f)
      go false false f g = ap (λ (x : Tallied). x.tally) (overfull_is_29 f g)
      go false true f g = absurd (false≢true (sym f ∙ (sym (ap (λ (x : Tallied). is_refused x.judge.condition) (brought_up f g)) ∙ r)))

  -- a tally within its limits stays within them
  pub stays_within : is_within t ≡ true → is_within (tallied j s t).tally ≡ true
  stays_within w = go (is_refused (stepped j s).condition) (is_within (grown t (growth_in s))) refl refl
    where
      go : (a b : Bool) → is_refused (stepped j s).condition ≡ a → is_within (grown t (growth_in s)) ≡ b → is_within (tallied j s t).tally ≡ true
      go true b f g = ap (λ (x : Tallied). is_within x.tally) (judge_first f) ∙ w
      go false false f g = ap (λ (x : Tallied). is_within x.tally) (overfull_is_29 f g) ∙ w
      go false true f g = ap (λ (x : Tallied). is_within x.tally) (brought_up f g) ∙ g

-- whatever lines come
pub all_within_lem : (ss : List (List ℕ)) (x : Tallied) → is_within x.tally ≡ true → is_within (tallied_all x ss).tally ≡ true
unfolding tallied_all
all_within_lem [] x w = w
all_within_lem (s ∷ ss) x w = all_within_lem ss (tallied x.judge s x.tally) (stays_within x.judge s x.tally w)

-- the steps of one line more
pub all_and_one : (ss : List (List ℕ)) (x : Tallied) (s : List ℕ) → tallied_all x (ss ++ (s ∷ [])) ≡ tallied (tallied_all x ss).judge s (tallied_all x ss).tally
unfolding tallied_all
all_and_one [] x s = refl
all_and_one (r ∷ ss) x s = all_and_one ss (tallied x.judge r x.tally) s

-- "After a refusal each step .. give that refusal again", and the tally stays
pub refusal_stays_tallied : (x : Tallied) (ss : List (List ℕ)) → is_refused x.judge.condition ≡ true → tallied_all x ss ≡ x
unfolding tallied_all
refusal_stays_tallied x [] e = refl
refusal_stays_tallied x (s ∷ ss) e =
    let same : stepped x.judge s ≡ x.judge = refusal_stays x.judge e s in
    let step : tallied x.judge s x.tally ≡ x = judge_first x.judge s x.tally (ap (λ (j : Judge). is_refused j.condition) same ∙ e) ∙ ap (λ (j : Judge). let y : Tallied = record { judge = j; tally = x.tally } in y) same in
    ap (λ (y : Tallied). tallied_all y ss) step ∙ refusal_stays_tallied x ss e
