-- What is promised of a tally that is begun at zero with a fresh judge: it is what adding all the orders read so far gives, 29 never comes, and the
-- judge is the one that a step without a tally gives.
-- Assumes nothing.
use Rattle.refusal.proofs.Basics.{◌≡◌, refl, sym, ap, ◌∙◌, arith, ℕ, ◌+◌, List, [], ◌∷◌, length, Bool, true, false, cond, false≢true, add-zero, zero-add}
use Rattle.std.specs.Prelude.{Ok}
use Rattle.sums.specs.Sums.{cents_of, sum_of, number_in}
use Rattle.sums.proofs.Theorems.{exact_where_fits}
use Rattle.tally.specs.Tally.{no_orders, is_within, grown}
use Rattle.tally.proofs.Laws.{within_small, Numbers, tally_of, more, grown_exact}
use Rattle.wage_places.specs.declared.LineType.{LineType}
use Rattle.wage_places.specs.declared.LineType.TheVariants.{Label, Group, Order, Closing}
use Rattle.wage_places.specs.Places.{part_of}
use Rattle.wage_line.specs.Line.{typed_of}
use Rattle.worked_out.specs.Amounts.{amounts}
use Rattle.condition.specs.declared.Counts.{Counts}
use Rattle.condition.specs.declared.Judge.{Judge}
use Rattle.dates.specs.Dates.{is_date}
use Rattle.condition.specs.Record.{is_refused, refused_with, at_line, fresh, begun}
use Rattle.standing.specs.Standing.{growth_of, one_more}
use Rattle.standing.proofs.Laws.{Read, counts_of, onward, read_on_lem, Fair, fair_on, fair_within}
use Rattle.judge.specs.Judge.{stepped, steps}
use Rattle.judge.proofs.Laws.{taken}
use Rattle.judge.proofs.Theorems.{refusal_stays_on}
use Rattle.running_total.specs.declared.Tallied.{Tallied}
use Rattle.running_total.specs.RunningTotal.{growth_in, tallied, tallied_all}
use Rattle.running_total.specs.AllOrders.{is_group, is_order, among, tally_in}
use Rattle.running_total.proofs.Theorems.{judge_first, brought_up, refusal_stays_tallied, all_within_lem}

-- ---------------------------------------------------------------------------
-- A record and a tally that went together from the start

pub record Together (x : Tallied) (m : Read) : Type 0 where
  pub read : x.judge.read ≡ counts_of m
  pub tally : x.tally ≡ tally_of m.tally
  pub fair : Fair m

-- at the start
pub together_begun : (day : ℕ) → Together (record { judge = begun day; tally = no_orders }) (record { lines = 0; tally = record { groups = 0; orders = 0; cents = 0 } })
unfolding begun sum_of
together_begun day = record { read = read_begun; tally = refl; fair = record { groups = omega arith; orders = omega arith; cents = omega arith } }
  where
    chosen : (b : Bool) → (cond b (fresh day) (refused_with (at_line 11 0) (fresh day))).read ≡ record { lines = 0; tally = no_orders }
    chosen true = refl
    chosen false = refl

    read_begun : (begun day).read ≡ record { lines = 0; tally = no_orders }
    read_begun = chosen (is_date day)

module _ (x : Tallied) (m : Read) (s : List ℕ) (w : Together x m) (e : is_refused (stepped x.judge s).condition ≡ false) where
  -- the type of a line that the judge takes
  abbrev type : LineType
  type = (taken x.judge s e).line

  abbrev next : Read
  next = onward (growth_of type s) m

  growth_typed : growth_in s ≡ growth_of type s
  unfolding growth_in
  growth_typed = rw (taken x.judge s e).typed

  tally_next : grown x.tally (growth_in s) ≡ tally_of next.tally
  tally_next = rw (growth_typed, w.tally) (grown_exact m.tally (growth_of type s))

  within : is_within (grown x.tally (growth_in s)) ≡ true
  within =
      let k = taken x.judge s e in
      rw tally_next (fair_within next (fair_on m type s w.fair) (omega (arith, k.limit, ap (λ (n : Counts). n.lines) w.read)))

  -- is brought up to date, and the judge is the one of a step without a tally
  pub together_step : tallied x.judge s x.tally ≡ record { judge = stepped x.judge s; tally = grown x.tally (growth_in s) }
  together_step = brought_up x.judge s x.tally e within

  -- and goes on together
  pub together_on : Together (tallied x.judge s x.tally) next
  together_on =
      let k = taken x.judge s e in
      rw together_step (record {
        read = ap (λ (j : Judge). j.read) k.goes ∙ (ap (one_more (growth_of type s)) w.read ∙ read_on_lem m (growth_of type s));
        tally = tally_next;
        fair = fair_on m type s w.fair;
      })

-- ---------------------------------------------------------------------------
-- Any lines

-- step by step with a tally and without one give the same judge: 29 does not come
pub same_judge : (ss : List (List ℕ)) (x : Tallied) (m : Read) → Together x m → (tallied_all x ss).judge ≡ steps x.judge ss
unfolding tallied_all steps
same_judge [] x m w = refl
same_judge (s ∷ ss) x m w = go (is_refused (stepped x.judge s).condition) refl (same_judge ss)
  where
    go :
        (b : Bool) → is_refused (stepped x.judge s).condition ≡ b → ((y : Tallied) (n : Read) → Together y n → (tallied_all y ss).judge ≡ steps y.judge ss) →
        (tallied_all (tallied x.judge s x.tally) ss).judge ≡ steps (stepped x.judge s) ss
    go true f more_lines =
        let y : Tallied = record { judge = stepped x.judge s; tally = x.tally } in
        ap (λ (z : Tallied). (tallied_all z ss).judge) (judge_first x.judge s x.tally f) ∙
        (ap (λ (z : Tallied). z.judge) (refusal_stays_tallied y ss f) ∙ sym (refusal_stays_on (stepped x.judge s) f ss))
    go false f more_lines =
        more_lines (tallied x.judge s x.tally) _ (together_on x m s w f) ∙
        ap (λ (z : Tallied). steps z.judge ss) (together_step x m s w f)

-- numbers with all the groups and orders of lines
abbrev with_all : Numbers → List (List ℕ) → Numbers
with_all m ss = record {
  groups = m.groups + length (among is_group ss);
  orders = m.orders + length (among is_order ss);
  cents = m.cents + amounts (among is_order ss);
}

-- a line in front of them is counted first
in_front_lem : (m : Numbers) (s : List ℕ) (ss : List (List ℕ)) (t : LineType) → typed_of s ≡ Ok t → tally_of (with_all (more (growth_of t s) m) ss) ≡ tally_of (with_all m (s ∷ ss))
unfolding among amounts
in_front_lem m s ss Label e = rw e
in_front_lem m s ss Group e =
    let n : m.groups + 1 + length (among is_group ss) ≡ m.groups + length (s ∷ among is_group ss) = omega arith in
    rw (n, e)
in_front_lem m s ss Order e =
    let os = among is_order ss in
    let n : m.orders + 1 + length os ≡ m.orders + length (s ∷ os) = omega arith in
    let c : m.cents + number_in (part_of Order 10 s) + amounts os ≡ m.cents + amounts (s ∷ os) = omega arith in
    rw (n, c, e)
in_front_lem m s ss Closing e = rw e

-- the tally after lines that are all taken
pub tally_all : (ss : List (List ℕ)) (x : Tallied) (m : Read) → Together x m → is_refused (steps x.judge ss).condition ≡ false → (tallied_all x ss).tally ≡ tally_of (with_all m.tally ss)
unfolding tallied_all steps among amounts
tally_all [] x m w e = w.tally ∙ rw (add-zero m.tally.groups, add-zero m.tally.orders, add-zero m.tally.cents)
tally_all (s ∷ ss) x m w e = go (is_refused (stepped x.judge s).condition) refl (tally_all ss)
  where
    go :
        (b : Bool) → is_refused (stepped x.judge s).condition ≡ b →
        ((y : Tallied) (n : Read) → Together y n → is_refused (steps y.judge ss).condition ≡ false → (tallied_all y ss).tally ≡ tally_of (with_all n.tally ss)) →
        (tallied_all (tallied x.judge s x.tally) ss).tally ≡ tally_of (with_all m.tally (s ∷ ss))
    go true f more_lines = absurd (false≢true (sym e ∙ (ap (λ (j : Judge). is_refused j.condition) (refusal_stays_on (stepped x.judge s) f ss) ∙ f)))
    go false f more_lines =
        let k = taken x.judge s f in
        more_lines (tallied x.judge s x.tally) _ (together_on x m s w f) (ap (λ (z : Tallied). is_refused (steps z.judge ss).condition) (together_step x m s w f) ∙ e) ∙
        in_front_lem m.tally s ss k.line k.typed

-- ---------------------------------------------------------------------------
-- "Begun at zero with a fresh judge"

-- a day's fresh judge and a tally of zero
abbrev pub from_zero : ℕ → Tallied
from_zero day = record { judge = begun day; tally = no_orders }

module _ (day : ℕ) (ss : List (List ℕ)) where
  -- "a file read from zero never meets it": the judge after any lines is the one without a tally
  pub from_zero_same_judge : (tallied_all (from_zero day) ss).judge ≡ steps (begun day) ss
  from_zero_same_judge = same_judge ss (from_zero day) _ (together_begun day)

  -- "after every accepted line it equals what adding all the orders read so far would give"
  pub from_zero_tally : is_refused (steps (begun day) ss).condition ≡ false → (tallied_all (from_zero day) ss).tally ≡ tally_in ss
  from_zero_tally e = tally_all ss (from_zero day) _ (together_begun day) e ∙ rw (zero-add (length (among is_group ss)), zero-add (length (among is_order ss)), zero-add (amounts (among is_order ss)))

  -- exactly: its total stands for the sum of the orders' amounts
  pub from_zero_cents : is_refused (steps (begun day) ss).condition ≡ false → cents_of (tally_in ss).total ≡ amounts (among is_order ss)
  unfolding is_within sum_of
  from_zero_cents e =
      let within : is_within (tally_in ss) ≡ true = ap is_within (sym (from_zero_tally e)) ∙ all_within_lem ss (from_zero day) refl in
      exact_where_fits 1000 (amounts (among is_order ss)) (within_small (tally_in ss) within).total
