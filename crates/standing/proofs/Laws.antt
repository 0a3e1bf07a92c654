-- Laws of what was read, kept as plain numbers: a line more, and the limits that lines alone keep. Assumes nothing.
use Rattle.refusal.proofs.Basics.{◌≡◌, sym, ap, ◌∙◌, arith, ℕ, ◌+◌, ◌*◌, ◌≤◌, List, true}
use Rattle.refusal.specs.Refusal.{refusal_number, in_line}
use Rattle.refusal.specs.declared.Refusal.{Refusal}
use Rattle.refusal.proofs.Theorems.{moved_number}
use Rattle.sums.proofs.Theorems.{sum_fits}
use Rattle.tally.specs.declared.Tally.{Tally}
use Rattle.tally.specs.declared.Growth.{Growth}
use Rattle.tally.specs.Tally.{is_within}
use Rattle.tally.proofs.Laws.{Numbers, tally_of, more, grown_exact, small_within}
use Rattle.wage_places.specs.declared.LineType.{LineType}
use Rattle.wage_places.specs.declared.LineType.TheVariants.{Label, Group, Order, Closing}
use Rattle.worked_out.proofs.Theorems.{amount_small}
use Rattle.condition.specs.declared.Counts.{Counts}
use Rattle.standing.specs.Standing.{growth_of, one_more}

-- lines, and a tally in plain numbers
pub record Read : Type 0 where
  pub lines : ℕ
  pub tally : Numbers

-- the counts of these numbers
abbrev pub counts_of : Read → Counts
counts_of m = record { lines = m.lines; tally = tally_of m.tally }

-- a line more, with what it adds
abbrev pub onward : Growth → Read → Read
onward g m = record { lines = m.lines + 1; tally = more g m.tally }

-- it is counted exactly
pub read_on_lem : (m : Read) (g : Growth) → one_more g (counts_of m) ≡ counts_of (onward g m)
read_on_lem m g = ap (λ (t : Tally). let n : Counts = record { lines = m.lines + 1; tally = t } in n) (grown_exact m.tally g)

-- no more groups than lines, no more orders, and no more cents than fifteen digits write for each
pub record Fair (m : Read) : Type 0 where
  pub groups : m.tally.groups ≤ m.lines
  pub orders : m.tally.orders ≤ m.lines
  pub cents : m.tally.cents ≤ m.tally.orders * 999999999999999

-- a line of any type leaves it so
pub fair_on : (m : Read) (t : LineType) (s : List ℕ) → Fair m → Fair (onward (growth_of t s) m)
fair_on m Label s f = record { groups = omega (arith, f.groups); orders = omega (arith, f.orders); cents = f.cents }
fair_on m Group s f = record { groups = omega (arith, f.groups); orders = omega (arith, f.orders); cents = f.cents }
fair_on m Order s f = record { groups = omega (arith, f.groups); orders = omega (arith, f.orders); cents = omega (arith, f.cents, amount_small s) }
fair_on m Closing s f = record { groups = omega (arith, f.groups); orders = omega (arith, f.orders); cents = f.cents }

-- and within the limit of lines the tally is within its own
pub fair_within : (m : Read) → Fair m → m.lines ≤ 1000000 → is_within (tally_of m.tally) ≡ true
fair_within m f h =
    small_within (tally_of m.tally)
    (record { groups = omega (arith, f.groups); orders = omega (arith, f.orders); total = sum_fits 1000 m.tally.cents (omega (arith, f.cents, f.orders)) })

-- ---------------------------------------------------------------------------
-- A refusal told of a line

-- a line's refusal is a 29 where it was one before its line was told
pub in_line_29 : (line : ℕ) (r : Refusal) → refusal_number (in_line line r) ≡ 29 → refusal_number r ≡ 29
in_line_29 line r e = sym (moved_number _ r) ∙ e
