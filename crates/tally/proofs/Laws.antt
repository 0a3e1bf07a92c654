-- Laws of a tally: what its limits say, that nothing brings one back within them, and a tally kept as plain numbers.
-- Assumes nothing.
use Rattle.refusal.proofs.Basics.{◌≡◌, refl, sym, ◌∙◌, arith, ℕ, ◌+◌, ◌≤◌, Bool, true, false, cond, leb, le-leb, leb-true, both_true, false≢true}
use Rattle.sums.specs.Sums.{sum_of, fits, added}
use Rattle.sums.proofs.Laws.{added_on}
use Rattle.sums.proofs.Theorems as sums
use Rattle.tally.specs.declared.Tally.{Tally}
use Rattle.tally.specs.declared.Growth.{Growth}
use Rattle.tally.specs.declared.Growth.TheVariants.{Nothing, Group, Order}
use Rattle.tally.specs.Tally.{is_within, grown}

-- ---------------------------------------------------------------------------
-- Limits

-- the numbers of a tally within its limits
pub record Small (t : Tally) : Type 0 where
  pub groups : t.groups ≤ 1000000
  pub orders : t.orders ≤ 1000000
  pub total : fits 1000 t.total ≡ true

pub within_small : (t : Tally) → is_within t ≡ true → Small t
unfolding is_within
within_small t e =
    let both = both_true _ (fits 1000 t.total) e in
    let counts = both_true (leb t.groups 1000000) (leb t.orders 1000000) both.0 in
    record { groups = leb-true _ _ counts.0; orders = leb-true _ _ counts.1; total = both.1 }

pub small_within : (t : Tally) → Small t → is_within t ≡ true
unfolding is_within
small_within t w = rw (le-leb _ _ w.groups, le-leb _ _ w.orders, w.total)

-- a sum that fits with some cents more fits without them
fits_without : (s : _) (cents : ℕ) → fits 1000 (added 1000 s cents) ≡ true → fits 1000 s ≡ true
fits_without s cents e = go (fits 1000 s) refl
  where
    go : (b : Bool) → fits 1000 s ≡ b → b ≡ true
    go true f = refl
    go false f = absurd (false≢true (sym (sums.beyond_stays 1000 cents s f) ∙ e))

-- a tally that is within its limits with what a line adds is so without it
pub within_without : (t : Tally) (more : Growth) → is_within (grown t more) ≡ true → is_within t ≡ true
within_without t Nothing e = e
within_without t Group e = let w = within_small _ e in small_within t (record { groups = omega (arith, w.groups); orders = w.orders; total = w.total })
within_without t (Order cents) e =
    let w = within_small _ e in
    small_within t (record { groups = w.groups; orders = omega (arith, w.orders); total = fits_without t.total cents w.total })

module _ (t : Tally) (more : Growth) where
  -- what `grow` gives is within the limits exactly when the tally with what the line adds is
  pub grows_within : is_within (cond (is_within t) (grown t more) t) ≡ is_within (grown t more)
  grows_within = go (is_within t) (is_within (grown t more)) refl refl
    where
      go : (a b : Bool) → is_within t ≡ a → is_within (grown t more) ≡ b → is_within (cond a (grown t more) t) ≡ b
      go true b f g = g
      go false true f g = absurd (false≢true (sym f ∙ within_without t more g))
      go false false f g = f

  -- and is that tally then
  pub grows : is_within (grown t more) ≡ true → cond (is_within t) (grown t more) t ≡ grown t more
  grows e = rw (within_without t more e)

-- ---------------------------------------------------------------------------
-- A tally as plain numbers

-- groups, orders, and the exact number of cents
pub record Numbers : Type 0 where
  pub groups : ℕ
  pub orders : ℕ
  pub cents : ℕ

-- the tally of these numbers
abbrev pub tally_of : Numbers → Tally
tally_of m = record { groups = m.groups; orders = m.orders; total = sum_of 1000 m.cents }

-- with what a line adds
abbrev pub more : Growth → Numbers → Numbers
more Nothing m = m
more Group m = record { groups = m.groups + 1; orders = m.orders; cents = m.cents }
more (Order cents) m = record { groups = m.groups; orders = m.orders + 1; cents = m.cents + cents }

-- it is counted exactly
pub grown_exact : (m : Numbers) (g : Growth) → grown (tally_of m) g ≡ tally_of (more g m)
grown_exact m Nothing = refl
grown_exact m Group = refl
grown_exact m (Order cents) = rw (added_on 1000 m.cents cents)
