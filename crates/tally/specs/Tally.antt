-- Document 02, W5: "a small tally of groups, orders and exact total", what a line adds to it, and where it ends.
use Rattle.std.specs.Prelude.{◌+◌, Bool, ◌&&◌, leb}
use Rattle.sums.specs.Sums.{no_cents, fits, added}
use Rattle.tally.specs.declared.Tally.{Tally}
use Rattle.tally.specs.declared.Growth.{Growth}
use Rattle.tally.specs.declared.Growth.TheVariants.{Nothing, Group, Order}

-- "Begun at zero"
abbrev pub no_orders : Tally
no_orders = record { groups = 0; orders = 0; total = no_cents }

-- not "beyond 1,000,000 groups or orders or to 10^21 or more"
unfoldable pub is_within : Tally → Bool
is_within t = leb t.groups 1000000 && leb t.orders 1000000 && fits 1000 t.total

-- "brought up to date": a group more, or an order more and its cents; what a line does not add to stays as it was
abbrev pub grown : Tally → Growth → Tally
grown t Nothing = t
grown t Group = record { groups = t.groups + 1; orders = t.orders; total = t.total }
grown t (Order cents) = record { groups = t.groups; orders = t.orders + 1; total = added 1000 t.total cents }
