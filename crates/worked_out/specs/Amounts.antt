-- Document 01, "The wage file": "sums are exact".
use Rattle.std.specs.Prelude.{ℕ, ◌+◌, List, [], ◌∷◌}
use Rattle.sums.specs.Sums.{number_in}
use Rattle.wage_places.specs.declared.LineType.TheVariants.{Order}
use Rattle.wage_places.specs.Places.{part_of}

-- the exact sum of orders' amounts
unfoldable pub amounts : List (List ℕ) → ℕ
amounts [] = 0
amounts (s ∷ ss) = number_in (part_of Order 10 s) + amounts ss
