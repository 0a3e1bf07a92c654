-- What is promised of what a 301 works out: a sum of at most twenty digits. Assumes nothing.
use Rattle.refusal.proofs.Basics.{◌≡◌, arith, ℕ, ◌*◌, ◌/◌, ◌%◌, ◌≤◌, ◌<◌, length, take, length-take, List, [], ◌∷◌}
use Rattle.sums.specs.Sums.{number_in}
use Rattle.sums.proofs.Theorems.{text_small}
use Rattle.wage_places.specs.declared.LineType.TheVariants.{Order}
use Rattle.wage_places.specs.Places.{part_of, spots, spot_in}
use Rattle.wage_line.specs.Pieces.{pieces}
use Rattle.wage_line.proofs.PieceLaws.{whole_pieces}
use Rattle.worked_out.specs.Amounts.{amounts}

-- ---------------------------------------------------------------------------
-- The sum of at most 99,999 orders, whatever their bytes are

-- fifteen bytes write less than 10^15
pub amount_small : (s : List ℕ) → number_in (part_of Order 10 s) < 1000000000000000
unfolding spots spot_in
amount_small s = text_small 15 (take 18 (part_of Order 10 s)) (simp length-take (omega arith))

-- so each order at most 10^15 - 1
pub amounts_at_most : (ss : List (List ℕ)) → amounts ss ≤ length ss * 999999999999999
unfolding amounts
amounts_at_most [] = omega arith
amounts_at_most (s ∷ ss) = omega (arith, amount_small s, amounts_at_most ss)

-- twenty digits write it
pub amounts_small : (s : List ℕ) → length s / 1002 ≤ 99999 → length s % 1002 ≡ 0 → amounts (pieces s) < 100000000000000000000
amounts_small s h e = omega (arith, amounts_at_most (pieces s), (whole_pieces s e).0)
