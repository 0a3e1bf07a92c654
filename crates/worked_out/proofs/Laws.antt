-- Laws of what a 301 works out: the sum from a place on, and the digits of number and sum. Assumes nothing.
use Rattle.refusal.proofs.Basics.{◌≡◌, sym, ap, ◌∙◌, arith, ℕ, ◌+◌, ◌≤◌, ◌<◌, length, take, drop, List, [], ◌∷◌, ◌++◌, length-append, append-nil, take_all, take_at, drop_at, drop_of_length-le, add-zero, zero-add}
use Prim.Native.Nat.{min}
use Rattle.sums.specs.Sums.{cents_of, no_cents, sum_of, added, number_in}
use Rattle.sums.specs.declared.Sum.{Sum}
use Rattle.sums.proofs.Laws.{added_on}
use Rattle.wage_places.specs.declared.LineType.TheVariants.{Order}
use Rattle.wage_places.specs.Places.{part_of}
use Rattle.wage_line.specs.Pieces.{pieces}
use Rattle.wage_line.proofs.PieceLaws.{pieces_first, pieces_end}
use Rattle.worked_out.specs.Amounts.{amounts}

-- ---------------------------------------------------------------------------
-- The sum from a place on

-- the sum of a number is the sum of the number that it stands for
pub kept : (m : ℕ) → sum_of 100 (cents_of (sum_of 100 m)) ≡ sum_of 100 m
kept m = rw (add-zero, add-zero) at (added_on 100 m 0)

-- before the first place: all amounts
pub amounts_first : (n : ℕ) → sum_of 100 n ≡ added 100 no_cents n
amounts_first n = rw zero-add

-- a piece in front of what is left
piece_first :
    (line rest : List ℕ) → length line ≡ min 1002 (length (line ++ rest))
    → (take 1002 (line ++ rest) ≡ line) × (drop 1002 (line ++ rest) ≡ rest)
piece_first line [] e =
    let l : length line ≤ 1002 = omega (arith, length-append line []) in
    rw (append-nil line) (take_all 1002 line l, drop_of_length-le line l)
piece_first line (b ∷ rest) e = let l : length line ≡ 1002 = omega (arith, length-append line (b ∷ rest)) in (take_at line (b ∷ rest) 1002 l, drop_at line (b ∷ rest) 1002 l)

module _ (sum : Sum) where
  -- its amount, and those of the rest
  pub amounts_on :
      (s line rest : List ℕ) → s ≡ line ++ rest → length line ≡ min 1002 (length s) → 0 < length s
      → added 100 sum (amounts (pieces s)) ≡ added 100 (added 100 sum (number_in (part_of Order 10 line))) (amounts (pieces rest))
  unfolding amounts
  amounts_on s line rest a l h =
      let x = number_in (part_of Order 10 line) in
      let e : cents_of sum + (x + amounts (pieces rest)) ≡ cents_of sum + x + amounts (pieces rest) = omega arith in
      let p = piece_first line rest (rw a at l) in
      rw (pieces_first s h, a, p.0, p.1) (ap (sum_of 100) e ∙ sym (added_on 100 (cents_of sum + x) (amounts (pieces rest))))

  -- at the end there is nothing more
  pub amounts_end : (s : List ℕ) → length s ≡ 0 → added 100 sum (amounts (pieces s)) ≡ sum_of 100 (cents_of sum)
  unfolding amounts
  amounts_end s h = rw (pieces_end s 0 (omega arith)) (ap (sum_of 100) (add-zero (cents_of sum)))
