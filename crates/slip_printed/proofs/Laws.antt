-- Laws of what is printed of a slip. Assumes nothing.
use Rattle.refusal.proofs.Basics.{◌≡◌, arith, ℕ, suc, ◌+◌, ◌-◌, ◌≤◌, List, [], ◌++◌, add-one}
use Rattle.text.specs.Split.{split}
use Rattle.slip.specs.Slip.{piece_of}
use Rattle.slip_printed.specs.SlipPrinted.{field_line, field_lines}

-- a field's line, and those behind it
pub lines_on : (s : List ℕ) (n : ℕ) → n ≤ 14 → field_lines s n (15 - n) ≡ field_line n (piece_of (n - 1) (split 10 s)) ++ field_lines s (n + 1) (15 - (n + 1))
unfolding field_lines
lines_on s n h = let k : 15 - n ≡ suc (15 - (n + 1)) = omega arith in rw (k, add-one n)

-- behind the last there is none
pub lines_end : (s : List ℕ) (n : ℕ) → 15 ≤ n → field_lines s n (15 - n) ≡ []
unfolding field_lines
lines_end s n h = let k : 15 - n ≡ 0 = omega arith in rw k
