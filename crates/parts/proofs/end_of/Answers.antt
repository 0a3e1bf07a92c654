-- `parts::end_of` meets its contract: ten bits for each end; a power of 1024 above the sixth is beyond every number. Assumes nothing.
use Rattle.refusal.proofs.Basics.{◌≡◌, refl, sym, ap, ◌∙◌, arith, ℕ, zero, suc, ◌*◌, ◌^◌, ◌≤◌, pow-le-pow_right, pow-suc, mul-suc, div-eq_of_lt}
use lib.Pow.{pow-add}
use Rattle.parts.proofs.end_of.Goals as goal

-- ten bits are a digit of base 1024
tens : (k : ℕ) → 2 ^ (10 * k) ≡ 1024 ^ k
tens zero = refl
tens (suc k) = ap (λ (x : ℕ). 2 ^ x) (mul-suc 10 k) ∙ pow-add 2 (10 * k) 10 ∙ ap (λ (x : ℕ). x * 1024) (tens k) ∙ sym (pow-suc 1024 k)

pub returns-then-k-gt6 : goal.returns-then-k-gt6
returns-then-k-gt6 c = let h : 1024 ^ 7 ≤ 1024 ^ c.args.k = pow-le-pow_right {n = 1024} (omega arith) {i = 7} c.if-k-gt6.true in
    rw (div-eq_of_lt {n = c.args.ends} {m = 1024 ^ c.args.k} (omega arith))

pub returns : goal.returns
returns c = rw (tens c.args.k)
