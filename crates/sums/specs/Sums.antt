-- Exact sums of cents: "sums exact to twenty digits". A sum is two numbers, `high` times 10^18 and `low`. It is kept under a limit of `most`
-- times 10^18, 100 for twenty digits; the limit stands for itself and all above.
use Rattle.std.specs.Prelude.{ℕ, ◌+◌, ◌*◌, ◌/◌, ◌%◌, Bool, cond, List, eqb, ltb, take}
use Rattle.text.specs.Digits.{digits_of, value_of}
use Rattle.sums.specs.declared.Sum.{Sum}

-- 10^18
abbrev pub limb : ℕ
limb = 1000000000000000000

-- the number of cents that a sum stands for
abbrev pub cents_of : Sum → ℕ
cents_of s = s.high * limb + s.low

-- no cents
abbrev pub no_cents : Sum
no_cents = record { high = 0; low = 0 }

-- a number of cents as a sum; the limit stands for itself and all above
unfoldable pub sum_of : ℕ → ℕ → Sum
sum_of most n =
    cond (ltb n (most * limb))
    (record { high = n / limb; low = n % limb })
    (record { high = most; low = 0 })

-- a sum below the limit: of at most twenty digits, for 100
abbrev pub fits : ℕ → Sum → Bool
fits most s = ltb (cents_of s) (most * limb)

-- some cents more
abbrev pub added : ℕ → Sum → ℕ → Sum
added most s n = sum_of most (cents_of s + n)

-- two sums that are the same number of cents
abbrev pub same_sum : Sum → Sum → Bool
same_sum s t = eqb (cents_of s) (cents_of t)

-- the number that the digits of a text write; what is no digit is passed over
abbrev pub number_of : List ℕ → ℕ
number_of s = value_of (digits_of s)

-- the number of a place of at most eighteen digits
abbrev pub number_in : List ℕ → ℕ
number_in f = number_of (take 18 f)
