-- The digits of a text, and the number that digits write.
use Rattle.std.specs.Prelude.{ℕ, zero, suc, ◌+◌, ◌-◌, ◌*◌, ◌/◌, ◌%◌, ◌^◌, cond, ◌&&◌, List, [], ◌∷◌, Option, Some, None}
use Rattle.classes.specs.Classes.{is_digit}

-- the digits of a text as numbers, first to last; a hyphen, or whatever is no digit, is passed over
unfoldable pub digits_of : List ℕ → List ℕ
digits_of [] = []
digits_of (b ∷ s) = cond (is_digit b) ((b - 48) ∷ digits_of s) (digits_of s)

-- the number that the digits write after the digits of v
unfoldable pub value_from : ℕ → List ℕ → ℕ
value_from v [] = v
value_from v (d ∷ ds) = value_from (v * 10 + d) ds

-- the number that digits write
abbrev pub value_of : List ℕ → ℕ
value_of ds = value_from 0 ds

-- the number that two bytes write, where both are digits
abbrev pub two_digits : ℕ → ℕ → Option ℕ
two_digits a b = cond (is_digit a && is_digit b) (Some ((a - 48) * 10 + (b - 48))) None

-- the last n digits of a number as a text, with zeros in front; `0` is 48
unfoldable pub digits_text : ℕ → ℕ → List ℕ
digits_text zero a = []
digits_text (suc n) a = (48 + (a / 10 ^ n) % 10) ∷ digits_text n a
