-- Document 01, "Check digits": MOD 11,10 and INI.
use Rattle.std.specs.Prelude.{ℕ, ◌+◌, ◌-◌, ◌*◌, ◌%◌, Bool, cond, ◌&&◌, List, [], ◌∷◌, eqb, ltb, length, get_or, take}
use Rattle.text.specs.Digits.{digits_of}
use Rattle.check_digits.specs.declared.Rule.{Rule}
use Rattle.check_digits.specs.declared.Rule.TheVariants.{Ini, Mod1110}

-- ---------------------------------------------------------------------------
-- INI

-- "weights 2, 3, 4 and on, leftwards from the digit before the last": of the digits before the last, each weighs 2 more than the
-- number of digits after it
unfoldable pub weighted : List ℕ → ℕ
weighted [] = 0
weighted (d ∷ ds) = (length ds + 2) * d + weighted ds

-- ---------------------------------------------------------------------------
-- MOD 11,10

-- "p becomes (p + digit) mod 10, 10 if that is 0, then doubled mod 11"
abbrev pub ten_for_zero : ℕ → ℕ
ten_for_zero n = cond (eqb n 0) 10 n

abbrev pub carry : ℕ → ℕ → ℕ
carry p d = (2 * ten_for_zero ((p + d) % 10)) % 11

-- the same for one digit after the other
unfoldable pub carried_over : ℕ → List ℕ → ℕ
carried_over p [] = p
carried_over p (d ∷ ds) = carried_over (carry p d) ds

-- ---------------------------------------------------------------------------
-- Both

-- INI: "r = sum mod 11"; MOD 11,10: "start with p = 10"
abbrev pub remainder : Rule → List ℕ → ℕ
remainder Ini ds = weighted ds % 11
remainder Mod1110 ds = carried_over 10 ds

-- INI: "0 if r is 0 or 1, else 11 − r"; MOD 11,10: "(11 − p) mod 10"
abbrev pub digit_for : Rule → ℕ → ℕ
digit_for Ini r = cond (ltb r 2) 0 (11 - r)
digit_for Mod1110 p = (11 - p) % 10

-- the digit that completes the digits
unfoldable pub check_digit : Rule → List ℕ → ℕ
check_digit rule ds = digit_for rule (remainder rule ds)

-- a text passes where it ends in the check digit of the digits before it
unfoldable pub passes : Rule → List ℕ → Bool
passes rule s =
    ltb 0 (length s) &&
    eqb (get_or s (length s - 1) 0) (48 + check_digit rule (digits_of (take (length s - 1) s)))
