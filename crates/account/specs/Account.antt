-- Document 01, "Check digits": an IBAN's form and check, and an OIB's.
use Rattle.std.specs.Prelude.{ℕ, ◌%◌, Bool, ◌&&◌, List, ◌∷◌, ◌++◌, eqb, leb, length, get_or, take, drop}
use Rattle.text.specs.Bytes.{all_of}
use Rattle.text.specs.Digits.{digits_of, value_of}
use Rattle.classes.specs.declared.Class.TheVariants.{Digits}
use Rattle.check_digits.specs.CheckDigit.{passes}
use Rattle.check_digits.specs.declared.Rule.TheVariants.{Mod1110}

-- ---------------------------------------------------------------------------
-- IBAN

-- "`HR` and nineteen digits", 21 characters; `H` is 72, `R` is 82
abbrev pub iban_formed : List ℕ → Bool
iban_formed s =
    eqb (length s) 21 && (eqb (get_or s 0 0) 72 && (eqb (get_or s 1 0) 82 && all_of Digits (drop 2 s)))

-- "the two check digits", behind `HR`
abbrev pub check_digits : List ℕ → List ℕ
check_digits s = digits_of (take 2 (drop 2 s))

-- they "lie in 02 to 98"
abbrev pub in_range : ℕ → Bool
in_range k = leb 2 k && leb k 98

-- "move the first four characters to the end, H = 17, R = 27"
abbrev pub rearranged : List ℕ → List ℕ
rearranged s = digits_of (drop 4 s) ++ (1 ∷ (7 ∷ (2 ∷ (7 ∷ check_digits s))))

-- "the number leaves 1 on division by 97, and the two check digits lie in 02 to 98"
unfoldable pub iban_passes : List ℕ → Bool
iban_passes s = in_range (value_of (check_digits s)) && eqb (value_of (rearranged s) % 97) 1

-- ---------------------------------------------------------------------------
-- OIB

-- "An OIB is eleven digits that pass" MOD 11,10
unfoldable pub oib_passes : List ℕ → Bool
oib_passes s = passes Mod1110 s
