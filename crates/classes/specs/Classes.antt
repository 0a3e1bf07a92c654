-- Which bytes the fields of document 01 permit.
use Rattle.std.specs.Prelude.{ℕ, Bool, not, ◌&&◌, ◌||◌, eqb, leb}
use Rattle.classes.specs.declared.Class.{Class}
use Rattle.classes.specs.declared.Class.TheVariants.{Digits, Account, Reference, WetAccount, WetReference, Dry, Part, Line, Letters, Blanks, Zeros, Place, Description, AccountForm}

-- a digit, `0` to `9`
abbrev pub is_digit : ℕ → Bool
is_digit b = leb 48 b && leb b 57

-- a letter, `A` to `Z`
abbrev pub is_letter : ℕ → Bool
is_letter b = leb 65 b && leb b 90

-- "digits and hyphens" (the slip's field 12)
abbrev pub is_reference_byte : ℕ → Bool
is_reference_byte b = is_digit b || eqb b 45

-- "The description permits blank, digits, A to Z, a to z, `- . , /`": 32, 45, 46, 44, 47
abbrev pub is_plain : ℕ → Bool
is_plain b =
    is_digit b || (is_letter b || ((leb 97 b && leb b 122) || (eqb b 32 || leb 44 b && leb b 47)))

-- "and 8A, 9A, 8E, 9E, C6, E6, C8, E8, D0, F0", the ten letters of WIN-1250
abbrev pub is_croatian : ℕ → Bool
is_croatian b =
    eqb b 138 || (eqb b 154 || (eqb b 142 || (eqb b 158 || (eqb b 198 || (eqb b 230 || (eqb b 200 || (eqb b 232 || (eqb b 208 || eqb b 240))))))))

-- the bytes that each class permits; a blank is 32, a line feed is 10, `-` is 45, `?` is 63
abbrev pub permits : Class → ℕ → Bool
permits Digits b = is_digit b
permits Account b = is_digit b || is_letter b
permits Reference b = is_reference_byte b
permits WetAccount b = is_digit b || eqb b 63
permits WetReference b = is_reference_byte b || eqb b 63
permits Dry b = not (eqb b 63)
permits Part b = not (eqb b 45)
permits Line b = not (eqb b 10)
permits Letters b = is_letter b
permits Blanks b = eqb b 32
permits Zeros b = eqb b 48
permits Place b = (is_digit b || is_letter b) || eqb b 32
permits Description b = is_plain b || is_croatian b
permits AccountForm b = (is_digit b || is_letter b) || eqb b 45
