-- What is claimed of references under HR69 (proofs/WageReferences.antt), to be held beside document 02, W4.
use Rattle.std.specs.Prelude.{ℕ, ◌<◌, ◌≡◌, true, ◌&&◌, List, eqb, length, get_or}
use Rattle.refusal.specs.Basics.{spelt}
use Rattle.text.specs.Bytes.{all_of}
use Rattle.text.specs.Digits.{digits_text}
use Rattle.classes.specs.declared.Class.TheVariants.{Digits}
use Rattle.check_digits.specs.declared.Rule.TheVariants.{Ini}
use Rattle.check_digits.specs.CheckDigit.{passes}
use Rattle.account.specs.Account.{oib_passes}
use Rattle.codes.specs.Codes.{codes}

-- the model's text
abbrev pub hr69 : List ℕ
hr69 = spelt "HR69"

-- eleven digits that pass
abbrev pub IsOib : List ℕ → Type 0
IsOib q = (all_of Digits q && (eqb (length q) 11 && oib_passes q)) ≡ true

-- "first part 40002, third part a code of the income list (004's 55)"
pub record WageParts (p q c : List ℕ) : Type 0 where
  pub first : p ≡ spelt "40002"
  pub second : IsOib q
  -- the three digits of a code of the list
  pub place : ℕ
  pub listed : place < 55
  pub third : c ≡ digits_text 3 (get_or codes place 0)

-- "Two-part references keep any first part that passes": five digits that pass INI, and an OIB
pub record TwoParts (p q : List ℕ) : Type 0 where
  pub digits : all_of Digits p ≡ true
  pub five : length p ≡ 5
  pub first : passes Ini p ≡ true
  pub second : IsOib q
