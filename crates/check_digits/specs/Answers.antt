-- Document 01, "Check digits", last paragraph: what checking and making a check digit answer. No place is told.
use Rattle.std.specs.Prelude.{ℕ, Bool, cond, ◌&&◌, List, leb, length, Result, Ok, Err}
use Rattle.refusal.specs.Refusal.{Answer, none}
use Rattle.refusal.specs.declared.Refusal.{Refusal}
use Rattle.refusal.specs.declared.Refusal.TheVariants.{Size, Byte, Digit}
use Rattle.text.specs.Bytes.{all_of}
use Rattle.text.specs.Digits.{digits_of}
use Rattle.classes.specs.declared.Class.TheVariants.{Digits}
use Rattle.check_digits.specs.declared.Rule.{Rule}
use Rattle.check_digits.specs.CheckDigit.{check_digit, passes}

-- a size of a to b
abbrev pub sized : ℕ → ℕ → List ℕ → Bool
sized a b s = leb a (length s) && leb (length s) b

-- "another length is 1, then a non-digit 3"; 22 is the longest that a reference can be (docs/DECISIONS.md)
abbrev pub check_answer : Rule → List ℕ → Answer
check_answer rule s =
    cond (sized 1 22 s)
    (cond (all_of Digits s)
    (cond (passes rule s) (Ok tt) (Err (Digit none)))
    (Err (Byte none)))
    (Err (Size none))

-- "For one to nineteen digits, a check digit is made"
abbrev pub make_answer : Rule → List ℕ → Result ℕ Refusal
make_answer rule s =
    cond (sized 1 19 s)
    (cond (all_of Digits s)
    (Ok (check_digit rule (digits_of s)))
    (Err (Byte none)))
    (Err (Size none))
