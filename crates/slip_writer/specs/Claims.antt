-- What is claimed of slips written and read (proofs/Theorems.antt): a slip's amount and fields, and what is read back.
use Rattle.std.specs.Prelude.{ℕ, ◌-◌, ◌^◌, ◌<◌, ◌≤◌, ◌≡◌, List, [], length, get_or, Ok}
use Rattle.text.specs.Split.{split}
use Rattle.text.specs.Digits.{digits_text}
use Rattle.slip.specs.Slip.{piece_of, slip_answer}
use Rattle.slip_handed.specs.Handed.{amount_of, field_of}
use Rattle.slip_given.specs.Given.{given_answer, eleven}
use Rattle.slip_writer.specs.Writer.{slip_text}

-- the fields 4 to 14 of a slip
abbrev pub slip_fields : List ℕ → List (List ℕ)
slip_fields s =
    eleven (field_of s 4) (field_of s 5) (field_of s 6) (field_of s 7) (field_of s 8) (field_of s 9) (field_of s 10) (field_of s 11) (field_of s 12) (field_of s 13) (field_of s 14)

-- a slip of n bytes was written: the reader accepts it, and it has the amount and the fields that were given
pub record ReadsBack (cents : ℕ) (fields : List (List ℕ)) (n : ℕ) : Type 0 where
  pub accepted : slip_answer (slip_text cents fields) ≡ Ok tt
  pub size : n ≡ length (slip_text cents fields)
  pub digits : piece_of 2 (split 10 (slip_text cents fields)) ≡ digits_text 15 cents
  pub amount : amount_of (slip_text cents fields) ≡ cents
  pub texts : (k : ℕ) → 4 ≤ k → k ≤ 14 → field_of (slip_text cents fields) k ≡ get_or fields (k - 4) []

-- the amount and the fields of a slip make up the slip, and the writer refuses none of them
pub record WritesBack (s : List ℕ) : Type 0 where
  pub same : slip_text (amount_of s) (slip_fields s) ≡ s
  pub small : amount_of s < 10 ^ 15
  pub given : given_answer 4 [] (slip_fields s) ≡ Ok tt
