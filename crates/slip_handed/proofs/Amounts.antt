-- The amount of a slip, digit by digit.
-- Assumes nothing.
use Rattle.refusal.proofs.Basics.{◌≡◌, arith, ℕ, length, List}
use Rattle.std.specs.Prelude.{Ok}
use Rattle.text.specs.Split.{split}
use Rattle.sums.specs.Sums.{number_in}
use Rattle.sums.proofs.Theorems.{number_of_all}
use Rattle.slip_fields.proofs.Theorems.{third_is_digits}
use Rattle.slip_fields.specs.declared.Currency.{Currency}
use Rattle.slip_fields.specs.declared.Currency.TheVariants.{Euro}
use Rattle.slip.specs.Slip.{slip_answer_in, slip_answer, piece_of}
use Rattle.slip.proofs.Theorems.{accepted_exactly}
use Rattle.slip_handed.specs.Handed.{amount_of, slip_cents}

-- ---------------------------------------------------------------------------
-- An accepted slip's third field

third_size : (c : Currency) (s : List ℕ) → slip_answer_in c s ≡ Ok tt → length (piece_of 2 (split 10 s)) ≡ 15
third_size c s e = (third_is_digits _ _ _ (((accepted_exactly c s).0 e).fields 3 (omega arith) (omega arith))).1

-- its digits are few enough to be read as one number
pub amount_read : (c : Currency) (s : List ℕ) → slip_answer_in c s ≡ Ok tt → number_in (piece_of 2 (split 10 s)) ≡ amount_of s
amount_read c s e = let z = third_size c s e in number_of_all (piece_of 2 (split 10 s)) (omega arith)

-- what an accepted slip's third field writes is its amount
pub cents_read : (s : List ℕ) → slip_answer s ≡ Ok tt → Ok (number_in (piece_of 2 (split 10 s))) ≡ slip_cents s
cents_read s e = rw (e, amount_read Euro s e)
