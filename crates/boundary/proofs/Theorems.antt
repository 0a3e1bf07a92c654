-- What is promised of the boundary: nothing is lost on the way through numbers.
-- Assumes nothing.
use Rattle.refusal.proofs.Basics.{◌≡◌, refl, sym, ap, ◌∙◌, arith, ℕ, zero, suc, ◌<◌, true, false≢true}
use Rattle.std.specs.Prelude.{Ok, Err}
use Rattle.refusal.specs.Refusal.{Answer, refusal_number, is_tabled, refusal_of}
use Rattle.refusal.specs.declared.Refusal.{Refusal}
use Rattle.refusal.specs.declared.Refusal.TheVariants.{Size, Ends, Byte, Length, Form, Check, Model, Parts, Digit, Misplaced, Date, Orders, Sum, Unfinished, Room, Marks, Beyond, Sheet, Field, Overfull}
use Rattle.refusal.proofs.Theorems.{numbers_tell_all}
use Rattle.boundary.specs.declared.Told.{Told}
use Rattle.boundary.specs.Told.{refusal, told_of, told_place}

-- ---------------------------------------------------------------------------
-- Answers

-- the refusal that an answer tells
abbrev refusal_in : Told → Refusal
refusal_in t = refusal_of t.number (told_place t) t.needed

-- a refusal told as numbers loses nothing
pub refusal_told_back : (r : Refusal) → refusal_in (refusal r) ≡ r
refusal_told_back r = numbers_tell_all r

-- every refusal has a number of the documents
pub number_in_table : (r : Refusal) → is_tabled (refusal_number r) ≡ true
number_in_table (Size p) = refl
number_in_table (Ends p) = refl
number_in_table (Byte p) = refl
number_in_table (Length p) = refl
number_in_table (Form p) = refl
number_in_table (Check p) = refl
number_in_table (Model p) = refl
number_in_table (Parts p) = refl
number_in_table (Digit p) = refl
number_in_table (Misplaced p) = refl
number_in_table (Date p) = refl
number_in_table (Orders p) = refl
number_in_table (Sum p) = refl
number_in_table (Unfinished p) = refl
number_in_table (Room p n) = refl
number_in_table (Marks p) = refl
number_in_table (Beyond p) = refl
number_in_table (Sheet p) = refl
number_in_table (Field p) = refl
number_in_table (Overfull p) = refl

-- none of them is 0
pub number_not_zero : (r : Refusal) → 0 < refusal_number r
number_not_zero r = go (refusal_number r) (number_in_table r)
  where
    go : (k : ℕ) → is_tabled k ≡ true → 0 < k
    go zero e = absurd (false≢true e)
    go (suc k) e = omega arith

-- an answer told as numbers loses nothing
pub told_apart : (a b : Answer) → told_of a ≡ told_of b → a ≡ b
unfolding told_of
told_apart (Ok u) (Ok v) e = refl
told_apart (Ok u) (Err q) e = let z : 0 ≡ refusal_number q = ap (λ (t : Told). t.number) e in absurd (omega (arith, number_not_zero q))
told_apart (Err r) (Ok u) e = let z : refusal_number r ≡ 0 = ap (λ (t : Told). t.number) e in absurd (omega (arith, number_not_zero r))
told_apart (Err r) (Err q) e = ap Err (sym (refusal_told_back r) ∙ (ap refusal_in e ∙ refusal_told_back q))
