-- What is promised of refusals: their numbers tell all that they hold, and a refusal is no acceptance.
-- Assumes nothing.
use Rattle.refusal.proofs.Basics.{◌≡◌, refl, arith, ℕ}
use Rattle.refusal.specs.declared.Refusal.{Refusal}
use Rattle.refusal.specs.declared.Refusal.TheVariants.{Size, Ends, Byte, Length, Form, Check, Model, Parts, Digit, Misplaced, Date, Orders, Sum, Unfinished, Room, Marks, Beyond, Sheet, Field, Overfull}
use Rattle.std.specs.Prelude.{Ok, Err}
use Rattle.refusal.specs.declared.Place.{Place}
use Rattle.refusal.specs.Refusal.{Answer, refusal_number, refusal_place, needed_of, refusal_of, moved}

-- ---------------------------------------------------------------------------
-- The paper's number, the place and the needed number say all that a refusal holds

pub numbers_tell_all : (r : Refusal) → refusal_of (refusal_number r) (refusal_place r) (needed_of r) ≡ r
numbers_tell_all (Size p) = refl
numbers_tell_all (Ends p) = refl
numbers_tell_all (Byte p) = refl
numbers_tell_all (Length p) = refl
numbers_tell_all (Form p) = refl
numbers_tell_all (Check p) = refl
numbers_tell_all (Model p) = refl
numbers_tell_all (Parts p) = refl
numbers_tell_all (Digit p) = refl
numbers_tell_all (Misplaced p) = refl
numbers_tell_all (Date p) = refl
numbers_tell_all (Orders p) = refl
numbers_tell_all (Sum p) = refl
numbers_tell_all (Unfinished p) = refl
numbers_tell_all (Room p n) = refl
numbers_tell_all (Marks p) = refl
numbers_tell_all (Beyond p) = refl
numbers_tell_all (Sheet p) = refl
numbers_tell_all (Field p) = refl
numbers_tell_all (Overfull p) = refl

pub refused_not_accepted : (r : Refusal) → ◌≡◌ {A = Answer} (Err r) (Ok tt) → ⊥
refused_not_accepted r e = let z : ◌≡◌ {A = ℕ} 0 1 = cc in omega arith

-- ---------------------------------------------------------------------------
-- Told of another place, a refusal keeps its number

pub moved_number : (q : Place) (r : Refusal) → refusal_number (moved q r) ≡ refusal_number r
moved_number q (Size p) = refl
moved_number q (Ends p) = refl
moved_number q (Byte p) = refl
moved_number q (Length p) = refl
moved_number q (Form p) = refl
moved_number q (Check p) = refl
moved_number q (Model p) = refl
moved_number q (Parts p) = refl
moved_number q (Digit p) = refl
moved_number q (Misplaced p) = refl
moved_number q (Date p) = refl
moved_number q (Orders p) = refl
moved_number q (Sum p) = refl
moved_number q (Unfinished p) = refl
moved_number q (Room p n) = refl
moved_number q (Marks p) = refl
moved_number q (Beyond p) = refl
moved_number q (Sheet p) = refl
moved_number q (Field p) = refl
moved_number q (Overfull p) = refl
