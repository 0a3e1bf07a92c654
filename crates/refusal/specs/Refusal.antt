-- Document 01, "Refusal numbers", and document 02: what the paper's number, place and needed number of each refusal are.
use Rattle.std.specs.Prelude.{ℕ, Bool, true, false, cond, ◌&&◌, ◌||◌, eqb, leb, Result, Ok, Err}
use Rattle.refusal.specs.declared.Place.{Place}
use Rattle.refusal.specs.declared.Refusal.{Refusal}
use Rattle.refusal.specs.declared.Refusal.TheVariants.{Size, Ends, Byte, Length, Form, Check, Model, Parts, Digit, Misplaced, Date, Orders, Sum, Unfinished, Room, Marks, Beyond, Sheet, Field, Overfull}

-- "0 stands for none": the place of a refusal that tells none
abbrev pub none : Place
none = record { line = 0; field = 0; byte = 0 }

-- the numbers of the table
abbrev pub refusal_number : Refusal → ℕ
refusal_number (Size p) = 1
refusal_number (Ends p) = 2
refusal_number (Byte p) = 3
refusal_number (Length p) = 4
refusal_number (Form p) = 5
refusal_number (Check p) = 6
refusal_number (Model p) = 7
refusal_number (Parts p) = 8
refusal_number (Digit p) = 9
refusal_number (Misplaced p) = 10
refusal_number (Date p) = 11
refusal_number (Orders p) = 12
refusal_number (Sum p) = 13
refusal_number (Unfinished p) = 14
refusal_number (Room p n) = 15
refusal_number (Marks p) = 16
refusal_number (Beyond p) = 17
-- document 02, W2
refusal_number (Sheet p) = 20
refusal_number (Field p) = 28
-- document 02, W5
refusal_number (Overfull p) = 29

-- the numbers of the documents' refusals: 01's table, and of document 02 20 and 28 (W2) and 29 (W5)
abbrev pub is_tabled : ℕ → Bool
is_tabled k = (leb 1 k && leb k 17) || (eqb k 20 || eqb k 28 || eqb k 29)

-- line, field and byte
abbrev pub refusal_place : Refusal → Place
refusal_place (Size p) = p
refusal_place (Ends p) = p
refusal_place (Byte p) = p
refusal_place (Length p) = p
refusal_place (Form p) = p
refusal_place (Check p) = p
refusal_place (Model p) = p
refusal_place (Parts p) = p
refusal_place (Digit p) = p
refusal_place (Misplaced p) = p
refusal_place (Date p) = p
refusal_place (Orders p) = p
refusal_place (Sum p) = p
refusal_place (Unfinished p) = p
refusal_place (Room p n) = p
refusal_place (Marks p) = p
refusal_place (Beyond p) = p
refusal_place (Sheet p) = p
refusal_place (Field p) = p
refusal_place (Overfull p) = p

-- "the needed number is told" by 15; the others need none
abbrev pub needed_of : Refusal → ℕ
needed_of (Size p) = 0
needed_of (Ends p) = 0
needed_of (Byte p) = 0
needed_of (Length p) = 0
needed_of (Form p) = 0
needed_of (Check p) = 0
needed_of (Model p) = 0
needed_of (Parts p) = 0
needed_of (Digit p) = 0
needed_of (Misplaced p) = 0
needed_of (Date p) = 0
needed_of (Orders p) = 0
needed_of (Sum p) = 0
needed_of (Unfinished p) = 0
needed_of (Room p n) = n
needed_of (Marks p) = 0
needed_of (Beyond p) = 0
needed_of (Sheet p) = 0
needed_of (Field p) = 0
needed_of (Overfull p) = 0

-- the refusal that a number, a place and a needed number tell
abbrev pub refusal_of : ℕ → Place → ℕ → Refusal
refusal_of k p n =
    cond (eqb k 1) (Size p) (
    cond (eqb k 2) (Ends p) (
    cond (eqb k 3) (Byte p) (
    cond (eqb k 4) (Length p) (
    cond (eqb k 5) (Form p) (
    cond (eqb k 6) (Check p) (
    cond (eqb k 7) (Model p) (
    cond (eqb k 8) (Parts p) (
    cond (eqb k 9) (Digit p) (
    cond (eqb k 10) (Misplaced p) (
    cond (eqb k 11) (Date p) (
    cond (eqb k 12) (Orders p) (
    cond (eqb k 13) (Sum p) (
    cond (eqb k 14) (Unfinished p) (
    cond (eqb k 15) (Room p n) (
    cond (eqb k 16) (Marks p) (
    cond (eqb k 20) (Sheet p) (
    cond (eqb k 28) (Field p) (
    cond (eqb k 29) (Overfull p) (
    Beyond p)))))))))))))))))))

-- the same refusal, told of the place q
abbrev pub moved : Place → Refusal → Refusal
moved q r = refusal_of (refusal_number r) q (needed_of r)

-- a refusal of a line, its field and byte kept
abbrev pub in_line : ℕ → Refusal → Refusal
in_line n r = moved (record { line = n; field = (refusal_place r).field; byte = (refusal_place r).byte }) r

-- what a judging call answers: acceptance, or a refusal
abbrev pub Answer : Type 0
Answer = Result Unit Refusal

-- an answer's number: 0 is acceptance
abbrev pub answer_number : Answer → ℕ
answer_number (Ok u) = 0
answer_number (Err r) = refusal_number r

-- an answer refuses nothing
abbrev pub is_accepted : Answer → Bool
is_accepted (Ok u) = true
is_accepted (Err r) = false

-- the first refusal stands
abbrev pub first_of : Answer → Answer → Answer
first_of (Ok u) rest = rest
first_of (Err r) rest = Err r
