-- What a rule says of a text before it is known where the text stands: its verdict. It refuses nothing, or it is a fault: one of the refusals 3
-- to 13 of document 01's table without its place, told of the text's first byte; a 3 tells its first offending byte, counted from the text's
-- first. Every rule of a field or a place is a chain of these.
use Rattle.std.specs.Prelude.{ℕ, ◌≡◌, ◌+◌, ◌-◌, ◌<◌, Bool, cond, eqb, leb, Result, Ok, Err}
use Rattle.refusal.specs.declared.Place.{Place}
use Rattle.refusal.specs.declared.Refusal.{Refusal}
use Rattle.refusal.specs.Refusal.{Answer, refusal_of}
use Rattle.verdict.specs.declared.Fault.{Fault}
use Rattle.verdict.specs.declared.Fault.TheVariants.{Byte, Length, Form, Check, Model, Parts, Digit, Misplaced, Date, Orders, Sum}

-- what a rule answers
abbrev pub Verdict : Type 0
Verdict = Result Unit Fault

-- ---------------------------------------------------------------------------
-- Rules joined

-- it refuses nothing
abbrev pub passed : Verdict
passed = Ok tt

-- 3, with its first offending byte
abbrev pub wrong_at : ℕ → Verdict
wrong_at i = Err (Byte i)

-- a test holds, else the fault f
abbrev pub only_if : Bool → Fault → Verdict
only_if b f = cond b passed (Err f)

-- the first fault stands
abbrev pub and_then : Verdict → Verdict → Verdict
and_then (Ok u) w = w
and_then (Err f) w = Err f

-- ---------------------------------------------------------------------------
-- Told of a place: "For 3, byte is the first offending byte; otherwise the field's first byte"

-- the refusal of document 01's table that a fault is, told of a place
abbrev pub refusal_at : Fault → Place → Refusal
refusal_at (Byte i) p = Refusal.Byte p
refusal_at Length p = Refusal.Length p
refusal_at Form p = Refusal.Form p
refusal_at Check p = Refusal.Check p
refusal_at Model p = Refusal.Model p
refusal_at Parts p = Refusal.Parts p
refusal_at Digit p = Refusal.Digit p
refusal_at Misplaced p = Refusal.Misplaced p
refusal_at Date p = Refusal.Date p
refusal_at Orders p = Refusal.Orders p
refusal_at Sum p = Refusal.Sum p

-- the byte of a 3; of another fault the first
abbrev pub fault_byte : Fault → ℕ
fault_byte (Byte i) = i
fault_byte Length = 0
fault_byte Form = 0
fault_byte Check = 0
fault_byte Model = 0
fault_byte Parts = 0
fault_byte Digit = 0
fault_byte Misplaced = 0
fault_byte Date = 0
fault_byte Orders = 0
fault_byte Sum = 0

abbrev pub verdict_byte : Verdict → ℕ
verdict_byte (Ok u) = 0
verdict_byte (Err f) = fault_byte f

-- of a field and a byte
abbrev pub answer_of : Verdict → ℕ → ℕ → Answer
answer_of (Ok u) field byte = Ok tt
answer_of (Err f) field byte = Err (refusal_at f (record { line = 0; field = field; byte = byte }))

-- of a field that begins at a byte
abbrev pub answer_at : ℕ → ℕ → Verdict → Answer
answer_at field start v = answer_of v field (start + verdict_byte v)

-- of a field, the byte counted within it
abbrev pub answer_in : ℕ → Verdict → Answer
answer_in field v = answer_of v field (verdict_byte v)

-- the verdict of a text of n bytes: a 3 tells a byte of the text
abbrev pub Within : ℕ → Verdict → Type 0
Within n v = (i : ℕ) → v ≡ wrong_at i → i < n

-- ---------------------------------------------------------------------------
-- A verdict as one number, for a caller that has numbers: 0 refuses nothing; a number below 32 is the refusal of that number in document 01's
-- table, told of the text's first byte; 32 + i is a 3 whose first offending byte is i, counted from the text's first byte

abbrev pub verdict_number : ℕ → ℕ
verdict_number v = cond (leb 32 v) 3 v

abbrev pub number_byte : ℕ → ℕ
number_byte v = cond (leb 32 v) (v - 32) 0

-- told of a field, the byte counted within it
abbrev pub number_answer : ℕ → ℕ → Answer
number_answer field v =
    cond (eqb v 0) (Ok tt) (Err (refusal_of (verdict_number v) (record { line = 0; field = field; byte = number_byte v }) 0))

-- the number of a verdict
abbrev pub number_of : Verdict → ℕ
number_of (Ok u) = 0
number_of (Err (Byte i)) = 32 + i
number_of (Err Length) = 4
number_of (Err Form) = 5
number_of (Err Check) = 6
number_of (Err Model) = 7
number_of (Err Parts) = 8
number_of (Err Digit) = 9
number_of (Err Misplaced) = 10
number_of (Err Date) = 11
number_of (Err Orders) = 12
number_of (Err Sum) = 13
