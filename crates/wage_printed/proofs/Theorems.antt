-- What is printed of a wage file stands in a room of 108 bytes, and a file read in parts of whole lines gets the whole file's line.
-- Assumes nothing.
use Rattle.refusal.proofs.Basics.{◌≡◌, refl, sym, ◌∙◌, arith, ℕ, ◌%◌, ◌≤◌, length, take, drop, List, [], ◌∷◌, ◌++◌, append_assoc}
use Rattle.std.specs.Prelude.{Result, Ok, Err}
use Rattle.refusal.specs.declared.Refusal.{Refusal}
use Rattle.condition.specs.declared.Counts.{Counts}
use Rattle.text.specs.Split.{joined}
use Rattle.wage_line.specs.Pieces.{pieces}
use Rattle.condition.specs.declared.Judge.{Judge}
use Rattle.condition.specs.Record.{begun, ended}
use Rattle.judge.specs.Judge.{steps}
use Rattle.wage_file.specs.File.{file_answer}
use Rattle.wage_file.proofs.Theorems.{in_parts}
use Rattle.printed.specs.Printed.{counted, Puts}
use Rattle.printed.proofs.Theorems.{both_at_most, counted_at_most, refused_at_most, printed_whole}
use Rattle.wage_printed.specs.FilePrinted.{day_told, accepted_word, lines_word, groups_word, orders_word, ending_printed, file_printed}

-- ---------------------------------------------------------------------------
-- How long it is

pub ending_at_most : (e : Result Counts Refusal) → length (ending_printed e) ≤ 108
unfolding ending_printed
ending_at_most (Ok n) =
    both_at_most (counted accepted_word n.lines) _ 29 79 (counted_at_most accepted_word n.lines)
    (both_at_most (counted lines_word n.tally.groups) _ 27 52 (counted_at_most lines_word n.tally.groups)
    (both_at_most (counted groups_word n.tally.orders) orders_word 28 24 (counted_at_most groups_word n.tally.orders) (omega arith)))
ending_at_most (Err r) = refused_at_most r

-- in a room of 108 bytes the call leaves all of it at the front
pub file_printed_whole : (e : Result Counts Refusal) (out : List ℕ) (r : ℕ) (after : List ℕ) → Puts (ending_printed e) 0 out r after → 108 ≤ length out → take r after ≡ ending_printed e
file_printed_whole e out r after p h = let b = ending_at_most e in printed_whole (ending_printed e) out r after p (omega arith)

-- ---------------------------------------------------------------------------
-- In parts

-- the record after some parts
unfoldable pub steps_over : Judge → List (List ℕ) → Judge
steps_over j [] = j
steps_over j (p ∷ ps) = steps_over (steps j (pieces p)) ps

-- each is of whole lines
unfoldable pub WholeLines : List (List ℕ) → Type 0
WholeLines [] = Unit
WholeLines (p ∷ ps) = (length p % 1002 ≡ 0) × WholeLines ps

-- parts of whole lines and what is left of the input are judged as all of it
parts_judged : (j : Judge) (ps : List (List ℕ)) (rest : List ℕ) → WholeLines ps → steps (steps_over j ps) (pieces rest) ≡ steps j (pieces (joined ps ++ rest))
unfolding steps_over WholeLines joined
parts_judged j [] rest w = refl
parts_judged j (p ∷ ps) rest w =
    parts_judged (steps j (pieces p)) ps rest w.1 ∙ sym (in_parts j p (joined ps ++ rest) w.0) ∙ rw (append_assoc p (joined ps) rest)

-- so the program, which reads nine bytes and then such parts, prints the line of its whole input
pub printed_in_parts :
    (s : List ℕ) (ps : List (List ℕ)) (rest : List ℕ) → WholeLines ps → drop 9 s ≡ joined ps ++ rest
    → ending_printed (ended (steps (steps_over (begun (day_told (take 9 s))) ps) (pieces rest))) ≡ file_printed s
unfolding file_answer
printed_in_parts s ps rest w e = rw (e, parts_judged (begun (day_told (take 9 s))) ps rest w)
