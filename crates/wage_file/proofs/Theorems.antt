-- What is promised of a whole wage file: accepted exactly when its pieces are the lines of a right file, the same answer when it is read in parts
-- of whole lines, the answer of the lines that it is made of, and 14 for an empty one.
-- Assumes nothing.
use Rattle.refusal.proofs.Basics.{◌≡◌, ap, ◌∙◌, arith, ℕ, ◌+◌, ◌*◌, ◌%◌, ◌≤◌, ◌<◌, length, length-append, get_or, List, [], ◌∷◌, ◌++◌, true, ◌↔◌}
use Rattle.std.specs.Prelude.{Ok, Err}
use Rattle.text.specs.Split.{joined}
use Rattle.refusal.specs.declared.Refusal.TheVariants.{Unfinished}
use Rattle.dates.specs.Dates.{is_date}
use Rattle.sums.specs.Sums.{cents_of, sum_of}
use Rattle.sums.proofs.Theorems.{sum_exact}
use Rattle.wage_line.specs.Pieces.{pieces_of, pieces}
use Rattle.wage_line.proofs.PieceLaws.{pieces_of_lines}
use Rattle.tally.specs.Tally.{is_within}
use Rattle.condition.specs.declared.Counts.{Counts}
use Rattle.condition.specs.declared.Judge.{Judge}
use Rattle.condition.specs.Record.{is_sound, begun, ended}
use Rattle.judge.specs.Judge.{steps}
use Rattle.judge.proofs.Theorems.{steps_append}
use Rattle.wage_file.proofs.Exactly.{RightLines, accepted_exactly}
use Rattle.worked_out.proofs.Theorems.{amounts_at_most}
use Rattle.wage_file.specs.File.{file_answer}
use Rattle.wage_file.specs.Right.{Payments, File, group_lines, orders_in, amounts_in, counts_in, RightFile}
use Rattle.wage_file.proofs.Laws.{pieces_append}

-- a whole file is accepted, and these counts told, exactly when its pieces are the lines of a right file with these counts
pub file_accepted_exactly : (day : ℕ) (s : List ℕ) (n : Counts) → (file_answer day s ≡ Ok n) ↔ RightLines day (pieces s) n
unfolding file_answer
file_accepted_exactly day s n = accepted_exactly day (pieces s) n

-- each order is a line, and writes at most fifteen digits
orders_at_most : (gs : List Payments) → orders_in gs ≤ length (group_lines gs)
unfolding group_lines orders_in
orders_at_most [] = omega arith
orders_at_most (g ∷ gs) = omega (arith, orders_at_most gs, length-append g.orders (group_lines gs))

amounts_in_at_most : (gs : List Payments) → amounts_in gs ≤ orders_in gs * 999999999999999
unfolding amounts_in orders_in
amounts_in_at_most [] = omega arith
amounts_in_at_most (g ∷ gs) = omega (arith, amounts_at_most g.orders, amounts_in_at_most gs)

-- the total that a right file is told by is exactly the sum of its orders' amounts
pub total_exact : (day : ℕ) (f : File) → RightFile day f → cents_of (counts_in f).tally.total ≡ amounts_in f.groups
total_exact day f w =
    let lines : length (group_lines f.groups ++ (f.closing ∷ [])) ≡ length (group_lines f.groups) + 1 = length-append (group_lines f.groups) (f.closing ∷ []) in
    sum_exact 1000 (amounts_in f.groups) (omega (arith, amounts_in_at_most f.groups, orders_at_most f.groups, w.limit))

-- a part of whole lines, then the rest, lead to the same record as both at once
pub in_parts : (j : Judge) (a b : List ℕ) → length a % 1002 ≡ 0 → steps j (pieces (a ++ b)) ≡ steps (steps j (pieces a)) (pieces b)
in_parts j a b e = ap (λ (ss : List (List ℕ)). steps j ss) (pieces_append a b e) ∙ steps_append j (pieces a) (pieces b)

-- a file of whole lines gets the answer of these lines
pub of_lines :
    (day : ℕ) (ls : List (List ℕ)) → ((k : ℕ) → k < length ls → length (get_or ls k []) ≡ 1002)
    → file_answer day (joined ls) ≡ ended (steps (begun day) ls)
unfolding file_answer
of_lines day ls f = ap (λ (ss : List (List ℕ)). ended (steps (begun day) ss)) (pieces_of_lines ls f)

-- an empty file is not finished: 14 at line 1
pub empty_file : (day : ℕ) → is_date day ≡ true → file_answer day [] ≡ Err (Unfinished (record { line = 1; field = 0; byte = 0 }))
unfolding file_answer pieces_of begun steps ended is_sound is_within sum_of
empty_file day e = rw e
