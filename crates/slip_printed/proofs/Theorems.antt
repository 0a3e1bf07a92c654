-- All that `slipfile` prints of a slip stands in a room of 6,100 bytes, and all that `ledger` prints in one of 6,200.
-- Assumes nothing.
use Rattle.refusal.proofs.Basics.{◌≡◌, refl, arith, ℕ, zero, suc, ◌+◌, ◌-◌, ◌*◌, ◌≤◌, length, take, length-append, List, [], ◌∷◌, ◌++◌, suc-mul}
use Rattle.std.specs.Prelude.{Ok, Err}
use Rattle.refusal.specs.Refusal.{Answer}
use Rattle.text.specs.Split.{split}
use Rattle.slip_fields.specs.declared.Currency.{Currency}
use Rattle.slip_fields.specs.declared.Currency.TheVariants.{Euro, Kuna}
use Rattle.slip.specs.Slip.{slip_answer_in, slip_answer, piece_of}
use Rattle.units.specs.Units.{lipa_in_cents}
use Rattle.slip_handed.specs.Handed.{amount_of}
use Rattle.ledger_slip.specs.Ledger.{currency_of, amount_in, ledger_from, ledger_of}
use Rattle.slip.proofs.Plain.{accepted_plainly}
use Rattle.slip_handed.proofs.Laws.{piece_stands}
use Rattle.printed.specs.Printed.{decimal, Puts}
use Rattle.printed.proofs.Theorems.{both_at_most, decimal_at_most, refused_at_most, printed_whole}
use Rattle.slip_printed.specs.SlipPrinted.{accepted_line, euro_line, kuna_line, cents_line, field_line, field_lines, printed_for, slip_printed, ledger_lines, ledger_printed}

-- ---------------------------------------------------------------------------
-- How long it is

-- a field's line, of a text of at most k bytes
line_at_most : (n k : ℕ) (text : List ℕ) → length text ≤ k → length (field_line n text) ≤ 22 + k
unfolding field_line
line_at_most n k text h =
    let d = decimal_at_most n in
    let a = length-append (decimal n) (61 ∷ (text ++ (10 ∷ []))) in
    let b = length-append text (10 ∷ []) in
    omega arith

-- the lines of a slip of at most 483 bytes
lines_at_most : (s : List ℕ) (n k : ℕ) → length s ≤ 483 → length (field_lines s n k) ≤ k * 505
unfolding field_lines
lines_at_most s n zero h = omega arith
lines_at_most s n (suc k) h =
    let p = (piece_stands (n - 1) s).0 in
    let e = suc-mul k 505 in
    let b = both_at_most (field_line n (piece_of (n - 1) (split 10 s))) (field_lines s (suc n) k) 505 (k * 505)
    (line_at_most n 483 (piece_of (n - 1) (split 10 s)) (omega arith)) (lines_at_most s (suc n) k h) in
    omega arith

-- all of it
pub slip_at_most : (s : List ℕ) → length (slip_printed s) ≤ 6100
unfolding slip_printed
slip_at_most s = go (slip_answer s) refl
  where
    go : (a : Answer) → slip_answer s ≡ a → length (printed_for a s) ≤ 6100
    go (Ok u) e = let b = both_at_most accepted_line (field_lines s 3 12) 9 6060 (omega arith) (lines_at_most s 3 12 ((accepted_plainly Euro s).0 e).short) in omega arith
    go (Err r) e = let b = refused_at_most r in omega arith

-- with a kuna slip's cents
cents_at_most : (lipa : ℕ) → length (cents_line lipa) ≤ 27
unfolding cents_line
cents_at_most lipa =
    let d = decimal_at_most (lipa_in_cents lipa) in
    let a = length-append (decimal (lipa_in_cents lipa)) (10 ∷ []) in
    omega arith

pub ledger_at_most : (s : List ℕ) → length (ledger_printed s) ≤ 6200
unfolding ledger_printed ledger_of amount_in
ledger_at_most s = go (currency_of s) (slip_answer_in (currency_of s) s) refl
  where
    go : (c : Currency) (a : Answer) → slip_answer_in (currency_of s) s ≡ a → length (ledger_lines (ledger_from c (amount_of s) a) s) ≤ 6200
    go c (Err r) e = let b = refused_at_most r in omega arith
    go Euro (Ok u) e =
        let l = lines_at_most s 3 12 ((accepted_plainly (currency_of s) s).0 e).short in
        let b = both_at_most euro_line (field_lines s 3 12) 14 6060 (omega arith) l in
        omega arith
    go Kuna (Ok u) e =
        let l = lines_at_most s 3 12 ((accepted_plainly (currency_of s) s).0 e).short in
        let b = both_at_most kuna_line (field_lines s 3 12) 14 6060 (omega arith) l in
        let d = both_at_most (kuna_line ++ field_lines s 3 12) (cents_line (amount_of s)) 6074 27 b (cents_at_most (amount_of s)) in
        omega arith

-- ---------------------------------------------------------------------------
-- What the programs print

-- in a room of 6,100 bytes `slipfile`'s call leaves all of it at the front
pub slip_printed_whole : (s out : List ℕ) (r : ℕ) (after : List ℕ) → Puts (slip_printed s) 0 out r after → 6100 ≤ length out → take r after ≡ slip_printed s
slip_printed_whole s out r after p h = let b = slip_at_most s in printed_whole (slip_printed s) out r after p (omega arith)

-- in a room of 6,200 bytes `ledger`'s does
pub ledger_printed_whole : (s out : List ℕ) (r : ℕ) (after : List ℕ) → Puts (ledger_printed s) 0 out r after → 6200 ≤ length out → take r after ≡ ledger_printed s
ledger_printed_whole s out r after p h = let b = ledger_at_most s in printed_whole (ledger_printed s) out r after p (omega arith)
