-- What the programs `slipfile` and `ledger` print of a slip: `accepted` and its fields 3 to 14, a line each, or its refusal with its place.
use Rattle.std.specs.Prelude.{ℕ, zero, suc, ◌-◌, List, [], ◌∷◌, ◌++◌, Result, Ok, Err}
use Rattle.refusal.specs.Refusal.{Answer}
use Rattle.refusal.specs.Basics.{spelt}
use Rattle.text.specs.Split.{split}
use Rattle.slip.specs.Slip.{slip_answer, piece_of}
use Rattle.units.specs.Units.{lipa_in_cents}
use Rattle.refusal.specs.declared.Refusal.{Refusal}
use Rattle.ledger_slip.specs.declared.Amount.{Amount}
use Rattle.ledger_slip.specs.declared.Amount.TheVariants.{Euro, Kuna}
use Rattle.ledger_slip.specs.Ledger.{ledger_of}
use Rattle.printed.specs.Printed.{decimal, refused_text}

-- `accepted`, and a line feed
abbrev pub accepted_line : List ℕ
accepted_line = spelt "accepted\n"

-- the same, with the currency
abbrev pub euro_line : List ℕ
euro_line = spelt "accepted euro\n"

abbrev pub kuna_line : List ℕ
kuna_line = spelt "accepted kuna\n"

-- `cents=1640`, and a line feed: so many lipa in cents
unfoldable pub cents_line : ℕ → List ℕ
cents_line lipa = spelt "cents=" ++ (decimal (lipa_in_cents lipa) ++ (10 ∷ []))

-- `12=05-2023`, and a line feed: a field's number and its text
unfoldable pub field_line : ℕ → List ℕ → List ℕ
field_line n text = decimal n ++ (61 ∷ (text ++ (10 ∷ [])))

-- the lines of so many fields of a slip, from one on
unfoldable pub field_lines : List ℕ → ℕ → ℕ → List ℕ
field_lines s n zero = []
field_lines s n (suc k) = field_line n (piece_of (n - 1) (split 10 s)) ++ field_lines s (suc n) k

abbrev pub printed_for : Answer → List ℕ → List ℕ
printed_for (Ok u) s = accepted_line ++ field_lines s 3 12
printed_for (Err r) s = refused_text r

unfoldable pub slip_printed : List ℕ → List ℕ
slip_printed s = printed_for (slip_answer s) s

-- a slip of either currency
abbrev pub ledger_lines : Result Amount Refusal → List ℕ → List ℕ
ledger_lines (Ok (Euro cents)) s = euro_line ++ field_lines s 3 12
ledger_lines (Ok (Kuna lipa)) s = (kuna_line ++ field_lines s 3 12) ++ cents_line lipa.number
ledger_lines (Err r) s = refused_text r

unfoldable pub ledger_printed : List ℕ → List ℕ
ledger_printed s = ledger_lines (ledger_of s) s
