-- Document 02, W1: a slip of either currency. "Read both kinds and say which it was."
use Rattle.std.specs.Prelude.{ℕ, cond, List, Result, Ok, Err}
use Rattle.refusal.specs.Refusal.{Answer}
use Rattle.refusal.specs.declared.Refusal.{Refusal}
use Rattle.text.specs.declared.Part.{Part}
use Rattle.text.specs.Bytes.{same}
use Rattle.text.specs.Split.{split}
use Rattle.slip_fields.specs.declared.Currency.{Currency}
use Rattle.slip_fields.specs.declared.Currency.TheVariants as currency
use Rattle.slip_fields.specs.Fields.{currency_text}
use Rattle.slip.specs.Slip.{slip_answer_in, piece_of}
use Rattle.slip_handed.specs.Handed.{field_in, field_part_in, amount_of}
use Rattle.ledger_slip.specs.declared.Amount.{Amount}
use Rattle.ledger_slip.specs.declared.Amount.TheVariants.{Euro, Kuna}

-- the currency in which a slip is judged: kuna where field 2 is `HRK`, and else document 01's
unfoldable pub currency_of : List ℕ → Currency
currency_of s = cond (same (currency_text currency.Kuna) (piece_of 1 (split 10 s))) currency.Kuna currency.Euro

-- so much in the unit of a currency: cents or lipa, "two units"
unfoldable pub amount_in : Currency → ℕ → Amount
amount_in currency.Euro n = Euro (record { number = n })
amount_in currency.Kuna n = Kuna (record { number = n })

abbrev pub ledger_from : Currency → ℕ → Answer → Result Amount Refusal
ledger_from c n (Ok u) = Ok (amount_in c n)
ledger_from c n (Err r) = Err r

-- an accepted slip with its amount, or its refusal
unfoldable pub ledger_of : List ℕ → Result Amount Refusal
ledger_of s = ledger_from (currency_of s) (amount_of s) (slip_answer_in (currency_of s) s)

-- a field of it, and where it stands
abbrev pub ledger_field : List ℕ → ℕ → List ℕ
ledger_field s n = field_in (currency_of s) s n

abbrev pub ledger_part : List ℕ → ℕ → Part
ledger_part s n = field_part_in (currency_of s) s n
