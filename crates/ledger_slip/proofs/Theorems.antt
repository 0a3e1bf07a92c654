-- What is promised of slips of either currency: accepted exactly when, never of both, and how the euro reader answers.
-- Assumes nothing.
use Rattle.refusal.proofs.Basics.{◌≡◌, refl, sym, ap, ◌∙◌, arith, ℕ, ◌≤◌, length, get_or, le-leb, List, [], ◌∷◌, ◌↔◌}
use Rattle.std.specs.Prelude.{Err, Ok}
use Rattle.refusal.specs.Refusal.{Answer}
use Rattle.refusal.specs.declared.Refusal.TheVariants.{Form}
use Rattle.text.specs.Split.{split}
use Rattle.text.proofs.Pieces.{pieces_counted}
use Rattle.slip_fields.specs.declared.Currency.{Currency}
use Rattle.slip_fields.specs.declared.Currency.TheVariants as currency
use Rattle.slip_fields.specs.Fields.{hrvhub30, currency_text}
use Rattle.slip_fields.proofs.Theorems.{hrvhub30_accepted, other_currency_refused}
use Rattle.slip.specs.Slip.{fields_answer, slip_answer_in, slip_answer, piece_of}
use Rattle.slip.proofs.Plain.{PlainSlip, accepted_plainly}
use Rattle.slip_handed.specs.Handed.{amount_of, field_of, field_part}
use Rattle.ledger_slip.specs.declared.Amount.{Amount}
use Rattle.ledger_slip.specs.declared.Amount.TheVariants.{Euro, Kuna}
use Rattle.ledger_slip.specs.Ledger.{currency_of, amount_in, ledger_from, ledger_of, ledger_field, ledger_part}

-- ---------------------------------------------------------------------------
-- Which currency it is

-- a slip that is right in a currency is judged in it
pub plain_currency : (c : Currency) (s : List ℕ) → PlainSlip c s → currency_of s ≡ c
unfolding currency_of
plain_currency currency.Euro s w = rw w.second
plain_currency currency.Kuna s w = rw w.second

-- "a slip is never of both"
pub never_both : (s : List ℕ) → PlainSlip currency.Euro s → PlainSlip currency.Kuna s → ⊥
never_both s e k =
    let h = sym (plain_currency currency.Euro s e) ∙ plain_currency currency.Kuna s k in
    let z : ◌≡◌ {A = ℕ} 0 1 = cc in
    omega arith

-- ---------------------------------------------------------------------------
-- Accepted exactly when, for both

-- the number of an amount, whatever its unit
abbrev number_in : Amount → ℕ
number_in (Euro cents) = cents.number
number_in (Kuna lipa) = lipa.number

-- an amount in a unit is of one currency and one number
amount_one : (c d : Currency) (m n : ℕ) → amount_in c m ≡ amount_in d n → (c ≡ d) × (m ≡ n)
unfolding amount_in
amount_one currency.Euro currency.Euro m n e = (refl, ap number_in e)
amount_one currency.Kuna currency.Kuna m n e = (refl, ap number_in e)
amount_one currency.Euro currency.Kuna m n e = let z : ◌≡◌ {A = ℕ} 0 1 = cc in absurd (omega arith)
amount_one currency.Kuna currency.Euro m n e = let z : ◌≡◌ {A = ℕ} 0 1 = cc in absurd (omega arith)

-- an accepted slip is of its currency, with the amount of its field 3, exactly when it is as the documents ask
pub ledger_exactly : (c : Currency) (s : List ℕ) (n : ℕ) → (ledger_of s ≡ Ok (amount_in c n)) ↔ (PlainSlip c s × (n ≡ amount_of s))
unfolding ledger_of
ledger_exactly c s n = (λ e. go (slip_answer_in (currency_of s) s) refl e, λ w. back w)
  where
    go : (a : Answer) → slip_answer_in (currency_of s) s ≡ a → ledger_from (currency_of s) (amount_of s) a ≡ Ok (amount_in c n) → PlainSlip c s × (n ≡ amount_of s)
    go (Ok u) g e = let h = amount_one (currency_of s) c (amount_of s) n cc in ((accepted_plainly c s).0 (rw h.0 at g), sym h.1)
    go (Err r) g e = let z : ◌≡◌ {A = ℕ} 0 1 = cc in absurd (omega arith)

    back : PlainSlip c s × (n ≡ amount_of s) → ledger_from (currency_of s) (amount_of s) (slip_answer_in (currency_of s) s) ≡ Ok (amount_in c n)
    back (w, e) = rw (plain_currency c s w, (accepted_plainly c s).1 w, e)

-- ---------------------------------------------------------------------------
-- The euro reader beside it

-- what the euro reader accepts has the same fields here
pub euro_fields : (s : List ℕ) → slip_answer s ≡ Ok tt → (n : ℕ) → (ledger_field s n ≡ field_of s n) × (ledger_part s n ≡ field_part s n)
euro_fields s e n = let h = plain_currency currency.Euro s ((accepted_plainly currency.Euro s).0 e) in (rw h, rw h)

-- pieces that begin with the header and `HRK`
euro_refuses : (ps : List (List ℕ)) → 3 ≤ length ps → get_or ps 0 [] ≡ hrvhub30 → get_or ps 1 [] ≡ currency_text currency.Kuna → fields_answer currency.Euro 1 0 [] ps ≡ Err (Form (record { line = 0; field = 2; byte = 9 }))
unfolding fields_answer
euro_refuses [] l g h = absurd (omega arith)
euro_refuses (p ∷ []) l g h = absurd (omega arith)
euro_refuses (p ∷ (q ∷ [])) l g h = absurd (omega arith)
euro_refuses (p ∷ (q ∷ (r ∷ ps))) l g h = rw (g, h, hrvhub30_accepted currency.Euro [], (other_currency_refused hrvhub30).0)

-- what is accepted as kuna the euro reader refuses with 5 at field 2
pub kuna_refused : (s : List ℕ) → PlainSlip currency.Kuna s → slip_answer s ≡ Err (Form (record { line = 0; field = 2; byte = 9 }))
unfolding slip_answer_in piece_of
kuna_refused s w =
    rw (le-leb (length s) 483 w.short, w.ends, w.last)
    (euro_refuses (split 10 s) (omega (arith, pieces_counted 10 s, w.ends)) w.first w.second)
