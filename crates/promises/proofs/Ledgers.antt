-- Document 02, W1, said of the calls for the ledgers: accepted exactly when, for both currencies; the euro calls beside them; lipa in cents.
-- Assumes nothing.
use Rattle.refusal.proofs.Basics.{◌≡◌, refl, sym, ap, ◌∙◌, arith, ℕ, ◌≤◌, take, drop, List, ◌↔◌, ◌⊎◌, inl, inr, ⊎_elim}
use Rattle.std.specs.Prelude.{Err, Ok, Result}
use Rattle.refusal.specs.Refusal.{Answer}
use Rattle.refusal.specs.declared.Refusal.{Refusal}
use Rattle.refusal.specs.declared.Refusal.TheVariants.{Form}
use Rattle.slip_fields.specs.declared.Currency.{Currency}
use Rattle.slip_fields.specs.declared.Currency.TheVariants.{Euro, Kuna}
use Rattle.slip.specs.Slip.{slip_answer_in, slip_answer}
use Rattle.slip.proofs.Plain.{PlainSlip, accepted_plainly}
use Rattle.slip_handed.specs.Handed.{amount_of, cents_from, slip_cents}
use Rattle.slip_handed.proofs.Laws.{field_stands}
use Rattle.units.specs.Units.{Nearest}
use Rattle.units.proofs.Theorems.{cents_nearest, nearest_alone, nearest_rises}
use Rattle.ledger_slip.specs.declared.Amount.{Amount}
use Rattle.ledger_slip.specs.declared.Amount.TheVariants as amount
use Rattle.ledger_slip.specs.Ledger.{currency_of, amount_in, ledger_from, ledger_of, ledger_field}
use Rattle.ledger_slip.proofs.Theorems.{never_both, plain_currency, ledger_exactly, euro_fields, kuna_refused}
use Rattle.boundary.specs.declared.Valued.{Valued}
use Rattle.boundary.specs.Told.{accepted, refusal, told_of, value_told, valued}
use Rattle.desk_ledger.specs.declared.Ledger.{Ledger}
use Rattle.desk_ledger.specs.Ledgers.{ledger_told}
use Rattle.promises.specs.Calls.{EverySlipRead, EverySlipField, EverySlipCents, EveryLedgerRead, EveryLedgerField, EveryLipaInCents}
use Rattle.promises.specs.Refusals.{SlipRefused}
use Rattle.promises.proofs.Laws.{told_zero}
use Rattle.promises.proofs.Refusals.{slip_refused}
use Rattle.promises.proofs.Slips.{cents_told_lem}

-- ---------------------------------------------------------------------------
-- Accepted exactly when

-- the number that is told of a currency
abbrev pub currency_number : Currency → ℕ
currency_number Euro = 1
currency_number Kuna = 2

-- it is that of an amount in it
amount_currency : (c : Currency) (n : ℕ) → (ledger_told (Ok (amount_in c n))).currency ≡ currency_number c
unfolding ledger_told amount_in
amount_currency Euro n = refl
amount_currency Kuna n = refl

-- and what is told to be of a currency is an amount in it
told_amount : (c : Currency) (x : Result Amount Refusal) → (ledger_told x).currency ≡ currency_number c → (n : ℕ) × (x ≡ Ok (amount_in c n))
unfolding ledger_told amount_in
told_amount Euro (Ok (amount.Euro cents)) e = (cents.number, refl)
told_amount Euro (Ok (amount.Kuna lipa)) e = absurd (omega arith)
told_amount Euro (Err r) e = absurd (omega arith)
told_amount Kuna (Ok (amount.Euro cents)) e = absurd (omega arith)
told_amount Kuna (Ok (amount.Kuna lipa)) e = (lipa.number, refl)
told_amount Kuna (Err r) e = absurd (omega arith)

-- what is told of a slip that is as the documents ask in a currency
plain_told : (c : Currency) (s : List ℕ) (l : Ledger) → l ≡ ledger_told (ledger_of s) → PlainSlip c s → l ≡ ledger_told (Ok (amount_in c (amount_of s)))
plain_told c s l call p = call ∙ ap ledger_told ((ledger_exactly c s (amount_of s)).1 (p, refl))

-- a slip that is told to be of a currency is as the documents ask in it
told_plain : (c : Currency) (s : List ℕ) (l : Ledger) → l ≡ ledger_told (ledger_of s) → l.currency ≡ currency_number c → PlainSlip c s
told_plain c s l call h =
    let t = told_amount c (ledger_of s) (ap (λ (x : Ledger). x.currency) (sym call) ∙ h) in
    ((ledger_exactly c s t.0).0 t.1).0

-- a slip is told to be of a currency exactly when it is as the documents ask in that currency
pub ledger_currency_exactly : EveryLedgerRead (λ slip l. (c : Currency) → (l.currency ≡ currency_number c) ↔ PlainSlip c slip)
ledger_currency_exactly κs a z w call c =
    let s = a.0.now in
    (told_plain c s z call, λ p. ap (λ (l : Ledger). l.currency) (plain_told c s z call p) ∙ amount_currency c (amount_of s))

-- the answer that is told of what was read in a currency
answer_told : (c : Currency) (n : ℕ) (x : Answer) → (ledger_told (ledger_from c n x)).told ≡ told_of x
unfolding ledger_told amount_in told_of
answer_told Euro n (Ok u) = refl
answer_told Kuna n (Ok u) = refl
answer_told c n (Err r) = refl

-- of a slip: that of the reader in the currency that its field 2 names
read_told : (s : List ℕ) (l : Ledger) → l ≡ ledger_told (ledger_of s) → l.told ≡ told_of (slip_answer_in (currency_of s) s)
unfolding ledger_of
read_told s l call = ap (λ (x : Ledger). x.told) call ∙ answer_told (currency_of s) (amount_of s) (slip_answer_in (currency_of s) s)

-- a slip that is as the documents ask in a currency is so in one of the two
either_plain : (c : Currency) (s : List ℕ) → PlainSlip c s → PlainSlip Euro s ⊎ PlainSlip Kuna s
either_plain Euro s p = inl p
either_plain Kuna s p = inr p

-- and read in the currency that its field 2 names
plain_accepted : (c : Currency) (s : List ℕ) → PlainSlip c s → slip_answer_in (currency_of s) s ≡ Ok tt
plain_accepted c s p = rw (plain_currency c s p) ((accepted_plainly c s).1 p)

-- it is accepted exactly when it is so in one of them
pub ledger_accepted_exactly : EveryLedgerRead (λ slip l. (l.told.number ≡ 0) ↔ (PlainSlip Euro slip ⊎ PlainSlip Kuna slip))
ledger_accepted_exactly κs a z w call =
    let s = a.0.now in
    let zero = told_zero _ z.told (read_told s z call) in
    (λ h. either_plain (currency_of s) s ((accepted_plainly (currency_of s) s).0 (zero.0 h)), λ p. zero.1 (⊎_elim (plain_accepted Euro s) (plain_accepted Kuna s) p))

-- what is told of one that is: its amount in its own unit, and lipa in cents beside it
pub ledger_told_lem : EveryLedgerRead (λ slip l. (c : Currency) → PlainSlip c slip → l ≡ ledger_told (Ok (amount_in c (amount_of slip))))
ledger_told_lem κs a z w call c p = plain_told c a.0.now z call p

-- a slip is never of both
pub ledger_never_both : (slip : List ℕ) → PlainSlip Euro slip → PlainSlip Kuna slip → ⊥
ledger_never_both slip = never_both slip

-- a refusal is the first in the order of document 01, in the currency that field 2 names
pub ledger_refused_first : EveryLedgerRead (λ slip l. (l.told.number ≡ 0 → ⊥) → SlipRefused (currency_of slip) slip l.told)
ledger_refused_first κs a z w call h =
    let s = a.0.now in
    let told = read_told s z call in
    rw told (slip_refused (currency_of s) s (λ e. h ((told_zero _ z.told told).1 e)))

-- a refusal tells no currency and no amount
refused_empty : (x : Result Amount Refusal) → ((ledger_told x).told.number ≡ 0 → ⊥) → ledger_told x ≡ record { told = (ledger_told x).told; currency = 0; cents = 0; lipa = 0; converted = 0 }
unfolding ledger_told
refused_empty (Ok (amount.Euro cents)) h = absurd (h refl)
refused_empty (Ok (amount.Kuna lipa)) h = absurd (h refl)
refused_empty (Err r) h = refl

pub ledger_refused_empty : EveryLedgerRead (λ slip l. (l.told.number ≡ 0 → ⊥) → l ≡ record { told = l.told; currency = 0; cents = 0; lipa = 0; converted = 0 })
ledger_refused_empty κs a z w call h = rw call (refused_empty (ledger_of a.0.now) (λ e. h (ap (λ (l : Ledger). l.told.number) call ∙ e)))

-- the part that is told of a field is the field
pub ledger_field_handed : EveryLedgerField (λ slip n part. take part.length (drop part.start slip) ≡ ledger_field slip n)
ledger_field_handed κs a z w call = rw call (field_stands (currency_of a.0.now) a.0.now a.1.0).1

-- ---------------------------------------------------------------------------
-- The euro calls

-- the answer that the euro call for cents tells is the euro reader's
cents_answer : (s : List ℕ) (x : Answer) → (value_told (cents_from s x)).told ≡ told_of x
unfolding value_told told_of
cents_answer s (Ok u) = refl
cents_answer s (Err r) = refl

-- what the euro reader accepts, this one accepts as euro, with the same cents
pub euro_read_alike : EverySlipCents (λ slip c. c.told.number ≡ 0 → EveryLedgerRead (λ slip' l. slip' ≡ slip → (l.told ≡ accepted) × (l.currency ≡ 1) × (l.cents ≡ c.value)))
unfolding ledger_told amount_in
euro_read_alike κs a z w call h κs' a' z' w' call' same =
    let s = a.0.now in
    let e = (told_zero _ z.told (ap (λ (v : Valued). v.told) call ∙ cents_answer s (slip_answer s))).0 h in
    let l = plain_told Euro s z' (rw same at call') ((accepted_plainly Euro s).0 e) in
    let c = call ∙ cents_told_lem s e in
    (rw l refl, rw l refl, rw (l, c) refl)

-- and with the same fields
pub euro_fields_alike : EverySlipRead (λ slip r. r.number ≡ 0 → EverySlipField (λ slip' n part. slip' ≡ slip → EveryLedgerField (λ slip'' n' part'. slip'' ≡ slip → n' ≡ n → part' ≡ part)))
euro_fields_alike κs a z w call h κs' a' z' w' call' same κs'' a'' z'' w'' call'' same' number =
    let e = (told_zero _ z call).0 h in
    (rw (same', number) at call'') ∙ ((euro_fields a.0.now e a'.1.0).1 ∙ sym (rw same at call'))

-- what is told to be kuna the euro reader refuses with 5 at field 2
pub kuna_refused_at_2 : EveryLedgerRead (λ slip l. l.currency ≡ 2 → EverySlipRead (λ slip' r. slip' ≡ slip → r ≡ refusal (Form (record { line = 0; field = 2; byte = 9 }))))
unfolding told_of
kuna_refused_at_2 κs a z w call h κs' a' z' w' call' same =
    let s = a.0.now in
    call' ∙ (ap (λ (x : List ℕ). told_of (slip_answer x)) same ∙ ap told_of (kuna_refused s (told_plain Kuna s z call h)))

-- and the euro call for cents too: it never gives a converted number
pub kuna_no_cents : EveryLedgerRead (λ slip l. l.currency ≡ 2 → EverySlipCents (λ slip' c. slip' ≡ slip → c ≡ valued (refusal (Form (record { line = 0; field = 2; byte = 9 }))) 0))
unfolding value_told
kuna_no_cents κs a z w call h κs' a' z' w' call' same =
    let s = a.0.now in
    call' ∙ (ap (λ (x : List ℕ). value_told (slip_cents x)) same ∙ ap (λ (x : Answer). value_told (cents_from s x)) (kuna_refused s (told_plain Kuna s z call h)))

-- ---------------------------------------------------------------------------
-- Lipa in cents

-- the nearest cent
pub lipa_nearest : EveryLipaInCents (λ lipa cents. Nearest lipa cents)
lipa_nearest κs a z w call = rw call (cents_nearest a.0)

-- the only number of cents so near
pub lipa_nearest_alone : EveryLipaInCents (λ lipa cents. (other : ℕ) → Nearest lipa other → other ≡ cents)
lipa_nearest_alone κs a z w call other h = nearest_alone a.0 other z h (lipa_nearest κs a z w call)

-- never fewer cents for more lipa
pub lipa_never_falls : EveryLipaInCents (λ lipa cents. EveryLipaInCents (λ lipa' cents'. lipa ≤ lipa' → cents ≤ cents'))
lipa_never_falls κs a z w call κs' a' z' w' call' l = nearest_rises a.0 a'.0 z z' l (lipa_nearest κs a z w call) (lipa_nearest κs' a' z' w' call')

-- what is told beside a kuna slip's lipa is that number
pub ledger_converted : EveryLedgerRead (λ slip l. l.currency ≡ 2 → (l.lipa ≡ amount_of slip) × (Nearest l.lipa l.converted) × (l.cents ≡ 0))
unfolding ledger_told amount_in
ledger_converted κs a z w call h =
    let s = a.0.now in
    let l = plain_told Kuna s z call (told_plain Kuna s z call h) in
    (rw l refl, rw l (cents_nearest (amount_of s)), rw l refl)
