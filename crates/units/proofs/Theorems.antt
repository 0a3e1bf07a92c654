-- What is promised of lipa in cents: the nearest cent is one number, it never falls as lipa rise, and no tie occurs.
-- Assumes nothing.
use Rattle.refusal.proofs.Basics.{◌≡◌, refl, arith, ℕ, ◌+◌, ◌*◌, ◌/◌, ◌%◌, ◌≤◌, ◌<◌, div-add-mod, mod-lt}
use Rattle.units.specs.Units.{distance, Nearest, lipa_in_cents}

-- ---------------------------------------------------------------------------
-- "nearest cent"

-- the only number of cents so near
pub nearest_alone : (lipa a b : ℕ) → Nearest lipa a → Nearest lipa b → a ≡ b
nearest_alone lipa a b g h = omega arith

-- never fewer cents for more lipa
pub nearest_rises : (lipa lipa' a b : ℕ) → lipa ≤ lipa' → Nearest lipa a → Nearest lipa' b → a ≤ b
nearest_rises lipa lipa' a b l g h = omega arith

-- no cent lies just half a cent away: "a tie cannot occur"
pub no_tie : (lipa a : ℕ) → 2 * distance (a * 75345) (lipa * 10000) ≡ 75345 → ⊥
no_tie lipa a e = omega arith

-- ---------------------------------------------------------------------------
-- The number that the definitions take

-- it is the nearest
pub cents_nearest : (lipa : ℕ) → Nearest lipa (lipa_in_cents lipa)
unfolding lipa_in_cents
cents_nearest lipa =
    let n = lipa * 20000 + 75345 in
    let d = div-add-mod n 150690 in
    let r : n % 150690 < 150690 = mod-lt n (omega arith) in
    omega arith

-- so whatever is the nearest is that number
pub nearest_is : (lipa a : ℕ) → Nearest lipa a → a ≡ lipa_in_cents lipa
nearest_is lipa a h = nearest_alone lipa a (lipa_in_cents lipa) h (cents_nearest lipa)

-- document 02's example, and the largest amount
pub examples : (lipa_in_cents 12355 ≡ 1640) × (lipa_in_cents 999999999999999 ≡ 132722808414626)
unfolding lipa_in_cents
examples = (refl, refl)

-- ---------------------------------------------------------------------------
-- As the code takes it: whole 75,345s first

pub taken_apart : (lipa whole rest : ℕ) → 75345 * whole + rest ≡ lipa → rest < 75345 → Nearest lipa (whole * 10000 + (rest * 20000 + 75345) / 150690)
taken_apart lipa whole rest e l =
    let n = rest * 20000 + 75345 in
    let d = div-add-mod n 150690 in
    let r : n % 150690 < 150690 = mod-lt n (omega arith) in
    omega arith
