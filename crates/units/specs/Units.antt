-- Document 02, W1: "Show a kuna amount also in cents at the fixed 7.53450, nearest cent".
use Rattle.std.specs.Prelude.{ℕ, ◌+◌, ◌-◌, ◌*◌, ◌/◌, ◌<◌}

-- how far two numbers are apart
abbrev pub distance : ℕ → ℕ → ℕ
distance a b = (a - b) + (b - a)

-- so many cents are the nearest to so many lipa: they lie less than half a cent apart. In ten-thousandths of a lipa, of which a lipa has 10,000
-- and a cent 75,345, twice their distance is below a cent
abbrev pub Nearest : ℕ → ℕ → Type 0
Nearest lipa cents = 2 * distance (cents * 75345) (lipa * 10000) < 75345

-- that number of cents: half a cent more, divided by a cent, both doubled so that they are whole
unfoldable pub lipa_in_cents : ℕ → ℕ
lipa_in_cents lipa = (lipa * 20000 + 75345) / 150690
