-- The first byte of a text that a field does not permit, and what else is asked of its bytes.
use Rattle.std.specs.Prelude.{ℕ, suc, Bool, true, cond, ◌&&◌, List, [], ◌∷◌, eqb, Option, Some, None}
use Rattle.std.specs.Str.{bytes_eq}
use Rattle.refusal.specs.Basics.{spelt}
use Rattle.verdict.specs.Verdict.{Verdict, passed, wrong_at}
use Rattle.classes.specs.declared.Class.{Class}
use Rattle.classes.specs.declared.Class.TheVariants.{Blanks}
use Rattle.classes.specs.Classes.{permits}

-- ---------------------------------------------------------------------------
-- "For 3, byte is the first offending byte"

-- one place further on
abbrev pub later : Option ℕ → Option ℕ
later (Some i) = Some (suc i)
later None = None

-- the place of the first byte that the class does not permit
unfoldable pub first_bad : Class → List ℕ → Option ℕ
first_bad k [] = None
first_bad k (b ∷ s) = cond (permits k b) (later (first_bad k s)) (Some 0)

-- 3 with its byte, where a scan found one
abbrev pub found : Option ℕ → Verdict
found (Some i) = wrong_at i
found None = passed

-- 3 with its byte, unless a class permits all
unfoldable pub bytes_verdict : Class → List ℕ → Verdict
bytes_verdict k s = found (first_bad k s)

-- every byte is permitted
unfoldable pub all_of : Class → List ℕ → Bool
all_of k [] = true
all_of k (b ∷ s) = permits k b && all_of k s

-- ---------------------------------------------------------------------------
-- Blanks

-- "Trailing blanks end a reference": a text without the blanks at its end
unfoldable pub trimmed : List ℕ → List ℕ
trimmed [] = []
trimmed (b ∷ s) = cond (all_of Blanks (b ∷ s)) [] (b ∷ trimmed s)

-- ---------------------------------------------------------------------------
-- How often a byte stands in a text

unfoldable pub count_of : ℕ → List ℕ → ℕ
count_of c [] = 0
count_of c (b ∷ s) = cond (eqb b c) (suc (count_of c s)) (count_of c s)

-- "`?` marks an unreadable digit"; `?` is 63
abbrev pub marks : List ℕ → ℕ
marks s = count_of 63 s

-- ---------------------------------------------------------------------------
-- Words

-- the same bytes
abbrev pub same : List ℕ → List ℕ → Bool
same s t = bytes_eq s t

-- the currency
abbrev pub eur : List ℕ
eur = spelt "EUR"
