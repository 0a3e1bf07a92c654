-- The same of a kept line: what was seen of it, and the bytes kept of its two sides (the crate `line`). proofs/Theorems.antt says that the line
-- as it was kept has the whole line's answer.
use Rattle.std.specs.Prelude.{ℕ, cond, List, take, Result, Err}
use Rattle.refusal.specs.declared.Refusal.{Refusal}
use Rattle.refusal.specs.Refusal.{none}
use Rattle.refusal.specs.declared.Refusal.TheVariants.{Size}
use Rattle.line.specs.declared.Seen.{Seen}
use Rattle.account.specs.Answers.{is_iban}
use Rattle.fillings.specs.Fillings.{fillings}
use Rattle.wet.specs.Wet.{iban_listing, reference_listing, reference_fillings}

-- what is answered
unfoldable pub kept_listing : Seen → List ℕ → List ℕ → ℕ → Result ℕ Refusal
kept_listing seen head tail room =
    cond seen.ended
    (cond seen.spaced (reference_listing (take seen.head head) (take seen.tail tail) room) (iban_listing (take seen.head head) room))
    (Err (Size none))

-- the numbers of its fillings
unfoldable pub kept_fillings : Seen → List ℕ → List ℕ → List ℕ
kept_fillings seen head tail =
    cond seen.spaced (reference_fillings (take seen.head head) (take seen.tail tail)) (fillings is_iban (take seen.head head))

-- the text that they fill
unfoldable pub kept_text : Seen → List ℕ → List ℕ → List ℕ
kept_text seen head tail = cond seen.spaced (take seen.tail tail) (take seen.head head)
