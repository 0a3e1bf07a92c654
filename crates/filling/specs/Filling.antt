-- Document 01, "Wet slips": a text filled by a number, and what filling it answers and leaves in the lent slice.
use Rattle.std.specs.Prelude.{ℕ, ◌+◌, ◌/◌, ◌%◌, ◌^◌, cond, List, [], ◌∷◌, ◌++◌, eqb, ltb, length, drop, Ok, Err}
use Rattle.refusal.specs.Refusal.{Answer, none}
use Rattle.refusal.specs.declared.Refusal.TheVariants.{Room}
use Rattle.text.specs.Bytes.{marks}

-- "Read left to right, the digits filled in form a number of as many digits": the mark that m marks follow gets the digit of k that
-- counts 10 to the m; `?` is 63, `0` is 48
unfoldable pub fill : List ℕ → ℕ → List ℕ
fill [] k = []
fill (b ∷ s) k = cond (eqb b 63) (48 + (k / 10 ^ marks s) % 10) b ∷ fill s k

-- a filled text needs the room of the text
abbrev pub filled_answer : List ℕ → ℕ → Answer
filled_answer s room = cond (ltb room (length s)) (Err (Room none (length s))) (Ok tt)

-- it stands at the front, the bytes beyond it as they were
abbrev pub filled_by : Answer → List ℕ → ℕ → List ℕ → List ℕ
filled_by (Ok u) s k out = fill s k ++ drop (length s) out
filled_by (Err r) s k out = out
