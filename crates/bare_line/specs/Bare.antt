-- Document 01, "The wage file", the writer: "It puts blanks in places not read (zeros in 540–542)".
use Rattle.std.specs.Prelude.{ℕ, List, [], ◌∷◌, replicate}
use Rattle.refusal.specs.Basics.{spelt}
use Rattle.std.proofs.lemmas.List.Edits.{sets}
use Rattle.wage_places.specs.declared.LineType.{LineType}
use Rattle.wage_places.specs.declared.LineType.TheVariants.{Label, Group, Order, Closing}
use Rattle.wage_line.specs.Line.{type_text}

-- what stands at 540 to 542: zeros in a 309
abbrev pub bank_zeros : LineType → List ℕ
bank_zeros Label = []
bank_zeros Group = []
bank_zeros Order = spelt "000"
bank_zeros Closing = []

-- a line with its type, its CR LF, and what the writer puts in places not read
abbrev pub dressed : LineType → List ℕ → List ℕ
dressed t s = sets (sets (sets s 539 (bank_zeros t)) 997 (type_text t)) 1000 (13 ∷ (10 ∷ []))

-- 1,002 bytes, blanks but for that
unfoldable pub bare_line : LineType → List ℕ
bare_line t = dressed t (replicate 1002 32)
