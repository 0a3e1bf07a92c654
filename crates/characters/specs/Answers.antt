-- What judging a text field of at most n characters answers: 3 with its byte, then 4.
use Rattle.std.specs.Prelude.{ℕ, List, leb}
use Rattle.verdict.specs.Verdict.{Verdict, only_if, and_then}
use Rattle.verdict.specs.declared.Fault.{Fault}
use Rattle.text.specs.Bytes.{found}
use Rattle.characters.specs.Characters.{first_wrong, characters}

-- "text of at most 30, 27, .. characters", each permitted
abbrev pub characters_verdict : ℕ → List ℕ → Verdict
characters_verdict most s = and_then (found (first_wrong s)) (only_if (leb (characters s) most) Fault.Length)
