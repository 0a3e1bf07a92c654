-- A word as a text. The other words of the definitions (numbers, truth values, lists, equality) are the library's own.
use Prim.Native.Char.{code}
use Prim.Native.String.{String, [] as done, ◌∷◌ as ◌before◌}
use Rattle.std.specs.Prelude.{ℕ, List, [], ◌∷◌}

-- a word as a text: the number of each of its letters, which for a letter of ASCII is its byte
abbrev pub spelt : String → List ℕ
spelt done = []
spelt (c before s) = code c ∷ spelt s
