-- How fields are lent to a writer: one behind the other in one text, with the size of each. "Each field is the bytes of its positions".
use Rattle.std.specs.Prelude.{ℕ, ◌+◌, ◌-◌, ◌≤◌, ◌≡◌, Bool, cond, List, [], ◌∷◌, eqb, ltb, length, get_or, take, drop, Err}
use Rattle.refusal.specs.Refusal.{Answer, none}
use Rattle.refusal.specs.declared.Refusal.TheVariants.{Size}

-- the fields: a size that runs past the text's end gives a shorter field
unfoldable pub fields_of : List ℕ → List ℕ → List (List ℕ)
fields_of [] text = []
fields_of (n ∷ ns) text = take n text ∷ fields_of ns (drop n text)

-- a field of these, counted from 0; one that is not there is empty
unfoldable pub given_of : List ℕ → List ℕ → ℕ → List ℕ
given_of sizes text k = get_or (fields_of sizes text) k []

-- the text behind some fields
unfoldable pub behind : List ℕ → List ℕ → List ℕ
behind [] text = text
behind (n ∷ ns) text = behind ns (drop n text)

-- where a field of a size ends that begins at a place: no later than the text
abbrev pub field_end : List ℕ → ℕ → ℕ → ℕ
field_end text at size = cond (ltb (length text) at) (length text) (cond (ltb (length text - at) size) (length text) (at + size))

-- how many bytes some sizes make
unfoldable pub together : List ℕ → ℕ
together [] = 0
together (n ∷ ns) = n + together ns

-- the sizes of so many fields are together the text's: no byte is missing, and none is left over
unfoldable pub lent_whole : ℕ → List ℕ → List ℕ → Bool
lent_whole fields sizes text = eqb (together (take fields sizes)) (length text)

-- "1": the sizes of so many fields are not the text's
abbrev pub for_sizes : ℕ → List ℕ → List ℕ → Answer → Answer
for_sizes fields sizes text rest = cond (lent_whole fields sizes text) rest (Err (Size none))

-- ---------------------------------------------------------------------------
-- Claims

-- what is claimed of that end, where the field begins in the text
pub record FieldEnd (text : List ℕ) (at size end : ℕ) : Type 0 where
  pub begins : at ≤ end
  pub within : end ≤ length text
  pub field : take (end - at) (drop at text) ≡ take size (drop at text)
  pub rest : drop end text ≡ drop size (drop at text)
