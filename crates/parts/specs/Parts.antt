-- Document 01, "Reference models": the parts of a reference, a model's lengths, and its check groups.
use Rattle.std.specs.Prelude.{ℕ, Bool, true, false, ◌&&◌, List, [], ◌∷◌, leb, ltb, length}
use Rattle.text.specs.Bytes.{all_of}
use Rattle.text.specs.Split.{split}
use Rattle.classes.specs.declared.Class.TheVariants.{Digits}
use Rattle.models.specs.declared.Model.{Model}

-- ---------------------------------------------------------------------------
-- "Parts are digits, joined by hyphens, none empty"

-- the parts of a reference, between its hyphens, 45; an empty one has none
unfoldable pub parts_of : List ℕ → List (List ℕ)
parts_of [] = []
parts_of (b ∷ s) = split 45 (b ∷ s)

-- ---------------------------------------------------------------------------
-- Number and lengths of parts (8)

-- a part of n digits is not empty, and of a length between least and most
abbrev pub length_fits : ℕ → ℕ → ℕ → Bool
length_fits least most n = ltb 0 n && (leb least n && leb n most)

-- each part is digits, of a length that the model gives its place: least, most, least, most ..
unfoldable pub parts_fit : List ℕ → List (List ℕ) → Bool
parts_fit lengths [] = true
parts_fit [] (p ∷ ps) = false
parts_fit (least ∷ []) (p ∷ ps) = false
parts_fit (least ∷ (most ∷ lengths)) (p ∷ ps) = all_of Digits p && (length_fits least most (length p) && parts_fit lengths ps)

-- as many parts as the model asks, each of its length
unfoldable pub formed : Model → List ℕ → Bool
formed model s =
    leb model.fewest (length (parts_of s)) &&
    (leb (length (parts_of s)) model.most && parts_fit model.lengths (parts_of s))
