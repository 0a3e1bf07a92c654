-- A reference's shape: where its hyphens are, and that all else is digits. Whether a text is formed, and where its parts end, depends on its
-- shape alone: what is found of one filling of a wet text holds of all.
-- Assumes nothing.
use Rattle.refusal.proofs.Basics.{◌≡◌, refl, sym, ap, ◌∙◌, arith, ℕ, suc, ◌+◌, length, ne_eqb, List, [], ◌∷◌, Bool, true, false, cond, eqb}
use Rattle.classes.specs.Classes.{is_digit}
use Rattle.text.specs.Bytes.{all_of}
use Rattle.classes.specs.declared.Class.TheVariants.{Digits}
use Rattle.text.specs.Split.{longer, split}
use Rattle.classes.proofs.Laws.{digit_bounds}
use Rattle.models.specs.declared.Model.{Model}
use Rattle.parts.specs.Parts.{parts_of, parts_fit, formed}
use Rattle.parts.specs.Mirror.{ends_from, parts_found}

-- ---------------------------------------------------------------------------
-- The shape

-- each digit as `0`, all else as it is
abbrev pub shape_byte : ℕ → ℕ
shape_byte b = cond (is_digit b) 48 b

unfoldable pub shape_of : List ℕ → List ℕ
shape_of [] = []
shape_of (b ∷ s) = shape_byte b ∷ shape_of s

unfoldable shapes_of : List (List ℕ) → List (List ℕ)
shapes_of [] = []
shapes_of (p ∷ ps) = shape_of p ∷ shapes_of ps

-- ---------------------------------------------------------------------------
-- What the shape keeps

shape_length : (s : List ℕ) → length (shape_of s) ≡ length s
unfolding shape_of
shape_length [] = refl
shape_length (b ∷ s) = ap suc (shape_length s)

-- a digit is no hyphen
shape_hyphen : (b : ℕ) → eqb (shape_byte b) 45 ≡ eqb b 45
shape_hyphen b = go (is_digit b) refl
  where
    go : (t : Bool) → is_digit b ≡ t → eqb (cond t 48 b) 45 ≡ eqb b 45
    go true e = let h = digit_bounds b e in sym (ne_eqb b 45 (λ (z : b ≡ 45). omega arith))
    go false e = refl

shape_digit : (b : ℕ) → is_digit (shape_byte b) ≡ is_digit b
shape_digit b = go (is_digit b) refl
  where
    go : (t : Bool) → is_digit b ≡ t → is_digit (cond t 48 b) ≡ is_digit b
    go true e = sym e
    go false e = refl

shape_digits : (s : List ℕ) → all_of Digits (shape_of s) ≡ all_of Digits s
unfolding shape_of all_of
shape_digits [] = refl
shape_digits (b ∷ s) = rw (shape_digit b, shape_digits s)

shapes_length : (ps : List (List ℕ)) → length (shapes_of ps) ≡ length ps
unfolding shapes_of
shapes_length [] = refl
shapes_length (p ∷ ps) = ap suc (shapes_length ps)

shapes_longer : (b : ℕ) (ps : List (List ℕ)) → longer (shape_byte b) (shapes_of ps) ≡ shapes_of (longer b ps)
unfolding shapes_of shape_of
shapes_longer b [] = refl
shapes_longer b (p ∷ ps) = refl

-- the parts of the shape are the shapes of the parts
shape_split : (s : List ℕ) → split 45 (shape_of s) ≡ shapes_of (split 45 s)
unfolding shape_of shapes_of split
shape_split [] = refl
shape_split (b ∷ s) = rw (shape_hyphen b, shape_split s) (go (eqb b 45))
  where
    go : (h : Bool) → cond h ([] ∷ shapes_of (split 45 s)) (longer (shape_byte b) (shapes_of (split 45 s))) ≡ shapes_of (cond h ([] ∷ split 45 s) (longer b (split 45 s)))
    go true = refl
    go false = shapes_longer b (split 45 s)

shape_parts : (s : List ℕ) → parts_of (shape_of s) ≡ shapes_of (parts_of s)
unfolding shape_of shapes_of parts_of
shape_parts [] = refl
shape_parts (b ∷ s) = shape_split (b ∷ s)

shapes_fit : (lengths : List ℕ) (ps : List (List ℕ)) → parts_fit lengths (shapes_of ps) ≡ parts_fit lengths ps
unfolding shapes_of parts_fit
shapes_fit lengths [] = refl
shapes_fit [] (p ∷ ps) = refl
shapes_fit (l ∷ []) (p ∷ ps) = refl
shapes_fit (l ∷ (m ∷ ls)) (p ∷ ps) = rw (shape_digits p, shape_length p, shapes_fit ls ps)

-- a text is formed where its shape is
shape_formed : (model : Model) (s : List ℕ) → formed model (shape_of s) ≡ formed model s
unfolding formed
shape_formed model s = rw (shape_parts s, shapes_length (parts_of s), shapes_fit model.lengths (parts_of s))

-- and its parts end where those of its shape do
shapes_end : (at : ℕ) (ps : List (List ℕ)) → ends_from at (shapes_of ps) ≡ ends_from at ps
unfolding shapes_of ends_from
shapes_end at [] = refl
shapes_end at (p ∷ ps) = rw (shape_length p, shapes_end (at + length p + 1) ps)

-- so in texts of one shape the same is found
pub same_shape_found : (model : Model) (s t : List ℕ) → shape_of s ≡ shape_of t → parts_found model s ≡ parts_found model t
same_shape_found model s t e = sym (found s) ∙ ap (parts_found model) e ∙ found t
  where
    found : (s : List ℕ) → parts_found model (shape_of s) ≡ parts_found model s
    found s = rw (shape_formed model s, shape_parts s, shapes_end 0 (parts_of s))
