-- Document 01, "The slip's fourteen fields", last paragraph: the characters that a text permits, of one byte or of two, and their number.
use Rattle.std.specs.Prelude.{ℕ, suc, Bool, cond, not, ◌&&◌, ◌||◌, List, [], ◌∷◌, eqb, leb, ltb, length, get_or, Option, Some, None}
use Rattle.classes.specs.Classes.{is_digit, is_letter}
use Rattle.text.specs.Bytes.{later}

-- ---------------------------------------------------------------------------
-- Characters

-- "a to z"
abbrev pub is_small_letter : ℕ → Bool
is_small_letter b = leb 97 b && leb b 122

-- "space, `, . : - + ? ' / ( )`": 32, 58, 63, and of 39 to 47 all but 42
abbrev pub is_sign : ℕ → Bool
is_sign b = eqb b 32 || (eqb b 58 || (eqb b 63 || (leb 39 b && (leb b 47 && not (eqb b 42)))))

-- a character of one byte
abbrev pub is_single : ℕ → Bool
is_single b = is_digit b || (is_letter b || (is_small_letter b || is_sign b))

-- the second bytes after C4 (196): Ć, ć 86, 87; Č, č 8C, 8D; Đ, đ 90, 91
abbrev pub after_c4 : ℕ → Bool
after_c4 c = eqb c 134 || (eqb c 135 || (eqb c 140 || (eqb c 141 || (eqb c 144 || eqb c 145))))

-- and after C5 (197): Š, š A0, A1; Ž, ž BD, BE
abbrev pub after_c5 : ℕ → Bool
after_c5 c = eqb c 160 || (eqb c 161 || (eqb c 189 || eqb c 190))

-- one of the ten letters of two bytes
abbrev pub is_pair : ℕ → ℕ → Bool
is_pair b c = (eqb b 196 && after_c4 c) || (eqb b 197 && after_c5 c)

-- the byte at a place of a text, where there is one, completes a letter that b begins
abbrev pub is_completed : ℕ → List ℕ → ℕ → Bool
is_completed b s i = ltb i (length s) && is_pair b (get_or s i 0)

-- ---------------------------------------------------------------------------
-- Texts

-- "Any other byte, or a first byte without its second, is 3": the place of the first such byte
unfoldable pub first_wrong : List ℕ → Option ℕ
first_wrong [] = None
first_wrong (b ∷ []) = cond (is_single b) None (Some 0)
first_wrong (b ∷ (c ∷ s)) =
    cond (is_single b) (later (first_wrong (c ∷ s)))
    (cond (is_pair b c) (later (later (first_wrong s))) (Some 0))

-- "Lengths count characters": how many a permitted text has
unfoldable pub characters : List ℕ → ℕ
characters [] = 0
characters (b ∷ []) = 1
characters (b ∷ (c ∷ s)) = cond (is_single b) (suc (characters (c ∷ s))) (suc (characters s))
