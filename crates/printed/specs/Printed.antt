-- What the programs print: words, numbers in decimal digits, and a refusal with its place.
use Rattle.std.specs.Prelude.{ℕ, zero, suc, ◌+◌, ◌/◌, ◌≡◌, cond, List, [], ◌∷◌, ◌++◌, ltb, length}
use Rattle.refusal.specs.Basics.{spelt}
use Rattle.std.proofs.lemmas.List.Edits.{sets}
use Rattle.text.specs.Digits.{digits_text}
use Rattle.refusal.specs.declared.Place.{Place}
use Rattle.refusal.specs.declared.Refusal.{Refusal}
use Rattle.refusal.specs.Refusal.{refusal_number, refusal_place}

-- ---------------------------------------------------------------------------
-- Numbers

-- how many decimal digits a number has, at most so many
unfoldable pub width_in : ℕ → ℕ → ℕ
width_in zero n = 0
width_in (suc most) n = cond (ltb n 10) 1 (suc (width_in most (n / 10)))

-- a number in decimal digits, no zero in front; one of 64 bits has at most twenty
unfoldable pub decimal : ℕ → List ℕ
decimal n = digits_text (width_in 20 n) n

-- a word, and a number behind it
abbrev pub counted : List ℕ → ℕ → List ℕ
counted word n = word ++ decimal n

-- ---------------------------------------------------------------------------
-- A refusal

-- in front of the number
abbrev pub refused_word : List ℕ
refused_word = spelt "refused "

-- in front of each number of its place
abbrev pub line_word : List ℕ
line_word = spelt " line "

abbrev pub field_word : List ℕ
field_word = spelt " field "

abbrev pub byte_word : List ℕ
byte_word = spelt " byte "

-- ` line 0 field 12 byte 0`, and a line feed
unfoldable pub place_text : Place → List ℕ
place_text p = counted line_word p.line ++ (counted field_word p.field ++ (counted byte_word p.byte ++ (10 ∷ [])))

-- `refused 9 line 0 field 12 byte 0`, and a line feed
unfoldable pub refused_text : Refusal → List ℕ
refused_text r = counted refused_word (refusal_number r) ++ place_text (refusal_place r)

-- ---------------------------------------------------------------------------
-- Claims

-- where a text ends that is put at a place: no later than the room
abbrev pub end_in : ℕ → ℕ → List ℕ → ℕ
end_in room at s = cond (ltb room (at + length s)) room (at + length s)

-- a text is put into lent room, at a place, as far as there is room; the answer is the place behind it
pub record Puts (s : List ℕ) (at : ℕ) (out : List ℕ) (r : ℕ) (after : List ℕ) : Type 0 where
  pub answers : r ≡ end_in (length out) at s
  pub leaves : after ≡ sets out at s
