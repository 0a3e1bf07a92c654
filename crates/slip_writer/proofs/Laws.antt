-- Laws of texts written one behind another, of fields judged one after another, and of what the writer answers. Assumes nothing.
use Rattle.refusal.proofs.Basics.{◌≡◌, refl, sym, ap, ◌∙◌, arith, ℕ, ◌+◌, ◌≤◌, ◌<◌, length, get_or, set, length-append, lt-ltb, le-ltb, List, [], ◌∷◌, ◌++◌, append_assoc}
use Rattle.std.specs.Prelude.{Result, Ok, Err, drop, take, sum_by}
use Rattle.refusal.specs.Refusal.{Answer, none}
use Rattle.refusal.specs.declared.Place.{Place}
use Rattle.refusal.specs.declared.Refusal.{Refusal}
use Rattle.refusal.specs.declared.Refusal.TheVariants.{Length, Room}
use Rattle.text.specs.Bytes.{eur}
use Rattle.text.specs.Digits.{digits_text}
use Rattle.text.specs.Stands.{Stands}
use Rattle.text.proofs.Stands.{front_stands, stands_append, stands_length}
use Rattle.slip_fields.specs.Fields.{hrvhub30}
use Rattle.room.proofs.Digits.{digits_length}
use Rattle.std.specs.Borrow.{Bor}
use Rattle.std.proofs.lemmas.List.{take-append-drop, map-append, append-nil, drop_all, drop_more, take_more}
use Rattle.std.proofs.lemmas.List.Sums.{sum_by-cons}
use Rattle.std.proofs.lemmas.List.Edits.{sets}
use Rattle.slip_given.specs.Given.{given_answer, three, texts}
use Rattle.slip_given.proofs.Laws.{nothing_lent}
use Rattle.text.specs.Lines.{join_lines}
use Rattle.slip_writer.specs.Writer.{slip_text, written_in_room, write_answer}
use Rattle.slip_writer.specs.Steps.{WritesSlip, WritesAccepted}

-- ---------------------------------------------------------------------------
-- Lines

-- the size of a line and of what follows it
pub lines_length : (p : List ℕ) (ps : List (List ℕ)) → length (join_lines (p ∷ ps)) ≡ length p + 1 + length (join_lines ps)
unfolding join_lines
lines_length p ps = length-append p (10 ∷ join_lines ps) ∙ omega arith

-- the size of three lines
pub three_length : (a b c : List ℕ) → length (join_lines (three a b c)) ≡ length a + length b + length c + 3
unfolding join_lines
three_length a b c = omega (arith, lines_length a (b ∷ (c ∷ [])), lines_length b (c ∷ []), lines_length c [])

-- the size of one
pub line_length : (s : List ℕ) → length (join_lines (s ∷ [])) ≡ length s + 1
unfolding join_lines
line_length s = lines_length s [] ∙ omega arith

-- lines in front of lines
pub lines_append : (ps qs : List (List ℕ)) → join_lines (ps ++ qs) ≡ join_lines ps ++ join_lines qs
unfolding join_lines
lines_append [] qs = refl
lines_append (p ∷ ps) qs = rw (lines_append ps qs, append_assoc)

-- a text and then a line feed
pub line_stands : {b after s : List ℕ} {at n : ℕ} → Stands b at s n after → Stands b at (join_lines (s ∷ [])) (n + 1) (set after n 10)
unfolding join_lines
line_stands w = stands_append w (record { counted = refl; content = refl })

-- lines behind lines
pub lines_stand :
    (ps qs : List (List ℕ)) {b b₁ b₂ : List ℕ} {at n₁ n₂ : ℕ} → Stands b at (join_lines ps) n₁ b₁ → Stands b₁ n₁ (join_lines qs) n₂ b₂
    → Stands b at (join_lines (ps ++ qs)) n₂ b₂
lines_stand ps qs v w = rw (lines_append ps qs) (stands_append v w)

-- both sizes
both_length : (ps qs : List (List ℕ)) → length (join_lines (ps ++ qs)) ≡ length (join_lines ps) + length (join_lines qs)
both_length ps qs = rw (lines_append ps qs) (length-append (join_lines ps) (join_lines qs))

-- room for lines and more is room for the lines
pub room_first : (ps qs : List (List ℕ)) (at room : ℕ) → at + length (join_lines (ps ++ qs)) ≤ room → at + length (join_lines ps) ≤ room
room_first ps qs at room h = omega (arith, both_length ps qs)

-- and then for the rest
pub room_next :
    (ps qs : List (List ℕ)) {b after : List ℕ} {at next : ℕ} → at + length (join_lines (ps ++ qs)) ≤ length b → Stands b at (join_lines ps) next after
    → next + length (join_lines qs) ≤ length after
room_next ps qs h w = omega (arith, both_length ps qs, w.counted, stands_length w)

-- room for a line is room for a byte behind its text
pub room_feed : (s : List ℕ) {b after : List ℕ} {at next : ℕ} → at + length (join_lines (s ∷ [])) ≤ length b → Stands b at s next after → next < length after
room_feed s h w = omega (arith, line_length s, w.counted, stands_length w)

-- the lent lines up to place i, then the line there, then those behind it
module _ (lines : List (Bor (List ℕ))) (i : ℕ) (h : i < length lines) where
  abbrev pub this : List ℕ
  this = (get_or lines i nothing_lent).now

  lines_split : texts lines ≡ texts (take i lines) ++ (this ∷ texts (drop (i + 1) lines))
  lines_split = sym (ap texts (take-append-drop i lines)) ∙ map-append _ _ _ ∙ ap (λ ls. texts (take i lines) ++ texts ls) (drop_more lines i nothing_lent h)

  -- there is room for the line there
  pub room_there : {b after : List ℕ} {at next : ℕ} → at + length (join_lines (texts lines)) ≤ length b → Stands b at (join_lines (texts (take i lines))) next after → next + length (join_lines (this ∷ [])) ≤ length after
  room_there r w = room_first (this ∷ []) (texts (drop (i + 1) lines)) _ _ (room_next (texts (take i lines)) (this ∷ texts (drop (i + 1) lines)) (rw lines_split at r) w)

  -- behind the lines up to there stands the line there
  pub lines_more : {b b₁ b₂ : List ℕ} {at n₁ n₂ : ℕ} → Stands b at (join_lines (texts (take i lines))) n₁ b₁ → Stands b₁ n₁ (join_lines (this ∷ [])) n₂ b₂ → Stands b at (join_lines (texts (take (i + 1) lines))) n₂ b₂
  lines_more v w = rw (take_more lines i nothing_lent h, map-append) (lines_stand (texts (take i lines)) (this ∷ []) v w)

-- the size of lent lines is the sum of theirs
pub lines_sum : (lines : List (Bor (List ℕ))) → length (join_lines (texts lines)) ≡ sum_by (λ s. length s.now + 1) lines
unfolding join_lines
lines_sum [] = refl
lines_sum (p ∷ ps) = lines_length p.now (texts ps) ∙ rw (lines_sum ps, sum_by-cons)

-- ---------------------------------------------------------------------------
-- The slip in two parts: its head, and its fields

-- the fields 1 to 3
abbrev pub head_of : ℕ → List (List ℕ)
head_of cents = three hrvhub30 eur (digits_text 15 cents)

-- the amount, put into fifteen bytes
pub amount_digits : (cents : ℕ) (b : List ℕ) {s : List ℕ} → length b ≡ 15 → s ≡ sets b 0 (digits_text 15 cents) → s ≡ digits_text 15 cents
amount_digits cents b {s} h e =
    let n = digits_length 15 cents in
    front_stands b s (digits_text 15 cents) _ (record { counted = refl; content = e }) (omega (arith, n, h)) ∙ rw (drop_all (length (digits_text 15 cents)) b (omega (arith, n, h)), append-nil)

-- their size
pub head_length : (cents : ℕ) → length (join_lines (head_of cents)) ≡ 29
head_length cents = three_length hrvhub30 eur (digits_text 15 cents) ∙ omega (arith, digits_length 15 cents)

-- the size of a slip
pub slip_length : (cents : ℕ) (ps : List (List ℕ)) → length (slip_text cents ps) ≡ 29 + length (join_lines ps)
unfolding slip_text
slip_length cents ps = omega (arith, both_length (head_of cents) ps, head_length cents)

module _ (cents : ℕ) (ps : List (List ℕ)) where
  -- room for the slip
  pub slip_room : (room : ℕ) → 29 + length (join_lines ps) ≤ room → 0 + length (join_lines (head_of cents ++ ps)) ≤ room
  slip_room room h = omega (arith, both_length (head_of cents) ps, head_length cents)

  -- the slip stands at the front
  pub slip_stands : {b b₁ b₂ : List ℕ} {n₁ n₂ : ℕ} → Stands b 0 (join_lines (head_of cents)) n₁ b₁ → Stands b₁ n₁ (join_lines ps) n₂ b₂ → Stands b 0 (slip_text cents ps) n₂ b₂
  unfolding slip_text
  slip_stands v w = lines_stand (head_of cents) ps v w

-- more than there is room for: refused
pub room_refused :
    (s : List ℕ) (room n : ℕ) (place : Place) → n ≡ length s → room < n → place ≡ none → Err (Room place n) ≡ written_in_room s room
room_refused s room n place e h g = rw (lt-ltb room (length s) (omega arith), e, g)

-- there is room: counted
pub room_counted : (s : List ℕ) (room n : ℕ) → n ≡ length s → n ≤ room → Ok n ≡ written_in_room s room
room_counted s room n e h = rw (le-ltb room (length s) (omega arith), e)

-- ---------------------------------------------------------------------------
-- What the writer answers

module _ (cents : ℕ) (fields : List (List ℕ)) (out : List ℕ) where
  -- an amount of more than fifteen digits
  pub amount_refused : 1000000000000000 ≤ cents → WritesSlip cents fields out (Err (Length (record { line = 0; field = 3; byte = 0 }))) out
  unfolding write_answer
  amount_refused h = (rw (le-ltb cents 1000000000000000 h), refl)

  module _ {x : Answer} (h : cents < 1000000000000000) (e : x ≡ given_answer 4 [] fields) where
    -- a field refused
    pub field_refused : (r : Refusal) → x ≡ Err r → WritesSlip cents fields out (Err r) out
    unfolding write_answer
    field_refused r g = (rw (lt-ltb cents 1000000000000000 h, sym e ∙ g), refl)

    -- all fields accepted
    pub fields_accepted : (r : Result ℕ Refusal) (after : List ℕ) → x ≡ Ok tt → WritesAccepted cents fields out r after → WritesSlip cents fields out r after
    unfolding write_answer
    fields_accepted r after g w = (rw (lt-ltb cents 1000000000000000 h, sym e ∙ g) w.0, w.1)
