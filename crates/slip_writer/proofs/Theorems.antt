-- What is promised of slips written and read: what the writer writes the reader accepts, field by field; what the reader accepts is
-- written again byte for byte. Assumes nothing.
use Rattle.refusal.proofs.Basics.{◌≡◌, refl, sym, ap, ◌∙◌, arith, ℕ, zero, suc, ◌+◌, ◌-◌, ◌^◌, ◌≤◌, ◌<◌, length, get_or, drop, get_or-append, drop_of_length-le, le-leb, eqb-true, ltb-true, ltb-false, lt-ltb, le-ltb, List, [], ◌∷◌, ◌++◌, Bool, true, false, cond, eqb, leb, ltb, drop-cons, zero-add, add-zero, add-one, both_true}
use Rattle.std.specs.Prelude.{Result, Ok, Err}
use Rattle.refusal.specs.Refusal.{Answer, none}
use Rattle.refusal.specs.declared.Refusal.{Refusal}
use Rattle.verdict.specs.Verdict.{passed, answer_at}
use Rattle.verdict.proofs.Verdicts.{answer_accepted, first_both}
use Rattle.text.specs.Digits.{digits_of, value_of, digits_text}
use Rattle.text.specs.Split.{split}
use Rattle.text.specs.Bytes.{count_of, eur}
use Rattle.slip_fields.specs.declared.Currency.TheVariants.{Euro}
use Rattle.slip_fields.specs.Fields.{hrvhub30, field_verdict}
use Rattle.slip_fields.proofs.Theorems.{no_line_feed, first_is_hrvhub30, second_is_currency, third_is_digits, hrvhub30_accepted, currency_accepted, digits_accepted, before_matters_to_12_alone}
use Rattle.room.proofs.Digits.{digits_length, text_digits, number_back, value_below, digits_again}
use Rattle.slip.specs.Slip.{slip_ends, fields_answer, slip_answer_in, slip_answer, piece_of}
use Rattle.slip_handed.specs.Handed.{field_in, field_of, amount_of}
use Rattle.slip_given.specs.Given.{given_answer}
use Rattle.text.specs.Lines.{join_lines, lines_among, EachLine, none as no_line, more}
use Rattle.slip_writer.specs.Writer.{slip_text, after_fields, write_answer}
use Rattle.slip_writer.specs.Claims.{slip_fields, ReadsBack, WritesBack}
use Rattle.slip_writer.proofs.Laws.{slip_length}
use Rattle.slip_writer.proofs.Sizes.{given_first, given_size, sizes, sizes_eleven}
use Rattle.text.proofs.Lines.{split_joined, count_joined, last_joined, joined_split, lines_of_text, line_at}

-- ---------------------------------------------------------------------------
-- Fields accepted by the writer and by the reader

-- accepted fields have no line feed
given_lines : (n : ℕ) (m : List ℕ) (ps : List (List ℕ)) → given_answer n m ps ≡ Ok tt → EachLine ps
given_lines n m [] e = no_line
given_lines n m (p ∷ ps) e = let h = given_first n m p ps e in more (no_line_feed Euro n m p h.0) (given_lines (n + 1) p ps h.1)

-- an accepted field, and then accepted ones
first_given :
    (n : ℕ) (m p : List ℕ) (ps : List (List ℕ)) → field_verdict Euro n m p ≡ passed → given_answer (n + 1) p ps ≡ Ok tt → given_answer n m (p ∷ ps) ≡ Ok tt
unfolding given_answer
first_given n m p ps e g = rw (e, g)

-- what the writer accepts the reader accepts, with nothing behind the last line feed
given_read :
    (n start : ℕ) (m : List ℕ) (ps : List (List ℕ)) → given_answer n m ps ≡ Ok tt → fields_answer Euro n start m (ps ++ ([] ∷ [])) ≡ Ok tt
unfolding fields_answer
given_read n start m [] e = refl
given_read n start m (p ∷ []) e = rw (given_first n m p [] e).0
given_read n start m (p ∷ (q ∷ ps)) e = let h = given_first n m p (q ∷ ps) e in rw h.0 (given_read (n + 1) (start + length p + 1) p (q ∷ ps) h.1)

-- what the reader accepts the writer accepts
read_given : (n start : ℕ) (m : List ℕ) (ps : List (List ℕ)) → fields_answer Euro n start m ps ≡ Ok tt → given_answer n m (lines_among ps) ≡ Ok tt
unfolding fields_answer given_answer
read_given n start m [] e = refl
read_given n start m (p ∷ []) e = refl
read_given n start m (p ∷ (q ∷ ps)) e =
    let h = first_both (answer_at n start (field_verdict Euro n m p)) _ e in
    rw (answer_accepted (field_verdict Euro n m p) n _ h.0) (read_given (n + 1) (start + length p + 1) p (q ∷ ps) h.1)

-- the field before field 4 says nothing of it
given_four : (m m' : List ℕ) (ps : List (List ℕ)) → given_answer 4 m ps ≡ given_answer 4 m' ps
unfolding given_answer
given_four m m' [] = refl
given_four m m' (p ∷ ps) = rw (before_matters_to_12_alone Euro 4 m m' p (omega arith))

-- ---------------------------------------------------------------------------
-- What the writer counts

-- bytes are told of an amount of at most fifteen digits, of accepted fields, and of the slip's size
pub record Counted (cents : ℕ) (fields : List (List ℕ)) (room n : ℕ) : Type 0 where
  pub small : cents < 10 ^ 15
  pub given : given_answer 4 [] fields ≡ Ok tt
  pub size : n ≡ length (slip_text cents fields)
  pub fits : n ≤ room

pub bytes_counted : (cents : ℕ) (fields : List (List ℕ)) (room n : ℕ) → write_answer cents fields room ≡ Ok n → Counted cents fields room n
unfolding write_answer
bytes_counted cents fields room n e = small (ltb cents (10 ^ 15)) refl e
  where
    fits : cents < 10 ^ 15 → given_answer 4 [] fields ≡ Ok tt → (t : Bool) → ltb room (length (slip_text cents fields)) ≡ t → cond t (Err (Refusal.Room none (length (slip_text cents fields)))) (Ok (length (slip_text cents fields))) ≡ Ok n → Counted cents fields room n
    fits h a true g e = let z : ◌≡◌ {A = ℕ} 0 1 = cc in absurd (omega arith)
    fits h a false g e = let z : n ≡ length (slip_text cents fields) = cc in record { small = h; given = a; size = z; fits = omega (arith, ltb-false room (length (slip_text cents fields)) g) }

    given : cents < 10 ^ 15 → (a : Answer) → given_answer 4 [] fields ≡ a → after_fields a (slip_text cents fields) room ≡ Ok n → Counted cents fields room n
    given h (Ok u) g e = fits h g (ltb room (length (slip_text cents fields))) refl e
    given h (Err r) g e = let z : ◌≡◌ {A = ℕ} 0 1 = cc in absurd (omega arith)

    small : (t : Bool) → ltb cents (10 ^ 15) ≡ t → cond t (after_fields (given_answer 4 [] fields) (slip_text cents fields) room) (Err (Refusal.Length (record { line = 0; field = 3; byte = 0 }))) ≡ Ok n → Counted cents fields room n
    small true g e = given (ltb-true cents (10 ^ 15) g) (given_answer 4 [] fields) refl e
    small false g e = let z : ◌≡◌ {A = ℕ} 0 1 = cc in absurd (omega arith)

-- ---------------------------------------------------------------------------
-- What is written is accepted

-- all fields of a slip
abbrev fourteen : ℕ → List (List ℕ) → List (List ℕ)
fourteen cents fields = hrvhub30 ∷ (eur ∷ (digits_text 15 cents ∷ fields))

module _ (cents : ℕ) (fields : List (List ℕ)) (given : given_answer 4 [] fields ≡ Ok tt) (all : length fields ≡ 11) where
  -- all fourteen are accepted
  all_given : given_answer 1 [] (fourteen cents fields) ≡ Ok tt
  all_given =
      let d = digits_text 15 cents in
      first_given 1 [] hrvhub30 (eur ∷ (d ∷ fields)) (hrvhub30_accepted Euro [])
      (first_given 2 hrvhub30 eur (d ∷ fields) (currency_accepted Euro hrvhub30)
      (first_given 3 eur d fields (digits_accepted Euro eur d (text_digits 15 cents) (digits_length 15 cents)) (given_four d [] fields ∙ given)))

  -- no line feed stands in any of them
  all_lines : EachLine (fourteen cents fields)
  all_lines = given_lines 1 [] (fourteen cents fields) all_given

  -- so the slip is split into them
  slip_split : split 10 (slip_text cents fields) ≡ fourteen cents fields ++ ([] ∷ [])
  unfolding slip_text
  slip_split = split_joined all_lines

  -- "Above 483 bytes is 1"
  slip_small : length (slip_text cents fields) ≤ 483
  slip_small =
      let h : length (join_lines fields) ≤ sizes 4 11 = rw all at (given_size 4 [] fields given) in
      omega (arith, slip_length cents fields, sizes_eleven)

  -- "exactly fourteen LF with one last"
  slip_ends_lem : slip_ends (slip_text cents fields) ≡ true
  unfolding slip_text
  slip_ends_lem = rw (count_joined all_lines, all, last_joined hrvhub30 (eur ∷ (digits_text 15 cents ∷ fields)))

  slip_accepted : slip_answer (slip_text cents fields) ≡ Ok tt
  unfolding slip_answer_in
  slip_accepted = rw (le-leb (length (slip_text cents fields)) 483 slip_small, slip_ends_lem, slip_split) (given_read 1 0 [] (fourteen cents fields) all_given)

  -- its third field
  slip_digits : piece_of 2 (split 10 (slip_text cents fields)) ≡ digits_text 15 cents
  unfolding piece_of
  slip_digits = rw slip_split

  -- its fields 4 to 14
  slip_texts : (k : ℕ) → 4 ≤ k → k ≤ 14 → field_of (slip_text cents fields) k ≡ get_or fields (k - 4) []
  unfolding field_in piece_of
  slip_texts k l u =
      let e : k - 1 ≡ suc (suc (suc (k - 4))) = omega arith in
      rw (le-leb 4 k l, le-leb k 14 u, slip_accepted, slip_split, e) (get_or-append fields ([] ∷ []) [] (k - 4) (omega arith))

-- the reader accepts what the writer wrote, and reads the same amount and fields
pub written_is_accepted : (cents : ℕ) (fields : List (List ℕ)) (room n : ℕ) → length fields ≡ 11 → write_answer cents fields room ≡ Ok n → ReadsBack cents fields n
written_is_accepted cents fields room n all e =
    let w = bytes_counted cents fields room n e in
    record {
      accepted = slip_accepted cents fields w.given all;
      size = w.size;
      digits = slip_digits cents fields w.given all;
      amount = rw (slip_digits cents fields w.given all) (number_back 15 cents w.small);
      texts = slip_texts cents fields w.given all;
    }

-- ---------------------------------------------------------------------------
-- What is accepted is written again

-- of an accepted slip
record Read (s : List ℕ) : Type 0 where
  ends : slip_ends s ≡ true
  fields : fields_answer Euro 1 0 [] (split 10 s) ≡ Ok tt

slip_read : (s : List ℕ) → slip_answer s ≡ Ok tt → Read s
unfolding slip_answer_in
slip_read s e = small (leb (length s) 483) e
  where
    ends : (t : Bool) → slip_ends s ≡ t → cond t (fields_answer Euro 1 0 [] (split 10 s)) (Err (Refusal.Ends none)) ≡ Ok tt → Read s
    ends true g e = record { ends = g; fields = e }
    ends false g e = let z : ◌≡◌ {A = ℕ} 0 1 = cc in absurd (omega arith)

    small : (t : Bool) → cond t (cond (slip_ends s) (fields_answer Euro 1 0 [] (split 10 s)) (Err (Refusal.Ends none))) (Err (Refusal.Size none)) ≡ Ok tt → Read s
    small true e = ends (slip_ends s) refl e
    small false e = let z : ◌≡◌ {A = ℕ} 0 1 = cc in absurd (omega arith)

-- the values of f at k places from n on
abbrev listed : (ℕ → List ℕ) → ℕ → ℕ → List (List ℕ)
listed f n zero = []
listed f n (suc k) = f n ∷ listed f (n + 1) k

-- of a list, from a place to its end
listed_drop : (ps : List (List ℕ)) (n k : ℕ) → length ps ≡ n + k → listed (λ (i : ℕ). get_or ps i []) n k ≡ drop n ps
listed_drop ps n zero e = sym (drop_of_length-le ps {i = n} (omega arith))
listed_drop ps n (suc k) e =
    let h : n < length ps = omega arith in
    rw (drop-cons ps n [] h) (ap (λ (l : List (List ℕ)). get_or ps n [] ∷ l) (listed_drop ps (n + 1) k (omega arith) ∙ rw add-one))

-- equal values, equal lists
listed_ext : (f g : ℕ → List ℕ) (n m k : ℕ) → ((i : ℕ) → i < k → f (n + i) ≡ g (m + i)) → listed f n k ≡ listed g m k
listed_ext f g n m zero h = refl
listed_ext f g n m (suc k) h =
    let a : f n ≡ g m = rw (add-zero n, add-zero m) at (h 0 (omega arith)) in
    let rest : (i : ℕ) → i < k → f (n + 1 + i) ≡ g (m + 1 + i) =
    λ i l.
    let x : n + 1 + i ≡ n + suc i = omega arith in
    let y : m + 1 + i ≡ m + suc i = omega arith in
    rw (x, y) (h (suc i) (omega arith)) in
    rw a (ap (λ (l : List (List ℕ)). g m ∷ l) (listed_ext f g (n + 1) (m + 1) k rest))

module _ (s : List ℕ) (accepted : slip_answer s ≡ Ok tt) (ls : List (List ℕ)) (lines : lines_among (split 10 s) ≡ ls) (all : length ls ≡ 14) where
  -- a piece is a line
  piece_line : (i : ℕ) → i < 14 → piece_of i (split 10 s) ≡ get_or ls i []
  unfolding piece_of
  piece_line i h = rw (← lines) (sym (line_at (split 10 s) i (rw lines (omega arith))))

  -- a field is a line
  field_line_lem : (i : ℕ) → i < 11 → field_of s (4 + i) ≡ get_or ls (suc (suc (suc i))) []
  unfolding field_in
  field_line_lem i h =
      let e : 4 + i - 1 ≡ suc (suc (suc i)) = omega arith in
      rw (le-leb 4 (4 + i) (omega arith), le-leb (4 + i) 14 (omega arith), accepted, e) (piece_line (suc (suc (suc i))) (omega arith))

-- the lines of a slip, from its amount and its fields
slip_lines :
    (p q r s : List ℕ) (cents : ℕ) (fields : List (List ℕ)) → p ≡ hrvhub30 → q ≡ eur → digits_text 15 cents ≡ r → join_lines (p ∷ (q ∷ (r ∷ fields))) ≡ s
    → slip_text cents fields ≡ s
unfolding slip_text
slip_lines p q r s cents fields a b d w = rw d (rw (a, b) at w)

-- from the lines of an accepted slip
lines_again :
    (s : List ℕ) → slip_answer s ≡ Ok tt → (ls : List (List ℕ)) → lines_among (split 10 s) ≡ ls → length ls ≡ 14 → given_answer 1 [] ls ≡ Ok tt
    → join_lines ls ≡ s → WritesBack s
lines_again s a [] l n g w = absurd (omega arith)
lines_again s a (p ∷ []) l n g w = absurd (omega arith)
lines_again s a (p ∷ (q ∷ [])) l n g w = absurd (omega arith)
lines_again s a (p ∷ (q ∷ (r ∷ fields))) l n g w =
    let h₁ = given_first 1 [] p (q ∷ (r ∷ fields)) g in
    let h₂ = given_first 2 p q (r ∷ fields) h₁.1 in
    let h₃ = given_first 3 q r fields h₂.1 in
    let d = third_is_digits Euro q r h₃.0 in
    let amount : piece_of 2 (split 10 s) ≡ r = piece_line s a (p ∷ (q ∷ (r ∷ fields))) l n 2 (omega arith) in
    let texts : slip_fields s ≡ fields =
    listed_ext (field_of s) (λ (i : ℕ). get_or fields i []) 4 0 11 (λ i h. field_line_lem s a (p ∷ (q ∷ (r ∷ fields))) l n i h ∙ rw zero-add)
    ∙ listed_drop fields 0 11 (omega arith) in
    record {
      same = rw (amount, texts) (slip_lines p q r s (value_of (digits_of r)) fields (first_is_hrvhub30 Euro [] p h₁.0) (second_is_currency Euro p q h₂.0) (rw d.1 at (digits_again r d.0)) w);
      small = rw amount (value_below 15 r d.0 d.1);
      given = rw texts (given_four [] r fields ∙ h₃.1);
    }

-- the amount and the fields of an accepted slip are written as that slip
pub read_and_written_again : (s : List ℕ) → slip_answer s ≡ Ok tt → WritesBack s
read_and_written_again s e =
    let h = slip_read s e in
    let b = both_true (eqb (count_of 10 s) 14) (eqb (get_or s (length s - 1) 0) 10) h.ends in
    lines_again s e (lines_among (split 10 s)) refl (lines_of_text s ∙ eqb-true (count_of 10 s) 14 b.0) (read_given 1 0 [] (split 10 s) h.fields) (joined_split s (eqb-true (get_or s (length s - 1) 0) 10 b.1))

-- so the writer writes that slip wherever it has the room
pub accepted_is_written : (s : List ℕ) (room : ℕ) → slip_answer s ≡ Ok tt → length s ≤ room → write_answer (amount_of s) (slip_fields s) room ≡ Ok (length s)
unfolding write_answer
accepted_is_written s room e h =
    let w = read_and_written_again s e in
    rw (lt-ltb (amount_of s) (10 ^ 15) w.small, w.given, w.same, le-ltb room (length s) h)
