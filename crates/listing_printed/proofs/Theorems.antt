-- What the listing program prints of a line of any length: the first 22 bytes before its first space and the first 23 after it (the crate
-- `line` keeps just these) are answered as the whole line is, and fill to the same texts where the answer is a count; and the rooms
-- that the program lends hold its lines. Assumes nothing.
use Rattle.refusal.proofs.Basics.{◌≡◌, refl, sym, ap, ◌∙◌, arith, ℕ, ◌≤◌, ◌<◌, length, take, length-take, ne_eqb, leb-true, leb-false, lt-leb, le-ltb, List, [], ◌∷◌, ◌++◌, append_assoc, Bool, true, false, cond, leb, take_all}
use Rattle.std.specs.Prelude.{Result, Ok, Err}
use Rattle.refusal.specs.declared.Refusal.{Refusal}
use Rattle.refusal.specs.Refusal.{none, refusal_number}
use Rattle.refusal.specs.declared.Refusal.TheVariants.{Size}
use Rattle.line.specs.Line.{has, line_of, head_of, tail_of}
use Rattle.line.specs.Mirror.{Kept, starting, kept_of, feed}
use Rattle.line.proofs.Theorems.{LineKept, line_is_kept}
use Rattle.account.specs.Answers.{is_iban}
use Rattle.model_text.specs.Texts.{model_number}
use Rattle.filling.specs.Filling.{fill}
use Rattle.filling.proofs.Theorems.{fill_length}
use Rattle.fillings.specs.Fillings.{fillings}
use Rattle.wet.specs.Wet.{iban_listing, reference_listing, reference_fillings}
use Rattle.printed.specs.Printed.{decimal, counted, refused_word, Puts}
use Rattle.printed.proofs.Theorems.{printed_whole, decimal_at_most, both_at_most, counted_at_most}
use Rattle.listing_printed.specs.Listing.{line_listing, line_fillings, wet_text, fillings_word, first_line, filled_line, filled_lines, line_in_room, answer_printed, listing_printed}
use Rattle.listing_printed.specs.Mirror.{kept_listing, kept_fillings, kept_text}
use Rattle.listing_printed.proofs.Laws.{line_count}

-- a test decided, one way or the other
cases : {P : Type 0} (b : Bool) → (b ≡ true → P) → (b ≡ false → P) → P
cases true f g = f refl
cases false f g = g refl

-- ---------------------------------------------------------------------------
-- The two sides of a line, cut

-- a cut text is the text, or is as long as the cut
module _ (n : ℕ) (s : List ℕ) where
  kept_whole : length s ≤ n → take n s ≡ s
  kept_whole h = take_all n s h

  cut_length : n < length s → length (take n s) ≡ n
  cut_length h = length-take n s ∙ omega arith

-- an IBAN longer than 22 bytes is refused for its size, and so are its first 22
pub iban_kept : (s : List ℕ) (room : ℕ) → iban_listing (take 22 s) room ≡ iban_listing s room
iban_kept s room =
    cases (leb (length s) 22)
    (λ e. ap (λ (t : List ℕ). iban_listing t room) (kept_whole 22 s (leb-true (length s) 22 e)))
    (λ e. let h : 22 < length s = leb-false (length s) 22 e in
    rw (ne_eqb (length (take 22 s)) 21 (λ (z : length (take 22 s) ≡ 21). omega (arith, cut_length 22 s h)), ne_eqb (length s) 21 (λ (z : length s ≡ 21). omega arith)))

-- a model's text longer than 22 bytes is no model's, and so are its first 22
model_kept : (m : List ℕ) → model_number (take 22 m) ≡ model_number m
model_kept m =
    cases (leb (length m) 22)
    (λ e. ap model_number (kept_whole 22 m (leb-true (length m) 22 e)))
    (λ e. let h : 22 < length m = leb-false (length m) 22 e in
    rw (ne_eqb (length (take 22 m)) 4 (λ (z : length (take 22 m) ≡ 4). omega (arith, cut_length 22 m h)), ne_eqb (length m) 4 (λ (z : length m ≡ 4). omega arith)))

-- a reference longer than 23 bytes is refused for its size, and so are its first 23
pub reference_kept : (m s : List ℕ) (room : ℕ) → reference_listing (take 22 m) (take 23 s) room ≡ reference_listing m s room
reference_kept m s room =
    rw (model_kept m)
    (cases (leb (length s) 23)
    (λ e. ap (λ (t : List ℕ). reference_listing m t room) (kept_whole 23 s (leb-true (length s) 23 e)))
    (λ e. let h : 23 < length s = leb-false (length s) 23 e in
    rw (lt-leb (length (take 23 s)) 22 (omega (arith, cut_length 23 s h)), lt-leb (length s) 22 (omega arith))))

-- ---------------------------------------------------------------------------
-- A line as it was kept

-- its two sides, cut, have the line's answer
sides_kept : (ended spaced : Bool) (h t : List ℕ) (room : ℕ) →
    cond ended (cond spaced (reference_listing (take 22 h) (take 23 t) room) (iban_listing (take 22 h) room)) (Err (Size none)) ≡
    cond ended (cond spaced (reference_listing h t room) (iban_listing h room)) (Err (Size none))
sides_kept true true h t room = reference_kept h t room
sides_kept true false h t room = iban_kept h room
sides_kept false spaced h t room = refl

-- the text that is filled is not cut
text_kept : (spaced : Bool) (h t : List ℕ) → length (cond spaced t h) ≤ 22 →
    (cond spaced (reference_fillings (take 22 h) (take 23 t)) (fillings is_iban (take 22 h)) ≡ cond spaced (reference_fillings h t) (fillings is_iban h)) × (cond spaced (take 23 t) (take 22 h) ≡ cond spaced t h)
text_kept true h t l = (rw (model_kept h, kept_whole 23 t (omega arith)), kept_whole 23 t (omega arith))
text_kept false h t l = (rw (kept_whole 22 h l), kept_whole 22 h l)

-- k is answered as s is; where that is a count, its numbers and its text are those of s, and so it prints what s does
pub record AnsweredAs (s : List ℕ) (k : Kept) : Type 0 where
  pub answer : (room : ℕ) → kept_listing k.seen k.head k.tail room ≡ line_listing s room
  pub numbers : (room n : ℕ) → line_listing s room ≡ Ok n → kept_fillings k.seen k.head k.tail ≡ line_fillings s
  pub text : (room n : ℕ) → line_listing s room ≡ Ok n → kept_text k.seen k.head k.tail ≡ wet_text s
  pub output : answer_printed (kept_listing k.seen k.head k.tail 10000) (kept_text k.seen k.head k.tail) (kept_fillings k.seen k.head k.tail) ≡ listing_printed s

module _ (s : List ℕ) (k : Kept) (z : LineKept 22 23 s k) where
  same_answer : (room : ℕ) → kept_listing k.seen k.head k.tail room ≡ line_listing s room
  unfolding kept_listing line_listing
  same_answer room = rw (z.head, z.tail, z.spaced, z.ended) (sides_kept (has 10 s) (has 32 (line_of s)) (head_of s) (tail_of s) room)

  same_text : (room n : ℕ) → line_listing s room ≡ Ok n → (kept_fillings k.seen k.head k.tail ≡ line_fillings s) × (kept_text k.seen k.head k.tail ≡ wet_text s)
  unfolding line_listing kept_fillings line_fillings kept_text wet_text
  same_text room n e =
      rw (z.head, z.tail, z.spaced)
      (text_kept (has 32 (line_of s)) (head_of s) (tail_of s) (line_count (has 10 s) (has 32 (line_of s)) (head_of s) (tail_of s) room n e).0)

  same_output : (r : Result ℕ Refusal) → line_listing s 10000 ≡ r → answer_printed r (kept_text k.seen k.head k.tail) (kept_fillings k.seen k.head k.tail) ≡ answer_printed r (wet_text s) (line_fillings s)
  unfolding answer_printed
  same_output (Ok n) e = let w = same_text 10000 n e in rw (w.0, w.1)
  same_output (Err r) e = refl

-- every input is answered by what is kept of it, over any two arrays of 22 and of 23 bytes
pub line_answered : (s head₀ tail₀ : List ℕ) → length head₀ ≡ 22 → length tail₀ ≡ 23 → AnsweredAs s (feed (kept_of starting head₀ tail₀) s)
line_answered s head₀ tail₀ g h =
    let k = feed (kept_of starting head₀ tail₀) s in
    let z = line_is_kept 22 23 s head₀ tail₀ g h in
    record {
      answer = same_answer s k z;
      numbers = λ room n e. (same_text s k z room n e).0;
      text = λ room n e. (same_text s k z room n e).1;
      output =
          ap (λ (r : Result ℕ Refusal). answer_printed r (kept_text k.seen k.head k.tail) (kept_fillings k.seen k.head k.tail)) (same_answer s k z 10000) ∙
          same_output s k z (line_listing s 10000) refl;
    }

-- ---------------------------------------------------------------------------
-- The rooms that the program lends

-- a first line has at most 30 bytes
first_at_most : (r : Result ℕ Refusal) → length (first_line r) ≤ 30
unfolding first_line
first_at_most (Ok n) = both_at_most (decimal n) fillings_word 20 10 (decimal_at_most n) (omega arith)
first_at_most (Err r) = both_at_most (counted refused_word (refusal_number r)) (10 ∷ []) 28 2 (counted_at_most refused_word (refusal_number r)) (omega arith)

-- so it stands whole in a room of 30
pub first_printed_whole : (r : Result ℕ Refusal) (out : List ℕ) (n : ℕ) (after : List ℕ) → Puts (first_line r) 0 out n after → 30 ≤ length out → take n after ≡ first_line r
first_printed_whole r out n after p h = printed_whole (first_line r) out n after p (omega (arith, first_at_most r))

-- a text that is listed has at most 22 bytes
pub wet_at_most : (s : List ℕ) (room n : ℕ) → line_listing s room ≡ Ok n → length (wet_text s) ≤ 22
unfolding line_listing wet_text
wet_at_most s room n e = (line_count (has 10 s) (has 32 (line_of s)) (head_of s) (tail_of s) room n e).0

-- so its line stands whole in a room of 23
pub filled_printed_whole :
    (text : List ℕ) (k : ℕ) (out : List ℕ) (n : ℕ) (after : List ℕ) → length text ≤ 22 → Puts (line_in_room text k (length out)) 0 out n after → 23 ≤ length out
    → take n after ≡ filled_line text k
filled_printed_whole text k out n after g p h =
    let l : length (filled_line text k) ≤ 23 = both_at_most (fill text k) (10 ∷ []) 22 1 (omega (arith, fill_length text k)) (omega arith) in
    printed_whole (filled_line text k) out n after (rw (le-ltb (length out) (length text) (omega arith)) at p) (omega arith)

-- and one behind the other, these lines are the output
pub lines_append : (text ks ls : List ℕ) → filled_lines text (ks ++ ls) ≡ filled_lines text ks ++ filled_lines text ls
unfolding filled_lines
lines_append text [] ls = refl
lines_append text (k ∷ ks) ls = rw (lines_append text ks ls) (sym (append_assoc (filled_line text k) (filled_lines text ks) (filled_lines text ls)))
