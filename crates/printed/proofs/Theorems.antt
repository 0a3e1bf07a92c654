-- What is printed stands whole at the front of a room that is large enough, and how large that is; a number reads back.
-- Assumes nothing.
use Rattle.refusal.proofs.Basics.{◌≡◌, refl, arith, ℕ, zero, suc, ◌+◌, ◌/◌, ◌^◌, ◌≤◌, ◌<◌, length, take, drop, length-append, ltb-true, List, [], ◌∷◌, ◌++◌, Bool, true, false, cond, ltb, take-append_seam, zero-add, pow-suc}
use Rattle.refusal.specs.declared.Place.{Place}
use Rattle.refusal.specs.declared.Refusal.{Refusal}
use Rattle.refusal.specs.Refusal.{refusal_number, refusal_place}
use Rattle.text.specs.Digits.{digits_of, value_of}
use Rattle.room.proofs.Places.{front}
use Rattle.room.proofs.Digits.{number_back}
use Rattle.printed.specs.Printed.{width_in, decimal, counted, refused_word, line_word, field_word, byte_word, place_text, refused_text, Puts}
use Rattle.printed.proofs.Laws.{ends_whole, decimal_length}

-- the bytes up to the place behind it are the text
pub printed_whole : (s out : List ℕ) (r : ℕ) (after : List ℕ) → Puts s 0 out r after → length s ≤ length out → take r after ≡ s
printed_whole s out r after p h =
    rw (p.leaves, p.answers, ← (ends_whole (length out) 0 s (omega arith)), zero-add, front out s h)
    (take-append_seam s (drop (length s) out))

-- a number has at most twenty digits
width_at_most : (k n : ℕ) → width_in k n ≤ k
unfolding width_in
width_at_most zero n = omega arith
width_at_most (suc k) n = go (ltb n 10) (width_at_most k (n / 10))
  where
    go : (b : Bool) → width_in k (n / 10) ≤ k → cond b 1 (suc (width_in k (n / 10))) ≤ suc k
    go true h = omega arith
    go false h = omega arith

pub decimal_at_most : (n : ℕ) → length (decimal n) ≤ 20
decimal_at_most n = let h = width_at_most 20 n in let e = decimal_length n in omega arith

-- two texts
pub both_at_most : (a b : List ℕ) (m n : ℕ) → length a ≤ m → length b ≤ n → length (a ++ b) ≤ m + n
both_at_most a b m n g h = let e = length-append a b in omega arith

-- a word and a number
pub counted_at_most : (word : List ℕ) (n : ℕ) → length (counted word n) ≤ length word + 20
counted_at_most word n = both_at_most word (decimal n) (length word) 20 (omega arith) (decimal_at_most n)

-- a refusal
place_at_most : (p : Place) → length (place_text p) ≤ 80
unfolding place_text
place_at_most p =
    both_at_most (counted line_word p.line) _ 26 54 (counted_at_most line_word p.line)
    (both_at_most (counted field_word p.field) _ 27 27 (counted_at_most field_word p.field)
    (both_at_most (counted byte_word p.byte) (10 ∷ []) 26 1 (counted_at_most byte_word p.byte) (omega arith)))

pub refused_at_most : (r : Refusal) → length (refused_text r) ≤ 108
unfolding refused_text
refused_at_most r =
    both_at_most (counted refused_word (refusal_number r)) (place_text (refusal_place r)) 28 80 (counted_at_most refused_word (refusal_number r))
    (place_at_most (refusal_place r))

-- ---------------------------------------------------------------------------
-- A number is printed so that it reads back

-- as many digits as it has hold it
width_holds : (k n : ℕ) → n < 10 ^ k → n < 10 ^ width_in k n
unfolding width_in
width_holds zero n h = h
width_holds (suc k) n h = go (ltb n 10) refl (let e = pow-suc 10 k in width_holds k (n / 10) (omega arith))
  where
    go : (b : Bool) → ltb n 10 ≡ b → n / 10 < 10 ^ width_in k (n / 10) → n < 10 ^ cond b 1 (suc (width_in k (n / 10)))
    go true e l = ltb-true n 10 e
    go false e l = let p = pow-suc 10 (width_in k (n / 10)) in omega arith

pub decimal_reads_back : (n : ℕ) → n < 100000000000000000000 → value_of (digits_of (decimal n)) ≡ n
unfolding decimal
decimal_reads_back n h = number_back (width_in 20 n) n (width_holds 20 n h)
