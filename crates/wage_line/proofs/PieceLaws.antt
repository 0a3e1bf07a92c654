-- Laws of the pieces of a file: one by one from a place on, joined again, of whole lines, and of what holds of each. Assumes nothing.
use Rattle.refusal.proofs.Basics.{◌≡◌, refl, sym, ap, ◌∙◌, arith, ℕ, zero, suc, ◌+◌, ◌/◌, ◌%◌, ◌≤◌, ◌<◌, length, take, drop, get_or, length-drop, length-append, take-append-drop, drop_of_length-le, le-leb, lt-leb, leb-false, List, [], ◌∷◌, ◌++◌, Bool, true, false, cond, leb, drop-drop, drop-length, length-take-le, take_all, take_at, drop_at, append-nil, taken, left}
use Rattle.std.specs.Prelude.{min}
use Rattle.text.specs.Split.{joined}
use Rattle.wage_line.specs.Pieces.{pieces_of, pieces, next_piece}

-- ---------------------------------------------------------------------------
-- Where the next piece begins, in n bytes

module _ (n at : ℕ) where
  -- no whole piece is left: at the end
  pub next_last : n < at + 1002 → n ≡ next_piece n at
  next_last h = left (leb (at + 1002) n) (at + 1002) n n (lt-leb (at + 1002) n h) refl

  -- behind a whole piece
  pub next_whole : at + 1002 ≤ n → at + 1002 ≡ next_piece n at
  next_whole h = taken (leb (at + 1002) n) (at + 1002) n (le-leb (at + 1002) n h)

-- what is left there is what is left 1,002 bytes on
pub piece_dropped : (s : List ℕ) (at : ℕ) → drop (at + 1002) s ≡ drop (next_piece (length s) at) s
piece_dropped s at = go (leb (at + 1002) (length s)) refl
  where
    go : (b : Bool) → leb (at + 1002) (length s) ≡ b → drop (at + 1002) s ≡ drop (cond b (at + 1002) (length s)) s
    go true e = refl
    go false e =
        let g = leb-false (at + 1002) (length s) e in
        let f : length s ≤ at + 1002 = omega arith in
        drop_of_length-le s f ∙ sym (drop-length s)

-- ---------------------------------------------------------------------------
-- The pieces, one by one

-- any count that is not below the bytes gives all pieces
pub pieces_fuel : (m n : ℕ) (s : List ℕ) → length s ≤ m → length s ≤ n → pieces_of m s ≡ pieces_of n s
unfolding pieces_of
pieces_fuel zero zero s h g = refl
pieces_fuel zero (suc n) [] h g = refl
pieces_fuel (suc m) zero [] h g = refl
pieces_fuel (suc m) (suc n) [] h g = refl
pieces_fuel zero (suc n) (b ∷ s) h g = absurd (omega arith)
pieces_fuel (suc m) zero (b ∷ s) h g = absurd (omega arith)
pieces_fuel (suc m) (suc n) (b ∷ s) h g =
    ap (λ (ps : List (List ℕ)). take 1002 (b ∷ s) ∷ ps)
    (pieces_fuel m n (drop 1002 (b ∷ s)) (omega (arith, length-drop 1002 (b ∷ s))) (omega (arith, length-drop 1002 (b ∷ s))))

-- the first piece, and those of the rest
pub pieces_first : (s : List ℕ) → 0 < length s → pieces s ≡ take 1002 s ∷ pieces (drop 1002 s)
unfolding pieces_of
pieces_first [] h = absurd (omega arith)
pieces_first (b ∷ s) h =
    ap (λ (ps : List (List ℕ)). take 1002 (b ∷ s) ∷ ps)
    (pieces_fuel (length s) (length (drop 1002 (b ∷ s))) (drop 1002 (b ∷ s)) (omega (arith, length-drop 1002 (b ∷ s))) (omega arith))

-- a piece cut off the front, as `chunks` does
pub pieces_cut : (s line rest : List ℕ) → s ≡ line ++ rest → length line ≡ min 1002 (length s) → 0 < length s → pieces s ≡ line ∷ pieces rest
pieces_cut s line [] e m h =
    let f : s ≡ line = e ∙ append-nil line in
    let g : length line ≤ 1002 = omega arith in
    pieces_first s h ∙ rw (f, take_all 1002 line g, drop_of_length-le line g)
pieces_cut s line (b ∷ rest) e m h =
    let l : length line ≡ 1002 = omega (arith, ap length e, length-append line (b ∷ rest)) in
    pieces_first s h ∙ rw (e, take_at line (b ∷ rest) 1002 l, drop_at line (b ∷ rest) 1002 l)

-- from a place on: the piece there, and those from the next place on
pub pieces_more :
    (s : List ℕ) (at : ℕ) → at < length s → pieces (drop at s) ≡ take 1002 (drop at s) ∷ pieces (drop (next_piece (length s) at) s)
pieces_more s at h =
    pieces_first (drop at s) (omega (arith, length-drop at s)) ∙
    ap (λ (t : List ℕ). take 1002 (drop at s) ∷ pieces t) (drop-drop 1002 at s ∙ piece_dropped s at)

-- at the end there are none
pub pieces_end : (s : List ℕ) (at : ℕ) → length s ≤ at → pieces (drop at s) ≡ []
unfolding pieces_of
pieces_end s at h = rw (drop_of_length-le s h)

-- ---------------------------------------------------------------------------
-- Joined again

joined_of : (n : ℕ) (s : List ℕ) → length s ≤ n → joined (pieces_of n s) ≡ s
unfolding pieces_of joined
joined_of zero [] h = refl
joined_of zero (b ∷ s) h = absurd (omega arith)
joined_of (suc n) [] h = refl
joined_of (suc n) (b ∷ s) h =
    ap (λ (t : List ℕ). take 1002 (b ∷ s) ++ t) (joined_of n (drop 1002 (b ∷ s)) (omega (arith, length-drop 1002 (b ∷ s)))) ∙
    take-append-drop 1002 (b ∷ s)

-- the pieces are the file, cut
pub pieces_joined : (s : List ℕ) → joined (pieces s) ≡ s
pieces_joined s = joined_of (length s) s (omega arith)

-- ---------------------------------------------------------------------------
-- Whole lines

-- each has 1,002 bytes
abbrev pub AllWhole : List (List ℕ) → Type 0
AllWhole ls = (k : ℕ) → k < length ls → length (get_or ls k []) ≡ 1002

-- one more
whole_more : (l : List ℕ) (ls : List (List ℕ)) → length l ≡ 1002 → AllWhole ls → AllWhole (l ∷ ls)
whole_more l ls e f zero h = e
whole_more l ls e f (suc k) h = f k (omega arith)

-- a file of whole lines is cut into them
pub pieces_of_lines : (ls : List (List ℕ)) → ((k : ℕ) → k < length ls → length (get_or ls k []) ≡ 1002) → pieces (joined ls) ≡ ls
unfolding pieces_of joined
pieces_of_lines [] f = refl
pieces_of_lines (l ∷ ls) f =
    let e : length l ≡ 1002 = f 0 (omega arith) in
    pieces_first (l ++ joined ls) (omega (arith, length-append l (joined ls))) ∙
    rw (take_at l (joined ls) 1002 e, drop_at l (joined ls) 1002 e, pieces_of_lines ls (λ k h. f (suc k) (omega arith)))

whole_of : (n : ℕ) (s : List ℕ) → length s ≤ n → length s % 1002 ≡ 0 → (length (pieces_of n s) ≡ length s / 1002) × AllWhole (pieces_of n s)
unfolding pieces_of
whole_of zero [] h e = (refl, λ k g. absurd (omega arith))
whole_of zero (b ∷ s) h e = absurd (omega arith)
whole_of (suc n) [] h e = (refl, λ k g. absurd (omega arith))
whole_of (suc n) (b ∷ s) h e =
    let l = length-drop 1002 (b ∷ s) in
    let i = whole_of n (drop 1002 (b ∷ s)) (omega arith) (omega arith) in
    (omega (arith, i.0), whole_more (take 1002 (b ∷ s)) (pieces_of n (drop 1002 (b ∷ s))) (length-take-le 1002 (b ∷ s) (omega arith)) i.1)

-- a file whose size is a multiple of 1,002 has whole pieces only, as many as it has 1,002 bytes
pub whole_pieces :
    (s : List ℕ) → length s % 1002 ≡ 0
    → (length (pieces s) ≡ length s / 1002) × ((k : ℕ) → k < length (pieces s) → length (get_or (pieces s) k []) ≡ 1002)
whole_pieces s e = whole_of (length s) s (omega arith) e

-- ---------------------------------------------------------------------------
-- What holds of each in a list

module _ {A : Type 0} (P : A → Type 0) (d : A) where
  -- it holds at each place
  abbrev pub Each : List A → Type 0
  Each xs = (k : ℕ) → k < length xs → P (get_or xs k d)

  -- of one more in front
  pub each_more : (x : A) (xs : List A) → P x → Each xs → Each (x ∷ xs)
  each_more x xs p f zero h = p
  each_more x xs p f (suc k) h = f k (omega arith)
