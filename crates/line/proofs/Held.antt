-- A side of a line as it fills, and what each byte does to the two of them: what the theorem on the kept line is proved by. Assumes nothing.
use Rattle.refusal.proofs.Basics.{◌≡◌, refl, sym, ap, subst, ◌∙◌, arith, ℕ, ◌+◌, ◌≤◌, ◌<◌, length, take, set, length-append, length-take, length-set, ltb-true, ltb-false, List, [], ◌∷◌, ◌++◌, append-nil, append_assoc, Bool, true, false, eqb, ltb, take_all, take-suc-set, take-append-le, take-nil, add-one, taken, left}
use Rattle.line.specs.Mirror.{Kept, took, feed}
use Rattle.line.specs.Line.{before, following, has, line_of, head_of, tail_of}
use Rattle.line.proofs.Laws.{took_feed, took_behind, took_space, took_ahead, feed_ended}

-- ---------------------------------------------------------------------------
-- One side

-- a place for n bytes, of which j are written, holds the first n bytes of xs
pub record Holds (n j : ℕ) (a xs : List ℕ) : Type 0 where
  pub size : length a ≡ n
  pub within : j ≤ n
  pub kept : take j a ≡ take n xs

-- nothing came yet
pub holds_nothing : (n : ℕ) (a : List ℕ) → length a ≡ n → Holds n 0 a []
holds_nothing n a e = record { size = e; within = omega arith; kept = sym (take-nil n) }

module _ (n j : ℕ) (a xs : List ℕ) (b : ℕ) (h : Holds n j a xs) where
  -- as many bytes are written as there came, and never more than fit
  lengths : length (take j a) ≡ length (take n xs)
  lengths = ap length h.kept

  -- where there is room, a byte more is held
  pub holds_more : j < length a → Holds n (j + 1) (set a j b) (xs ++ (b ∷ []))
  holds_more g =
      let few : length xs < n = omega (arith, lengths, length-take j a, length-take n xs) in
      record {
        size = length-set a j b ∙ h.size;
        within = omega arith;
        kept = rw (add-one j) (take-suc-set a j b g ∙ ap (λ (l : List ℕ). l ++ (b ∷ [])) (h.kept ∙ take_all n xs (omega arith)) ∙ sym (take_all n (xs ++ (b ∷ [])) (rw length-append (omega arith))));
      }

  -- where there is none, the first n bytes are what they were
  pub holds_all : length a ≤ j → Holds n j a (xs ++ (b ∷ []))
  holds_all g =
      let many : n ≤ length xs = omega (arith, lengths, length-take j a, length-take n xs) in
      record { size = h.size; within = h.within; kept = h.kept ∙ sym (take-append-le n xs (b ∷ []) many) }

-- ---------------------------------------------------------------------------
-- The two sides

-- what came before the space is hs, and after it ts; whether the space came, and whether the line ended
pub record State (m n : ℕ) (hs ts : List ℕ) (spaced ended : Bool) (k : Kept) : Type 0 where
  pub head : Holds m k.seen.head k.head hs
  pub tail : Holds n k.seen.tail k.tail ts
  pub is_spaced : k.seen.spaced ≡ spaced
  pub is_ended : k.seen.ended ≡ ended

-- either way of a test leads there
cases : {P : Type 0} (b : Bool) → (b ≡ true → P) → (b ≡ false → P) → P
cases true t f = t refl
cases false t f = f refl

module _ (m n : ℕ) where
  -- a line feed ends the line
  feeds : (hs ts : List ℕ) (spaced : Bool) (k : Kept) (b : ℕ) → State m n hs ts spaced false k → eqb b 10 ≡ true → State m n hs ts spaced true (took k b)
  feeds hs ts spaced k b g e =
      subst (State m n hs ts spaced true) (took_feed k b g.is_ended e)
      (record { head = g.head; tail = g.tail; is_spaced = g.is_spaced; is_ended = refl })

  -- the first space divides it
  divides : (hs ts : List ℕ) (k : Kept) (b : ℕ) → State m n hs ts false false k → eqb b 10 ≡ false → eqb b 32 ≡ true → State m n hs ts true false (took k b)
  divides hs ts k b g e f =
      subst (State m n hs ts true false) (took_space k b g.is_ended e g.is_spaced f)
      (record { head = g.head; tail = g.tail; is_spaced = refl; is_ended = refl })

  -- a byte after the space is the tail's
  behind : (hs ts : List ℕ) (k : Kept) (b : ℕ) → State m n hs ts true false k → eqb b 10 ≡ false → State m n hs (ts ++ (b ∷ [])) true false (took k b)
  behind hs ts k b g e =
      subst (State m n hs (ts ++ (b ∷ [])) true false) (took_behind k b g.is_ended e g.is_spaced)
      (cases (ltb k.seen.tail (length k.tail))
      (λ r. subst (State m n hs (ts ++ (b ∷ [])) true false) (taken _ _ _ r)
      (record { head = g.head; tail = holds_more n _ _ ts b g.tail (ltb-true _ _ r); is_spaced = refl; is_ended = refl }))
      (λ r. subst (State m n hs (ts ++ (b ∷ [])) true false) (left _ _ _ _ r refl)
      (record { head = g.head; tail = holds_all n _ _ ts b g.tail (ltb-false _ _ r); is_spaced = g.is_spaced; is_ended = g.is_ended })))

  -- any other before the space is the head's
  ahead : (hs ts : List ℕ) (k : Kept) (b : ℕ) → State m n hs ts false false k → eqb b 10 ≡ false → eqb b 32 ≡ false → State m n (hs ++ (b ∷ [])) ts false false (took k b)
  ahead hs ts k b g e f =
      subst (State m n (hs ++ (b ∷ [])) ts false false) (took_ahead k b g.is_ended e g.is_spaced f)
      (cases (ltb k.seen.head (length k.head))
      (λ r. subst (State m n (hs ++ (b ∷ [])) ts false false) (taken _ _ _ r)
      (record { head = holds_more m _ _ hs b g.head (ltb-true _ _ r); tail = g.tail; is_spaced = refl; is_ended = refl }))
      (λ r. subst (State m n (hs ++ (b ∷ [])) ts false false) (left _ _ _ _ r refl)
      (record { head = holds_all m _ _ hs b g.head (ltb-false _ _ r); tail = g.tail; is_spaced = g.is_spaced; is_ended = g.is_ended })))

  -- what the rest of the line leads to, from after the space
  pub rest_behind : (s hs ts : List ℕ) (k : Kept) → State m n hs ts true false k → State m n hs (ts ++ line_of s) true (has 10 s) (feed k s)
  unfolding feed before has
  rest_behind [] hs ts k g = rw append-nil g
  rest_behind (b ∷ s) hs ts k g =
      cases (eqb b 10)
      (λ e. rw (e, append-nil, ← feed_ended (took k b) s (feeds hs ts true k b g e).is_ended) (feeds hs ts true k b g e))
      (λ e. rw (e, ← append_assoc ts (b ∷ []) (line_of s)) (rest_behind s hs (ts ++ (b ∷ [])) (took k b) (behind hs ts k b g e)))

  -- and from before it
  pub rest_ahead : (s hs : List ℕ) (k : Kept) → State m n hs [] false false k → State m n (hs ++ head_of s) (tail_of s) (has 32 (line_of s)) (has 10 s) (feed k s)
  unfolding feed before following has
  rest_ahead [] hs k g = rw append-nil g
  rest_ahead (b ∷ s) hs k g =
      cases (eqb b 10)
      (λ e. rw (e, append-nil, ← feed_ended (took k b) s (feeds hs [] false k b g e).is_ended) (feeds hs [] false k b g e))
      (λ e.
      cases (eqb b 32)
      (λ f. rw (e, f, append-nil) (rest_behind s hs [] (took k b) (divides hs [] k b g e f)))
      (λ f. rw (e, f, ← append_assoc hs (b ∷ []) (head_of s)) (rest_ahead s (hs ++ (b ∷ [])) (took k b) (ahead hs [] k b g e f))))
