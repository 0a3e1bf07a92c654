-- Laws that the proofs here cite: of one byte, and of the bytes that the loop feeds. Assumes nothing.
use Rattle.refusal.proofs.Basics.{◌≡◌, refl, ap, arith, ℕ, ◌+◌, ◌≤◌, ◌<◌, length, drop, get_or, List, [], ◌∷◌, true, false, eqb, drop-cons, drop-length, add-one, taken, left, entered}
use Rattle.line.specs.Mirror.{Kept, kept_of, took, feed, took_tail, took_head}

-- ---------------------------------------------------------------------------
-- What one byte does, by the tests that lead there

module _ (k : Kept) (b : ℕ) where
  -- after the line's end no byte changes anything
  pub took_ended : k.seen.ended ≡ true → k ≡ took k b
  unfolding took
  took_ended e = taken _ _ _ e

  -- a line feed ends the line
  pub took_feed : k.seen.ended ≡ false → eqb b 10 ≡ true → kept_of (record { head = k.seen.head; tail = k.seen.tail; spaced = k.seen.spaced; ended = true }) k.head k.tail ≡ took k b
  unfolding took
  took_feed e f = left _ _ _ _ e (taken _ _ _ f)

  -- a byte after the space is the tail's
  pub took_behind : k.seen.ended ≡ false → eqb b 10 ≡ false → k.seen.spaced ≡ true → took_tail k b ≡ took k b
  unfolding took
  took_behind e f g = left _ _ _ _ e (left _ _ _ _ f (entered _ _ _ _ g refl))

  -- the first space divides the line
  pub took_space : k.seen.ended ≡ false → eqb b 10 ≡ false → k.seen.spaced ≡ false → eqb b 32 ≡ true → kept_of (record { head = k.seen.head; tail = k.seen.tail; spaced = true; ended = false }) k.head k.tail ≡ took k b
  unfolding took
  took_space e f g h = left _ _ _ _ e (left _ _ _ _ f (left _ _ _ _ g (taken _ _ _ h)))

  -- any other before the space is the head's
  pub took_ahead : k.seen.ended ≡ false → eqb b 10 ≡ false → k.seen.spaced ≡ false → eqb b 32 ≡ false → took_head k b ≡ took k b
  unfolding took
  took_ahead e f g h = left _ _ _ _ e (left _ _ _ _ f (left _ _ _ _ g (left _ _ _ _ h refl)))

-- ---------------------------------------------------------------------------
-- What is fed

-- after the line's end no text changes anything
pub feed_ended : (k : Kept) (s : List ℕ) → k.seen.ended ≡ true → k ≡ feed k s
unfolding feed
feed_ended k [] e = refl
feed_ended k (b ∷ s) e = rw (← took_ended k b e) (feed_ended k s e)

module _ (k : Kept) (s : List ℕ) (i : ℕ) where
  -- what the rest from place i leads to is what the byte there leads to, with the rest after it
  pub feed_on : (j : Kept) → i < length s → j ≡ took k (get_or s i 0) → feed k (drop i s) ≡ feed j (drop (i + 1) s)
  unfolding feed
  feed_on j h e = rw (drop-cons s i 0 h, e, add-one)

  -- past the last byte nothing is fed
  pub feed_ends : length s ≤ i → i ≤ length s → k ≡ feed k (drop i s)
  unfolding feed
  feed_ends h g = let e : i ≡ length s = omega arith in rw (e, drop-length)

-- two equal states agree in each part
pub whole : {j k : Kept} → j ≡ k → (j.seen ≡ k.seen) × ((j.head ≡ k.head) × (j.tail ≡ k.tail))
whole e = (ap (λ (x : Kept). x.seen) e, (ap (λ (x : Kept). x.head) e, ap (λ (x : Kept). x.tail) e))
