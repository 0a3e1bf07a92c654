-- What the crate's definitions say of a line, over plain lists: chunks do not matter, and what is kept is the line's. Assumes nothing.
use Rattle.refusal.proofs.Basics.{◌≡◌, refl, ℕ, ◌≤◌, length, take, List, [], ◌∷◌, ◌++◌}
use Rattle.line.specs.declared.Seen.{Seen}
use Rattle.line.specs.Mirror.{Kept, starting, kept_of, took, feed}
use Rattle.line.specs.Line.{has, line_of, head_of, tail_of}
use Rattle.line.proofs.Held.{holds_nothing, rest_ahead}

-- it does not matter in which chunks a text is fed
pub feed_append : (k : Kept) (s t : List ℕ) → feed k (s ++ t) ≡ feed (feed k s) t
unfolding feed
feed_append k [] t = refl
feed_append k (b ∷ s) t = feed_append (took k b) s t

-- k keeps the first m bytes of s's line before its first space and the first n after it, and knows of the space and of the line's end
pub record LineKept (m n : ℕ) (s : List ℕ) (k : Kept) : Type 0 where
  pub head : take k.seen.head k.head ≡ take m (head_of s)
  pub tail : take k.seen.tail k.tail ≡ take n (tail_of s)
  pub spaced : k.seen.spaced ≡ has 32 (line_of s)
  pub ended : k.seen.ended ≡ has 10 s
  pub head_within : k.seen.head ≤ m
  pub tail_within : k.seen.tail ≤ n
  pub head_size : length k.head ≡ m
  pub tail_size : length k.tail ≡ n

-- so does what any text leads to, from nothing seen, over any two arrays of m and of n bytes
pub line_is_kept : (m n : ℕ) (s head₀ tail₀ : List ℕ) → length head₀ ≡ m → length tail₀ ≡ n → LineKept m n s (feed (kept_of starting head₀ tail₀) s)
line_is_kept m n s head₀ tail₀ g h =
    let z = rest_ahead m n s [] (kept_of starting head₀ tail₀) (record { head = holds_nothing m head₀ g; tail = holds_nothing n tail₀ h; is_spaced = refl; is_ended = refl }) in
    record {
      head = z.head.kept;
      tail = z.tail.kept;
      spaced = z.is_spaced;
      ended = z.is_ended;
      head_within = z.head.within;
      tail_within = z.tail.within;
      head_size = z.head.size;
      tail_size = z.tail.size;
    }

-- ---------------------------------------------------------------------------
-- Any two answers that a contract allows are equal, the lent arrays included

-- what `fed` ensures, of what was seen and of the two arrays
abbrev pub Fed : Kept → List ℕ → Seen → List ℕ → List ℕ → Type 0
Fed k s r head tail = (r ≡ (feed k s).seen) × (head ≡ (feed k s).head) × (tail ≡ (feed k s).tail)
