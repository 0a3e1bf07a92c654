-- Laws of lists written at the places of a line: what stands at a place, and what stands apart from it. Assumes nothing.
use Rattle.refusal.proofs.Basics.{◌≡◌, refl, sym, ap, ◌∙◌, arith, ℕ, zero, suc, ◌+◌, ◌≤◌, ◌<◌, length, take, drop, set, length-drop, take-append-drop, List, [], ◌∷◌, ◌++◌, append_assoc, sets, length-sets, sets-eq, length-take-le, take-nil, take-add, drop_at, take-append_seam, take-set-le, drop-set-lt, set-set, set_comm, zero-add, suc-add, ◌⊎◌, ⊎_elim}

-- the size stays
pub sets_length : (s : List ℕ) (at : ℕ) (f : List ℕ) → length (sets s at f) ≡ length s
sets_length s at f = length-sets s at f

-- ---------------------------------------------------------------------------
-- A place written

module _ (s : List ℕ) (at : ℕ) (f : List ℕ) where
  -- the bytes of a place after writing exactly that many there
  pub place_set : at + length f ≤ length s → take (length f) (drop at (sets s at f)) ≡ f
  place_set h =
      rw (sets-eq f s at h, append_assoc, drop_at (take at s) (f ++ drop (at + length f) s) at (length-take-le at s (omega arith)))
      (take-append_seam f (drop (at + length f) s))

-- the same with the place's size
pub place_filled : (s : List ℕ) (at n : ℕ) (f : List ℕ) → length f ≡ n → at + n ≤ length s → take n (drop at (sets s at f)) ≡ f
place_filled s at n f e h = rw (← e) (place_set s at f (omega arith))

-- a list at the front, what is beyond it as it was
pub front : (s f : List ℕ) → length f ≤ length s → sets s 0 f ≡ f ++ drop (length f) s
front s f h = sets-eq f s 0 (omega arith) ∙ rw zero-add

-- a place's own bytes change nothing
pub set_own : (s : List ℕ) (at n : ℕ) → at + n ≤ length s → sets s at (take n (drop at s)) ≡ s
set_own s at n h =
    let e : length (take n (drop at s)) ≡ n = length-take-le n (drop at s) (omega (arith, length-drop at s)) in
    sets-eq (take n (drop at s)) s at (omega arith) ∙ rw (e, ← (take-add at n s)) (take-append-drop (at + n) s)

-- ---------------------------------------------------------------------------
-- Apart from the place written

-- what is behind it
pub drop_sets : (s : List ℕ) (at : ℕ) (f : List ℕ) (n : ℕ) → at + length f ≤ n → drop n (sets s at f) ≡ drop n s
drop_sets s at [] n h = refl
drop_sets s at (b ∷ f) n h = drop_sets (set s at b) (suc at) f n (omega arith) ∙ drop-set-lt n s at b (omega arith)

-- what is before it
pub take_sets : (s : List ℕ) (at : ℕ) (f : List ℕ) (n : ℕ) → n ≤ at → take n (sets s at f) ≡ take n s
take_sets s at [] n h = refl
take_sets s at (b ∷ f) n h = take_sets (set s at b) (suc at) f n (omega arith) ∙ take-set-le n s at b h

-- a part by its end
part_end : (s : List ℕ) (start size : ℕ) → take size (drop start s) ≡ drop start (take (start + size) s)
part_end s zero size = rw zero-add
part_end [] (suc start) size = rw suc-add (take-nil size)
part_end (b ∷ s) (suc start) size = rw suc-add (part_end s start size)

-- a place that does not overlap keeps its bytes
pub place_apart :
    (s : List ℕ) (at : ℕ) (f : List ℕ) (start size : ℕ) → (at + length f ≤ start) ⊎ (start + size ≤ at)
    → take size (drop start (sets s at f)) ≡ take size (drop start s)
place_apart s at f start size a =
    ⊎_elim (λ (h : at + length f ≤ start). ap (take size) (drop_sets s at f start h))
    (λ (h : start + size ≤ at). part_end (sets s at f) start size ∙ ap (drop start) (take_sets s at f (start + size) h) ∙ sym (part_end s start size))
    a

-- ---------------------------------------------------------------------------
-- Two places written

-- a byte that is not in the place
set_aside : (s : List ℕ) (at : ℕ) (f : List ℕ) (i b : ℕ) → ((k : ℕ) → k < length f → at + k ≡ i → ⊥) → set (sets s at f) i b ≡ sets (set s i b) at f
set_aside s at [] i b n = refl
set_aside s at (a ∷ f) i b n =
    set_aside (set s at a) (suc at) f i b (λ k h e. n (suc k) (omega arith) (omega arith)) ∙
    ap (λ (l : List ℕ). sets l (suc at) f) (set_comm s at i a b (λ (e : at ≡ i). n 0 (omega arith) (omega arith)))

-- what is written over a place is all that counts
pub sets_under : (s : List ℕ) (at : ℕ) (f g : List ℕ) → length g ≤ length f → sets (sets s at g) at f ≡ sets s at f
sets_under s at f [] h = refl
sets_under s at [] (a ∷ g) h = absurd (omega arith)
sets_under s at (b ∷ f) (a ∷ g) h =
    ap (λ (l : List ℕ). sets l (suc at) f) (set_aside (set s at a) (suc at) g at b (λ k h e. omega arith) ∙ rw set-set) ∙
    sets_under (set s at b) (suc at) f g (omega arith)

-- the same of as many bytes
pub sets_over : (s : List ℕ) (at : ℕ) (f g : List ℕ) → length f ≡ length g → sets (sets s at g) at f ≡ sets s at f
sets_over s at f g e = sets_under s at f g (omega arith)

-- the first place ends before the second begins
sets_ahead : (s : List ℕ) (at : ℕ) (f : List ℕ) (start : ℕ) (g : List ℕ) → at + length f ≤ start → sets (sets s at f) start g ≡ sets (sets s start g) at f
sets_ahead s at f start [] h = refl
sets_ahead s at f start (b ∷ g) r =
    ap (λ (l : List ℕ). sets l (suc start) g) (set_aside s at f start b (λ k h e. omega arith)) ∙ sets_ahead (set s start b) at f (suc start) g (omega arith)

-- places that do not overlap are written in any order
pub sets_apart :
    (s : List ℕ) (at : ℕ) (f : List ℕ) (start : ℕ) (g : List ℕ) → (at + length f ≤ start) ⊎ (start + length g ≤ at)
    → sets (sets s at f) start g ≡ sets (sets s start g) at f
sets_apart s at f start g a =
    ⊎_elim (λ (h : at + length f ≤ start). sets_ahead s at f start g h) (λ (h : start + length g ≤ at). sym (sets_ahead s start g at f h)) a
