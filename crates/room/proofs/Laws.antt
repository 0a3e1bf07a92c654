-- Laws of loops that write into lent room: what is left to be written makes up the whole. Assumes nothing.
use Rattle.refusal.proofs.Basics.{◌≡◌, refl, sym, ap, ◌∙◌, arith, ℕ, zero, suc, ◌+◌, ◌-◌, ◌/◌, ◌%◌, ◌≤◌, ◌<◌, length, get_or, drop, set, drop_of_length-le, List, [], ◌∷◌, ◌++◌, sets, drop-cons, set_out, set_comm, add-zero, add-one}
use Rattle.text.specs.Digits.{digits_text}
use Rattle.room.proofs.Digits.{digits_length, digits_last}

-- ---------------------------------------------------------------------------
-- Lists

-- past the end nothing is written
pub sets_past : (s : List ℕ) (at : ℕ) (f : List ℕ) → length s ≤ at → sets s at f ≡ s
sets_past s at [] h = refl
sets_past s at (b ∷ f) h = rw (set_out s at b h) (sets_past s (suc at) f (omega arith))

-- the last element first, then those before it
pub sets_last : (s : List ℕ) (at : ℕ) (f : List ℕ) (b : ℕ) → sets (set s (at + length f) b) at f ≡ sets s at (f ++ (b ∷ []))
sets_last s at [] b = rw add-zero
sets_last s at (a ∷ f) b =
    let e : at + suc (length f) ≡ suc at + length f = omega arith in
    rw (e, set_comm s (suc at + length f) at b a (λ (z : suc at + length f ≡ at). omega arith)) (sets_last (set s at a) (suc at) f b)

-- ---------------------------------------------------------------------------
-- A text, from the first byte to the last

-- one byte more
pub copied_more :
    (s out whole : List ℕ) (next i : ℕ) → i < length s → sets out next (drop i s) ≡ whole
    → sets (set out next (get_or s i 0)) (next + 1) (drop (i + 1) s) ≡ whole
copied_more s out whole next i h e = rw (add-one next, add-one i) (rw (drop-cons s i 0 h) at e)

-- nothing is left
pub copied_all : (s out whole : List ℕ) (next i : ℕ) → length s ≤ i → sets out next (drop i s) ≡ whole → out ≡ whole
copied_all s out whole next i h e = rw (drop_of_length-le s h) at e

-- no room is left
pub copied_full : (s out whole : List ℕ) (next i : ℕ) → length out ≤ next → sets out next (drop i s) ≡ whole → out ≡ whole
copied_full s out whole next i h e = sym (sets_past out next (drop i s) h) ∙ e

-- ---------------------------------------------------------------------------
-- Digits, from the last to the first

-- one digit more
pub digit_more :
    (out whole : List ℕ) (at n a : ℕ) → 0 < n → sets out at (digits_text n a) ≡ whole
    → sets (set out (at + (n - 1)) (48 + a % 10)) at (digits_text (n - 1) (a / 10)) ≡ whole
digit_more out whole at zero a h e = absurd (omega arith)
digit_more out whole at (suc n) a h e =
    let y : suc n - 1 ≡ n = omega arith in
    let w = sets_last out at (digits_text n (a / 10)) (48 + a % 10) in
    rw y ((rw (digits_length n (a / 10)) at w) ∙ (rw (digits_last n a) at e))

-- no digit is left
pub digits_all : (out whole : List ℕ) (at n a : ℕ) → n ≡ 0 → sets out at (digits_text n a) ≡ whole → out ≡ whole
unfolding digits_text
digits_all out whole at n a z e = rw z at e
