-- Laws of texts put one behind the other into lent room, and of numbers in decimal digits. Assumes nothing.
use Rattle.refusal.proofs.Basics.{◌≡◌, refl, sym, ap, ◌∙◌, arith, ℕ, zero, suc, ◌+◌, ◌*◌, ◌/◌, ◌^◌, ◌≤◌, ◌<◌, length, length-append, le-ltb, lt-ltb, ltb-true, ltb-false, List, [], ◌++◌, Bool, true, false, cond, ltb, sets, length-sets, pow-suc, one-le-pow}
use Prim.Native.Nat.{max}
use Rattle.text.proofs.Stands.{sets_append}
use Rattle.text.specs.Digits.{digits_text}
use Rattle.room.proofs.Laws.{sets_past}
use Rattle.room.proofs.Digits.{digits_length}
use Rattle.printed.specs.Printed.{width_in, decimal, end_in, Puts}

-- ---------------------------------------------------------------------------
-- One text behind another

module _ (room at : ℕ) (s : List ℕ) where
  -- where there is not enough room, it ends with it
  pub ends_short : room < at + length s → room ≡ end_in room at s
  ends_short h = rw (lt-ltb room (at + length s) h)

  -- else behind its last byte
  pub ends_whole : at + length s ≤ room → at + length s ≡ end_in room at s
  ends_whole h = rw (le-ltb room (at + length s) h)

-- the place behind two is that behind both
module _ (out : List ℕ) (at : ℕ) (a b : List ℕ) where
  ends_behind : (t : Bool) → ltb (length out) (at + length a) ≡ t
      → (end_in (length out) (cond t (length out) (at + length a)) b ≡ end_in (length out) at (a ++ b))
      × (sets (sets out at a) (cond t (length out) (at + length a)) b ≡ sets out at (a ++ b))
  ends_behind false e =
      let l = length-append a b in
      let k : at + length a + length b ≡ at + length (a ++ b) = omega arith in
      (rw k, sets_append out at a b)
  ends_behind true e =
      let l = length-append a b in
      let h = ltb-true (length out) (at + length a) e in
      let long : length out < at + length (a ++ b) = omega arith in
      let kept = length-sets out at a in (
        cut (ltb (length out) (length out + length b)) refl ∙ ends_short (length out) at (a ++ b) long,
        sets_past (sets out at a) (length out) b (omega arith) ∙ sym (sets_past (sets out at a) (at + length a) b (omega arith)) ∙ sets_append out at a b,
      )
    where
      cut : (t : Bool) → ltb (length out) (length out + length b) ≡ t → cond t (length out) (length out + length b) ≡ length out
      cut true f = refl
      cut false f = let g = ltb-false (length out) (length out + length b) f in omega arith

-- one text was put behind another
pub puts_then : {out mid after a b : List ℕ} {at n₁ n₂ : ℕ} → Puts a at out n₁ mid → Puts b n₁ mid n₂ after → Puts (a ++ b) at out n₂ after
puts_then {out} {mid} {after} {a} {b} {at} {n₁} {n₂} v w =
    let e = ends_behind out at a b (ltb (length out) (at + length a)) refl in
    let l : length mid ≡ length out = ap length v.leaves ∙ length-sets out at a in
    record {
      answers = w.answers ∙ rw (l, v.answers) e.0;
      leaves = w.leaves ∙ rw (v.leaves, v.answers) e.1;
    }

-- nothing was put
pub puts_none : (out : List ℕ) (at : ℕ) → at ≤ length out → Puts [] at out at out
puts_none out at h =
    let e : at + 0 ≡ at = omega arith in
    record { answers = sym e ∙ ends_whole (length out) at [] (omega arith); leaves = refl }

-- the place behind it lies in the room, which keeps its length
module _ {s out after : List ℕ} {at r : ℕ} where
  pub puts_within : Puts s at out r after → r ≤ length out
  puts_within p = rw p.answers (go (ltb (length out) (at + length s)) refl)
    where
      go : (b : Bool) → ltb (length out) (at + length s) ≡ b → cond b (length out) (at + length s) ≤ length out
      go true e = omega arith
      go false e = ltb-false (length out) (at + length s) e

  pub puts_length : Puts s at out r after → length after ≡ length out
  puts_length p = ap length p.leaves ∙ length-sets out at s

-- ---------------------------------------------------------------------------
-- How many digits a number has

-- one more than its logarithm
width_log : (k d n : ℕ) → d < k → 10 ^ d ≤ n → n < 10 * 10 ^ d → width_in k n ≡ suc d
unfolding width_in
width_log zero d n h l g = absurd (omega arith)
width_log (suc k) zero n h l g = rw (lt-ltb n 10 g)
width_log (suc k) (suc d) n h l g =
    let e = pow-suc 10 d in
    let p = one-le-pow d 10 (omega arith) in
    rw (le-ltb n 10 (omega arith)) (ap suc (width_log k d (n / 10) (omega arith) (omega arith) (omega arith)))

-- zero has as many as one
pub width_max : (n d : ℕ) → d < 20 → 10 ^ d ≤ max n 1 → max n 1 < 10 * 10 ^ d → d + 1 ≡ width_in 20 n
unfolding width_in
width_max zero d h l g = omega (arith, width_log 20 d 1 h l g)
width_max (suc n) d h l g = omega (arith, width_log 20 d (suc n) h (omega arith) (omega arith))

-- as many digits as that
pub decimal_length : (n : ℕ) → length (decimal n) ≡ width_in 20 n
unfolding decimal
decimal_length n = digits_length (width_in 20 n) n

-- so many digits put at a place are the number
pub put_width : (out : List ℕ) (at n : ℕ) {w : ℕ} {after : List ℕ} → w ≡ width_in 20 n → after ≡ sets out at (digits_text w n) → after ≡ sets out at (decimal n)
unfolding decimal
put_width out at n e f = f ∙ rw e
