-- Digits by their bounds.
-- Assumes nothing.
use Rattle.refusal.proofs.Basics.{◌≡◌, sym, ℕ, ◌≤◌, le-leb, leb-true, true, leb, and_second, both_true}
use Rattle.classes.specs.Classes.{is_digit}

pub digit_between : (b : ℕ) → 48 ≤ b → b ≤ 57 → is_digit b ≡ true
digit_between b g h = sym (and_second (leb 48 b) (leb b 57) true (le-leb 48 b g) (sym (le-leb b 57 h)))

pub digit_bounds : (b : ℕ) → is_digit b ≡ true → (48 ≤ b) × (b ≤ 57)
digit_bounds b e = let h = both_true (leb 48 b) (leb b 57) e in (leb-true 48 b h.0, leb-true b 57 h.1)
