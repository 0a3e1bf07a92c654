-- What is promised of a line without fields: its type and its size. Assumes nothing.
use Rattle.refusal.proofs.Basics.{◌≡◌, refl, ap, ◌∙◌, ℕ, length, replicate, List}
use Rattle.std.specs.Prelude.{Ok}
use Rattle.wage_places.specs.declared.LineType.{LineType}
use Rattle.wage_places.specs.declared.LineType.TheVariants.{Label, Group, Order, Closing}
use Rattle.wage_line.specs.Line.{type_from, type_text, typed_of}
use Rattle.wage_line.proofs.Theorems.{typed_exactly}
use Rattle.bare_line.specs.Bare.{dressed, bare_line}

-- it has its type
pub bare_line_lem : (t : LineType) → typed_of (bare_line t) ≡ Ok t
unfolding bare_line typed_of type_from type_text
bare_line_lem Label = refl
bare_line_lem Group = refl
bare_line_lem Order = refl
bare_line_lem Closing = refl

-- and so 1,002 bytes
pub bare_length : (t : LineType) → length (bare_line t) ≡ 1002
bare_length t = ((typed_exactly t (bare_line t)).0 (bare_line_lem t)).whole

-- blanks, dressed
pub bare : (t : LineType) (before after : List ℕ) → before ≡ replicate 1002 32 → after ≡ dressed t before → after ≡ bare_line t
unfolding bare_line
bare t before after e w = w ∙ ap (dressed t) e
