-- A list written at a place of a lent slice, as far as there is room: what writers and listings leave, step by step.
use Rattle.std.specs.Prelude.{ℕ, ◌+◌, ◌≡◌, List, length}
use Rattle.std.proofs.lemmas.List.Edits.{sets}

-- xs was written from the place `at` on, and `next` is the place behind it
pub record Stands (before : List ℕ) (at : ℕ) (xs : List ℕ) (next : ℕ) (after : List ℕ) : Type 0 where
  pub counted : next ≡ at + length xs
  pub content : after ≡ sets before at xs
