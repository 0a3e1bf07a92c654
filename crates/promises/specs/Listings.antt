-- Demand 3, said of one call: what it was lent, what it answered, and what it left.
use Rattle.std.specs.Prelude.{ℕ, ◌^◌, ◌<◌, ◌≤◌, ◌≡◌, Bool, true, List, length, get_or, take, drop, ◌↔◌}
use Rattle.text.specs.Bytes.{marks}
use Rattle.filling.specs.Filling.{fill}
use Rattle.fillings.specs.Listing.{Member, Ascending, accepted_below}
use Rattle.boundary.specs.declared.Valued.{Valued}

-- how many fillings of a text a rule accepts
abbrev pub accepted_fillings : (List ℕ → Bool) → List ℕ → ℕ
accepted_fillings p text = accepted_below (λ (k : ℕ). p (fill text k)) (10 ^ marks text)

-- "the listing holds every filling that the rules accept", and no other
pub record Lists (p : List ℕ → Bool) (text out : List ℕ) (count : ℕ) (after : List ℕ) : Type 0 where
  pub exactly : (k : ℕ) → Member k (take count after) ↔ ((k < 10 ^ marks text) × (p (fill text k) ≡ true))
  -- "each once"
  pub once : (i j : ℕ) → i < count → j < count → (i ≡ j → ⊥) → get_or (take count after) i 0 ≡ get_or (take count after) j 0 → ⊥
  -- "ascending"
  pub ascending : Ascending (take count after)
  -- "with the exact number"
  pub number : count ≡ accepted_fillings p text
  -- it is in the room, and the entries beyond it stay
  pub within : count ≤ length out
  pub beyond : drop count after ≡ drop count out

-- a call that lists the fillings that a rule p accepts
pub record Listing (p : List ℕ → Bool) (text out : List ℕ) (r : Valued) (after : List ℕ) : Type 0 where
  -- accepted: the listing stands at the front of the room
  pub lists : r.told.number ≡ 0 → Lists p text out r.value after
  -- "too little room is refused, the number told": 15
  pub small : r.told.number ≡ 15 → (length out < accepted_fillings p text) × (r.told.needed ≡ accepted_fillings p text)
  -- "nothing written", whatever the refusal
  pub untouched : (r.told.number ≡ 0 → ⊥) → after ≡ out
