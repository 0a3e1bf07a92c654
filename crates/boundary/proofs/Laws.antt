-- Laws of the boundary: what tells a refusal, and an answer told with what it leaves.
-- Assumes nothing.
use Rattle.refusal.proofs.Basics.{◌≡◌, ap, ◌∙◌, ℕ, List}
use Rattle.refusal.specs.Refusal.{refusal_number, refusal_place, needed_of}
use Rattle.refusal.specs.declared.Place.{Place}
use Rattle.refusal.specs.declared.Refusal.{Refusal}
use Rattle.boundary.specs.declared.Told.{Told}
use Rattle.boundary.specs.Told.{refusal}

-- its number, its place and its needed number tell it
pub told_by : (r : Refusal) (n : ℕ) (p : Place) (m : ℕ) → n ≡ refusal_number r → p ≡ refusal_place r → m ≡ needed_of r → ◌≡◌ {A = Told} (record { number = n; line = p.line; field = p.field; byte = p.byte; needed = m }) (refusal r)
told_by r n p m e f g = rw (e, f, g)

-- an answer r told as t, and what r leaves: told and left by what r is
pub told_and_left :
    {A B : Type 0} (told : A → B) (left : A → List ℕ) (a r : A) (t : B) (after : List ℕ)
    → t ≡ told r → (r ≡ a) × (after ≡ left r) → (t ≡ told a) × (after ≡ left a)
told_and_left told left a r t after e w = (e ∙ ap told w.0, w.1 ∙ ap left w.0)
