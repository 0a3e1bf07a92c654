-- Laws of what the writer's refusals tell: a field's tells no needed number, so it is not the refusal of the room. Assumes nothing.
use Rattle.refusal.proofs.Basics.{◌≡◌, refl, arith, ℕ, length, get_or, drop, List, [], ◌∷◌, Bool, true, false, cond, eqb, sets}
use Rattle.std.specs.Prelude.{Ok, Err}
use Rattle.refusal.specs.Refusal.{Answer, none, needed_of}
use Rattle.verdict.specs.Verdict.{answer_at}
use Rattle.refusal.specs.declared.Refusal.{Refusal}
use Rattle.refusal.specs.declared.Refusal.TheVariants.{Size, Length, Room}
use Rattle.wage_places.specs.declared.LineType.{LineType}
use Rattle.wage_places.specs.declared.Spot.{Spot}
use Rattle.wage_places.specs.Places.{spots}
use Rattle.wage_fields.specs.Rules.{place_verdict, place_answer}
use Rattle.verdict.proofs.Verdicts.{told_place_lem}
use Rattle.wage_draft.specs.Draft.{Draft, placed, going_on, drafted, wrong_length}
use Rattle.wage_draft.proofs.Laws.{drafted_first, no_places}
use Rattle.line_room.proofs.Laws.{no_room}

-- of one place: no room is needed
at_place : (day kind : ℕ) (t : LineType) (p : Spot) (s : List ℕ) (r : Refusal) → place_answer day kind t p s ≡ Err r → needed_of r ≡ 0
unfolding place_answer
at_place day kind t p s r e = go (eqb (length s) 1002) e
  where
    go : (b : Bool) → cond b (answer_at p.field p.start (place_verdict day kind t p s)) (Err (Size none)) ≡ Err r → needed_of r ≡ 0
    go true g = (told_place_lem (place_verdict day kind t p s) p.field _ r g).1
    go false g = let h : Size none ≡ r = cc in rw (← h)

-- of a length that is not the place's
wrong_length_lem : (p : Spot) (r : Refusal) → wrong_length p ≡ Err r → needed_of r ≡ 0
wrong_length_lem p r e = let g : Length (record { line = 0; field = p.field; byte = p.start }) ≡ r = cc in rw (← g)

module _ (day kind : ℕ) (t : LineType) where
  -- a field put at a place
  placed_told : (p : Spot) (f line : List ℕ) (r : Refusal) → (placed day kind t p f line).answer ≡ Err r → needed_of r ≡ 0
  placed_told p f line r e = go (eqb (length f) p.size) refl e
    where
      go : (b : Bool) → eqb (length f) p.size ≡ b → (placed day kind t p f line).answer ≡ Err r → needed_of r ≡ 0
      go true h g = at_place day kind t p (sets line p.start f) r (rw h at g)
      go false h g = wrong_length_lem p r (rw h at g)

  -- fields at places
  drafted_told : (ps : List Spot) (fs : List (List ℕ)) (line : List ℕ) (r : Refusal) → (drafted day kind t ps fs line).answer ≡ Err r → needed_of r ≡ 0
  drafted_told [] fs line r e =
      let g : (Ok tt) ≡ Err r = rw (no_places day kind t fs line) at e in
      let z : ◌≡◌ {A = ℕ} 0 1 = cc in
      absurd (omega arith)
  drafted_told (p ∷ ps) fs line r e =
      let d = placed day kind t p (get_or fs 0 []) line in
      go d d.answer refl (placed_told p (get_or fs 0 []) line r) (drafted_told ps (drop 1 fs) d.line r) (rw (drafted_first day kind t p ps fs line) at e)
    where
      go :
          (d : Draft) (a : Answer) → d.answer ≡ a → (d.answer ≡ Err r → needed_of r ≡ 0)
          → ((drafted day kind t ps (drop 1 fs) d.line).answer ≡ Err r → needed_of r ≡ 0)
          → (going_on d.answer d (drafted day kind t ps (drop 1 fs) d.line)).answer ≡ Err r → needed_of r ≡ 0
      go d (Ok u) h here later g = later (rw h at g)
      go d (Err q) h here later g = here (rw (← h) at (rw h at g))

-- no field is refused for the room
pub draft_no_room : (day kind : ℕ) (t : LineType) (fs : List (List ℕ)) (line : List ℕ) → (drafted day kind t (spots t) fs line).answer ≡ no_room → ⊥
draft_no_room day kind t fs line e =
    let h : ◌≡◌ {A = ℕ} 1002 0 = drafted_told day kind t (spots t) fs line (Room none 1002) e in
    omega arith
