-- What is promised of a wage line drafted from its fields: drafts joined, what an accepted draft is, and a line
-- drafted from its own parts. Assumes nothing.
use Rattle.refusal.proofs.Basics.{◌≡◌, refl, sym, ap, ◌∙◌, arith, ℕ, suc, ◌<◌, length, take, drop, get_or, replicate, get_or-map, List, [], ◌∷◌, ◌++◌, drop-drop, ◌↔◌}
use Rattle.std.specs.Prelude.{Ok}
use Rattle.text.specs.Split.{joined}
use Rattle.wage_places.specs.declared.LineType.{LineType}
use Rattle.wage_places.specs.declared.LineType.TheVariants.{Label, Group, Order, Closing}
use Rattle.wage_places.specs.declared.Spot.{Spot}
use Rattle.wage_places.specs.Places.{spots, no_spot, part_at}
use Rattle.wage_line.specs.Line.{type_text, typed_of}
use Rattle.wage_places.proofs.Theorems.{place_at}
use Rattle.wage_line.proofs.Theorems.{typed_exactly}
use Rattle.wage_fields.specs.Rules.{places_answer}
use Rattle.bare_line.specs.Bare.{bare_line}
use Rattle.bare_line.proofs.Theorems.{bare_line_lem}
use Rattle.lent_fields.specs.Fields.{fields_of}
use Rattle.lent_fields.proofs.Laws.{fields_joined}
use Rattle.wage_draft.specs.Draft.{Draft, placed, going_on, drafted, parts_of_line, sizes_of, blanked, PlainElsewhere}
use Rattle.wage_draft.proofs.Laws.{drafted_first, going_twice, no_places, later_field, empty_fields, places_rising, drafted_kept, drafted_accepted, drafted_plain, parts_drafted, parts_sized}

-- ---------------------------------------------------------------------------
-- A line without fields

-- its places hold blanks
pub bare_plain : (t : LineType) → PlainElsewhere t (bare_line t)
unfolding bare_line type_text blanked spots
bare_plain Label = refl
bare_plain Group = refl
bare_plain Order = refl
bare_plain Closing = refl

-- ---------------------------------------------------------------------------
-- Drafts joined, and fields that are not there

module _ (day kind : ℕ) (t : LineType) where
  -- places one behind the other are drafted one behind the other, up to the first refusal
  pub drafted_append :
      (ps qs : List Spot) (fs gs : List (List ℕ)) (line : List ℕ) → length fs ≡ length ps → drafted day kind t (ps ++ qs) (fs ++ gs) line
      ≡ going_on (drafted day kind t ps fs line).answer (drafted day kind t ps fs line) (drafted day kind t qs gs (drafted day kind t ps fs line).line)
  unfolding drafted
  drafted_append [] qs [] gs line h = refl
  drafted_append [] qs (f ∷ fs) gs line h = absurd (omega arith)
  drafted_append (p ∷ ps) qs [] gs line h = absurd (omega arith)
  drafted_append (p ∷ ps) qs (f ∷ fs) gs line h =
      let d = placed day kind t p f line in
      rw (drafted_append ps qs fs gs d.line (omega arith))
      (going_twice (λ (e : Draft). drafted day kind t qs gs e.line) d (drafted day kind t ps fs d.line) d.answer refl)

  -- as many fields are read as there are places, one that is not there as an empty one
  pub drafted_by_fields :
      (ps : List Spot) (fs gs : List (List ℕ)) (line : List ℕ) → ((k : ℕ) → k < length ps → get_or fs k [] ≡ get_or gs k [])
      → drafted day kind t ps fs line ≡ drafted day kind t ps gs line
  drafted_by_fields [] fs gs line h = no_places day kind t fs line ∙ sym (no_places day kind t gs line)
  drafted_by_fields (p ∷ ps) fs gs line h =
      let d = placed day kind t p (get_or gs 0 []) line in
      drafted_first day kind t p ps fs line ∙
      rw (h 0 (omega arith), drafted_by_fields ps (drop 1 fs) (drop 1 gs) d.line (λ k g. later_field fs k ∙ h (suc k) (omega arith) ∙ sym (later_field gs k)))
      (sym (drafted_first day kind t p ps gs line))

  -- so empty fields behind the others change nothing
  pub missing_is_empty : (ps : List Spot) (fs : List (List ℕ)) (n : ℕ) (line : List ℕ) → drafted day kind t ps fs line ≡ drafted day kind t ps (fs ++ replicate n []) line
  missing_is_empty ps fs n line = drafted_by_fields ps fs (fs ++ replicate n []) line (λ k h. sym (empty_fields fs n k))

  -- a draft leaves a line as long as it was
  pub drafted_length : (fs : List (List ℕ)) (line : List ℕ) → length (drafted day kind t (spots t) fs line).line ≡ length line
  drafted_length fs line = (drafted_kept day kind t 0 (spots t) (places_rising t) fs line).whole

-- ---------------------------------------------------------------------------
-- What an accepted draft is

-- a line of its type that the judge accepts, each field at its place, and elsewhere what the writer puts there
pub record DraftedRight (day kind : ℕ) (t : LineType) (fs : List (List ℕ)) (line : List ℕ) : Type 0 where
  pub whole : length line ≡ 1002
  pub typed : typed_of line ≡ Ok t
  pub right : places_answer day kind t line ≡ Ok tt
  pub holds : (k : ℕ) → k < length (spots t) → part_at (place_at t k) line ≡ get_or fs k []
  pub plain : PlainElsewhere t line

-- a line's part at a place, by its order
part_at_lem : (t : LineType) (s : List ℕ) (k : ℕ) → get_or (parts_of_line t s) k [] ≡ part_at (place_at t k) s
part_at_lem t s k = get_or-map (λ (p : Spot). part_at p s) (spots t) k no_spot

module _ (day kind : ℕ) (t : LineType) where
  -- an accepted draft is one
  pub drafted_right :
      (fs : List (List ℕ)) → (drafted day kind t (spots t) fs (bare_line t)).answer ≡ Ok tt
      → DraftedRight day kind t fs (drafted day kind t (spots t) fs (bare_line t)).line
  unfolding places_answer
  drafted_right fs e =
      let s = (drafted day kind t (spots t) fs (bare_line t)).line in
      let b = (typed_exactly t (bare_line t)).0 (bare_line_lem t) in
      let k = drafted_kept day kind t 0 (spots t) (places_rising t) fs (bare_line t) in
      let w = drafted_accepted day kind t 0 (spots t) (places_rising t) fs (bare_line t) b.whole e in
      record {
        whole = k.whole ∙ b.whole;
        typed = (typed_exactly t s).1
            (record {
              whole = k.whole ∙ b.whole;
              digits = ap (take 3) k.rest ∙ b.digits;
              ends = sym (drop-drop 3 997 s) ∙ ap (drop 3) k.rest ∙ drop-drop 3 997 (bare_line t) ∙ b.ends;
            });
        right = w.right;
        holds = w.holds;
        plain = drafted_plain day kind t 0 (spots t) (places_rising t) fs (bare_line t) ∙ bare_plain t;
      }

  -- "Read and written again, a file is the same where those places held that": of each line
  pub right_drafted :
      (s : List ℕ) → typed_of s ≡ Ok t → places_answer day kind t s ≡ Ok tt → PlainElsewhere t s
      → drafted day kind t (spots t) (parts_of_line t s) (bare_line t) ≡ record { answer = Ok tt; line = s }
  unfolding places_answer
  right_drafted s e f h = rw (← h) (parts_drafted day kind t 0 (spots t) (places_rising t) s ((typed_exactly t s).0 e).whole f)

  -- a draft is accepted with a line exactly when the line is as said
  pub drafted_exactly :
      (fs : List (List ℕ)) (s : List ℕ)
      → (drafted day kind t (spots t) fs (bare_line t) ≡ record { answer = Ok tt; line = s }) ↔ DraftedRight day kind t fs s
  drafted_exactly fs s = (
    (λ (e : drafted day kind t (spots t) fs (bare_line t) ≡ record { answer = Ok tt; line = s }).
        rw e at (drafted_right fs (ap (λ (d : Draft). d.answer) e))),
    (λ (w : DraftedRight day kind t fs s).
        drafted_by_fields day kind t (spots t) fs (parts_of_line t s) (bare_line t) (λ k h. sym (w.holds k h) ∙ sym (part_at_lem t s k)) ∙
        right_drafted s w.typed w.right w.plain),
  )

-- ---------------------------------------------------------------------------
-- Fields lent from a line's parts

module _ (t : LineType) (s : List ℕ) where
  -- one behind the other, with the places' sizes, they are lent as themselves
  pub fields_of_parts : length s ≡ 1002 → fields_of (sizes_of t) (joined (parts_of_line t s)) ≡ parts_of_line t s
  fields_of_parts h = rw (← (parts_sized t 0 (spots t) (places_rising t) s h)) (fields_joined (parts_of_line t s))
