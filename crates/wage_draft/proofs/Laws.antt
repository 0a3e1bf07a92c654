-- Laws of a line being drafted: the fields put at their places; what a rule looks at besides its own field; and what a draft changes and leaves.
-- Assumes nothing.
use Rattle.refusal.proofs.Basics.{◌≡◌, refl, sym, ap, ◌∙◌, arith, ℕ, zero, suc, ◌+◌, ◌-◌, ◌≤◌, ◌<◌, length, length-replicate, length-take, length-drop, replicate, take, drop, get_or, eq-eqb, ne_eqb, eqb-true, eqb-false, leb-true, ltb-true, ltb-false, List, [], ◌∷◌, ◌++◌, map, append-nil, Bool, true, false, ◌&&◌, eqb, leb, ltb, sets, drop-cons, drop-length, take-nil, take-take, inr, add-one, both_true}
use Rattle.std.specs.Prelude.{Ok, Err, min}
use Rattle.std.proofs.lemmas.List.{nil_from_length}
use Rattle.refusal.specs.Refusal.{Answer}
use Rattle.refusal.specs.declared.Refusal.{Refusal}
use Rattle.verdict.proofs.Verdicts.{first_both}
use Rattle.room.proofs.Places.{sets_length, front, take_sets, drop_sets, place_filled, set_own, sets_over, sets_apart}
use Rattle.wage_places.specs.declared.LineType.{LineType}
use Rattle.wage_places.specs.declared.Spot.{Spot}
use Rattle.wage_places.specs.declared.LineType.TheVariants.{Label, Group, Order, Closing}
use Rattle.wage_places.specs.Places.{no_spot, spots, spot_in, spot_of, part_at, part_of}
use Rattle.wage_places.proofs.Laws.{part_length}
use Rattle.label_rules.specs.Rules.{label_rule}
use Rattle.order_rules.specs.Rules.{order_rule}
use Rattle.wage_fields.specs.Rules.{rule_verdict, place_verdict, place_answer, places_from}
use Rattle.wage_fields.proofs.Laws.{accept_both}
use Rattle.lent_fields.specs.Fields.{fields_of, FieldEnd}
use Rattle.lent_fields.proofs.Laws.{field_from, fields_on}
use Rattle.wage_draft.specs.Draft.{Draft, wrong_length, placed, going_on, drafted, in_scratch, blanked, Drafts, DraftsRight}

-- ---------------------------------------------------------------------------
-- Places from one on

module _ (day kind : ℕ) (t : LineType) where
  -- the first place takes the first field, an empty one if there is none
  pub drafted_first :
      (p : Spot) (ps : List Spot) (fs : List (List ℕ)) (line : List ℕ) → drafted day kind t (p ∷ ps) fs line
      ≡ going_on (placed day kind t p (get_or fs 0 []) line).answer (placed day kind t p (get_or fs 0 []) line) (drafted day kind t ps (drop 1 fs) (placed day kind t p (get_or fs 0 []) line).line)
  unfolding drafted
  drafted_first p ps [] line = refl
  drafted_first p ps (f ∷ fs) line = refl

module _ (day kind : ℕ) (t : LineType) (ps : List Spot) (last k : ℕ) (sizes : List ℕ) (i : ℕ) (text : List ℕ) (at : ℕ) (line : List ℕ) where
  -- what is left to be drafted from a place on, with the fields from one on
  abbrev pub Left : Draft
  Left = drafted day kind t (take (last - k) (drop k ps)) (fields_of (drop i sizes) (drop at text)) line

  -- no place is left, or the line has no more: what stands is the draft
  pub draft_done : min last (length ps) ≤ k → Drafts Left (Ok tt) line
  unfolding drafted
  draft_done h =
      let l : length (take (last - k) (drop k ps)) ≡ 0 = simp (length-take, length-drop) (omega arith) in
      rw (nil_from_length (take (last - k) (drop k ps)) l) (record { answers = refl; leaves = refl })

  module _ (end : ℕ) (ended : FieldEnd text at (get_or sizes i 0) end) (more : k < last) (known : k < length ps) where
    -- the next place
    left_next :
        Left ≡ going_on (placed day kind t (get_or ps k no_spot) (take (end - at) (drop at text)) line).answer (placed day kind t (get_or ps k no_spot) (take (end - at) (drop at text)) line) (drafted day kind t (take (last - (k + 1)) (drop (k + 1) ps)) (fields_of (drop (i + 1) sizes) (drop end text)) (placed day kind t (get_or ps k no_spot) (take (end - at) (drop at text)) line).line)
    left_next =
        let e : last - k ≡ suc (last - (k + 1)) = omega arith in
        rw (drop-cons ps k no_spot known, e, ended.field, ended.rest, ← (field_from sizes i (drop at text)), ← (fields_on sizes i (drop at text)), ← (add-one k))
        (drafted_first day kind t (get_or ps k no_spot) (take (last - (k + 1)) (drop (k + 1) ps)) (fields_of (drop i sizes) (drop at text)) line)

    -- it was refused: that is the draft
    pub draft_stops :
        (r : Answer) (after : List ℕ) → Drafts (placed day kind t (get_or ps k no_spot) (take (end - at) (drop at text)) line) r after
        → (q : Refusal) → r ≡ Err q → Drafts Left (Err q) after
    draft_stops r after w q e =
        let f : (placed day kind t (get_or ps k no_spot) (take (end - at) (drop at text)) line).answer ≡ Err q = sym w.answers ∙ e in
        rw (left_next, f) (record { answers = sym f; leaves = w.leaves })

-- the place was accepted: what is left is drafted
pub draft_on :
    (day kind : ℕ) (t : LineType) (ps : List Spot) (last k : ℕ) (sizes : List ℕ) (i : ℕ) (text : List ℕ) (at : ℕ) (line : List ℕ)
    (end : ℕ) → FieldEnd text at (get_or sizes i 0) end → k < last → k < length ps
    → (r : Answer) (after : List ℕ) → Drafts (placed day kind t (get_or ps k no_spot) (take (end - at) (drop at text)) line) r after
    → r ≡ Ok tt → Left day kind t ps last k sizes i text at line ≡ Left day kind t ps last (k + 1) sizes (i + 1) text end after
draft_on day kind t ps last k sizes i text at line end ended more known r after w e =
    let f : (placed day kind t (get_or ps k no_spot) (take (end - at) (drop at text)) line).answer ≡ (Ok tt) = sym w.answers ∙ e in
    left_next day kind t ps last k sizes i text at line end ended more known ∙ rw (f, w.leaves)

-- ---------------------------------------------------------------------------
-- Drafts in scratch room

-- a whole line put over another of its size
pub put_whole : (s f : List ℕ) → length f ≡ length s → sets s 0 f ≡ f
put_whole s f e = front s f (omega arith) ∙ rw (e, drop-length s) (append-nil f)

module _ (line : List ℕ) (d : Draft) (whole : length line ≡ 1002) (r : Answer) (after : List ℕ) where
  -- what the caller of a draft goes by
  pub drafts_right : Drafts (in_scratch line d) r after → DraftsRight d r after
  unfolding in_scratch
  drafts_right w = go d.answer refl (rw (eq-eqb (length line) 1002 whole) at w)
    where
      other : {q : Refusal} → r ≡ Ok tt → r ≡ Err q → after ≡ d.line
      other h g = let z : ◌≡◌ {A = ℕ} 0 1 = cc in absurd (omega arith)

      go : (a : Answer) → d.answer ≡ a → Drafts (going_on d.answer (record { answer = d.answer; line = line }) d) r after → DraftsRight d r after
      go (Ok u) e v =
          let u : Drafts (record { answer = Ok tt; line = d.line }) r after = rw e at v in
          record { answers = u.answers ∙ sym e; leaves = λ (h : r ≡ Ok tt). u.leaves }
      go (Err q) e v =
          let u : Drafts (record { answer = Err q; line = line }) r after = rw e at v in
          record { answers = u.answers ∙ sym e; leaves = λ (h : r ≡ Ok tt). other h u.answers }

-- ---------------------------------------------------------------------------
-- Going on, and the fields that a draft reads

-- what stands behind the first field
pub later_field : (fs : List (List ℕ)) (k : ℕ) → get_or (drop 1 fs) k [] ≡ get_or fs (suc k) []
later_field [] k = refl
later_field (f ∷ fs) k = refl

-- going on twice
pub going_twice :
    (next : Draft → Draft) (d e : Draft) (a : Answer) → d.answer ≡ a
    → going_on a d (going_on e.answer e (next e)) ≡ going_on (going_on a d e).answer (going_on a d e) (next (going_on a d e))
going_twice next d e (Ok u) h = refl
going_twice next d e (Err r) h = rw h

module _ (day kind : ℕ) (t : LineType) where
  -- where there are no places, nothing is put
  pub no_places : (fs : List (List ℕ)) (line : List ℕ) → drafted day kind t [] fs line ≡ record { answer = Ok tt; line = line }
  unfolding drafted
  no_places fs line = refl

-- empty fields behind some
pub empty_fields : (fs : List (List ℕ)) (n k : ℕ) → get_or (fs ++ replicate n []) k [] ≡ get_or fs k []
empty_fields [] zero k = refl
empty_fields [] (suc n) zero = refl
empty_fields [] (suc n) (suc k) = empty_fields [] n k
empty_fields (f ∷ fs) n zero = refl
empty_fields (f ∷ fs) n (suc k) = empty_fields fs n k

-- ---------------------------------------------------------------------------
-- What a rule looks at besides its own field

module _ (day kind : ℕ) where
  -- no rule looks at a field behind its own
  pub rule_by_earlier :
      (t : LineType) (n : ℕ) (f s u : List ℕ) → ((m : ℕ) → m ≤ n → part_of t m s ≡ part_of t m u) → rule_verdict day kind t n f s ≡ rule_verdict day kind t n f u
  rule_by_earlier Label n f s u h = go (eqb n 7) refl
    where
      go : (b : Bool) → eqb n 7 ≡ b → label_rule day n f s ≡ label_rule day n f u
      go true e = let z = eqb-true n 7 e in rw (h 5 (omega arith), h 6 (omega arith))
      go false e = rw e
  rule_by_earlier Group n f s u h = refl
  rule_by_earlier Order n f s u h = go (ltb n 7) (ltb n 12) refl refl
    where
      go : (b c : Bool) → ltb n 7 ≡ b → ltb n 12 ≡ c → order_rule kind n f s ≡ order_rule kind n f u
      go true c e g =
          let l = ltb-true n 7 e in
          rw (ne_eqb n 7 (λ z. absurd (omega arith)), ne_eqb n 12 (λ z. absurd (omega arith)), ne_eqb n 22 (λ z. absurd (omega arith)))
      go false true e g =
          let l = ltb-false n 7 e in
          let m = ltb-true n 12 g in
          rw (h 6 (omega arith), ne_eqb n 12 (λ z. absurd (omega arith)), ne_eqb n 22 (λ z. absurd (omega arith)))
      go false false e g = let l = ltb-false n 12 g in rw (h 6 (omega arith), h 11 (omega arith))
  rule_by_earlier Closing n f s u h = refl

-- a part that ends in the first n bytes is one of these
part_early : (s : List ℕ) (start size n : ℕ) → start + size ≤ n → take size (drop start (take n s)) ≡ take size (drop start s)
part_early s zero size n h = take-take size n s (omega arith)
part_early [] (suc start) size n h = rw take-nil
part_early (b ∷ s) (suc start) size zero h = absurd (omega arith)
part_early (b ∷ s) (suc start) size (suc n) h = part_early s start size n (omega arith)

-- a place within the first n bytes has the same part in lines that are equal there
pub part_ahead : (p : Spot) (n : ℕ) (s u : List ℕ) → p.start + p.size ≤ n → take n s ≡ take n u → part_at p s ≡ part_at p u
part_ahead p n s u h e = sym (part_early s p.start p.size n h) ∙ ap (part_at p) e ∙ part_early u p.start p.size n h

-- fields up to its own number end where a place ends, or before
abbrev pub Ahead : LineType → Spot → Type 0
Ahead t p = (m : ℕ) → m ≤ p.field → (spot_of t m).start + (spot_of t m).size ≤ p.start + p.size

-- a place is judged by the bytes up to its end
pub place_by_ahead :
    (day kind : ℕ) (t : LineType) (p : Spot) (s u : List ℕ) → Ahead t p → length s ≡ length u → take (p.start + p.size) s ≡ take (p.start + p.size) u
    → place_answer day kind t p s ≡ place_answer day kind t p u
unfolding place_answer place_verdict
place_by_ahead day kind t p s u h l e =
    let n = p.start + p.size in
    rw (l, part_ahead p n s u (omega arith) e, rule_by_earlier day kind t p.field (part_at p u) s u (λ m g. let w = h m g in part_ahead (spot_of t m) n s u (omega arith) e))

-- ---------------------------------------------------------------------------
-- Places in their order

-- places from byte n on: they ascend, do not overlap, and end before the type; so do the fields before each
abbrev pub Rising : LineType → ℕ → List Spot → Type 0
Rising t n [] = n ≤ 997
Rising t n (p ∷ ps) = (n ≤ p.start) × (Ahead t p × Rising t (p.start + p.size) ps)

-- the numbers below n pass a test
below : (ℕ → Bool) → ℕ → Bool
below f zero = true
below f (suc n) = f n && below f n

-- so does each
below_at : (f : ℕ → Bool) (n m : ℕ) → below f n ≡ true → m < n → f m ≡ true
unfolding below
below_at f zero m e h = absurd (omega arith)
below_at f (suc n) m e h = let b = both_true (f n) (below f n) e in go (eqb m n) refl b.0 (λ g. below_at f n m b.1 g)
  where
    go : (c : Bool) → eqb m n ≡ c → f n ≡ true → (m < n → f m ≡ true) → f m ≡ true
    go true g x y = rw (eqb-true m n g) x
    go false g x y = let z = eqb-false m n g in y (omega arith)

-- the same as a test
rises : LineType → ℕ → List Spot → Bool
rises t n [] = leb n 997
rises t n (p ∷ ps) = leb n p.start && (below (λ m. leb ((spot_of t m).start + (spot_of t m).size) (p.start + p.size)) (suc p.field) && rises t (p.start + p.size) ps)

-- the test is right
is_rising : (t : LineType) (n : ℕ) (ps : List Spot) → rises t n ps ≡ true → Rising t n ps
unfolding rises
is_rising t n [] e = leb-true n 997 e
is_rising t n (p ∷ ps) e =
    let f : ℕ → Bool = λ m. leb ((spot_of t m).start + (spot_of t m).size) (p.start + p.size) in
    let b = both_true (leb n p.start) (below f (suc p.field) && rises t (p.start + p.size) ps) e in
    let d = both_true (below f (suc p.field)) (rises t (p.start + p.size) ps) b.1 in
    (leb-true n p.start b.0, ((λ m h. leb-true ((spot_of t m).start + (spot_of t m).size) (p.start + p.size) (below_at f (suc p.field) m d.0 (omega arith))), is_rising t (p.start + p.size) ps d.1))

-- each table passes it
all_rise : (t : LineType) → rises t 0 (spots t) ≡ true
unfolding rises below spots spot_in
all_rise Label = refl
all_rise Group = refl
all_rise Order = refl
all_rise Closing = refl

-- the places of each type are so
pub places_rising : (t : LineType) → Rising t 0 (spots t)
places_rising t = is_rising t 0 (spots t) (all_rise t)

-- where they begin is before the type
pub rising_within : (t : LineType) (n : ℕ) (ps : List Spot) → Rising t n ps → n ≤ 997
rising_within t n [] h = h
rising_within t n (p ∷ ps) h = let g = rising_within t (p.start + p.size) ps h.1.1 in let i = h.0 in omega arith

-- ---------------------------------------------------------------------------
-- What a draft leaves as it was

-- as many bytes, the same in the first n and from the type on
pub record Kept (n : ℕ) (before after : List ℕ) : Type 0 where
  pub whole : length after ≡ length before
  pub ahead : take n after ≡ take n before
  pub rest : drop 997 after ≡ drop 997 before

-- nothing was done
kept_none : (n : ℕ) (s : List ℕ) → Kept n s s
kept_none n s = record { whole = refl; ahead = refl; rest = refl }

-- one after the other
kept_both : (n m : ℕ) (s u v : List ℕ) → n ≤ m → Kept n s u → Kept m u v → Kept n s v
kept_both n m s u v h a b =
    record {
      whole = b.whole ∙ a.whole;
      ahead = sym (take-take n m v h) ∙ ap (take n) b.ahead ∙ take-take n m u h ∙ a.ahead;
      rest = b.rest ∙ a.rest;
    }

-- a text between the first n bytes and the type
sets_kept : (n : ℕ) (s : List ℕ) (at : ℕ) (f : List ℕ) → n ≤ at → at + length f ≤ 997 → Kept n s (sets s at f)
sets_kept n s at f h g = record { whole = sets_length s at f; ahead = take_sets s at f n h; rest = drop_sets s at f 997 g }

module _ (day kind : ℕ) (t : LineType) where
  -- one place
  placed_kept : (n : ℕ) (p : Spot) (f line : List ℕ) → n ≤ p.start → p.start + p.size ≤ 997 → Kept n line (placed day kind t p f line).line
  placed_kept n p f line h g = go (eqb (length f) p.size) refl
    where
      go : (b : Bool) → eqb (length f) p.size ≡ b → Kept n line (placed day kind t p f line).line
      go true e = let z = eqb-true (length f) p.size e in rw e (sets_kept n line p.start f h (omega arith))
      go false e = rw e (kept_none n line)

  -- places from n on
  pub drafted_kept : (n : ℕ) (ps : List Spot) → Rising t n ps → (fs : List (List ℕ)) (line : List ℕ) → Kept n line (drafted day kind t ps fs line).line
  drafted_kept n [] h fs line = rw (no_places day kind t fs line) (kept_none n line)
  drafted_kept n (p ∷ ps) h fs line =
      let d = placed day kind t p (get_or fs 0 []) line in
      let e = drafted day kind t ps (drop 1 fs) d.line in
      let m = p.start + p.size in
      let a = placed_kept n p (get_or fs 0 []) line h.0 (rising_within t m ps h.1.1) in
      let z = h.0 in
      rw (drafted_first day kind t p ps fs line) (go d e a (kept_both n m line d.line e.line (omega arith) a (drafted_kept m ps h.1.1 (drop 1 fs) d.line)) d.answer)
    where
      go : (d e : Draft) → Kept n line d.line → Kept n line e.line → (a : Answer) → Kept n line (going_on a d e).line
      go d e x y (Ok u) = y
      go d e x y (Err r) = x

-- ---------------------------------------------------------------------------
-- An accepted draft

-- what was accepted went on
went_on : (a : Answer) (d e : Draft) → d.answer ≡ a → (going_on a d e).answer ≡ Ok tt → (a ≡ Ok tt) × (going_on a d e ≡ e)
went_on (Ok u) d e h g = (refl, refl)
went_on (Err r) d e h g = let z : ◌≡◌ {A = ℕ} 0 1 = cc in absurd (omega arith)

-- a field was accepted: it has the place's size, it was put, and judged there
pub record Placed (day kind : ℕ) (t : LineType) (p : Spot) (f line after : List ℕ) : Type 0 where
  pub sized : length f ≡ p.size
  pub put : after ≡ sets line p.start f
  pub right : place_answer day kind t p after ≡ Ok tt

-- each field stands at its place, and each place is accepted
pub record Written (day kind : ℕ) (t : LineType) (ps : List Spot) (fs : List (List ℕ)) (line : List ℕ) : Type 0 where
  pub holds : (k : ℕ) → k < length ps → part_at (get_or ps k no_spot) line ≡ get_or fs k []
  pub right : places_from day kind t ps line ≡ Ok tt

module _ (day kind : ℕ) (t : LineType) where
  -- a field that is accepted was put
  pub placed_accepted : (p : Spot) (f line : List ℕ) → (placed day kind t p f line).answer ≡ Ok tt → Placed day kind t p f line (placed day kind t p f line).line
  placed_accepted p f line h = go (eqb (length f) p.size) refl
    where
      go : (b : Bool) → eqb (length f) p.size ≡ b → Placed day kind t p f line (placed day kind t p f line).line
      go true e = rw e (record { sized = eqb-true (length f) p.size e; put = refl; right = rw e at h })
      go false e = let g : wrong_length p ≡ (Ok tt) = rw e at h in let z : ◌≡◌ {A = ℕ} 0 1 = cc in absurd (omega arith)

  -- no places, all accepted
  places_none : (s : List ℕ) → places_from day kind t [] s ≡ Ok tt
  unfolding places_from
  places_none s = refl

  -- one more
  places_more : (p : Spot) (ps : List Spot) (s : List ℕ) → place_answer day kind t p s ≡ Ok tt → places_from day kind t ps s ≡ Ok tt → places_from day kind t (p ∷ ps) s ≡ Ok tt
  unfolding places_from
  places_more p ps s e f = accept_both (place_answer day kind t p s) (places_from day kind t ps s) e f

  -- the first, and the others
  places_each : (p : Spot) (ps : List Spot) (s : List ℕ) → places_from day kind t (p ∷ ps) s ≡ Ok tt → (place_answer day kind t p s ≡ Ok tt) × (places_from day kind t ps s ≡ Ok tt)
  unfolding places_from
  places_each p ps s e = first_both (place_answer day kind t p s) (places_from day kind t ps s) e

  -- one more field stands at its place
  written_more :
      (p : Spot) (ps : List Spot) (fs : List (List ℕ)) (line : List ℕ) → part_at p line ≡ get_or fs 0 [] → place_answer day kind t p line ≡ Ok tt
      → Written day kind t ps (drop 1 fs) line → Written day kind t (p ∷ ps) fs line
  written_more p ps fs line e f w = record { holds = at; right = places_more p ps line f w.right }
    where
      at : (k : ℕ) → k < length (p ∷ ps) → part_at (get_or (p ∷ ps) k no_spot) line ≡ get_or fs k []
      at zero h = e
      at (suc k) h = w.holds k (omega arith) ∙ later_field fs k

  -- an accepted draft holds each field at its place, and each place is right
  pub drafted_accepted :
      (n : ℕ) (ps : List Spot) → Rising t n ps → (fs : List (List ℕ)) (line : List ℕ) → length line ≡ 1002 → (drafted day kind t ps fs line).answer ≡ Ok tt
      → Written day kind t ps fs (drafted day kind t ps fs line).line
  drafted_accepted n [] h fs line l e = record { holds = λ k g. absurd (omega arith); right = places_none (drafted day kind t [] fs line).line }
  drafted_accepted n (p ∷ ps) h fs line l e =
      let f = get_or fs 0 [] in
      let d = placed day kind t p f line in
      let x = drafted day kind t ps (drop 1 fs) d.line in
      let m = p.start + p.size in
      let w = went_on d.answer d x refl (rw (drafted_first day kind t p ps fs line) at e) in
      let q : drafted day kind t (p ∷ ps) fs line ≡ x = drafted_first day kind t p ps fs line ∙ w.1 in
      let v = placed_accepted p f line w.0 in
      let r = rising_within t m ps h.1.1 in
      let a = drafted_kept day kind t m ps h.1.1 (drop 1 fs) d.line in
      rw q
      (written_more p ps fs x.line (part_ahead p m x.line d.line (omega arith) a.ahead ∙ ap (part_at p) v.put ∙ place_filled line p.start p.size f v.sized (omega arith))
      (place_by_ahead day kind t p x.line d.line h.1.0 a.whole a.ahead ∙ v.right)
      (drafted_accepted m ps h.1.1 (drop 1 fs) d.line (ap length v.put ∙ sets_length line p.start f ∙ l) (rw q at e)))

-- ---------------------------------------------------------------------------
-- Lines with blanks at some places

-- no places
blanked_none : (s : List ℕ) → blanked [] s ≡ s
unfolding blanked
blanked_none s = refl

module _ (t : LineType) where
  -- apart from the places nothing changes
  pub blanked_kept : (n : ℕ) (ps : List Spot) → Rising t n ps → (s : List ℕ) → Kept n s (blanked ps s)
  unfolding blanked
  blanked_kept n [] h s = kept_none n s
  blanked_kept n (p ∷ ps) h s =
      let m = p.start + p.size in
      let b : List ℕ = replicate p.size 32 in
      let i : length b ≡ p.size = length-replicate p.size 32 in
      let r = rising_within t m ps h.1.1 in
      let z = h.0 in
      kept_both n m s (sets s p.start b) (blanked ps (sets s p.start b)) (omega arith) (sets_kept n s p.start b h.0 (omega arith)) (blanked_kept m ps h.1.1 (sets s p.start b))

  -- what is put before the places is put before or after blanking them
  pub blanked_apart : (n : ℕ) (ps : List Spot) → Rising t n ps → (s : List ℕ) (at : ℕ) (f : List ℕ) → at + length f ≤ n → sets (blanked ps s) at f ≡ blanked ps (sets s at f)
  unfolding blanked
  blanked_apart n [] h s at f g = refl
  blanked_apart n (p ∷ ps) h s at f g =
      let m = p.start + p.size in
      let b : List ℕ = replicate p.size 32 in
      let z = h.0 in
      blanked_apart m ps h.1.1 (sets s p.start b) at f (omega arith) ∙ ap (blanked ps) (sets_apart s p.start b at f (inr (omega arith)))

  -- a place's own bytes over blanks
  own_back : (n : ℕ) (p : Spot) (ps : List Spot) → Rising t n (p ∷ ps) → (s : List ℕ) → length s ≡ 1002 → sets (blanked (p ∷ ps) s) p.start (part_at p s) ≡ blanked ps s
  unfolding blanked
  own_back n p ps h s l =
      let m = p.start + p.size in
      let b : List ℕ = replicate p.size 32 in
      let r = rising_within t m ps h.1.1 in
      let f = part_length p s (omega arith) in
      blanked_apart m ps h.1.1 (sets s p.start b) p.start (part_at p s) (omega arith) ∙
      ap (blanked ps) (sets_over s p.start (part_at p s) b (f ∙ sym (length-replicate p.size 32)) ∙ set_own s p.start p.size (omega arith))

  -- blanks over a field of the place's size
  blank_over : (day kind : ℕ) (p : Spot) (f line : List ℕ) → sets (placed day kind t p f line).line p.start (replicate p.size 32) ≡ sets line p.start (replicate p.size 32)
  blank_over day kind p f line = go (eqb (length f) p.size) refl
    where
      go : (b : Bool) → eqb (length f) p.size ≡ b → sets (placed day kind t p f line).line p.start (replicate p.size 32) ≡ sets line p.start (replicate p.size 32)
      go true e = rw e (sets_over line p.start (replicate p.size 32) f (length-replicate p.size 32 ∙ sym (eqb-true (length f) p.size e)))
      go false e = rw e

module _ (day kind : ℕ) (t : LineType) where
  -- a draft changes nothing but the places
  pub drafted_plain : (n : ℕ) (ps : List Spot) → Rising t n ps → (fs : List (List ℕ)) (line : List ℕ) → blanked ps (drafted day kind t ps fs line).line ≡ blanked ps line
  unfolding blanked
  drafted_plain n [] h fs line = rw (no_places day kind t fs line)
  drafted_plain n (p ∷ ps) h fs line =
      let d = placed day kind t p (get_or fs 0 []) line in
      let x = drafted day kind t ps (drop 1 fs) d.line in
      let m = p.start + p.size in
      let b : List ℕ = replicate p.size 32 in
      let i : length b ≡ p.size = length-replicate p.size 32 in
      let o = ap (blanked ps) (blank_over t day kind p (get_or fs 0 []) line) in
      let on : blanked ps (sets x.line p.start b) ≡ blanked ps (sets line p.start b) =
      sym (blanked_apart t m ps h.1.1 x.line p.start b (omega arith)) ∙
      ap (λ (s : List ℕ). sets s p.start b) (drafted_plain m ps h.1.1 (drop 1 fs) d.line) ∙
      blanked_apart t m ps h.1.1 d.line p.start b (omega arith) ∙ o in
      rw (drafted_first day kind t p ps fs line) (go d x o on d.answer)
    where
      go :
          (d x : Draft) → blanked (p ∷ ps) d.line ≡ blanked (p ∷ ps) line → blanked (p ∷ ps) x.line ≡ blanked (p ∷ ps) line →
          (a : Answer) → blanked (p ∷ ps) (going_on a d x).line ≡ blanked (p ∷ ps) line
      go d x e f (Ok u) = f
      go d x e f (Err r) = e

  -- a line's own parts, put at its places over blanks, give it back
  pub parts_drafted :
      (n : ℕ) (ps : List Spot) → Rising t n ps → (s : List ℕ) → length s ≡ 1002 → places_from day kind t ps s ≡ Ok tt
      → drafted day kind t ps (map (λ (p : Spot). part_at p s) ps) (blanked ps s) ≡ record { answer = Ok tt; line = s }
  parts_drafted n [] h s l e = no_places day kind t [] (blanked [] s) ∙ none_blanked
    where
      none_blanked : ◌≡◌ {A = Draft} (record { answer = Ok tt; line = blanked [] s }) (record { answer = Ok tt; line = s })
      none_blanked = rw blanked_none
  parts_drafted n (p ∷ ps) h s l e =
      let m = p.start + p.size in
      let r = rising_within t m ps h.1.1 in
      let w = places_each day kind t p ps s e in
      let f = part_length p s (omega arith) in
      let b = blanked_kept t m ps h.1.1 s in
      let a = place_by_ahead day kind t p (blanked ps s) s h.1.0 b.whole b.ahead ∙ w.0 in
      drafted_first day kind t p ps (map (λ (q : Spot). part_at q s) (p ∷ ps)) (blanked (p ∷ ps) s) ∙
      rw (eq-eqb (length (part_at p s)) p.size f, own_back t n p ps h s l, a) (parts_drafted m ps h.1.1 s l w.1)

-- ---------------------------------------------------------------------------
-- Fields from parts

-- the parts of a line have their places' sizes
pub parts_sized : (t : LineType) (n : ℕ) (ps : List Spot) → Rising t n ps → (s : List ℕ) → length s ≡ 1002 → map (λ (f : List ℕ). length f) (map (λ (p : Spot). part_at p s) ps) ≡ map (λ (p : Spot). p.size) ps
parts_sized t n [] h s l = refl
parts_sized t n (p ∷ ps) h s l =
    let m = p.start + p.size in
    let r = rising_within t m ps h.1.1 in
    rw (part_length p s (omega arith), parts_sized t m ps h.1.1 s l)
