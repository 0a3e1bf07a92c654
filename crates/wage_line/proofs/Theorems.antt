-- What is promised of a line of the wage file: its type exactly when, and what it hands back.
-- Assumes nothing.
use Rattle.refusal.proofs.Basics.{◌≡◌, refl, sym, ◌∙◌, arith, ℕ, ◌<◌, length, take, drop, get_or, eq-eqb, eqb-true, List, [], ◌∷◌, Bool, true, false, cond, eqb, ◌↔◌, chosen, entered, and_second, both_true}
use Rattle.std.specs.Prelude.{Result, Ok, Err}
use Rattle.refusal.specs.Refusal.{none, refusal_number}
use Rattle.refusal.specs.declared.Refusal.{Refusal}
use Rattle.refusal.specs.declared.Refusal.TheVariants.{Size, Ends}
use Rattle.wage_places.specs.declared.LineType.{LineType}
use Rattle.wage_places.specs.declared.LineType.TheVariants.{Label, Group, Order, Closing}
use Rattle.wage_places.specs.Places.{spots, spot_of, part_of}
use Rattle.wage_line.specs.Line.{ends_right, wrong_type, type_from, type_text, type_of, typed_of, place_of}
use Rattle.wage_line.proofs.Laws.{last_three, last_two}
use Rattle.wage_places.proofs.Theorems.{field_size, place_at, unknown_spot}

-- ---------------------------------------------------------------------------
-- A line has a type exactly when

-- 1,002 bytes, the type's digits at 998 to 1000, and CR LF
pub record TypedAs (t : LineType) (s : List ℕ) : Type 0 where
  pub whole : length s ≡ 1002
  pub digits : take 3 (drop 997 s) ≡ type_text t
  pub ends : drop 1000 s ≡ 13 ∷ (10 ∷ [])

-- the digits of a type are read as that type
digits_type : (t : LineType) (a b c : ℕ) → a ∷ (b ∷ (c ∷ [])) ≡ type_text t → Ok t ≡ type_from a b c
unfolding type_from type_text
digits_type Label a b c e = let x : a ≡ 51 = cc in let y : b ≡ 48 = cc in let z : c ≡ 48 = cc in rw (x, y, z)
digits_type Group a b c e = let x : a ≡ 51 = cc in let y : b ≡ 48 = cc in let z : c ≡ 49 = cc in rw (x, y, z)
digits_type Order a b c e = let x : a ≡ 51 = cc in let y : b ≡ 48 = cc in let z : c ≡ 57 = cc in rw (x, y, z)
digits_type Closing a b c e = let x : a ≡ 51 = cc in let y : b ≡ 57 = cc in let z : c ≡ 57 = cc in rw (x, y, z)

-- and nothing else is
type_digits : (t : LineType) (a b c : ℕ) → type_from a b c ≡ Ok t → a ∷ (b ∷ (c ∷ [])) ≡ type_text t
unfolding type_from type_text
type_digits t a b c = go (eqb a 51) (eqb b 48) (eqb b 57) (eqb c 48) (eqb c 49) (eqb c 57) refl refl refl refl refl refl
  where
    told : (u : LineType) (x y z : ℕ) → type_text u ≡ x ∷ (y ∷ (z ∷ [])) → eqb a x ≡ true → eqb b y ≡ true → eqb c z ≡ true → ◌≡◌ {A = Result LineType Refusal} (Ok u) (Ok t) → a ∷ (b ∷ (c ∷ [])) ≡ type_text t
    told u x y z w f g h e =
        let i : u ≡ t = cc in
        rw (← i, w, eqb-true a x f, eqb-true b y g, eqb-true c z h)

    go :
        (a3 b0 b9 c0 c1 c9 : Bool) → eqb a 51 ≡ a3 → eqb b 48 ≡ b0 → eqb b 57 ≡ b9 → eqb c 48 ≡ c0 → eqb c 49 ≡ c1 → eqb c 57 ≡ c9 →
        cond a3 (cond b0 (cond c0 (Ok Label) (cond c1 (Ok Group) (cond c9 (Ok Order) wrong_type))) (cond b9 (cond c9 (Ok Closing) wrong_type) wrong_type)) wrong_type ≡ Ok t →
        a ∷ (b ∷ (c ∷ [])) ≡ type_text t
    go true true b9 true c1 c9 f g h i j k e = told Label 51 48 48 refl f g i e
    go true true b9 false true c9 f g h i j k e = told Group 51 48 49 refl f g j e
    go true true b9 false false true f g h i j k e = told Order 51 48 57 refl f g k e
    go true true b9 false false false f g h i j k e = let z : ◌≡◌ {A = ℕ} 0 1 = cc in absurd (omega arith)
    go true false true c0 c1 true f g h i j k e = told Closing 51 57 57 refl f h k e
    go true false true c0 c1 false f g h i j k e = let z : ◌≡◌ {A = ℕ} 0 1 = cc in absurd (omega arith)
    go true false false c0 c1 c9 f g h i j k e = let z : ◌≡◌ {A = ℕ} 0 1 = cc in absurd (omega arith)
    go false b0 b9 c0 c1 c9 f g h i j k e = let z : ◌≡◌ {A = ℕ} 0 1 = cc in absurd (omega arith)

-- a refusal is no type
refused_no_type : (q : Refusal) (t : LineType) → Err q ≡ Ok t → ⊥
refused_no_type q t e = let z : ◌≡◌ {A = ℕ} 0 1 = cc in omega arith

module _ (t : LineType) (s : List ℕ) where
  -- what has a type is as said
  typed_as : typed_of s ≡ Ok t → TypedAs t s
  unfolding typed_of
  typed_as e =
      let f = chosen (eqb (length s) 1002) _ _ _ (refused_no_type (Size none) t) e in
      let g = chosen (ends_right s) _ _ _ (refused_no_type (Ends none) t) f.1 in
      let h = both_true (eqb (get_or s 1000 0) 13) (eqb (get_or s 1001 0) 10) g.0 in
      let w = eqb-true (length s) 1002 f.0 in
      record {
        whole = w;
        digits = last_three s w ∙ type_digits t (get_or s 997 0) (get_or s 998 0) (get_or s 999 0) g.1;
        ends = last_two s w ∙ rw (eqb-true (get_or s 1000 0) 13 h.0, eqb-true (get_or s 1001 0) 10 h.1);
      }

  -- what is as said has that type
  as_typed : TypedAs t s → typed_of s ≡ Ok t
  unfolding typed_of
  as_typed w =
      let e : get_or s 1000 0 ∷ (get_or s 1001 0 ∷ []) ≡ 13 ∷ (10 ∷ []) = sym (last_two s w.whole) ∙ w.ends in
      let f : get_or s 1000 0 ≡ 13 = cc in
      let g : get_or s 1001 0 ≡ 10 = cc in
      sym (entered (eqb (length s) 1002) (cond (ends_right s) (type_of s) (Err (Ends none))) (Err (Size none)) (Ok t) (eq-eqb (length s) 1002 w.whole)
      (entered (ends_right s) (type_of s) (Err (Ends none)) (Ok t)
      (sym (and_second (eqb (get_or s 1000 0) 13) (eqb (get_or s 1001 0) 10) true (eq-eqb (get_or s 1000 0) 13 f) (sym (eq-eqb (get_or s 1001 0) 10 g))))
      (digits_type t (get_or s 997 0) (get_or s 998 0) (get_or s 999 0) (sym (last_three s w.whole) ∙ w.digits))))

  -- a line has a type exactly when it is as said
  pub typed_exactly : (typed_of s ≡ Ok t) ↔ TypedAs t s
  typed_exactly = (typed_as, as_typed)

-- ---------------------------------------------------------------------------
-- What a line hands back

module _ (s : List ℕ) (n : ℕ) where
  -- of a line with a type, the part of the field's place
  pub place_typed : (t : LineType) → typed_of s ≡ Ok t → place_of s n ≡ part_of t n s
  unfolding place_of
  place_typed t e = rw e

  -- and so as many bytes as the place has
  pub place_length : (t : LineType) → typed_of s ≡ Ok t → length (place_of s n) ≡ (spot_of t n).size
  place_length t e = rw (place_typed t e) (field_size t s ((typed_exactly t s).0 e).whole n)

  -- of a line that 1, 2 or 5 refuses, nothing
  pub place_refused : (r : Refusal) → typed_of s ≡ Err r → place_of s n ≡ []
  unfolding place_of
  place_refused r e = rw e

  -- of an unknown number, nothing
  pub place_unknown : (t : LineType) → typed_of s ≡ Ok t → ((k : ℕ) → k < length (spots t) → (place_at t k).field ≡ n → ⊥) → place_of s n ≡ []
  place_unknown t e f = place_typed t e ∙ rw (unknown_spot t n f)

-- ---------------------------------------------------------------------------
-- What a refusal is

-- one of another number than 29
abbrev pub NotOverfull : Result LineType Refusal → Type 0
NotOverfull (Ok t) = Unit
NotOverfull (Err r) = refusal_number r ≡ 29 → ⊥

-- a line is refused with 1, 2 or 5, so never with 29
pub type_never_29 : (s : List ℕ) → NotOverfull (typed_of s)
unfolding typed_of type_from
type_never_29 s =
    either (eqb (length s) 1002) _ _
    (either (ends_right s) _ _
    (either (eqb (get_or s 997 0) 51) _ wrong_type
    (either (eqb (get_or s 998 0) 48) _ _
    (either (eqb (get_or s 999 0) 48) (Ok Label) _ tt (either (eqb (get_or s 999 0) 49) (Ok Group) _ tt (either (eqb (get_or s 999 0) 57) (Ok Order) wrong_type tt wrong)))
    (either (eqb (get_or s 998 0) 57) _ wrong_type (either (eqb (get_or s 999 0) 57) (Ok Closing) wrong_type tt wrong) wrong))
    wrong)
    (λ (e : 2 ≡ 29). omega arith))
    (λ (e : 1 ≡ 29). omega arith)
  where
    either : (b : Bool) (x y : Result LineType Refusal) → NotOverfull x → NotOverfull y → NotOverfull (cond b x y)
    either true x y f g = f
    either false x y f g = g

    wrong : NotOverfull wrong_type
    wrong e = omega arith
