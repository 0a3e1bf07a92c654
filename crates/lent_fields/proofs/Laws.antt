-- Laws of the fields that are lent, one behind the other. Assumes nothing.
use Rattle.refusal.proofs.Basics.{◌≡◌, refl, sym, ap, ◌∙◌, arith, ℕ, zero, suc, ◌+◌, ◌-◌, ◌≤◌, ◌<◌, length, take, drop, get_or, length-drop, drop_of_length-le, length-append, eq-eqb, le-ltb, ltb-true, ltb-false, List, [], ◌∷◌, ◌++◌, map, Bool, true, false, cond, ltb, drop-drop, drop-length, take_all, take-append_seam, drop-append_seam, get_or-drop, add-zero}
use Rattle.std.proofs.lemmas.List.{at_drop_more}
use Rattle.text.specs.Split.{joined}
use Rattle.lent_fields.specs.Fields.{fields_of, given_of, behind, field_end, together, lent_whole, FieldEnd}

-- ---------------------------------------------------------------------------
-- Where a field ends

module _ (text : List ℕ) (at size : ℕ) where
  -- at the text's end, if there is not enough
  ends_short : at ≤ length text → length text - at < size → FieldEnd text at size (length text)
  ends_short h g =
      let l = length-drop at text in
      let e : length (drop at text) ≤ size = omega arith in
      record {
        begins = h;
        within = omega arith;
        field = take_all (length text - at) (drop at text) (omega arith) ∙ sym (take_all size (drop at text) e);
        rest = drop-length text ∙ sym (drop_of_length-le (drop at text) e);
      }

  -- else behind as many bytes
  ends_whole : at ≤ length text → size ≤ length text - at → FieldEnd text at size (at + size)
  ends_whole h g =
      let e : at + size - at ≡ size = omega arith in
      record {
        begins = omega arith;
        within = omega arith;
        field = rw e;
        rest = sym (drop-drop size at text);
      }

  -- so it is as claimed
  pub field_ends : (end : ℕ) → at ≤ length text → end ≡ field_end text at size → FieldEnd text at size end
  field_ends end h e = rw e (rw (le-ltb (length text) at h) (go (ltb (length text - at) size) refl))
    where
      go : (b : Bool) → ltb (length text - at) size ≡ b → FieldEnd text at size (cond b (length text) (at + size))
      go true f = ends_short h (ltb-true (length text - at) size f)
      go false f = ends_whole h (ltb-false (length text - at) size f)

-- ---------------------------------------------------------------------------
-- The fields from one on

module _ (sizes : List ℕ) (i : ℕ) (text : List ℕ) where
  -- the first of all
  first_field : (ns : List ℕ) → get_or (fields_of ns text) 0 [] ≡ take (get_or ns 0 0) text
  unfolding fields_of
  first_field [] = refl
  first_field (n ∷ ns) = refl

  -- those behind it
  later_fields : (ns : List ℕ) → drop 1 (fields_of ns text) ≡ fields_of (drop 1 ns) (drop (get_or ns 0 0) text)
  unfolding fields_of
  later_fields [] = refl
  later_fields (n ∷ ns) = refl

  -- the size of the first from i on
  size_from : get_or (drop i sizes) 0 0 ≡ get_or sizes i 0
  size_from = get_or-drop i sizes 0 0 ∙ rw add-zero

  -- the first from i on
  pub field_from : get_or (fields_of (drop i sizes) text) 0 [] ≡ take (get_or sizes i 0) text
  field_from = first_field (drop i sizes) ∙ rw size_from

  -- those from i + 1 on
  pub fields_on : drop 1 (fields_of (drop i sizes) text) ≡ fields_of (drop (i + 1) sizes) (drop (get_or sizes i 0) text)
  fields_on = later_fields (drop i sizes) ∙ rw (size_from, drop-drop)

-- ---------------------------------------------------------------------------
-- One field more

-- the text behind some fields and one more
pub behind_more : (ns : List ℕ) (n : ℕ) (text : List ℕ) → behind (ns ++ (n ∷ [])) text ≡ drop n (behind ns text)
unfolding behind
behind_more [] n text = refl
behind_more (m ∷ ns) n text = behind_more ns n (drop m text)

-- the size of the fields from one on, n being its own
pub together_from : (ns : List ℕ) (i n : ℕ) → (i < length ns) × (n ≡ get_or ns i n) → together (drop i ns) ≡ n + together (drop (i + 1) ns)
unfolding together
together_from ns i n h = at_drop_more together ns i n h.0 ∙ ap (λ m. m + together (drop (i + 1) ns)) (sym h.1)

-- ---------------------------------------------------------------------------
-- All of them

-- texts one behind the other, with their lengths, are lent as themselves
pub fields_joined : (fs : List (List ℕ)) → fields_of (map (λ (f : List ℕ). length f) fs) (joined fs) ≡ fs
unfolding fields_of joined
fields_joined [] = refl
fields_joined (f ∷ fs) = rw (take-append_seam f (joined fs), drop-append_seam f (joined fs), fields_joined fs)

-- and those lengths are the text's
pub joined_lent_whole : (fs : List (List ℕ)) → lent_whole (length fs) (map (λ (f : List ℕ). length f) fs) (joined fs) ≡ true
unfolding lent_whole together joined
joined_lent_whole fs = eq-eqb _ (length (joined fs)) (all_together fs)
  where
    all_together : (gs : List (List ℕ)) → together (take (length gs) (map (λ (g : List ℕ). length g) gs)) ≡ length (joined gs)
    all_together [] = refl
    all_together (g ∷ gs) = rw (all_together gs) (sym (length-append g (joined gs)))

-- the fields behind the first k are those of the text behind
pub fields_behind : (k : ℕ) (ns text : List ℕ) → drop k (fields_of ns text) ≡ fields_of (drop k ns) (behind (take k ns) text)
unfolding fields_of behind
fields_behind zero ns text = refl
fields_behind (suc k) [] text = refl
fields_behind (suc k) (n ∷ ns) text = fields_behind k ns (drop n text)

-- a lent field is the front of the text behind the fields before it
pub front_behind : (sizes text : List ℕ) (k : ℕ) → take (get_or sizes k 0) (behind (take k sizes) text) ≡ given_of sizes text k
unfolding behind fields_of given_of
front_behind [] text k = refl
front_behind (n ∷ ns) text zero = refl
front_behind (n ∷ ns) text (suc k) = front_behind ns (drop n text) k
