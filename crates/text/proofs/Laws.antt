-- Laws that every crate's proofs cite: of choices on a test, of tests, and of the texts that loops walk through.
-- Assumes nothing.
use Rattle.refusal.proofs.Basics.{◌≡◌, refl, sym, ap, subst, ◌∙◌, arith, ℕ, suc, ◌+◌, ◌-◌, ◌*◌, ◌≤◌, ◌<◌, length, take, drop, get_or, length-drop, take-append-drop, ne_eqb, eq-eqb, leb-true, leb-false, List, [], ◌∷◌, ◌++◌, Bool, true, false, cond, not, ◌&&◌, and-true, and_assoc, false≢true, eqb, leb, drop-cons, drop-length, take_all, zero-add, add-zero, add-one, and_first, and_second, both_true}
use Rattle.classes.specs.declared.Class.{Class}
use Rattle.std.specs.Prelude.{Option, Some, None, is_some, is_none}
use Rattle.text.specs.Digits.{digits_of, value_from}
use Rattle.verdict.specs.Verdict.{passed, Within}
use Rattle.verdict.proofs.Verdicts.{pass_within, byte_at_within, fault_no_pass}
use Rattle.classes.specs.Classes.{is_digit, permits}
use Rattle.text.specs.Bytes.{later, first_bad, found, bytes_verdict, all_of, count_of}

-- ---------------------------------------------------------------------------
-- Digits

pub digits_append : (s t : List ℕ) → digits_of (s ++ t) ≡ digits_of s ++ digits_of t
unfolding digits_of
digits_append [] t = refl
digits_append (b ∷ s) t = go (is_digit b) (digits_append s t)
  where
    go : (d : Bool) → digits_of (s ++ t) ≡ digits_of s ++ digits_of t → cond d ((b - 48) ∷ digits_of (s ++ t)) (digits_of (s ++ t)) ≡ cond d ((b - 48) ∷ digits_of s) (digits_of s) ++ digits_of t
    go true e = ap (λ (l : List ℕ). (b - 48) ∷ l) e
    go false e = e

pub value_append : (v : ℕ) (xs ys : List ℕ) → value_from v (xs ++ ys) ≡ value_from (value_from v xs) ys
unfolding value_from
value_append v [] ys = refl
value_append v (x ∷ xs) ys = value_append (v * 10 + x) xs ys

-- ---------------------------------------------------------------------------
-- The scan for a byte that a class does not permit, from place i on

-- i places further on
unfoldable pub shifted : ℕ → Option ℕ → Option ℕ
shifted i (Some k) = Some (i + k)
shifted i None = None

pub shifted_zero : (f : Option ℕ) → f ≡ shifted 0 f
unfolding shifted
shifted_zero (Some k) = ap Some (sym (zero-add k))
shifted_zero None = refl

pub shifted_later : (i : ℕ) (f : Option ℕ) → shifted i (later f) ≡ shifted (i + 1) f
unfolding shifted
shifted_later i (Some k) = ap Some (omega arith)
shifted_later i None = refl

module _ (k : Class) (s : List ℕ) (i : ℕ) where
  pub scan_on : i < length s → permits k (get_or s i 0) ≡ true → shifted i (first_bad k (drop i s)) ≡ shifted (i + 1) (first_bad k (drop (i + 1) s))
  unfolding first_bad
  scan_on h e = rw (drop-cons s i 0 h, e, add-one) (shifted_later i (first_bad k (drop (suc i) s)) ∙ rw add-one)

  pub scan_stops : i < length s → permits k (get_or s i 0) ≡ false → Some i ≡ shifted i (first_bad k (drop i s))
  unfolding first_bad shifted
  scan_stops h e = rw (drop-cons s i 0 h, e) (ap Some (sym (add-zero i)))

  pub scan_ends : length s ≤ i → i ≤ length s → None ≡ shifted i (first_bad k (drop i s))
  unfolding first_bad shifted
  scan_ends h g = let e : i ≡ length s = omega arith in rw (e, drop-length)

-- a scan's place is below a number
abbrev pub Below : ℕ → Option ℕ → Type 0
Below n (Some i) = i < n
Below n None = Unit

-- one place further on, in a text of a byte more
pub below_later : (n : ℕ) (f : Option ℕ) → Below n f → Below (suc n) (later f)
below_later n (Some i) h = omega arith
below_later n None h = tt

-- what the scan for a class finds
pub bad_below : (k : Class) (s : List ℕ) → Below (length s) (first_bad k s)
unfolding first_bad
bad_below k [] = tt
bad_below k (b ∷ s) = go (permits k b) (bad_below k s)
  where
    go : (t : Bool) → Below (length s) (first_bad k s) → Below (suc (length s)) (cond t (later (first_bad k s)) (Some 0))
    go true h = below_later (length s) (first_bad k s) h
    go false h = omega arith

-- a place that it found
pub found_below : (k : Class) (s : List ℕ) (i : ℕ) → first_bad k s ≡ Some i → i < length s
found_below k s i e = subst (λ (f : Option ℕ). Below (length s) f) e (bad_below k s)

-- so its 3 tells a byte of the text
pub found_within : (n : ℕ) (f : Option ℕ) → Below n f → Within n (found f)
found_within n (Some i) h = byte_at_within n i h
found_within n None h = pass_within n

pub bytes_within : (k : Class) (s : List ℕ) → Within (length s) (bytes_verdict k s)
unfolding bytes_verdict
bytes_within k s = found_within (length s) (first_bad k s) (bad_below k s)

is_none_later : (f : Option ℕ) → is_none (later f) ≡ is_none f
is_none_later (Some k) = refl
is_none_later None = refl

-- nothing was found where every byte is permitted
pub all_of_nothing : (k : Class) (s : List ℕ) → is_none (first_bad k s) ≡ all_of k s
unfolding first_bad all_of
all_of_nothing k [] = refl
all_of_nothing k (b ∷ s) = go (permits k b) (all_of_nothing k s)
  where
    go : (t : Bool) → is_none (first_bad k s) ≡ all_of k s → is_none (cond t (later (first_bad k s)) (Some 0)) ≡ (t && all_of k s)
    go true e = is_none_later (first_bad k s) ∙ e
    go false e = refl

-- as it is told of what was found
pub none_told : (f : Option ℕ) (r : Bool) → is_some f ≡ not r → r ≡ is_none f
none_told (Some k) true e = e
none_told (Some k) false e = refl
none_told None true e = refl
none_told None false e = e

-- and then there is no 3
pub all_passes : (k : Class) (s : List ℕ) → all_of k s ≡ true → bytes_verdict k s ≡ passed
unfolding bytes_verdict
all_passes k s e = go (first_bad k s) (all_of_nothing k s ∙ e)
  where
    go : (f : Option ℕ) → is_none f ≡ true → found f ≡ passed
    go (Some i) h = absurd (false≢true h)
    go None h = refl

pub nothing_found : (f : Option ℕ) → found f ≡ passed → f ≡ None
nothing_found (Some i) h = fault_no_pass _ h
nothing_found None h = refl

pub none_bad : (k : Class) (s : List ℕ) → all_of k s ≡ true → first_bad k s ≡ None
unfolding bytes_verdict
none_bad k s e = nothing_found (first_bad k s) (all_passes k s e)

-- no byte is a wrong one, and a first byte may be
pub all_empty : (k : Class) (s : List ℕ) → length s ≡ 0 → true ≡ all_of k s
unfolding all_of
all_empty k [] h = refl
all_empty k (b ∷ s) h = absurd (omega arith)

pub first_wrong_lem : (k : Class) (s : List ℕ) → (length s ≡ 0 → ⊥) → permits k (get_or s 0 0) ≡ false → false ≡ all_of k s
unfolding all_of
first_wrong_lem k [] h e = absurd (h refl)
first_wrong_lem k (b ∷ s) h e = and_first (permits k b) (all_of k s) e

pub passes_all : (k : Class) (s : List ℕ) → bytes_verdict k s ≡ passed → all_of k s ≡ true
unfolding bytes_verdict
passes_all k s e = sym (all_of_nothing k s) ∙ ap is_none (nothing_found (first_bad k s) e)

-- a class permits two texts joined where it permits each
pub all_append : (k : Class) (s t : List ℕ) → all_of k (s ++ t) ≡ (all_of k s && all_of k t)
unfolding all_of
all_append k [] t = refl
all_append k (b ∷ s) t = rw (all_append k s t) (sym (and_assoc (permits k b) (all_of k s) (all_of k t)))

pub all_joined : (k : Class) (s t : List ℕ) → all_of k s ≡ true → all_of k t ≡ true → all_of k (s ++ t) ≡ true
all_joined k s t e g = all_append k s t ∙ rw (e, g)

-- a text where it permits its front and its rest
pub all_apart : (k : Class) (n : ℕ) (s : List ℕ) → all_of k s ≡ (all_of k (take n s) && all_of k (drop n s))
all_apart k n s = sym (ap (all_of k) (take-append-drop n s)) ∙ all_append k (take n s) (drop n s)

-- one byte alone lies between itself and itself
pub alone_between : (a b : ℕ) → eqb b a ≡ (leb a b && leb b a)
alone_between a b = go (leb a b) refl (leb b a) refl
  where
    go : (t : Bool) → leb a b ≡ t → (u : Bool) → leb b a ≡ u → eqb b a ≡ (t && u)
    go true e true f =
        let h = leb-true a b e in
        let g = leb-true b a f in
        let z : b ≡ a = omega arith in
        eq-eqb b a z
    go true e false f = let h = leb-false b a f in ne_eqb b a (λ z. omega arith)
    go false e u f = let h = leb-false a b e in ne_eqb b a (λ z. omega arith)

-- and what a narrower class permits
pub all_wider : (j k : Class) → ((b : ℕ) → permits j b ≡ true → permits k b ≡ true) → (s : List ℕ) → all_of j s ≡ true → all_of k s ≡ true
unfolding all_of
all_wider j k f [] e = refl
all_wider j k f (b ∷ s) e =
    let h = both_true (permits j b) (all_of j s) e in
    sym (and_second (permits k b) (all_of k s) true (f b h.0) (sym (all_wider j k f s h.1)))

-- ---------------------------------------------------------------------------
-- Whether a class permits every byte from place i on, and a test of those before

module _ (k : Class) (s : List ℕ) (i : ℕ) where
  -- one byte more is tested
  pub tested_on : i < length s → (before now : Bool) → now ≡ permits k (get_or s i 0) → (before && all_of k (drop i s)) ≡ (before && now && all_of k (drop (i + 1) s))
  unfolding all_of
  tested_on h before now e = rw (drop-cons s i 0 h, e, add-one i) (sym (and_assoc before (permits k (get_or s i 0)) (all_of k (drop (suc i) s))))

  -- none is left
  pub tested_all : length s ≤ i → i ≤ length s → (before : Bool) → before ≡ (before && all_of k (drop i s))
  unfolding all_of
  tested_all h g before = let e : i ≡ length s = omega arith in rw (e, drop-length) (sym (and-true before))

-- ---------------------------------------------------------------------------
-- How many bytes c there are from place i on

module _ (c : ℕ) (s : List ℕ) (i n : ℕ) where
  pub count_more : i < length s → get_or s i 0 ≡ c → n + count_of c (drop i s) ≡ n + 1 + count_of c (drop (i + 1) s)
  unfolding count_of
  count_more h e = rw (drop-cons s i 0 h, add-one i, eq-eqb (get_or s i 0) c e) (omega arith)

  pub count_same : i < length s → (get_or s i 0 ≡ c → ⊥) → n + count_of c (drop i s) ≡ n + count_of c (drop (i + 1) s)
  unfolding count_of
  count_same h e = rw (drop-cons s i 0 h, add-one i, ne_eqb (get_or s i 0) c e)

  pub count_end : length s ≤ i → i ≤ length s → n ≡ n + count_of c (drop i s)
  unfolding count_of
  count_end h g = let e : i ≡ length s = omega arith in rw (e, drop-length) (sym (add-zero n))

-- ---------------------------------------------------------------------------
-- Parts

-- a part that goes to the end
pub to_the_end : {A : Type 0} (k : ℕ) (s : List A) → take (length s - k) (drop k s) ≡ drop k s
to_the_end k s = take_all (length s - k) (drop k s) (omega (arith, length-drop k s))
