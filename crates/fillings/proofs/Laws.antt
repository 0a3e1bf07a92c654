-- Laws of the listing, over any rule: of ranges of numbers, of the first mark, of the ten digits at it, and of runs of stores.
-- Assumes nothing.
use Rattle.refusal.proofs.Basics.{◌≡◌, refl, sym, ap, ◌∙◌, arith, ℕ, zero, suc, ◌+◌, ◌-◌, ◌*◌, ◌/◌, ◌%◌, ◌^◌, ◌≤◌, ◌<◌, length, get_or, take, drop, set, length-take, eqb-true, ne_eqb, lt-ltb, le-ltb, le-leb, List, [], ◌∷◌, ◌++◌, Bool, true, false, cond, not, eqb, take-suc, take-suc-set, take-set-lt, zero-add, add-zero, suc-add, mul-one, suc-mul, add-mul, mul_assoc, one-mul, zero-mul, pow-succ', one-le-pow, mul-le-mul_right, le-mul_of_pos_right, pow-le-pow_right, div-eq_of_lt-le, add-one, left}
use Rattle.std.specs.Prelude.{Option, Some, None, Result, Ok, Err}
use Rattle.refusal.specs.declared.Refusal.{Refusal}
use Rattle.refusal.specs.declared.Place.{Place}
use Rattle.refusal.specs.declared.Refusal.TheVariants.{Room}
use Rattle.refusal.specs.Refusal.{none}
use Rattle.classes.specs.declared.Class.TheVariants.{Dry}
use Rattle.text.specs.Bytes.{later, first_bad, count_of, marks}
use Rattle.text.specs.Stands.{Stands}
use Rattle.text.proofs.Stands.{stands_none, stands_append, front_stands}
use Rattle.filling.specs.Filling.{fill}
use Rattle.filling.proofs.Theorems.{fill_dry}
use Rattle.fillings.specs.declared.Aim.{Aim}
use Rattle.fillings.specs.Fillings.{among, fillings}
use Rattle.fillings.specs.Answers.{listed_in_room, left_by_listing, listing}
use Rattle.fillings.specs.Mirror.{between, block, accepts}

-- ---------------------------------------------------------------------------
-- The accepted numbers of a range

-- one number in front of two lists joined, or none
cond_append : (b : Bool) (x : ℕ) (xs ys : List ℕ) → cond b (x ∷ (xs ++ ys)) (xs ++ ys) ≡ cond b (x ∷ xs) xs ++ ys
cond_append true x xs ys = refl
cond_append false x xs ys = refl

-- two ranges that follow one another
pub among_append : (q : ℕ → Bool) (a n m : ℕ) → among q a (n + m) ≡ among q a n ++ among q (a + n) m
unfolding among
among_append q a zero m = rw (zero-add, add-zero)
among_append q a (suc n) m =
    let e : a + suc n ≡ suc a + n = omega arith in
    rw (suc-add n m, among_append q (suc a) n m, e) (cond_append (q a) a (among q (suc a) n) (among q (suc a + n) m))

-- rules that agree on a range list the same
pub among_ext : (q q' : ℕ → Bool) (a n : ℕ) → ((k : ℕ) → a ≤ k → k < a + n → q k ≡ q' k) → among q a n ≡ among q' a n
unfolding among
among_ext q q' a zero h = refl
among_ext q q' a (suc n) h =
    rw (h a (omega arith) (omega arith), among_ext q q' (suc a) n (λ k l u. h k (omega arith) (omega arith)))

-- a rule that accepts nothing lists nothing
pub among_none : (q : ℕ → Bool) (a n : ℕ) → ((k : ℕ) → q k ≡ false) → among q a n ≡ []
unfolding among
among_none q a zero h = refl
among_none q a (suc n) h = rw (h a, among_none q (suc a) n h)

-- one number in front, or none
length_cond : (b : Bool) (x n : ℕ) (xs : List ℕ) → length xs ≤ n → length (cond b (x ∷ xs) xs) ≤ suc n
length_cond true x n xs h = omega arith
length_cond false x n xs h = omega arith

-- a range of n numbers has at most n
pub among_length : (q : ℕ → Bool) (a n : ℕ) → length (among q a n) ≤ n
unfolding among
among_length q a zero = omega arith
among_length q a (suc n) = length_cond (q a) a n (among q (suc a) n) (among_length q (suc a) n)

-- ---------------------------------------------------------------------------
-- The first mark of a text

-- s has its first mark at i
pub data FirstMark : List ℕ → ℕ → Type 0 where
  here : {s : List ℕ} → FirstMark (63 ∷ s) 0
  there : {b : ℕ} {s : List ℕ} {i : ℕ} → eqb b 63 ≡ false → FirstMark s i → FirstMark (b ∷ s) (suc i)

-- a scan that stops at a mark finds the first one
pub first_mark : (s : List ℕ) (i : ℕ) → first_bad Dry s ≡ Some i → FirstMark s i
unfolding first_bad
first_mark [] i e = let z : ◌≡◌ {A = ℕ} 0 1 = cc in absurd (omega arith)
first_mark (b ∷ s) i e = go (eqb b 63) refl (first_mark s) e
  where
    past : (f : Option ℕ) → first_bad Dry s ≡ f → eqb b 63 ≡ false → ((j : ℕ) → first_bad Dry s ≡ Some j → FirstMark s j) → later f ≡ Some i → FirstMark (b ∷ s) i
    past (Some j) g h ih e = let z : i ≡ suc j = cc in rw z (there h (ih j g))
    past None g h ih e = let z : ◌≡◌ {A = ℕ} 0 1 = cc in absurd (omega arith)

    go : (t : Bool) → eqb b 63 ≡ t → ((j : ℕ) → first_bad Dry s ≡ Some j → FirstMark s j) → cond (not t) (later (first_bad Dry s)) (Some 0) ≡ Some i → FirstMark (b ∷ s) i
    go true h ih e = let z : i ≡ 0 = cc in rw (z, eqb-true b 63 h) here
    go false h ih e = past (first_bad Dry s) refl h ih e

-- it stands in the text
pub first_below : {s : List ℕ} {i : ℕ} → FirstMark s i → i < length s
first_below here = omega arith
first_below (there e f) = let h = first_below f in omega arith

-- a digit is no mark
digit_dry : (d : ℕ) → d < 10 → eqb (48 + d) 63 ≡ false
digit_dry d h = ne_eqb (48 + d) 63 (omega arith)

-- a digit put at the first mark leaves one mark fewer
pub marks_first : {s : List ℕ} {i : ℕ} → FirstMark s i → (d : ℕ) → d < 10 → marks s ≡ suc (marks (set s i (48 + d)))
unfolding count_of
marks_first here d h = rw (digit_dry d h)
marks_first (there e f) d h = rw e (marks_first f d h)

-- where the number has the digit d at the first mark, that digit may be put there first
pub fill_first : {s : List ℕ} {i : ℕ} → FirstMark s i → (m k d : ℕ) → marks s ≡ suc m → d < 10 → (k / 10 ^ m) % 10 ≡ d → fill s k ≡ fill (set s i (48 + d)) k
unfolding fill count_of
fill_first (here {s = s}) m k d g h e = let z : marks s ≡ m = omega arith in rw (digit_dry d h, z, e)
fill_first (there {b = b} {s = s} n f) m k d g h e = rw (n, fill_first f m k d (rw n at g) h e)

-- nothing found: no mark
pub no_mark : (s : List ℕ) → first_bad Dry s ≡ None → marks s ≡ 0
unfolding first_bad count_of
no_mark [] e = refl
no_mark (b ∷ s) e = go (eqb b 63) (no_mark s) e
  where
    past : (f : Option ℕ) → first_bad Dry s ≡ f → later f ≡ None → first_bad Dry s ≡ None
    past (Some j) g e = let z : ◌≡◌ {A = ℕ} 0 1 = cc in absurd (omega arith)
    past None g e = g

    go : (t : Bool) → (first_bad Dry s ≡ None → marks s ≡ 0) → cond (not t) (later (first_bad Dry s)) (Some 0) ≡ None → cond t (suc (marks s)) (marks s) ≡ 0
    go true ih e = let z : ◌≡◌ {A = ℕ} 0 1 = cc in absurd (omega arith)
    go false ih e = ih (past (first_bad Dry s) refl e)

-- ---------------------------------------------------------------------------
-- The ten digits at the first mark

-- no mark left: the text itself, or nothing
pub block_dry : (p : List ℕ → Bool) (s : List ℕ) (number : ℕ) → marks s ≡ 0 → block p s number ≡ cond (p s) (number ∷ []) []
unfolding between among
block_dry p s number e = rw (e, mul-one, fill_dry s number e)

-- one digit more of the number, one mark fewer
pub digit_more : (number d m : ℕ) → number * 10 ^ suc m + d * 10 ^ m ≡ (number * 10 + d) * 10 ^ m
digit_more number d m = rw (pow-succ', add-mul, mul_assoc)

-- a number that begins with the digits of x, and of which m digits follow, is x there
pub digits_of_lem : (x m k : ℕ) → x * 10 ^ m ≤ k → k < x * 10 ^ m + 10 ^ m → k / 10 ^ m ≡ x
digits_of_lem x m k l u = div-eq_of_lt-le (10 ^ m) l (rw (add-mul, one-mul) u)

-- the digits below d of the first mark, and then d itself
pub block_digit :
    (p : List ℕ → Bool) {s : List ℕ} {i : ℕ} (m number d : ℕ) → FirstMark s i → marks s ≡ suc m → d < 10
    → between p s (number * 10 ^ suc m) (suc d * 10 ^ m)
    ≡ between p s (number * 10 ^ suc m) (d * 10 ^ m) ++ block p (set s i (48 + d)) (number * 10 + d)
unfolding between
block_digit p {s} {i} m number d f g h =
    let z : marks (set s i (48 + d)) ≡ m = omega (arith, marks_first f d h) in
    let a = (number * 10 + d) * 10 ^ m in
    let digit : (k : ℕ) → a ≤ k → k < a + 10 ^ m → (k / 10 ^ m) % 10 ≡ d = λ k l u. rw (digits_of_lem (number * 10 + d) m k l u) (omega arith) in
    rw (suc-mul, among_append, digit_more, z) (ap (λ (xs : List ℕ). among (λ (k : ℕ). p (fill s k)) (number * 10 ^ suc m) (d * 10 ^ m) ++ xs) (among_ext (λ (k : ℕ). p (fill s k)) (λ (k : ℕ). p (fill (set s i (48 + d)) k)) a (10 ^ m) (λ k l u. ap p (fill_first f m k d g h (digit k l u)))))

-- ten digits are all
pub block_ten : (p : List ℕ → Bool) (s : List ℕ) (m number : ℕ) → marks s ≡ suc m → between p s (number * 10 ^ suc m) (10 * 10 ^ m) ≡ block p s number
block_ten p s m number e = rw (e, pow-succ')

-- the numbers that begin with one digit more stay as small
pub range_fits : (number d m : ℕ) → d < 10 → suc number * 10 ^ suc m ≤ 10000 → suc (number * 10 + d) * 10 ^ m ≤ 10000
range_fits number d m h u =
    let e : suc number * 10 ^ suc m ≡ suc number * 10 * 10 ^ m = rw (pow-succ', mul_assoc) in
    let l : suc (number * 10 + d) * 10 ^ m ≤ suc number * 10 * 10 ^ m = mul-le-mul_right (10 ^ m) (omega arith) in
    omega arith

-- what begins a small number is small
pub number_small : (number m : ℕ) → suc number * 10 ^ m ≤ 10000 → number < 10000
number_small number m u = omega (arith, le-mul_of_pos_right (suc number) (one-le-pow m 10 (omega arith)))

-- with no mark left the place is at most the number itself
pub place_small : (at number left : ℕ) → left ≡ 0 → at ≤ number * 10 ^ left → at ≤ number
place_small at number left e u = rw (e, mul-one) at u

-- ---------------------------------------------------------------------------
-- Runs of stores

-- one byte more of a text is copied
pub copied_more : (s t : List ℕ) (i : ℕ) → i < length s → i < length t → take i t ≡ take i s → take (i + 1) (set t i (get_or s i 0)) ≡ take (i + 1) s
copied_more s t i h g e = rw (add-one i, take-suc-set t i (get_or s i 0) g, take-suc s i 0 h, e)

-- a number that is not accepted is not written
pub written_rejected : (t : Bool) (b : List ℕ) (at x : ℕ) → t ≡ false → Stands b at (cond t (x ∷ []) []) at b
written_rejected t b at x e = rw e (stands_none b at)

-- a number that is accepted is written, where there is room
pub written_accepted : (t : Bool) (b after : List ℕ) (at x : ℕ) → t ≡ true → after ≡ set b at x → Stands b at (cond t (x ∷ []) []) (at + 1) after
written_accepted t b after at x e h = rw e (record { counted = refl; content = h })

-- ---------------------------------------------------------------------------
-- The digits at the first mark, one after another

-- `left` marks are left in the first n bytes of t, and the first of them stands at i
pub record Open (t : List ℕ) (n i left : ℕ) : Type 0 where
  pub first : FirstMark (take n t) i
  pub all : left ≡ marks (take n t)
  pub some : left ≡ 0 → ⊥

-- the accepted fillings with a digit below d at the first mark
abbrev pub digits_below : (List ℕ → Bool) → List ℕ → ℕ → ℕ → ℕ → List ℕ
digits_below p s left number d = between p s (number * 10 ^ suc (left - 1)) (d * 10 ^ (left - 1))

module _ {t : List ℕ} {n i left : ℕ} (o : Open t n i left) where
  -- the mark stands before n
  pub first_before : i < n
  first_before = omega (arith, first_below o.first, length-take n t)

  -- one mark, and those behind it
  some_left : marks (take n t) ≡ suc (left - 1)
  some_left = omega (arith, o.all, o.some)

  -- a digit put there leaves one mark fewer
  pub one_fewer : (d : ℕ) → d < 10 → left - 1 ≡ marks (take n (set t i (48 + d)))
  one_fewer d h = rw (take-set-lt n t i (48 + d) first_before) (omega (arith, marks_first o.first d h, some_left))

  -- the numbers to come stay small
  pub digits_fit : (number d : ℕ) → d < 10 → suc number * 10 ^ left ≤ 10000 → suc (number * 10 + d) * 10 ^ (left - 1) ≤ 10000
  digits_fit number d h u = let e : left ≡ suc (left - 1) = omega (arith, o.some) in range_fits number d (left - 1) h (rw (← e) u)

  module _ (p : List ℕ → Bool) (number d : ℕ) {b after : List ℕ} {at next : ℕ} where
    -- one digit more
    pub digits_more :
        {after' : List ℕ} {next' : ℕ} → d < 10 → Stands b at (digits_below p (take n t) left number d) next after
        → Stands after next (block p (take n (set t i (48 + d))) (number * 10 + d)) next' after'
        → Stands b at (digits_below p (take n t) left number (d + 1)) next' after'
    digits_more h v w =
        rw (add-one d, block_digit p (left - 1) number d o.first some_left h) (stands_append v (rw (take-set-lt n t i (48 + d) first_before) at w))

    -- after the last digit
    pub digits_all :
        10 ≤ d → d ≤ 10 → Stands b at (digits_below p (take n t) left number d) next after → Stands b at (block p (take n t) number) next after
    digits_all l u w = let e : d ≡ 10 = omega arith in rw (← block_ten p (take n t) (left - 1) number some_left) (rw e at w)

    -- the place of the next number is at most that number
    pub digits_place :
        at ≤ number * 10 ^ left → Stands b at (digits_below p (take n t) left number d) next after → next ≤ (number * 10 + d) * 10 ^ (left - 1)
    unfolding between
    digits_place u w =
        let e : left ≡ suc (left - 1) = omega (arith, o.some) in
        let l : at ≤ number * 10 ^ suc (left - 1) = rw (← e) u in
        omega (arith, w.counted, digit_more number d (left - 1), among_length (λ (k : ℕ). p (fill (take n t) k)) (number * 10 ^ suc (left - 1)) (d * 10 ^ (left - 1)))

-- before the first digit
pub digits_none : (p : List ℕ → Bool) (s : List ℕ) (left number : ℕ) (b : List ℕ) (at : ℕ) → Stands b at (digits_below p s left number 0) at b
unfolding between among
digits_none p s left number b at = rw zero-mul (stands_none b at)

-- ---------------------------------------------------------------------------
-- The whole listing

-- four digits make at most ten thousand numbers
pub whole_fits : (m : ℕ) → m ≤ 4 → suc 0 * 10 ^ m ≤ 10000
whole_fits m h = rw one-mul (pow-le-pow_right {n = 10} (omega arith) h)

-- so four marks have at most ten thousand fillings
pub fillings_fit : (p : List ℕ → Bool) (s : List ℕ) → marks s ≤ 4 → length (fillings p s) ≤ 10000
unfolding fillings
fillings_fit p s h =
    let u : 10 ^ marks s ≤ 10000 = rw one-mul at (whole_fits (marks s) h) in
    omega (arith, among_length (λ (k : ℕ). p (fill s k)) 0 (10 ^ marks s))

-- with no digit before it, the listing is that of all fillings
pub written_all : (p : List ℕ → Bool) (s u : List ℕ) {b after : List ℕ} {at next : ℕ} → u ≡ s → Stands b at (block p u 0) next after → Stands b at (fillings p s) next after
unfolding between fillings
written_all p s u e w = rw (e, zero-mul) at w

-- more than there is room for: refused
pub room_refused : (xs : List ℕ) (room n : ℕ) (place : Place) → n ≡ 0 + length xs → room < n → place ≡ none → Err (Room place n) ≡ listed_in_room xs room
room_refused xs room n place e h g = let z : n ≡ length xs = omega arith in rw (lt-ltb room (length xs) (omega arith), z, g)

-- there is room: counted, and written at the front
pub room_counted :
    (xs b after : List ℕ) (n m : ℕ) → n ≡ 0 + length xs → Stands b 0 xs m after → length xs ≤ length b → (Ok n ≡ listed_in_room xs (length b)) × (after ≡ xs ++ drop (length xs) b)
room_counted xs b after n m e w h = let z : n ≡ length xs = omega arith in (rw (le-ltb (length b) (length xs) h, z), front_stands b after xs m w h)

-- ---------------------------------------------------------------------------
-- What the listing answers of a text that it takes

-- "A form that no filling can mend is a count of 0"
pub none_accepted : (s : List ℕ) → fillings (accepts Aim.Unmendable) s ≡ []
unfolding accepts fillings
none_accepted s = among_none (λ (k : ℕ). accepts Aim.Unmendable (fill s k)) 0 (10 ^ marks s) (λ k. refl)

-- what a listing over the rule p answers and leaves
abbrev pub ListedBy : (List ℕ → Bool) → List ℕ → List ℕ → Result ℕ Refusal → List ℕ → Type 0
ListedBy p s out r o = (r ≡ listing p s (length out)) × (o ≡ left_by_listing r (fillings p s) out)

module _ (s : List ℕ) (h : length s ≤ 22) (g : marks s ≤ 4) where
  -- neither 1 nor 16
  pub taken_on : (p : List ℕ → Bool) (room : ℕ) → listing p s room ≡ listed_in_room (fillings p s) room
  taken_on p room = rw (le-leb (length s) 22 h, le-leb (marks s) 4 g)

  -- so the count and the room are left
  pub all_listed : (p : List ℕ → Bool) (out : List ℕ) (r : Result ℕ Refusal) (o : List ℕ) → (r ≡ listed_in_room (fillings p s) (length out)) × (o ≡ left_by_listing r (fillings p s) out) → ListedBy p s out r o
  all_listed p out r o v = (v.0 ∙ sym (taken_on p (length out)), v.1)

  -- nothing is listed
  pub none_listed : (out : List ℕ) → ListedBy (accepts Aim.Unmendable) s out (Ok 0) out
  none_listed out = all_listed (accepts Aim.Unmendable) out (Ok 0) out (rw (none_accepted s) (left _ _ _ _ (le-ltb (length out) 0 (omega arith)) refl, refl))
