-- Laws of a test that holds of each entry of a list.
-- Assumes nothing.
use Rattle.refusal.proofs.Basics.{◌≡◌, refl, sym, ap, ◌∙◌, arith, ℕ, ◌+◌, ◌≤◌, ◌<◌, length, drop, get_or, drop_of_length-le, List, [], ◌∷◌, Memᴰ, mem_head, mem_tail, mem_not_nil, mem_cases_cons, map, length-map, Bool, true, false, ◌&&◌, and-true, ⊎_elim, both_true, and_second, drop-cons, add-one}
use Rattle.std.specs.List.{list_all}
use Rattle.models.specs.Every.{every}

-- ---------------------------------------------------------------------------
-- It holds of every one

-- where it holds of the list, it does of each entry
pub every_each : {A : Type 0} (f : A → Bool) (xs : List A) → every f xs ≡ true → (x : A) → Memᴰ x xs → f x ≡ true
unfolding every
every_each f [] e x m = absurd (mem_not_nil m)
every_each {A} f (y ∷ xs) e x m =
    let w = both_true (f y) (every f xs) e in
    ⊎_elim (λ (q : x ≡ y). rw q w.0) (every_each f xs w.1 x) (mem_cases_cons m)

-- and where it does of each entry, of the list
pub each_every : {A : Type 0} (f : A → Bool) (xs : List A) → ((x : A) → Memᴰ x xs → f x ≡ true) → every f xs ≡ true
unfolding every
each_every f [] h = refl
each_every f (x ∷ xs) h = sym (and_second (f x) (every f xs) true (h x (mem_head refl)) (sym (each_every f xs (λ y m. h y (mem_tail m)))))

-- two tests that answer alike of each
pub every_same : {A : Type 0} (f g : A → Bool) → ((x : A) → f x ≡ g x) → (xs : List A) → every f xs ≡ every g xs
unfolding every
every_same f g h [] = refl
every_same f g h (x ∷ xs) = rw (h x, every_same f g h xs)

-- whether all entries pass, in the word of a chain over them
pub all_every : {A : Type 0} (f : A → Bool) (xs : List A) → list_all f xs ≡ every f xs
unfolding every
all_every f [] = refl
all_every f (x ∷ xs) = rw (all_every f xs)

-- ---------------------------------------------------------------------------
-- Lists as a model holds them

-- the length of an array of structs is told of its map
pub unmapped : {A B : Type 0} (f : A → B) (l : List A) (n : ℕ) → length (map f l) ≡ n → length l ≡ n
unmapped f l n e = sym (length-map l f) ∙ e

-- two entries
pub every_two : {A : Type 0} (f : A → Bool) (xs : List A) (d : A) → length xs ≡ 2 → every f xs ≡ (f (get_or xs 0 d) && f (get_or xs 1 d))
unfolding every
every_two f [] d h = absurd (omega arith)
every_two f (x ∷ []) d h = absurd (omega arith)
every_two f (x ∷ (y ∷ [])) d h = ap (λ (b : Bool). f x && b) (and-true (f y))
every_two f (x ∷ (y ∷ (z ∷ xs))) d h = absurd (omega arith)

-- ---------------------------------------------------------------------------
-- One after the other

module _ {A : Type 0} (f : A → Bool) (xs : List A) (i : ℕ) where
  module _ (d : A) (h : i < length xs) where
    pub every_on : f (get_or xs i d) ≡ true → every f (drop i xs) ≡ every f (drop (i + 1) xs)
    unfolding every
    every_on e = rw (drop-cons xs i d h, e, add-one i)

    pub every_stops : f (get_or xs i d) ≡ false → false ≡ every f (drop i xs)
    unfolding every
    every_stops e = rw (drop-cons xs i d h, e)

  pub every_ends : length xs ≤ i → true ≡ every f (drop i xs)
  unfolding every
  every_ends h = rw (drop_of_length-le xs h)
