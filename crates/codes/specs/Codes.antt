-- Source 004, the list of kinds of personal income: the 55 codes, in its order.
use Rattle.std.specs.Prelude.{ℕ, Bool, true, false, cond, List, [], ◌∷◌, eqb, Option, Some, None}
use Rattle.text.specs.Bytes.{later}

-- the codes, ascending
abbrev pub codes : List ℕ
codes =
    100 ∷ 110 ∷ 120 ∷ 130 ∷ 140 ∷ 150 ∷ 160 ∷ 170 ∷ 180 ∷ 190 ∷
    191 ∷ 200 ∷ 210 ∷ 220 ∷ 230 ∷ 240 ∷ 250 ∷ 260 ∷ 270 ∷ 280 ∷
    290 ∷ 300 ∷ 310 ∷ 320 ∷ 330 ∷ 340 ∷ 350 ∷ 360 ∷ 361 ∷ 370 ∷
    380 ∷ 390 ∷ 400 ∷ 410 ∷ 420 ∷ 430 ∷ 431 ∷ 432 ∷ 433 ∷ 440 ∷
    441 ∷ 450 ∷ 451 ∷ 500 ∷ 510 ∷ 600 ∷ 610 ∷ 620 ∷ 621 ∷ 630 ∷
    640 ∷ 650 ∷ 660 ∷ 690 ∷ 699 ∷ []

-- where a number first stands in a list, counted from 0
unfoldable pub first_in : ℕ → List ℕ → Option ℕ
first_in n [] = None
first_in n (c ∷ cs) = cond (eqb n c) (Some 0) (later (first_in n cs))

-- where a code stands in the list; another number stands nowhere
unfoldable pub code_place : ℕ → Option ℕ
code_place n = first_in n codes

-- whether something was found
abbrev pub is_found : Option ℕ → Bool
is_found (Some i) = true
is_found None = false

-- "a code of 004's list"
unfoldable pub is_code : ℕ → Bool
is_code n = is_found (code_place n)
