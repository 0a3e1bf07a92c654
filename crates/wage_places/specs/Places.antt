-- Document 01, "The wage file", its lists for 300, 301 and 309: the places of a line and their bytes, as 004's layout tables number them. "Places not named
-- are not read; 35–174 (name, address, seat), one field 2, are not judged."
use Rattle.std.specs.Prelude.{ℕ, ◌+◌, ◌-◌, cond, List, [], ◌∷◌, eqb, take, drop}
use Rattle.wage_places.specs.declared.LineType.{LineType}
use Rattle.wage_places.specs.declared.LineType.TheVariants.{Label, Group, Order, Closing}
use Rattle.wage_places.specs.declared.Spot.{Spot}

-- field n, from one position to another, "Positions count from 1"; the bytes count from 0
abbrev pub spot : ℕ → ℕ → ℕ → Spot
spot n from to = record { field = n; start = from - 1; size = to + 1 - from }

-- no place: what stands behind the last one
abbrev pub no_spot : Spot
no_spot = spot 0 1 0

-- "300: 1–8 today; 9 is 4 or 5 (kind); 10–12; 13; 14–24; 25–35; 36–46; 47–57"
abbrev pub label_spots : List Spot
label_spots =
    spot 1 1 8 ∷ (spot 2 9 9 ∷ (spot 3 10 12 ∷ (spot 4 13 13 ∷ (spot 5 14 24 ∷ (spot 6 25 35 ∷ (spot 7 36 46 ∷ (spot 8 47 57 ∷ [])))))))

-- "301: 1–21 IBAN; 22–24; 25–45; 46–48; 49–53 number of orders; 54–73 sum; 74–81 date"
abbrev pub group_spots : List Spot
group_spots =
    spot 1 1 21 ∷ (spot 2 22 24 ∷ (spot 3 25 45 ∷ (spot 4 46 48 ∷ (spot 5 49 53 ∷ (spot 6 54 73 ∷ (spot 7 74 81 ∷ []))))))

-- "309: 1–34; 175–177; 178–181 and 182–203; 204–207; 208–347; 348–362; 363–366 and 367–388; 543; 544–546; 547 and 548; 549–551; 552–562",
-- and field 2
abbrev pub order_spots : List Spot
order_spots =
    spot 1 1 34 ∷ (spot 2 35 174 ∷ (spot 5 175 177 ∷ (spot 6 178 181 ∷ (spot 7 182 203 ∷ (spot 8 204 207 ∷ (spot 9 208 347 ∷ (spot 10 348 362 ∷
    (spot 11 363 366 ∷ (spot 12 367 388 ∷ (spot 18 543 543 ∷ (spot 19 544 546 ∷ (spot 20 547 547 ∷ (spot 21 548 548 ∷ (spot 22 549 551 ∷ (spot 23 552 562 ∷ [])))))))))))))))

-- the places of each type of line, in order; a 399 has none
unfoldable pub spots : LineType → List Spot
spots Label = label_spots
spots Group = group_spots
spots Order = order_spots
spots Closing = []

-- the place of field n among some
unfoldable pub spot_in : ℕ → List Spot → Spot
spot_in n [] = no_spot
spot_in n (p ∷ ps) = cond (eqb n p.field) p (spot_in n ps)

-- the place of field n in a line of a type; an unknown number has none
abbrev pub spot_of : LineType → ℕ → Spot
spot_of t n = spot_in n (spots t)

-- the bytes of a place
abbrev pub part_at : Spot → List ℕ → List ℕ
part_at p s = take p.size (drop p.start s)

-- the bytes of field n in a line of a type
abbrev pub part_of : LineType → ℕ → List ℕ → List ℕ
part_of t n s = part_at (spot_of t n) s
