-- Document 01, "Wet slips": what a listing answers, and what it leaves in the lent slice.
use Rattle.std.specs.Prelude.{ℕ, Bool, cond, List, ◌++◌, leb, ltb, length, drop, Result, Ok, Err}
use Rattle.refusal.specs.declared.Refusal.{Refusal}
use Rattle.refusal.specs.Refusal.{none}
use Rattle.refusal.specs.declared.Refusal.TheVariants.{Room, Size, Marks}
use Rattle.text.specs.Bytes.{marks}
use Rattle.fillings.specs.Fillings.{fillings}

-- "15 exactly when the count exceeds the room"
abbrev pub listed_in_room : List ℕ → ℕ → Result ℕ Refusal
listed_in_room xs room = cond (ltb room (length xs)) (Err (Room none (length xs))) (Ok (length xs))

-- 1 above 22 bytes, 16 above four marks, then 15
abbrev pub listing : (List ℕ → Bool) → List ℕ → ℕ → Result ℕ Refusal
listing p s room =
    cond (leb (length s) 22)
    (cond (leb (marks s) 4) (listed_in_room (fillings p s) room) (Err (Marks none)))
    (Err (Size none))

-- "Entries beyond the count stay"; no refusal changes lent memory
abbrev pub left_by_listing : Result ℕ Refusal → List ℕ → List ℕ → List ℕ
left_by_listing (Ok n) xs out = xs ++ drop (length xs) out
left_by_listing (Err r) xs out = out
