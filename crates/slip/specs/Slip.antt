-- Document 01, "The slip's fourteen fields": what reading a slip answers, and its fields.
use Rattle.std.specs.Prelude.{ℕ, ◌+◌, ◌-◌, Bool, cond, ◌&&◌, List, [], ◌∷◌, eqb, leb, length, get_or, Ok, Err}
use Rattle.refusal.specs.Refusal.{Answer, none, first_of}
use Rattle.verdict.specs.Verdict.{answer_at}
use Rattle.refusal.specs.declared.Refusal.TheVariants.{Size, Ends}
use Rattle.text.specs.Bytes.{count_of}
use Rattle.text.specs.Split.{split}
use Rattle.slip_fields.specs.declared.Currency.{Currency}
use Rattle.slip_fields.specs.declared.Currency.TheVariants.{Euro}
use Rattle.slip_fields.specs.Fields.{field_verdict}

-- ---------------------------------------------------------------------------
-- Line ends (2)

-- "exactly fourteen LF with one last"
abbrev pub slip_ends : List ℕ → Bool
slip_ends s = eqb (count_of 10 s) 14 && eqb (get_or s (length s - 1) 0) 10

-- ---------------------------------------------------------------------------
-- Fields in order

-- the pieces of a slip in currency c from field n on, which starts at a byte, after the field m; what follows the last line feed is no field
unfoldable pub fields_answer : Currency → ℕ → ℕ → List ℕ → List (List ℕ) → Answer
fields_answer c n start m [] = Ok tt
fields_answer c n start m (p ∷ []) = Ok tt
fields_answer c n start m (p ∷ (q ∷ ps)) = first_of (answer_at n start (field_verdict c n m p)) (fields_answer c (n + 1) (start + length p + 1) p (q ∷ ps))

-- "Above 483 bytes is 1; empty is 2. Order: 1, then 2, then fields 1 to 14"
unfoldable pub slip_answer_in : Currency → List ℕ → Answer
slip_answer_in c s =
    cond (leb (length s) 483)
    (cond (slip_ends s) (fields_answer c 1 0 [] (split 10 s)) (Err (Ends none)))
    (Err (Size none))

-- document 01's slip: "2 is `EUR`"
abbrev pub slip_answer : List ℕ → Answer
slip_answer s = slip_answer_in Euro s

-- the piece at a place, counted from 0; nothing past the end
unfoldable pub piece_of : ℕ → List (List ℕ) → List ℕ
piece_of k ps = get_or ps k []
