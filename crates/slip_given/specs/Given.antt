-- Document 01, "The slip's fourteen fields": what a writer of slips answers of the fields that it is given.
use Rattle.std.specs.Prelude.{ℕ, ◌+◌, List, [], ◌∷◌, map, Ok}
use Rattle.refusal.specs.Refusal.{Answer, first_of}
use Rattle.std.specs.Borrow.{Bor}
use Rattle.verdict.specs.Verdict.{answer_in}
use Rattle.slip_fields.specs.declared.Currency.TheVariants.{Euro}
use Rattle.slip_fields.specs.Fields.{field_verdict}

-- the fields of one call
abbrev pub three : List ℕ → List ℕ → List ℕ → List (List ℕ)
three a b c = a ∷ (b ∷ (c ∷ []))

abbrev pub four : List ℕ → List ℕ → List ℕ → List ℕ → List (List ℕ)
four a b c d = a ∷ three b c d

-- the fields 4 to 14
abbrev pub eleven : List ℕ → List ℕ → List ℕ → List ℕ → List ℕ → List ℕ → List ℕ → List ℕ → List ℕ → List ℕ → List ℕ → List (List ℕ)
eleven a b c d e f g h i j k = a ∷ (b ∷ (c ∷ (d ∷ (e ∷ (f ∷ (g ∷ four h i j k))))))

-- the texts of some lent slices
abbrev pub texts : List (Bor (List ℕ)) → List (List ℕ)
texts fields = map (λ f. f.now) fields

-- "It refuses as the reader does, in field order, the byte of a 3 counted within its field and 0 otherwise": from field n on, after m
unfoldable pub given_answer : ℕ → List ℕ → List (List ℕ) → Answer
given_answer n m [] = Ok tt
given_answer n m (p ∷ ps) = first_of (answer_in n (field_verdict Euro n m p)) (given_answer (n + 1) p ps)
