-- The size of a slip of accepted fields: at most 483 bytes. Assumes nothing.
use Rattle.refusal.proofs.Basics.{◌≡◌, refl, sym, ◌∙◌, arith, ℕ, zero, suc, ◌+◌, ◌≤◌, length, List, [], ◌∷◌}
use Rattle.std.specs.Prelude.{Ok}
use Rattle.refusal.specs.Refusal.{Answer}
use Rattle.verdict.specs.Verdict.{passed, answer_in}
use Rattle.verdict.proofs.Verdicts.{answer_accepted, first_both}
use Rattle.slip_fields.specs.declared.Currency.TheVariants.{Euro}
use Rattle.slip_fields.specs.Fields.{field_verdict}
use Rattle.slip_fields.specs.Sizes.{size_of}
use Rattle.slip_fields.proofs.Theorems.{field_size}
use Rattle.slip_given.specs.Given.{given_answer}
use Rattle.text.specs.Lines.{join_lines}
use Rattle.slip_writer.specs.Writer.{slip_text}
use Rattle.slip_writer.proofs.Laws.{lines_length, slip_length}

-- of accepted fields the first is accepted, and so are those after it
pub given_first :
    (n : ℕ) (m p : List ℕ) (ps : List (List ℕ)) → given_answer n m (p ∷ ps) ≡ Ok tt → (field_verdict Euro n m p ≡ passed) × (given_answer (n + 1) p ps ≡ Ok tt)
unfolding given_answer
given_first n m p ps e = let h = first_both (answer_in n (field_verdict Euro n m p)) _ e in (answer_accepted _ _ _ h.0, h.1)

-- the most bytes of k fields from field n on, with their line feeds
abbrev pub sizes : ℕ → ℕ → ℕ
sizes n zero = 0
sizes n (suc k) = size_of n + 1 + sizes (n + 1) k

-- accepted fields have no more
pub given_size : (n : ℕ) (m : List ℕ) (ps : List (List ℕ)) → given_answer n m ps ≡ Ok tt → length (join_lines ps) ≤ sizes n (length ps)
given_size n m [] e = unfold join_lines in omega arith
given_size n m (p ∷ ps) e =
    let h = given_first n m p ps e in
    omega (arith, lines_length p ps, field_size Euro n m p h.0, given_size (n + 1) p ps h.1)

-- the fields 4 to 14
pub sizes_eleven : sizes 4 11 ≡ 454
unfolding size_of
sizes_eleven = refl

-- the slip of accepted fields
pub accepted_small :
    (cents : ℕ) (fields : List (List ℕ)) {x : Answer} → length fields ≡ 11 → x ≡ given_answer 4 [] fields → x ≡ Ok tt
    → length (slip_text cents fields) ≤ 483
accepted_small cents fields e v w = omega (arith, slip_length cents fields, rw e at (given_size 4 [] fields (sym v ∙ w)), sizes_eleven)
