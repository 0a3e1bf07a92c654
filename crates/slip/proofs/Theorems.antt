-- What is promised of a slip: accepted exactly when.
-- Assumes nothing.
use Rattle.refusal.proofs.Basics.{◌≡◌, refl, sym, arith, ℕ, zero, suc, ◌+◌, ◌-◌, ◌≤◌, ◌<◌, length, get_or, eq-eqb, eqb-true, leb-true, List, [], ◌∷◌, true, eqb, leb, add-zero, ◌↔◌, chosen, both_true, and_second}
use Rattle.std.specs.Prelude.{Ok}
use Rattle.refusal.specs.Refusal.{none}
use Rattle.verdict.specs.Verdict.{passed, answer_at}
use Rattle.refusal.specs.declared.Refusal.TheVariants.{Size, Ends}
use Rattle.verdict.proofs.Verdicts.{answer_accepted, first_both}
use Rattle.text.specs.Bytes.{count_of}
use Rattle.text.specs.Split.{split}
use Rattle.refusal.proofs.Theorems.{refused_not_accepted}
use Rattle.slip_fields.specs.declared.Currency.{Currency}
use Rattle.slip_fields.specs.Fields.{field_verdict}
use Rattle.slip.specs.Slip.{slip_ends, fields_answer, slip_answer_in, piece_of}
use Rattle.text.proofs.Pieces.{pieces_counted}
use Rattle.slip.proofs.Laws.{fields_judged}

-- ---------------------------------------------------------------------------
-- Accepted exactly when

-- the text of field n, counted from 1: the piece between its line feeds
abbrev pub field_text : List ℕ → ℕ → List ℕ
field_text s n = piece_of (n - 1) (split 10 s)

-- the text of the field before field n; there is nothing before the first
abbrev pub text_before : List ℕ → ℕ → List ℕ
text_before s n = piece_of (n - 1) ([] ∷ split 10 s)

-- a slip in currency c: no more than 483 bytes, fourteen line feeds with one last, and each of the fourteen fields right
pub record Right (c : Currency) (s : List ℕ) : Type 0 where
  pub short : length s ≤ 483
  pub ends : count_of 10 s ≡ 14
  pub last : get_or s (length s - 1) 0 ≡ 10
  pub fields : (n : ℕ) → 1 ≤ n → n ≤ 14 → field_verdict c n (text_before s n) (field_text s n) ≡ passed

-- the fields of an accepted slip are each accepted, up to the last line feed
fields_each : (c : Currency) (n start : ℕ) (m : List ℕ) (ps : List (List ℕ)) → fields_answer c n start m ps ≡ Ok tt → (k : ℕ) → k + 1 < length ps → field_verdict c (n + k) (get_or (m ∷ ps) k []) (get_or ps k []) ≡ passed
unfolding fields_answer
fields_each c n start m [] e k h = absurd (omega arith)
fields_each c n start m (p ∷ []) e k h = absurd (omega arith)
fields_each c n start m (p ∷ (q ∷ ps)) e zero h = rw (add-zero n) (answer_accepted _ _ _ (first_both (answer_at n start (field_verdict c n m p)) _ e).0)
fields_each c n start m (p ∷ (q ∷ ps)) e (suc k) h =
    let z : n + suc k ≡ n + 1 + k = omega arith in
    rw z (fields_each c (n + 1) (start + length p + 1) p (q ∷ ps) (first_both (answer_at n start (field_verdict c n m p)) _ e).1 k (omega arith))

-- and where each is accepted, so are they all
each_fields : (c : Currency) (n start : ℕ) (m : List ℕ) (ps : List (List ℕ)) → ((k : ℕ) → k + 1 < length ps → field_verdict c (n + k) (get_or (m ∷ ps) k []) (get_or ps k []) ≡ passed) → (Ok tt) ≡ fields_answer c n start m ps
unfolding fields_answer
each_fields c n start m [] f = refl
each_fields c n start m (p ∷ []) f = refl
each_fields c n start m (p ∷ (q ∷ ps)) f =
    rw (rw (add-zero n) at (f 0 (omega arith)))
    (each_fields c (n + 1) (start + length p + 1) p (q ∷ ps) (λ k h. let z : n + suc k ≡ n + 1 + k = omega arith in rw z at (f (suc k) (omega arith))))

module _ (c : Currency) (s : List ℕ) where
  accepted_right : slip_answer_in c s ≡ Ok tt → Right c s
  unfolding slip_answer_in piece_of
  accepted_right e =
      let a = chosen (leb (length s) 483) _ _ _ (refused_not_accepted (Size none)) e in
      let b = chosen (slip_ends s) _ _ _ (refused_not_accepted (Ends none)) a.1 in
      let d = both_true (eqb (count_of 10 s) 14) (eqb (get_or s (length s - 1) 0) 10) b.0 in
      let f = eqb-true (count_of 10 s) 14 d.0 in
      record {
        short = leb-true (length s) 483 a.0;
        ends = f;
        last = eqb-true (get_or s (length s - 1) 0) 10 d.1;
        fields = λ n g h. let z : 1 + (n - 1) ≡ n = omega arith in rw z at (fields_each c 1 0 [] (split 10 s) b.1 (n - 1) (omega (arith, pieces_counted 10 s)));
      }

  right_accepted : Right c s → slip_answer_in c s ≡ Ok tt
  unfolding piece_of
  right_accepted w =
      sym (fields_judged c s (Ok tt) w.short
      (sym (and_second (eqb (count_of 10 s) 14) (eqb (get_or s (length s - 1) 0) 10) true (eq-eqb (count_of 10 s) 14 w.ends) (sym (eq-eqb (get_or s (length s - 1) 0) 10 w.last))))
      (each_fields c 1 0 [] (split 10 s) (λ k h. let z : k + 1 - 1 ≡ k = omega arith in let y : k + 1 ≡ 1 + k = omega arith in rw (z, y) at (w.fields (k + 1) (omega arith) (omega (arith, pieces_counted 10 s, w.ends))))))

  -- a slip is accepted exactly when it is right
  pub accepted_exactly : (slip_answer_in c s ≡ Ok tt) ↔ Right c s
  accepted_exactly = (accepted_right, right_accepted)
