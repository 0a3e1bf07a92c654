-- Document 02, W4, of the call `lanecockle_reference`: what HR69 asks of three parts and of two, and that no other answer moved.
-- Assumes nothing.
use Rattle.refusal.proofs.Basics.{◌≡◌, refl, sym, ap, ◌∙◌, arith, ℕ, ◌+◌, ◌-◌, ◌*◌, ◌≤◌, ◌<◌, length, get_or, length-append, le-leb, leb-true, lt-ltb, eqb-true, List, [], ◌∷◌, ◌++◌, append-nil, Bool, true, false, cond, ◌&&◌, eqb, leb, ltb, ◌↔◌, ◌⊎◌, inl, inr, both_true}
use Rattle.verdict.specs.Verdict.{passed}
use Rattle.verdict.specs.declared.Fault.{Fault}
use Rattle.std.specs.Prelude.{Some, None, Err}
use Rattle.classes.specs.Classes.{is_digit}
use Rattle.classes.specs.declared.Class.TheVariants.{Digits}
use Rattle.classes.proofs.Laws.{digit_bounds}
use Rattle.text.specs.Bytes.{all_of}
use Rattle.text.specs.Digits.{digits_of, value_from, two_digits, digits_text}
use Rattle.text.specs.Split.{joined}
use Rattle.check_digits.specs.declared.Rule.TheVariants.{Ini, Mod1110}
use Rattle.check_digits.specs.CheckDigit.{weighted, check_digit, passes}
use Rattle.account.specs.Account.{oib_passes}
use Rattle.sums.specs.Sums.{number_in}
use Rattle.sums.proofs.Theorems.{number_of_all}
use Rattle.room.proofs.Digits.{digits_length, text_digits}
use Rattle.codes.specs.Codes.{codes, is_code}
use Rattle.codes.proofs.Theorems.{code_exactly, code_bounds, each_code_found}
use Rattle.models.specs.Every.{every}
use Rattle.models.specs.Models.{model_of, special_of}
use Rattle.model_text.specs.Texts.{model_number}
use Rattle.parts.specs.Parts.{length_fits, parts_of, parts_fit, formed}
use Rattle.parts.proofs.Pieces.{bound, bound_parts}
use Rattle.part_contents.specs.Contents.{holds, first_holds}
use Rattle.groups.specs.Groups.{group_right}
use Rattle.reference.specs.Answers.{obeys, reference_verdict}
use Rattle.reference.specs.Before.{reference_before}
use Rattle.reference.proofs.Theorems.{accepted_obeys}
use Rattle.reference.proofs.Before.{reference_as_before, reference_moved, reference_accepted_before}
use Rattle.boundary.specs.Told.{verdict_told}
use Rattle.wage_round.proofs.Laws.{read_number, write_number}
use Rattle.promises.proofs.Laws.{verdict_zero}
use Rattle.promises.specs.Calls.{EveryReference}
use Rattle.promises.specs.WageReferences.{hr69, IsOib, WageParts, TwoParts}

-- ---------------------------------------------------------------------------
-- A part of exactly n digits

module _ (n : ℕ) (p : List ℕ) (b : Bool) where
  exact : (all_of Digits p && (length_fits n n (length p) && b)) ≡ true → (all_of Digits p ≡ true) × (length p ≡ n) × (b ≡ true)
  exact e =
      let d = both_true (all_of Digits p) _ e in
      let f = both_true (length_fits n n (length p)) b d.1 in
      let l = both_true (ltb 0 (length p)) (leb n (length p) && leb (length p) n) f.0 in
      let m = both_true (leb n (length p)) (leb (length p) n) l.1 in
      (d.0, omega (arith, leb-true n (length p) m.0, leb-true (length p) n m.1), f.1)

  exactly : 0 < n → all_of Digits p ≡ true → length p ≡ n → b ≡ true → (all_of Digits p && (length_fits n n (length p) && b)) ≡ true
  exactly h d l e = rw (d, l, lt-ltb 0 n h, le-leb n n (omega arith), e)

-- an OIB is eleven digits that pass
oib_parts : (q : List ℕ) → IsOib q → (all_of Digits q ≡ true) × (length q ≡ 11) × (passes Mod1110 q ≡ true)
unfolding oib_passes
oib_parts q e =
    let d = both_true (all_of Digits q) (eqb (length q) 11 && oib_passes q) e in
    let l = both_true (eqb (length q) 11) (oib_passes q) d.1 in
    (d.0, eqb-true (length q) 11 l.0, l.1)

parts_oib : (q : List ℕ) → all_of Digits q ≡ true → length q ≡ 11 → passes Mod1110 q ≡ true → IsOib q
unfolding oib_passes
parts_oib q d l e = rw (d, l, e)

-- ---------------------------------------------------------------------------
-- Accepted exactly when it has at most 22 bytes and obeys the model

accepted_69 : (s : List ℕ) → (reference_verdict hr69 s ≡ passed) ↔ ((leb (length s) 22 && obeys (model_of 69) s) ≡ true)
unfolding model_of special_of
accepted_69 s = accepted_obeys (model_of 69) s

-- ---------------------------------------------------------------------------
-- Three parts

module _ (s p q c : List ℕ) (parts : parts_of s ≡ p ∷ (q ∷ (c ∷ []))) where
  -- what the model asks of them
  abbrev asked : Bool
  asked = (all_of Digits p && (length_fits 5 5 (length p) && (all_of Digits q && (length_fits 11 11 (length q) && (all_of Digits c && (length_fits 3 3 (length c) && true))))))
      && ((eqb (number_in p) 40002 && (is_code (number_in c) && true)) && (passes Ini (p ++ []) && (passes Mod1110 (q ++ []) && true)))

  three_asked : obeys (model_of 69) s ≡ asked
  unfolding model_of special_of formed parts_fit every first_holds holds group_right joined
  three_asked = rw parts

  three_length : length s ≡ length p + (length q + (length c + 2))
  unfolding bound
  three_length = ap length (sym (bound_parts s)) ∙ rw parts (omega (arith, length-append p (45 ∷ (q ++ (45 ∷ c))), length-append q (45 ∷ c)))

  three_forward : asked ≡ true → WageParts p q c
  unfolding digits_text
  three_forward e =
      let a = both_true _ _ e in
      let x = exact 5 p _ a.0 in
      let y = exact 11 q _ x.2 in
      let z = exact 3 c _ y.2 in
      let b = both_true _ _ a.1 in
      let n = both_true (eqb (number_in p) 40002) _ b.0 in
      let k = both_true (is_code (number_in c)) true n.1 in
      let g = both_true (passes Ini (p ++ [])) _ b.1 in
      let o = both_true (passes Mod1110 (q ++ [])) true g.1 in
      let i = (code_exactly (number_in c)).0 k.0 in
      record {
        first = sym (write_number 5 p 40002 x.1 x.0 (sym (eqb-true (number_in p) 40002 n.0) ∙ number_of_all p (omega (arith, x.1))));
        second = parts_oib q y.0 y.1 (rw (append-nil q) at o.0);
        place = i.0;
        listed = i.1;
        third = sym (write_number 3 c (get_or codes i.0 0) z.1 z.0 (i.2 ∙ number_of_all c (omega (arith, z.1))));
      }

  three_back : WageParts p q c → (length s ≤ 22) × (asked ≡ true)
  unfolding all_of digits_of value_from passes check_digit weighted
  three_back w =
      let n = get_or codes w.place 0 in
      let o = oib_parts q w.second in
      let found = code_bounds n w.place (each_code_found w.place w.listed) in
      let l : length c ≡ 3 = ap length w.third ∙ digits_length 3 n in
      let d : all_of Digits c ≡ true = ap (all_of Digits) w.third ∙ text_digits 3 n in
      let v : number_in c ≡ n = ap number_in w.third ∙ read_number 3 n (omega arith) (omega (arith, found)) in
      let k : is_code (number_in c) ≡ true = ap is_code v ∙ (code_exactly n).1 (w.place, w.listed, refl) in
      let five : length p ≡ 5 = ap length w.first in
      let digits : all_of Digits p ≡ true = ap (all_of Digits) w.first in
      let wage : eqb (number_in p) 40002 ≡ true = ap (λ (t : List ℕ). eqb (number_in t) 40002) w.first in
      let ini : passes Ini (p ++ []) ≡ true = ap (λ (t : List ℕ). passes Ini (t ++ [])) w.first in (
        omega (arith, three_length, five, l, o.1),
        rw (exactly 5 p _ (omega arith) digits five (exactly 11 q _ (omega arith) o.0 o.1 (exactly 3 c true (omega arith) d l refl)), wage, k, ini, append-nil q, o.2),
      )

  three_exactly : (reference_verdict hr69 s ≡ passed) ↔ WageParts p q c
  three_exactly = (
    λ e. three_forward (sym three_asked ∙ (both_true (leb (length s) 22) _ ((accepted_69 s).0 e)).1),
    λ w. let b = three_back w in (accepted_69 s).1 (rw (le-leb (length s) 22 b.0, three_asked, b.1)),
  )

-- under HR69 a reference of three parts is accepted exactly when they are 40002, an OIB and a code
pub wage_reference_exactly : EveryReference (λ model text r. (p q c : List ℕ) → model ≡ hr69 → parts_of text ≡ p ∷ (q ∷ (c ∷ [])) → (r.number ≡ 0) ↔ WageParts p q c)
wage_reference_exactly κs a z w call p q c m e =
    verdict_zero (reference_verdict a.0.now a.1.0.now) z call (rw m (three_exactly a.1.0.now p q c e))

-- ---------------------------------------------------------------------------
-- Two parts

module _ (s p q : List ℕ) (parts : parts_of s ≡ p ∷ (q ∷ [])) where
  abbrev both : Bool
  both = (all_of Digits p && (length_fits 5 5 (length p) && (all_of Digits q && (length_fits 11 11 (length q) && true))))
      && (passes Ini (p ++ []) && (passes Mod1110 (q ++ []) && true))

  two_asked : obeys (model_of 69) s ≡ both
  unfolding model_of special_of formed parts_fit every first_holds holds group_right joined
  two_asked = rw parts

  two_length : length s ≡ length p + (length q + 1)
  unfolding bound
  two_length = ap length (sym (bound_parts s)) ∙ rw parts (omega (arith, length-append p (45 ∷ q)))

  two_exactly : (reference_verdict hr69 s ≡ passed) ↔ TwoParts p q
  two_exactly = (λ e. forward (sym two_asked ∙ (both_true (leb (length s) 22) _ ((accepted_69 s).0 e)).1), back)
    where
      forward : both ≡ true → TwoParts p q
      forward e =
          let a = both_true _ _ e in
          let x = exact 5 p _ a.0 in
          let y = exact 11 q _ x.2 in
          let g = both_true (passes Ini (p ++ [])) _ a.1 in
          let o = both_true (passes Mod1110 (q ++ [])) true g.1 in
          record { digits = x.0; five = x.1; first = rw (append-nil p) at g.0; second = parts_oib q y.0 y.1 (rw (append-nil q) at o.0) }

      back : TwoParts p q → reference_verdict hr69 s ≡ passed
      back w =
          let o = oib_parts q w.second in
          (accepted_69 s).1
          (rw (le-leb (length s) 22 (omega (arith, two_length, w.five, o.1)), two_asked, exactly 5 p _ (omega arith) w.digits w.five (exactly 11 q true (omega arith) o.0 o.1 refl), append-nil p, w.first, append-nil q, o.2))

-- of two parts exactly when the first is five digits that pass INI, and the second an OIB
pub two_part_reference_exactly : EveryReference (λ model text r. (p q : List ℕ) → model ≡ hr69 → parts_of text ≡ p ∷ (q ∷ []) → (r.number ≡ 0) ↔ TwoParts p q)
two_part_reference_exactly κs a z w call p q m e =
    verdict_zero (reference_verdict a.0.now a.1.0.now) z call (rw m (two_exactly a.1.0.now p q e))

-- ---------------------------------------------------------------------------
-- No other answer moved

-- a text of four bytes
four : (m : List ℕ) → length m ≡ 4 → m ≡ get_or m 0 0 ∷ (get_or m 1 0 ∷ (get_or m 2 0 ∷ (get_or m 3 0 ∷ [])))
four [] h = absurd (omega arith)
four (a ∷ []) h = absurd (omega arith)
four (a ∷ (b ∷ [])) h = absurd (omega arith)
four (a ∷ (b ∷ (c ∷ []))) h = absurd (omega arith)
four (a ∷ (b ∷ (c ∷ (d ∷ [])))) h = refl
four (a ∷ (b ∷ (c ∷ (d ∷ (e ∷ m))))) h = absurd (omega arith)

-- two digits that write 69
sixty_nine : (x y : ℕ) → two_digits x y ≡ Some 69 → (x ≡ 54) × (y ≡ 57)
sixty_nine x y e = go (is_digit x && is_digit y) refl e
  where
    go : (b : Bool) → (is_digit x && is_digit y) ≡ b → cond b (Some ((x - 48) * 10 + (y - 48))) None ≡ Some 69 → (x ≡ 54) × (y ≡ 57)
    go true d q =
        let z : (x - 48) * 10 + (y - 48) ≡ 69 = cc in
        let w = both_true (is_digit x) (is_digit y) d in
        let u = digit_bounds x w.0 in
        let v = digit_bounds y w.1 in
        (omega arith, omega arith)
    go false d q = let z : ◌≡◌ {A = ℕ} 0 1 = cc in absurd (omega arith)

-- a text with the number 69 is `HR69`
only_69 : (m : List ℕ) → model_number m ≡ Some 69 → m ≡ hr69
only_69 m e = go (eqb (length m) 4 && (eqb (get_or m 0 0) 72 && eqb (get_or m 1 0) 82)) refl e
  where
    go : (b : Bool) → (eqb (length m) 4 && (eqb (get_or m 0 0) 72 && eqb (get_or m 1 0) 82)) ≡ b → cond b (two_digits (get_or m 2 0) (get_or m 3 0)) None ≡ Some 69 → m ≡ hr69
    go true t q =
        let l = both_true (eqb (length m) 4) _ t in
        let h = both_true (eqb (get_or m 0 0) 72) (eqb (get_or m 1 0) 82) l.1 in
        let d = sixty_nine (get_or m 2 0) (get_or m 3 0) q in
        four m (eqb-true (length m) 4 l.0) ∙ rw (eqb-true (get_or m 0 0) 72 h.0, eqb-true (get_or m 1 0) 82 h.1, d.0, d.1)
    go false t q = let z : ◌≡◌ {A = ℕ} 0 1 = cc in absurd (omega arith)

-- under every model but HR69, and under HR69 of fewer than three parts, the answer is document 01's
pub other_references_as_before : EveryReference (λ model text r. (model ≡ hr69 → length (parts_of text) ≤ 2) → r ≡ verdict_told (reference_before model text))
other_references_as_before κs a z w call h =
    call ∙ ap verdict_told (reference_as_before a.0.now a.1.0.now (λ e. h (only_69 a.0.now e)))

-- where an answer moved it is a 5
pub reference_moved_to_five : EveryReference (λ model text r. (r ≡ verdict_told (reference_before model text)) ⊎ (r ≡ verdict_told (Err Fault.Form)))
reference_moved_to_five κs a z w call = go (reference_moved a.0.now a.1.0.now)
  where
    go : (reference_verdict a.0.now a.1.0.now ≡ reference_before a.0.now a.1.0.now) ⊎ (reference_verdict a.0.now a.1.0.now ≡ Err Fault.Form) → (z ≡ verdict_told (reference_before a.0.now a.1.0.now)) ⊎ (z ≡ verdict_told (Err Fault.Form))
    go (inl e) = inl (call ∙ ap verdict_told e)
    go (inr e) = inr (call ∙ ap verdict_told e)

-- so whatever is accepted was accepted before
pub accepted_reference_before : EveryReference (λ model text r. r.number ≡ 0 → reference_before model text ≡ passed)
accepted_reference_before κs a z w call e =
    reference_accepted_before a.0.now a.1.0.now ((verdict_zero (reference_verdict a.0.now a.1.0.now) z call (λ h. h, λ h. h)).0 e)
