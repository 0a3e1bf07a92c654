-- The number and the sum of a 301 in digits, and lent as two fields.
-- Assumes nothing.
use Rattle.refusal.proofs.Basics.{◌≡◌, sym, ap, ◌∙◌, refl, arith, ℕ, ◌<◌, ◌*◌, ◌/◌, ◌%◌, zero, suc, ◌-◌, ◌+◌, ◌≤◌, length, take, drop, get_or, length-append, List, ◌++◌, append_assoc, [], ◌∷◌, sets, length-sets, take_at, take_all, drop_at, get_or-drop, sets-eq, length-take-le}
use Rattle.std.specs.Prelude.{Ok, Err}
use Rattle.refusal.specs.Refusal.{Answer}
use Rattle.sums.specs.Sums.{sum_of, limb}
use Rattle.sums.specs.declared.Sum.{Sum}
use Rattle.sums.proofs.Laws.{sum_small, in_limbs, low_small}
use Rattle.wage_places.specs.declared.LineType.TheVariants.{Group}
use Rattle.wage_places.specs.Places.{spots}
use Rattle.text.specs.Digits.{digits_text}
use Rattle.room.proofs.Digits.{digits_length, digits_two_limbs}
use Rattle.refusal.specs.declared.Refusal.{Refusal}
use Rattle.bare_line.specs.Bare.{bare_line}
use Rattle.bare_line.proofs.Theorems.{bare_length}
use Rattle.lent_fields.specs.Fields.{fields_of, behind}
use Rattle.lent_fields.proofs.Laws.{fields_behind}
use Rattle.wage_draft.specs.Draft.{Draft, drafted, going_on, in_scratch, Drafts, DraftsRight}
use Rattle.wage_draft.proofs.Laws.{drafts_right}
use Rattle.wage_draft.proofs.Theorems.{drafted_append, drafted_by_fields}

-- what stands up to the end of what was just written
written_up_to : (s : List ℕ) (at : ℕ) (f : List ℕ) (end : ℕ) → at + length f ≡ end → end ≤ length s → take end (sets s at f) ≡ take at s ++ f
written_up_to s at f end e h =
    let l : length (take at s ++ f) ≡ end = omega (arith, length-append (take at s) f, length-take-le at s (omega arith)) in
    rw (sets-eq f s at (omega arith)) (take_at (take at s ++ f) (drop (at + length f) s) end l)

-- five digits, two and eighteen, one behind the other
pub three_written :
    (s a b c : List ℕ) → length s ≡ 25 → length a ≡ 5 → length b ≡ 2 → length c ≡ 18 → sets (sets (sets s 0 a) 5 b) 7 c ≡ a ++ (b ++ c)
three_written s a b c l e f g =
    let s1 = sets s 0 a in
    let s2 = sets s1 5 b in
    let l1 : length s1 ≡ 25 = length-sets s 0 a ∙ l in
    let l2 : length s2 ≡ 25 = length-sets s1 5 b ∙ l1 in
    let e1 : take 5 s1 ≡ a = written_up_to s 0 a 5 (omega arith) (omega arith) in
    let e2 : take 7 s2 ≡ a ++ b = written_up_to s1 5 b 7 (omega arith) (omega arith) ∙ ap (λ (x : List ℕ). x ++ b) e1 in
    let e3 : take 25 (sets s2 7 c) ≡ (a ++ b) ++ c = written_up_to s2 7 c 25 (omega arith) (omega arith) ∙ ap (λ (x : List ℕ). x ++ c) e2 in
    sym (take_all 25 (sets s2 7 c) (omega (arith, length-sets s2 7 c))) ∙ e3 ∙ append_assoc a b c

-- a sum of at most twenty digits, its two parts one behind the other
pub sum_digits : (n : ℕ) (s : Sum) → n < 100 * limb → s ≡ sum_of 100 n → digits_text 2 s.high ++ digits_text 18 s.low ≡ digits_text 20 n
sum_digits n s h e =
    rw (e, ← (sum_small 100 n h)) (sym (digits_two_limbs (n / limb) (n % limb) (low_small n)) ∙ ap (digits_text 20) (in_limbs n))

-- the number and the sum of a group's orders, one behind the other
pub worked_digits :
    (digits : List ℕ) (m n : ℕ) (s : Sum) (k : ℕ) (first second third : List ℕ) → length digits ≡ 25 → n < 100 * limb → k ≡ m → s ≡ sum_of 100 n
    → first ≡ sets digits 0 (digits_text 5 k) → second ≡ sets first 5 (digits_text 2 s.high) → third ≡ sets second 7 (digits_text 18 s.low)
    → third ≡ digits_text 5 m ++ digits_text 20 n
worked_digits digits m n s k first second third l h i e w1 w2 w3 =
    w3 ∙ rw (w2, w1, i)
    (three_written digits (digits_text 5 m) (digits_text 2 s.high) (digits_text 18 s.low) l (digits_length 5 m) (digits_length 2 s.high) (digits_length 18 s.low) ∙
    ap (λ (x : List ℕ). digits_text 5 m ++ x) (sum_digits n s h e))

-- two texts, one behind the other, are two fields
pub two_fields : (a b : List ℕ) → length a ≡ 5 → length b ≡ 20 → fields_of (5 ∷ (20 ∷ [])) (a ++ b) ≡ a ∷ (b ∷ [])
unfolding fields_of
two_fields a b e f = rw (take_at a b 5 e, drop_at a b 5 e, take_all 20 b (omega arith))

-- one run was refused
run_stops : (d next : Draft) (r : Answer) (line : List ℕ) → DraftsRight d r line → (q : Refusal) → r ≡ Err q → DraftsRight (going_on d.answer d next) (Err q) line
run_stops d next r line w q e =
    let f : d.answer ≡ Err q = sym w.answers ∙ e in
    rw f (record { answers = refl; leaves = λ (h : Err q ≡ Ok tt). w.leaves (e ∙ h) })

-- one run was accepted, and the next goes on from its line
run_goes_on :
    (d : Draft) (next : List ℕ → Draft) (r : Answer) (line : List ℕ) → DraftsRight d r line → r ≡ Ok tt
    → (s : Answer) (after : List ℕ) → DraftsRight (next line) s after → DraftsRight (going_on d.answer d (next d.line)) s after
run_goes_on d next r line w e s after p =
    let f : d.answer ≡ (Ok tt) = sym w.answers ∙ e in
    rw (f, ← (w.leaves e)) p

-- the first four fields
abbrev first_run : ℕ → ℕ → List (List ℕ) → List ℕ → Draft
first_run day kind fs line = drafted day kind Group (take (4 - 0) (drop 0 (spots Group))) fs line

-- the number and the sum
abbrev worked_run : ℕ → ℕ → List ℕ → List ℕ → List ℕ → Draft
worked_run day kind a b line = drafted day kind Group (take 2 (drop 4 (spots Group))) (a ∷ (b ∷ [])) line

-- the last field
abbrev last_run : ℕ → ℕ → List (List ℕ) → List ℕ → Draft
last_run day kind fs line = drafted day kind Group (take (7 - 6) (drop 6 (spots Group))) fs line

-- the two runs behind the first
abbrev later_runs : ℕ → ℕ → List (List ℕ) → List ℕ → List ℕ → List ℕ → Draft
later_runs day kind fs a b line =
    going_on (worked_run day kind a b line).answer (worked_run day kind a b line) (last_run day kind (drop 4 fs) (worked_run day kind a b line).line)

-- all fields of a 301: five given, two worked out
abbrev pub seven_fields : List (List ℕ) → List ℕ → List ℕ → List (List ℕ)
seven_fields fs a b = get_or fs 0 [] ∷ (get_or fs 1 [] ∷ (get_or fs 2 [] ∷ (get_or fs 3 [] ∷ (a ∷ (b ∷ (get_or fs 4 [] ∷ []))))))

-- the first four of them, by their order
first_four : (fs : List (List ℕ)) (k : ℕ) → k < 4 → get_or (get_or fs 0 [] ∷ (get_or fs 1 [] ∷ (get_or fs 2 [] ∷ (get_or fs 3 [] ∷ [])))) k [] ≡ get_or fs k []
first_four fs zero h = refl
first_four fs (suc zero) h = refl
first_four fs (suc (suc zero)) h = refl
first_four fs (suc (suc (suc zero))) h = refl
first_four fs (suc (suc (suc (suc k)))) h = absurd (omega arith)

-- the last of them
last_one : (fs : List (List ℕ)) (k : ℕ) → k < 1 → get_or (get_or fs 4 [] ∷ []) k [] ≡ get_or (drop 4 fs) k []
last_one fs zero h = sym (get_or-drop 4 fs 0 [])
last_one fs (suc k) h = absurd (omega arith)

-- the whole is the three runs
group_runs :
    (day kind : ℕ) (fs : List (List ℕ)) (a b line : List ℕ)
    → drafted day kind Group (spots Group) (seven_fields fs a b) line
    ≡ going_on (first_run day kind fs line).answer (first_run day kind fs line) (later_runs day kind fs a b (first_run day kind fs line).line)
unfolding spots
group_runs day kind fs a b line =
    let ps = take 4 (spots Group) in
    let qs = take 2 (drop 4 (spots Group)) in
    let os = drop 6 (spots Group) in
    let four = get_or fs 0 [] ∷ (get_or fs 1 [] ∷ (get_or fs 2 [] ∷ (get_or fs 3 [] ∷ []))) in
    let later = a ∷ (b ∷ (get_or fs 4 [] ∷ [])) in
    let f = first_run day kind fs line in
    let w = worked_run day kind a b f.line in
    drafted_append day kind Group ps (drop 4 (spots Group)) four later line refl ∙
    ap (λ (d : Draft). going_on d.answer d (drafted day kind Group (drop 4 (spots Group)) later d.line)) (drafted_by_fields day kind Group ps four fs line (first_four fs)) ∙
    ap (going_on f.answer f)
    (drafted_append day kind Group qs os (a ∷ (b ∷ [])) (get_or fs 4 [] ∷ []) f.line refl ∙
    ap (going_on w.answer w) (drafted_by_fields day kind Group os (get_or fs 4 [] ∷ []) (drop 4 fs) w.line (last_one fs)))

module _
    (day kind : ℕ) (sizes text a b start line₁ : List ℕ) (r₁ : Answer) (bared : start ≡ bare_line Group)
    (made₁ : Drafts (in_scratch start (first_run day kind (fields_of sizes text) start)) r₁ line₁)
  where
    -- the room is a whole line
    start_size : length start ≡ 1002
    start_size = rw bared (bare_length Group)

    -- what the first run says
    first : DraftsRight (first_run day kind (fields_of sizes text) start) r₁ line₁
    first = drafts_right start (first_run day kind (fields_of sizes text) start) start_size r₁ line₁ made₁

    -- the first four were refused
    pub group_first : (q : Refusal) → r₁ ≡ Err q → DraftsRight (drafted day kind Group (spots Group) (seven_fields (fields_of sizes text) a b) (bare_line Group)) (Err q) line₁
    group_first q e =
        let fs = fields_of sizes text in
        rw (← bared, group_runs day kind fs a b start) (run_stops (first_run day kind fs start) (later_runs day kind fs a b (first_run day kind fs start).line) r₁ line₁ first q e)

    module _
        (taken₁ : r₁ ≡ Ok tt) (size₁ : length line₁ ≡ length start) (line₂ : List ℕ) (r₂ : Answer)
        (made₂ : Drafts (in_scratch line₁ (worked_run day kind a b line₁)) r₂ line₂)
      where
        -- what the second run says
        worked : DraftsRight (worked_run day kind a b line₁) r₂ line₂
        worked = drafts_right line₁ (worked_run day kind a b line₁) (size₁ ∙ start_size) r₂ line₂ made₂

        -- the number or the sum was refused
        pub group_worked : (q : Refusal) → r₂ ≡ Err q → DraftsRight (drafted day kind Group (spots Group) (seven_fields (fields_of sizes text) a b) (bare_line Group)) (Err q) line₂
        group_worked q e =
            let fs = fields_of sizes text in
            rw (← bared, group_runs day kind fs a b start)
            (run_goes_on (first_run day kind fs start) (later_runs day kind fs a b) r₁ line₁ first taken₁ (Err q) line₂
            (run_stops (worked_run day kind a b line₁) (last_run day kind (drop 4 fs) (worked_run day kind a b line₁).line) r₂ line₂ worked q e))

        -- the last field says what the whole says
        pub group_last :
            r₂ ≡ Ok tt → length line₂ ≡ length line₁ → (ns rest : List ℕ) → ns ≡ drop 4 sizes → rest ≡ behind (take 4 sizes) text
            → (r₃ : Answer) (line₃ : List ℕ) → Drafts (in_scratch line₂ (last_run day kind (fields_of ns rest) line₂)) r₃ line₃
            → DraftsRight (drafted day kind Group (spots Group) (seven_fields (fields_of sizes text) a b) (bare_line Group)) r₃ line₃
        group_last taken₂ size₂ ns rest n e r₃ line₃ made₃ =
            let fs = fields_of sizes text in
            let g : fields_of ns rest ≡ drop 4 fs = rw (n, e) (sym (fields_behind 4 sizes text)) in
            let last = drafts_right line₂ (last_run day kind (fields_of ns rest) line₂) (size₂ ∙ size₁ ∙ start_size) r₃ line₃ made₃ in
            rw (← bared, group_runs day kind fs a b start)
            (run_goes_on (first_run day kind fs start) (later_runs day kind fs a b) r₁ line₁ first taken₁ r₃ line₃
            (run_goes_on (worked_run day kind a b line₁) (last_run day kind (drop 4 fs)) r₂ line₂ worked taken₂ r₃ line₃ (rw g at last)))
