-- The two readers of references meet their contracts, each over the other. Assumes nothing.
use Rattle.refusal.proofs.Basics.{refl, sym, ◌∙◌, arith, ◌≡◌, ℕ, ◌+◌, ◌-◌, ◌^◌, ◌≤◌, ◌<◌, false, List, get_or, length, take, drop, length-drop, lt-ltb, le-ltb, le-leb, lt-leb, left, entered, and_first, and_second}
use Rattle.std.specs.List.{prefix_len}
use Rattle.std.proofs.lemmas.List.Sums.{prefix_len_stops}
use Rattle.classes.specs.Classes.{is_digit}
use Rattle.text.specs.Split.{split}
use Rattle.text.proofs.Laws.{to_the_end}
use Rattle.parts.specs.Mirror.{part_read}
use Rattle.parts.proofs.Pieces.{short_span}
use Rattle.parts.proofs.Readers.{digits_passed, digits_end, digits_break, handed_none, handed_on, part_judged, read_small, unread}
use Rattle.parts.proofs.+digit_part.Goals as goal

-- behind the digits stands no digit
stops : (s : List ℕ) (n : ℕ) → n ≡ prefix_len is_digit s → n < length s → is_digit (get_or s n 0) ≡ false
stops s n e h = rw e (prefix_len_stops is_digit s 0 (omega arith))

-- what the next part is read as is a small number
rest_small :
    (ls : List ℕ) (at n : ℕ) (s : List ℕ) → n < length s → at + length s < 1024 → length ls ≤ 6 → (r : ℕ) →
    r ≡ part_read ls (at + n + 1) (split 45 (take (length s - (n + 1)) (drop (n + 1) s))) → r < 1024 ^ 3
rest_small ls at n s h g f r e =
    omega (arith, e, read_small 3 ls (at + n + 1) (split 45 (take (length s - (n + 1)) (drop (n + 1) s))) f (short_span _ (at + n + 1) (rw (to_the_end (n + 1) s) (omega (arith, length-drop (n + 1) s)))))

pub digit-returns-then-n-s : goal.digit-returns-then-n-s
digit-returns-then-n-s t c = let a = c.args in let n = c.digits-n.result in
    digits_end a.lengths.now a.at n a.s.now (omega arith) ∙ sym (digits_passed a.lengths.now a.at a.s.now n (omega arith))

pub digit-returns-then-s-n-ne45 : goal.digit-returns-then-s-n-ne45
digit-returns-then-s-n-ne45 t c = let a = c.args in let n = c.digits-n.result in
    digits_break a.lengths.now a.at n a.s.now (omega arith) c.if-s-n-ne45.true (stops a.s.now n c.digits-n.ensures.count (omega arith))
    ∙ sym (digits_passed a.lengths.now a.at a.s.now n (omega arith))

pub digit-returns-then-rest-eq0 : goal.digit-returns-then-rest-eq0
digit-returns-then-rest-eq0 t c = let a = c.args in let n = c.digits-n.result in
    handed_none a.lengths.now a.at n a.s.now (omega arith) c.if-s-n-ne45.false _ c.part-rest.ensures c.if-rest-eq0.true
    ∙ sym (digits_passed a.lengths.now a.at a.s.now n (omega arith))

pub digit-overflow_mul-result : goal.digit-overflow_mul-result
digit-overflow_mul-result t c = let a = c.args in omega (arith, rest_small a.lengths.now a.at c.digits-n.result a.s.now (omega arith) (omega arith) (omega arith) _ c.part-rest.ensures)

pub digit-overflow_add-result-3 : goal.digit-overflow_add-result-3
digit-overflow_add-result-3 t c = let a = c.args in omega (arith, rest_small a.lengths.now a.at c.digits-n.result a.s.now (omega arith) (omega arith) (omega arith) _ c.part-rest.ensures)

pub digit-returns : goal.digit-returns
digit-returns t c = let a = c.args in let n = c.digits-n.result in
    handed_on a.lengths.now a.at n a.s.now (omega arith) c.if-s-n-ne45.false _ c.part-rest.ensures c.if-rest-eq0.false
    ∙ sym (digits_passed a.lengths.now a.at a.s.now n (omega arith))

pub part-returns-then-lengths-lt2 : goal.part-returns-then-lengths-lt2
part-returns-then-lengths-lt2 t c = let a = c.args in unread a.lengths.now a.at a.s.now c.if-lengths-lt2.true

pub part-digit-ends-requires : goal.part-digit-ends-requires
part-digit-ends-requires t c = let a = c.args in (omega arith, (omega arith, rw (to_the_end 2 a.lengths.now) (omega (arith, length-drop 2 a.lengths.now))))

pub part-returns-then-end-at : goal.part-returns-then-end-at
part-returns-then-end-at t c = left _ _ _ _ (sym (and_first _ _ (le-ltb _ _ c.if-end-at.true))) refl ∙ part_judged c.args.lengths.now c.args.at c.args.s.now c.digit-ends.result (omega arith) (omega arith) c.digit-ends.ensures

pub part-returns-then-n-wide : goal.part-returns-then-n-wide
part-returns-then-n-wide t c = left _ _ _ _ (sym (and_second _ _ _ (lt-ltb _ _ c.if-end-at.false) (and_first _ _ (lt-leb _ _ (rw c.wide.ensures at c.if-n-wide.true))))) refl ∙ part_judged c.args.lengths.now c.args.at c.args.s.now c.digit-ends.result (omega arith) (omega arith) c.digit-ends.ensures

pub part-returns-then-wide-n : goal.part-returns-then-wide-n
part-returns-then-wide-n t c = left _ _ _ _ (sym (and_second _ _ _ (lt-ltb _ _ c.if-end-at.false) (and_second _ _ _ (le-leb _ _ (rw c.wide.ensures at c.if-n-wide.false)) (sym (lt-leb _ _ (rw c.wide-2.ensures at c.if-wide-n.true)))))) refl ∙ part_judged c.args.lengths.now c.args.at c.args.s.now c.digit-ends.result (omega arith) (omega arith) c.digit-ends.ensures

pub part-returns : goal.part-returns
part-returns t c = entered _ _ _ _ (sym (and_second _ _ _ (lt-ltb _ _ c.if-end-at.false) (and_second _ _ _ (le-leb _ _ (rw c.wide.ensures at c.if-n-wide.false)) (sym (le-leb _ _ (rw c.wide-2.ensures at c.if-wide-n.false)))))) refl ∙ part_judged c.args.lengths.now c.args.at c.args.s.now c.digit-ends.result (omega arith) (omega arith) c.digit-ends.ensures
