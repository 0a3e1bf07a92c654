-- What is promised of a whole wage file: accepted exactly when it is right, with its counts told, and its parts told by its lines.
-- Assumes nothing.
use Rattle.refusal.proofs.Basics.{◌≡◌, refl, sym, ap, ◌∙◌, arith, ℕ, suc, ◌+◌, zero-add, length, List, [], ◌∷◌, ◌++◌, append_assoc, true, ◌↔◌}
use Rattle.verdict.proofs.Verdicts.{fault_no_pass}
use Rattle.condition.specs.declared.Condition.TheVariants.{Fresh, Labelled}
use Rattle.verdict.specs.Verdict.{passed}
use Rattle.std.specs.Prelude.{Err, Ok, Result}
use Rattle.refusal.specs.declared.Refusal.{Refusal}
use Rattle.refusal.specs.Refusal.{none}
use Rattle.refusal.specs.declared.Refusal.TheVariants.{Date}
use Rattle.dates.specs.Dates.{is_date}
use Rattle.sums.specs.Sums.{sum_of}
use Rattle.wage_places.specs.declared.LineType.{LineType}
use Rattle.wage_places.specs.declared.LineType.TheVariants.{Label, Group, Order, Closing}
use Rattle.wage_line.specs.Line.{typed_of}
use Rattle.wage_line.proofs.PieceLaws.{Each, each_more}
use Rattle.wage_fields.specs.Rules.{places_answer, RightLine}
use Rattle.worked_out.specs.Amounts.{amounts}
use Rattle.condition.specs.declared.Counts.{Counts}
use Rattle.condition.specs.declared.Judge.{Judge}
use Rattle.condition.specs.Record.{is_sound, fresh, begun, ended}
use Rattle.tally.specs.Tally.{is_within}
use Rattle.standing.specs.Standing.{after, stand_verdict}
use Rattle.standing.proofs.Laws.{Read}
use Rattle.judge.specs.Judge.{stepped, steps}
use Rattle.judge.proofs.Laws.{goes}
use Rattle.wage_file.specs.Right.{Payments, File, group_lines, lines_of, orders_in, amounts_in, counts_in, kind_of, RightGroup, RightFile}
use Rattle.wage_file.proofs.RunLaws.{Ends, chosen, came, told, same_counts, no_group, in_group, Rest, right_group, rest_run, run_rest}

-- ---------------------------------------------------------------------------
-- The first two lines

-- what was read after a label and a group's first line
abbrev two : Read
two = record { lines = 2; tally = record { groups = 1; orders = 0; cents = 0 } }

module _ (day : ℕ) where
  -- the record after the label
  abbrev after_label : List ℕ → Judge
  after_label label = after (fresh day) label Label

  -- a day that is a date begins fresh
  begun_made : is_date day ≡ true → begun day ≡ fresh day
  unfolding begun
  begun_made e = rw e

  -- a right label is taken
  label_made : (label : List ℕ) → RightLine day 0 Label label → stepped (fresh day) label ≡ after_label label
  unfolding stand_verdict is_sound is_within sum_of
  label_made label w = goes (fresh day) label Label refl refl (omega arith) w refl

  -- and a right 301 after it
  head_made : (label head : List ℕ) → RightLine day (kind_of label) Group head → stepped (after_label label) head ≡ in_group day (kind_of label) head two 0 0
  unfolding stand_verdict is_sound is_within sum_of
  head_made label head w = goes (after_label label) head Group refl refl (omega arith) w refl

  module _ (n : Counts) where
    -- only a date begins what ends accepted
    begun_told : (ls : List (List ℕ)) → Ends n ls (begun day) → (is_date day ≡ true) × Ends n ls (fresh day)
    unfolding begun
    begun_told ls e = chosen n ls (is_date day) (fresh day) (Date none) (fresh day) e

    -- only a right label is taken first
    label_told : (s : List ℕ) (ss : List (List ℕ)) → Ends n (s ∷ ss) (fresh day) → RightLine day 0 Label s × Ends n ss (after_label s)
    unfolding stand_verdict
    label_told s ss e = let w = came n ss (fresh day) s e in go w.0.line w.0.typed w.0.stands w.0.fields w.1
      where
        go :
            (t : LineType) → typed_of s ≡ Ok t → stand_verdict Fresh (fresh day).group t ≡ passed → places_answer day 0 t s ≡ Ok tt → Ends n ss (after (fresh day) s t) →
            RightLine day 0 Label s × Ends n ss (after_label s)
        go Label f v p g = (record { typed = f; fields = p }, g)
        go Group f v p g = fault_no_pass _ v
        go Order f v p g = fault_no_pass _ v
        go Closing f v p g = fault_no_pass _ v

    -- and only a right 301 after it
    head_told : (label s : List ℕ) (ss : List (List ℕ)) → Ends n (s ∷ ss) (after_label label) → RightLine day (kind_of label) Group s × Ends n ss (in_group day (kind_of label) s two 0 0)
    unfolding stand_verdict sum_of
    head_told label s ss e = let w = came n ss (after_label label) s e in go w.0.line w.0.typed w.0.stands w.0.fields w.1
      where
        go :
            (t : LineType) → typed_of s ≡ Ok t → stand_verdict Labelled (fresh day).group t ≡ passed → places_answer day (kind_of label) t s ≡ Ok tt → Ends n ss (after (after_label label) s t) →
            RightLine day (kind_of label) Group s × Ends n ss (in_group day (kind_of label) s two 0 0)
        go Label f v p g = fault_no_pass _ v
        go Group f v p g = (record { typed = f; fields = p }, g)
        go Order f v p g = fault_no_pass _ v
        go Closing f v p g = fault_no_pass _ v

-- ---------------------------------------------------------------------------
-- Accepted exactly when

-- lines are those of a right file, and these are its counts
pub record RightLines (day : ℕ) (ls : List (List ℕ)) (n : Counts) : Type 0 where
  pub file : File
  pub lines : lines_of file ≡ ls
  pub right : RightFile day file
  pub counts : counts_in file ≡ n

module _ (day : ℕ) where
  -- a right label, a right 301 and what must follow are a right file
  file_made :
      (label head : List ℕ) (ss : List (List ℕ)) (n : Counts) → is_date day ≡ true → RightLine day 0 Label label → RightLine day (kind_of label) Group head →
      Rest day (kind_of label) head two 0 0 ss n → RightLines day (label ∷ (head ∷ ss)) n
  unfolding group_lines orders_in amounts_in
  file_made label head ss n a b c r =
      let g : Payments = record { head = head; orders = r.payments } in
      let f : File = record { label = label; groups = g ∷ r.following; closing = r.closing } in
      let e : lines_of f ≡ label ∷ (head ∷ ss) =
      ap (λ (ls : List (List ℕ)). label ∷ (head ∷ ls)) (append_assoc r.payments (group_lines r.following) (r.closing ∷ []) ∙ r.in_order) in
      record {
        file = f;
        lines = e;
        right = record {
          dated = a;
          label = b;
          some = omega arith;
          each = each_more (RightGroup day (kind_of label)) no_group g r.following (right_group day (kind_of label) head two ss n c r) r.each_group;
          closing = r.last;
          limit = omega (arith, ap length e, r.limit);
        };
        counts = same_counts (counts_in f) n (omega (arith, ap length e, r.lines_told)) (omega (arith, r.groups_told)) (omega (arith, r.orders_told)) (ap (sum_of 1000) (sym (zero-add (amounts r.payments + amounts_in r.following))) ∙ sym r.total_told);
      }

  -- what is accepted is right
  accepted_right : (ls : List (List ℕ)) (n : Counts) → ended (steps (begun day) ls) ≡ Ok n → RightLines day ls n
  unfolding steps
  accepted_right [] n e =
      let t = (told n (fresh day) (begun_told day n [] e).1).last in
      let z : ◌≡◌ {A = ℕ} 0 1 = cc in
      absurd (omega arith)
  accepted_right (s ∷ []) n e =
      let t = (told n (after_label day s) (label_told day n s [] (begun_told day n (s ∷ []) e).1).1).last in
      let z : ◌≡◌ {A = ℕ} 0 1 = cc in
      absurd (omega arith)
  accepted_right (s ∷ (t ∷ ss)) n e =
      let a = begun_told day n (s ∷ (t ∷ ss)) e in
      let b = label_told day n s (t ∷ ss) a.1 in
      let c = head_told day n s t ss b.1 in
      file_made s t ss n a.0 b.0 c.0 (run_rest day (kind_of s) n ss t two 0 0 c.1)

  -- the lines of a right file end accepted, with its counts
  right_run : (label : List ℕ) (gs : List Payments) (closing : List ℕ) → let f : File = record { label = label; groups = gs; closing = closing } in RightFile day f → Ends (counts_in f) (lines_of f) (begun day)
  unfolding steps group_lines orders_in amounts_in
  right_run label [] closing w = let h = w.some in absurd (omega arith)
  right_run label (g ∷ gs) closing w =
      let f : File = record { label = label; groups = g ∷ gs; closing = closing } in
      let x : RightGroup day (kind_of label) g = w.each 0 (omega arith) in
      let ss = (g.orders ++ group_lines gs) ++ (closing ∷ []) in
      let limit = w.limit in
      let r : Rest day (kind_of label) g.head two 0 0 ss (counts_in f) =
      record {
        payments = g.orders;
        following = gs;
        closing = closing;
        in_order = sym (append_assoc g.orders (group_lines gs) (closing ∷ []));
        each = x.each;
        some = omega (arith, x.some);
        number = omega (arith, x.number);
        sum = omega (arith, x.sum);
        each_group = λ k h. w.each (suc k) (omega arith);
        last = w.closing;
        limit = omega arith;
        lines_told = omega arith;
        groups_told = omega arith;
        orders_told = omega arith;
        total_told = ap (sum_of 1000) (sym (zero-add (amounts g.orders + amounts_in gs)));
      } in
      ap (λ (j : Judge). ended (steps j (lines_of f))) (begun_made day w.dated) ∙
      (ap (λ (j : Judge). ended (steps j (g.head ∷ ss))) (label_made day label w.label) ∙
      (ap (λ (j : Judge). ended (steps j ss)) (head_made day label g.head x.head) ∙
      rest_run day (kind_of label) g.head two 0 0 ss (counts_in f) (record { groups = omega arith; orders = omega arith; cents = omega arith }) r))

  -- what is right is accepted
  right_accepted : (ls : List (List ℕ)) (n : Counts) → RightLines day ls n → ended (steps (begun day) ls) ≡ Ok n
  right_accepted ls n w =
      let f = w.file in
      ap (λ (ss : List (List ℕ)). ended (steps (begun day) ss)) (sym w.lines) ∙
      (right_run f.label f.groups f.closing w.right ∙
      ap Ok w.counts)

  -- a wage file is accepted, and these counts told, exactly when its lines are those of a right file with these counts
  pub accepted_exactly : (ls : List (List ℕ)) (n : Counts) → (ended (steps (begun day) ls) ≡ Ok n) ↔ RightLines day ls n
  accepted_exactly ls n = (accepted_right ls n, right_accepted ls n)

-- ---------------------------------------------------------------------------
-- A right file's parts are told by its lines

-- lines taken apart: orders first, then groups, then the 399
record Parts : Type 0 where
  orders : List (List ℕ)
  groups : List Payments
  closing : List ℕ

-- with one more line in front, by its type
abbrev with_line : List ℕ → Parts → Result LineType Refusal → Parts
with_line s p (Ok Label) = p
with_line s p (Ok Group) = record { orders = []; groups = record { head = s; orders = p.orders } ∷ p.groups; closing = p.closing }
with_line s p (Ok Order) = record { orders = s ∷ p.orders; groups = p.groups; closing = p.closing }
with_line s p (Ok Closing) = record { orders = []; groups = []; closing = s }
with_line s p (Err r) = p

-- the parts of some lines
parts_of : List (List ℕ) → Parts
parts_of [] = record { orders = []; groups = []; closing = [] }
parts_of (s ∷ ss) = with_line s (parts_of ss) (typed_of s)

-- the file of some lines
file_of : List (List ℕ) → File
file_of [] = record { label = []; groups = []; closing = [] }
file_of (s ∷ ss) = record { label = s; groups = (parts_of ss).groups; closing = (parts_of ss).closing }

module _ (day kind : ℕ) (closing : List ℕ) where
  -- right orders are told apart from what follows them
  orders_parts :
      (gs : List Payments) (ss os : List (List ℕ)) → Each (RightLine day kind Order) [] os → parts_of ss ≡ record { orders = []; groups = gs; closing = closing } →
      parts_of (os ++ ss) ≡ record { orders = os; groups = gs; closing = closing }
  unfolding parts_of
  orders_parts gs ss [] f e = e
  orders_parts gs ss (s ∷ os) f e =
      let w : RightLine day kind Order s = f 0 (omega arith) in
      rw (w.typed, orders_parts gs ss os (λ k h. f (suc k) (omega arith)) e)

  -- and right groups from one another
  groups_parts :
      typed_of closing ≡ Ok Closing → (gs : List Payments) → Each (RightGroup day kind) no_group gs →
      parts_of (group_lines gs ++ (closing ∷ [])) ≡ record { orders = []; groups = gs; closing = closing }
  unfolding parts_of group_lines
  groups_parts w [] f = rw w
  groups_parts w (g ∷ gs) f =
      let x : RightGroup day kind g = f 0 (omega arith) in
      let more = group_lines gs ++ (closing ∷ []) in
      rw (x.head.typed, append_assoc g.orders (group_lines gs) (closing ∷ []), orders_parts gs more g.orders x.each (groups_parts w gs (λ k h. f (suc k) (omega arith))))

-- a right file is the file of its lines
file_told : (day : ℕ) (f : File) → RightFile day f → file_of (lines_of f) ≡ f
unfolding file_of
file_told day f w = rw (groups_parts day (kind_of f.label) f.closing w.closing f.groups w.each)

-- two right files of the same lines are the same
pub one_file : (day : ℕ) (f g : File) → lines_of f ≡ lines_of g → RightFile day f → RightFile day g → f ≡ g
one_file day f g e v w = sym (file_told day f v) ∙ (ap file_of e ∙ file_told day g w)
