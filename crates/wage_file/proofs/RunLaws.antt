-- Laws of a judge's run: what an accepted end says of each step, which records are sound, and the lines from inside a group on.
-- Assumes nothing.
use Rattle.refusal.proofs.Basics.{◌≡◌, refl, sym, ap, ◌∙◌, arith, ℕ, suc, ◌+◌, ◌*◌, ◌≤◌, ◌<◌, length, take, length-take, length-append, lt-ltb, le-leb, eq-eqb, ltb-true, eqb-true, List, [], ◌∷◌, ◌++◌, append_assoc, Bool, true, false, cond, eqb, ltb, add-zero}
use Rattle.std.specs.Prelude.{Err, Ok}
use Rattle.refusal.specs.declared.Refusal.{Refusal}
use Rattle.verdict.specs.Verdict.{passed, only_if, and_then}
use Rattle.verdict.specs.declared.Fault.{Fault}
use Rattle.verdict.proofs.Verdicts.{fault_no_pass, both_pass, test_holds}
use Rattle.sums.specs.Sums.{limb, sum_of, fits, same_sum, number_of, number_in}
use Rattle.sums.proofs.Laws.{added_on}
use Rattle.sums.proofs.Theorems.{sum_fits, sums_told_apart, text_small}
use Rattle.wage_places.specs.declared.LineType.{LineType}
use Rattle.wage_places.specs.declared.LineType.TheVariants.{Label, Group, Order, Closing}
use Rattle.wage_places.specs.Places.{spots, spot_in, part_of}
use Rattle.wage_line.specs.Line.{typed_of}
use Rattle.wage_line.proofs.PieceLaws.{Each, each_more}
use Rattle.wage_fields.specs.Rules.{places_answer, RightLine}
use Rattle.tally.specs.Tally.{is_within}
use Rattle.worked_out.specs.Amounts.{amounts}
use Rattle.worked_out.proofs.Theorems.{amounts_at_most}
use Rattle.wage_fields.proofs.Plain.{closing_exactly}
use Rattle.condition.specs.declared.Condition.TheVariants.{Grouped}
use Rattle.condition.specs.declared.Counts.{Counts}
use Rattle.condition.specs.declared.Judge.{Judge}
use Rattle.condition.specs.Record.{stage_of, is_refused, refusal_in, refused_with, at_line, next_line, beyond, is_sound, ended}
use Rattle.standing.specs.Standing.{growth_of, after, whole_verdict, stand_verdict}
use Rattle.standing.proofs.Laws.{Read, counts_of, onward, Fair, fair_on, fair_within}
use Rattle.judge.specs.Judge.{stepped, steps}
use Rattle.judge.proofs.Laws.{goes, Taken, taken}
use Rattle.condition.proofs.Laws.{sound_within}
use Rattle.judge.proofs.Theorems.{refusal_stays_on}
use Rattle.condition.proofs.Theorems.{closed_accepts}
use Rattle.wage_file.specs.Right.{Payments, group_lines, orders_in, amounts_in, RightGroup}

-- ---------------------------------------------------------------------------
-- A run that ends accepted

-- from a record, these lines end accepted with these counts
abbrev pub Ends : Counts → List (List ℕ) → Judge → Type 0
Ends n ss j = ended (steps j ss) ≡ Ok n

-- the end of a refused record is its refusal
refused_ends : (j : Judge) → is_refused j.condition ≡ true → ended j ≡ Err (refusal_in j.condition)
unfolding ended
refused_ends j e = rw e

module _ (n : Counts) (ss : List (List ℕ)) where
  -- a refused record never ends accepted
  pub never : (j : Judge) → is_refused j.condition ≡ true → Ends n ss j → ⊥
  never j f e =
      let g : Err (refusal_in j.condition) ≡ Ok n = sym (refused_ends j f) ∙ (ap ended (sym (refusal_stays_on j f ss)) ∙ e) in
      let z : ◌≡◌ {A = ℕ} 0 1 = cc in
      omega arith

  -- a choice between going on and a refusal goes on
  pub chosen : (b : Bool) (next : Judge) (r : Refusal) (j : Judge) → Ends n ss (cond b next (refused_with r j)) → (b ≡ true) × Ends n ss next
  chosen true next r j e = (refl, e)
  chosen false next r j e = absurd (never (refused_with r j) refl e)

  -- what is known of a line after which a file ends accepted: it was taken, and from there the file does
  pub came : (j : Judge) (s : List ℕ) → Ends n (s ∷ ss) j → (w : Taken j s) × Ends n ss (after j s w.line)
  unfolding steps
  came j s e = go (is_refused (stepped j s).condition) refl
    where
      go : (b : Bool) → is_refused (stepped j s).condition ≡ b → (w : Taken j s) × Ends n ss (after j s w.line)
      go true f = absurd (never (stepped j s) f e)
      go false f = let w = taken j s f in (w, ap (λ (k : Judge). ended (steps k ss)) (sym w.goes) ∙ e)

-- what an accepted end says of its record: the 399 was read, it is sound, and its counts are told
pub record Told (n : Counts) (j : Judge) : Type 0 where
  pub last : eqb (stage_of j.condition) 3 ≡ true
  pub sound : is_sound j ≡ true
  pub counts : j.read ≡ n

-- an accepted end says so
pub told : (n : Counts) (j : Judge) → Ends n [] j → Told n j
unfolding steps ended
told n j e = go (is_refused j.condition) (is_sound j) (eqb (stage_of j.condition) 3) refl refl e
  where
    go :
        (a b c : Bool) → is_sound j ≡ b → eqb (stage_of j.condition) 3 ≡ c →
        cond a (Err (refusal_in j.condition)) (cond b (cond c (Ok j.read) (Err (at_line 14 (next_line j)))) (Err beyond)) ≡ Ok n →
        Told n j
    go true b c f g h = let z : ◌≡◌ {A = ℕ} 0 1 = cc in absurd (omega arith)
    go false false c f g h = let z : ◌≡◌ {A = ℕ} 0 1 = cc in absurd (omega arith)
    go false true false f g h = let z : ◌≡◌ {A = ℕ} 0 1 = cc in absurd (omega arith)
    go false true true f g h = record { last = g; sound = f; counts = cc }

-- "then one 399 and nothing after"
nothing_after : (n : Counts) (ss : List (List ℕ)) (j : Judge) → stage_of j.condition ≡ 3 → Ends n ss j → ss ≡ []
unfolding stand_verdict
nothing_after n [] j f e = refl
nothing_after n (s ∷ ss) j f e = let w = came n ss j s e in go w.0.line w.0.stands
  where
    go : (t : LineType) → stand_verdict j.condition j.group t ≡ passed → s ∷ ss ≡ []
    go Label g = fault_no_pass _ (rw f at g)
    go Group g = fault_no_pass _ (rw f at g)
    go Order g = fault_no_pass _ (rw f at g)
    go Closing g = fault_no_pass _ (rw f at g)

-- ---------------------------------------------------------------------------
-- A step that is made

-- numbers and sums that are small enough make a sound record
pub sound :
    (j : Judge) → j.read.lines ≤ 1000000 → is_within j.read.tally ≡ true → j.group.declared ≤ 1000000 → j.group.counted ≤ 1000000 →
    fits 100 j.group.promised ≡ true → fits 100 j.group.total ≡ true → is_sound j ≡ true
unfolding is_sound
sound j a b c d e f = rw (le-leb _ _ a, b, le-leb _ _ c, le-leb _ _ d, e, f)

-- ---------------------------------------------------------------------------
-- What a group's first line declares

-- the number of its orders
abbrev declared_in : List ℕ → ℕ
declared_in head = number_in (part_of Group 5 head)

-- their sum
abbrev promised_in : List ℕ → ℕ
promised_in head = number_of (part_of Group 6 head)

-- the amount of an order
abbrev amount_in : List ℕ → ℕ
amount_in s = number_in (part_of Order 10 s)

-- the number has five digits
declared_small : (head : List ℕ) → declared_in head < 100000
unfolding spots spot_in
declared_small head = text_small 5 (take 18 (part_of Group 5 head)) (simp length-take (omega arith))

-- the sum has twenty
promised_small : (head : List ℕ) → promised_in head < 100 * limb
unfolding spots spot_in
promised_small head = text_small 20 (part_of Group 6 head) (simp length-take (omega arith))

-- counts that tell the same numbers are the same
pub same_counts : (m n : Counts) → m.lines ≡ n.lines → m.tally.groups ≡ n.tally.groups → m.tally.orders ≡ n.tally.orders → m.tally.total ≡ n.tally.total → m ≡ n
same_counts m n a b c d = λ i. record { lines = a i; tally = record { groups = b i; orders = c i; total = d i } }

-- ---------------------------------------------------------------------------
-- Inside a group

-- a group of no lines, which stands past the last
abbrev pub no_group : Payments
no_group = record { head = []; orders = [] }

module _ (day kind : ℕ) where
  -- the record inside a group with this first line, after so many lines, groups and orders, so many orders of the group, and their sum
  abbrev pub in_group : List ℕ → Read → ℕ → ℕ → Judge
  in_group head m counted total = record {
    condition = Grouped;
    day = day;
    kind = kind;
    read = counts_of m;
    group = record { declared = declared_in head; promised = sum_of 100 (promised_in head); counted = counted; total = sum_of 100 total };
  }

  -- what must follow there: orders to the declared number and sum, right groups, and the 399; and which counts they come to
  pub record Rest (head : List ℕ) (m : Read) (counted total : ℕ) (ss : List (List ℕ)) (n : Counts) : Type 0 where
    pub payments : List (List ℕ)
    pub following : List Payments
    pub closing : List ℕ
    pub in_order : payments ++ (group_lines following ++ (closing ∷ [])) ≡ ss
    pub each : Each (RightLine day kind Order) [] payments
    pub some : 0 < counted + length payments
    pub number : counted + length payments ≡ declared_in head
    pub sum : total + amounts payments ≡ promised_in head
    pub each_group : Each (RightGroup day kind) no_group following
    pub last : typed_of closing ≡ Ok Closing
    pub limit : m.lines + length ss ≤ 1000000
    pub lines_told : n.lines ≡ m.lines + length ss
    pub groups_told : n.tally.groups ≡ m.tally.groups + length following
    pub orders_told : n.tally.orders ≡ m.tally.orders + (length payments + orders_in following)
    pub total_told : n.tally.total ≡ sum_of 1000 (m.tally.cents + (amounts payments + amounts_in following))

  -- within the limit the record is sound
  group_sound :
      (head : List ℕ) (m : Read) (counted total : ℕ) → m.lines ≤ 1000000 → Fair m → counted ≤ declared_in head → total ≤ promised_in head →
      is_sound (in_group head m counted total) ≡ true
  group_sound head m counted total a b c d =
      let small = declared_small head in
      let less = promised_small head in
      sound (in_group head m counted total) a (fair_within m b a) (omega arith) (omega arith) (sum_fits 100 (promised_in head) less) (sum_fits 100 total (omega arith))

  -- the orders that end a group make it right
  pub right_group : (head : List ℕ) (m : Read) (ss : List (List ℕ)) (n : Counts) → RightLine day kind Group head → (r : Rest head m 0 0 ss n) → RightGroup day kind (record { head = head; orders = r.payments })
  right_group head m ss n w r = record { head = w; some = omega (arith, r.some); each = r.each; number = omega (arith, r.number); sum = omega (arith, r.sum) }

  -- -------------------------------------------------------------------------
  -- One line

  module _ (head : List ℕ) (m : Read) (counted total : ℕ) where
    -- the record before the line
    abbrev here : Judge
    here = in_group head m counted total

    -- the record after an order
    abbrev with_order : List ℕ → Judge
    with_order s = in_group head (onward (growth_of Order s) m) (counted + 1) (total + amount_in s)

    -- the record after another group's first line
    abbrev with_group : List ℕ → Judge
    with_group s = in_group s (onward (growth_of Group s) m) 0 0

    -- the group is as its first line declares
    record Whole : Type 0 where
      some : 0 < counted
      number : counted ≡ declared_in head
      sum : total ≡ promised_in head

    -- an order read is one more order
    ordered_as : (s : List ℕ) → after here s Order ≡ with_order s
    ordered_as s = rw (added_on 100 total (amount_in s), added_on 1000 m.tally.cents (amount_in s))

    -- a whole group may end
    whole_made : Whole → whole_verdict Grouped here.group ≡ passed
    whole_made w =
        rw (lt-ltb 0 counted w.some, eq-eqb counted (declared_in head) w.number, (sums_told_apart 100 total (promised_in head) (promised_small head)).1 w.sum)

    -- and only a whole group
    whole_told : whole_verdict Grouped here.group ≡ passed → Whole
    whole_told e =
        let number = eqb counted (declared_in head) in
        let same = same_sum (sum_of 100 total) (sum_of 100 (promised_in head)) in
        let a = both_pass (only_if (ltb 0 counted) Fault.Misplaced) (and_then (only_if number Fault.Orders) (only_if same Fault.Sum)) e in
        let b = both_pass (only_if number Fault.Orders) (only_if same Fault.Sum) a.1 in
        record {
          some = ltb-true 0 counted (test_holds (ltb 0 counted) _ a.0);
          number = eqb-true counted (declared_in head) (test_holds number _ b.0);
          sum = (sums_told_apart 100 total (promised_in head) (promised_small head)).0 (test_holds same _ b.1);
        }

    module _ (a : m.lines < 1000000) (b : Fair m) where
      -- a right order is taken
      order_made : (s : List ℕ) → RightLine day kind Order s → counted < declared_in head → total ≤ promised_in head → stepped here s ≡ with_order s
      unfolding stand_verdict
      order_made s w d e = goes here s Order refl (group_sound head m counted total (omega arith) b (omega arith) e) a w (rw (lt-ltb counted (declared_in head) d)) ∙ ordered_as s

      -- a right 301 is taken after a whole group
      group_made : (s : List ℕ) → RightLine day kind Group s → Whole → stepped here s ≡ with_group s
      unfolding stand_verdict sum_of
      group_made s w d = goes here s Group refl (group_sound head m counted total (omega arith) b (omega arith) (omega arith)) a w (whole_made d)

      -- and a 399, after which the file ends accepted
      closing_made : (s : List ℕ) → typed_of s ≡ Ok Closing → Whole → Ends (counts_of (onward (growth_of Closing s) m)) (s ∷ []) here
      unfolding steps stand_verdict is_sound
      closing_made s w d =
          ap ended (goes here s Closing refl (group_sound head m counted total (omega arith) b (omega arith) (omega arith)) a ((closing_exactly day kind s).1 w) (whole_made d)) ∙
          closed_accepts (after here s Closing)
          (group_sound head (onward (growth_of Closing s) m) counted total (omega arith) (fair_on m Closing s b) (omega arith) (omega arith)) refl

    module _ (s : List ℕ) (ss : List (List ℕ)) (n : Counts) where
      -- an order that was taken, and what follows it
      rest_order :
          RightLine day kind Order s → Rest head (onward (growth_of Order s) m) (counted + 1) (total + amount_in s) ss n → Rest head m counted total (s ∷ ss) n
      unfolding amounts
      rest_order w r = record {
        payments = s ∷ r.payments;
        following = r.following;
        closing = r.closing;
        in_order = ap (λ (ls : List (List ℕ)). s ∷ ls) r.in_order;
        each = each_more (RightLine day kind Order) [] s r.payments w r.each;
        some = omega arith;
        number = omega (arith, r.number);
        sum = omega (arith, r.sum);
        each_group = r.each_group;
        last = r.last;
        limit = omega (arith, r.limit);
        lines_told = omega (arith, r.lines_told);
        groups_told = r.groups_told;
        orders_told = omega (arith, r.orders_told);
        total_told = r.total_told ∙ ap (sum_of 1000) (omega arith);
      }

      -- a group's first line that was taken, and what follows it
      rest_group : RightLine day kind Group s → Whole → Rest s (onward (growth_of Group s) m) 0 0 ss n → Rest head m counted total (s ∷ ss) n
      unfolding group_lines orders_in amounts_in amounts
      rest_group w v r =
          let g : Payments = record { head = s; orders = r.payments } in
          record {
            payments = [];
            following = g ∷ r.following;
            closing = r.closing;
            in_order = ap (λ (ls : List (List ℕ)). s ∷ ls) (append_assoc r.payments (group_lines r.following) (r.closing ∷ []) ∙ r.in_order);
            each = λ k h. absurd (omega arith);
            some = omega (arith, v.some);
            number = omega (arith, v.number);
            sum = omega (arith, v.sum);
            each_group = each_more (RightGroup day kind) no_group g r.following (right_group s (onward (growth_of Group s) m) ss n w r) r.each_group;
            last = r.last;
            limit = omega (arith, r.limit);
            lines_told = omega (arith, r.lines_told);
            groups_told = omega (arith, r.groups_told);
            orders_told = omega (arith, r.orders_told);
            total_told = r.total_told ∙ ap (sum_of 1000) (omega arith);
          }

      -- a 399 that was taken, and nothing after it
      rest_closing : typed_of s ≡ Ok Closing → Whole → Ends n ss (after here s Closing) → Rest head m counted total (s ∷ ss) n
      unfolding group_lines orders_in amounts_in amounts
      rest_closing w v e =
          let none = nothing_after n ss (after here s Closing) refl e in
          let t = told n (after here s Closing) (rw none at e) in
          record {
            payments = [];
            following = [];
            closing = s;
            in_order = ap (λ (ls : List (List ℕ)). s ∷ ls) (sym none);
            each = λ k h. absurd (omega arith);
            some = omega (arith, v.some);
            number = omega (arith, v.number);
            sum = omega (arith, v.sum);
            each_group = λ k h. absurd (omega arith);
            last = w;
            limit = omega (arith, (sound_within (after here s Closing) t.sound).lines, ap length none);
            lines_told = omega (arith, ap (λ (k : Counts). k.lines) t.counts, ap length none);
            groups_told = omega (arith, ap (λ (k : Counts). k.tally.groups) t.counts);
            orders_told = omega (arith, ap (λ (k : Counts). k.tally.orders) t.counts);
            total_told = ap (λ (k : Counts). k.tally.total) (sym t.counts) ∙ ap (sum_of 1000) (omega arith);
          }

  -- -------------------------------------------------------------------------
  -- All lines to the end

  -- what was read, with so many orders more
  abbrev read_on : Read → List (List ℕ) → Read
  read_on m os = record {
    lines = m.lines + length os;
    tally = record { groups = m.tally.groups; orders = m.tally.orders + length os; cents = m.tally.cents + amounts os };
  }

  orders_fair : (m : Read) (os : List (List ℕ)) → Fair m → Fair (read_on m os)
  orders_fair m os f = record { groups = omega (arith, f.groups); orders = omega (arith, f.orders); cents = omega (arith, f.cents, amounts_at_most os) }

  -- right orders one after another make the group whole
  orders_run :
      (head : List ℕ) (ss os : List (List ℕ)) (m : Read) (counted total : ℕ) → Each (RightLine day kind Order) [] os →
      counted + length os ≡ declared_in head → total + amounts os ≡ promised_in head → m.lines + length os ≤ 1000000 → Fair m →
      steps (in_group head m counted total) (os ++ ss) ≡
      steps (in_group head (read_on m os) (declared_in head) (promised_in head)) ss
  unfolding steps amounts
  orders_run head ss [] m counted total f a b c d =
      let p : counted ≡ declared_in head = omega arith in
      let q : total ≡ promised_in head = omega arith in
      rw (p, q, add-zero m.lines, add-zero m.tally.orders, add-zero m.tally.cents)
  orders_run head ss (s ∷ os) m counted total f a b c d =
      let p : m.lines + 1 + length os ≡ m.lines + length (s ∷ os) = omega arith in
      let q : m.tally.orders + 1 + length os ≡ m.tally.orders + length (s ∷ os) = omega arith in
      let o : m.tally.cents + amount_in s + amounts os ≡ m.tally.cents + (amount_in s + amounts os) = omega arith in
      ap (λ (j : Judge). steps j (os ++ ss)) (order_made head m counted total (omega arith) d s (f 0 (omega arith)) (omega arith) (omega arith)) ∙
      rw (p, q, o) at (orders_run head ss os (onward (growth_of Order s) m) (counted + 1) (total + amount_in s) (λ k h. f (suc k) (omega arith))
      (omega arith) (omega arith) (omega arith) (fair_on m Order s d))

  -- a whole group, right groups behind it, and the 399 end accepted
  groups_run :
      (closing : List ℕ) (n : Counts) → typed_of closing ≡ Ok Closing → n.lines ≤ 1000000 → (gs : List Payments) (head : List ℕ) (m : Read) →
      Each (RightGroup day kind) no_group gs → 0 < declared_in head → Fair m →
      n.lines ≡ m.lines + length (group_lines gs ++ (closing ∷ [])) → n.tally.groups ≡ m.tally.groups + length gs → n.tally.orders ≡ m.tally.orders + orders_in gs →
      n.tally.total ≡ sum_of 1000 (m.tally.cents + amounts_in gs) →
      Ends n (group_lines gs ++ (closing ∷ [])) (in_group head m (declared_in head) (promised_in head))
  unfolding group_lines orders_in amounts_in steps
  groups_run closing n w limit [] head m f some a b c d e =
      closing_made head m (declared_in head) (promised_in head) (omega arith) a closing w (record { some = some; number = refl; sum = refl }) ∙
      ap Ok (same_counts (counts_of (onward (growth_of Closing closing) m)) n (omega arith) (omega arith) (omega arith) (sym (e ∙ ap (sum_of 1000) (add-zero m.tally.cents))))
  groups_run closing n w limit (g ∷ gs) head m f some a b c d e =
      let r : RightGroup day kind g = f 0 (omega arith) in
      let os = g.orders in
      let more = group_lines gs ++ (closing ∷ []) in
      let p : (os ++ group_lines gs) ++ (closing ∷ []) ≡ os ++ more = append_assoc os (group_lines gs) (closing ∷ []) in
      let size : length ((os ++ group_lines gs) ++ (closing ∷ [])) ≡ length os + length more = ap length p ∙ length-append os more in
      let k = onward (growth_of Group g.head) m in
      let o : m.tally.cents + amounts os + amounts_in gs ≡ m.tally.cents + (amounts os + amounts_in gs) = omega arith in
      ap (λ (j : Judge). ended (steps j ((os ++ group_lines gs) ++ (closing ∷ []))))
      (group_made head m (declared_in head) (promised_in head) (omega arith) a g.head r.head (record { some = some; number = refl; sum = refl })) ∙
      (ap (λ (ls : List (List ℕ)). ended (steps (in_group g.head k 0 0) ls)) p ∙
      (ap ended (orders_run g.head more os k 0 0 r.each (omega arith) (omega arith) (omega arith) (fair_on m Group g.head a)) ∙
      groups_run closing n w limit gs g.head (read_on k os) (λ i h. f (suc i) (omega arith))
      (omega arith) (orders_fair k os (fair_on m Group g.head a)) (omega arith) (omega arith) (omega arith) (e ∙ ap (sum_of 1000) (sym o))))

  -- what must follow does end accepted
  pub rest_run :
      (head : List ℕ) (m : Read) (counted total : ℕ) (ss : List (List ℕ)) (n : Counts) → Fair m → Rest head m counted total ss n →
      Ends n ss (in_group head m counted total)
  rest_run head m counted total ss n a r =
      let os = r.payments in
      let more = group_lines r.following ++ (r.closing ∷ []) in
      let size : length ss ≡ length os + length more = ap length (sym r.in_order) ∙ length-append os more in
      ap (λ (ls : List (List ℕ)). ended (steps (in_group head m counted total) ls)) (sym r.in_order) ∙
      (ap ended (orders_run head more os m counted total r.each r.number r.sum (omega arith) a) ∙
      groups_run r.closing n r.last (omega arith) r.following head (read_on m os) r.each_group
      (omega arith) (orders_fair m os a) (omega arith) r.groups_told (omega arith) (r.total_told ∙ ap (sum_of 1000) (omega arith)))

  -- and nothing else does
  pub run_rest :
      (n : Counts) (ss : List (List ℕ)) (head : List ℕ) (m : Read) (counted total : ℕ) → Ends n ss (in_group head m counted total) → Rest head m counted total ss n
  unfolding stand_verdict sum_of
  run_rest n [] head m counted total e =
      let t = (told n (in_group head m counted total) e).last in
      let z : ◌≡◌ {A = ℕ} 0 1 = cc in
      absurd (omega arith)
  run_rest n (s ∷ ss) head m counted total e =
      let w = came n ss (in_group head m counted total) s e in
      go w.0.line w.0.typed w.0.stands w.0.fields w.1 (run_rest n ss)
    where
      go :
          (t : LineType) → typed_of s ≡ Ok t → stand_verdict Grouped (in_group head m counted total).group t ≡ passed → places_answer day kind t s ≡ Ok tt →
          Ends n ss (after (in_group head m counted total) s t) →
          ((head : List ℕ) (m : Read) (counted total : ℕ) → Ends n ss (in_group head m counted total) → Rest head m counted total ss n) →
          Rest head m counted total (s ∷ ss) n
      go Label w v p e f = fault_no_pass _ v
      go Group w v p e f =
          rest_group head m counted total s ss n (record { typed = w; fields = p }) (whole_told head m counted total v) (f s (onward (growth_of Group s) m) 0 0 e)
      go Order w v p e f =
          rest_order head m counted total s ss n (record { typed = w; fields = p })
          (f head (onward (growth_of Order s) m) (counted + 1) (total + amount_in s) (ap (λ (j : Judge). ended (steps j ss)) (sym (ordered_as head m counted total s)) ∙ e))
      go Closing w v p e f = rest_closing head m counted total s ss n w (whole_told head m counted total v) e
