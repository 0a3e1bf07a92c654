-- Laws of written lines: what an accepted answer says of the day, the kind, the orders and the fields, the numbers that a 301 declares, and
-- lines one behind the other. Assumes nothing.
use Rattle.refusal.proofs.Basics.{◌≡◌, refl, ◌∙◌, arith, ℕ, zero, suc, ◌*◌, ◌/◌, ◌^◌, ◌≤◌, ◌<◌, length, length-append, length-map, le-leb, List, [], ◌∷◌, ◌++◌, map, Bool, true, false, cond, ◌||◌, eqb, both_true}
use Rattle.std.specs.Prelude.{Ok, Err}
use Rattle.refusal.specs.Refusal.{Answer, none, first_of}
use Rattle.refusal.specs.declared.Refusal.TheVariants.{Form, Date}
use Rattle.text.specs.Bytes.{all_of}
use Rattle.text.specs.Split.{joined}
use Rattle.classes.specs.declared.Class.TheVariants.{Digits}
use Rattle.text.specs.Digits.{digits_text}
use Rattle.text.proofs.Laws.{passes_all}
use Rattle.dates.specs.Dates.{is_date}
use Rattle.sums.specs.Sums.{number_of, number_in}
use Rattle.sums.proofs.Theorems.{text_small, number_of_all}
use Rattle.room.proofs.Digits.{digits_length, number_back, digits_again}
use Rattle.wage_places.specs.declared.LineType.{LineType}
use Rattle.wage_places.specs.declared.LineType.TheVariants.{Label, Group, Order}
use Rattle.wage_places.specs.declared.Spot.{Spot}
use Rattle.wage_line.specs.Pieces.{pieces}
use Rattle.wage_places.specs.Places.{spots, spot_in, part_at, part_of}
use Rattle.wage_places.proofs.Theorems.{field_size}
use Rattle.wage_line.proofs.Theorems.{typed_exactly}
use Rattle.wage_line.proofs.PieceLaws.{AllWhole}
use Rattle.wage_contents.proofs.Accepted.{among_accepted}
use Rattle.wage_fields.specs.Rules.{places_answer, RightLine}
use Rattle.verdict.proofs.Verdicts.{first_both}
use Rattle.wage_fields.proofs.Theorems.{label_kind, group_number_digits, group_sum_digits}
use Rattle.worked_out.specs.Amounts.{amounts}
use Rattle.wage_file.specs.Right.{Payments, kind_of, RightGroup}
use Rattle.wage_draft.specs.Draft.{parts_of_line, sizes_of}
use Rattle.lent_fields.specs.Fields.{lent_whole}
use Rattle.lent_fields.proofs.Laws.{fields_joined, joined_lent_whole}
use Rattle.wage_draft.proofs.Laws.{places_rising, parts_sized}
use Rattle.wage_draft.proofs.Theorems.{DraftedRight, drafted_right}
use Rattle.wage_orders.specs.Orders.{group_orders}
use Rattle.wage_writer.specs.Writer.{label_draft, order_draft, label_answer, order_answer}
use Rattle.group_writer.specs.GroupWriter.{group_fields, group_draft, group_answer}
use Rattle.line_room.specs.LineRoom.{for_day, for_kind, for_room, closing_answer}
use Rattle.wage_round.specs.Round.{five_parts, five_sizes, read_five}

-- ---------------------------------------------------------------------------
-- What an accepted answer says

-- the day is a date
day_passed : (day : ℕ) (rest : Answer) → for_day day rest ≡ Ok tt → (is_date day ≡ true) × (rest ≡ Ok tt)
day_passed day rest e = go (is_date day) refl e
  where
    go : (b : Bool) → is_date day ≡ b → cond b rest (Err (Date none)) ≡ Ok tt → (is_date day ≡ true) × (rest ≡ Ok tt)
    go true f g = (f, g)
    go false f g = let z : ◌≡◌ {A = ℕ} 0 1 = cc in absurd (omega arith)

-- the kind is 4 or 5
kind_passed : (kind : ℕ) (rest : Answer) → for_kind kind rest ≡ Ok tt → ((eqb kind 4 || eqb kind 5) ≡ true) × (rest ≡ Ok tt)
kind_passed kind rest e = go (eqb kind 4 || eqb kind 5) refl e
  where
    go : (b : Bool) → (eqb kind 4 || eqb kind 5) ≡ b → cond b rest (Err (Form none)) ≡ Ok tt → ((eqb kind 4 || eqb kind 5) ≡ true) × (rest ≡ Ok tt)
    go true f g = (f, g)
    go false f g = let z : ◌≡◌ {A = ℕ} 0 1 = cc in absurd (omega arith)

module _ (day room : ℕ) where
  -- of a 300: the day, and an accepted draft
  pub label_passed : (fs : List (List ℕ)) → label_answer day fs room ≡ Ok tt → (is_date day ≡ true) × DraftedRight day 0 Label fs (label_draft day fs).line
  unfolding label_answer
  label_passed fs e =
      let d = day_passed day (first_of (label_draft day fs).answer (for_room room)) e in
      let f = first_both (label_draft day fs).answer (for_room room) d.1 in
      (d.0, drafted_right day 0 Label fs f.0)

  -- of a 399: the day
  pub closing_passed : closing_answer day room ≡ Ok tt → is_date day ≡ true
  unfolding closing_answer
  closing_passed e = (day_passed day (for_room room) e).0

  module _ (kind : ℕ) (fs : List (List ℕ)) where
    -- of a 309: an accepted draft
    pub order_passed : order_answer day kind fs room ≡ Ok tt → DraftedRight day kind Order fs (order_draft day kind fs).line
    unfolding order_answer
    order_passed e =
        let d = day_passed day (for_kind kind (first_of (order_draft day kind fs).answer (for_room room))) e in
        let k = kind_passed kind (first_of (order_draft day kind fs).answer (for_room room)) d.1 in
        let f = first_both (order_draft day kind fs).answer (for_room room) k.1 in
        drafted_right day kind Order fs f.0

    -- of a 301: accepted orders, and an accepted draft
    pub group_passed :
        (orders : List ℕ) → group_answer day kind fs orders room ≡ Ok tt
        → (group_orders day kind orders ≡ Ok tt) × DraftedRight day kind Group (group_fields fs (length orders / 1002) (amounts (pieces orders))) (group_draft day kind fs orders).line
    unfolding group_answer
    group_passed orders e =
        let a = (group_draft day kind fs orders).answer in
        let d = day_passed day (for_kind kind (first_of (group_orders day kind orders) (first_of a (for_room room)))) e in
        let k = kind_passed kind (first_of (group_orders day kind orders) (first_of a (for_room room))) d.1 in
        let o = first_both (group_orders day kind orders) (first_of a (for_room room)) k.1 in
        let f = first_both a (for_room room) o.1 in
        (o.0, drafted_right day kind Group (group_fields fs (length orders / 1002) (amounts (pieces orders))) f.0)

-- ---------------------------------------------------------------------------
-- What makes an answer acceptance

-- there is room for a line
room_passes : (room : ℕ) → 1002 ≤ room → for_room room ≡ Ok tt
room_passes room h = rw (le-leb 1002 room h)

module _ (day room : ℕ) (dated : is_date day ≡ true) (enough : 1002 ≤ room) where
  -- of a 300
  pub label_passes : (fs : List (List ℕ)) → (label_draft day fs).answer ≡ Ok tt → label_answer day fs room ≡ Ok tt
  unfolding label_answer
  label_passes fs e = rw (dated, e) (room_passes room enough)

  -- of a 399
  pub closing_passes : closing_answer day room ≡ Ok tt
  unfolding closing_answer
  closing_passes = rw dated (room_passes room enough)

  module _ (kind : ℕ) (known : (eqb kind 4 || eqb kind 5) ≡ true) (fs : List (List ℕ)) where
    -- of a 309
    pub order_passes : (order_draft day kind fs).answer ≡ Ok tt → order_answer day kind fs room ≡ Ok tt
    unfolding order_answer
    order_passes e = rw (dated, known, e) (room_passes room enough)

    -- of a 301
    pub group_passes : (orders : List ℕ) → group_orders day kind orders ≡ Ok tt → (group_draft day kind fs orders).answer ≡ Ok tt → group_answer day kind fs orders room ≡ Ok tt
    unfolding group_answer
    group_passes orders o e = rw (dated, known, o, e) (room_passes room enough)

-- ---------------------------------------------------------------------------
-- Numbers written and read

-- at most eighteen digits of a number are read back as the number
pub read_number : (n a : ℕ) → n ≤ 18 → a < 10 ^ n → number_in (digits_text n a) ≡ a
read_number n a h g = number_of_all (digits_text n a) (omega (arith, digits_length n a)) ∙ number_back n a g

-- digits are those of the number that they write
pub write_number : (n : ℕ) (s : List ℕ) (a : ℕ) → length s ≡ n → all_of Digits s ≡ true → a ≡ number_of s → digits_text n a ≡ s
write_number n s a l d e = rw (e, ← l) (digits_again s d)

-- ---------------------------------------------------------------------------
-- The fields of a right line

-- the kind that a right 300 tells is 4 or 5
pub label_known : (day : ℕ) (s : List ℕ) → RightLine day 0 Label s → (eqb (kind_of s) 4 || eqb (kind_of s) 5) ≡ true
label_known day s w =
    let f = part_of Label 2 s in
    let b = (among_accepted 4 5 5 f).0 (label_kind day 0 s w.fields) in
    go (eqb (kind_of s) 4) (eqb (kind_of s) 5) (both_true (all_of Digits f) (eqb (number_in f) 4 || (eqb (number_in f) 5 || eqb (number_in f) 5)) b).1
  where
    go : (a b : Bool) → (a || (b || b)) ≡ true → (a || b) ≡ true
    go true b e = refl
    go false true e = refl
    go false false e = e

module _ (s : List ℕ) (whole : length s ≡ 1002) where
  -- the five fields of a 301 have their places' sizes
  five_sizes_lem : map (λ (f : List ℕ). length f) (five_parts s) ≡ five_sizes
  unfolding spots spot_in
  five_sizes_lem =
      let a : length (part_of Group 1 s) ≡ 21 = field_size Group s whole 1 in
      let b : length (part_of Group 2 s) ≡ 3 = field_size Group s whole 2 in
      let c : length (part_of Group 3 s) ≡ 21 = field_size Group s whole 3 in
      let d : length (part_of Group 4 s) ≡ 3 = field_size Group s whole 4 in
      let e : length (part_of Group 7 s) ≡ 8 = field_size Group s whole 7 in
      rw (a, b, c, d, e)

  -- they are lent as themselves
  pub five_read : read_five s ≡ five_parts s
  five_read = rw (← five_sizes_lem) (fields_joined (five_parts s))

  -- and their sizes are the text's
  pub five_sized : lent_whole 5 five_sizes (joined (five_parts s)) ≡ true
  five_sized = rw (← five_sizes_lem) (joined_lent_whole (five_parts s))

  -- so are those of all fields of a line
  pub all_sized : (t : LineType) → lent_whole (length (spots t)) (sizes_of t) (joined (parts_of_line t s)) ≡ true
  all_sized t =
      rw (← (length-map (spots t) (λ (p : Spot). part_at p s)), ← (parts_sized t 0 (spots t) (places_rising t) s whole)) (joined_lent_whole (parts_of_line t s))

  -- with the number and the sum they are all of its fields
  pub seven_parts : (n cents : ℕ) → digits_text 5 n ≡ part_of Group 5 s → digits_text 20 cents ≡ part_of Group 6 s → group_fields (five_parts s) n cents ≡ parts_of_line Group s
  unfolding spots spot_in
  seven_parts n cents a b = rw (a, b)

-- the number and the sum of orders are a 301's digits; there are at most 99,999 of them
pub record Declared (s : List ℕ) (orders : List (List ℕ)) : Type 0 where
  pub number : digits_text 5 (length orders) ≡ part_of Group 5 s
  pub sum : digits_text 20 (amounts orders) ≡ part_of Group 6 s
  pub few : length orders ≤ 99999

-- so it is with a right group
pub declared : (day kind : ℕ) (g : Payments) → RightGroup day kind g → Declared g.head g.orders
unfolding spots spot_in
declared day kind g w =
    let s = g.head in
    let f : places_answer day kind Group s ≡ (Ok tt) = w.head.fields in
    let whole : length s ≡ 1002 = ((typed_exactly Group s).0 w.head.typed).whole in
    let l5 : length (part_of Group 5 s) ≡ 5 = field_size Group s whole 5 in
    let l6 : length (part_of Group 6 s) ≡ 20 = field_size Group s whole 6 in
    let e : length g.orders ≡ number_of (part_of Group 5 s) = w.number ∙ number_of_all (part_of Group 5 s) (omega arith) in
    record {
      number = write_number 5 (part_of Group 5 s) (length g.orders) l5 (passes_all Digits (part_of Group 5 s) (group_number_digits day kind s f)) e;
      sum = write_number 20 (part_of Group 6 s) (amounts g.orders) l6 (passes_all Digits (part_of Group 6 s) (group_sum_digits day kind s f)) w.sum;
      few = omega (arith, text_small 5 (part_of Group 5 s) (omega arith));
    }

-- ---------------------------------------------------------------------------
-- Lines one behind the other

-- whole lines before whole lines
pub whole_append : (ls ms : List (List ℕ)) → AllWhole ls → AllWhole ms → AllWhole (ls ++ ms)
whole_append [] ms f g k h = g k h
whole_append (l ∷ ls) ms f g zero h = f 0 (omega arith)
whole_append (l ∷ ls) ms f g (suc k) h = whole_append ls ms (λ i j. f (suc i) (omega arith)) g k (omega arith)

-- as many bytes as lines, times 1,002
pub whole_length : (ls : List (List ℕ)) → AllWhole ls → length (joined ls) ≡ length ls * 1002
unfolding joined
whole_length [] f = refl
whole_length (l ∷ ls) f =
    let e : length l ≡ 1002 = f 0 (omega arith) in
    omega (arith, length-append l (joined ls), whole_length ls (λ k h. f (suc k) (omega arith)))
