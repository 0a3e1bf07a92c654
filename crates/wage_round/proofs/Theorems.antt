-- What is promised of writer and judge together: a written line is right and reads back as the fields that it was written from; lines written in
-- order are an accepted file; a right line, and a right file, read and written again are the same. Assumes nothing.
use Rattle.refusal.proofs.Basics.{◌≡◌, refl, sym, ap, ◌∙◌, arith, ℕ, zero, suc, ◌/◌, ◌%◌, ◌≤◌, ◌<◌, length, get_or, length-map, List, [], ◌∷◌, map, true, ◌||◌, eqb}
use Rattle.std.specs.Prelude.{Ok}
use Rattle.text.specs.Digits.{digits_text}
use Rattle.text.specs.Split.{joined}
use Rattle.dates.specs.Dates.{is_date}
use Rattle.room.proofs.Digits.{number_back}
use Rattle.wage_places.specs.declared.LineType.{LineType}
use Rattle.wage_places.specs.declared.LineType.TheVariants.{Label, Group, Order, Closing}
use Rattle.wage_places.specs.Places.{spots, spot_in, part_of}
use Rattle.wage_line.specs.Line.{typed_of, place_of}
use Rattle.wage_line.specs.Pieces.{pieces}
use Rattle.wage_line.proofs.PieceLaws.{Each, AllWhole, whole_pieces, pieces_of_lines, pieces_joined}
use Rattle.wage_places.proofs.Theorems.{place_at, found_spot}
use Rattle.wage_line.proofs.Theorems.{place_typed, typed_exactly}
use Rattle.condition.specs.declared.Counts.{Counts}
use Rattle.wage_fields.specs.Rules.{RightLine}
use Rattle.worked_out.specs.Amounts.{amounts}
use Rattle.wage_file.specs.Right.{Payments, File, group_lines, lines_of, counts_in, kind_of, RightGroup, RightFile}
use Rattle.wage_file.specs.File.{file_answer}
use Rattle.wage_file.proofs.RunLaws.{no_group}
use Rattle.wage_file.proofs.Exactly.{accepted_exactly}
use Rattle.wage_file.proofs.Theorems.{of_lines, file_accepted_exactly}
use Rattle.lent_fields.specs.Fields.{lent_whole}
use Rattle.wage_draft.specs.Draft.{Draft, drafted, parts_of_line, sizes_of, blanked, PlainElsewhere}
use Rattle.bare_line.specs.Bare.{bare_line}
use Rattle.wage_draft.proofs.Theorems.{DraftedRight, bare_plain, right_drafted, fields_of_parts}
use Rattle.bare_line.proofs.Theorems.{bare_line_lem}
use Rattle.wage_orders.specs.Orders.{group_orders}
use Rattle.wage_orders.proofs.Theorems.{orders_right}
use Rattle.worked_out.proofs.Theorems.{amounts_small}
use Rattle.wage_writer.specs.Writer.{label_draft, order_draft, label_answer, order_answer}
use Rattle.group_writer.specs.GroupWriter.{group_fields, group_draft, group_answer}
use Rattle.line_room.specs.LineRoom.{closing_answer}
use Rattle.wage_round.specs.Round.{GivenGroup, Given, no_given, kind_given, written_group, written_file, AllWritten, written_orders, read_fields, five_parts, five_sizes, read_five, read_group, read_file, PlainGroup, PlainFile}
use Rattle.wage_round.proofs.Laws.{label_passed, closing_passed, order_passed, group_passed, label_passes, closing_passes, order_passes, group_passes, read_number, label_known, five_read, five_sized, all_sized, seven_parts, declared, whole_append, whole_length}

-- ---------------------------------------------------------------------------
-- A written line reads back as the fields that it was written from

module _ (day kind : ℕ) (t : LineType) (fs : List (List ℕ)) (line : List ℕ) (w : DraftedRight day kind t fs line) where
  -- the part at a place's field number is the field
  part_back : (k : ℕ) → k < length (spots t) → part_of t (place_at t k).field line ≡ get_or fs k []
  part_back k h = rw (found_spot t k h) (w.holds k h)

  -- of any line with its fields at their places
  pub drafted_reads_back : (k : ℕ) → k < length (spots t) → place_of line (place_at t k).field ≡ get_or fs k []
  drafted_reads_back k h = place_typed line (place_at t k).field t w.typed ∙ part_back k h

-- ---------------------------------------------------------------------------
-- A written line is right

module _ (day room : ℕ) where
  module _ (fs : List (List ℕ)) (e : label_answer day fs room ≡ Ok tt) where
    -- a 300 that the writer accepts is one that the judge accepts
    pub written_label_right : RightLine day 0 Label (label_draft day fs).line
    written_label_right = let w = (label_passed day room fs e).1 in record { typed = w.typed; fields = w.right }

    -- it holds, in places not read, what the writer puts there
    pub written_label_plain : PlainElsewhere Label (label_draft day fs).line
    written_label_plain = (label_passed day room fs e).1.plain

    -- and hands back each field
    pub written_label_reads_back : (k : ℕ) → k < length (spots Label) → place_of (label_draft day fs).line (place_at Label k).field ≡ get_or fs k []
    written_label_reads_back = drafted_reads_back day 0 Label fs (label_draft day fs).line (label_passed day room fs e).1

  module _ (kind : ℕ) (fs : List (List ℕ)) (e : order_answer day kind fs room ≡ Ok tt) where
    -- so is a 309
    pub written_order_right : RightLine day kind Order (order_draft day kind fs).line
    written_order_right = let w = order_passed day room kind fs e in record { typed = w.typed; fields = w.right }

    -- it holds, in places not read, what the writer puts there
    pub written_order_plain : PlainElsewhere Order (order_draft day kind fs).line
    written_order_plain = (order_passed day room kind fs e).plain

    -- and hands back each field
    pub written_order_reads_back : (k : ℕ) → k < length (spots Order) → place_of (order_draft day kind fs).line (place_at Order k).field ≡ get_or fs k []
    written_order_reads_back = drafted_reads_back day kind Order fs (order_draft day kind fs).line (order_passed day room kind fs e)

  module _ (kind : ℕ) (fs : List (List ℕ)) (orders : List ℕ) (e : group_answer day kind fs orders room ≡ Ok tt) where
    -- a 301 that the writer accepts heads a right group of the lent orders
    pub written_group_right : RightGroup day kind (record { head = (group_draft day kind fs orders).line; orders = pieces orders })
    unfolding spots spot_in
    written_group_right =
        let line = (group_draft day kind fs orders).line in
        let n = length orders / 1002 in
        let cents = amounts (pieces orders) in
        let p = group_passed day room kind fs orders e in
        let w = p.1 in
        let o = (orders_right day kind orders).0 p.0 in
        let l : length (pieces orders) ≡ n = (whole_pieces orders o.0).0 in
        let small : n ≤ 99999 = o.2 in
        let long : 0 < length orders = o.1 in
        let whole : length orders % 1002 ≡ 0 = o.0 in
        let number : part_of Group 5 line ≡ digits_text 5 n = w.holds 4 (omega arith) in
        let sum : part_of Group 6 line ≡ digits_text 20 cents = w.holds 5 (omega arith) in
        record {
          head = record { typed = w.typed; fields = w.right };
          some = omega arith;
          each = o.3;
          number = l ∙ rw number (sym (read_number 5 n (omega arith) (omega arith)));
          sum = rw sum (sym (number_back 20 cents (amounts_small orders small whole)));
        }

    -- it holds, in places not read, what the writer puts there
    pub written_group_plain : PlainElsewhere Group (group_draft day kind fs orders).line
    written_group_plain = (group_passed day room kind fs orders e).1.plain

    -- and hands back each field, the number and the sum of the orders among them
    pub written_group_reads_back :
        (k : ℕ) → k < length (spots Group)
        → place_of (group_draft day kind fs orders).line (place_at Group k).field ≡ get_or (group_fields fs (length orders / 1002) (amounts (pieces orders))) k []
    written_group_reads_back =
        drafted_reads_back day kind Group (group_fields fs (length orders / 1002) (amounts (pieces orders))) (group_draft day kind fs orders).line (group_passed day room kind fs orders e).1

-- the line that the writer of a 399 writes is one
pub written_closing_right : typed_of (bare_line Closing) ≡ Ok Closing
written_closing_right = bare_line_lem Closing

-- and holds nothing else
pub written_closing_plain : PlainElsewhere Closing (bare_line Closing)
written_closing_plain = bare_plain Closing

-- ---------------------------------------------------------------------------
-- A right line read and written again is the same

module _ (day kind : ℕ) (t : LineType) (s : List ℕ) (right : RightLine day kind t s) (plain : PlainElsewhere t s) where
  -- of each type: its own fields are a draft of it
  pub line_again : drafted day kind t (spots t) (read_fields t s) (bare_line t) ≡ record { answer = Ok tt; line = s }
  line_again = rw (fields_of_parts t s ((typed_exactly t s).0 right.typed).whole) (right_drafted day kind t s right.typed right.fields plain)

module _ (day room : ℕ) (dated : is_date day ≡ true) (enough : 1002 ≤ room) (s : List ℕ) where
  -- a 300
  pub label_again : RightLine day 0 Label s → PlainElsewhere Label s → (label_answer day (read_fields Label s) room ≡ Ok tt) × ((label_draft day (read_fields Label s)).line ≡ s)
  label_again w p =
      let e = line_again day 0 Label s w p in
      (label_passes day room dated enough (read_fields Label s) (ap (λ (d : Draft). d.answer) e), ap (λ (d : Draft). d.line) e)

  -- a 309 under kind 4 or 5
  pub order_again :
      (kind : ℕ) → (eqb kind 4 || eqb kind 5) ≡ true → RightLine day kind Order s → PlainElsewhere Order s
      → (order_answer day kind (read_fields Order s) room ≡ Ok tt) × ((order_draft day kind (read_fields Order s)).line ≡ s)
  order_again kind known w p =
      let e = line_again day kind Order s w p in
      (order_passes day room dated enough kind known (read_fields Order s) (ap (λ (d : Draft). d.answer) e), ap (λ (d : Draft). d.line) e)

  -- a 399, which has no fields
  pub closing_again : PlainElsewhere Closing s → (closing_answer day room ≡ Ok tt) × (bare_line Closing ≡ s)
  unfolding spots blanked
  closing_again p = (closing_passes day room dated enough, sym p)

-- ---------------------------------------------------------------------------
-- Lines written in order are an accepted file

module _ (day : ℕ) where
  -- every line of a right group is whole
  group_whole : (kind : ℕ) (g : Payments) → RightGroup day kind g → AllWhole (g.head ∷ g.orders)
  group_whole kind g w zero h = ((typed_exactly Group g.head).0 w.head.typed).whole
  group_whole kind g w (suc k) h = ((typed_exactly Order (get_or g.orders k [])).0 (w.each k (omega arith)).typed).whole

  -- and so of right groups
  groups_whole : (kind : ℕ) (gs : List Payments) → Each (RightGroup day kind) no_group gs → AllWhole (group_lines gs)
  unfolding group_lines
  groups_whole kind [] f = λ k h. absurd (omega arith)
  groups_whole kind (g ∷ gs) f =
      whole_append (g.head ∷ g.orders) (group_lines gs) (group_whole kind g (f 0 (omega arith))) (groups_whole kind gs (λ k h. f (suc k) (omega arith)))

  -- and of a right file
  pub file_whole : (f : File) → RightFile day f → AllWhole (lines_of f)
  file_whole f w zero h = ((typed_exactly Label f.label).0 w.label.typed).whole
  file_whole f w (suc k) h =
      whole_append (group_lines f.groups) (f.closing ∷ []) (groups_whole (kind_of f.label) f.groups w.each) (closing_whole f.closing w.closing) k (omega arith)
    where
      closing_whole : (s : List ℕ) → typed_of s ≡ Ok Closing → AllWhole (s ∷ [])
      closing_whole s e zero h = ((typed_exactly Closing s).0 e).whole
      closing_whole s e (suc k) h = absurd (omega arith)

  -- the lines of a right file, one behind the other, are accepted, with its counts
  pub right_file_accepted : (f : File) → RightFile day f → file_answer day (joined (lines_of f)) ≡ Ok (counts_in f)
  right_file_accepted f w =
      of_lines day (lines_of f) (file_whole f w) ∙
      (accepted_exactly day (lines_of f) (counts_in f)).1 (record { file = f; lines = refl; right = w; counts = refl })

  module _ (w : Given) (written : AllWritten day w) where
    -- what was written line by line is a right file
    pub written_file_right : RightFile day (written_file day w)
    written_file_right =
        let a = written in
        let kind = kind_given day w in
        record {
          dated = closing_passed day a.closing_room a.closing;
          label = written_label_right day a.label_room w.label a.label;
          some = omega (arith, a.some, length-map w.groups (written_group day kind));
          each = written_each kind w.groups a.group_room a.each;
          closing = written_closing_right;
          limit = a.limit;
        }
      where
        written_each :
            (kind : ℕ) (gs : List GivenGroup) (room : ℕ → ℕ)
            → ((k : ℕ) → k < length gs → group_answer day kind (get_or gs k no_given).fields (get_or gs k no_given).orders (room k) ≡ Ok tt)
            → Each (RightGroup day kind) no_group (map (written_group day kind) gs)
        written_each kind [] room f k h = absurd (omega arith)
        written_each kind (g ∷ gs) room f zero h = written_group_right day (room 0) kind g.fields g.orders (f 0 (omega arith))
        written_each kind (g ∷ gs) room f (suc k) h = written_each kind gs (λ n. room (suc n)) (λ n i. f (suc n) (omega arith)) k (omega arith)

    -- its lines hold, in places not read, what the writer puts there, where the orders lent to its groups do
    pub written_file_plain :
        ((k j : ℕ) → k < length w.groups → j < length (pieces (get_or w.groups k no_given).orders) → PlainElsewhere Order (get_or (pieces (get_or w.groups k no_given).orders) j []))
        → PlainFile (written_file day w)
    written_file_plain p =
        let a = written in
        record {
          label = written_label_plain day a.label_room w.label a.label;
          each = plain_each (kind_given day w) w.groups a.group_room a.each p;
          closing = written_closing_plain;
        }
      where
        plain_each :
            (kind : ℕ) (gs : List GivenGroup) (room : ℕ → ℕ)
            → ((k : ℕ) → k < length gs → group_answer day kind (get_or gs k no_given).fields (get_or gs k no_given).orders (room k) ≡ Ok tt)
            → ((k j : ℕ) → k < length gs → j < length (pieces (get_or gs k no_given).orders) → PlainElsewhere Order (get_or (pieces (get_or gs k no_given).orders) j []))
            → Each PlainGroup no_group (map (written_group day kind) gs)
        plain_each kind [] room f q k h = absurd (omega arith)
        plain_each kind (g ∷ gs) room f q zero h =
            record { head = written_group_plain day (room 0) kind g.fields g.orders (f 0 (omega arith)); each = λ j i. q 0 j (omega arith) i }
        plain_each kind (g ∷ gs) room f q (suc k) h =
            plain_each kind gs (λ n. room (suc n)) (λ n i. f (suc n) (omega arith)) (λ n j i m. q (suc n) j (omega arith) m) k (omega arith)

    -- and the judge accepts it, with its counts
    pub written_file_accepted : file_answer day (joined (lines_of (written_file day w))) ≡ Ok (counts_in (written_file day w))
    written_file_accepted = right_file_accepted (written_file day w) written_file_right

-- ---------------------------------------------------------------------------
-- Orders that the writer of a 301 takes

module _ (day kind : ℕ) where
  -- right orders, one behind the other: one or more, at most 99,999
  pub right_orders_taken :
      (ls : List (List ℕ)) → 0 < length ls → length ls ≤ 99999 → ((k : ℕ) → k < length ls → RightLine day kind Order (get_or ls k []))
      → group_orders day kind (joined ls) ≡ Ok tt
  right_orders_taken ls some few f =
      let whole : AllWhole ls = λ k h. ((typed_exactly Order (get_or ls k [])).0 (f k h).typed).whole in
      let l = whole_length ls whole in
      (orders_right day kind (joined ls)).1 (omega arith, omega arith, omega arith, rw (pieces_of_lines ls whole) f)

  -- such are the 309s that the writer wrote
  pub written_orders_taken :
      (fss : List (List (List ℕ))) (room : ℕ → ℕ) → 0 < length fss → length fss ≤ 99999
      → ((k : ℕ) → k < length fss → order_answer day kind (get_or fss k []) (room k) ≡ Ok tt)
      → group_orders day kind (joined (written_orders day kind fss)) ≡ Ok tt
  written_orders_taken fss room some few f =
      let l = length-map fss (λ (fs : List (List ℕ)). (order_draft day kind fs).line) in
      right_orders_taken (written_orders day kind fss) (omega arith) (omega arith) (written_each fss room f)
    where
      written_each :
          (gss : List (List (List ℕ))) (rooms : ℕ → ℕ) → ((k : ℕ) → k < length gss → order_answer day kind (get_or gss k []) (rooms k) ≡ Ok tt)
          → Each (RightLine day kind Order) [] (written_orders day kind gss)
      written_each [] rooms g k h = absurd (omega arith)
      written_each (fs ∷ gss) rooms g zero h = written_order_right day (rooms 0) kind fs (g 0 (omega arith))
      written_each (fs ∷ gss) rooms g (suc k) h = written_each gss (λ n. rooms (suc n)) (λ n i. g (suc n) (omega arith)) k (omega arith)

-- ---------------------------------------------------------------------------
-- What is read from a line is lent with sizes that are together the text's: no writer refuses it for them

module _ (s : List ℕ) (whole : length s ≡ 1002) where
  -- the fields of a 300
  pub read_label_lent_whole : lent_whole 8 (sizes_of Label) (joined (parts_of_line Label s)) ≡ true
  unfolding spots
  read_label_lent_whole = all_sized s whole Label

  -- of a 309
  pub read_order_lent_whole : lent_whole 16 (sizes_of Order) (joined (parts_of_line Order s)) ≡ true
  unfolding spots
  read_order_lent_whole = all_sized s whole Order

  -- the five of a 301
  pub read_five_lent_whole : lent_whole 5 five_sizes (joined (five_parts s)) ≡ true
  read_five_lent_whole = five_sized s whole

-- ---------------------------------------------------------------------------
-- A right group, and a right file, read and written again is the same

module _ (day room : ℕ) (dated : is_date day ≡ true) (enough : 1002 ≤ room) where
  module _ (kind : ℕ) (known : (eqb kind 4 || eqb kind 5) ≡ true) where
    -- the 301 of a right group of lent orders, from its five fields
    pub group_again :
        (s orders : List ℕ) → length orders % 1002 ≡ 0 → RightGroup day kind (record { head = s; orders = pieces orders }) → PlainElsewhere Group s
        → (group_answer day kind (read_five s) orders room ≡ Ok tt) × ((group_draft day kind (read_five s) orders).line ≡ s)
    group_again s orders whole w p =
        let n = length orders / 1002 in
        let cents = amounts (pieces orders) in
        let g : Payments = record { head = s; orders = pieces orders } in
        let d = declared day kind g w in
        let l : length (pieces orders) ≡ n = (whole_pieces orders whole).0 in
        let few : length (pieces orders) ≤ 99999 = d.few in
        let some : 0 < length (pieces orders) = w.some in
        let bytes : length s ≡ 1002 = ((typed_exactly Group s).0 w.head.typed).whole in
        let number : digits_text 5 n ≡ part_of Group 5 s = ap (digits_text 5) (sym l) ∙ d.number in
        let e : group_draft day kind (read_five s) orders ≡ record { answer = Ok tt; line = s } =
        ap (λ (fs : List (List ℕ)). group_draft day kind fs orders) (five_read s bytes) ∙
        ap (λ (fs : List (List ℕ)). drafted day kind Group (spots Group) fs (bare_line Group)) (seven_parts s bytes n cents number d.sum) ∙
        right_drafted day kind Group s w.head.typed w.head.fields p in
        let o : group_orders day kind orders ≡ (Ok tt) = (orders_right day kind orders).1 (whole, omega arith, omega arith, w.each) in
        (group_passes day room dated enough kind known (read_five s) orders o (ap (λ (d : Draft). d.answer) e), ap (λ (d : Draft). d.line) e)

    -- right orders, each from its fields
    orders_again :
        (os : List (List ℕ)) → ((k : ℕ) → k < length os → RightLine day kind Order (get_or os k [])) → ((k : ℕ) → k < length os → PlainElsewhere Order (get_or os k []))
        → written_orders day kind (map (read_fields Order) os) ≡ os
    orders_again [] f p = refl
    orders_again (s ∷ os) f p =
        ap (λ (l : List ℕ). l ∷ written_orders day kind (map (read_fields Order) os)) (order_again day room dated enough s kind known (f 0 (omega arith)) (p 0 (omega arith))).1 ∙
        ap (λ (ls : List (List ℕ)). s ∷ ls) (orders_again os (λ k h. f (suc k) (omega arith)) (λ k h. p (suc k) (omega arith)))

    -- a right group, its 301 and its orders
    pub payments_again :
        (g : Payments) → RightGroup day kind g → PlainGroup g
        → (group_answer day kind (read_group day kind g).fields (read_group day kind g).orders room ≡ Ok tt) × (written_group day kind (read_group day kind g) ≡ g)
    payments_again g w p =
        let os = g.orders in
        let e : (read_group day kind g).orders ≡ joined os = ap joined (orders_again os w.each p.each) in
        let whole : AllWhole os = λ k h. ((typed_exactly Order (get_or os k [])).0 (w.each k h).typed).whole in
        let q : pieces (joined os) ≡ os = pieces_of_lines os whole in
        let v : RightGroup day kind (record { head = g.head; orders = pieces (joined os) }) = rw q w in
        let a = group_again g.head (joined os) (omega (arith, whole_length os whole)) v p.head in (
          ap (λ (o : List ℕ). group_answer day kind (read_five g.head) o room) e ∙ a.0,
          ap (λ (o : List ℕ). let x : GivenGroup = record { fields = read_five g.head; orders = o } in written_group day kind x) e ∙
              (ap (λ (h : List ℕ). let x : Payments = record { head = h; orders = pieces (joined os) } in x) a.1 ∙
              ap (λ (ls : List (List ℕ)). let x : Payments = record { head = g.head; orders = ls } in x) q),
        )

    -- right groups
    groups_again :
        (gs : List Payments) → Each (RightGroup day kind) no_group gs → Each PlainGroup no_group gs
        → map (written_group day kind) (map (read_group day kind) gs) ≡ gs
    groups_again [] f p = refl
    groups_again (g ∷ gs) f p =
        ap (λ (x : Payments). x ∷ map (written_group day kind) (map (read_group day kind) gs)) (payments_again g (f 0 (omega arith)) (p 0 (omega arith))).1 ∙
        ap (λ (xs : List Payments). g ∷ xs) (groups_again gs (λ k h. f (suc k) (omega arith)) (λ k h. p (suc k) (omega arith)))

    -- each accepted by its writer
    groups_accepted :
        (gs : List Payments) → Each (RightGroup day kind) no_group gs → Each PlainGroup no_group gs
        → (k : ℕ) → k < length (map (read_group day kind) gs)
        → group_answer day kind (get_or (map (read_group day kind) gs) k no_given).fields (get_or (map (read_group day kind) gs) k no_given).orders room ≡ Ok tt
    groups_accepted [] f p k h = absurd (omega arith)
    groups_accepted (g ∷ gs) f p zero h = (payments_again g (f 0 (omega arith)) (p 0 (omega arith))).0
    groups_accepted (g ∷ gs) f p (suc k) h = groups_accepted gs (λ i j. f (suc i) (omega arith)) (λ i j. p (suc i) (omega arith)) k (omega arith)

module _ (day : ℕ) (f : File) (right : RightFile day f) (plain : PlainFile f) where
  -- the 300
  first_again : (label_answer day (read_fields Label f.label) 1002 ≡ Ok tt) × ((label_draft day (read_fields Label f.label)).line ≡ f.label)
  first_again = label_again day 1002 right.dated (omega arith) f.label right.label plain.label

  -- the 399
  last_again : (closing_answer day 1002 ≡ Ok tt) × (bare_line Closing ≡ f.closing)
  last_again = closing_again day 1002 right.dated (omega arith) f.closing plain.closing

  -- the kind that the 300 tells
  kind_again : kind_given day (read_file day f) ≡ kind_of f.label
  kind_again = ap kind_of first_again.1

  -- a right file whose lines hold, in places not read, what the writer puts there: read and written again it is the same
  pub file_again : written_file day (read_file day f) ≡ f
  file_again =
      let kind = kind_of f.label in
      let gs = map (read_group day kind) f.groups in
      let e : map (written_group day (kind_given day (read_file day f))) gs ≡ f.groups =
      ap (λ (k : ℕ). map (written_group day k) gs) kind_again ∙
      groups_again day 1002 right.dated (omega arith) kind (label_known day f.label right.label) f.groups right.each plain.each in
      ap (λ (s : List ℕ). let x : File = record { label = s; groups = map (written_group day (kind_given day (read_file day f))) gs; closing = bare_line Closing } in x) first_again.1 ∙
      (ap (λ (xs : List Payments). let x : File = record { label = f.label; groups = xs; closing = bare_line Closing } in x) e ∙
      ap (λ (s : List ℕ). let x : File = record { label = f.label; groups = f.groups; closing = s } in x) last_again.1)

  -- every writer accepts what was read
  pub file_again_written : AllWritten day (read_file day f)
  file_again_written =
      let kind = kind_of f.label in
      let gs = map (read_group day kind) f.groups in
      record {
        label_room = 1002;
        group_room = λ k. 1002;
        closing_room = 1002;
        label = first_again.0;
        some = omega (arith, right.some, length-map f.groups (read_group day kind));
        each = λ k h.
            ap (λ (n : ℕ). group_answer day n (get_or gs k no_given).fields (get_or gs k no_given).orders 1002) kind_again ∙
            groups_accepted day 1002 right.dated (omega arith) kind (label_known day f.label right.label) f.groups right.each plain.each k h;
        closing = last_again.0;
        limit = omega (arith, right.limit, ap (λ (x : File). length (lines_of x)) file_again);
      }

  -- the same bytes
  pub bytes_again : joined (lines_of (written_file day (read_file day f))) ≡ joined (lines_of f)
  bytes_again = ap (λ (x : File). joined (lines_of x)) file_again

module _ (day : ℕ) (s : List ℕ) (n : Counts) (e : file_answer day s ≡ Ok n) where
  -- the right file that an accepted one is
  abbrev pub accepted_file : File
  accepted_file = ((file_accepted_exactly day s n).0 e).file

  -- where its lines hold, in places not read, what the writer puts there: read and written again it has the same bytes
  pub accepted_again : PlainFile accepted_file → joined (lines_of (written_file day (read_file day accepted_file))) ≡ s
  accepted_again p =
      let w = (file_accepted_exactly day s n).0 e in
      bytes_again day w.file w.right p ∙ (ap joined w.lines ∙ pieces_joined s)
