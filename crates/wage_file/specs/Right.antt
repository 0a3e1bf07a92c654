-- Document 01, "The wage file": which lines are a right file, said without a judge. "One 300; then one or more groups, each one 301 and one or
-- more 309; then one 399 and nothing after", each line's fields right, each group's number and exact sum as declared.
use Rattle.std.specs.Prelude.{ℕ, ◌+◌, ◌<◌, ◌≤◌, ◌≡◌, true, List, [], ◌∷◌, ◌++◌, length, get_or, Ok}
use Rattle.dates.specs.Dates.{is_date}
use Rattle.sums.specs.Sums.{sum_of, number_of, number_in}
use Rattle.wage_places.specs.declared.LineType.TheVariants.{Label, Group, Order, Closing}
use Rattle.wage_line.specs.Line.{typed_of}
use Rattle.wage_places.specs.Places.{part_of}
use Rattle.wage_fields.specs.Rules.{RightLine}
use Rattle.worked_out.specs.Amounts.{amounts}
use Rattle.condition.specs.declared.Counts.{Counts}

-- ---------------------------------------------------------------------------
-- The parts of a file

-- a group: its 301 and its 309s
pub record Payments : Type 0 where
  pub head : List ℕ
  pub orders : List (List ℕ)

-- a file: its 300, its groups, its 399
pub record File : Type 0 where
  pub label : List ℕ
  pub groups : List Payments
  pub closing : List ℕ

-- the lines of groups, in order
unfoldable pub group_lines : List Payments → List (List ℕ)
group_lines [] = []
group_lines (g ∷ gs) = (g.head ∷ g.orders) ++ group_lines gs

-- the lines of a file, in order
abbrev pub lines_of : File → List (List ℕ)
lines_of f = f.label ∷ (group_lines f.groups ++ (f.closing ∷ []))

-- how many orders groups have
unfoldable pub orders_in : List Payments → ℕ
orders_in [] = 0
orders_in (g ∷ gs) = length g.orders + orders_in gs

-- what their orders come to
unfoldable pub amounts_in : List Payments → ℕ
amounts_in [] = 0
amounts_in (g ∷ gs) = amounts g.orders + amounts_in gs

-- "lines, groups and orders", and document 02, W5: "the file's own total too"
abbrev pub counts_in : File → Counts
counts_in f = record {
  lines = length (lines_of f);
  tally = record { groups = length f.groups; orders = orders_in f.groups; total = sum_of 1000 (amounts_in f.groups) };
}

-- ---------------------------------------------------------------------------
-- What is right

-- the kind that the label tells
abbrev pub kind_of : List ℕ → ℕ
kind_of s = number_in (part_of Label 2 s)

-- one or more orders, each right, their number and sum as the group's first line declares
pub record RightGroup (day kind : ℕ) (g : Payments) : Type 0 where
  pub head : RightLine day kind Group g.head
  pub some : 0 < length g.orders
  pub each : (k : ℕ) → k < length g.orders → RightLine day kind Order (get_or g.orders k [])
  pub number : length g.orders ≡ number_in (part_of Group 5 g.head)
  pub sum : amounts g.orders ≡ number_of (part_of Group 6 g.head)

-- a day that is a date, a label, one or more groups, and the last line, within the line limit; the label's own fields ask for no kind
pub record RightFile (day : ℕ) (f : File) : Type 0 where
  pub dated : is_date day ≡ true
  pub label : RightLine day 0 Label f.label
  pub some : 0 < length f.groups
  pub each : (k : ℕ) → k < length f.groups → RightGroup day (kind_of f.label) (get_or f.groups k (record { head = []; orders = [] }))
  pub closing : typed_of f.closing ≡ Ok Closing
  pub limit : length (lines_of f) ≤ 1000000
