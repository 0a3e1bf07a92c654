-- Document 01, "The wage file", the writer: what the writer was given for a whole file and which file its lines are; and what it is given when
-- a line, or a whole file, is read and written again.
use Rattle.std.specs.Prelude.{ℕ, ◌<◌, ◌≤◌, ◌≡◌, List, [], ◌∷◌, map, length, get_or, Ok}
use Rattle.text.specs.Split.{joined}
use Rattle.wage_places.specs.declared.LineType.{LineType}
use Rattle.wage_places.specs.declared.LineType.TheVariants.{Label, Group, Order, Closing}
use Rattle.wage_places.specs.Places.{part_of}
use Rattle.wage_line.specs.Pieces.{pieces}
use Rattle.wage_file.specs.Right.{Payments, File, lines_of, kind_of}
use Rattle.lent_fields.specs.Fields.{fields_of}
use Rattle.bare_line.specs.Bare.{bare_line}
use Rattle.wage_draft.specs.Draft.{parts_of_line, sizes_of, PlainElsewhere}
use Rattle.wage_writer.specs.Writer.{label_draft, order_draft, label_answer}
use Rattle.group_writer.specs.GroupWriter.{group_draft, group_answer}
use Rattle.line_room.specs.LineRoom.{closing_answer}

-- ---------------------------------------------------------------------------
-- A file written line by line

-- what the writer of a 301 was given: five fields, and the group's orders
pub record GivenGroup : Type 0 where
  pub fields : List (List ℕ)
  pub orders : List ℕ

-- what the writers of a file were given: the fields of its 300, and its groups
pub record Given : Type 0 where
  pub label : List (List ℕ)
  pub groups : List GivenGroup

-- no group: what stands behind the last one
abbrev pub no_given : GivenGroup
no_given = record { fields = []; orders = [] }

-- the kind that the written 300 tells
abbrev pub kind_given : ℕ → Given → ℕ
kind_given day w = kind_of (label_draft day w.label).line

-- a written 301 and its orders
abbrev pub written_group : ℕ → ℕ → GivenGroup → Payments
written_group day kind g = record { head = (group_draft day kind g.fields g.orders).line; orders = pieces g.orders }

-- the written lines in order: the 300, each group under the kind that the 300 tells, the 399
abbrev pub written_file : ℕ → Given → File
written_file day w =
    record {
      label = (label_draft day w.label).line;
      groups = map (written_group day (kind_given day w)) w.groups;
      closing = bare_line Closing;
    }

-- every writer's answer was acceptance, each in a room of its own; one group or more, within the line limit
pub record AllWritten (day : ℕ) (w : Given) : Type 0 where
  pub label_room : ℕ
  pub group_room : ℕ → ℕ
  pub closing_room : ℕ
  pub label : label_answer day w.label label_room ≡ Ok tt
  pub some : 0 < length w.groups
  pub each : (k : ℕ) → k < length w.groups → group_answer day (kind_given day w) (get_or w.groups k no_given).fields (get_or w.groups k no_given).orders (group_room k) ≡ Ok tt
  pub closing : closing_answer day closing_room ≡ Ok tt
  pub limit : length (lines_of (written_file day w)) ≤ 1000000

-- 309s written from their fields, one behind the other
abbrev pub written_orders : ℕ → ℕ → List (List (List ℕ)) → List (List ℕ)
written_orders day kind fss = map (λ (fs : List (List ℕ)). (order_draft day kind fs).line) fss

-- ---------------------------------------------------------------------------
-- Read and written again

-- the fields of a line, as they are lent to its writer: the bytes of each place, one behind the other, with the places' sizes
abbrev pub read_fields : LineType → List ℕ → List (List ℕ)
read_fields t s = fields_of (sizes_of t) (joined (parts_of_line t s))

-- the five fields of a 301 that its writer is given: all but the number of orders and their sum
abbrev pub five_parts : List ℕ → List (List ℕ)
five_parts s = part_of Group 1 s ∷ (part_of Group 2 s ∷ (part_of Group 3 s ∷ (part_of Group 4 s ∷ (part_of Group 7 s ∷ []))))

-- the sizes of their places: 1–21, 22–24, 25–45, 46–48, 74–81
abbrev pub five_sizes : List ℕ
five_sizes = 21 ∷ (3 ∷ (21 ∷ (3 ∷ (8 ∷ []))))

-- the five as they are lent
abbrev pub read_five : List ℕ → List (List ℕ)
read_five s = fields_of five_sizes (joined (five_parts s))

-- a group read, and each of its orders written again
abbrev pub read_group : ℕ → ℕ → Payments → GivenGroup
read_group day kind g =
    record {
      fields = read_five g.head;
      orders = joined (written_orders day kind (map (read_fields Order) g.orders));
    }

-- a file read, for its writers
abbrev pub read_file : ℕ → File → Given
read_file day f = record { label = read_fields Label f.label; groups = map (read_group day (kind_of f.label)) f.groups }

-- a group whose lines hold, in places not read, what the writer puts there
pub record PlainGroup (g : Payments) : Type 0 where
  pub head : PlainElsewhere Group g.head
  pub each : (k : ℕ) → k < length g.orders → PlainElsewhere Order (get_or g.orders k [])

-- a file whose lines do
pub record PlainFile (f : File) : Type 0 where
  pub label : PlainElsewhere Label f.label
  pub each : (k : ℕ) → k < length f.groups → PlainGroup (get_or f.groups k (record { head = []; orders = [] }))
  pub closing : PlainElsewhere Closing f.closing
