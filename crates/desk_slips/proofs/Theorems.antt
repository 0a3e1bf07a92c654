-- What is promised of the calls of slips. Assumes nothing.
use Rattle.refusal.proofs.Basics.{◌≡◌, ℕ, take, drop, List}
use Rattle.text.specs.declared.Part.{Part}
use Rattle.slip_fields.specs.declared.Currency.TheVariants.{Euro}
use Rattle.slip_handed.specs.Handed.{field_part, field_of}
use Rattle.slip_handed.proofs.Laws.{field_stands}

-- the bytes of a part
abbrev bytes_of : Part → List ℕ → List ℕ
bytes_of p s = take p.length (drop p.start s)

-- the part that is told of a slip's field is the field that is handed back
pub part_is_field : (s : List ℕ) (n : ℕ) → bytes_of (field_part s n) s ≡ field_of s n
part_is_field s n = (field_stands Euro s n).1
