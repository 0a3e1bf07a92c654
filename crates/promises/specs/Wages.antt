-- Demand 2, wage files: what a right one is, said of its bytes.
use Rattle.std.specs.Prelude.{ℕ, ◌≡◌, List}
use Rattle.wage_line.specs.Pieces.{pieces}
use Rattle.wage_file.specs.Right.{File, lines_of, RightFile}

-- the bytes are the lines of a right file, one behind the other
pub record RightBytes (day : ℕ) (bytes : List ℕ) : Type 0 where
  pub file : File
  pub lines : pieces bytes ≡ lines_of file
  pub right : RightFile day file
