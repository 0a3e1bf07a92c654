-- The version of the library as one number; tools/tables holds it to the file VERSION.
use Rattle.std.specs.Prelude.{ℕ}

abbrev pub version : ℕ
version = 20000
