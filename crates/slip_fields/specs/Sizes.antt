-- The most bytes of each field of a slip, as document 01, "The slip's fourteen fields", leaves them: with their line feeds the fourteen
-- are at most 483 bytes.
use Rattle.std.specs.Prelude.{ℕ, ◌*◌, cond, eqb}
use Rattle.slip_fields.specs.Fields.{most_of}

-- the most bytes of field n; a text's characters have at most two bytes each, so 60, 54, 54, 50, 50, 54 for 4 to 9 and 70 for 14
unfoldable pub size_of : ℕ → ℕ
size_of n =
    cond (eqb n 1) 8
    (cond (eqb n 2) 3
    (cond (eqb n 3) 15
    (cond (eqb n 10) 21
    (cond (eqb n 11) 4
    (cond (eqb n 12) 22
    (cond (eqb n 13) 4
    (2 * most_of n)))))))
