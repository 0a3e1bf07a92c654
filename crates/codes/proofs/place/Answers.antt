-- `codes::place` meets its contract: the table is the list of the codes. Assumes nothing.
use Rattle.codes.specs.Codes.{code_place}
use Rattle.codes.proofs.place.Goals as goal

pub returns : goal.returns
unfolding code_place
returns c = c.place_in.ensures
