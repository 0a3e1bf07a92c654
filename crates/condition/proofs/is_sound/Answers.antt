-- `judge::is_sound` meets its contract: the tests joined are the definition's. Assumes nothing.
use Rattle.condition.specs.Record.{is_sound}
use Rattle.condition.proofs.is_sound.Goals as goal

pub returns : goal.returns
unfolding is_sound
returns c = rw (c.fits-2.ensures, c.fits.ensures, c.is_within.ensures)
