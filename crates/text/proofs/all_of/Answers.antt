-- `text::all_of` meets its contract: a class that permits the bytes between two by `all_within`; of another, every byte is permitted where
-- nothing was found. Assumes nothing.
use Rattle.refusal.proofs.Basics.{◌∙◌}
use Rattle.text.proofs.Laws.{all_of_nothing, none_told}
use Rattle.text.proofs.all_of.Goals as goal

pub returns-in_default : goal.returns-in_default
returns-in_default c = none_told _ _ c.is_none.ensures ∙ rw c.first_bad.ensures (all_of_nothing _ _)
