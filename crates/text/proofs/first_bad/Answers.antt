-- `text::first_bad` meets its contract: where every byte is a digit none is found. Assumes nothing.
use Rattle.refusal.proofs.Basics.{refl, sym, ◌∙◌}
use Rattle.classes.specs.declared.Class.TheVariants.{Digits}
use Rattle.text.proofs.Laws.{none_bad}
use Rattle.text.proofs.first_bad.Goals as goal

pub returns-in-Digits : goal.returns-in-Digits
returns-in-Digits c = rw c.in-Digits.is (sym (none_bad Digits _ (sym (c.all_within.ensures Digits (λ b. refl)) ∙ c.if-all_within.true)))
