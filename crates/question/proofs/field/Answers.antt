-- A field is the front, up to the next bar, of what stands behind the bars before it.
use Rattle.refusal.proofs.Basics.{◌∙◌}
use Rattle.question.proofs.Laws.{field_front}
use Rattle.question.proofs.field.Goals as goal

pub returns : goal.returns
returns c = c.front.ensures ∙ rw (c.find.ensures, c.behind-t.ensures) (field_front c.args.k c.args.s.now)
