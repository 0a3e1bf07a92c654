-- `lent_fields::given` meets its contract: a field is the front of the text behind those before it. Assumes nothing.
use Rattle.refusal.proofs.Basics.{◌∙◌}
use Rattle.lent_fields.proofs.Laws.{front_behind}
use Rattle.lent_fields.proofs.given.Goals as goal

pub returns : goal.returns
returns c = let a = c.args in
    c.front.ensures ∙ (rw (c.size_at.ensures, c.text_behind.ensures) (front_behind a.sizes.now a.text.now a.k))
