-- `text::trim` meets its contract: what is left of its text is a front and a last byte, or nothing. Assumes nothing.
use Rattle.refusal.proofs.Basics.{sym, ◌∙◌, ne_eqb}
use Rattle.text.proofs.Blanks.{trimmed_blank, trimmed_same, trimmed_of_nothing}
use Rattle.text.proofs.trim.Goals as goal

pub returns-then-last-ne32 : goal.returns-then-last-ne32
returns-then-last-ne32 c = sym (c.loop-last.invariant ∙ rw c.in-Some.ensures.cases.0 (trimmed_same _ (ne_eqb _ 32 c.if-last-ne32.true) _))

pub loop-last-preserved : goal.loop-last-preserved
loop-last-preserved c = c.loop-last.invariant ∙ rw (c.in-Some.ensures.cases.0, c.if-last-ne32.false) (trimmed_blank _)

pub returns : goal.returns
returns c = sym (c.loop-last.invariant ∙ trimmed_of_nothing _ c.in_default.ensures.cases)
