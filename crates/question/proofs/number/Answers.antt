-- The text is read byte by byte, each as one digit more. Assumes nothing.
use Rattle.refusal.proofs.Basics.{◌∙◌, arith, rules}
use Rattle.std.proofs.Common.{tests}
use Rattle.std.proofs.lemmas.Iterator.{YieldsList-from_slice}
use Rattle.std.proofs.lemmas.Iterator.Consumers.{fold_from_yields_List}
use Rattle.question.proofs.Laws.{one_more, number_read}
use Rattle.question.proofs.number.Goals as goal

pub returns : goal.returns
returns c =
    fold_from_yields_List _ one_more 0 c.fold.result c.fold.ensures.ran (YieldsList-from_slice c.args.s.now cc) (λ m x b q k. search (rules, tests))
    ∙ number_read 0 c.args.s.now (omega arith)
