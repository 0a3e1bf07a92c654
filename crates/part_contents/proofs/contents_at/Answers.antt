-- `part_contents::contents_at` meets its contract: the chain asks of each part. Assumes nothing.
use Rattle.refusal.proofs.Basics.{◌≡◌, ◌∙◌, rules}
use Rattle.std.proofs.Common.{tests}
use Rattle.std.proofs.lemmas.Iterator.{YieldsList-from_slice}
use Rattle.std.proofs.lemmas.Iterator.Search.{all_from_yields_List}
use Rattle.models.specs.declared.Asked.{Asked}
use Rattle.models.specs.Every.{every}
use Rattle.models.proofs.Every.{all_every}
use Rattle.part_contents.specs.Mirror.{asked_at}
use Rattle.part_contents.proofs.contents_at.Goals as goal

pub returns-else-end_of-eq0 : goal.returns-else-end_of-eq0
returns-else-end_of-eq0 c = let a = c.args in
    let held = λ (x : Asked). asked_at x a.ends a.s.now in
    let e : c.all.result ≡ every held a.model.asked = all_from_yields_List held _ _ c.all.result c.all.ensures.ran (YieldsList-from_slice a.model.asked cc) (λ x b q k. search (rules, tests)) ∙ all_every held a.model.asked in
    rw e (search rules)
