-- `groups::groups_at` meets its contract: the chain asks each group. Assumes nothing.
use Rattle.refusal.proofs.Basics.{◌∙◌, rules}
use Rattle.std.proofs.Common.{tests}
use Rattle.std.proofs.lemmas.Iterator.{YieldsList-from_slice}
use Rattle.std.proofs.lemmas.Iterator.Search.{all_from_yields_List}
use Rattle.models.specs.declared.Group.{Group}
use Rattle.models.proofs.Every.{all_every}
use Rattle.groups.specs.Mirror.{group_at}
use Rattle.groups.proofs.groups_at.Goals as goal

pub returns : goal.returns
returns c = let a = c.args in
    let right = λ (g : Group). group_at g a.ends a.s.now in
    all_from_yields_List right _ _ c.all.result c.all.ensures.ran (YieldsList-from_slice a.model.groups cc) (λ x b q k. search (rules, tests)) ∙ all_every right a.model.groups
