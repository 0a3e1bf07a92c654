-- The place of the first byte `c` is how long the piece before it is. Assumes nothing.
use Rattle.refusal.proofs.Basics.{◌≡◌, ◌∙◌, rules}
use Rattle.std.proofs.Common.{tests}
use Rattle.std.proofs.lemmas.Iterator.{YieldsList-from_slice, IsFirst-from_position}
use Rattle.question.proofs.Laws.{piece_found}
use Rattle.question.proofs.find.Goals as goal

pub returns : goal.returns
returns c =
    c.unwrap_or.ensures
    ∙ piece_found c.args.c c.args.s.now c.position.result
    (IsFirst-from_position _ _ c.position.result (λ b. b ≡ c.args.c) (λ b. b ≡ c.args.c → ⊥) c.position.ensures.ran (YieldsList-from_slice c.args.s.now cc) (λ x q k. search (rules, tests)) (λ x q k. search (rules, tests)))
