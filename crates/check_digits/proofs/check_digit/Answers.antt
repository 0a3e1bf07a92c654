-- `check_digits::check_digit` meets its contract: what is read stays small, and is what is read of the bytes so far. Assumes nothing.
use Rattle.refusal.proofs.Basics.{◌≡◌, sym, ap, subst, ◌∙◌, ℕ, List, rules}
use Rattle.std.proofs.lemmas.Fn.{fold_over, serves_by, slice_gives, fronts}
use Rattle.check_digits.specs.declared.Run.{Run}
use Rattle.check_digits.specs.Mirror.{Small, run_start, read_of, run_of, digit_of}
use Rattle.check_digits.proofs.Laws.{start_small, read_small, run_after, read_check_digit}
use Rattle.check_digits.proofs.check_digit.Goals as goal
use Rattle.check_digits.proofs.check_digit.Goals.{After-fold-run}

pub fold-run-requires-clause-callable : goal.fold-run-requires-clause-callable
fold-run-requires-clause-callable c = let rule = c.args.rule in
    serves_by _ (λ xs q. Small q.1) (λ xs q x v h r. search (rules, read_small rule)) _ _ _ _ (rw c.started.ensures (start_small rule)) (λ xs t q x u y s h. search rules)

-- what was read of the whole
all_read : (c : After-fold-run) → (c.fold-run.result ≡ run_of c.args.rule (run_start c.args.rule) c.args.s.now) × Small c.fold-run.result
unfolding run_of
all_read c = let rule = c.args.rule in
    let J : List ℕ → Run → Type 0 = λ s run. (run ≡ run_of rule (run_start rule) s) × Small run in
    subst (λ s. J s c.fold-run.result) c.iter.ensures.rest
    (fold_over fronts (λ b. b.now) _ J _
    (λ s run b next f h k.
    let e : next ≡ read_of rule run b.now = search rules in (
      (e ∙ ap (λ (r : Run). read_of rule r b.now) h.0 ∙ sym (run_after rule (run_start rule) s b.now), rw e (read_small rule run b.now h.1)),
      search rules,
    ))
    _ _ _ _ (slice_gives c.iter.result) (c.started.ensures, rw c.started.ensures (start_small rule)) c.fold-run.ensures.ran)

pub digit_for-requires : goal.digit_for-requires
digit_for-requires c = (all_read c).1

pub returns : goal.returns
returns c = c.digit_for.ensures ∙ ap (digit_of c.args.rule) (all_read (goal.at.returns c).After-fold-run).0 ∙ read_check_digit c.args.rule c.args.s.now
