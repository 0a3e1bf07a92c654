-- `running_total::step` meets its contract: the judge's refusal first, then 29, then the tally with what the line adds. Assumes nothing.
use Rattle.refusal.proofs.Basics.{◌≡◌, sym, ap, ◌∙◌, true, false, cond}
use Rattle.tally.specs.declared.Growth.{Growth}
use Rattle.tally.specs.Tally.{is_within, grown}
use Rattle.tally.proofs.Laws.{grows_within, grows}
use Rattle.condition.specs.declared.Judge.{Judge}
use Rattle.condition.specs.Record.{is_refused, line_place, next_line}
use Rattle.judge.specs.Judge.{stepped}
use Rattle.judge.proofs.Laws.{taken}
use Rattle.running_total.specs.RunningTotal.{growth_in}
use Rattle.running_total.proofs.Theorems.{judge_first, overfull_is_29, brought_up}
use Rattle.running_total.proofs.step.Goals as goal

pub returns-then-is_refused : goal.returns-then-is_refused
returns-then-is_refused c = let j = c.args.j in
    let s = c.args.s.now in
    let t = c.args.t in
    rw c.step-judge.ensures (sym (judge_first j s t (ap (λ (k : Judge). is_refused k.condition) (sym c.step-judge.ensures) ∙ (sym c.is_refused.ensures ∙ c.if-is_refused.true))))

pub returns-then-is_within : goal.returns-then-is_within
returns-then-is_within c = let j = c.args.j in
    let s = c.args.s.now in
    let t = c.args.t in
    let grew : c.grow-tally.result ≡ cond (is_within t) (grown t (growth_in s)) t = c.grow-tally.ensures ∙ ap (λ (more : Growth). cond (is_within t) (grown t more) t) c.growth.ensures in
    let within : is_within (grown t (growth_in s)) ≡ true = sym (grows_within t (growth_in s)) ∙ (ap is_within (sym grew) ∙ (sym c.is_within.ensures ∙ c.if-is_within.true)) in
    rw (c.step-judge.ensures, grew ∙ grows t (growth_in s) within) (sym (brought_up j s t (ap (λ (k : Judge). is_refused k.condition) (sym c.step-judge.ensures) ∙ (sym c.is_refused.ensures ∙ c.if-is_refused.false)) within))

pub returns : goal.returns
returns c = let j = c.args.j in
    let s = c.args.s.now in
    let t = c.args.t in
    let grew : c.grow-tally.result ≡ cond (is_within t) (grown t (growth_in s)) t = c.grow-tally.ensures ∙ ap (λ (more : Growth). cond (is_within t) (grown t more) t) c.growth.ensures in
    let within : is_within (grown t (growth_in s)) ≡ false = sym (grows_within t (growth_in s)) ∙ (ap is_within (sym grew) ∙ (sym c.is_within.ensures ∙ c.if-is_within.false)) in
    let takes : is_refused (stepped j s).condition ≡ false = ap (λ (k : Judge). is_refused k.condition) (sym c.step-judge.ensures) ∙ (sym c.is_refused.ensures ∙ c.if-is_refused.false) in
    let lines : c.step-judge.result.read.lines ≡ next_line j = ap (λ (k : Judge). k.read.lines) (c.step-judge.ensures ∙ (taken j s takes).goes) in
    rw (c.refused.ensures, c.of_line.ensures ∙ ap line_place lines) (sym (overfull_is_29 j s t takes within))
