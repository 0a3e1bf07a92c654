-- What the theorems about calls share: how an answer is told. Assumes nothing.
use Rattle.refusal.proofs.Basics.{◌≡◌, refl, arith, ◌↔◌}
use Rattle.std.specs.Prelude.{Ok, Err}
use Rattle.refusal.specs.Refusal.{Answer, refusal_number}
use Rattle.refusal.proofs.Theorems.{refused_not_accepted}
use Rattle.verdict.specs.Verdict.{Verdict, passed}
use Rattle.verdict.proofs.Verdicts.{answer_accepted, accepted_answer}
use Rattle.boundary.specs.declared.Told.{Told}
use Rattle.boundary.specs.Told.{told_of, verdict_told}
use Rattle.boundary.proofs.Theorems.{number_not_zero}

-- a call answers 0 exactly when what it tells accepts
pub told_zero : (x : Answer) (z : Told) → z ≡ told_of x → (z.number ≡ 0) ↔ (x ≡ Ok tt)
unfolding told_of
told_zero (Ok u) z e = (λ h. refl, λ q. rw e refl)
told_zero (Err r) z e = (λ h. let k : refusal_number r ≡ 0 = rw e at h in absurd (omega (arith, number_not_zero r)), λ q. absurd (refused_not_accepted r q))

-- a call that tells a verdict answers 0 exactly when its rule holds
pub verdict_zero : {A : Type 0} (v : Verdict) (z : Told) → z ≡ verdict_told v → (v ≡ passed) ↔ A → (z.number ≡ 0) ↔ A
verdict_zero v z e rule =
    let zero = told_zero _ z e in
    (λ h. rule.0 (answer_accepted v 0 _ (zero.0 h)), λ a. zero.1 (accepted_answer v 0 _ (rule.1 a)))
