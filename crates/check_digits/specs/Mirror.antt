-- How the code reads a check digit's digits, from left to right: it mirrors src/, and proofs/Laws.antt leads from it to the definitions
-- of CheckDigit.antt. No contract of a public call cites it.
use Rattle.std.specs.Prelude.{ℕ, ◌+◌, ◌-◌, ◌%◌, ◌<◌, cond, List, [], ◌∷◌}
use Rattle.classes.specs.Classes.{is_digit}
use Rattle.check_digits.specs.CheckDigit.{carry, digit_for}
use Rattle.check_digits.specs.declared.Rule.{Rule}
use Rattle.check_digits.specs.declared.Rule.TheVariants.{Ini, Mod1110}
use Rattle.check_digits.specs.declared.Run.{Run}

-- both numbers stay below 11
abbrev pub Small : Run → Type 0
Small run = (run.sum < 11) × (run.sums < 11)

abbrev pub run_start : Rule → Run
run_start Ini = record { sum = 0; sums = 0 }
run_start Mod1110 = record { sum = 10; sums = 0 }

abbrev pub step_of : Rule → Run → ℕ → Run
step_of Ini run d = record { sum = (run.sum + d) % 11; sums = (run.sums + (run.sum + d) % 11) % 11 }
step_of Mod1110 run d = record { sum = carry run.sum d; sums = 0 }

abbrev pub read_of : Rule → Run → ℕ → Run
read_of rule run b = cond (is_digit b) (step_of rule run (b - 48)) run

unfoldable pub run_of : Rule → Run → List ℕ → Run
run_of rule run [] = run
run_of rule run (b ∷ s) = run_of rule (read_of rule run b) s

abbrev pub digit_of : Rule → Run → ℕ
digit_of Ini run = digit_for Ini ((run.sum + run.sums) % 11)
digit_of Mod1110 run = digit_for Mod1110 run.sum
