-- How the code lists: mark by mark, and what it asks of each filling. It mirrors src/; proofs/ leads from it to the listing of
-- Fillings.antt, and wet/proofs/Accepts.antt to what the rules ask.
use Rattle.std.specs.Prelude.{ℕ, ◌*◌, ◌^◌, Bool, false, List}
use Rattle.text.specs.Bytes.{marks}
use Rattle.filling.specs.Filling.{fill}
use Rattle.fillings.specs.Fillings.{among}
use Rattle.account.specs.Answers.{is_iban}
use Rattle.groups.specs.Mirror.{obeys_at}
use Rattle.fillings.specs.declared.Aim.{Aim}
use Rattle.fillings.specs.declared.Aim.TheVariants.{Iban, Reference, Unmendable}

-- ---------------------------------------------------------------------------
-- Mark by mark: the fillings that stand in one part of the numbers

-- of the n fillings of s from the number a on, those that p accepts
unfoldable pub between : (List ℕ → Bool) → List ℕ → ℕ → ℕ → List ℕ
between p s a n = among (λ (k : ℕ). p (fill s k)) a n

-- the accepted fillings of s whose numbers begin with the digits of `number`
abbrev pub block : (List ℕ → Bool) → List ℕ → ℕ → List ℕ
block p s number = between p s (number * 10 ^ marks s) (10 ^ marks s)

-- ---------------------------------------------------------------------------
-- What is asked of each filling: of an IBAN its rule, of a reference what its model asks by the ends of its parts, which are found once

-- "A form that no filling can mend": none is accepted
unfoldable pub accepts : Aim → List ℕ → Bool
accepts Iban s = is_iban s
accepts (Reference model ends) s = obeys_at model ends s
accepts Unmendable s = false
