-- The contract of `lanecockle_judge_step_tally`, as `One` (refusal/specs/One.antt) and the theorems about calls (promises) take one: what
-- Rattle makes as `Kinds.ps`, `Kinds.r`, `Reads.Post`, in the same words. It was written when Rattle made none for a reference to a struct.
--     ps, r        the kinds of the parameters and of the result
--     Post         what the function's own `ensures` says, read off its clauses: where they change, this changes
-- Assumes nothing.
use mathlib.Core.Path.{refl}
use mathlib.Core.List.{List, [], ◌∷◌}
use seplogic.Ra.Ura.{Ura}
use base.Logic.{emp}
use types.Logic.{Logic}
use contract.Lifetimes.{Lfts}
use denote.Builtin.{u8}
use denote.Exit.{yes}
use denote.Struct.Laws as LL
use denote.Triple.Clauses.{AtExit}
use borrow.Fn.Claims.{AllOf}
use borrow.Fn.Kinds.{ParamKind, ResultKind, Out, p_mut}
use borrow.Fn.Read.{Read, r_last, no_know, all_models}
use borrow.Fn.World.{ArgsD, ResD}
use borrow.Kind.ShrSlice.{p_shr_s}
use borrow.Kind.Value.{Valued, ValuedLaws, p_val, r_val}
use borrow.Rule.Local.{mem_whole, whole_mem}
use borrow.Table.Rows.{whole}
use Rattle.desk_record.specs.contracts.Record as R
use Rattle.desk_record.proofs.Record.TheLaws as R'
use Rattle.tally.specs.contracts.Tally as T
use Rattle.desk_tally.specs.contracts.lanecockle_judge_step_tally as f

-- a record by value
abbrev valued : Valued
valued = record { ty = R.the_row; one = refl; val = LL.val R.the_type R'.the_laws; tells = LL.tells R.the_type R'.the_laws; still = LL.still R.the_type R'.the_copy yes; row = whole R.the_row; rd = λ x. x; mk = λ x. x }

abbrev valued_laws : (M : Type 1) (𝓤 : Ura M) (𝓛 : Logic 𝓤) → ValuedLaws 𝓛 valued
valued_laws M 𝓤 𝓛 = record {
  copies = LL.copy R.the_type R'.the_copy 𝓛;
  lawful = LL.lawful R.the_type R'.the_laws 𝓛;
  makes = LL.makes R.the_type R'.the_plain 𝓛;
  in_mem = mem_whole 𝓛 R.the_row;
  of_mem = whole_mem 𝓛 R.the_row;
}

abbrev pub ps : List (ParamKind 2)
ps = p_val valued valued_laws ∷ p_shr_s u8 0 tt ∷ p_mut T.the_row 1 tt ∷ []

abbrev pub r : ResultKind 2
r = r_val valued valued_laws

-- the clause is a plain fact
abbrev said : (κs : Lfts 2) (a : ArgsD f.signature κs) (z : ResD f.signature κs) (s : AtExit f.ended κs) → Read (λ w. emp w.𝓤) no_know (λ w. (f.clauses w.𝓛 w.𝓜.mem w.𝓡.run κs a).ensures tt z s)
said κs a z s = all_models (λ w. (f.clauses w.𝓛 w.𝓜.mem w.𝓡.run κs a).ensures tt z s) (λ w. r_last _) (λ w. refl) (λ w. refl) (λ w. refl)

abbrev pub Post : Out 2 ps r
Post κs a z s = AllOf (said κs a z s).owes
