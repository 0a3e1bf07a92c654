-- The words in which all proofs are written, as specs/Basics.antt has those of the definitions, so that a proof's header is one line
-- for them: the logic's laws that proofs here cite, the rules of its tactics, and the laws of choices. Assumes nothing.

-- ---------------------------------------------------------------------------
-- Equality, truth values and choices

pub use mathlib.Core.Path.{◌≡◌, refl, sym, ◌∙◌, ap, subst}
pub use mathlib.Core.Logic.{◌↔◌, ◌⊎◌, inl, inr, ⊎_elim}
pub use mathlib.Core.Bool.{Bool, true, false, cond, not, ◌&&◌, ◌||◌, false≢true, and_assoc, and-false, and-true, or_assoc, or-false, or-true}
pub use Rattle.refusal.proofs.Choices.{taken, left, entered, chosen, and_first, and_second, or_first, or_second, both_true}
-- ---------------------------------------------------------------------------
-- Numbers, and tests on them

pub use Prim.Native.Nat.{ℕ, zero, suc, ◌+◌, ◌-◌, ◌*◌, ◌/◌, ◌%◌, ◌^◌, ◌<◌, ◌≤◌}
pub use native.Mathlib.Nat.{zero-add, add-zero, suc-add, add_comm, zero-mul, mul-one, one-mul, suc-mul, mul-suc, mul_comm, mul_assoc, mul_left_comm, add-mul, mul-add, mul-le-mul_right, le-mul_of_pos_right, zero-div, div-one, div-eq_of_lt, div-eq_of_lt-le, div-div-eq-div-mul, div-add-mod, div-add-mod', mul-add-div_right, mod-one, mod-lt, mod-eq_of_lt, mod-eq-sub-mod, add-mul-mod_self_left, pow-suc, pow-succ', one-le-pow, pow-le-pow_right}
pub use native.Mathlib.Numerals.{add-one}
pub use lib.Dec.{eqb, leb, ltb, lit<, eqb-suc-zero, leb-zero, leb-suc-zero}
pub use borrow.Author.Tests.{eq-eqb, ne_eqb, eqb-true, eqb-false, le-leb, lt-leb, leb-true, leb-false, le-ltb, lt-ltb, ltb-true, ltb-false, not-true, not-false}
-- ---------------------------------------------------------------------------
-- Lists

pub use mathlib.Core.List.Memᴰ.{cases_cons as mem_cases_cons}
pub use mathlib.Core.List.Memᴰ.{head as mem_head}
pub use mathlib.Core.List.Memᴰ.{not-nil as mem_not_nil}
pub use mathlib.Core.List.Memᴰ.{tail as mem_tail}
pub use mathlib.Core.List.{List, [], ◌∷◌, ◌++◌, map, append-nil, append_assoc, Memᴰ}
pub use lib.ListN.{length, get_or, take, drop, set, replicate, length-append, length-map, length-take, length-drop, length-set, length-replicate, drop_of_length-le, take-append-drop, get_or-eq_default, get_or-append, get_or-map}
pub use lib.Seq.{sets, sets-eq, length-sets, set_at, set_out, set-set, set_comm, take-nil, take_all, take_at, take-suc, take-length, length-take-le, take-take, take-add, take-suc-set, get_or-set_same, get_or-set_other, take-set-le, take-set-lt, take-append-le, take-append_seam, take-append-add, drop_at, drop-cons, drop-drop, drop-length, drop-set-lt, drop-append-le, drop-append_seam, drop-append-add, append_snoc, get_or-take, get_or-drop, get_or-append-add, get_or-append_seam}
-- ---------------------------------------------------------------------------
-- What `search` and `omega` go by

pub use borrow.Author.Rules.{rules}
pub use native.Mathlib.Omega.{arith}
