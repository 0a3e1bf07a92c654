-- Document 01, "The wage file": the rule of a place, by its line's type and its field's number, and a line's places in order. f are the
-- place's own bytes, s the line that it stands in.
use Rattle.std.specs.Prelude.{ℕ, zero, suc, cond, ◌≡◌, List, [], ◌∷◌, eqb, length, get_or, Ok, Err}
use Rattle.refusal.specs.Refusal.{Answer, none, first_of}
use Rattle.verdict.specs.Verdict.{Verdict, passed, answer_at}
use Rattle.refusal.specs.declared.Refusal.TheVariants.{Size}
use Rattle.wage_places.specs.declared.LineType.{LineType}
use Rattle.wage_places.specs.declared.LineType.TheVariants.{Label, Group, Order, Closing}
use Rattle.wage_places.specs.declared.Spot.{Spot}
use Rattle.wage_places.specs.Places.{spots, no_spot, part_at}
use Rattle.wage_line.specs.Line.{typed_of}
use Rattle.label_rules.specs.Rules.{label_rule}
use Rattle.group_rules.specs.Rules.{group_rule}
use Rattle.order_rules.specs.Rules.{order_rule}

-- under a day and a kind; a 399 has no places
abbrev pub rule_verdict : ℕ → ℕ → LineType → ℕ → List ℕ → List ℕ → Verdict
rule_verdict day kind Label n f s = label_rule day n f s
rule_verdict day kind Group n f s = group_rule day n f
rule_verdict day kind Order n f s = order_rule kind n f s
rule_verdict day kind Closing n f s = passed

-- ---------------------------------------------------------------------------
-- A line's places in order

-- what one place of a line says
unfoldable pub place_verdict : ℕ → ℕ → LineType → Spot → List ℕ → Verdict
place_verdict day kind t p s = rule_verdict day kind t p.field (part_at p s) s

-- "Lines of 1,000 bytes, WIN-1250, then CR LF", else 1; "For 3, byte is the first offending byte; otherwise the field's first byte"
unfoldable pub place_answer : ℕ → ℕ → LineType → Spot → List ℕ → Answer
place_answer day kind t p s = cond (eqb (length s) 1002) (answer_at p.field p.start (place_verdict day kind t p s)) (Err (Size none))

unfoldable pub places_from : ℕ → ℕ → LineType → List Spot → List ℕ → Answer
places_from day kind t [] s = Ok tt
places_from day kind t (p ∷ ps) s = first_of (place_answer day kind t p s) (places_from day kind t ps s)

-- "then the fields in order"
unfoldable pub places_answer : ℕ → ℕ → LineType → List ℕ → Answer
places_answer day kind t s = places_from day kind t (spots t) s

-- a line of a type with its fields right, under a day and a kind
pub record RightLine (day kind : ℕ) (t : LineType) (s : List ℕ) : Type 0 where
  pub typed : typed_of s ≡ Ok t
  pub fields : places_answer day kind t s ≡ Ok tt

-- as many places, from an order on; past the last, no place
unfoldable pub spots_from : LineType → ℕ → ℕ → List Spot
spots_from t k zero = []
spots_from t k (suc n) = get_or (spots t) k no_spot ∷ spots_from t (suc k) n
