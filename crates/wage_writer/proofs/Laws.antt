-- A law of the writer: all places of a line without fields, drafted. Assumes nothing.
use Rattle.refusal.proofs.Basics.{◌≡◌, arith, ℕ, ◌-◌, length, take, drop, List, take_all}
use Rattle.refusal.specs.Refusal.{Answer}
use Rattle.wage_places.specs.declared.LineType.{LineType}
use Rattle.wage_places.specs.Places.{spots}
use Rattle.bare_line.specs.Bare.{bare_line}
use Rattle.bare_line.proofs.Theorems.{bare_length}
use Rattle.wage_draft.specs.Draft.{drafted, in_scratch, Drafts, DraftsRight}
use Rattle.wage_draft.proofs.Laws.{drafts_right}

-- all places of a type, on a line without fields
pub all_places :
    (day kind : ℕ) (t : LineType) (fs : List (List ℕ)) (line : List ℕ) (n : ℕ) (r : Answer) (after : List ℕ) → n ≡ length (spots t) → line ≡ bare_line t
    → Drafts (in_scratch line (drafted day kind t (take (n - 0) (drop 0 (spots t))) fs line)) r after
    → DraftsRight (drafted day kind t (spots t) fs (bare_line t)) r after
all_places day kind t fs line n r after e b w =
    let f : take (n - 0) (spots t) ≡ spots t = take_all (n - 0) (spots t) (omega arith) in
    drafts_right (bare_line t) (drafted day kind t (spots t) fs (bare_line t)) (bare_length t) r after (rw (f, b) at w)
