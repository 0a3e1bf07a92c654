-- `wage_draft::draft_in`: what is left to be drafted is the whole draft. Assumes nothing.
use Rattle.refusal.proofs.Basics.{◌≡◌, ◌≤◌, ◌-◌, length, take, drop}
use Rattle.wage_places.specs.Places.{spots}
use Rattle.lent_fields.specs.Fields.{fields_of}
use Rattle.wage_draft.specs.Draft.{drafted}
use Rattle.wage_draft.proofs.Laws.{Left}
use Rattle.wage_draft.proofs.draft_in.Given as goal

abbrev pub invariant-loop-k : goal.invariant-loop-k
invariant-loop-k l = (l.at ≤ length l.text) × (drafted l.day l.kind l.t (take (l.last - l.first) (drop l.first (spots l.t))) (fields_of l.sizes l.text) l.initial.line ≡ Left l.day l.kind l.t (spots l.t) l.last l.k l.sizes (l.k - l.first) l.text l.at l.line)
