-- What is promised of check groups, over every list of groups and every text.
-- Assumes nothing.
use Rattle.refusal.proofs.Basics.{◌≡◌, refl, arith, ℕ, List, [], ◌∷◌, Memᴰ, true, ◌↔◌}
use Rattle.text.specs.Split.{joined}
use Rattle.check_digits.specs.CheckDigit.{passes}
use Rattle.models.specs.declared.Group.{Group}
use Rattle.models.proofs.Every.{every_each, each_every}
use Rattle.groups.specs.Groups.{present, group_right, groups_right}

-- ---------------------------------------------------------------------------
-- Every group

-- the parts of a group that are present, if any, end in their check digit
abbrev pub EndsRight : Group → List (List ℕ) → Type 0
EndsRight g ps = (present g ps ≡ [] → ⊥) → passes g.rule (joined (present g ps)) ≡ true

group_ends : (g : Group) (ps : List (List ℕ)) → (group_right g (present g ps) ≡ true) ↔ EndsRight g ps
unfolding group_right
group_ends g ps = go (present g ps)
  where
    go : (qs : List (List ℕ)) → (group_right g qs ≡ true) ↔ ((qs ≡ [] → ⊥) → passes g.rule (joined qs) ≡ true)
    go [] = (λ e n. absurd (n refl), λ h. refl)
    go (q ∷ qs) = (λ e n. e, λ h. h (λ z. let w : ◌≡◌ {A = ℕ} 0 1 = cc in omega arith))

-- where the groups are right, every one of them ends in its check digit
pub groups_right_every : (gs : List Group) (ps : List (List ℕ)) → groups_right gs ps ≡ true → (g : Group) → Memᴰ g gs → EndsRight g ps
groups_right_every gs ps e g m = (group_ends g ps).0 (every_each (λ (h : Group). group_right h (present h ps)) gs e g m)

-- and where every one does, the groups are right
pub every_groups_right : (gs : List Group) (ps : List (List ℕ)) → ((g : Group) → Memᴰ g gs → EndsRight g ps) → groups_right gs ps ≡ true
every_groups_right gs ps h = each_every (λ (g : Group). group_right g (present g ps)) gs (λ g m. (group_ends g ps).1 (h g m))
