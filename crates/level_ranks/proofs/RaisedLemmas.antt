-- What one round makes of each level.
use Rattle.std.proofs.Common.{◌≡◌, ℕ, zero, suc, ◌<◌, ◌≤◌, max, List, [], ◌∷◌, length, get_or, refl, sym, ap, ◌∙◌, arith}
use Rattle.std.proofs.lemmas.List.{ext_get_or}
use Rattle.level_ranks.specs.Rounds.{raised, IsSettled}

-- there are as many levels as before
pub raised_length : (levels needs : List ℕ) → length (raised levels needs) ≡ length levels
raised_length [] needs = refl
raised_length (level ∷ levels) [] = refl
raised_length (level ∷ levels) (needed ∷ needs) = ap suc (raised_length levels needs)

-- each is the greater of what it was and what is needed
pub raised_at : (levels needs : List ℕ) (index : ℕ) → index < length levels → get_or (raised levels needs) index 0 ≡ max (get_or levels index 0) (get_or needs index 0)
raised_at [] needs index inside = absurd (omega arith)
raised_at (level ∷ levels) [] index inside = omega arith
raised_at (level ∷ levels) (needed ∷ needs) zero inside = refl
raised_at (level ∷ levels) (needed ∷ needs) (suc index) inside = raised_at levels needs index (omega arith)

-- no other levels are that
pub raised_only : (levels needs later : List ℕ) → length later ≡ length levels
    → ((index : ℕ) → index < length levels → get_or later index 0 ≡ max (get_or levels index 0) (get_or needs index 0)) → later ≡ raised levels needs
raised_only levels needs later long each =
    ext_get_or 0 later (raised levels needs) (long ∙ sym (raised_length levels needs))
    (λ index inside. each index (omega arith) ∙ sym (raised_at levels needs index (omega arith)))

-- none is lower than before
pub raised_above : (levels needs : List ℕ) (index : ℕ) → get_or levels index 0 ≤ get_or (raised levels needs) index 0
raised_above [] needs index = omega arith
raised_above (level ∷ levels) [] index = omega arith
raised_above (level ∷ levels) (needed ∷ needs) zero = omega arith
raised_above (level ∷ levels) (needed ∷ needs) (suc index) = raised_above levels needs index

-- where a round raises none, no item needs more than its level
pub settled_holds : (need : List ℕ → List ℕ) (levels : List ℕ) (index : ℕ) → IsSettled need levels → index < length levels → get_or (need levels) index 0 ≤ get_or levels index 0
settled_holds need levels index settled inside =
    let kept : get_or (raised levels (need levels)) index 0 ≡ get_or levels index 0 = ap (λ (xs : List ℕ). get_or xs index 0) settled in
    let greater = raised_at levels (need levels) index inside in omega arith
