-- How what groups list is put together, section by section.
use Rattle.std.specs.Prelude.{ℕ, zero, suc, List, [], ◌∷◌, ◌++◌, Option, None, Some, position}
use Rattle.asm_frags.specs.declared.groups.Group.{Group}
use Rattle.asm_frags.specs.Groups.{has_signature}

-- the lists, of which the one at this place has these bytes behind its own
abbrev pub put_at : List (List ℕ) → ℕ → List ℕ → List (List ℕ)
put_at [] place bytes = []
put_at (list ∷ lists) zero bytes = (list ++ bytes) ∷ lists
put_at (list ∷ lists) (suc place) bytes = list ∷ put_at lists place bytes

-- the same at a place that was looked for
abbrev pub put_found : List (List ℕ) → Option ℕ → List ℕ → List (List ℕ)
put_found lists None bytes = lists
put_found lists (Some place) bytes = put_at lists place bytes

-- the lists of these groups, where a section with this group adds these bytes to the list of its own
abbrev pub with_member : List (List ℕ) → List Group → Option Group → List ℕ → List (List ℕ)
with_member lists groups None bytes = lists
with_member lists groups (Some group) bytes = put_found lists (position (has_signature group.signature) groups) bytes
