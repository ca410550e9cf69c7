-- States of a placer.
use Rattle.std.specs.Prelude.{◌≡◌, ◌⊎◌, Bool, false, List, [], Ok}
use Rattle.asm_lines.specs.NextStatements.{TokenStatement}
use Rattle.asm_functions.specs.FollowedSource.{FollowedSource, nothing_followed, follow_all}

-- statements come to the state, one after the other
pub record IsComeTo (f : FollowedSource) : Type 0 where
  pub no_warn : Bool
  pub asked : Bool
  pub statements : List TokenStatement
  pub comes : follow_all statements (nothing_followed no_warn asked) ≡ Ok f

-- so they do, or no function is followed, as it is behind a fault
abbrev pub IsOrdered : FollowedSource → Type 0
IsOrdered f = IsComeTo f ⊎ ((f.asked ≡ false) × (f.functions ≡ []))
