-- Steps for each of a list, and for one where it is given.
use Rattle.std.specs.Prelude.{List, [], ◌∷◌, Option, None, Some, Result, Ok}
use Rattle.asm_base.specs.Refusals.{◌>>=◌}

-- a step for each of a list, one after the other
unfoldable pub all_steps : {A S E : Type 0} → (A → S → Result S E) → List A → S → Result S E
all_steps step [] state = Ok state
all_steps step (one ∷ more) state = step one state >>= all_steps step more

-- what is given, where there is something to give it of
abbrev pub if_some : {A B E : Type 0} → (A → Result B E) → Option A → Result (Option B) E
if_some give None = Ok None
if_some give (Some one) = give one >>= λ made. Ok (Some made)
