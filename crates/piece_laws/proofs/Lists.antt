-- A fact of lists.
use Rattle.std.proofs.Common.{◌≡◌, ℕ, List, All, Some, subst}
use Rattle.std.specs.Prelude.{slice_get}
use Rattle.std.proofs.lemmas.List.Elements.{All-get_or}
use Rattle.std.proofs.lemmas.Option.{slice_get_within, get_or_from_slice_get}

-- what holds of all holds of the one that is there
pub all_there : {X : Type 0} (P : X → Type 0) (xs : List X) (index : ℕ) (x : X) → slice_get xs index ≡ Some x → All P xs → P x
all_there P xs index x there all = subst P (get_or_from_slice_get xs index x x there) (All-get_or P xs index x (slice_get_within xs index x there) all)
