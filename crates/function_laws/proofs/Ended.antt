-- The functions at the end of a source have ended.
use Rattle.std.proofs.Common.{◌≡◌, ℕ, zero, suc, Bool, true, false, cond, List, [], ◌∷◌, map, Option, None, Some, refl, subst}
use Rattle.std.specs.Prelude.{slice_get}
use Rattle.std.specs.Option.{is_none}
use Rattle.std.proofs.lemmas.Option.{none-some, same_Some}
use Rattle.asm_base.specs.declared.places.Place.{Place}
use Rattle.code_functions.specs.Recorded.{Recorded, closed_by}
use Rattle.code_functions.specs.Seen.{SeenItem}

abbrev HasEnded : Recorded SeenItem → Type 0
HasEnded f = (stop : Place) × (f.stop ≡ Some stop)

some_stop : (stop : Option Place) → is_none stop ≡ false → (place : Place) × (stop ≡ Some place)
some_stop None is = absurd (cc)
some_stop (Some place) is = (place, refl)

closed_test : (still : Bool) (stop : Place) (f : Recorded SeenItem) → is_none f.stop ≡ still → HasEnded (cond still (record f { stop = Some stop }) f)
closed_test true stop f is = (stop, refl)
closed_test false stop f is = some_stop f.stop is

module _ (ends : ℕ → Place) where
  pub all_ended : (functions : List (Recorded SeenItem)) (i : ℕ) (f : Recorded SeenItem) → slice_get (map (closed_by ends) functions) i ≡ Some f → HasEnded f
  all_ended [] i f there = absurd (none-some f there)
  all_ended (one ∷ rest) zero f there = subst HasEnded (same_Some _ f there) (closed_test (is_none one.stop) (ends one.section) one refl)
  all_ended (one ∷ rest) (suc i) f there = all_ended rest i f there
