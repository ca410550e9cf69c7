-- What is set in a list, and what a run leaves of a section.
use Rattle.std.proofs.Common.{◌≡◌, ℕ, zero, suc, Bool, true, false, cond, List, [], ◌∷◌, Some, set, slice_get, refl, ap}
use Rattle.std.proofs.lemmas.Option.{none-some}
use Rattle.asm_base.specs.declared.positions.Pos.{Pos}
use Rattle.item_contents.specs.declared.contents.Content.TheVariants.{Run}
use Rattle.asm_frags.specs.Writing.{LooseSection, ends_in_run, new_item, with_item, with_run}

module _ {X : Type 0} where
  -- what is set is there
  pub get_set : (xs : List X) (i : ℕ) (old new : X) → slice_get xs i ≡ Some old → slice_get (set xs i new) i ≡ Some new
  get_set [] i old new there = absurd (none-some old there)
  get_set (x ∷ xs) zero old new there = refl
  get_set (x ∷ xs) (suc i) old new there = get_set xs i old new there

  -- what is set twice is what was set last
  pub set_twice : (xs : List X) (i : ℕ) (first last : X) → set (set xs i first) i last ≡ set xs i last
  set_twice [] i first last = refl
  set_twice (x ∷ xs) zero first last = refl
  set_twice (x ∷ xs) (suc i) first last = ap (λ rest. x ∷ rest) (set_twice xs i first last)

-- what two sections tell alike, either tells
told_by : {Y : Type 0} (tells : LooseSection → Y) (test : Bool) (one other : LooseSection) → tells other ≡ tells one → tells (cond test one other) ≡ tells one
told_by tells true one other same = refl
told_by tells false one other same = same

-- a run changes neither the bytes nor the fields, nor what the section says of itself
pub run_keeps : {Y : Type 0} (tells : LooseSection → Y) (pos : Pos) (section : LooseSection) → tells (with_item (new_item pos Run) section) ≡ tells section
    → tells (with_run pos section) ≡ tells section
run_keeps tells pos section same = told_by tells (ends_in_run section.items) section (with_item (new_item pos Run) section) same
