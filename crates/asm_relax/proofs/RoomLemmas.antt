-- An item has room for the value that it holds.
use Rattle.std.proofs.Common.{◌≡◌, ◌↔◌, ℕ, zero, suc, ◌+◌, ◌-◌, ◌*◌, ◌^◌, ◌<◌, ◌≤◌, true, false, List, [], ◌∷◌, Option, Some, None, map, option_map, refl, sym, ap, ◌∙◌, subst, arith}
use Rattle.std.specs.Prelude.{IfSome, slice_get, slice_index}
use Rattle.item_contents.specs.declared.kinds.Growth.{Growth}
use Rattle.item_contents.specs.declared.kinds.Growth.TheVariants as growth
use Rattle.asm_levels.specs.declared.distances.Distance.{Distance}
use Rattle.asm_levels.specs.declared.rows.Row.{Row}
use Rattle.asm_levels.specs.Distances.{distance_value}
use Rattle.asm_levels.specs.Needs.{needed, need}
use Rattle.item_bytes.specs.Levels.{jump_level, unsigned_level, signed_level, advance_level, IsSignedWithin, AdvanceHolds}
use Rattle.asm_levels.specs.Shifts.{shifts_of}
use Rattle.item_rows.specs.ItemRows.{rows_in, rows_of, field_distance, grown_row}
use Rattle.asm_relax.specs.ItemValues.{HoldTheirDistances, HasRoom, HaveRoom}
use Rattle.asm_relax.proofs.ItemValueLemmas.{distance_small}

-- a short jump holds a signed byte
abbrev JumpsHold : Type 0
JumpsHold = (distance : ℕ) → distance < 2 ^ 64 → (jump_level distance ≡ 0) ↔ IsSignedWithin (2 ^ 7) distance

-- so many groups of 7 bits hold these unsigned numbers
abbrev UnsignedHold : Type 0
UnsignedHold = (value level : ℕ) → value < 2 ^ 64 → (unsigned_level value ≤ level) ↔ (value < 2 ^ (7 * (level + 1)))

-- so many groups of 7 bits hold these signed numbers
abbrev SignedHold : Type 0
SignedHold = (value level : ℕ) → value < 2 ^ 64 → (signed_level value ≤ level) ↔ IsSignedWithin (2 ^ (7 * (level + 1) - 1)) value

-- an advance of this level holds these distances
abbrev AdvancesHold : Type 0
AdvancesHold = (distance level : ℕ) → distance < 2 ^ 32 → (advance_level distance ≤ level) ↔ AdvanceHolds level distance

-- what stands at an index of a list that is made of another
made_at : {X : Type 0} (f : X → ℕ) (xs : List X) (n : ℕ) (x : X) → slice_get xs n ≡ Some x → slice_index (map f xs) n ≡ f x
made_at f [] n x is = absurd cc
made_at f (y ∷ ys) zero x is = let same : y ≡ x = cc in rw same refl
made_at f (y ∷ ys) (suc n) x is = made_at f ys n x is

need_at : (rows : List Row) (levels : List ℕ) (index : ℕ) (row : Row) → slice_get rows index ≡ Some row → slice_index (need rows levels) index ≡ needed (shifts_of rows levels) row.size
unfolding need
need_at rows levels index row is = made_at (λ one. needed (shifts_of rows levels) one.size) rows index row is

module _ (jumps : JumpsHold) (unsigned : UnsignedHold) (signed : SignedHold) (advances : AdvancesHold) where
  -- a level that is needed at most holds the distance
  level_holds : (shifts : List ℕ) (kind : Growth) (distance : Distance) (level : ℕ) → needed shifts (grown_row kind (Some distance)) ≤ level → HasRoom kind level (distance_value shifts distance)
  unfolding needed
  level_holds shifts (growth.Jump condition) distance level enough = λ short.
      (jumps (distance_value shifts distance) (distance_small shifts distance)).0 (let low : jump_level (distance_value shifts distance) ≤ 0 = rw short at enough in omega arith)
  level_holds shifts (growth.Leb128 true) distance level enough = (signed (distance_value shifts distance) level (distance_small shifts distance)).0 enough
  level_holds shifts (growth.Leb128 false) distance level enough = (unsigned (distance_value shifts distance) level (distance_small shifts distance)).0 enough
  level_holds shifts growth.Advance distance level enough = λ few. (advances (distance_value shifts distance) level few).0 enough

  -- where there is a distance, it is the value
  by_distance : (shifts : List ℕ) (kind : Growth) (found : Option Distance) (level : ℕ) → needed shifts (grown_row kind found) ≤ level
      → IfSome (option_map (distance_value shifts) found) (HasRoom kind level)
  by_distance shifts kind None level enough = tt
  by_distance shifts kind (Some distance) level enough = level_holds shifts kind distance level enough

  pub have_room : HoldTheirDistances → HaveRoom
  have_room hold map' levels sections field kind index row within low item there sized enough =
      let rows = rows_of map' sections in
      let shifts = shifts_of rows levels in
      let found = field_distance (rows_in map' sections) field in
      let is : slice_index (need rows levels) index ≡ needed shifts (grown_row kind found) = need_at rows levels index row there ∙ ap (needed shifts) sized in
      subst (λ (value : Option ℕ). IfSome value (HasRoom kind (slice_index levels index))) (sym (hold map' levels sections field within low item))
      (by_distance shifts kind found (slice_index levels index) (rw is at enough))
