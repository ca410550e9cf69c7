-- The places of items that are joined never fall.
use Rattle.std.proofs.Common.{◌≡◌, ℕ, zero, suc, ◌+◌, ◌≤◌, Bool, List, [], ◌∷◌, ◌++◌, map, length, length-append, Some, Ok, sym, ap, subst, arith}
use Rattle.std.specs.Prelude.{slice_get}
use Rattle.std.specs.Option.{option_map_or}
use Rattle.asm_base.specs.declared.places.Place.{Place}
use Rattle.asm_lines.specs.NextStatements.{TokenStatement}
use Rattle.asm_frags.specs.Writing.{LooseSection}
use Rattle.asm_uses.specs.Places.{spot_at, spot_in, no_spot}
use Rattle.asm_values.specs.State.{Placed, nothing_placed}
use Rattle.asm_place.specs.Bodies.{body_of, front, back, AreLabels}
use Rattle.asm_place.specs.Instructions.{Grows, IsContinued}
use Rattle.asm_place.specs.Sources.{place, place_all}
use Rattle.asm_place.specs.SymbolPlaces.{PlacesStand}
use Rattle.asm_relax.specs.Placing.{shift_of}
use Rattle.asm_relax.specs.Settling.{LaidItem, LaidSections}
use Rattle.cfi_directives.specs.Order.{IsUpTo, NeverFall}
use Rattle.code_functions.specs.declared.items.CodeItem.{CodeItem}
use Rattle.code_functions.specs.Seen.{SeenItem, seen}
use Rattle.asm_base.specs.Refusals.{◌>>=◌}
use Rattle.asm_functions.specs.Following.{end_of}
use Rattle.asm_functions.specs.FollowedSource.{FollowedSource, nothing_followed, place_of, place_followed, follow_all, placed_part}
use Rattle.asm_functions.specs.Joined.{IsPutBy, AreJoined}
use Rattle.place_laws.specs.Ends.{items_in}
use Rattle.code_laws.specs.Functions.{laid_place}
use Rattle.function_laws.proofs.Finding.{section_found}

-- IN A LAYOUT

shift_more : (n shift : ℕ) (items : List LaidItem) → shift ≤ shift_of n shift items
shift_more zero shift items = omega arith
shift_more (suc n) shift [] = omega arith
shift_more (suc n) shift (item ∷ items) = let more = shift_more n (shift + item.size) items in omega (arith, more)

-- more items move no less
shift_up : (n m shift : ℕ) (items : List LaidItem) → n ≤ m → shift_of n shift items ≤ shift_of m shift items
shift_up zero m shift items up = shift_more m shift items
shift_up (suc n) zero shift items up = absurd (omega (arith, up))
shift_up (suc n) (suc m) shift [] up = omega arith
shift_up (suc n) (suc m) shift (item ∷ items) up = shift_up n m (shift + item.size) items (omega (arith, up))

-- places keep their order in a layout
pub place_up : (laid : LaidSections) (number : ℕ) (first second : Place) → IsUpTo first second → laid_place laid number first ≤ laid_place laid number second
place_up laid number first second up =
    let shifts = shift_up first.item second.item 0 (items_in laid number) up.0 in
    let offsets = up.1 in
    omega (arith, shifts, offsets)

-- OF STATEMENTS

-- where a section ends that is there
pub end_there : (sections : List LooseSection) (number : ℕ) (section : LooseSection) → slice_get sections number ≡ Some section
    → end_of sections number ≡ record { item = length section.items; offset = length section.bytes }
unfolding spot_at
end_there sections number section there = ap (λ o. (option_map_or (spot_in number) o (no_spot number)).place.place) there

-- a section that is continued ends no sooner
end_up : (before after : List LooseSection) (number : ℕ) (section : LooseSection) → slice_get before number ≡ Some section
    → IsContinued section (slice_get after number) → IsUpTo (end_of before number) (end_of after number)
end_up before after number section there more =
    subst (λ (p : Place). IsUpTo p (end_of after number)) (sym (end_there before number section there))
    (subst (λ (p : Place). IsUpTo (record { item = length section.items; offset = length section.bytes }) p) (sym (end_there after number _ more.there))
    (let items = length-append section.items more.items in
    let bytes = length-append section.bytes more.bytes in
    (omega (arith, items), omega (arith, bytes))))

same_up : (one other : Place) → one ≡ other → IsUpTo one other
same_up one other same = subst (IsUpTo one) same (omega arith, omega arith)

-- a place before the first one is before them all
lowered : (one first : Place) (places : List Place) → IsUpTo one first → NeverFall (first ∷ places) → NeverFall (one ∷ places)
lowered one first [] up fall = tt
lowered one first (second ∷ places) up fall =
    let items = up.0 in
    let offsets = up.1 in
    let more_items = fall.0.0 in
    let more_offsets = fall.0.1 in
    ((omega (arith, items, more_items), omega (arith, offsets, more_offsets)), fall.1)

-- what is known of statements
pub record Steps : Type 0 where
  pub followed : (statements : List TokenStatement) (before f : FollowedSource) → follow_all statements before ≡ Ok f
      → place_all (map (placed_part before.asked) statements) before.placed ≡ Ok f.placed
  pub grow : (statements : List TokenStatement) (before placed : Placed) → place_all statements before ≡ Ok placed → Grows before.sections placed.sections
  pub stand_first : (no_warn : Bool) → PlacesStand (nothing_placed no_warn)
  pub stand : (statements : List TokenStatement) (before placed : Placed) → place_all statements before ≡ Ok placed → PlacesStand before → PlacesStand placed
  pub labels : (s : TokenStatement) (before after : Placed) → place (front s) before ≡ Ok after → AreLabels before after

one_followed : (s : TokenStatement) (before after : FollowedSource) → place_followed s before ≡ Ok after → follow_all (s ∷ []) before ≡ Ok after
unfolding follow_all
one_followed s before after is = ap (λ answer. answer >>= follow_all []) is

pub one_placed : (s : TokenStatement) (before placed : Placed) → place s before ≡ Ok placed → place_all (s ∷ []) before ≡ Ok placed
unfolding place_all
one_placed s before placed is = ap (λ answer. answer >>= place_all []) is

module _ (steps : Steps) (statements : List TokenStatement) (no_warn asked : Bool) (section : ℕ) where
  abbrev first : FollowedSource
  first = nothing_followed no_warn asked

  -- the section is there before the statement of an item
  pub there_before : (item : SeenItem) (from to : Place) (by : IsPutBy statements first section item from to)
      → (held : LooseSection) × (slice_get by.before.placed.sections section ≡ Some held)
  there_before item from to by =
      let before = by.before.placed in
      let stand = steps.stand (front by.statement ∷ []) before by.labels (one_placed (front by.statement) before by.labels by.labels_are)
      (steps.stand _ (nothing_placed no_warn) before (steps.followed by.earlier first by.before by.before_is) (steps.stand_first no_warn)) in
      let rest = back by.statement in
      let found = section_found (place_of by.statement) by.labels by.after.placed stand section item (body_of rest.tokens) rest.tokens by.put in
      (found.0, subst (λ (sections : List LooseSection). slice_get sections section ≡ Some found.0) (steps.labels by.statement before by.labels by.labels_are).sections found.1)

  -- an item begins no later than it ends
  put_up : (item : SeenItem) (from to : Place) → IsPutBy statements first section item from to → IsUpTo from to
  put_up item from to by =
      let before = by.before.placed in
      let held = there_before item from to by in
      let grows = steps.grow _ before by.after.placed (steps.followed (by.statement ∷ []) by.before by.after (one_followed by.statement by.before by.after by.after_is)) in
      subst (λ (p : Place). IsUpTo p to) (sym by.start)
      (subst (λ (p : Place). IsUpTo (end_of before.sections section) p) (sym by.stop)
      (end_up before.sections by.after.placed.sections section held.0 held.1 (grows.kept section held.0 held.1)))

  -- from the beginning over the items to the end
  pub joined_up : (items : List CodeItem) (from to : Place) → AreJoined statements first section (map seen items) from to
      → NeverFall (from ∷ (map (λ (item : CodeItem). item.place) items ++ to ∷ []))
  joined_up [] from to joined = (same_up from to joined, tt)
  joined_up (item ∷ items) from to joined =
      let later = joined_up items joined.between to joined.other in
      let at = joined.one.at in (
        same_up from item.place (sym at),
        lowered item.place joined.between (map (λ (x : CodeItem). x.place) items ++ to ∷ [])
            (subst (λ (p : Place). IsUpTo p joined.between) (sym at) (put_up (seen item) from joined.between joined.one)) later,
      )

  -- the first item begins where they begin, and so do none
  pub begins_there : (items : List CodeItem) (from to : Place) → AreJoined statements first section (map seen items) from to
      → option_map_or (λ (item : CodeItem). item.place) (slice_get items 0) to ≡ from
  begins_there [] from to joined = sym joined
  begins_there (item ∷ items) from to joined = joined.one.at
