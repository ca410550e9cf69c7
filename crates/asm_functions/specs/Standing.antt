-- Functions whose places stand in order inside their sections.
use Rattle.std.specs.Prelude.{◌≡◌, ◌∷◌, true, List, [], All, IfSome, Some, map, slice_get}
use Rattle.asm_base.specs.declared.places.Place.{Place}
use Rattle.asm_frags.specs.Writing.{LooseSection}
use Rattle.asm_place.specs.ProcedurePlaces.{IsInside}
use Rattle.code_functions.specs.InOrder.{is_up_to}
use Rattle.code_functions.specs.Recorded.{Recorded}
use Rattle.code_functions.specs.Seen.{SeenItem}

-- none of the places stands before the one in front of it, and the first not before this one
abbrev pub AreRising : Place → List Place → Type 0
AreRising from [] = Unit {0}
AreRising from (place ∷ places) = (is_up_to from place ≡ true) × AreRising place places

-- where the items begin
abbrev pub item_places : Recorded SeenItem → List Place
item_places f = map (λ item. item.place) f.items

-- the place stands inside the section, and none of the others stands behind it
pub record EndsBehind (held : LooseSection) (places : List Place) (stop : Place) : Type 0 where
  pub inside : IsInside held stop
  pub behind : All (λ place. is_up_to place stop ≡ true) places

-- the section of the function is there, and the function begins inside it; its items begin inside it too, in order from there on, and it has ended, if it
-- has, behind all of them
pub record StandsInOrder (sections : List LooseSection) (f : Recorded SeenItem) : Type 0 where
  pub held : LooseSection
  pub there : slice_get sections f.section ≡ Some held
  pub start : IsInside held f.start
  pub items : All (IsInside held) (item_places f)
  pub rising : AreRising f.start (item_places f)
  pub stop : IfSome f.stop (EndsBehind held (f.start ∷ item_places f))
