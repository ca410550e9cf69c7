-- The items of functions that stand in order are in the order of their places.
use Rattle.std.proofs.Common.{◌≡◌, ℕ, zero, suc, ◌≤◌, ◌<◌, true, List, [], ◌∷◌, All, length, get_or, map, refl, ap, subst, arith}
use Rattle.std.proofs.lemmas.Bool.Decides.{nat_tests}
use Rattle.std.proofs.lemmas.List.Elements.{All-nil, All-cons, All-head, All-tail, All-get_or, All-weaker}
use Rattle.asm_base.specs.declared.places.Place.{Place}
use Rattle.asm_frags.specs.Writing.{LooseSection}
use Rattle.code_functions.specs.declared.items.CodeItem.{CodeItem}
use Rattle.code_functions.specs.InOrder.{is_up_to, AreInOrder}
use Rattle.code_functions.specs.Recorded.{Recorded, items_of}
use Rattle.code_functions.specs.Seen.{seen, mapped, all_seen}
use Rattle.asm_functions.specs.Standing.{AreRising, StandsInOrder}

up_to_by : (one two three : Place) → is_up_to one two ≡ true → is_up_to two three ≡ true → is_up_to one three ≡ true
up_to_by one two three first second = grind (arith, nat_tests)

up_to_self : (one : Place) → is_up_to one one ≡ true
up_to_self one = grind (arith, nat_tests)

-- where they begin
abbrev places_in : List CodeItem → List Place
places_in items = map (λ item. item.place) items

-- none of them stands before the place
all_behind : (from : Place) (items : List CodeItem) → AreRising from (places_in items) → All (λ item. is_up_to from item.place ≡ true) items
all_behind from [] rising = All-nil (λ item. is_up_to from item.place ≡ true)
all_behind from (item ∷ items) rising =
    All-cons (λ i. is_up_to from i.place ≡ true) item items rising.0
    (All-weaker (λ i. is_up_to item.place i.place ≡ true) (λ i. is_up_to from i.place ≡ true)
    (λ i later. up_to_by from item.place i.place rising.0 later) items (all_behind item.place items rising.1))

in_order : (from : Place) (items : List CodeItem) → AreRising from (places_in items) → (one other : ℕ) (d : CodeItem) → one ≤ other → other < length items
    → is_up_to (get_or items one d).place (get_or items other d).place ≡ true
in_order from [] rising one other d before there = absurd (omega (arith, there))
in_order from (item ∷ items) rising zero zero d before there = up_to_self item.place
in_order from (item ∷ items) rising zero (suc other) d before there =
    All-get_or (λ i. is_up_to item.place i.place ≡ true) items other d (omega (arith, there)) (all_behind item.place items rising.1)
in_order from (item ∷ items) rising (suc one) zero d before there = absurd (omega (arith, before))
in_order from (item ∷ items) rising (suc one) (suc other) d before there =
    in_order item.place items rising.1 one other d (omega (arith, before)) (omega (arith, there))

-- items are seen where they are
same_places : (items : List CodeItem) → map (λ i. i.place) (map seen items) ≡ places_in items
same_places [] = refl
same_places (item ∷ items) = ap (λ places. item.place ∷ places) (same_places items)

module _ (sections : List LooseSection) where
  stands_ordered : (f : Recorded CodeItem) → StandsInOrder sections (mapped seen f) → AreInOrder f.items
  stands_ordered f stands = record { each = in_order f.start f.items (subst (AreRising f.start) (same_places f.items) stands.rising) }

  found_ordered : (number : ℕ) (functions : List (Recorded CodeItem)) → All (StandsInOrder sections) (all_seen functions) → AreInOrder (items_of number functions)
  found_ordered number [] stand = record { each = λ one other d before there. absurd (omega (arith, there)) }
  found_ordered zero (f ∷ functions) stand = stands_ordered f (All-head (StandsInOrder sections) (mapped seen f) (all_seen functions) stand)
  found_ordered (suc number) (f ∷ functions) stand =
      found_ordered number functions (All-tail (StandsInOrder sections) (mapped seen f) (all_seen functions) stand)

-- so they are in each function
pub items_ordered : (sections : List LooseSection) (functions : List (Recorded CodeItem)) (number : ℕ) → All (StandsInOrder sections) (all_seen functions)
    → AreInOrder (items_of number functions)
items_ordered sections functions number stand = found_ordered sections number functions stand
