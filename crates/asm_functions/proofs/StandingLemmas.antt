-- Functions stand in order in their sections: where sections grow, an item is put, a function ends and one begins.
use Rattle.std.proofs.Common.{◌≡◌, ℕ, zero, suc, ◌≤◌, Bool, true, false, cond, List, [], ◌∷◌, ◌++◌, All, length, drop, map, set, Option, None, Some, refl, sym, ap, subst, ◌∙◌, arith}
use Rattle.std.specs.Prelude.{◌==◌, ◌&&◌, IfSome, slice_get}
use Rattle.std.specs.Option.{is_none, option_map_or}
use Rattle.std.proofs.lemmas.Bool.{false≢true}
use Rattle.std.proofs.lemmas.Bool.Decides.{nat_tests}
use Rattle.std.proofs.lemmas.List.{length-append, take_all, drop_all, take-append-le, drop-append-le, map-append}
use Rattle.std.proofs.lemmas.List.Elements.{All-nil, All-cons, All-head, All-tail, All-append, All-set, All-push, All-weaker}
use Rattle.asm_base.specs.declared.places.Place.{Place}
use Rattle.asm_base.specs.declared.positions.Pos.{Pos}
use Rattle.asm_frags.specs.declared.fields.Field.{Field}
use Rattle.asm_frags.specs.Writing.{LooseItem, LooseSection}
use Rattle.asm_uses.specs.Places.{spot_in, no_spot, spot_at}
use Rattle.section_laws.specs.Within.{IsWithin, AreWithin}
use Rattle.asm_place.specs.Instructions.{with_more, Grows}
use Rattle.asm_place.specs.ProcedurePlaces.{IsInside}
use Rattle.code_functions.specs.InOrder.{is_up_to}
use Rattle.code_functions.specs.Recorded.{Recorded, is_open, is_open_in, begun, with_item, added, closed_by, all_closed, closed_at, last_of, closed_of}
use Rattle.code_functions.specs.Seen.{SeenItem}
use Rattle.asm_functions.specs.Following.{end_of}
use Rattle.asm_functions.specs.Standing.{AreRising, item_places, EndsBehind, StandsInOrder}

-- PLACES IN A SECTION

-- its end
abbrev last_place : LooseSection → Place
last_place held = record { item = length held.items; offset = length held.bytes }

end_is : (sections : List LooseSection) (number : ℕ) (held : LooseSection) → slice_get sections number ≡ Some held → end_of sections number ≡ last_place held
unfolding spot_at
end_is sections number held there = ap (λ o. (option_map_or (spot_in number) o (no_spot number)).place.place) there

last_inside : (held : LooseSection) → IsWithin held → IsInside held (last_place held)
last_inside held within = record {
  within = omega arith;
  enough = omega arith;
  before = subst (λ items. All (λ item. item.offset ≤ length held.bytes) items) (sym (take_all (length held.items) held.items (omega arith))) within.items;
  behind = subst (λ items. All (λ item. length held.bytes ≤ item.offset) items) (sym (drop_all (length held.items) held.items (omega arith))) (All-nil (λ item. length held.bytes ≤ item.offset));
}

up_to_last : (held : LooseSection) (place : Place) → IsInside held place → is_up_to place (last_place held) ≡ true
up_to_last held place inside = by (inside.within) (inside.enough) where
  by : place.offset ≤ length held.bytes → place.item ≤ length held.items → is_up_to place (last_place held) ≡ true
  by within enough = grind (arith, nat_tests)

-- a place stays inside a section that is continued
inside_more : (held : LooseSection) (bytes : List ℕ) (fields : List Field) (items : List LooseItem) (place : Place) → All (λ item. length held.bytes ≤ item.offset) items
    → IsInside held place → IsInside (with_more held bytes fields items) place
inside_more held bytes fields items place later inside = record {
  within = rw (length-append held.bytes bytes) (omega (arith, inside.within));
  enough = rw (length-append held.items items) (omega (arith, inside.enough));
  before = subst (All (λ item. item.offset ≤ place.offset)) (sym (take-append-le place.item held.items items inside.enough)) inside.before;
  behind = subst (All (λ item. place.offset ≤ item.offset)) (sym (drop-append-le place.item held.items items inside.enough))
      (All-append (λ item. place.offset ≤ item.offset) (drop place.item held.items) items inside.behind
      (All-weaker (λ item. length held.bytes ≤ item.offset) (λ item. place.offset ≤ item.offset) (λ item far. omega (arith, far, inside.within)) items later));
}

-- A SECTION THAT GROWS

module _ (before after : List LooseSection) (grows : Grows before after) where
  stop_grown : (held : LooseSection) (bytes : List ℕ) (fields : List Field) (items : List LooseItem) (places : List Place) (stop : Option Place)
      → All (λ item. length held.bytes ≤ item.offset) items → IfSome stop (EndsBehind held places) → IfSome stop (EndsBehind (with_more held bytes fields items) places)
  stop_grown held bytes fields items places None later ends = tt
  stop_grown held bytes fields items places (Some stop) later ends =
      record { inside = inside_more held bytes fields items stop later ends.inside; behind = ends.behind }

  pub stands_grown : (f : Recorded SeenItem) → StandsInOrder before f → StandsInOrder after f
  stands_grown f stands =
      let more = grows.kept f.section stands.held stands.there in
      record {
        held = with_more stands.held more.bytes more.fields more.items;
        there = more.there;
        start = inside_more stands.held more.bytes more.fields more.items f.start more.items_behind stands.start;
        items = All-weaker (IsInside stands.held) (IsInside (with_more stands.held more.bytes more.fields more.items))
            (λ place inside. inside_more stands.held more.bytes more.fields more.items place more.items_behind inside) (item_places f) stands.items;
        rising = stands.rising;
        stop = stop_grown stands.held more.bytes more.fields more.items (f.start ∷ item_places f) f.stop more.items_behind stands.stop;
      }

  pub all_grown : (functions : List (Recorded SeenItem)) → All (StandsInOrder before) functions → All (StandsInOrder after) functions
  all_grown functions stand = All-weaker (StandsInOrder before) (StandsInOrder after) stands_grown functions stand

-- EACH OF A LIST

module _ {X : Type 0} (P : X → Type 0) (change : X → X) (keeps : (x : X) → P x → P (change x)) where
  pub each_changed : (xs : List X) → All P xs → All P (map change xs)
  each_changed [] all = All-nil P
  each_changed (x ∷ xs) all = All-cons P (change x) (map change xs) (keeps x (All-head P x xs all)) (each_changed xs (All-tail P x xs all))

-- AN ITEM MORE

rising_push : (from : Place) (places : List Place) (last : Place) → AreRising from places → is_up_to from last ≡ true → All (λ place. is_up_to place last ≡ true) places
    → AreRising from (places ++ last ∷ [])
rising_push from [] last rising first all = (first, tt)
rising_push from (place ∷ places) last rising first all =
    (rising.0, rising_push place places last rising.1 (All-head (λ place. is_up_to place last ≡ true) place places all) (All-tail (λ place. is_up_to place last ≡ true) place places all))

none_stops : (P : Place → Type 0) (stop : Option Place) → is_none stop ≡ true → IfSome stop P
none_stops P None is = tt
none_stops P (Some stop) is = absurd (false≢true is)

both : (a b : Bool) → (a && b) ≡ true → (a ≡ true) × (b ≡ true)
both true b is = (refl, is)
both false b is = absurd (false≢true is)

module _ (sections : List LooseSection) (within : AreWithin sections) where
  section_within : (number : ℕ) (held : LooseSection) → slice_get sections number ≡ Some held → IsWithin held
  section_within number held there = at_there sections number held there within where
    at_there : (all : List LooseSection) (i : ℕ) (one : LooseSection) → slice_get all i ≡ Some one → AreWithin all → IsWithin one
    at_there [] i one is every = absurd (cc)
    at_there (first ∷ rest) zero one is every = subst IsWithin (ap (λ o. elim o [ None ↦ first | Some x ↦ x ]) is) (All-head IsWithin first rest every)
    at_there (first ∷ rest) (suc i) one is every = at_there rest i one is (All-tail IsWithin first rest every)

  item_stands : (f : Recorded SeenItem) (item : SeenItem) → StandsInOrder sections f → item.place ≡ end_of sections f.section → is_open f ≡ true
      → StandsInOrder sections (record f { items = f.items ++ item ∷ [] })
  item_stands f item stands at is =
      let held = stands.held in
      let last : item.place ≡ last_place held = at ∙ end_is sections f.section held stands.there in
      let inside : IsInside held item.place = subst (IsInside held) (sym last) (last_inside held (section_within f.section held stands.there)) in
      let up_to : (place : Place) → IsInside held place → is_up_to place item.place ≡ true =
      λ place there. subst (λ to. is_up_to place to ≡ true) (sym last) (up_to_last held place there) in
      let more : map (λ (i : SeenItem). i.place) (f.items ++ item ∷ []) ≡ item_places f ++ item.place ∷ [] = map-append (λ (i : SeenItem). i.place) f.items (item ∷ []) in
      record {
        held = held;
        there = stands.there;
        start = stands.start;
        items = subst (All (IsInside held)) (sym more) (All-push (IsInside held) (item_places f) item.place stands.items inside);
        rising = subst (AreRising f.start) (sym more)
            (rising_push f.start (item_places f) item.place stands.rising (up_to f.start stands.start)
            (All-weaker (IsInside held) (λ place. is_up_to place item.place ≡ true) up_to (item_places f) stands.items));
        stop = none_stops (EndsBehind held (f.start ∷ map (λ (i : SeenItem). i.place) (f.items ++ item ∷ []))) f.stop is;
      }

  with_item_by : (here : Bool) (number : ℕ) (f : Recorded SeenItem) (item : SeenItem) → is_open_in number f ≡ here → StandsInOrder sections f → item.place ≡ end_of sections number
      → StandsInOrder sections (cond here (record f { items = f.items ++ item ∷ [] }) f)
  with_item_by false number f item is stands at = stands
  with_item_by true number f item is stands at =
      let tests = both (is_open f) (f.section == number) is in
      item_stands f item stands (at ∙ ap (end_of sections) (same f.section number tests.1)) tests.0 where
        same : (one other : ℕ) → (one == other) ≡ true → other ≡ one
        same one other is = grind (arith, nat_tests)

  -- functions stand in order behind an item that is put at the end of its section
  pub added_stand : (number : ℕ) (item : SeenItem) (functions : List (Recorded SeenItem)) → item.place ≡ end_of sections number → All (StandsInOrder sections) functions
      → All (StandsInOrder sections) (added number item functions)
  added_stand number item functions at stand =
      each_changed (StandsInOrder sections) (with_item number item) (λ f stands. with_item_by (is_open_in number f) number f item refl stands at) functions stand

  -- ENDS

  ended_stands : (f : Recorded SeenItem) → StandsInOrder sections f → StandsInOrder sections (record f { stop = Some (end_of sections f.section) })
  ended_stands f stands =
      let held = stands.held in
      let last = end_is sections f.section held stands.there in
      record {
        held = held;
        there = stands.there;
        start = stands.start;
        items = stands.items;
        rising = stands.rising;
        stop = subst (EndsBehind held (f.start ∷ item_places f)) (sym last) (record {
          inside = last_inside held (section_within f.section held stands.there);
          behind = All-weaker (IsInside held) (λ place. is_up_to place (last_place held) ≡ true) (up_to_last held) (f.start ∷ item_places f)
              (All-cons (IsInside held) f.start (item_places f) stands.start stands.items);
        });
      }

  closed_by_test : (still : Bool) (f : Recorded SeenItem) → StandsInOrder sections f
      → StandsInOrder sections (cond still (record f { stop = Some (end_of sections f.section) }) f)
  closed_by_test true f stands = ended_stands f stands
  closed_by_test false f stands = stands

  closed_stands : (f : Recorded SeenItem) → StandsInOrder sections f → StandsInOrder sections (closed_by (end_of sections) f)
  closed_stands f stands = closed_by_test (is_open f) f stands

  -- behind the end of all,
  pub all_closed_stand : (functions : List (Recorded SeenItem)) → All (StandsInOrder sections) functions → All (StandsInOrder sections) (all_closed (end_of sections) functions)
  all_closed_stand functions stand = each_changed (StandsInOrder sections) (closed_by (end_of sections)) closed_stands functions stand

  found_stands : (functions : List (Recorded SeenItem)) (number : ℕ) (f : Recorded SeenItem) → slice_get functions number ≡ Some f → All (StandsInOrder sections) functions
      → StandsInOrder sections f
  found_stands [] number f is stand = absurd (cc)
  found_stands (first ∷ rest) zero f is stand = subst (StandsInOrder sections) (ap (λ o. elim o [ None ↦ first | Some x ↦ x ]) is) (All-head (StandsInOrder sections) first rest stand)
  found_stands (first ∷ rest) (suc number) f is stand = found_stands rest number f is (All-tail (StandsInOrder sections) first rest stand)

  closed_at_by : (functions : List (Recorded SeenItem)) (number : ℕ) (found : Option (Recorded SeenItem)) → slice_get functions number ≡ found → All (StandsInOrder sections) functions
      → All (StandsInOrder sections) (option_map_or (λ f. set functions number (closed_by (end_of sections) f)) found functions)
  closed_at_by functions number None is stand = stand
  closed_at_by functions number (Some f) is stand =
      All-set (StandsInOrder sections) functions number (closed_by (end_of sections) f) (closed_stands f (found_stands functions number f is stand)) stand

  closed_of_by : (functions : List (Recorded SeenItem)) (found : Option ℕ) → All (StandsInOrder sections) functions
      → All (StandsInOrder sections) (option_map_or (λ number. closed_at (end_of sections) number functions) found functions)
  closed_of_by functions None stand = stand
  closed_of_by functions (Some number) stand = closed_at_by functions number (slice_get functions number) refl stand

  -- and behind that of one
  pub closed_of_stand : (symbol : ℕ) (functions : List (Recorded SeenItem)) → All (StandsInOrder sections) functions
      → All (StandsInOrder sections) (closed_of symbol (end_of sections) functions)
  closed_of_stand symbol functions stand = closed_of_by functions (last_of symbol functions) stand

  -- BEGINNINGS

  -- a function that begins at the end of a section that is there
  pub begun_stand : (symbol : ℕ) (pos : Pos) (number : ℕ) (held : LooseSection) (functions : List (Recorded SeenItem)) → slice_get sections number ≡ Some held
      → All (StandsInOrder sections) functions → All (StandsInOrder sections) (begun symbol pos number (end_of sections number) functions)
  begun_stand symbol pos number held functions there stand =
      let f : Recorded SeenItem = record { symbol = symbol; pos = pos; section = number; start = end_of sections number; stop = None; items = [] } in
      All-push (StandsInOrder sections) functions f stand (record {
        held = held;
        there = there;
        start = subst (IsInside held) (sym (end_is sections number held there)) (last_inside held (section_within number held there));
        items = All-nil (IsInside held);
        rising = tt;
        stop = tt;
      })
