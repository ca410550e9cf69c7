-- Places that stand in order inside a section, and the items of functions there.
use Rattle.std.proofs.Common.{◌≡◌, ℕ, zero, suc, ◌<◌, ◌≤◌, ◌==◌, ◌&&◌, ◌||◌, nat_lt, nat_le, Bool, true, false, List, [], ◌∷◌, length, map, drop, take, All, refl, ap, subst, arith}
use Rattle.std.specs.Prelude.{slice_index_or}
use Rattle.std.proofs.lemmas.Bool.Decides.{nat_tests}
use Rattle.std.proofs.lemmas.List.Elements.{All-nil, All-cons, All-head, All-tail}
use Rattle.std.proofs.lemmas.Option.{slice_get_within}
use Rattle.asm_base.specs.declared.places.Place.{Place}
use Rattle.asm_frags.specs.Writing.{LooseItem, LooseSection}
use Rattle.asm_place.specs.ProcedurePlaces.{IsInside}
use Rattle.cfi_directives.specs.Order.{IsUpTo, NeverFall}
use Rattle.code_functions.specs.InOrder.{is_up_to}
use Rattle.code_functions.specs.Recorded.{Recorded}
use Rattle.code_functions.specs.Seen.{SeenItem, seen, mapped, all_seen}
use Rattle.code_functions.specs.declared.items.CodeItem.{CodeItem}
use Rattle.asm_functions.specs.Standing.{AreRising, StandsInOrder, item_places}
use Rattle.source_ends.specs.Synthesis.{IsReady}

-- PLACES INSIDE A SECTION

pub up_to_itself : (place : Place) → IsUpTo place place
up_to_itself place = (omega arith, omega arith)

pub up_to_later : (one between other : Place) → IsUpTo one between → IsUpTo between other → IsUpTo one other
up_to_later one between other first second = (omega (arith, first.0, second.0), omega (arith, first.1, second.1))

-- an item that stands behind one place and before another
between : (items : List LooseItem) (i k low high : ℕ) → i < k → k ≤ length items → All (λ (item : LooseItem). low ≤ item.offset) (drop i items)
    → All (λ (item : LooseItem). item.offset ≤ high) (take k items) → low ≤ high
between [] i k low high less within behind before = absurd (omega (arith, less, within))
between (x ∷ xs) i zero low high less within behind before = absurd (omega (arith, less))
between (x ∷ xs) zero (suc k) low high less within behind before =
    let one = All-head (λ (item : LooseItem). low ≤ item.offset) x xs behind in
    let other = All-head (λ (item : LooseItem). item.offset ≤ high) x (take k xs) before in
    omega (arith, one, other)
between (x ∷ xs) (suc i) (suc k) low high less within behind before =
    between xs i k low high (omega (arith, less)) (omega (arith, within)) behind (All-tail (λ (item : LooseItem). item.offset ≤ high) x (take k xs) before)

up_to_by : (held : LooseSection) (one other : Place) → IsInside held one → IsInside held other → (less same low : Bool) → nat_lt one.item other.item ≡ less
    → (one.item == other.item) ≡ same → nat_le one.offset other.offset ≡ low → (less || (same && low)) ≡ true → IsUpTo one other
up_to_by held one other first second true same low less_is same_is low_is is =
    let before : one.item < other.item = grind (arith, nat_tests) in
    let enough = second.enough in
    (omega (arith, before), between held.items one.item other.item one.offset other.offset before enough first.behind second.before)
up_to_by held one other first second false true true less_is same_is low_is is =
    let equal : one.item ≡ other.item = grind (arith, nat_tests) in
    let less : one.offset ≤ other.offset = grind (arith, nat_tests) in
    (omega (arith, equal), less)
up_to_by held one other first second false true false less_is same_is low_is is = absurd cc
up_to_by held one other first second false false low less_is same_is low_is is = absurd cc

-- of two places inside a section the one that is not behind has no more items and no more bytes before it
pub up_to_inside : (held : LooseSection) (one other : Place) → IsInside held one → IsInside held other → is_up_to one other ≡ true → IsUpTo one other
up_to_inside held one other first second is =
    up_to_by held one other first second (nat_lt one.item other.item) (one.item == other.item) (nat_le one.offset other.offset) refl refl refl is

-- PLACES IN ORDER

pub rising_falls : (held : LooseSection) (from : Place) (places : List Place) → IsInside held from → All (IsInside held) places → AreRising from places → NeverFall (from ∷ places)
rising_falls held from [] inside all rising = tt
rising_falls held from (place ∷ places) inside all rising =
    let here = All-head (IsInside held) place places all in
    (up_to_inside held from place inside here rising.0, rising_falls held place places here (All-tail (IsInside held) place places all) rising.1)

-- ITEMS IN ORDER

-- with no more items and no more bytes before it a place does not stand behind
up_to_is : (one other : Place) → IsUpTo one other → is_up_to one other ≡ true
up_to_is one other up = by (nat_lt one.item other.item) (one.item == other.item) (nat_le one.offset other.offset) refl refl refl up.0 up.1
  where
    by : (less same low : Bool) → nat_lt one.item other.item ≡ less → (one.item == other.item) ≡ same → nat_le one.offset other.offset ≡ low
        → one.item ≤ other.item → one.offset ≤ other.offset → (less || (same && low)) ≡ true
    by true same low less_is same_is low_is items bytes = refl
    by false true true less_is same_is low_is items bytes = refl
    by false true false less_is same_is low_is items bytes =
        let more : other.offset < one.offset = grind (arith, nat_tests) in
        absurd (omega (arith, more, bytes))
    by false false low less_is same_is low_is items bytes =
        let from : other.item ≤ one.item = grind (arith, nat_tests) in
        let apart : one.item ≡ other.item → ⊥ = grind (arith, nat_tests) in
        absurd (apart (omega (arith, from, items)))

item_behind : (items : List CodeItem) (from : Place) → NeverFall (from ∷ map (λ item. item.place) items) → (k : ℕ) (d : CodeItem) → k < length items
    → IsUpTo from (slice_index_or items k d).place
item_behind [] from falls k d low = absurd (omega (arith, low))
item_behind (x ∷ xs) from falls zero d low = falls.0
item_behind (x ∷ xs) from falls (suc k) d low =
    up_to_later from x.place (slice_index_or xs k d).place falls.0 (item_behind xs x.place falls.1 k d (omega (arith, low)))

items_behind : (items : List CodeItem) (from : Place) → NeverFall (from ∷ map (λ item. item.place) items) → (one other : ℕ) (d : CodeItem) → one ≤ other
    → other < length items → IsUpTo (slice_index_or items one d).place (slice_index_or items other d).place
items_behind [] from falls one other d first low = absurd (omega (arith, low))
items_behind (x ∷ xs) from falls zero zero d first low = up_to_itself x.place
items_behind (x ∷ xs) from falls zero (suc k) d first low = item_behind xs x.place falls.1 k d (omega (arith, low))
items_behind (x ∷ xs) from falls (suc i) zero d first low = absurd (omega (arith, first))
items_behind (x ∷ xs) from falls (suc i) (suc k) d first low = items_behind xs x.place falls.1 i k d (omega (arith, first)) (omega (arith, low))

pub seen_places : (items : List CodeItem) → map (λ (item : SeenItem). item.place) (map seen items) ≡ map (λ (item : CodeItem). item.place) items
seen_places [] = refl
seen_places (item ∷ items) = ap (λ more. item.place ∷ more) (seen_places items)

one_ready : (sections : List LooseSection) (f : Recorded CodeItem) → StandsInOrder sections (mapped seen f) → IsReady sections f
one_ready sections f stands =
    let falls = subst (λ (places : List Place). NeverFall (f.start ∷ places)) (seen_places f.items)
    (rising_falls stands.held f.start (item_places (mapped seen f)) stands.start stands.items stands.rising) in
    record {
      there = slice_get_within sections f.section stands.held stands.there;
      ordered = record {
        each = λ one other d first low.
            up_to_is (slice_index_or f.items one d).place (slice_index_or f.items other d).place (items_behind f.items f.start falls one other d first low);
      };
    }

-- functions that are seen to stand in order are ready to be analyzed
pub all_ready : (sections : List LooseSection) (functions : List (Recorded CodeItem)) → All (StandsInOrder sections) (all_seen functions) → All (IsReady sections) functions
all_ready sections [] stand = All-nil (IsReady sections)
all_ready sections (f ∷ functions) stand =
    All-cons (IsReady sections) f functions (one_ready sections f (All-head (StandsInOrder sections) (mapped seen f) (all_seen functions) stand))
    (all_ready sections functions (All-tail (StandsInOrder sections) (mapped seen f) (all_seen functions) stand))
