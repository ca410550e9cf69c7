-- The last item that begins at a place, and how it is found in items that are in order.
use Rattle.std.proofs.Common.{◌≡◌, ◌<◌, ◌≤◌, ℕ, zero, suc, ◌-◌, Bool, true, false, List, [], ◌∷◌, length, Option, None, Some, refl, sym, ap, subst, ◌∙◌, arith}
use Rattle.std.specs.Prelude.{slice_index_or, nat_lt}
use Rattle.std.specs.List.Sorted.{IsPartitionedBy, IsPartitionPoint}
use Rattle.std.proofs.lemmas.Bool.Decides.{nat_tests}
use Rattle.asm_base.specs.declared.places.Place.{Place}
use Rattle.code_functions.specs.declared.items.CodeItem.{CodeItem}
use Rattle.code_functions.specs.InOrder.{is_up_to, AreInOrder}
use Rattle.flow_graph.specs.Targets.{same_place, later_of, item_at, IsCountUpTo}
use Rattle.flow_graph.specs.Rules.{BeginsAt, IsLastAt, LastIsFound}

-- of three places in a row the first is up to the last
up_to_by : (one two three : Place) → is_up_to one two ≡ true → is_up_to two three ≡ true → is_up_to one three ≡ true
up_to_by one two three first second = grind (arith, nat_tests)

-- a place between a place and itself is the same
between_same : (one two : Place) → is_up_to one two ≡ true → is_up_to two one ≡ true → same_place two one ≡ true
between_same one two first second = grind (arith, nat_tests)

-- a place is up to itself, and the same
up_to_self : (one : Place) → is_up_to one one ≡ true
up_to_self one = grind (arith, nat_tests)

same_self : (one : Place) → same_place one one ≡ true
same_self one = grind (arith, nat_tests)

-- places that are the same are equal
same_is : (one other : Place) → same_place one other ≡ true → one ≡ other
same_is one other is =
    let items : one.item ≡ other.item = grind (arith, nat_tests) in
    let offsets : one.offset ≡ other.offset = grind (arith, nat_tests) in
    let made : ℕ → ℕ → Place = λ item offset. record { item = item; offset = offset } in
    ap (λ (n : ℕ). made n one.offset) items ∙ ap (λ (n : ℕ). made other.item n) offsets

-- a number is below another one or not
below_or_not : (i n : ℕ) → (b : Bool) → nat_lt i n ≡ b → (i < n → ⊥) → (n ≤ i → ⊥) → ⊥
below_or_not i n true is below above = below (grind (arith, nat_tests))
below_or_not i n false is below above = above (grind (arith, nat_tests))

-- items in order are parted by a place
pub parted : (items : List CodeItem) (place : Place) → AreInOrder items → IsPartitionedBy (λ item. is_up_to item.place place) items
parted items place order one other d before within there =
    up_to_by (slice_index_or items one d).place (slice_index_or items other d).place place (order.each one other d before within) there

-- where items are parted, so many of them begin up to the place
pub counted : (items : List CodeItem) (place : Place) (count : ℕ) → count ≤ length items
    → IsPartitionPoint (λ item. is_up_to item.place place ≡ true) (λ item. is_up_to item.place place ≡ false) items count → IsCountUpTo items place count
counted items place count within point = record {
  within = within;
  before = λ item d here. point.0 item d (omega arith) here;
  behind = λ item d here there. point.1 item d here there;
}

module _ (place : Place) where
  -- the item that begins there
  record Begun (items : List CodeItem) (item : ℕ) : Type 0 where
    code : CodeItem
    within : item < length items
    place_is : code.place ≡ place
    read : (d : CodeItem) → slice_index_or items item d ≡ code

  -- an item that begins there is in the list, and is read there
  begun : (items : List CodeItem) (item : ℕ) → BeginsAt items place item → Begun items item
  begun [] item is = absurd (cc)
  begun (code ∷ items) zero is = record { code = code; within = omega arith; place_is = cc; read = λ d. refl }
  begun (code ∷ items) (suc item) is =
      let later = begun items item is in
      record { code = later.code; within = omega (arith, later.within); place_is = later.place_is; read = later.read }

  -- an item that is read there begins there
  begins_at : (items : List CodeItem) (item : ℕ) (d : CodeItem) → item < length items → (slice_index_or items item d).place ≡ place → BeginsAt items place item
  begins_at [] item d within is = absurd (omega arith)
  begins_at (code ∷ items) zero d within is = ap (λ (p : Place). Some p) is
  begins_at (code ∷ items) (suc item) d within is = begins_at items item d (omega arith) is

  -- one item more, where none begins behind it
  none_more : (code : CodeItem) (items : List CodeItem) (here : Bool) → same_place code.place place ≡ here → (behind : Option ℕ) → later_of here behind ≡ None
      → (behind ≡ None → (item : ℕ) → BeginsAt items place item → ⊥) → (item : ℕ) → BeginsAt (code ∷ items) place item → ⊥
  none_more code items here here_is (Some k) none again item begins = cc
  none_more code items true here_is None none again item begins = cc
  none_more code items false here_is None none again zero begins =
      let is : code.place ≡ place = cc in
      let same : same_place code.place place ≡ true = ap (λ (p : Place). same_place p place) is ∙ same_self place in
      cc
  none_more code items false here_is None none again (suc item) begins = again refl item begins

  -- where none is found none begins
  none_begins : (items : List CodeItem) → item_at items place ≡ None → (item : ℕ) → BeginsAt items place item → ⊥
  none_begins [] none item begins = cc
  none_begins (code ∷ items) none item begins =
      none_more code items (same_place code.place place) refl (item_at items place) none (none_begins items) item begins

  -- one item more, and the last one of all
  last_behind : (code : CodeItem) (items : List CodeItem) (item : ℕ) → IsLastAt items place item → IsLastAt (code ∷ items) place (suc item)
  last_behind code items item last = record { begins = last.begins; last = later }
    where
      later : (other : ℕ) → suc item < other → BeginsAt (code ∷ items) place other → ⊥
      later zero after begins = absurd (omega arith)
      later (suc other) after begins = last.last other (omega arith) begins

  -- the first item is the last one of all
  last_first : (code : CodeItem) (items : List CodeItem) → same_place code.place place ≡ true → ((item : ℕ) → BeginsAt items place item → ⊥) → IsLastAt (code ∷ items) place 0
  last_first code items here none = record { begins = ap (λ (p : Place). Some p) (same_is code.place place here); last = later }
    where
      later : (other : ℕ) → 0 < other → BeginsAt (code ∷ items) place other → ⊥
      later zero after begins = absurd (omega arith)
      later (suc other) after begins = none other begins

  -- one item more before those that are searched
  last_more : (code : CodeItem) (items : List CodeItem) (here : Bool) → same_place code.place place ≡ here → (behind : Option ℕ) → item_at items place ≡ behind
      → ((item : ℕ) → item_at items place ≡ Some item → IsLastAt items place item) → (item : ℕ) → later_of here behind ≡ Some item → IsLastAt (code ∷ items) place item
  last_more code items here here_is (Some k) behind_is again item found =
      let number : suc k ≡ item = grind arith in
      subst (IsLastAt (code ∷ items) place) number (last_behind code items k (again k behind_is))
  last_more code items true here_is None behind_is again item found =
      let number : 0 ≡ item = cc in
      subst (IsLastAt (code ∷ items) place) number (last_first code items here_is (none_begins items behind_is))
  last_more code items false here_is None behind_is again item found = absurd (cc)

  -- what is found is the last one
  pub found_is_last : (items : List CodeItem) (item : ℕ) → item_at items place ≡ Some item → IsLastAt items place item
  found_is_last [] item found = absurd (cc)
  found_is_last (code ∷ items) item found =
      last_more code items (same_place code.place place) refl (item_at items place) refl (found_is_last items) item found

  -- and the last one is found
  pub last_is_found : (items : List CodeItem) (item : ℕ) → IsLastAt items place item → item_at items place ≡ Some item
  last_is_found items item last = by (item_at items place) refl
    where
      by : (found : Option ℕ) → item_at items place ≡ found → item_at items place ≡ Some item
      by None found_is = absurd (none_begins items found_is item last.begins)
      by (Some other) found_is =
          let it = found_is_last items other found_is in
          let before : item < other → ⊥ = λ after. last.last other after it.begins in
          let behind : other < item → ⊥ = λ after. it.last item after last.begins in
          let same : other ≡ item = omega arith in
          found_is ∙ ap (λ (n : ℕ). Some n) same

  -- where none begins none is found
  pub none_is_found : (items : List CodeItem) → ((item : ℕ) → BeginsAt items place item → ⊥) → item_at items place ≡ None
  none_is_found items none = by (item_at items place) refl
    where
      by : (found : Option ℕ) → item_at items place ≡ found → item_at items place ≡ None
      by None found_is = found_is
      by (Some other) found_is = absurd (none other (found_is_last items other found_is).begins)

  -- what is found at the place
  pub last_found : (items : List CodeItem) → LastIsFound items place
  last_found items = record {
    found = λ item. (found_is_last items item, last_is_found items item);
    none = (none_begins items, none_is_found items);
  }

  module _ (items : List CodeItem) (order : AreInOrder items) where
    -- none begins behind those that begin up to the place
    none_behind : (count : ℕ) → IsCountUpTo items place count → (item : ℕ) → count ≤ item → BeginsAt items place item → ⊥
    none_behind count counts item after begins =
        let it = begun items item begins in
        let here : slice_index_or items item it.code ≡ it.code = it.read it.code in
        let away : is_up_to (slice_index_or items item it.code).place place ≡ false = counts.behind item it.code after it.within in
        let there : is_up_to (slice_index_or items item it.code).place place ≡ true =
        ap (λ (c : CodeItem). is_up_to c.place place) here ∙ ap (λ (p : Place). is_up_to p place) it.place_is ∙ up_to_self place in
        cc

    -- all items begin behind the place
    pub none_before : IsCountUpTo items place 0 → item_at items place ≡ None
    none_before counts = none_is_found items (λ item begins. none_behind 0 counts item (omega arith) begins)

    -- the last of those up to the place begins there
    pub found_at : (count : ℕ) (d : CodeItem) → IsCountUpTo items place count → 0 < count → same_place (slice_index_or items (count - 1) d).place place ≡ true
        → item_at items place ≡ Some (count - 1)
    found_at count d counts some here =
        last_is_found items (count - 1) (record {
          begins = begins_at items (count - 1) d (omega (arith, counts.within)) (same_is (slice_index_or items (count - 1) d).place place here);
          last = λ later after begins. none_behind count counts later (omega arith) begins;
        })

    -- it begins before the place
    pub none_at : (count : ℕ) (d : CodeItem) → IsCountUpTo items place count → 0 < count → same_place (slice_index_or items (count - 1) d).place place ≡ false
        → item_at items place ≡ None
    none_at count d counts some away = none_is_found items none
      where
        before : (item : ℕ) → BeginsAt items place item → item < count → ⊥
        before item begins within =
            let it = begun items item begins in
            let one : is_up_to (slice_index_or items item d).place (slice_index_or items (count - 1) d).place ≡ true =
            order.each item (count - 1) d (omega arith) (omega (arith, counts.within)) in
            let first : is_up_to place (slice_index_or items (count - 1) d).place ≡ true =
            sym (ap (λ (c : CodeItem). is_up_to c.place (slice_index_or items (count - 1) d).place) (it.read d)
            ∙ ap (λ (p : Place). is_up_to p (slice_index_or items (count - 1) d).place) it.place_is) ∙ one in
            let second : is_up_to (slice_index_or items (count - 1) d).place place ≡ true = counts.before (count - 1) d (omega arith) in
            let same : same_place (slice_index_or items (count - 1) d).place place ≡ true = between_same place (slice_index_or items (count - 1) d).place first second in
            cc

        none : (item : ℕ) → BeginsAt items place item → ⊥
        none item begins = below_or_not item count (nat_lt item count) refl (before item begins) (λ after. none_behind count counts item after begins)
