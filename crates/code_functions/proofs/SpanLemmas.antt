-- Functions as parts of lists: what becomes of them where lists grow, an item is put and a function ends.
use Rattle.std.proofs.Common.{◌≡◌, ◌≢◌, ◌≤◌, ◌<◌, ◌+◌, ◌-◌, ℕ, Bool, true, false, List, [], ◌∷◌, ◌++◌, length, get_or, set, drop, take, replicate, map, Option, None, Some, refl, sym, ap, subst, ◌∙◌, arith}
use Rattle.std.proofs.lemmas.Bool.{false≢true}
use Rattle.std.specs.Prelude.{◌==◌, ◌&&◌, All, is_some, if◌then◌else◌, slice_get, option_map}
use Rattle.std.specs.Option.{is_none, option_map_or}
use Rattle.std.proofs.lemmas.Bool.Decides.{nat_tests}
use Rattle.std.proofs.lemmas.List.{get_or_append_left, get_or-set_same, get_or-set_other, drop-append-le, take-append-le, take_all, drop_all, length-append, length-drop, length-set, map-append, map-set}
use Rattle.std.proofs.lemmas.List.{append_assoc, append-nil, set-get_or}
use Rattle.std.proofs.lemmas.List.Elements.{All-head, All-tail, All-push, All-set}
use Rattle.std.proofs.lemmas.Grind.{replicate_next}
use Rattle.std.proofs.lemmas.Option.{slice_get_within, get_or_from_slice_get, slice_get-map, slice_get-get_or}
use Rattle.asm_base.specs.declared.places.Place.{Place}
use Rattle.asm_base.specs.declared.positions.Pos.{Pos}
use Rattle.code_functions.specs.declared.spans.SpanEnd.{SpanEnd}
use Rattle.code_functions.specs.declared.spans.FunctionSpan.{FunctionSpan}
use Rattle.code_functions.specs.Lists.{items_in, put_into, IsGrown}
use Rattle.code_functions.specs.Recorded.{Recorded, is_open, with_item, added, closed_by, closed_at, begun, items_of}
use Rattle.code_functions.specs.Spans.{part_to, recorded_in, recorded, EndsWithin, IsKept}

-- two functions agree on all elements of a list
module _ {X Y : Type 0} (P : X → Type 0) (f g : X → Y) (same : (x : X) → P x → f x ≡ g x) where
  pub map_agrees : (xs : List X) → All P xs → map f xs ≡ map g xs
  map_agrees [] all = refl
  map_agrees (x ∷ xs) all =
      ap (λ y. y ∷ map f xs) (same x (All-head P x xs all)) ∙ ap (λ ys. g x ∷ ys) (map_agrees xs (All-tail P x xs all))

module _ {X Y Z : Type 0} (f : Y → Z) (g : X → Y) where
  -- one map behind the other
  map_map : (xs : List X) → map (λ x. f (g x)) xs ≡ map f (map g xs)
  map_map [] = refl
  map_map (x ∷ xs) = ap (λ zs. f (g x) ∷ zs) (map_map xs)

and_false : (b : Bool) → (b && false) ≡ false
and_false true = refl
and_false false = refl

-- an end is within more items too
ends_more : (from all more : ℕ) (end : Option SpanEnd) → all ≤ more → EndsWithin from all end → EndsWithin from more end
ends_more from all more None longer within = omega (arith, within, longer)
ends_more from all more (Some stop) longer within = (within.0, omega (arith, within.1, longer))

-- the span of a function that begins behind all items of its section
abbrev pub new_span : (symbol : ℕ) → Pos → (section : ℕ) → Place → (from : ℕ) → FunctionSpan
new_span symbol pos section start from = record { symbol = symbol; pos = pos; section = section; start = start; from = from; end = None }

module _ {A : Type 0} where
  -- LISTS THAT GROW

  -- the lists that were there keep their items
  pub grown_items : (lists : List (List A)) (count section : ℕ) → section < length lists
      → items_in (lists ++ replicate count []) section ≡ items_in lists section
  grown_items lists count section there = get_or_append_left lists (replicate count []) [] section there

  -- and so do functions
  pub recorded_grown : (lists : List (List A)) (count : ℕ) (span : FunctionSpan) → IsKept lists span
      → recorded (lists ++ replicate count []) span ≡ recorded lists span
  recorded_grown lists count span kept = ap (λ items. recorded_in items span) (grown_items lists count span.section kept.there)

  pub kept_grown : (lists : List (List A)) (count : ℕ) (span : FunctionSpan) → IsKept lists span → IsKept (lists ++ replicate count []) span
  kept_grown lists count span kept = record {
    there = omega (arith, kept.there, length-append lists (replicate count []));
    within = subst (λ items. EndsWithin span.from (length items) span.end) (sym (grown_items lists count span.section kept.there)) kept.within;
  }

  -- AN ITEM THAT IS PUT

  -- of the items of a section
  pub put_there : (lists : List (List A)) (section : ℕ) (item : A) → section < length lists
      → items_in (put_into section item lists) section ≡ items_in lists section ++ item ∷ []
  put_there lists section item there = get_or-set_same lists section (items_in lists section ++ item ∷ []) [] there

  -- a part of them has it at its end, where it has no end so far
  part_more : (items : List A) (item : A) (from : ℕ) (end : Option SpanEnd) → EndsWithin from (length items) end
      → part_to (items ++ item ∷ []) from end ≡ (if is_none end then part_to items from end ++ item ∷ [] else part_to items from end)
  part_more items item from None within = drop-append-le from items (item ∷ []) within
  part_more items item from (Some stop) within =
      ap (λ rest. take (stop.count - from) rest) (drop-append-le from items (item ∷ []) (omega (arith, within.0, within.1)))
      ∙ take-append-le (stop.count - from) (drop from items) (item ∷ []) (omega (arith, within.0, within.1, length-drop from items))

  -- the function of a span with this end and these items
  abbrev made : FunctionSpan → Option SpanEnd → List A → Recorded A
  made span end items =
      record { symbol = span.symbol; pos = span.pos; section = span.section; start = span.start; stop = option_map (λ (stop : SpanEnd). stop.place) end; items = items }

  -- a function of the section gets the item, if it is open
  in_section : (span : FunctionSpan) (end : Option SpanEnd) (items : List A) (section : ℕ) (item : A) → EndsWithin span.from (length items) end
      → (span.section == section) ≡ true
      → made span end (part_to (items ++ item ∷ []) span.from end) ≡ with_item section item (made span end (part_to items span.from end))
  in_section span None items section item within is =
      ap (made span None) (part_more items item span.from None within)
      ∙ sym (ap (λ b. if b then made span None (part_to items span.from None ++ item ∷ []) else made span None (part_to items span.from None)) is)
  in_section span (Some stop) items section item within is = ap (made span (Some stop)) (part_more items item span.from (Some stop) within)

  -- one of another section stays
  beside : (f : Recorded A) (section : ℕ) (item : A) → (f.section == section) ≡ false → with_item section item f ≡ f
  beside f section item other =
      ap (λ b. if b then record f { items = f.items ++ item ∷ [] } else f) (ap (λ b. is_open f && b) other ∙ and_false (is_open f))

  -- with an item that is put into a section, each function is as it should be
  pub recorded_put : (lists : List (List A)) (section : ℕ) (item : A) (span : FunctionSpan) → IsKept lists span
      → recorded (put_into section item lists) span ≡ with_item section item (recorded lists span)
  recorded_put lists section item span kept = by (span.section == section) refl where
    by : (here : Bool) → (span.section == section) ≡ here → recorded (put_into section item lists) span ≡ with_item section item (recorded lists span)
    by true is =
        let same : span.section ≡ section = grind (arith, nat_tests) in
        let there : items_in (put_into section item lists) span.section ≡ items_in lists span.section ++ item ∷ [] =
        subst (λ s. items_in (put_into s item lists) span.section ≡ items_in lists span.section ++ item ∷ []) same (put_there lists span.section item kept.there) in
        ap (λ items. recorded_in items span) there ∙ in_section span span.end (items_in lists span.section) section item kept.within is
    by false is =
        let other : span.section ≢ section = λ same. grind (arith, nat_tests) in
        ap (λ items. recorded_in items span) (get_or-set_other lists section span.section (items_in lists section ++ item ∷ []) [] other)
        ∙ sym (beside (recorded lists span) section item is)

  -- and is kept
  pub kept_put : (lists : List (List A)) (section : ℕ) (item : A) (span : FunctionSpan) → IsKept lists span → IsKept (put_into section item lists) span
  kept_put lists section item span kept = record {
    there = omega (arith, kept.there, length-set lists section (items_in lists section ++ item ∷ []));
    within = ends_more span.from (length (items_in lists span.section)) _ span.end (longer (span.section == section) refl) kept.within;
  } where
    longer : (here : Bool) → (span.section == section) ≡ here → length (items_in lists span.section) ≤ length (items_in (put_into section item lists) span.section)
    longer true is =
        let same : span.section ≡ section = grind (arith, nat_tests) in
        let there : items_in (put_into section item lists) span.section ≡ items_in lists span.section ++ item ∷ [] =
        subst (λ s. items_in (put_into s item lists) span.section ≡ items_in lists span.section ++ item ∷ []) same (put_there lists span.section item kept.there) in
        omega (arith, ap length there, length-append (items_in lists span.section) (item ∷ []))
    longer false is =
        let other : span.section ≢ section = λ same. grind (arith, nat_tests) in
        omega (arith, ap length (get_or-set_other lists section span.section (items_in lists section ++ item ∷ []) [] other))

  -- A FUNCTION THAT ENDS

  -- all of the items so far are up to the last one
  part_ended : (items : List A) (from : ℕ) → take (length items - from) (drop from items) ≡ drop from items
  part_ended items from = take_all (length items - from) (drop from items) (omega (arith, length-drop from items))

  -- ALL FUNCTIONS

  -- more lists leave all functions as they are
  pub grown_more : (lists now : List (List A)) → IsGrown lists now → IsGrown lists (now ++ [] ∷ [])
  grown_more lists now grown = record {
    count = grown.count + 1;
    more =
        ap (λ xs. xs ++ [] ∷ []) grown.more ∙ append_assoc lists (replicate grown.count []) ([] ∷ [])
        ∙ ap (λ xs. lists ++ xs) (sym (replicate_next grown.count []));
  }

  pub grown_none : (lists : List (List A)) → IsGrown lists lists
  grown_none lists = record { count = 0; more = sym (append-nil lists) }

  pub grown_view : (lists after : List (List A)) (spans : List FunctionSpan) → IsGrown lists after → All (IsKept lists) spans
      → map (recorded after) spans ≡ map (recorded lists) spans
  grown_view lists after spans grown all =
      ap (λ ls. map (recorded ls) spans) grown.more
      ∙ map_agrees (IsKept lists) (recorded (lists ++ replicate grown.count [])) (recorded lists) (recorded_grown lists grown.count) spans all

  pub grown_kept : (lists after : List (List A)) (spans : List FunctionSpan) → IsGrown lists after → All (IsKept lists) spans → All (IsKept after) spans
  grown_kept lists after spans grown all k d within =
      subst (λ ls. IsKept ls (get_or spans k d)) (sym grown.more) (kept_grown lists grown.count (get_or spans k d) (all k d within))

  -- a function that begins
  pub begun_view : (lists : List (List A)) (spans : List FunctionSpan) (symbol : ℕ) (pos : Pos) (section : ℕ) (start : Place) (from : ℕ)
      → from ≡ length (items_in lists section)
      → map (recorded lists) (spans ++ new_span symbol pos section start from ∷ []) ≡ begun symbol pos section start (map (recorded lists) spans)
  begun_view lists spans symbol pos section start from is =
      map-append (recorded lists) spans (new_span symbol pos section start from ∷ [])
      ∙ ap (λ (items : List A). map (recorded lists) spans
      ++ record { symbol = symbol; pos = pos; section = section; start = start; stop = None; items = items } ∷ [])
      (drop_all from (items_in lists section) (omega (arith, is)))

  pub begun_kept : (lists : List (List A)) (spans : List FunctionSpan) (symbol : ℕ) (pos : Pos) (section : ℕ) (start : Place) (from : ℕ)
      → from ≡ length (items_in lists section) → section < length lists → All (IsKept lists) spans
      → All (IsKept lists) (spans ++ new_span symbol pos section start from ∷ [])
  begun_kept lists spans symbol pos section start from is there all =
      All-push (IsKept lists) spans (new_span symbol pos section start from) all (record { there = there; within = omega (arith, is) })

  -- an item that is put
  pub added_view : (lists : List (List A)) (section : ℕ) (item : A) (spans : List FunctionSpan) → All (IsKept lists) spans
      → map (recorded (put_into section item lists)) spans ≡ added section item (map (recorded lists) spans)
  added_view lists section item spans all =
      map_agrees (IsKept lists) (recorded (put_into section item lists)) (λ span. with_item section item (recorded lists span))
      (recorded_put lists section item) spans all
      ∙ map_map (with_item section item) (recorded lists) spans

  pub added_kept : (lists : List (List A)) (section : ℕ) (item : A) (spans : List FunctionSpan) → All (IsKept lists) spans
      → All (IsKept (put_into section item lists)) spans
  added_kept lists section item spans all k d within = kept_put lists section item (get_or spans k d) (all k d within)

  -- a function that ends
  module _ (lists : List (List A)) (ends : ℕ → Place) where
    -- the span with its end
    abbrev pub with_end : FunctionSpan → FunctionSpan
    with_end span = record span { end = Some (record { place = ends span.section; count = length (items_in lists span.section) }) }

    pub ended_is : (span : FunctionSpan) → span.end ≡ None → recorded lists (with_end span) ≡ closed_by ends (recorded lists span)
    ended_is span none =
        ap (λ items. record (recorded lists (with_end span)) { items = items }) (part_ended (items_in lists span.section) span.from)
        ∙ ap (λ end. closed_by ends (made span end (part_to (items_in lists span.section) span.from end))) (sym none)

    pub ended_view : (spans : List FunctionSpan) (number : ℕ) (span : FunctionSpan) → slice_get spans number ≡ Some span → span.end ≡ None
        → map (recorded lists) (set spans number (with_end span)) ≡ closed_at ends number (map (recorded lists) spans)
    ended_view spans number span there none =
        map-set (recorded lists) spans number (with_end span)
        ∙ ap (set (map (recorded lists) spans) number) (ended_is span none)
        ∙ sym (ap (λ o. option_map_or (λ f. set (map (recorded lists) spans) number (closed_by ends f)) o (map (recorded lists) spans))
        (slice_get-map (recorded lists) spans number ∙ ap (option_map (recorded lists)) there))

    pub ended_kept : (spans : List FunctionSpan) (number : ℕ) (span : FunctionSpan) → slice_get spans number ≡ Some span → span.end ≡ None
        → All (IsKept lists) spans → All (IsKept lists) (set spans number (with_end span))
    ended_kept spans number span there none all =
        let kept : IsKept lists span = subst (IsKept lists) (get_or_from_slice_get spans number span span there) (all number span (slice_get_within spans number span there)) in
        All-set (IsKept lists) spans number (with_end span)
        (record { there = kept.there; within = (subst (EndsWithin span.from (length (items_in lists span.section))) none kept.within, omega arith) }) all

    -- one that has ended stays
    pub still_ended : (spans : List FunctionSpan) (number : ℕ) (span : FunctionSpan) (stop : SpanEnd) → slice_get spans number ≡ Some span → span.end ≡ Some stop
        → map (recorded lists) spans ≡ closed_at ends number (map (recorded lists) spans)
    still_ended spans number span stop there is =
        let f = recorded lists span in
        let found : slice_get (map (recorded lists) spans) number ≡ Some f = slice_get-map (recorded lists) spans number ∙ ap (option_map (recorded lists)) there in
        let same : closed_by ends f ≡ f = ap (λ end. if is_none (option_map (λ (stop : SpanEnd). stop.place) end) then record f { stop = Some (ends f.section) } else f) is in
        sym (ap (λ o. option_map_or (λ g. set (map (recorded lists) spans) number (closed_by ends g)) o (map (recorded lists) spans)) found
        ∙ ap (set (map (recorded lists) spans) number) (same ∙ sym (get_or_from_slice_get (map (recorded lists) spans) number f f found))
        ∙ set-get_or (map (recorded lists) spans) number f)

    -- as the call has it: the end of the span is tested, and its place and count are made
    pub still_ended_by : (spans : List FunctionSpan) (number : ℕ) (span : FunctionSpan) → slice_get spans number ≡ Some span → is_some span.end ≡ true
        → map (recorded lists) spans ≡ closed_at ends number (map (recorded lists) spans)
    still_ended_by spans number span there some = by span.end refl some where
      by : (end : Option SpanEnd) → span.end ≡ end → is_some end ≡ true → map (recorded lists) spans ≡ closed_at ends number (map (recorded lists) spans)
      by None is some = absurd (false≢true some)
      by (Some stop) is some = still_ended spans number span stop there is

    none_by : (end : Option SpanEnd) → is_some end ≡ false → end ≡ None
    none_by None none = refl
    none_by (Some stop) none = absurd (false≢true (sym none))

    pub ended_by : (spans : List FunctionSpan) (number : ℕ) (span : FunctionSpan) (place : Place) (count : ℕ) → slice_get spans number ≡ Some span → is_some span.end ≡ false
        → place ≡ ends span.section → count ≡ length (items_in lists span.section)
        → map (recorded lists) (set spans number (record span { end = Some (record { place = place; count = count }) })) ≡ closed_at ends number (map (recorded lists) spans)
    ended_by spans number span place count there none place_is count_is =
        ap (λ (p : Place). map (recorded lists) (set spans number (record span { end = Some (record { place = p; count = count }) }))) place_is
        ∙ ap (λ (n : ℕ). map (recorded lists) (set spans number (record span { end = Some (record { place = ends span.section; count = n }) }))) count_is
        ∙ ended_view spans number span there (none_by span.end none)

  -- a function is there
  pub span_found : (lists : List (List A)) (spans : List FunctionSpan) (number : ℕ) (d : FunctionSpan) → number < length spans
      → slice_get (map (recorded lists) spans) number ≡ Some (recorded lists (get_or spans number d))
  span_found lists spans number d within = slice_get-map (recorded lists) spans number ∙ ap (option_map (recorded lists)) (slice_get-get_or spans number d within)

  -- its items
  pub items_found : (lists : List (List A)) (spans : List FunctionSpan) (number : ℕ) (d : FunctionSpan) → number < length spans
      → items_of number (map (recorded lists) spans) ≡ part_to (items_in lists (get_or spans number d).section) (get_or spans number d).from (get_or spans number d).end
  items_found lists spans number d within = ap (λ o. option_map_or (λ (f : Recorded A). f.items) o []) (span_found lists spans number d within)
