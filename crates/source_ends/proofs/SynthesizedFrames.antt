-- The frames of functions that stand in order cover places of their sections, as those of procedures do.
use Rattle.std.proofs.Common.{◌≡◌, ℕ, zero, suc, ◌+◌, ◌<◌, ◌≤◌, cond, List, [], ◌∷◌, ◌++◌, length, map, drop, All, Option, None, Some, Ok, refl, sym, ap, ◌∙◌, subst, arith, length-drop, drop-drop, append_assoc}
use Rattle.std.proofs.lemmas.List.{map-append}
use Rattle.std.specs.List.{AllZip}
use Rattle.std.specs.Prelude.{slice_get, IfSome, is_none}
use Rattle.std.specs.Option.{option_map_or}
use Rattle.std.proofs.lemmas.List.Elements.{All-nil, All-cons, All-head, All-tail, All-map, All-weaker}
use Rattle.asm_base.specs.declared.places.Place.{Place}
use Rattle.asm_frags.specs.Writing.{LooseSection}
use Rattle.asm_uses.specs.Places.{spot_at, spot_in, no_spot}
use Rattle.asm_place.specs.ProcedurePlaces.{IsInside}
use Rattle.asm_symbols.specs.SymbolMap.{SymbolMap}
use Rattle.cfi_directives.specs.Order.{IsUpTo, NeverFall}
use Rattle.cfi_directives.specs.declared.frames.Frame.{Frame}
use Rattle.cfi_directives.specs.declared.frames.PlacedOp.{PlacedOp}
use Rattle.cfi_rows.specs.declared.rows.CfiOp.{CfiOp}
use Rattle.cfi_rows.specs.Differences.{differences}
use Rattle.code_functions.specs.Recorded.{Recorded, closed_by, all_closed}
use Rattle.code_functions.specs.Seen.{SeenItem, seen, mapped, all_seen}
use Rattle.code_functions.specs.declared.items.CodeItem.{CodeItem}
use Rattle.table_pieces.specs.StandingPlaces.{HoldsItems}
use Rattle.flow_graph.specs.declared.nodes.Node.{Node}
use Rattle.frame_laws.specs.PlacedTables.{IsCovered}
use Rattle.scfi_pass.specs.declared.item_ops.ItemOp.{ItemOp}
use Rattle.scfi_pass.specs.declared.rows.StackRow.{StackRow}
use Rattle.scfi_pass.specs.Changing.{told}
use Rattle.scfi_pass.specs.Rows.{whole_row}
use Rattle.scfi_pass.specs.Tables.{Analyzed, AreRowsFrom, ops_from, entry_row}
use Rattle.synthesis_laws.specs.WrittenTables.{TablesAreOfItems, TablesCanBeWritten}
use Rattle.asm_functions.specs.FollowedSource.{FollowedSource}
use Rattle.asm_functions.specs.Following.{end_of}
use Rattle.asm_functions.specs.Standing.{EndsBehind, StandsInOrder, item_places}
use Rattle.source_ends.specs.Synthesis.{IsFrameOf, IsTable, IsSynthesis, frame_with, place_of, placed_ops, nodes_in}
use Rattle.source_ends.proofs.Lists.{all_there}
use Rattle.source_ends.proofs.RowCounts.{rows_count}
use Rattle.source_ends.proofs.PlacesInOrder.{up_to_itself, up_to_later, up_to_inside, rising_falls, seen_places}

-- PLACES IN ORDER

ends_behind : (from : Place) (places : List Place) (stop : Place) → NeverFall (from ∷ places) → All (λ place. IsUpTo place stop) (from ∷ places)
    → NeverFall (from ∷ (places ++ stop ∷ []))
ends_behind from [] stop falls all = (All-head (λ place. IsUpTo place stop) from [] all, tt)
ends_behind from (place ∷ places) stop falls all = (falls.0, ends_behind place places stop falls.1 (All-tail (λ place. IsUpTo place stop) from (place ∷ places) all))

skipped : (from place : Place) (rest : List Place) → IsUpTo from place → NeverFall (place ∷ rest) → NeverFall (from ∷ rest)
skipped from place [] up falls = tt
skipped from place (next ∷ rest) up falls = (up_to_later from place next up falls.0, falls.1)

-- INSTRUCTIONS AT THE PLACES OF ITEMS

-- the places of these instructions
abbrev places_of : List CodeItem → List ItemOp → List Place
places_of items ops = map (λ op. place_of items op.item) ops

drop_there : (items : List CodeItem) (j : ℕ) (item : CodeItem) (rest : List CodeItem) → drop j items ≡ item ∷ rest → slice_get items j ≡ Some item
drop_there [] zero item rest is = absurd cc
drop_there [] (suc j) item rest is = absurd cc
drop_there (x ∷ xs) zero item rest is = cc
drop_there (x ∷ xs) (suc j) item rest is = drop_there xs j item rest is

place_there : (items : List CodeItem) (j : ℕ) (item : CodeItem) → slice_get items j ≡ Some item → place_of items j ≡ item.place
place_there items j item there = ap (λ found. option_map_or (λ (one : CodeItem). one.place) found (record { item = 0; offset = 0 })) there

told_falls : (items : List CodeItem) (j : ℕ) (ops : List CfiOp) (from : Place) (rest : List Place) → IsUpTo from (place_of items j) → NeverFall (from ∷ rest)
    → NeverFall (place_of items j ∷ rest) → NeverFall (from ∷ (places_of items (told j ops) ++ rest))
told_falls items j [] from rest up falls here = falls
told_falls items j (op ∷ ops) from rest up falls here = (up, told_falls items j ops (place_of items j) rest (up_to_itself (place_of items j)) here here)

-- the places of the instructions that lead from row to row do not fall where those of the items do not
falls_from : (a : Analyzed) (items : List CodeItem) → a.items ≡ items → (stop : Place) (j : ℕ) (before : StackRow) (rows : List StackRow) (rest : List CodeItem) (from : Place)
    → AreRowsFrom a j before rows → drop j items ≡ rest → NeverFall (from ∷ (map (λ item. item.place) rest ++ stop ∷ []))
    → NeverFall (from ∷ (places_of items (ops_from j before rows) ++ stop ∷ []))
falls_from a items same stop j before [] [] from are is falls = falls
falls_from a items same stop j before [] (item ∷ rest) from are is falls =
    let long = length-drop j items in
    let count = ap length same in
    let left = ap length is in
    absurd (omega (arith, are, long, count, left))
falls_from a items same stop j before (row ∷ rows) [] from are is falls =
    let long = length-drop j items in
    let count = ap length same in
    let left = ap length is in
    let all = rows_count a j before (row ∷ rows) are in
    absurd (omega (arith, all, long, count, left))
falls_from a items same stop j before (row ∷ rows) (item ∷ rest) from are is falls =
    let here = place_there items j item (drop_there items j item rest is) in
    let later : drop (j + 1) items ≡ rest = sym (drop-drop 1 j items) ∙ ap (drop 1) is in
    let ops = differences (whole_row before) (whole_row row) in
    let next = ops_from (j + 1) row rows in
    let tail : (first : Place) → NeverFall (first ∷ (map (λ (one : CodeItem). one.place) rest ++ stop ∷ [])) → NeverFall (first ∷ (places_of items next ++ stop ∷ [])) =
    λ first fall. falls_from a items same stop (j + 1) row rows rest first are.1 later fall in
    let own = tail item.place falls.1 in
    let skip = tail from (skipped from item.place (map (λ (one : CodeItem). one.place) rest ++ stop ∷ []) falls.0 falls.1) in
    subst (λ (places : List Place). NeverFall (from ∷ places))
    (sym (ap (λ (places : List Place). places ++ stop ∷ []) (map-append (λ (op : ItemOp). place_of items op.item) (told j ops) next)
    ∙ append_assoc (places_of items (told j ops)) (places_of items next) (stop ∷ [])))
    (told_falls items j ops from (places_of items next ++ stop ∷ [])
    (subst (IsUpTo from) (sym here) falls.0) skip (subst (λ (place : Place). NeverFall (place ∷ (places_of items next ++ stop ∷ []))) (sym here) own))

placed_places : (items : List CodeItem) (ops : List ItemOp) → map (λ (placed : PlacedOp). placed.place) (placed_ops items ops) ≡ places_of items ops
placed_places items [] = refl
placed_places items (op ∷ ops) = ap (λ more. place_of items op.item ∷ more) (placed_places items ops)

placed_same : (items : List CodeItem) (ops : List ItemOp) → map (λ (placed : PlacedOp). placed.op) (placed_ops items ops) ≡ map (λ (op : ItemOp). op.op) ops
placed_same items [] = refl
placed_same items (op ∷ ops) = ap (λ more. op.op ∷ more) (placed_same items ops)

item_at : (items : List CodeItem) (k : ℕ) → k < length items → (item : CodeItem) × (slice_get items k ≡ Some item)
item_at [] k low = absurd (omega (arith, low))
item_at (x ∷ xs) zero low = (x, refl)
item_at (x ∷ xs) (suc k) low = item_at xs k (omega (arith, low))

-- ONE FUNCTION

-- the section of a function is there, with so many items and bytes before its beginning, its items and its end, none of which stands before the one in front of it
record StandsWhole (sections : List LooseSection) (g : Recorded CodeItem) (stop : Place) : Type 0 where
  held : LooseSection
  there : slice_get sections g.section ≡ Some held
  start : g.start.item ≤ length held.items
  items : All (λ (item : CodeItem). item.place.item ≤ length held.items) g.items
  end_items : stop.item ≤ length held.items
  end_bytes : stop.offset ≤ length held.bytes
  falls : NeverFall (g.start ∷ (map (λ item. item.place) g.items ++ stop ∷ []))

module _ (written : TablesCanBeWritten) (of_items : TablesAreOfItems) (symbols : SymbolMap) (sections : List LooseSection) where
  -- the places of instructions stand in the section
  ops_stand : (g : Recorded CodeItem) (held : LooseSection) → slice_get sections g.section ≡ Some held → All (λ (item : CodeItem). item.place.item ≤ length held.items) g.items
      → (ops : List ItemOp) → All (λ (op : ItemOp). op.item < length g.items) ops
      → All (λ (placed : PlacedOp). HoldsItems sections g.section placed.place.item) (placed_ops g.items ops)
  ops_stand g held there low ops within =
      All-map (λ (placed : PlacedOp). HoldsItems sections g.section placed.place.item) (λ (op : ItemOp). record { place = place_of g.items op.item; op = op.op }) ops
      (All-weaker (λ (op : ItemOp). op.item < length g.items) (λ (op : ItemOp). HoldsItems sections g.section (place_of g.items op.item).item)
      (λ op below.
      let found = item_at g.items op.item below in
      let enough : found.0.place.item ≤ length held.items = all_there (λ (item : CodeItem). item.place.item ≤ length held.items) g.items op.item found.0 found.1 low in
      record { held = held; there = there; enough = subst (λ (place : Place). place.item ≤ length held.items) (sym (place_there g.items op.item found.0 found.1)) enough })
      ops within)

  -- a frame with the instructions of a function's table covers places of its section
  table_covers : (g : Recorded CodeItem) (stop : Place) → StandsWhole sections g stop → (nodes : List Node) (placed : List PlacedOp) → IsTable g.items nodes placed
      → IsCovered sections (frame_with (record g { stop = Some stop }) placed)
  table_covers g stop stands nodes placed is =
      let frame = frame_with (record g { stop = Some stop }) placed in
      let low = of_items g.items nodes is.old is.new is.ops is.table in
      let a = is.table.0 in
      let rows = is.table.2.1 in
      let places : map (λ (one : PlacedOp). one.place) placed ≡ places_of g.items is.ops = ap (λ (all : List PlacedOp). map (λ (one : PlacedOp). one.place) all) is.made ∙ placed_places g.items is.ops in
      let falls = falls_from a g.items is.table.1.same_items stop 0 entry_row rows.0 g.items g.start rows.1 refl stands.falls in
      let start = stands.start in
      let there = stands.there in
      let held = stands.held in
      record {
        whole = record {
          stop = refl;
          sound = written g.items nodes is.old is.new is.ops frame is.table (ap (λ (all : List PlacedOp). map (λ (one : PlacedOp). one.op) all) is.made ∙ placed_same g.items is.ops);
        };
        order = subst (λ (all : List Place). NeverFall (g.start ∷ (all ++ stop ∷ []))) (sym places)
            (subst (λ (ops : List ItemOp). NeverFall (g.start ∷ (places_of g.items ops ++ stop ∷ []))) (sym rows.2) falls);
        stands = record {
          start = record { held = held; there = there; enough = start };
          stop = record { held = held; there = there; enough = stands.end_items };
          ops = subst (All (λ (one : PlacedOp). HoldsItems sections g.section one.place.item)) (sym is.made) (ops_stand g held there stands.items is.ops low);
        };
        stop = record { held = held; there = there; items = stands.end_items; bytes = stands.end_bytes };
      }

  -- the end of a section that is there
  end_is : (number : ℕ) (held : LooseSection) → slice_get sections number ≡ Some held → end_of sections number ≡ record { item = length held.items; offset = length held.bytes }
  unfolding spot_at
  end_is number held there = ap (λ (found : Option LooseSection). (option_map_or (spot_in number) found (no_spot number)).place.place) there

  low_items : (held : LooseSection) (items : List CodeItem) → All (IsInside held) (map (λ (item : SeenItem). item.place) (map seen items))
      → All (λ (item : CodeItem). item.place.item ≤ length held.items) items
  low_items held [] all = All-nil _
  low_items held (item ∷ items) all =
      let inside = All-head (IsInside held) item.place (map (λ (one : SeenItem). one.place) (map seen items)) all in
      All-cons (λ (one : CodeItem). one.place.item ≤ length held.items) item items inside.enough
      (low_items held items (All-tail (IsInside held) item.place (map (λ (one : SeenItem). one.place) (map seen items)) all))

  -- a function that ends here, behind all its places, stands whole
  stands_whole : (g : Recorded CodeItem) (stop : Place) (stands : StandsInOrder sections (mapped seen g)) → All (λ place. IsUpTo place stop) (g.start ∷ item_places (mapped seen g))
      → stop.item ≤ length stands.held.items → stop.offset ≤ length stands.held.bytes → StandsWhole sections g stop
  stands_whole g stop stands behind items bytes =
      let places = item_places (mapped seen g) in
      let falls = ends_behind g.start places stop (rising_falls stands.held g.start places stands.start stands.items stands.rising) behind in
      record {
        held = stands.held;
        there = stands.there;
        start = stands.start.enough;
        items = low_items stands.held g.items stands.items;
        end_items = items;
        end_bytes = bytes;
        falls = subst (λ (all : List Place). NeverFall (g.start ∷ (all ++ stop ∷ []))) (seen_places g.items) falls;
      }

  -- the place where a function ends that has ended so, or is open
  abbrev stop_by : ℕ → Option Place → Place
  stop_by section None = end_of sections section
  stop_by section (Some stop) = stop

  closed_is : (g : Recorded CodeItem) (stop : Option Place) → g.stop ≡ stop → closed_by (end_of sections) g ≡ record g { stop = Some (stop_by g.section stop) }
  closed_is g None is = ap (λ (one : Option Place). cond (is_none one) (record g { stop = Some (end_of sections g.section) }) g) is
  closed_is g (Some stop) is =
      ap (λ (one : Option Place). cond (is_none one) (record g { stop = Some (end_of sections g.section) }) g) is ∙ ap (λ (one : Option Place). record g { stop = one }) is

  whole_by : (g : Recorded CodeItem) (stands : StandsInOrder sections (mapped seen g)) (stop : Option Place) → g.stop ≡ stop → StandsWhole sections g (stop_by g.section stop)
  whole_by g stands None is =
      let held = stands.held in
      let end : end_of sections g.section ≡ record { item = length held.items; offset = length held.bytes } = end_is g.section held stands.there in
      let behind : (place : Place) → IsInside held place → IsUpTo place (end_of sections g.section) =
      λ place inside. subst (IsUpTo place) (sym end) (inside.enough, inside.within) in
      stands_whole g (end_of sections g.section) stands
      (All-weaker (IsInside held) (λ place. IsUpTo place (end_of sections g.section)) behind (g.start ∷ item_places (mapped seen g))
      (All-cons (IsInside held) g.start (item_places (mapped seen g)) stands.start stands.items))
      (subst (λ (place : Place). place.item ≤ length held.items) (sym end) (omega arith)) (subst (λ (place : Place). place.offset ≤ length held.bytes) (sym end) (omega arith))
  whole_by g stands (Some stop) is =
      let held = stands.held in
      let ends : EndsBehind held (g.start ∷ item_places (mapped seen g)) stop = subst (λ (one : Option Place). IfSome one (EndsBehind held (g.start ∷ item_places (mapped seen g)))) is stands.stop in
      let all = All-cons (IsInside held) g.start (item_places (mapped seen g)) stands.start stands.items in
      stands_whole g stop stands (λ k d low. up_to_inside held _ stop (all k d low) ends.inside (ends.behind k d low)) ends.inside.enough ends.inside.within

  one_covers : (g : Recorded CodeItem) (frame : Frame) → StandsInOrder sections (mapped seen g) → IsFrameOf symbols sections (closed_by (end_of sections) g) frame → IsCovered sections frame
  one_covers g frame stands is =
      let stop = stop_by g.section g.stop in
      let of : IsFrameOf symbols sections (record g { stop = Some stop }) frame = subst (λ (f : Recorded CodeItem). IsFrameOf symbols sections f frame) (closed_is g g.stop refl) is in
      subst (IsCovered sections) (sym of.made) (table_covers g stop (whole_by g stands g.stop refl) (nodes_in symbols sections g) frame.ops of.table)

  all_cover : (functions : List (Recorded CodeItem)) (frames : List Frame) → All (StandsInOrder sections) (all_seen functions)
      → AllZip (IsFrameOf symbols sections) (all_closed (end_of sections) functions) frames → All (IsCovered sections) frames
  all_cover [] [] stand are = All-nil (IsCovered sections)
  all_cover [] (frame ∷ frames) stand are = absurd are
  all_cover (g ∷ functions) [] stand are = absurd are
  all_cover (g ∷ functions) (frame ∷ frames) stand are =
      All-cons (IsCovered sections) frame frames
      (one_covers g frame (All-head (StandsInOrder sections) (mapped seen g) (all_seen functions) stand) are.0)
      (all_cover functions frames (All-tail (StandsInOrder sections) (mapped seen g) (all_seen functions) stand) are.1)

-- the frames of all functions of a source do
pub functions_covered : TablesCanBeWritten → TablesAreOfItems → (f : FollowedSource) (frames : List Frame) → IsSynthesis f (Ok frames) → All (StandsInOrder f.placed.sections) f.functions
    → All (IsCovered f.placed.sections) frames
functions_covered written of_items f frames is stand =
    all_cover written of_items f.placed.table.symbols f.placed.sections is.functions frames (subst (All (StandsInOrder f.placed.sections)) (sym is.seen) stand) is.comes
