-- The procedure of a function with its frame table is whole and in order.
use Rattle.std.proofs.Common.{◌≡◌, ◌+◌, ◌∷◌, ◌++◌, ℕ, suc, List, [], map, length, Option, Some, None, IsSome, IsSomeAnd, slice_get, refl, sym, ap, subst, ◌∙◌, arith}
use Rattle.std.specs.Option.{option_map_or}
use Rattle.asm_base.specs.declared.places.Place.{Place}
use Rattle.cfi_rows.specs.declared.rows.CfiOp.{CfiOp}
use Rattle.cfi_rows.specs.Differences.{differences}
use Rattle.cfi_directives.specs.declared.frames.Frame.{Frame}
use Rattle.cfi_directives.specs.Order.{IsUpTo, NeverFall, op_places, IsInOrder}
use Rattle.code_functions.specs.declared.items.CodeItem.{CodeItem}
use Rattle.code_functions.specs.Recorded.{Recorded}
use Rattle.scfi_pass.specs.declared.rows.StackRow.{StackRow}
use Rattle.scfi_pass.specs.declared.item_ops.ItemOp.{ItemOp}
use Rattle.scfi_pass.specs.Rows.{whole_row}
use Rattle.scfi_pass.specs.Changing.{told}
use Rattle.scfi_pass.specs.Tables.{ops_from, entry_row}
use Rattle.synthesis_laws.specs.TableFrames.{place_of, placed_in, IsFrameOf, TableFramesAreWhole}
use Rattle.synthesis_laws.specs.WrittenTables.{TablesCanBeWritten}
use Rattle.synthesis_laws.proofs.SameRows.{rows_counted}

-- a place is not before itself
pub itself : (place : Place) → IsUpTo place place
itself place = (omega arith, omega arith)

-- places between which one is left out
pub skipped : (first second : Place) (places : List Place) → NeverFall (first ∷ second ∷ places) → NeverFall (first ∷ places)
skipped first second [] fall = tt
skipped first second (third ∷ places) fall =
    let a = fall.0 in
    let b = fall.1.0 in
    (((let x = a.0 in let y = b.0 in omega arith), (let x = a.1 in let y = b.1 in omega arith)), fall.1.1)

-- the places of items from a number on
abbrev places_from : (ℕ → Place) → ℕ → List StackRow → List Place
places_from place j [] = []
places_from place j (row ∷ rows) = place j ∷ places_from place (j + 1) rows

module _ (place : ℕ → Place) (stop : List Place) where
  -- the places of instructions
  abbrev op_places_of : List ItemOp → List Place
  op_places_of ops = map (λ held. place held.item) ops ++ stop

  -- the instructions of one item, and others
  item_falls : (j : ℕ) (last : Place) (here : List CfiOp) (ops : List ItemOp) (behind : List Place)
      → ((before : Place) → NeverFall (before ∷ behind) → NeverFall (before ∷ op_places_of ops))
      → NeverFall (last ∷ place j ∷ behind) → NeverFall (last ∷ op_places_of (told j here ++ ops))
  item_falls j last [] ops behind rest fall = rest last (skipped last (place j) behind fall)
  item_falls j last (op ∷ here) ops behind rest fall = (fall.0, item_falls j (place j) here ops behind rest (itself (place j), fall.1))

  -- the instructions of all items
  ops_fall : (j : ℕ) (last : Place) (before : StackRow) (rows : List StackRow) → NeverFall (last ∷ (places_from place j rows ++ stop))
      → NeverFall (last ∷ op_places_of (ops_from j before rows))
  ops_fall j last before [] fall = fall
  ops_fall j last before (row ∷ rows) fall =
      item_falls j last (differences (whole_row before) (whole_row row)) (ops_from (j + 1) row rows) (places_from place (j + 1) rows ++ stop)
      (λ from falls. ops_fall (j + 1) from row rows falls) fall

-- the places of items, by their numbers
item_places : (place : ℕ → Place) (k : ℕ) (items : List CodeItem) (rows : List StackRow) → length rows ≡ length items
    → ((i : ℕ) (item : CodeItem) → slice_get items i ≡ Some item → place (k + i) ≡ item.place) → map (λ item. item.place) items ≡ places_from place k rows
item_places place k [] [] same there = refl
item_places place k [] (row ∷ rows) same there = absurd (let none : ⊥ = omega arith in none)
item_places place k (item ∷ items) [] same there = absurd (let none : ⊥ = omega arith in none)
item_places place k (item ∷ items) (row ∷ rows) same there =
    let first : item.place ≡ place k = sym (subst (λ n. place n ≡ item.place) (omega arith) (there 0 item refl)) in
    ap (λ here. here ∷ map (λ other. other.place) items) first
    ∙ ap (λ rest. place k ∷ rest) (item_places place (k + 1) items rows (omega arith)
    (λ i found is. subst (λ n. place n ≡ found.place) (omega arith) (there (suc i) found is)))

-- the place of an instruction
placed_places : (f : Recorded CodeItem) (ops : List ItemOp) → map (λ placed. placed.place) (map (placed_in f) ops) ≡ map (λ held. place_of f held.item) ops
placed_places f [] = refl
placed_places f (held ∷ ops) = ap (λ rest. place_of f held.item ∷ rest) (placed_places f ops)

-- and the instruction itself
placed_ops : (f : Recorded CodeItem) (ops : List ItemOp) → map (λ placed. placed.op) (map (placed_in f) ops) ≡ map (λ held. held.op) ops
placed_ops f [] = refl
placed_ops f (held ∷ ops) = ap (λ rest. held.op ∷ rest) (placed_ops f ops)

-- the places of a function's instructions
function_falls : (f : Recorded CodeItem) (stop : Place) (rows : List StackRow) → length rows ≡ length f.items
    → NeverFall (f.start ∷ (map (λ item. item.place) f.items ++ stop ∷ []))
    → NeverFall (f.start ∷ (map (λ held. place_of f held.item) (ops_from 0 entry_row rows) ++ stop ∷ []))
function_falls f stop rows same fall =
    let there : (i : ℕ) (item : CodeItem) → slice_get f.items i ≡ Some item → place_of f (0 + i) ≡ item.place = λ i item is.
    let number : 0 + i ≡ i = omega arith in
    ap (place_of f) number ∙ ap (λ found. option_map_or (λ one. one.place) found f.start) is in
    let Fall : List Place → Type 0 = λ places. NeverFall (f.start ∷ (places ++ stop ∷ [])) in
    ops_fall (place_of f) (stop ∷ []) 0 f.start entry_row rows (subst Fall (item_places (place_of f) 0 f.items rows same there) fall)

-- a procedure with these places
frame_falls : (f : Recorded CodeItem) (frame : Frame) (ops : List ItemOp) (stop : Place) → IsFrameOf f ops frame
    → NeverFall (f.start ∷ (map (λ held. place_of f held.item) ops ++ stop ∷ [])) → NeverFall (op_places frame ++ stop ∷ [])
frame_falls f frame ops stop of fall =
    let Fall : List Place → Type 0 = λ places. NeverFall (f.start ∷ (places ++ stop ∷ [])) in
    let Start : Place → Type 0 = λ start. NeverFall (start ∷ (map (λ placed. placed.place) frame.ops ++ stop ∷ [])) in
    let places = ap (map (λ placed. placed.place)) of.2 ∙ placed_places f ops in
    subst Start (sym of.0) (subst Fall (sym places) fall)

module _ (can : TablesCanBeWritten) where
  -- the procedure of a function, whose end is known
  ended : (f : Recorded CodeItem) (frame : Frame) (ops : List ItemOp) (rows : List StackRow) (stop : Option Place) → f.stop ≡ stop → IsFrameOf f ops frame
      → ops ≡ ops_from 0 entry_row rows → length rows ≡ length f.items
      → IsSomeAnd stop (λ end. NeverFall (f.start ∷ (map (λ item. item.place) f.items ++ end ∷ [])))
      → IsSome frame.stop × IsInOrder frame
  ended f frame ops rows None is of leads same fall = absurd fall
  ended f frame ops rows (Some stop) is of leads same fall =
      let end : frame.stop ≡ Some stop = of.1 ∙ is in
      let There : Option Place → Type 0 = IsSome in
      let Ordered : Option Place → Type 0 = λ o. IsSomeAnd o (λ here. NeverFall (op_places frame ++ here ∷ [])) in
      let Falls : List ItemOp → Type 0 = λ all. NeverFall (f.start ∷ (map (λ held. place_of f held.item) all ++ stop ∷ [])) in
      let falls = frame_falls f frame ops stop of (subst Falls (sym leads) (function_falls f stop rows same fall)) in
      (subst There (sym end) refl, subst Ordered (sym end) falls)

  -- the procedure of a function with its frame table
  pub table_frames_are_whole : TableFramesAreWhole
  table_frames_are_whole f nodes old new ops frame stand table of =
      let rows = table.2.1 in
      let all = rows_counted table.0 table.1.analyzed 0 entry_row rows.0 rows.1 in
      let count : length rows.0 ≡ length f.items = let same = ap length table.1.same_items in omega arith in
      let both = ended f frame ops rows.0 f.stop refl of rows.2 count stand in
      let sound = can f.items nodes old new ops frame table (ap (map (λ placed. placed.op)) of.2 ∙ placed_ops f ops) in
      (record { stop = both.0; sound = sound }, both.1)
