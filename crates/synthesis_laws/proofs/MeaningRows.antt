-- Procedures with synthesized frame tables mean the rows of their items.
use Rattle.std.proofs.Common.{◌≡◌, ◌<◌, ◌≤◌, ◌∷◌, ◌++◌, ℕ, zero, suc, nat_lt, nat_le, Bool, true, false, cond, List, [], map, length, Option, Some, None, IsSomeAnd, slice_get, refl, sym, ap, subst, ◌∙◌, arith}
use Rattle.std.specs.Option.{option_map, option_and_then, option_map_or}
use Rattle.std.proofs.lemmas.Bool.Decides.{nat_tests}
use Rattle.asm_base.specs.declared.places.Place.{Place}
use Rattle.asm_base.specs.declared.places.SectionPlace.{SectionPlace}
use Rattle.cfi_rows.specs.declared.rows.CfaRow.{CfaRow}
use Rattle.cfi_rows.specs.declared.rows.CfiOp.{CfiOp}
use Rattle.cfi_rows.specs.Rows.{Rows, start_rows, common_row, ops_after}
use Rattle.cfi_entries.specs.Places.{up_to, row_after}
use Rattle.cfi_directives.specs.declared.frames.Frame.{Frame}
use Rattle.cfi_directives.specs.Meant.{stop_of, from_start, ops_up_to, row_meant, KeepsOrder}
use Rattle.cfi_directives.specs.Order.{IsUpTo, NeverFall}
use Rattle.code_functions.specs.declared.items.CodeItem.{CodeItem}
use Rattle.code_functions.specs.Recorded.{Recorded}
use Rattle.scfi_pass.specs.declared.item_ops.ItemOp.{ItemOp}
use Rattle.scfi_pass.specs.Rows.{whole_row}
use Rattle.synthesis_laws.specs.RowsInForce.{at_items, AreRising, TablesGiveRows}
use Rattle.synthesis_laws.specs.TableFrames.{place_of, placed_in}
use Rattle.synthesis_laws.specs.MeantRows.{item_distance, TableFramesMeanRows}
use Rattle.synthesis_laws.proofs.Elements.{element}
use Rattle.synthesis_laws.proofs.WholeFrames.{itself, skipped}

-- the places of items
abbrev places_of : List CodeItem → List Place
places_of items = map (λ item. item.place) items

-- no item is before a place from which on they never fall
up_from : (first : Place) (items : List CodeItem) (stop : List Place) (j : ℕ) (item : CodeItem) → NeverFall (first ∷ (places_of items ++ stop))
    → slice_get items j ≡ Some item → IsUpTo first item.place
up_from first [] stop j item fall is = absurd (let none : ⊥ = cc in none)
up_from first (other ∷ items) stop zero item fall is = let same : other ≡ item = cc in subst (λ x. IsUpTo first x.place) same fall.0
up_from first (other ∷ items) stop (suc j) item fall is = up_from first items stop j item (skipped first other.place (places_of items ++ stop) fall) is

-- nor before an item that is before it
up_between : (first : Place) (items : List CodeItem) (stop : List Place) (i j : ℕ) (one other : CodeItem) → NeverFall (first ∷ (places_of items ++ stop)) → i ≤ j
    → slice_get items i ≡ Some one → slice_get items j ≡ Some other → IsUpTo one.place other.place
up_between first [] stop i j one other fall low is also = absurd (let none : ⊥ = cc in none)
up_between first (item ∷ items) stop zero zero one other fall low is also =
    let same : one ≡ other = cc in subst (λ x. IsUpTo one.place x.place) same (itself one.place)
up_between first (item ∷ items) stop zero (suc j) one other fall low is also =
    let same : item ≡ one = cc in subst (λ x. IsUpTo x.place other.place) same (up_from item.place items stop j other fall.1 also)
up_between first (item ∷ items) stop (suc i) zero one other fall low is also = absurd (let none : ⊥ = omega arith in none)
up_between first (item ∷ items) stop (suc i) (suc j) one other fall low is also = up_between item.place items stop i j one other fall.1 (omega arith) is also

-- what is behind a test that is met
under : {A : Type 0} (b : Bool) (x : Option A) → b ≡ true → cond b x None ≡ x
under true x is = refl
under false x is = cc

-- the row behind all of them, where one is in force
in_force : (found : Option Rows) (row : Option CfaRow) (r : CfaRow) → option_and_then (λ rows. row) found ≡ Some r → row ≡ Some r
in_force None row r is = absurd (let none : ⊥ = cc in none)
in_force (Some rows) row r is = is

module _ (address : SectionPlace → ℕ) (f : Recorded CodeItem) (frame : Frame) where
  -- the items rise where their places do
  items_rise : (stop : Option Place) → KeepsOrder address frame.section
      → IsSomeAnd stop (λ end. NeverFall (f.start ∷ (places_of f.items ++ end ∷ []))) → AreRising (item_distance address f frame) (length f.items)
  items_rise None keeps fall i j low within = absurd fall
  items_rise (Some stop) keeps fall i j low within =
      let one = element f.items i (omega arith) in
      let other = element f.items j within in
      let from : place_of f i ≡ one.0.place = ap (λ found. option_map_or (λ item. item.place) found f.start) one.1 in
      let to : place_of f j ≡ other.0.place = ap (λ found. option_map_or (λ item. item.place) found f.start) other.1 in
      let up : IsUpTo one.0.place other.0.place = up_between f.start f.items (stop ∷ []) i j one.0 other.0 fall low one.1 other.1 in
      let From : Place → Type 0 = λ place. IsUpTo place other.0.place in
      let To : Place → Type 0 = λ place. IsUpTo (place_of f i) place in
      let stands = keeps (place_of f i) (place_of f j) (subst To (sym to) (subst From (sym from) up)) in
      omega arith

  -- the instructions up to a distance
  same_up_to : (at : ℕ) (ops : List ItemOp) → map (λ placed. placed.op) (ops_up_to address frame at (map (placed_in f) ops))
      ≡ map (λ placed. placed.1) (up_to at (at_items (item_distance address f frame) ops))
  same_up_to at [] = refl
  same_up_to at (held ∷ ops) = by (nat_le (item_distance address f frame held.item) at) (same_up_to at ops)
    where
      Rest : Type 0
      Rest = map (λ placed. placed.op) (ops_up_to address frame at (map (placed_in f) ops)) ≡ map (λ placed. placed.1) (up_to at (at_items (item_distance address f frame) ops))

      by : (b : Bool) → Rest → map (λ placed. placed.op) (cond b (placed_in f held ∷ ops_up_to address frame at (map (placed_in f) ops)) [])
          ≡ map (λ placed. placed.1) (cond b ((item_distance address f frame held.item, held.op) ∷ up_to at (at_items (item_distance address f frame) ops)) [])
      by true rest = ap (λ more. held.op ∷ more) rest
      by false rest = refl

  -- the row that is meant, by the row in force
  meant_there : (at : ℕ) (ops : List ItemOp) (row : CfaRow) → frame.ops ≡ map (placed_in f) ops → at < from_start address frame (stop_of frame)
      → row_after common_row at (at_items (item_distance address f frame) ops) (start_rows common_row) ≡ Some row → row_meant address frame at ≡ Some row
  meant_there at ops row same within force =
      let placed = at_items (item_distance address f frame) ops in
      let here = λ (list : List CfiOp). option_map (λ rows. rows.row) (ops_after common_row list (start_rows common_row)) in
      under (nat_lt at (from_start address frame (stop_of frame))) _ (tested at (from_start address frame (stop_of frame)) within)
      ∙ ap (λ list. here (map (λ placed. placed.op) (ops_up_to address frame at list))) same
      ∙ ap here (same_up_to at ops)
      ∙ in_force _ (here (map (λ placed. placed.1) (up_to at placed))) row force
    where
      tested : (a b : ℕ) → a < b → nat_lt a b ≡ true
      tested a b low = grind (arith, nat_tests)

-- the procedure of a function with its frame table
pub table_frames_mean_rows : TablesGiveRows → TableFramesMeanRows
table_frames_mean_rows give address f frame nodes old new ops keeps stand table of =
    let has = give f.items nodes old new ops table in
    let rise = items_rise address f frame f.stop keeps stand in
    record {
      function = has.function;
      rows = has.rows;
      analyzes = has.analyzes;
      are = has.are;
      meant = λ at item row last there within. meant_there address f frame at ops (whole_row row) of.2 within
          (has.given (item_distance address f frame) at item row rise last there);
    }
