-- The items of a layout have room for their values.
use Rattle.std.proofs.Common.{◌≡◌, ℕ, zero, suc, ◌+◌, ◌<◌, ◌≤◌, List, [], ◌∷◌, ◌++◌, Option, Some, None, length, drop, option_map, refl, sym, ap, ◌∙◌, subst, arith, drop-drop}
use Rattle.std.specs.Prelude.{IfSome, slice_get, slice_index}
use Rattle.std.specs.Option.{option_and_then}
use Rattle.std.proofs.lemmas.Option.{none-some, same_Some}
use Rattle.std.proofs.lemmas.List.{length-map}
use Rattle.item_bytes.specs.declared.jumps.Condition.{Condition}
use Rattle.asm_symbols.specs.SymbolMap.{SymbolMap}
use Rattle.asm_frags.specs.declared.fields.Field.{Field}
use Rattle.asm_frags.specs.SectionOf.{SectionOf}
use Rattle.item_contents.specs.declared.contents.Content.TheVariants.{Growing}
use Rattle.item_contents.specs.declared.kinds.Growth.{Growth}
use Rattle.item_contents.specs.declared.kinds.Growth.TheVariants as growth
use Rattle.item_contents.specs.Contents.{top_of, level_size}
use Rattle.level_ranks.specs.Ranks.{IsLayout}
use Rattle.level_ranks.specs.Rounds.{NeedsWithin}
use Rattle.asm_levels.specs.declared.distances.Distance.{Distance}
use Rattle.asm_levels.specs.declared.rows.Row.{Row}
use Rattle.asm_levels.specs.declared.rows.RowSize.{RowSize}
use Rattle.asm_levels.specs.Distances.{distance_value}
use Rattle.asm_levels.specs.Needs.{need, top, tops}
use Rattle.asm_levels.specs.Shifts.{moved_past, shift_behind, shifts_of}
use Rattle.asm_levels.specs.Sizes.{size_at}
use Rattle.item_rows.specs.ItemRows.{RowsIn, row_count, rows_in, field_distance, grown_row, row_size, row_of, item_rows, end_of, section_rows, rows_from, rows_of, levels_of}
use Rattle.asm_relax.specs.FieldValues.{held_value}
use Rattle.asm_relax.specs.ItemValues.{HasRoom, HoldTheirDistances, HaveRoom}
use Rattle.asm_relax.specs.Layout.{laid_from, laid_out_section, laid_out, laid_by, AreWithin}
use Rattle.asm_relax.specs.Settling.{LaidItem, LaidSections, settled_sections}
use Rattle.asm_relax.specs.SettledRoom.{SettledHaveRoom}
use Rattle.asm_relax.proofs.LayingLemmas.{next_shift, laid_there, shift_behind as shift_after, first_row, section_long, row_inside, rows_are_all}
use Rattle.asm_relax.proofs.LayoutNeeds.{layout_enough}
use Rattle.asm_relax.proofs.RangeLemmas.{near_room}
use Rattle.asm_relax.proofs.ShiftTail.{tail_from, shifts_are, ranked_within}

-- THE ROW OF AN ITEM

-- among these rows, at this place, stands one of this size
record RowThere (rows : List Row) (index : ℕ) (size : RowSize) : Type 0 where
  row : Row
  there : slice_get rows index ≡ Some row
  size_is : row.size ≡ size

in_front : (rows more : List Row) (index : ℕ) (row : Row) → slice_get rows index ≡ Some row → slice_get (rows ++ more) index ≡ Some row
in_front [] more index row there = absurd (none-some row there)
in_front (one ∷ rows) more zero row there = there
in_front (one ∷ rows) more (suc index) row there = in_front rows more index row there

behind : (rows more : List Row) (index : ℕ) → slice_get (rows ++ more) (length rows + index) ≡ slice_get more index
behind [] more index = ap (slice_get more) (omega arith)
behind (one ∷ rows) more index =
    let next : length (one ∷ rows) + index ≡ suc (length rows + index) = omega arith in
    ap (slice_get (one ∷ (rows ++ more))) next ∙ behind rows more index

module _ (rows : RowsIn) (kind : Growth) (at : ℕ) where
  -- what the row's size is of what grows, among these fields
  abbrev grown_among : List Field → RowSize
  grown_among fields = grown_row kind (option_and_then (field_distance rows) (slice_get fields at))

  item_there : (fields : List Field) (number first : ℕ) (items : List LaidItem) (index : ℕ) (item : LaidItem) → slice_get items index ≡ Some item
      → item.content ≡ Growing (record { kind = kind; field = at }) → RowThere (item_rows rows fields number first items) index (grown_among fields)
  item_there fields number first [] index item there grows = absurd (none-some item there)
  item_there fields number first (one ∷ items) zero item there grows =
      let same : one ≡ item = same_Some one item there in
      record {
        row = row_of rows fields number first one;
        there = refl;
        size_is = ap (λ (i : LaidItem). row_size rows fields number first i.content) same ∙ ap (row_size rows fields number first) grows;
      }
  item_there fields number first (one ∷ items) (suc index) item there grows =
      let later = item_there fields (number + 1) (first + 1) items index item there grows in
      record { row = later.row; there = later.there; size_is = later.size_is }

  section_there : (first : ℕ) (sections : List (SectionOf LaidItem)) (number : ℕ) (section : SectionOf LaidItem) (index : ℕ) (item : LaidItem)
      → slice_get sections number ≡ Some section → slice_get section.items index ≡ Some item → item.content ≡ Growing (record { kind = kind; field = at })
      → RowThere (rows_from rows first sections) (first_row number sections + index) (grown_among section.fields)
  section_there first [] number section index item found there grows = absurd (none-some section found)
  section_there first (one ∷ sections) zero section index item found there grows =
      let same : one ≡ section = same_Some one section found in
      let own = item_there one.fields first 0 one.items index item (ap (λ (s : SectionOf LaidItem). slice_get s.items index) same ∙ there) grows in
      let mark = end_of one ∷ [] in
      let start : 0 + index ≡ index = omega arith in
      record {
        row = own.row;
        there = ap (slice_get (section_rows rows first one ++ rows_from rows (first + row_count one) sections)) start
            ∙ in_front (section_rows rows first one) (rows_from rows (first + row_count one) sections) index own.row
            (in_front (item_rows rows one.fields first 0 one.items) mark index own.row own.there);
        size_is = own.size_is ∙ ap (λ (s : SectionOf LaidItem). grown_among s.fields) same;
      }
  section_there first (one ∷ sections) (suc number) section index item found there grows =
      let later = section_there (first + row_count one) sections number section index item found there grows in
      let long = section_long rows first one in
      let place : row_count one + first_row number sections + index ≡ length (section_rows rows first one) + (first_row number sections + index) = omega (arith, long) in
      record {
        row = later.row;
        there = ap (slice_get (section_rows rows first one ++ rows_from rows (first + row_count one) sections)) place
            ∙ (behind (section_rows rows first one) (rows_from rows (first + row_count one) sections) (first_row number sections + index) ∙ later.there);
        size_is = later.size_is;
      }

of_rows : (map : SymbolMap) (sections : LaidSections) (kind : Growth) (at number : ℕ) (section : SectionOf LaidItem) (index : ℕ) (item : LaidItem)
    → slice_get sections number ≡ Some section → slice_get section.items index ≡ Some item → item.content ≡ Growing (record { kind = kind; field = at })
    → RowThere (rows_of map sections) (first_row number sections + index) (grown_among (rows_in map sections) kind at section.fields)
unfolding rows_of
of_rows map sections kind at number section index item found there grows =
    section_there (rows_in map sections) kind at 0 sections number section index item found there grows

inside_of : (items : List LaidItem) (index : ℕ) (item : LaidItem) → slice_get items index ≡ Some item → index < length items
inside_of [] index item there = absurd (none-some item there)
inside_of (one ∷ items) zero item there = omega arith
inside_of (one ∷ items) (suc index) item there = let later = inside_of items index item there in omega (arith, later)

-- THE ITEM

section_back : (shifts : List ℕ) (sections : List (SectionOf LaidItem)) (number : ℕ) (section : SectionOf LaidItem) → slice_get (laid_out shifts sections) number ≡ Some section
    → (found : SectionOf LaidItem) × (slice_get sections number ≡ Some found) × (section ≡ laid_out_section (drop (first_row number sections) shifts) found)
section_back shifts [] number section there = absurd (none-some section there)
section_back shifts (one ∷ sections) zero section there = (one, refl, sym (same_Some _ section there))
section_back shifts (one ∷ sections) (suc number) section there =
    let later = section_back (drop (row_count one) shifts) sections number section there in
    (later.0, later.1, later.2 ∙ ap (λ (own : List ℕ). laid_out_section own later.0) (drop-drop (first_row number sections) (row_count one) shifts))

item_back : (shifts : List ℕ) (items : List LaidItem) (index : ℕ) (item : LaidItem) → slice_get (laid_from shifts items) index ≡ Some item
    → (found : LaidItem) × (slice_get items index ≡ Some found) × (item ≡ laid_there shifts index found)
item_back shifts [] index item there = absurd (none-some item there)
item_back shifts (one ∷ items) zero item there = (one, refl, sym (same_Some _ item there))
item_back shifts (one ∷ items) (suc index) item there =
    let later = item_back (drop 1 shifts) items index item there in
    (later.0, later.1, rw (← next_shift shifts index, ← next_shift shifts (suc index)) later.2)

-- ITS SIZE

grown_past : (kind : Growth) (found : Option Distance) (shift bytes : ℕ) → moved_past (grown_row kind found) shift bytes ≡ shift + bytes
grown_past (growth.Jump condition) None shift bytes = refl
grown_past (growth.Jump condition) (Some distance) shift bytes = refl
grown_past (growth.Leb128 signed) None shift bytes = refl
grown_past (growth.Leb128 signed) (Some distance) shift bytes = refl
grown_past growth.Advance None shift bytes = refl
grown_past growth.Advance (Some distance) shift bytes = refl

-- the level of what grows, whose row has this one: where there is no distance, a jump is near, and the others have their lowest level
abbrev level_of : Growth → Option Distance → ℕ → ℕ
level_of (growth.Jump condition) None level = 1
level_of (growth.Leb128 signed) None level = 0
level_of growth.Advance None level = 0
level_of kind (Some distance) level = level

grown_size : (shifts : List ℕ) (kind : Growth) (found : Option Distance) (level address : ℕ) → size_at shifts (grown_row kind found) level address ≡ level_size kind (level_of kind found level)
unfolding size_at
grown_size shifts (growth.Jump condition) None level address = refl
grown_size shifts (growth.Jump condition) (Some distance) level address = refl
grown_size shifts (growth.Leb128 signed) None level address = refl
grown_size shifts (growth.Leb128 signed) (Some distance) level address = refl
grown_size shifts growth.Advance None level address = refl
grown_size shifts growth.Advance (Some distance) level address = refl

-- no row has a level above its highest, and so it is of this one
within_there : (levels : List ℕ) (rows : List Row) (index : ℕ) (row : Row) → AreWithin levels rows → slice_get rows index ≡ Some row → slice_index levels index ≤ top row.size
within_there levels [] index row within there = absurd (none-some row there)
within_there levels (one ∷ rows) zero row within there =
    subst (λ (r : Row). slice_index levels 0 ≤ top r.size) (same_Some one row there) within.0
within_there levels (one ∷ rows) (suc index) row within there =
    let later = within_there (drop 1 levels) rows index row within.1 there in
    let same = next_shift levels index in
    omega (arith, later, same)

-- so what grows has none either
level_within : (kind : Growth) (found : Option Distance) (level : ℕ) → level ≤ top (grown_row kind found) → level_of kind found level ≤ top_of kind
unfolding top
level_within (growth.Jump condition) None level within = omega arith
level_within (growth.Jump condition) (Some distance) level within = within
level_within (growth.Leb128 signed) None level within = omega arith
level_within (growth.Leb128 signed) (Some distance) level within = within
level_within growth.Advance None level within = omega arith
level_within growth.Advance (Some distance) level within = within

-- the row behind one that grows is moved by its size more
stepped : (kind : Growth) (found : Option Distance) (done : List ℕ) (shift : ℕ) (rows : List Row) (levels : List ℕ) (index : ℕ) (row : Row)
    → slice_get rows index ≡ Some row → row.size ≡ grown_row kind found → suc index < length rows
    → slice_index (tail_from done shift rows levels) (suc index)
    ≡ slice_index (tail_from done shift rows levels) index + level_size kind (level_of kind found (slice_index levels index))
unfolding shift_behind
stepped kind found done shift [] levels index row there grows inside = absurd (none-some row there)
stepped kind found done shift (one ∷ []) levels zero row there grows inside = absurd (omega arith)
stepped kind found done shift (one ∷ next ∷ rows) levels zero row there grows inside =
    let same : one.size ≡ grown_row kind found = ap (λ (r : Row). r.size) (same_Some one row there) ∙ grows in
    let before = done ++ shift ∷ [] in
    let level = slice_index levels 0 in
    ap (λ size. moved_past size shift (size_at before size level (one.offset + shift))) same
    ∙ (grown_past kind found shift (size_at before (grown_row kind found) level (one.offset + shift))
    ∙ ap (λ bytes. shift + bytes) (grown_size before kind found level (one.offset + shift)))
stepped kind found done shift (one ∷ rows) levels (suc index) row there grows inside =
    let before = done ++ shift ∷ [] in
    let later = stepped kind found before (shift_behind before one (slice_index levels 0) shift) rows (drop 1 levels) index row there grows (omega (arith, inside)) in
    let tail = tail_from before (shift_behind before one (slice_index levels 0) shift) rows (drop 1 levels) in
    later ∙ ap (λ level. slice_index tail index + level_size kind (level_of kind found level)) (next_shift levels index)

-- ITS ROOM

-- an item without a distance holds no value, and one with a distance has room for its value
room_by : (map : SymbolMap) (sections laid : LaidSections) (kind : Growth) (shifts : List ℕ) (level : ℕ) (field : Field) (found : Option Distance)
    → field_distance (rows_in map sections) field ≡ found → held_value map laid field ≡ option_map (distance_value shifts) (field_distance (rows_in map sections) field)
    → IfSome (held_value map laid field) (HasRoom kind level) → IfSome (held_value map laid field) (HasRoom kind (level_of kind found level))
room_by map sections laid kind shifts level field None is held room =
    let none : held_value map laid field ≡ None = held ∙ ap (option_map (distance_value shifts)) is in
    subst (λ (value : Option ℕ). IfSome value (HasRoom kind (level_of kind None level))) (sym none) tt
room_by map sections laid kind shifts level field (Some distance) is held room = some kind room
  where
    some : (kind : Growth) → IfSome (held_value map laid field) (HasRoom kind level) → IfSome (held_value map laid field) (HasRoom kind (level_of kind (Some distance) level))
    some (growth.Jump condition) room = room
    some (growth.Leb128 signed) room = room
    some growth.Advance room = room

-- a jump whose field has no value is near: its row has no distance
near_by : (kind : Growth) (shifts : List ℕ) (level : ℕ) (found : Option Distance) (value : Option ℕ) → value ≡ option_map (distance_value shifts) found → value ≡ None
    → (condition : Option Condition) → kind ≡ growth.Jump condition → level_of kind found level ≡ 1
near_by kind shifts level None value held none condition jump = ap (λ (k : Growth). level_of k None level) jump
near_by kind shifts level (Some distance) value held none condition jump = absurd (none-some (distance_value shifts distance) (sym none ∙ held))

pub settled_room : HoldTheirDistances → HaveRoom → ((rows : List Row) → NeedsWithin (need rows) (tops rows))
    → ((rows : List Row) → (rounds : ℕ) × IsLayout (need rows) (tops rows) (levels_of rows) rounds) → SettledHaveRoom
unfolding settled_sections laid_by
settled_room hold room within ranked map sections number index at section item kind field low stands found there grows has =
    let rows = rows_of map sections in
    let levels = levels_of rows in
    let shifts = shifts_of rows levels in
    let layout = ranked rows in
    let few = ranked_within rows levels layout.0 layout.1 in
    let laid = laid_out shifts sections in
    let one = section_back shifts sections number section found in
    let own = drop (first_row number sections) shifts in
    let other = item_back own one.0.items index item (ap (λ (s : SectionOf LaidItem). slice_get s.items index) (sym one.2) ∙ there) in
    let content : other.0.content ≡ Growing (record { kind = kind; field = at }) = ap (λ (i : LaidItem). i.content) (sym other.2) ∙ grows in
    let fields : slice_get one.0.fields at ≡ Some field = ap (λ (s : SectionOf LaidItem). slice_get s.fields at) (sym one.2) ∙ has in
    let distance = field_distance (rows_in map sections) field in
    let place = first_row number sections + index in
    let row = of_rows map sections kind at number one.0 index other.0 one.1 other.1 content in
    let size : row.row.size ≡ grown_row kind distance = row.size_is ∙ ap (λ f. grown_row kind (option_and_then (field_distance (rows_in map sections)) f)) fields in
    let inside : suc place < length rows =
    (let all = rows_are_all map sections in let mine = row_inside number sections one.0 one.1 in let item_inside = inside_of one.0.items index other.0 other.1 in omega (arith, all, mine, item_inside)) in
    let step = stepped kind distance [] 0 rows levels place row.row row.there size inside in
    let moved : slice_index shifts (suc place) ≡ slice_index shifts place + level_size kind (level_of kind distance (slice_index levels place)) =
    rw (shifts_are rows levels) step in
    let this = shift_after shifts (first_row number sections) index in
    let next = shift_after shifts (first_row number sections) (suc index) in
    let after : first_row number sections + suc index ≡ suc place = omega arith in
    let next_is : slice_index own (suc index) ≡ slice_index shifts (suc place) = sym next ∙ ap (slice_index shifts) after in
    let sized : item.size ≡ level_size kind (level_of kind distance (slice_index levels place)) =
    ap (λ (i : LaidItem). i.size) other.2 ∙ omega (arith, this, next_is, moved) in
    let enough = layout_enough (need rows) (tops rows) levels layout.0 (within rows) layout.1 place
    (let long = length-map rows (λ (r : Row). top r.size) in omega (arith, inside, long)) in
    record {
      level = level_of kind distance (slice_index levels place);
      within = level_within kind distance (slice_index levels place)
          (subst (λ (size : RowSize). slice_index levels place ≤ top size) size (within_there levels rows place row.row few row.there));
      sized = sized;
      room = room_by map sections laid kind shifts (slice_index levels place) field distance refl (hold map levels sections field few low stands)
          (room map levels sections field kind place row.row few low stands row.there size enough);
      near = near_room map laid number at section field found has;
      linked = near_by kind shifts (slice_index levels place) distance (held_value map laid field) (hold map levels sections field few low stands);
    }
