-- The rows of items: one list for all sections, with an end mark behind the items of each.
use Rattle.std.specs.Prelude.{ℕ, ◌+◌, ◌-◌, ◌*◌, ◌&&◌, List, [], ◌∷◌, ◌++◌, length, map, sum, Option, None, Some, slice_get, if◌then◌else◌}
use Rattle.std.specs.Option.{option_and_then}
use Rattle.asm_symbols.specs.SymbolMap.{SymbolMap}
use Rattle.item_bytes.specs.Jumps.{is_conditional}
use Rattle.item_contents.specs.declared.kinds.Growth.{Growth}
use Rattle.item_contents.specs.declared.kinds.Growth.TheVariants as growth
use Rattle.item_contents.specs.declared.contents.Content.{Content}
use Rattle.item_contents.specs.declared.contents.Content.TheVariants.{Run, Fill, Align, Org, Growing}
use Rattle.asm_frags.specs.declared.fields.Field.{Field}
use Rattle.asm_frags.specs.declared.items.Frag.{Frag}
use Rattle.asm_frags.specs.Fields.{is_distance, own_place}
use Rattle.asm_frags.specs.SectionOf.{SectionOf}
use Rattle.asm_levels.specs.declared.distances.Distance.{Distance}
use Rattle.asm_levels.specs.declared.rows.RowSize.{RowSize}
use Rattle.asm_levels.specs.declared.rows.RowSize.TheVariants as size
use Rattle.asm_levels.specs.declared.rows.Row.{Row}
use Rattle.item_bytes.specs.Levels.{near_size}
use Rattle.asm_levels.specs.Needs.{need, tops}
use Rattle.level_ranks.specs.Rounds.{after}
use Rattle.row_distances.specs.declared.places.OwnPlace.{OwnPlace}
use Rattle.row_distances.specs.FormDistances.{distance_of}
use Rattle.item_rows.specs.Links.{is_linked}

-- what distances are told by: the symbols, the first row of each section, and how many rows there are
pub record RowsIn : Type 0 where
  pub map : SymbolMap
  pub starts : List ℕ
  pub count : ℕ

-- how many rows a section has: one for each item, and its end mark
abbrev pub row_count : {Item : Type 0} → SectionOf Item → ℕ
row_count section = length section.items + 1

-- the first row of each section, where those of these sections begin with this row
abbrev pub starts_from : {Item : Type 0} → ℕ → List (SectionOf Item) → List ℕ
starts_from first [] = []
starts_from first (section ∷ sections) = first ∷ starts_from (first + row_count section) sections

-- how many rows the sections have
abbrev pub all_rows : {Item : Type 0} → List (SectionOf Item) → ℕ
all_rows [] = 0
all_rows (section ∷ sections) = row_count section + all_rows sections

-- what distances in these sections are told by
abbrev pub rows_in : {Item : Type 0} → SymbolMap → List (SectionOf Item) → RowsIn
rows_in map sections = record { map = map; starts = starts_from 0 sections; count = all_rows sections }

-- the place of a field, which one of the symbols stands for
abbrev pub own_of : Field → OwnPlace
own_of field = record { symbol = own_place; place = record { section = field.section; place = record { item = field.item; offset = field.offset } } }

-- the distance to which the value of a field in an item comes, if it does: a jump counts from its end, and the linker alone knows how far, where a
-- weak symbol is left in the form or it has a suffix
abbrev pub field_distance : RowsIn → Field → Option Distance
field_distance rows field = if is_distance field.role.kind && is_linked rows.map field then None else distance_of rows.map (own_of field) rows.starts rows.count field.form

-- what the size of an item depends on that grows with this distance; where there is none, a jump is near, a number has one byte, and an advance none
abbrev pub grown_row : Growth → Option Distance → RowSize
grown_row (growth.Jump condition) None = size.Fixed (near_size (is_conditional condition))
grown_row (growth.Jump condition) (Some distance) = size.Jump (is_conditional condition) distance
grown_row (growth.Leb128 signed) None = size.Fixed 1
grown_row (growth.Leb128 signed) (Some distance) = size.Leb128 signed distance
grown_row growth.Advance None = size.Fixed 0
grown_row growth.Advance (Some distance) = size.Advance distance

module _ (rows : RowsIn) (fields : List Field) where
  -- what the size of an item depends on, the row of which has this number, and which has this index in its section; a run has no bytes beside the
  -- plain bytes of its section, and an `.org` counts from a row before its own, or from its own
  abbrev pub row_size : ℕ → ℕ → Content → RowSize
  row_size number index Run = size.Fixed 0
  row_size number index (Fill held) = size.Fixed (held.count * held.size)
  row_size number index (Align held) = size.Align held.log held.most
  row_size number index (Org held) = size.Org (number - (index - held.from)) held.ahead held.behind
  row_size number index (Growing held) = grown_row held.kind (option_and_then (field_distance rows) (slice_get fields held.field))

  -- the row of an item
  abbrev pub row_of : {P Address : Type 0} → ℕ → ℕ → Frag P Address → Row
  row_of number index item = record { offset = item.offset; size = row_size number index item.content }

  -- the rows of these items, the first of which have this number and this index
  abbrev pub item_rows : {P Address : Type 0} → ℕ → ℕ → List (Frag P Address) → List Row
  item_rows number index [] = []
  item_rows number index (item ∷ items) = row_of number index item ∷ item_rows (number + 1) (index + 1) items

-- the end mark of a section, behind all its plain bytes
abbrev pub end_of : {Item : Type 0} → SectionOf Item → Row
end_of section = record { offset = length section.bytes; size = size.End }

-- the rows of a section, the first of which has this number
abbrev pub section_rows : {P Address : Type 0} → RowsIn → ℕ → SectionOf (Frag P Address) → List Row
section_rows rows first section = item_rows rows section.fields first 0 section.items ++ end_of section ∷ []

-- the rows of these sections, the first of which has this number
abbrev pub rows_from : {P Address : Type 0} → RowsIn → ℕ → List (SectionOf (Frag P Address)) → List Row
rows_from rows first [] = []
rows_from rows first (section ∷ sections) = section_rows rows first section ++ rows_from rows (first + row_count section) sections

-- the rows of all sections
unfoldable pub rows_of : {P Address : Type 0} → SymbolMap → List (SectionOf (Frag P Address)) → List Row
rows_of map sections = rows_from (rows_in map sections) 0 sections

-- each row at its lowest level
abbrev pub lowest_levels : List Row → List ℕ
lowest_levels rows = map (λ row. 0) rows

-- the level of each row in the layout, computed plainly: that after as many rounds from the lowest as there are levels above the lowest
unfoldable pub levels_of : List Row → List ℕ
levels_of rows = after (need rows) (lowest_levels rows) (sum (tops rows))
