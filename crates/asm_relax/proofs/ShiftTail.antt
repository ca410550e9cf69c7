-- How far the rows of sections are moved, from one row on.
use Rattle.std.proofs.Common.{◌≡◌, ℕ, suc, ◌+◌, ◌-◌, ◌≤◌, List, [], ◌∷◌, ◌++◌, length, map, drop, refl, sym, ap, ◌∙◌, subst, arith, append_assoc}
use Rattle.std.specs.Prelude.{Option, None, Some, is_some, count_by, slice_get, slice_index, All}
use Rattle.std.specs.Option.{option_and_then}
use Rattle.std.proofs.lemmas.List.{append-nil}
use Rattle.std.proofs.lemmas.List.Sums.{count_by-le-length}
use Rattle.std.proofs.lemmas.List.Elements.{All-cons}
use Rattle.item_contents.specs.declared.contents.Content.{Content}
use Rattle.item_contents.specs.declared.contents.Content.TheVariants as content
use Rattle.item_contents.specs.declared.kinds.Growth.{Growth}
use Rattle.item_contents.specs.declared.kinds.Growth.TheVariants as growth
use Rattle.asm_symbols.specs.SymbolMap.{SymbolMap}
use Rattle.asm_frags.specs.declared.fields.Field.{Field}
use Rattle.asm_frags.specs.declared.items.Frag.{Frag}
use Rattle.item_contents.specs.Contents.{MayGrowTo, MayHave}
use Rattle.asm_frags.specs.SectionOf.{SectionOf}
use Rattle.asm_frags.specs.Addresses.{item_laid_at}
use Rattle.level_ranks.specs.Ranks.{Ranks, levels_taken, IsLayout}
use Rattle.asm_levels.specs.declared.distances.Distance.{Distance}
use Rattle.asm_levels.specs.declared.rows.RowSize.{RowSize}
use Rattle.asm_levels.specs.declared.rows.RowSize.TheVariants.{Fixed, Align, Org, Jump, Leb128, Advance, End}
use Rattle.asm_levels.specs.declared.rows.Row.{Row}
use Rattle.asm_levels.specs.Sizes.{size_at}
use Rattle.asm_levels.specs.Needs.{need, top, tops}
use Rattle.asm_levels.specs.Shifts.{moved_past, shift_behind, shifts_from, shifts_of}
use Rattle.item_rows.specs.ItemRows.{RowsIn, rows_in, row_count, field_distance, grown_row, row_size, row_of, item_rows, end_of, section_rows, rows_from, rows_of}
use Rattle.asm_relax.specs.Layout.{laid_from, laid_out_section, laid_out, laid_by, AreSized, AreWithin, HasSizeAt, HaveSizes, IsInRow}
use Rattle.asm_relax.specs.Placing.{placed_from, placed_section}
use Rattle.asm_relax.specs.RisingRows.{Rise, AllRise}
use Rattle.asm_relax.proofs.LawLemmas.{placed_in_row}

-- how far these rows are moved, the first of them so far, behind those that are done
abbrev pub tail_from : List ℕ → ℕ → List Row → List ℕ → List ℕ
tail_from done shift [] levels = []
tail_from done shift (row ∷ rows) levels =
    shift ∷ tail_from (done ++ shift ∷ []) (shift_behind (done ++ shift ∷ []) row (slice_index levels 0) shift) rows (drop 1 levels)

shifts_split : (done : List ℕ) (shift : ℕ) (rows : List Row) (levels : List ℕ) → shifts_from done shift rows levels ≡ done ++ tail_from done shift rows levels
unfolding shifts_from
shifts_split done shift [] levels = sym (append-nil done)
shifts_split done shift (row ∷ rows) levels =
    let next = shift_behind (done ++ shift ∷ []) row (slice_index levels 0) shift in
    shifts_split (done ++ shift ∷ []) next rows (drop 1 levels) ∙ append_assoc done (shift ∷ []) (tail_from (done ++ shift ∷ []) next rows (drop 1 levels))

-- all shifts
pub shifts_are : (rows : List Row) (levels : List ℕ) → shifts_of rows levels ≡ tail_from [] 0 rows levels
unfolding shifts_of
shifts_are rows levels = shifts_split [] 0 rows levels

-- the row is no end mark
abbrev NotEnd : RowSize → Type 0
NotEnd (Fixed bytes) = Unit {0}
NotEnd (Align log most) = Unit {0}
NotEnd (Org from ahead behind) = Unit {0}
NotEnd (Jump conditional distance) = Unit {0}
NotEnd (Leb128 signed distance) = Unit {0}
NotEnd (Advance distance) = Unit {0}
NotEnd End = ⊥

-- the row behind such a one is moved by its size more
moved_more : (size : RowSize) → NotEnd size → (shift bytes : ℕ) → moved_past size shift bytes ≡ shift + bytes
moved_more (Fixed held) item shift bytes = refl
moved_more (Align log most) item shift bytes = refl
moved_more (Org from ahead behind) item shift bytes = refl
moved_more (Jump conditional distance) item shift bytes = refl
moved_more (Leb128 signed distance) item shift bytes = refl
moved_more (Advance distance) item shift bytes = refl
moved_more End item shift bytes = absurd item

grown_no_end : (kind : Growth) (distance : Option Distance) → NotEnd (grown_row kind distance)
grown_no_end (growth.Jump condition) None = tt
grown_no_end (growth.Jump condition) (Some distance) = tt
grown_no_end (growth.Leb128 signed) None = tt
grown_no_end (growth.Leb128 signed) (Some distance) = tt
grown_no_end growth.Advance None = tt
grown_no_end growth.Advance (Some distance) = tt

-- what grows has the size of one of its levels
grown_has : (done : List ℕ) (kind : Growth) (distance : Option Distance) (level address : ℕ) → level ≤ top (grown_row kind distance)
    → MayGrowTo kind (size_at done (grown_row kind distance) level address)
unfolding size_at top
grown_has done (growth.Jump condition) None level address within = (1, omega arith, refl)
grown_has done (growth.Jump condition) (Some distance) level address within = (level, within, refl)
grown_has done (growth.Leb128 signed) None level address within = (0, omega arith, refl)
grown_has done (growth.Leb128 signed) (Some distance) level address within = (level, within, refl)
grown_has done growth.Advance None level address within = (0, omega arith, refl)
grown_has done growth.Advance (Some distance) level address within = (level, within, refl)

may_have : (content : Content) (address size : ℕ) → HasSizeAt content address size → MayHave content size
may_have content.Run address size has = has
may_have (content.Fill held) address size has = has
may_have (content.Align held) address size has = tt
may_have (content.Org held) address size has = tt
may_have (content.Growing held) address size has = has

-- the rows of the next sections begin behind the end mark, not moved, and none of them is above its highest level
abbrev Behind : List ℕ → List Row → Type 0
Behind shifts more = (later : List ℕ) × (levels : List ℕ) × (shifts ≡ tail_from later 0 more levels) × AreWithin levels more

-- how many levels the ranking takes
taken_within : (ranks : Ranks) (rows : List Row) → map (λ (numbers : List (Option ℕ)). length numbers) ranks ≡ tops rows → AreWithin (levels_taken ranks) rows
taken_within ranks [] same = tt
taken_within [] (row ∷ rows) same = absurd cc
taken_within (numbers ∷ ranks) (row ∷ rows) same =
    let first : length numbers ≡ top row.size = cc in
    let rest : map (λ (numbers : List (Option ℕ)). length numbers) ranks ≡ tops rows = cc in
    let few = count_by-le-length is_some numbers in
    (let within : count_by is_some numbers ≤ top row.size = omega arith in within, taken_within ranks rows rest)

-- the levels of a ranking are within the highest ones
pub ranked_within : (rows : List Row) (levels : List ℕ) (rounds : ℕ) → IsLayout (need rows) (tops rows) levels rounds → AreWithin levels rows
ranked_within rows levels rounds layout = subst (λ (all : List ℕ). AreWithin all rows) (sym layout.taken) (taken_within layout.ranks rows layout.ranking.levels)

module _ (all : RowsIn) (fields : List Field) where
  no_end : (number index : ℕ) (held : Content) → NotEnd (row_size all fields number index held)
  no_end number index content.Run = tt
  no_end number index (content.Fill held) = tt
  no_end number index (content.Align held) = tt
  no_end number index (content.Org held) = tt
  no_end number index (content.Growing held) = grown_no_end held.kind (option_and_then (field_distance all) (slice_get fields held.field))

  -- an item has the size of its row
  row_has : (done : List ℕ) (number index : ℕ) (held : Content) (level address : ℕ) → level ≤ top (row_size all fields number index held)
      → HasSizeAt held address (size_at done (row_size all fields number index held) level address)
  unfolding size_at
  row_has done number index content.Run level address within = refl
  row_has done number index (content.Fill held) level address within = refl
  row_has done number index (content.Align held) level address within = refl
  row_has done number index (content.Org held) level address within = tt
  row_has done number index (content.Growing held) level address within =
      grown_has done held.kind (option_and_then (field_distance all) (slice_get fields held.field)) level address within

module _ {P : Type 0} (all : RowsIn) (fields : List Field) where
  -- the rows of these items, the first of which have this number and index
  abbrev these : ℕ → ℕ → List (Frag P ℕ) → List Row
  these number index items = item_rows all fields number index items

  -- how far the row behind an item is moved
  abbrev next_of : List ℕ → ℕ → ℕ → ℕ → Frag P ℕ → ℕ → ℕ
  next_of done shift number index item level = shift_behind (done ++ shift ∷ []) (row_of all fields number index item) level shift

  -- the size of the item's row
  abbrev bytes_there : List ℕ → ℕ → ℕ → ℕ → Frag P ℕ → ℕ → ℕ
  bytes_there done shift number index item level = size_at (done ++ shift ∷ []) (row_size all fields number index item.content) level (item.offset + shift)

  next_is : (done : List ℕ) (shift number index : ℕ) (item : Frag P ℕ) (level : ℕ)
      → next_of done shift number index item level ≡ shift + bytes_there done shift number index item level
  unfolding shift_behind
  next_is done shift number index item level =
      moved_more (row_size all fields number index item.content) (no_end all fields number index item.content) shift (bytes_there done shift number index item level)

  -- the first of these shifts
  head_is : (done : List ℕ) (shift number index : ℕ) (items : List (Frag P ℕ)) (mark : Row) (more : List Row) (levels : List ℕ)
      → slice_index (tail_from done shift (these number index items ++ mark ∷ more) levels) 0 ≡ shift
  head_is done shift number index [] mark more levels = refl
  head_is done shift number index (item ∷ items) mark more levels = refl

  -- each item stands behind the one before, and has the size that it has there
  record AreLaid (shift : ℕ) (items : List (Frag P ℕ)) : Type 0 where
    placed : placed_from shift items ≡ items
    sized : AreSized items
    sizes : HaveSizes items

  one_more : (shift size : ℕ) (item : Frag P ℕ) (items : List (Frag P ℕ)) → HasSizeAt item.content (item.offset + shift) size → AreLaid (shift + size) items
      → AreLaid shift (item_laid_at (item.offset + shift) size item ∷ items)
  unfolding placed_from
  one_more shift size item items has later = record {
    placed = ap (λ (more : List (Frag P ℕ)). item_laid_at (item.offset + shift) size item ∷ more) later.placed;
    sized = All-cons (λ (one : Frag P ℕ). MayHave one.content one.size) (item_laid_at (item.offset + shift) size item) items (may_have item.content (item.offset + shift) size has) later.sized;
    sizes = All-cons (λ (one : Frag P ℕ). HasSizeAt one.content one.address one.size) (item_laid_at (item.offset + shift) size item) items has later.sizes;
  }

  items_laid : (done : List ℕ) (shift number index : ℕ) (items : List (Frag P ℕ)) (mark : Row) (more : List Row) (levels : List ℕ)
      → AreWithin levels (these number index items ++ mark ∷ more)
      → AreLaid shift (laid_from (tail_from done shift (these number index items ++ mark ∷ more) levels) items)
  unfolding placed_from
  items_laid done shift number index [] mark more levels within =
      record { placed = refl; sized = λ index default inside. absurd (omega arith); sizes = λ index default inside. absurd (omega arith) }
  items_laid done shift number index (item ∷ items) mark more levels (low, within) =
      let next = next_of done shift number index item (slice_index levels 0) in
      let bytes = bytes_there done shift number index item (slice_index levels 0) in
      let rest = tail_from (done ++ shift ∷ []) next (these (number + 1) (index + 1) items ++ mark ∷ more) (drop 1 levels) in
      let is : next ≡ shift + bytes = next_is done shift number index item (slice_index levels 0) in
      let later = items_laid (done ++ shift ∷ []) next (number + 1) (index + 1) items mark more (drop 1 levels) within in
      let head = head_is (done ++ shift ∷ []) next (number + 1) (index + 1) items mark more (drop 1 levels) in
      let size : next - shift ≡ bytes = omega arith in
      let sum : shift + (next - shift) ≡ next = omega arith in
      let has : HasSizeAt item.content (item.offset + shift) (next - shift) =
      rw size (row_has all fields (done ++ shift ∷ []) number index item.content (slice_index levels 0) (item.offset + shift) low) in
      let moved : AreLaid (shift + (next - shift)) (laid_from rest items) = subst (λ (m : ℕ). AreLaid m (laid_from rest items)) (sym sum) later in
      subst (λ (m : ℕ). AreLaid shift (item_laid_at (item.offset + shift) (m - shift) item ∷ laid_from rest items)) (sym head)
      (one_more shift (next - shift) item (laid_from rest items) has moved)

  -- each of these is moved as far as the one before it or farther
  items_rise : (done : List ℕ) (shift number index : ℕ) (items : List (Frag P ℕ)) (mark : Row) (more : List Row) (levels : List ℕ)
      → Rise (tail_from done shift (these number index items ++ mark ∷ more) levels) items
  items_rise done shift number index [] mark more levels = tt
  items_rise done shift number index (item ∷ items) mark more levels =
      let next = next_of done shift number index item (slice_index levels 0) in
      let is : next ≡ shift + bytes_there done shift number index item (slice_index levels 0) = next_is done shift number index item (slice_index levels 0) in
      let head = head_is (done ++ shift ∷ []) next (number + 1) (index + 1) items mark more (drop 1 levels) in (
        rw head (omega arith),
        items_rise (done ++ shift ∷ []) next (number + 1) (index + 1) items mark more (drop 1 levels),
      )

  behind_items : (done : List ℕ) (shift number index : ℕ) (items : List (Frag P ℕ)) (section : SectionOf (Frag P ℕ)) (more : List Row) (levels : List ℕ)
      → AreWithin levels (these number index items ++ end_of section ∷ more)
      → Behind (drop (length items + 1) (tail_from done shift (these number index items ++ end_of section ∷ more) levels)) more
  unfolding shift_behind
  behind_items done shift number index [] section more levels (low, within) = (done ++ shift ∷ [], drop 1 levels, refl, within)
  behind_items done shift number index (item ∷ items) section more levels (low, within) =
      let one : length (item ∷ items) + 1 ≡ suc (length items + 1) = omega arith in
      rw one (behind_items (done ++ shift ∷ []) (next_of done shift number index item (slice_index levels 0)) (number + 1) (index + 1) items section more (drop 1 levels) within)

module _ {P : Type 0} (all : RowsIn) where
  -- each section is laid out
  record AllLaid (sections : List (SectionOf (Frag P ℕ))) : Type 0 where
    placed : map placed_section sections ≡ sections
    sized : All (λ section. AreSized section.items) sections
    sizes : All (λ section. HaveSizes section.items) sections
    rows : All (λ section. IsInRow section.items) sections

  section_more : (section : SectionOf (Frag P ℕ)) (sections : List (SectionOf (Frag P ℕ))) → AreLaid all section.fields 0 section.items → AllLaid sections → AllLaid (section ∷ sections)
  section_more section sections first later = record {
    placed = (let items = first.placed in let rest = later.placed in rw (items, rest));
    sized = All-cons (λ (one : SectionOf (Frag P ℕ)). AreSized one.items) section sections first.sized later.sized;
    sizes = All-cons (λ (one : SectionOf (Frag P ℕ)). HaveSizes one.items) section sections first.sizes later.sizes;
    rows = All-cons (λ (one : SectionOf (Frag P ℕ)). IsInRow one.items) section sections (placed_in_row section.items first.placed) later.rows;
  }

  all_laid : (done levels : List ℕ) (first : ℕ) (sections : List (SectionOf (Frag P ℕ))) → AreWithin levels (rows_from all first sections)
      → AllLaid (laid_out (tail_from done 0 (rows_from all first sections) levels) sections)
  all_laid done levels first [] within = record {
    placed = refl;
    sized = λ index default inside. absurd (omega arith);
    sizes = λ index default inside. absurd (omega arith);
    rows = λ index default inside. absurd (omega arith);
  }
  all_laid done levels first (section ∷ sections) within =
      let more = rows_from all (first + row_count section) sections in
      let own = item_rows all section.fields first 0 section.items in
      let joined : section_rows all first section ++ more ≡ own ++ end_of section ∷ more = append_assoc own (end_of section ∷ []) more in
      let shifts = tail_from done 0 (own ++ end_of section ∷ more) levels in
      let low : AreWithin levels (own ++ end_of section ∷ more) = subst (λ (rows : List Row). AreWithin levels rows) joined within in
      let items = items_laid all section.fields done 0 first 0 section.items (end_of section) more levels low in
      let (later, rest, is, fine) = behind_items all section.fields done 0 first 0 section.items section more levels low in
      let behind : AllLaid (laid_out (drop (row_count section) shifts) sections) =
      subst (λ (xs : List ℕ). AllLaid (laid_out xs sections)) (sym is) (all_laid later rest (first + row_count section) sections fine) in
      subst (λ (rows : List Row). AllLaid (laid_out (tail_from done 0 rows levels) (section ∷ sections))) (sym joined)
      (section_more (laid_out_section shifts section) (laid_out (drop (row_count section) shifts) sections) items behind)

  all_rise : (done levels : List ℕ) (first : ℕ) (sections : List (SectionOf (Frag P ℕ))) → AreWithin levels (rows_from all first sections)
      → AllRise (tail_from done 0 (rows_from all first sections) levels) sections
  all_rise done levels first [] within = tt
  all_rise done levels first (section ∷ sections) within =
      let more = rows_from all (first + row_count section) sections in
      let own = item_rows all section.fields first 0 section.items in
      let joined : section_rows all first section ++ more ≡ own ++ end_of section ∷ more = append_assoc own (end_of section ∷ []) more in
      let low : AreWithin levels (own ++ end_of section ∷ more) = subst (λ (rows : List Row). AreWithin levels rows) joined within in
      let (later, rest, is, fine) = behind_items all section.fields done 0 first 0 section.items section more levels low in
      subst (λ (rows : List Row). AllRise (tail_from done 0 rows levels) (section ∷ sections)) (sym joined) (
        head_is all section.fields done 0 first 0 section.items (end_of section) more levels,
        items_rise all section.fields done 0 first 0 section.items (end_of section) more levels,
        subst (λ (xs : List ℕ). AllRise xs sections) (sym is) (all_rise later rest (first + row_count section) sections fine),
      )

module _ {P : Type 0} (symbols : SymbolMap) (levels : List ℕ) (sections : List (SectionOf (Frag P ℕ))) (within : AreWithin levels (rows_of symbols sections)) where
  laid_by_all : AllLaid (rows_in symbols sections) (laid_by symbols levels sections)
  unfolding laid_by rows_of
  laid_by_all = subst (λ (shifts : List ℕ). AllLaid (rows_in symbols sections) (laid_out shifts sections)) (sym (shifts_are (rows_of symbols sections) levels))
      (all_laid (rows_in symbols sections) [] levels 0 sections within)

  -- items stand one behind the other
  pub laid_is_placed : map placed_section (laid_by symbols levels sections) ≡ laid_by symbols levels sections
  laid_is_placed = laid_by_all.placed

  -- and have sizes that they may have
  pub laid_is_sized : All (λ section. AreSized section.items) (laid_by symbols levels sections)
  laid_is_sized = laid_by_all.sized

  -- which are those at their addresses
  pub laid_has_sizes : All (λ section. HaveSizes section.items) (laid_by symbols levels sections)
  laid_has_sizes = laid_by_all.sizes

  -- in each section from its beginning on
  pub laid_in_rows : All (λ section. IsInRow section.items) (laid_by symbols levels sections)
  laid_in_rows = laid_by_all.rows

  -- no row of a section is moved less than the one before it, and the first one is not moved
  pub rows_rise : AllRise (shifts_of (rows_of symbols sections) levels) sections
  unfolding rows_of
  rows_rise = subst (λ (shifts : List ℕ). AllRise shifts sections) (sym (shifts_are (rows_of symbols sections) levels))
      (all_rise (rows_in symbols sections) [] levels 0 sections within)

-- there are as many shifts as rows
tail_long : (done : List ℕ) (shift : ℕ) (rows : List Row) (levels : List ℕ) → length (tail_from done shift rows levels) ≡ length rows
tail_long done shift [] levels = refl
tail_long done shift (row ∷ rows) levels = ap suc (tail_long (done ++ shift ∷ []) (shift_behind (done ++ shift ∷ []) row (slice_index levels 0) shift) rows (drop 1 levels))

pub shifts_long : (rows : List Row) (levels : List ℕ) → length (shifts_of rows levels) ≡ length rows
shifts_long rows levels = ap (λ (shifts : List ℕ). length shifts) (shifts_are rows levels) ∙ tail_long [] 0 rows levels
