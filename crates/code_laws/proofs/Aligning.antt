-- What is read where an alignment is loaded.
use Rattle.std.proofs.Common.{◌≡◌, ℕ, ◌+◌, ◌<◌, ◌≤◌, false, List, [], ◌∷◌, ◌++◌, All, Option, Some, None, length, take, drop, get_or, refl, sym, ap, subst, ◌∙◌, arith, append_assoc, sum, replicate, length-append}
use Rattle.std.specs.Prelude.{◌==◌, slice_get}
use Rattle.std.specs.Option.{option_map_or}
use Rattle.std.proofs.lemmas.Option.{same_Some, slice_get-get_or}
use Rattle.asm_base.specs.declared.positions.Pos.{Pos}
use Rattle.asm_symbols.specs.SymbolMap.{SymbolMap}
use Rattle.asm_frags.specs.Addresses.{item_laid_at}
use Rattle.asm_frags.specs.SectionOf.{SectionOf}
use Rattle.asm_frags.specs.Substituting.{laid_item}
use Rattle.asm_frags.specs.Writing.{LooseItem, LooseSection, new_item, item_behind, with_item}
use Rattle.item_contents.specs.declared.contents.Content.{Content}
use Rattle.item_contents.specs.declared.contents.Content.TheVariants.{Align}
use Rattle.item_contents.specs.declared.kinds.Padding.{Padding}
use Rattle.item_contents.specs.declared.kinds.Padding.TheVariants.{Byte, NoOperations}
use Rattle.item_contents.specs.Contents.{MayHave, bytes_of, padding_bytes}
use Rattle.section_laws.specs.Within.{IsWithin, AreWithin}
use Rattle.asm_relax.specs.KeptSections.{kept_section, kept_items, LayoutsKeepSections}
use Rattle.asm_relax.specs.Placing.{placed_from, shift_of}
use Rattle.asm_relax.specs.RangeChecks.{whole_size}
use Rattle.asm_relax.specs.Settling.{LaidItem, LaidSections}
use Rattle.asm_values.specs.State.{Placed}
use Rattle.asm_place.specs.Effects.{fill_said}
use Rattle.asm_place.specs.Instructions.{with_more, IsContinued}
use Rattle.elf_file.specs.Sections.{no_bits}
use Rattle.elf_object.specs.Contents.{section_relocations}
use Rattle.elf_object.specs.Image.{image_of}
use Rattle.elf_object.specs.Places.{section_offset, IsFiled, ItemsStand, PlacesAreAddresses}
use Rattle.step_readings.specs.NoOperations.{padding_lengths}
use Rattle.scfi_laws.specs.Laid.{ReadsPadding}
use Rattle.item_readings.specs.Padding.{NoOperationsDoNothing}
use Rattle.place_laws.specs.Ends.{end_in, items_in, place_in, size_at, EndsMove}
use Rattle.place_laws.specs.Statements.{PlacesAreInside, GrowthMovesPlaces}
use Rattle.loaded_laws.specs.Loaded.{IsBesideRelocation, IsLoaded}
use Rattle.loaded_laws.specs.Beside.{HoldsRelocated, RelocationsBeside, LayoutsKeepCounts}
use Rattle.code_laws.specs.Sections.{IsLoadedLater}
use Rattle.code_laws.specs.Padding.{FillsWithNoOperations, AlignmentsAreLaid, IsLaidInert, DataAreLaid}
use Rattle.code_laws.proofs.Lists.{get_set, All-there, get_first, get_after, get_within, get_last, take_first, piece_stands}
use Rattle.code_laws.proofs.Shifts.{placed_at}
use Rattle.code_laws.proofs.ItemBytes.{left_alone}
use Rattle.code_laws.proofs.AlignmentPuts.{IsAligned, align_is}

-- what is known of layouts, of objects and of padding
pub record Facts : Type 0 where
  pub layouts : LayoutsKeepSections
  pub ends : EndsMove
  pub inside : PlacesAreInside
  pub counts : LayoutsKeepCounts
  pub relocations : RelocationsBeside
  pub addresses : PlacesAreAddresses
  pub stand : ItemsStand
  pub sized : (content : Content) (size value : ℕ) → MayHave content size → length (bytes_of content size value) ≡ size
  pub nothing : NoOperationsDoNothing

-- THE PADDING

-- the lengths of its no-operations
abbrev lengths_of : Padding → ℕ → List ℕ
lengths_of (Byte fill) size = replicate size 1
lengths_of NoOperations size = padding_lengths size

lengths_long : NoOperationsDoNothing → (padding : Padding) (size : ℕ) → sum (lengths_of padding size) ≡ size
lengths_long nothing (Byte fill) size = nothing.filled_long size
lengths_long nothing NoOperations size = nothing.long size

padding_read : NoOperationsDoNothing → (padding : Padding) (size place : ℕ) (code rest : List ℕ) → FillsWithNoOperations padding → drop place code ≡ padding_bytes padding size ++ rest
    → ReadsPadding code (lengths_of padding size) place
padding_read nothing (Byte fill) size place code rest is stands =
    nothing.filled size place code rest (stands ∙ ap (λ byte. replicate size byte ++ rest) is)
padding_read nothing NoOperations size place code rest is stands = nothing.padding size place code rest stands

-- ITS BYTES

module _ (facts : Facts) (symbols : SymbolMap) (laid : LaidSections) (pos : Pos) (fill : Option ℕ) (before placed : Placed) (code : List ℕ)
    (all_within : AreWithin before.sections) (aligned : IsAligned pos fill before placed) (l : IsLoadedLater symbols laid before.current placed.sections code) where
  abbrev number : ℕ
  number = before.current

  abbrev section : LooseSection
  section = aligned.put.section

  abbrev one : LooseItem
  one = item_behind (length section.bytes) (new_item pos (Align aligned.held))

  abbrev new : LooseSection
  new = with_item (new_item pos (Align aligned.held)) section

  new_there : slice_get placed.sections number ≡ Some new
  new_there = ap (λ (all : List LooseSection). slice_get all number) aligned.put.put ∙ get_set before.sections number section new aligned.put.there

  more : IsContinued new (slice_get l.later number)
  more = l.grows.kept number new new_there

  abbrev whole : LooseSection
  whole = with_more new more.bytes more.fields more.items

  abbrev own : List ℕ
  own = (facts.layouts.section symbols l.later laid number whole l.is more.there).0

  abbrev kept : SectionOf LaidItem
  kept = kept_section symbols own whole

  kept_there : slice_get laid number ≡ Some kept
  kept_there = (facts.layouts.section symbols l.later laid number whole l.is more.there).1

  kept_is : l.kept ≡ kept
  kept_is = same_Some l.kept kept (sym l.there ∙ kept_there)

  within : IsWithin section
  within = All-there IsWithin before.sections number section aligned.put.there all_within

  whole_within : IsWithin whole
  whole_within = All-there IsWithin l.later number whole more.there l.within

  abbrev index : ℕ
  index = length section.items

  one_there : slice_get whole.items index ≡ Some one
  one_there = get_first new.items more.items index one (get_last section.items one)

  abbrev got : (address : ℕ) × (size : ℕ) × (slice_get (kept_items own whole.items) index ≡ Some (item_laid_at address size (laid_item one)))
  got = facts.layouts.item whole.items own index one one_there

  -- the item in the layout
  abbrev item : LaidItem
  item = item_laid_at got.0 got.1 (laid_item one)

  item_there : slice_get kept.items index ≡ Some item
  item_there = got.2

  abbrev size : ℕ
  size = got.1

  placed_so : placed_from 0 kept.items ≡ kept.items
  placed_so = ap (λ (s : SectionOf LaidItem). s.items) (facts.layouts.placed symbols l.later laid number kept l.is kept_there)

  items_are : items_in laid number ≡ kept.items
  items_are = ap (λ found. option_map_or (λ (s : SectionOf LaidItem). s.items) found []) kept_there

  abbrev place : ℕ
  place = place_in laid number before.sections

  place_is : place ≡ length section.bytes + shift_of index 0 kept.items
  place_is =
      ap (λ found. option_map_or (end_in (items_in laid number)) found 0) aligned.put.there
      ∙ ap (λ (items : List LaidItem). length section.bytes + shift_of index 0 items) items_are

  address_is : item.address ≡ place
  address_is =
      placed_at kept.items 0 index item (ap (λ (items : List LaidItem). slice_get items index) placed_so ∙ item_there) ∙ sym place_is

  size_is : size_at (items_in laid number) index ≡ size
  size_is =
      ap (λ (items : List LaidItem). size_at items index) items_are ∙ ap (λ found. option_map_or (λ (i : LaidItem). i.size) found 0) item_there

  -- it moves the place of what is put next by its size
  next_is : place_in laid number placed.sections ≡ place + size
  next_is =
      let at : place_in laid number placed.sections ≡ end_in (items_in laid number) new = ap (λ found. option_map_or (end_in (items_in laid number)) found 0) new_there in
      let start : place ≡ end_in (items_in laid number) section = ap (λ found. option_map_or (end_in (items_in laid number)) found 0) aligned.put.there in
      let moves = facts.ends.item (new_item pos (Align aligned.held)) section (items_in laid number) in
      let same = size_is in
      omega (arith, at, start, moves, same)

  ends : place + size ≤ whole_size kept
  ends =
      let up = (facts.inside placed.sections laid number new kept (record { symbols = symbols; later = l.later; grows = l.grows; is = l.is }) new_there kept_there).inside in
      let at = next_is in
      omega (arith, up, at)

  filed : IsFiled laid number kept
  filed = record {
    found = kept_there;
    takes_bytes = subst (λ (s : SectionOf LaidItem). (s.kind == no_bits) ≡ false) kept_is l.takes_bytes;
    laid = facts.layouts.placed symbols l.later laid number kept l.is kept_there;
    sized = facts.layouts.sized symbols l.later laid number kept l.is kept_there;
  }

  loaded : IsLoaded (image_of symbols laid) (section_offset symbols laid number) (whole_size kept) (section_relocations symbols laid number kept) code
  loaded =
      subst (λ (s : SectionOf LaidItem). IsLoaded (image_of symbols laid) (section_offset symbols laid number) (whole_size s) (section_relocations symbols laid number s) code)
      kept_is l.loaded

  relocated : All (HoldsRelocated symbols laid number kept) kept.fields
  relocated = subst (λ (s : SectionOf LaidItem). All (HoldsRelocated symbols laid number s) s.fields) kept_is l.relocated

  abbrev piece : List ℕ
  piece = padding_bytes aligned.held.padding size

  long : length piece ≡ size
  long = facts.sized (Align aligned.held) size 0 tt

  -- the items before it stand before it
  earlier : All (λ other. other.offset ≤ length section.bytes) (take index kept.items)
  earlier =
      facts.layouts.first (length section.bytes) index whole.items own
      (subst (λ (items : List LooseItem). All (λ other. other.offset ≤ length section.bytes) items)
      (sym (ap (take index) (append_assoc section.items (one ∷ []) more.items) ∙ take_first section.items ((one ∷ []) ++ more.items))) within.items)

  -- the byte in the object
  object_byte : (k byte : ℕ) → k < size → slice_get piece k ≡ Some byte
      → slice_get (image_of symbols laid) (section_offset symbols laid number + (place + k)) ≡ Some byte
  object_byte k byte few is =
      let fits : length section.bytes ≤ length kept.bytes = let count = length-append section.bytes more.bytes in omega (arith, count) in
      let there = facts.stand symbols laid number index kept item filed item_there fits earlier in
      let at = section_offset symbols laid number + (place + k) in
      let front = there.front in
      let rest = there.rest in
      let begins : at ≡ length front + k = let f = there.long in let a = address_is in omega (arith, f, a) in
      let same = long in
      let one : slice_get (image_of symbols laid) at ≡ slice_get (front ++ (piece ++ rest)) at = ap (λ (xs : List ℕ). slice_get xs at) {y = front ++ (piece ++ rest)} there.whole in
      let two : slice_get (front ++ (piece ++ rest)) at ≡ slice_get (piece ++ rest) k =
      ap (slice_get (front ++ (piece ++ rest))) begins ∙ get_after front (piece ++ rest) k in
      let three : slice_get (piece ++ rest) k ≡ Some byte = get_within piece rest k (omega (arith, few, same)) ∙ is in
      one ∙ (two ∙ three)

  -- no relocation changes it
  beside : (k : ℕ) → k < size → All (IsBesideRelocation (place + k)) (section_relocations symbols laid number kept)
  beside k few =
      let at : length section.bytes + shift_of index 0 kept.items + k ≡ place + k = let p = place_is in omega (arith, p) in
      subst (λ n. All (IsBesideRelocation n) (section_relocations symbols laid number kept)) at
      (facts.relocations symbols laid number (length section.bytes + shift_of index 0 kept.items + k) kept (λ i d low.
      left_alone facts.addresses symbols laid number kept index k item aligned.held (facts.layouts.placed symbols l.later laid number kept l.is kept_there) item_there refl few
      (get_or kept.fields i d) (facts.counts.counted symbols l.later laid number whole kept l.is more.there kept_there whole_within i d low)
      (facts.counts.low symbols l.later laid number whole kept l.is more.there kept_there whole_within i d low) (relocated i d low)))

  stands : drop place code ≡ piece ++ drop (place + length piece) code
  stands =
      let same = long in
      piece_stands code piece place (let all = loaded.long in let up = ends in omega (arith, all, up, same))
      (λ k few.
      let low : k < size = omega (arith, few, same) in
      let byte = get_or piece k 0 in
      let is = slice_get-get_or piece k 0 few in
      let up = ends in
      loaded.same (place + k) (omega (arith, up, low)) (beside k low) ∙ object_byte k byte low is ∙ sym is)

pub alignments_are_laid : Facts → AlignmentsAreLaid
alignments_are_laid facts symbols laid pos by tokens before placed code code_item node starts is within l pads role falls =
    let fill = fill_said pos tokens before in
    let aligned = align_is pos by tokens before placed is in
    let moves = next_is facts symbols laid pos fill before placed code within aligned l in
    let bytes = size facts symbols laid pos fill before placed code within aligned l in
    let filled = subst FillsWithNoOperations (sym aligned.padding) pads in
    record {
      lengths = lengths_of aligned.held.padding bytes;
      is = record {
        placed = moves ∙ ap (λ n. place_in laid before.current before.sections + n) (sym (lengths_long facts.nothing aligned.held.padding bytes));
        fits = (role, falls);
        reads_back =
            padding_read facts.nothing aligned.held.padding bytes (place_in laid before.current before.sections) code _ filled
            (stands facts symbols laid pos fill before placed code within aligned l);
      };
    }

-- whatever is put as data has so many bytes: all that a section has which was not there
pub data_are_laid : GrowthMovesPlaces → DataAreLaid
data_are_laid moves laid n before after code code_item node starts grows role = by (slice_get before n) refl
  where
    by : (found : Option LooseSection) → slice_get before n ≡ found → IsLaidInert laid n before after starts code code_item node
    by (Some held) there = record {
      bytes = _;
      is = record { placed = (moves laid n held before after grows there).moves; fits = role; reads_back = tt };
    }
    by None there =
        let none : place_in laid n before ≡ 0 = ap (λ found. option_map_or (end_in (items_in laid n)) found 0) there in
        record {
          bytes = place_in laid n after;
          is = record { placed = omega (arith, none); fits = role; reads_back = tt };
        }
