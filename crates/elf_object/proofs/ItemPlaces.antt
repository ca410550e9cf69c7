-- Plain bytes, the values of fields and the bytes of items stand in the object.
use Rattle.std.proofs.Common.{◌≡◌, ℕ, zero, suc, ◌+◌, ◌-◌, ◌<◌, ◌≤◌, List, [], ◌∷◌, ◌++◌, Some, length, map, ◌^◌, ◌==◌, false, refl, sym, ap, ◌∙◌, subst, arith}
use Rattle.std.proofs.Math.Dec.{eqb-suc-zero}
use Rattle.std.proofs.Math.Nat.{mod-eq_of_lt}
use Rattle.std.proofs.lemmas.List.{length-map}
use Rattle.std.proofs.lemmas.List.Elements.{All-head, All-tail}
use Rattle.std.proofs.lemmas.Option.{slice_get-map, slice_get_within}
use Rattle.std.specs.Prelude.{All, take, slice_get, slice_index_or, option_map, unwrap_or, codes}
use Rattle.asm_expr.specs.Forms.{wrapped}
use Rattle.asm_frags.specs.declared.fields.Field.{Field}
use Rattle.item_contents.specs.declared.contents.Content.{Content}
use Rattle.item_contents.specs.Contents.{MayHave, bytes_of}
use Rattle.asm_frags.specs.PlainBytes.{covered, field_end, FieldsStand}
use Rattle.asm_frags.specs.SectionOf.{SectionOf}
use Rattle.asm_frags.specs.declared.groups.Group.{Group}
use Rattle.asm_frags.specs.Groups.{groups_of}
use Rattle.asm_frags.specs.Addresses.{item_laid_at}
use Rattle.asm_symbols.specs.SymbolMap.{SymbolMap}
use Rattle.asm_relax.specs.FieldValues.{held_value}
use Rattle.asm_relax.specs.Final.{shift_in, address_in}
use Rattle.asm_relax.specs.Placing.{placed_from, placed_section, shift_of}
use Rattle.asm_relax.specs.Settling.{LaidItem, LaidSections}
use Rattle.elf_object.specs.declared.relocations.Relocation.{Relocation}
use Rattle.elf_object.specs.Contents.{field_bytes, item_value, item_bytes, plain_bytes, interleaved, section_bytes, relocations_from, relocations_of}
use Rattle.elf_symbols.specs.SymbolTable.{symbol_names, symbol_table_of, table_of}
use Rattle.elf_object.specs.Image.{before_names, file_sections, image_with, image_of}
use Rattle.elf_object.specs.Naming.{named_of}
use Rattle.elf_symbols.specs.Numbers.{NumbersOf, numbers_of, first_other}
use Rattle.elf_file.specs.Places.{PieceAt}
use Rattle.elf_file.specs.FileLaws.{BodiesStand}
use Rattle.elf_object.specs.Places.{section_offset, moved, IsBetween, IsFiled, BytesStand, ValuesStand, ItemsStand, PlacesAreAddresses}
use Rattle.elf_file.specs.Sections.{SectionEntry, file_bytes, symbol_section, string_section}
use Rattle.elf_object.specs.Sections.{source_section, with_relocations, header_count, next_header, entries_from, group_entries, first_header, header_indices_from, header_indices}
use Rattle.elf_file.specs.StringTable.{string_table_of}
use Rattle.elf_object.proofs.ItemBytes.{held_length, plain_long}
use Rattle.elf_object.proofs.PlainPlaces.{piece_is, inside, plain_stands, value_stands, bytes_between, item_stands, placed_get}

pub get_front : {A : Type 0} (xs ys : List A) (i : ℕ) (x : A) → slice_get xs i ≡ Some x → slice_get (xs ++ ys) i ≡ Some x
get_front [] ys i x is = absurd cc
get_front (y ∷ xs) ys zero x is = is
get_front (y ∷ xs) ys (suc i) x is = get_front xs ys i x is

-- the indices of headers rise
index_behind : (index : ℕ) (found : List (List Relocation)) (n : ℕ) → n < length found → index ≤ slice_index_or (header_indices_from index found) n 0
index_behind index [] n inside = absurd (omega arith)
index_behind index (own ∷ found) zero inside = omega arith
index_behind index (own ∷ found) (suc n) inside =
    let later = index_behind (index + header_count own) found n (omega arith) in
    omega arith

-- behind the headers of one section stand those of the others
behind_own : (numbers : NumbersOf) (symbols index j k : ℕ) (s : SectionEntry) (own : List Relocation) (more : List SectionEntry) → k ≡ header_count own + j
    → slice_get (with_relocations numbers symbols index s own ++ more) k ≡ slice_get more j
behind_own numbers symbols index j k s [] more is = let one : k ≡ suc j = omega arith in ap (slice_get (s ∷ more)) one
behind_own numbers symbols index j k s (r ∷ found) more is =
    let two : k ≡ suc (suc j) = omega arith in ap (slice_get (with_relocations numbers symbols index s (r ∷ found) ++ more)) two

first_own : (numbers : NumbersOf) (symbols index : ℕ) (s : SectionEntry) (own : List Relocation) (more : List SectionEntry)
    → slice_get (with_relocations numbers symbols index s own ++ more) 0 ≡ Some s
first_own numbers symbols index s [] more = refl
first_own numbers symbols index s (r ∷ found) more = refl

-- the header of a section has its index
entry_there : (numbers : NumbersOf) (symbols index : ℕ) (ss : List SectionEntry) (found : List (List Relocation)) (n : ℕ) (s : SectionEntry) → slice_get ss n ≡ Some s
    → length ss ≡ length found → slice_get (entries_from numbers symbols index ss found) (slice_index_or (header_indices_from index found) n 0 - index) ≡ Some s
entry_there numbers symbols index [] found n s is long = absurd cc
entry_there numbers symbols index (t ∷ ts) [] n s is long = absurd (omega arith)
entry_there numbers symbols index (t ∷ ts) (own ∷ found) zero s is long =
    let same : t ≡ s = cc in
    let first : index - index ≡ 0 = omega arith in
    ap (slice_get (entries_from numbers symbols index (t ∷ ts) (own ∷ found))) first
    ∙ first_own numbers symbols index t own (entries_from numbers symbols (index + header_count own) ts found) ∙ ap Some same
entry_there numbers symbols index (t ∷ ts) (own ∷ found) (suc n) s is long =
    let next = index + header_count own in
    let k = slice_index_or (header_indices_from next found) n 0 in
    let fewer : length ts ≡ length found = cc in
    let inside : n < length found = subst (λ m. n < m) fewer (got_inside ts n s is) in
    let later = index_behind next found n inside in
    behind_own numbers symbols index (k - next) (k - index) t own (entries_from numbers symbols next ts found) (omega arith)
    ∙ entry_there numbers symbols next ts found n s is fewer
  where
    got_inside : {A : Type 0} (xs : List A) (i : ℕ) (x : A) → slice_get xs i ≡ Some x → i < length xs
    got_inside [] i x is = absurd cc
    got_inside (y ∷ xs) zero x is = omega arith
    got_inside (y ∷ xs) (suc i) x is = let inner = got_inside xs i x is in omega arith

pub found_long : (symbols : SymbolMap) (all : LaidSections) (number : ℕ) (sections : LaidSections) → length (relocations_from symbols all number sections) ≡ length sections
found_long symbols all number [] = refl
found_long symbols all number (s ∷ ss) = ap suc (found_long symbols all (number + 1) ss)

-- each group has one header
pub groups_long : (numbers : NumbersOf) (symbols : ℕ) (sections : LaidSections) (found : List (List Relocation)) (index : ℕ) (groups : List Group)
    → length (group_entries numbers symbols sections found index groups) ≡ length groups
groups_long numbers symbols sections found index [] = refl
groups_long numbers symbols sections found index (group ∷ groups) = ap suc (groups_long numbers symbols sections found (index + 1) groups)

past : {A : Type 0} (front xs : List A) (i : ℕ) → slice_get (front ++ xs) (length front + i) ≡ slice_get xs i
past [] xs i = let same : 0 + i ≡ i = omega arith in ap (slice_get xs) same
past (x ∷ front) xs i = let same : suc (length front) + i ≡ suc (length front + i) = omega arith in ap (slice_get (x ∷ (front ++ xs))) same ∙ past front xs i

-- the section of a number stands among those of the file
section_there : (symbols : SymbolMap) (sections : LaidSections) (number : ℕ) (section : SectionOf LaidItem) → slice_get sections number ≡ Some section
    → slice_get (file_sections symbols sections (relocations_of symbols sections)) (slice_index_or (header_indices sections (relocations_of symbols sections)) number 0 - 1)
    ≡ Some (source_section symbols sections section)
unfolding before_names
section_there symbols sections number section is =
    let found = relocations_of symbols sections in
    let held = map (source_section symbols sections) sections in
    let got : slice_get held number ≡ Some (source_section symbols sections section) =
    slice_get-map (source_section symbols sections) sections number ∙ ap (option_map (source_section symbols sections)) is in
    let named = named_of found (length symbols.symbols) in
    let table = table_of symbols sections named in
    let first = first_header sections in
    let tables = next_header first found in
    let tail = symbol_section (tables + 1) (first_other symbols sections named) (symbol_table_of (header_indices sections found) table)
    ∷ string_section (codes ".strtab") (string_table_of (symbol_names table)) ∷ [] in
    let numbers = numbers_of symbols sections named in
    let groups = group_entries numbers tables sections found 0 (groups_of sections) in
    let entries = entries_from numbers tables first held found in
    let own = source_section symbols sections section in
    let index = slice_index_or (header_indices sections found) number 0 in
    let within = slice_get_within sections number section is in
    let long = found_long symbols sections 0 sections in
    let inside : number < length found = omega (arith, within, long) in
    let later : first ≤ index = index_behind first found number inside in
    let count = groups_long numbers tables sections found 0 (groups_of sections) in
    let place : index - 1 ≡ length groups + (index - first) = omega (arith, later, count) in
    get_front (groups ++ entries) tail (index - 1) own
    (ap (slice_get (groups ++ entries)) place ∙ past groups entries (index - first)
    ∙ entry_there numbers tables first held found number own got (length-map sections (source_section symbols sections) ∙ sym long))

-- the bytes of a section that takes bytes stand in the object
section_stands : BodiesStand → (symbols : SymbolMap) (sections : LaidSections) (number : ℕ) (section : SectionOf LaidItem) → IsFiled sections number section
    → PieceAt (image_of symbols sections) (section_offset symbols sections number) (section_bytes symbols sections section)
unfolding image_of image_with section_offset
section_stands bodies symbols sections number section filed =
    let found = relocations_of symbols sections in
    let entry = source_section symbols sections section in
    let body : file_bytes entry.content ≡ section_bytes symbols sections section = rw filed.takes_bytes refl in
    rw (← body) (bodies (file_sections symbols sections found) (slice_index_or (header_indices sections found) number 0 - 1) entry (section_there symbols sections number section filed.found))

-- the items of a laid out section have their addresses
items_laid : (section : SectionOf LaidItem) → placed_section section ≡ section → placed_from 0 section.items ≡ section.items
items_laid section laid = ap (λ (s : SectionOf LaidItem). s.items) laid

-- items have as many bytes as their sizes say, whatever value they hold; the bodies of sections stand in the file, and so do pieces of them
module _ (sized : (content : Content) (size value : ℕ) → MayHave content size → length (bytes_of content size value) ≡ size) (bodies : BodiesStand)
    (pieces : (bytes part piece : List ℕ) (at more : ℕ) → PieceAt bytes at part → PieceAt part more piece → PieceAt bytes (at + more) piece) where
  sized_in : (symbols : SymbolMap) (sections : LaidSections) (section : SectionOf LaidItem) (content : Content) (size : ℕ) → MayHave content size
      → length (item_bytes symbols sections section content size) ≡ size
  sized_in symbols sections section content size has = sized content size (item_value symbols sections section content) has

  -- what stands in a section whose items are laid out
  in_section : (symbols : SymbolMap) (sections : LaidSections) (number place : ℕ) (section : SectionOf LaidItem) (piece : List ℕ) → IsFiled sections number section
      → PieceAt (interleaved (item_bytes symbols sections section) (plain_bytes symbols sections section) 0 (placed_from 0 section.items)) place piece
      → PieceAt (image_of symbols sections) (section_offset symbols sections number + place) piece
  unfolding section_bytes
  in_section symbols sections number place section piece filed inner =
      let outer = section_stands bodies symbols sections number section filed in
      pieces (image_of symbols sections) (section_bytes symbols sections section) piece (section_offset symbols sections number) place outer
      (subst (λ (items : List LaidItem). PieceAt (interleaved (item_bytes symbols sections section) (plain_bytes symbols sections section) 0 items) place piece) (items_laid section filed.laid) inner)

  -- a piece of the plain bytes that no item parts stands in the object
  piece_between : (symbols : SymbolMap) (sections : LaidSections) (number count offset : ℕ) (section : SectionOf LaidItem) (piece : List ℕ) → IsFiled sections number section
      → offset + length piece ≤ length section.bytes → PieceAt (plain_bytes symbols sections section) offset piece → IsBetween section.items count offset (offset + length piece)
      → PieceAt (image_of symbols sections) (section_offset symbols sections number + moved section.items count offset) piece
  piece_between symbols sections number count offset section piece filed within there between =
      let plain = plain_bytes symbols sections section in
      let long = plain_long symbols sections section in
      let stands = bytes_between (item_bytes symbols sections section) (sized_in symbols sections section) plain section.items count offset (offset + length piece) (omega arith) (omega arith) filed.sized between in
      in_section symbols sections number (moved section.items count offset) section piece filed
      (subst (λ (xs : List ℕ). PieceAt (interleaved (item_bytes symbols sections section) plain 0 (placed_from 0 section.items)) (moved section.items count offset) xs) (piece_is plain offset piece there) stands)

  pub bytes_stand : BytesStand
  bytes_stand symbols sections number count offset section bytes filed begins is beside between =
      let within = inside section.bytes offset bytes begins is in
      let there = plain_stands symbols sections section.bytes section.fields 0 offset (offset + length bytes) [] (plain_bytes symbols sections section) refl refl
      (omega arith) (omega arith) within beside in
      piece_between symbols sections number count offset section bytes filed within
      (subst (λ (xs : List ℕ). PieceAt (plain_bytes symbols sections section) offset xs) is there) between

  pub values_stand : ValuesStand
  values_stand symbols sections number index section field filed stand there between =
      let value = field_bytes symbols sections field in
      let long : length value ≡ covered field = held_length field (unwrap_or (held_value symbols sections field) 0) in
      let end : field_end field ≡ field.offset + length value = ap (λ n. field.offset + n) (sym long) in
      let within = field_inside section.bytes section.fields index 0 field stand there in
      let found = value_stands symbols sections section.bytes section.fields index 0 field [] (plain_bytes symbols sections section) refl refl stand there in
      piece_between symbols sections number field.item field.offset section value filed (subst (λ n. n ≤ length section.bytes) end within) found
      (subst (λ n. IsBetween section.items field.item field.offset n) end between)
    where
      field_inside : (bytes : List ℕ) (fields : List Field) (index at : ℕ) (field : Field) → FieldsStand bytes at fields → slice_get fields index ≡ Some field → field_end field ≤ length bytes
      field_inside bytes [] index at field stand there = absurd cc
      field_inside bytes (one ∷ fields) zero at field stand there = let same : one ≡ field = cc in subst (λ (f : Field). field_end f ≤ length bytes) same stand.1.within
      field_inside bytes (one ∷ fields) (suc index) at field stand there = field_inside bytes fields index (field_end one) field stand.2 there

  pub items_stand : ItemsStand
  items_stand symbols sections number index section item filed there within before =
      let plain = plain_bytes symbols sections section in
      let long = plain_long symbols sections section in
      let place = item.offset + shift_of index 0 section.items in
      let stands = item_stands (item_bytes symbols sections section) (sized_in symbols sections section) plain section.items index item there (omega arith) filed.sized before in
      let same : item_laid_at place item.size item ≡ item = some_same (sym (placed_get section.items index 0 item there) ∙ ap (λ (xs : List LaidItem). slice_get xs index) (items_laid section filed.laid) ∙ there) in
      let address : place ≡ item.address = ap (λ (x : LaidItem). x.address) same in
      in_section symbols sections number item.address section (item_bytes symbols sections section item.content item.size) filed
      (subst (λ n. PieceAt (interleaved (item_bytes symbols sections section) plain 0 (placed_from 0 section.items)) n (item_bytes symbols sections section item.content item.size)) address stands)
    where
      some_same : {x y : LaidItem} → Some x ≡ Some y → x ≡ y
      some_same e = cc

-- an address less the plain bytes before it, and with others
unwrapped : (own shift size offset : ℕ) → own ≤ offset → offset + (shift + size) < 2 ^ 64 → wrapped (offset + wrapped (wrapped (own + shift + size) + (2 ^ 64 - own))) ≡ offset + (shift + size)
unwrapped own shift size offset behind low = omega arith

shift_more : (before shift : ℕ) (items : List LaidItem) (item : LaidItem) → slice_get items before ≡ Some item
    → shift_of (suc before) shift items ≡ shift_of before shift items + item.size
shift_more before shift [] item there = absurd cc
shift_more zero shift (one ∷ items) item there = let same : one ≡ item = cc in rw same refl
shift_more (suc before) shift (one ∷ items) item there = shift_more before (shift + one.size) items item there

-- the address of a place whose last item before it is there
address_behind : (items : List LaidItem) (before offset : ℕ) (item : LaidItem) → slice_get items before ≡ Some item → item.offset ≤ offset → offset + shift_of (suc before) 0 items < 2 ^ 64
    → address_in (placed_from 0 items) (suc before) offset ≡ offset + shift_of (suc before) 0 items
unfolding shift_in
address_behind items before offset item there behind low =
    let shift = shift_of before 0 items in
    let address = item.offset + shift in
    let size = item.size in
    let one : suc before - 1 ≡ before = omega arith in
    let more : shift_of (suc before) 0 items ≡ shift + size = shift_more before 0 items item there in
    let got : slice_get (placed_from 0 items) before ≡ Some (item_laid_at address item.size item) = placed_get items before 0 item there in
    let some : (suc before == 0) ≡ false = eqb-suc-zero before in
    rw (some, one, got, more) (unwrapped item.offset shift size offset behind (omega arith))

pub places_are_addresses : PlacesAreAddresses
unfolding shift_in
places_are_addresses section zero offset laid within before low = rw (mod-eq_of_lt low) (omega arith)
places_are_addresses section (suc count) offset laid within before low =
    let last = item_of section.items count within in
    let row = items_laid section laid in
    ap (λ (xs : List LaidItem). address_in xs (suc count) offset) (sym row)
    ∙ address_behind section.items count offset last.0 last.1 (in_front section.items count last.0 last.1 before) low
  where
    item_of : (items : List LaidItem) (index : ℕ) → suc index ≤ length items → (item : LaidItem) × (slice_get items index ≡ Some item)
    item_of [] index within = absurd (omega arith)
    item_of (one ∷ items) zero within = (one, refl)
    item_of (one ∷ items) (suc index) within = item_of items index (omega arith)

    in_front : (items : List LaidItem) (index : ℕ) (item : LaidItem) → slice_get items index ≡ Some item → All (λ item. item.offset ≤ offset) (take (suc index) items) → item.offset ≤ offset
    in_front [] index item there all = absurd cc
    in_front (one ∷ items) zero item there all = let same : one ≡ item = cc in subst (λ (x : LaidItem). x.offset ≤ offset) same (All-head (λ item. item.offset ≤ offset) one (take 0 items) all)
    in_front (one ∷ items) (suc index) item there all = in_front items index item there (All-tail (λ item. item.offset ≤ offset) one (take (suc index) items) all)
