-- Sections and symbols of an object are read back.
use Rattle.std.proofs.Common.{◌≡◌, ℕ, zero, suc, ◌+◌, ◌*◌, ◌/◌, ◌%◌, ◌^◌, ◌<◌, ◌≤◌, ◌==◌, ◌&&◌, ◌||◌, not, Bool, true, false, cond, List, [], ◌∷◌, ◌++◌, Option, Some, None, length, map, replicate, option_map, option_and_then, refl, sym, ap, ◌∙◌, subst, arith, append_assoc, length-append}
use Rattle.std.proofs.lemmas.List.{length-map}
use Rattle.std.proofs.lemmas.Option.{slice_get-map}
use Rattle.std.specs.Prelude.{slice_get, slice_index_or}
use Rattle.std.specs.List.{list_all}
use Rattle.asm_expr.specs.declared.forms.Term.{Term}
use Rattle.asm_expr.specs.declared.naming.Name.{Name}
use Rattle.asm_expr.specs.Knowledge.{Told, absent, constant, label, form}
use Rattle.asm_frags.specs.declared.groups.Group.{Group}
use Rattle.asm_frags.specs.Groups.{groups_of}
use Rattle.asm_symbols.specs.declared.entries.Symbol.{Symbol}
use Rattle.asm_symbols.specs.declared.entries.Meaning.{Meaning}
use Rattle.asm_symbols.specs.declared.entries.Meaning.TheVariants as meaning
use Rattle.asm_symbols.specs.SymbolMap.{SymbolMap}
use Rattle.asm_relax.specs.Final.{final_told, final_form}
use Rattle.asm_relax.specs.Settling.{LaidSections}
use Rattle.elf_file.specs.declared.reader.SymbolRecord.{SymbolRecord}
use Rattle.elf_file.specs.Fields.{half, word, xword, half_at, word_at, xword_at}
use Rattle.elf_file.specs.Image.{with_names, file_with}
use Rattle.elf_file.specs.Places.{PieceAt}
use Rattle.elf_file.specs.Reader.{section_content, content_at, text_from, symbol_in, symbol_record}
use Rattle.elf_file.specs.Sections.{SectionEntry, file_bytes}
use Rattle.elf_file.specs.StringTable.{is_no_end, ended_name, string_table_of, name_offsets, name_offsets_after}
use Rattle.elf_symbols.specs.declared.entries.SymbolType.{SymbolType}
use Rattle.elf_symbols.specs.declared.entries.SymbolType.TheVariants as type
use Rattle.elf_symbols.specs.declared.symbol_values.SymbolSection.{SymbolSection}
use Rattle.elf_symbols.specs.declared.symbol_values.SymbolSection.TheVariants.{Undefined, Absolute, Common, InSection, InGroup}
use Rattle.elf_symbols.specs.Limits.{SymbolFits}
use Rattle.elf_symbols.specs.SymbolValues.{label_value, form_value, symbol_value_of}
use Rattle.elf_symbols.specs.SymbolTable.{SymbolEntry, binding_number, type_number, visibility_number, section_index_of, symbol_bytes, all_symbol_bytes, symbol_names, symbol_table_of, file_entry, section_entry, section_entries, is_bound, part, entry_at, needs_naming, is_named_by_group, value_or_undefined, listed, listed_by, listed_all, signature_entry, is_signature_listed, signature_entries, own_signatures, standings, table_of}
use Rattle.elf_object.specs.declared.relocations.Relocation.{Relocation}
use Rattle.elf_object.specs.Contents.{section_relocations, relocations_of}
use Rattle.elf_object.specs.Image.{image_of}
use Rattle.elf_object.specs.Sections.{source_section, header_count, first_header, header_indices, header_indices_from, next_header}
use Rattle.elf_object.specs.TableLaws.{named_targets, table_in}
use Rattle.object_laws.specs.FileReading.{SectionRead}
use Rattle.object_laws.specs.ObjectLimits.{entries_of, symbol_table_index, ObjectFits}
use Rattle.object_laws.specs.SymbolReading.{header_index, SourceSectionsRead, symbol_table_section, symbol_names_section, SymbolTablesRead, linked_text, read_symbol_name, SymbolsRead, null_symbol, NullSymbolsRead, SymbolsEnd}
use Rattle.object_laws.proofs.FieldReads.{half_read, word_read, xword_read, piece_read, piece_past}
use Rattle.object_laws.proofs.FileParts.{behind_front}
use Rattle.object_laws.proofs.NameReads.{sections_read, NameAt, name_there, begins_within, text_read}
use Rattle.object_laws.proofs.ObjectParts.{in_parts, source_entries, image_is, sources_long, relocations_there, placed, symbols_there, texts_there}
use Rattle.object_laws.proofs.ObjectFit.{next_behind, file_fits}

-- a section of the object, at the index of its header
pub object_section : (symbols : SymbolMap) (sections : LaidSections) (place index : ℕ) (s : SectionEntry) → ObjectFits symbols sections → place + 1 ≡ index
    → slice_get (with_names (entries_of symbols sections)) place ≡ Some s → SectionRead (image_of symbols sections) index s
object_section symbols sections place index s fits same is =
    subst (λ (bytes : List ℕ). SectionRead bytes index s) (sym (image_is symbols sections))
    (subst (λ n. SectionRead (file_with (entries_of symbols sections)) n s) same (sections_read (entries_of symbols sections) place s (file_fits symbols sections fits) is))

pub source_sections_read : SourceSectionsRead
source_sections_read symbols sections number section fits is =
    let own = section_relocations symbols sections (0 + number) section in
    let at = placed symbols sections number section own is (relocations_there symbols sections 0 sections number section is) in
    object_section symbols sections at.place (header_index symbols sections number) (source_section symbols sections section) fits at.header at.there

pub symbol_tables_read : SymbolTablesRead
symbol_tables_read symbols sections fits =
    let n = length (source_entries symbols sections) in
    let long : 1 + n ≡ symbol_table_index symbols sections = sources_long symbols sections in (
      object_section symbols sections n (symbol_table_index symbols sections) (symbol_table_section symbols sections) fits (omega arith) (symbols_there symbols sections),
      object_section symbols sections (n + 1) (symbol_table_index symbols sections + 1) (symbol_names_section symbols sections) fits (omega arith) (texts_there symbols sections),
    )

-- the bytes of a section by the index of its header
pub content_read : (file : List ℕ) (index : ℕ) (s : SectionEntry) → SectionRead file index s → content_at file index ≡ Some (file_bytes s.content)
content_read file index s read = ap (option_and_then (section_content file)) read.found ∙ read.bytes

entry_long : (headers : List ℕ) (name : ℕ) (s : SymbolEntry) → length (symbol_bytes headers name s) ≡ 24
unfolding half word xword
entry_long headers name s = refl

-- an entry stands in the table
entry_there : (headers names : List ℕ) (table : List SymbolEntry) (index : ℕ) (s : SymbolEntry) (front bytes : List ℕ) → slice_get table index ≡ Some s
    → length names ≡ length table → bytes ≡ front ++ all_symbol_bytes headers names table
    → PieceAt bytes (length front + 24 * index) (symbol_bytes headers (slice_index_or names index 0) s)
entry_there headers names [] index s front bytes is long all = absurd cc
entry_there headers [] (t ∷ ts) index s front bytes is long all = absurd cc
entry_there headers (name ∷ names) (t ∷ ts) zero s front bytes is long all =
    let same : t ≡ s = cc in
    let place : length front ≡ length front + 24 * 0 = omega arith in
    let here = behind_front bytes front (symbol_bytes headers name t) (all_symbol_bytes headers names ts) (length front) all refl in
    subst (λ (e : SymbolEntry). PieceAt bytes (length front + 24 * 0) (symbol_bytes headers name e)) same
    (subst (λ n. PieceAt bytes n (symbol_bytes headers name t)) place here)
entry_there headers (name ∷ names) (t ∷ ts) (suc index) s front bytes is long all =
    let first = symbol_bytes headers name t in
    let wide : length first ≡ 24 = entry_long headers name t in
    let later = entry_there headers names ts index s (front ++ first) bytes is (let fewer : length names ≡ length ts = cc in fewer)
    (all ∙ sym (append_assoc front first (all_symbol_bytes headers names ts))) in
    let place : length (front ++ first) + 24 * index ≡ length front + 24 * suc index = omega (arith, length-append front first, wide) in
    subst (λ n. PieceAt bytes n (symbol_bytes headers (slice_index_or names index 0) s)) place later

offsets_long : (before : ℕ) (names : List (List ℕ)) → length (name_offsets_after before names) ≡ length names
offsets_long before [] = refl
offsets_long before (name ∷ names) = ap suc (offsets_long (before + length (ended_name name)) names)

entries_long : (headers names : List ℕ) (table : List SymbolEntry) → length names ≡ length table → length (all_symbol_bytes headers names table) ≡ 24 * length table
entries_long headers [] [] long = omega arith
entries_long headers [] (t ∷ ts) long = absurd cc
entries_long headers (name ∷ names) [] long = absurd cc
entries_long headers (name ∷ names) (t ∷ ts) long =
    let first = symbol_bytes headers name t in
    let later : length (all_symbol_bytes headers names ts) ≡ 24 * length ts = entries_long headers names ts (let fewer : length names ≡ length ts = cc in fewer) in
    let wide : length first ≡ 24 = entry_long headers name t in
    omega (arith, length-append first (all_symbol_bytes headers names ts), later, wide)

as_many : (table : List SymbolEntry) → length (name_offsets (symbol_names table)) ≡ length table
unfolding name_offsets symbol_names
as_many table = offsets_long 1 (map (λ (s : SymbolEntry). s.name) table) ∙ length-map table (λ (s : SymbolEntry). s.name)

-- where the name of an entry stands
abbrev name_of : List SymbolEntry → ℕ → ℕ
name_of table index = slice_index_or (name_offsets (symbol_names table)) index 0

entry_stands : (headers : List ℕ) (table : List SymbolEntry) (index : ℕ) (s : SymbolEntry) → slice_get table index ≡ Some s
    → PieceAt (symbol_table_of headers table) (24 * (index + 1)) (symbol_bytes headers (name_of table index) s)
unfolding symbol_table_of
entry_stands headers table index s is =
    let blank : List ℕ = replicate 24 0 in
    let place : 24 + 24 * index ≡ 24 * (index + 1) = omega arith in
    subst (λ n. PieceAt (symbol_table_of headers table) n (symbol_bytes headers (name_of table index) s)) place
    (entry_there headers (name_offsets (symbol_names table)) table index s blank (symbol_table_of headers table) is (as_many table) refl)

pub table_long : (headers : List ℕ) (table : List SymbolEntry) → length (symbol_table_of headers table) ≡ 24 * (length table + 1)
unfolding symbol_table_of
table_long headers table =
    let blank : List ℕ = replicate 24 0 in
    let more = all_symbol_bytes headers (name_offsets (symbol_names table)) table in
    let long : length more ≡ 24 * length table = entries_long headers (name_offsets (symbol_names table)) table (as_many table) in
    let both : length (blank ++ more) ≡ 24 + length more = length-append blank more in
    both ∙ (let sum : 24 + length more ≡ 24 * (length table + 1) = omega arith in sum)

-- a record is read where its bytes stand
record_read : (bytes : List ℕ) (number : ℕ) (entry : List ℕ) → PieceAt bytes (24 * number) entry → length entry ≡ 24 → symbol_record bytes number ≡ Some (symbol_in entry)
unfolding symbol_record
record_read bytes number entry there long = ap (option_map symbol_in) (piece_read bytes (24 * number) 24 entry there long)

null_in : symbol_in (replicate 24 0) ≡ null_symbol
unfolding symbol_in half_at word_at xword_at
null_in = refl

null_record : (headers : List ℕ) (table : List SymbolEntry) → symbol_record (symbol_table_of headers table) 0 ≡ Some null_symbol
unfolding symbol_table_of
null_record headers table =
    record_read (symbol_table_of headers table) 0 (replicate 24 0)
    (record { front = []; rest = all_symbol_bytes headers (name_offsets (symbol_names table)) table; long = refl; whole = refl }) refl ∙ ap Some null_in

-- the fields of an entry
record Says (symbol : SymbolRecord) (headers : List ℕ) (name : ℕ) (s : SymbolEntry) : Type 0 where
  text : symbol.name ≡ name
  info : symbol.info ≡ 16 * binding_number s.binding + type_number s.kind
  visibility : symbol.other ≡ visibility_number s.visibility
  section : symbol.section ≡ section_index_of headers s.section
  value : symbol.value ≡ s.value
  size : symbol.size ≡ s.size

says : (headers : List ℕ) (name : ℕ) (s : SymbolEntry) → SymbolFits s → name < 2 ^ 32 → section_index_of headers s.section < 2 ^ 16
    → Says (symbol_in (symbol_bytes headers name s)) headers name s
unfolding symbol_in half_at word_at xword_at half word xword
says headers name s fits low few = record {
  text = word_read name [] low;
  info = refl;
  visibility = refl;
  section = half_read (section_index_of headers s.section) [] few;
  value = xword_read s.value [] fits.value;
  size = xword_read s.size [] fits.size;
}

small_type : (kind : SymbolType) → type_number kind < 16
small_type type.NoType = omega arith
small_type type.Object = omega arith
small_type type.Function = omega arith
small_type type.Section = omega arith
small_type type.File = omega arith
small_type type.Common = omega arith
small_type type.Tls = omega arith

high_half : (binding kind : ℕ) → kind < 16 → (16 * binding + kind) / 16 ≡ binding
high_half binding kind low = omega arith

low_half : (binding kind : ℕ) → kind < 16 → (16 * binding + kind) % 16 ≡ kind
low_half binding kind low = omega arith

-- the indices of headers end before that of the symbol table
pub index_below : (index : ℕ) (found : List (List Relocation)) (number : ℕ) → slice_index_or (header_indices_from index found) number 0 ≤ next_header index found
index_below index [] number = omega arith
index_below index (own ∷ found) zero =
    let later : index + header_count own ≤ next_header (index + header_count own) found = next_behind (index + header_count own) found in
    omega arith
index_below index (own ∷ found) (suc number) = index_below (index + header_count own) found number

-- the group that the symbol stands in is one of so many
abbrev pub IsGroupBelow : ℕ → SymbolSection → Type 0
IsGroupBelow count Undefined = Unit {0}
IsGroupBelow count Absolute = Unit {0}
IsGroupBelow count Common = Unit {0}
IsGroupBelow count (InSection number) = Unit {0}
IsGroupBelow count (InGroup index) = index < count

abbrev IsBelow : ℕ → SymbolEntry → Type 0
IsBelow count entry = IsGroupBelow count entry.section

-- so it is with each of these
abbrev AreBelow : ℕ → List SymbolEntry → Type 0
AreBelow count entries = (i : ℕ) (entry : SymbolEntry) → slice_get entries i ≡ Some entry → IsBelow count entry

files_below : (count : ℕ) (files : List Name) → AreBelow count (map file_entry files)
files_below count [] i entry is = absurd cc
files_below count (name ∷ files) zero entry is = let same : file_entry name ≡ entry = cc in subst (IsBelow count) same tt
files_below count (name ∷ files) (suc i) entry is = files_below count files i entry is

own_below : (count number : ℕ) (marks : List Bool) → AreBelow count (section_entries number marks)
own_below count number [] i entry is = absurd cc
own_below count number (true ∷ marks) zero entry is = let same : section_entry number ≡ entry = cc in subst (IsBelow count) same tt
own_below count number (true ∷ marks) (suc i) entry is = own_below count (number + 1) marks i entry is
own_below count number (false ∷ marks) i entry is = own_below count (number + 1) marks i entry is

-- a symbol of the source stands in no group
label_below : (count : ℕ) (told : Told) (more : ℕ) → IsGroupBelow count (value_or_undefined (label_value told more)).section
label_below count (label section address) more = tt
label_below count absent more = tt
label_below count (constant number) more = tt
label_below count (form made) more = tt

form_below : (count : ℕ) (map : SymbolMap) (sections : LaidSections) (terms : List Term) (number : ℕ) → IsGroupBelow count (value_or_undefined (form_value map sections terms number)).section
form_below count map sections [] number = tt
form_below count map sections (term ∷ []) number = by_test (term.coefficient == 1)
  where
    by_test : (b : Bool) → IsGroupBelow count (value_or_undefined (cond b (label_value (final_told map sections term.symbol) number) None)).section
    by_test true = label_below count (final_told map sections term.symbol) number
    by_test false = tt
form_below count map sections (first ∷ second ∷ more) number = tt

value_below : (count : ℕ) (map : SymbolMap) (sections : LaidSections) (what : Meaning) → IsGroupBelow count (value_or_undefined (symbol_value_of map sections what)).section
value_below count map sections meaning.Undefined = tt
value_below count map sections (meaning.Label spot) = tt
value_below count map sections (meaning.Space spot) = tt
value_below count map sections (meaning.Common size align) = tt
value_below count map sections (meaning.Assigned made) = form_below count map sections (final_form map sections made).terms (final_form map sections made).constant

-- so it is with each of those that are there
abbrev SomeBelow : ℕ → List (Option SymbolEntry) → Type 0
SomeBelow count all = (i : ℕ) (entry : SymbolEntry) → slice_get all i ≡ Some (Some entry) → IsBelow count entry

one_below : (count : ℕ) (map : SymbolMap) (sections : LaidSections) (mark thread : Bool) (symbol : Symbol) (entry : SymbolEntry) → listed map sections mark thread symbol ≡ Some entry → IsBelow count entry
unfolding listed
one_below count map sections mark thread symbol entry is =
    let there = value_or_undefined (symbol_value_of map sections symbol.meaning) in
    kept (needs_naming symbol there && not (mark || is_named_by_group sections symbol there)) (entry_at map sections thread symbol there) (value_below count map sections symbol.meaning) is
  where
    kept : (b : Bool) (made : SymbolEntry) → IsBelow count made → cond b None (Some made) ≡ Some entry → IsBelow count entry
    kept true made below is = absurd cc
    kept false made below is = let same : made ≡ entry = cc in subst (IsBelow count) same below

all_below : (count : ℕ) (map : SymbolMap) (sections : LaidSections) (marks threads : List Bool) (symbols : List Symbol) → SomeBelow count (listed_by map sections marks threads symbols)
all_below count map sections [] threads symbols i entry is = absurd cc
all_below count map sections (mark ∷ marks) [] symbols i entry is = absurd cc
all_below count map sections (mark ∷ marks) (thread ∷ threads) [] i entry is = absurd cc
all_below count map sections (mark ∷ marks) (thread ∷ threads) (symbol ∷ symbols) zero entry is =
    let own : listed map sections mark thread symbol ≡ Some entry = cc in
    one_below count map sections mark thread symbol entry own
all_below count map sections (mark ∷ marks) (thread ∷ threads) (symbol ∷ symbols) (suc i) entry is = all_below count map sections marks threads symbols i entry is

part_below : (count : ℕ) (local : Bool) (all : List (Option SymbolEntry)) → SomeBelow count all → AreBelow count (part local all)
part_below count local [] each i entry is = absurd cc
part_below count local (None ∷ more) each i entry is = part_below count local more (λ j e at. each (suc j) e at) i entry is
part_below count local (Some s ∷ more) each i entry is = by_bound (is_bound local s) (part_below count local more (λ j e at. each (suc j) e at)) i entry is
  where
    by_bound : (b : Bool) → AreBelow count (part local more) → AreBelow count (cond b (s ∷ part local more) (part local more))
    by_bound true behind zero entry is = let same : s ≡ entry = cc in subst (IsBelow count) same (each 0 s refl)
    by_bound true behind (suc i) entry is = behind i entry is
    by_bound false behind i entry is = behind i entry is

signatures_below : (count : ℕ) (symbols : SymbolMap) (sections : LaidSections) (index : ℕ) (groups : List Group) → index + length groups ≤ count → AreBelow count (signature_entries symbols (standings symbols sections (named_targets symbols sections)) index groups)
signatures_below count symbols sections index [] few i entry is = absurd cc
signatures_below count symbols sections index (group ∷ groups) few i entry is =
    by_listed (is_signature_listed symbols (standings symbols sections (named_targets symbols sections)) group.signature) (signatures_below count symbols sections (index + 1) groups (omega (arith, few))) i entry is
  where
    rest : List SymbolEntry
    rest = signature_entries symbols (standings symbols sections (named_targets symbols sections)) (index + 1) groups

    by_listed : (b : Bool) → AreBelow count rest → AreBelow count (cond b [] (signature_entry index group.signature ∷ []) ++ rest)
    by_listed true behind i entry is = behind i entry is
    by_listed false behind zero entry is =
        let same : signature_entry index group.signature ≡ entry = cc in
        let low : index < count = omega (arith, few) in
        subst (IsBelow count) same low
    by_listed false behind (suc i) entry is = behind i entry is

table_below : (symbols : SymbolMap) (sections : LaidSections) → AreBelow (length (groups_of sections)) (table_in symbols sections)
unfolding table_of
table_below symbols sections =
    let named = named_targets symbols sections in
    let all = listed_all symbols sections named in
    let count = length (groups_of sections) in
    let each = all_below count symbols sections named.symbols named.thread_locals symbols.symbols in
    let files = map file_entry symbols.files in
    let own = section_entries 0 named.sections in
    let signatures = own_signatures symbols sections named in
    in_parts (IsBelow count) (files ++ own ++ part true all ++ signatures) (part false all)
    (in_parts (IsBelow count) (files ++ own ++ part true all) signatures
    (in_parts (IsBelow count) (files ++ own) (part true all)
    (in_parts (IsBelow count) files own (files_below count symbols.files) (own_below count 0 named.sections))
    (part_below count true all each))
    (signatures_below count symbols sections 0 (groups_of sections) (omega arith)))
    (part_below count false all each)

index_small : (symbols : SymbolMap) (sections : LaidSections) (at : SymbolSection) → ObjectFits symbols sections → IsGroupBelow (length (groups_of sections)) at
    → section_index_of (header_indices sections (relocations_of symbols sections)) at < 2 ^ 16
index_small symbols sections Undefined fits below = omega arith
index_small symbols sections Absolute fits below = omega arith
index_small symbols sections Common fits below = omega arith
index_small symbols sections (InGroup index) fits below =
    let few : symbol_table_index symbols sections + 3 < 2 ^ 16 = fits.header_count in
    let behind : first_header sections ≤ symbol_table_index symbols sections = next_behind (first_header sections) (relocations_of symbols sections) in
    omega (arith, few, behind, below)
index_small symbols sections (InSection number) fits below =
    let few : symbol_table_index symbols sections + 3 < 2 ^ 16 = fits.header_count in
    let low : slice_index_or (header_indices sections (relocations_of symbols sections)) number 0 ≤ symbol_table_index symbols sections = index_below (first_header sections) (relocations_of symbols sections) number in
    omega arith

-- the bytes of the symbol table
pub table_read : (symbols : SymbolMap) (sections : LaidSections) → ObjectFits symbols sections
    → content_at (image_of symbols sections) (symbol_table_index symbols sections) ≡ Some (symbol_table_of (header_indices sections (relocations_of symbols sections)) (table_in symbols sections))
table_read symbols sections fits =
    content_read (image_of symbols sections) (symbol_table_index symbols sections) (symbol_table_section symbols sections) (symbol_tables_read symbols sections fits).0

-- the name that a symbol's entry leads to
name_read : (symbols : SymbolMap) (sections : LaidSections) (symbol : SymbolRecord) (name : List ℕ) → ObjectFits symbols sections
    → NameAt (string_table_of (symbol_names (table_in symbols sections))) symbol.name name → list_all is_no_end name ≡ true
    → read_symbol_name (image_of symbols sections) (symbol_table_index symbols sections) symbol ≡ Some name
name_read symbols sections symbol name fits there all =
    let image = image_of symbols sections in
    let at = symbol_table_index symbols sections in
    let table = string_table_of (symbol_names (table_in symbols sections)) in
    let read = symbol_tables_read symbols sections fits in
    let first = read.0 in
    ap (option_and_then (linked_text image symbol.name)) first.found
    ∙ ap (λ n. option_and_then (λ (bytes : List ℕ). text_from bytes symbol.name) (content_at image n)) first.describes.link
    ∙ ap (option_and_then (λ (bytes : List ℕ). text_from bytes symbol.name)) (content_read image (at + 1) (symbol_names_section symbols sections) read.1)
    ∙ text_read table symbol.name name there all

-- the name of an entry stands among the names
own_name : (table : List SymbolEntry) (index : ℕ) (s : SymbolEntry) → slice_get table index ≡ Some s → slice_get (symbol_names table) index ≡ Some s.name
unfolding symbol_names
own_name table index s is = slice_get-map (λ (e : SymbolEntry). e.name) table index ∙ ap (option_map (λ (e : SymbolEntry). e.name)) is

pub symbols_read : SymbolsRead
symbols_read symbols sections index entry fits is =
    let image = image_of symbols sections in
    let at = symbol_table_index symbols sections in
    let headers = header_indices sections (relocations_of symbols sections) in
    let table = table_in symbols sections in
    let bytes = symbol_table_of headers table in
    let texts = string_table_of (symbol_names table) in
    let name = name_of table index in
    let symbol = symbol_in (symbol_bytes headers name entry) in
    let there = name_there (symbol_names table) index entry.name (own_name table index entry is) in
    let inside : name < length texts = begins_within texts name entry.name there in
    let small : length texts < 2 ^ 32 = fits.symbol_names_size in
    let own = says headers name entry (fits.symbol_values index entry is) (omega arith) (index_small symbols sections entry.section fits (table_below symbols sections index entry is)) in
    let kind = small_type entry.kind in
    record {
      symbol = symbol;
      found = ap (option_and_then (λ (xs : List ℕ). symbol_record xs (index + 1))) (table_read symbols sections fits)
          ∙ record_read bytes (index + 1) (symbol_bytes headers name entry) (entry_stands headers table index entry is) (entry_long headers name entry);
      binding = ap (λ n. n / 16) own.info ∙ high_half (binding_number entry.binding) (type_number entry.kind) kind;
      kind = ap (λ n. n % 16) own.info ∙ low_half (binding_number entry.binding) (type_number entry.kind) kind;
      visibility = own.visibility;
      section = own.section;
      value = own.value;
      size = own.size;
      name = λ all. name_read symbols sections symbol entry.name fits (subst (λ n. NameAt texts n entry.name) (sym own.text) there) all;
    }

pub null_symbols_read : NullSymbolsRead
null_symbols_read symbols sections fits =
    ap (option_and_then (λ (xs : List ℕ). symbol_record xs 0)) (table_read symbols sections fits)
    ∙ null_record (header_indices sections (relocations_of symbols sections)) (table_in symbols sections)

record_past : (bytes : List ℕ) (number : ℕ) → length bytes < 24 * number + 24 → symbol_record bytes number ≡ None
unfolding symbol_record
record_past bytes number past = ap (option_map symbol_in) (piece_past bytes (24 * number) 24 past)

pub symbols_end : SymbolsEnd
symbols_end symbols sections number fits past =
    let headers = header_indices sections (relocations_of symbols sections) in
    let table = table_in symbols sections in
    let long : length (symbol_table_of headers table) ≡ 24 * (length table + 1) = table_long headers table in
    ap (option_and_then (λ (xs : List ℕ). symbol_record xs number)) (table_read symbols sections fits)
    ∙ record_past (symbol_table_of headers table) number (omega arith)
