-- Relocations are read back, and lead to the symbols that they mean.
use Rattle.std.proofs.Common.{◌≡◌, ℕ, zero, suc, ◌+◌, ◌-◌, ◌*◌, ◌^◌, ◌<◌, ◌&&◌, ◌||◌, not, Bool, true, false, cond, List, [], ◌∷◌, ◌++◌, Some, None, length, option_map, option_and_then, refl, sym, ap, ◌∙◌, subst, arith, append_assoc, length-append}
use Rattle.std.specs.Prelude.{slice_get}
use Rattle.asm_symbols.specs.declared.entries.Symbol.{Symbol}
use Rattle.asm_symbols.specs.SymbolMap.{SymbolMap}
use Rattle.asm_relax.specs.Settling.{LaidSections}
use Rattle.elf_file.specs.declared.reader.RelocationRecord.{RelocationRecord}
use Rattle.elf_file.specs.Fields.{word, xword, word_at, xword_at}
use Rattle.elf_file.specs.Places.{PieceAt}
use Rattle.elf_file.specs.Reader.{relocation_in, relocation_record}
use Rattle.elf_symbols.specs.declared.targets.Target.{Target}
use Rattle.elf_symbols.specs.declared.targets.Target.TheVariants.{OfSection, OfSymbol}
use Rattle.elf_symbols.specs.Numbers.{NumbersOf, numbers_of, target_number}
use Rattle.elf_symbols.specs.SymbolTable.{SymbolEntry, section_entry, text_of, entry_at, needs_naming, is_named_by_group, listed_if, value_or_undefined, listed, listed_by}
use Rattle.elf_symbols.specs.declared.symbol_values.SymbolValue.{SymbolValue}
use Rattle.elf_symbols.specs.SymbolValues.{symbol_value_of}
use Rattle.elf_object.specs.declared.relocations.Relocation.{Relocation}
use Rattle.elf_object.specs.declared.relocations.RelocationKind.{RelocationKind}
use Rattle.elf_object.specs.declared.relocations.RelocationKind.TheVariants.{Direct64, Pc32, Plt32, GotPcRel, Direct32, Signed32, Direct16, Pc16, Direct8, Pc8, GotTpOff, TpOff32, Pc64}
use Rattle.elf_object.specs.Image.{image_of}
use Rattle.elf_object.specs.Relocations.{kind_number, relocation_entry}
use Rattle.elf_object.specs.Sections.{relocation_bytes}
use Rattle.elf_object.specs.TableLaws.{named_targets, table_in, IsEntryOf, TargetsStand}
use Rattle.object_laws.specs.SymbolReading.{header_index, ObjectSymbolRead}
use Rattle.object_laws.specs.RelocationReading.{relocations_section, RelocationTablesRead, IsMeant, RelocationsRead, RelocationsEnd}
use Rattle.object_laws.proofs.FieldReads.{word_read, xword_read, piece_read, piece_past}
use Rattle.object_laws.proofs.FileParts.{behind_front}
use Rattle.object_laws.proofs.SectionReads.{got_inside}
use Rattle.object_laws.proofs.ObjectParts.{placed}
use Rattle.object_laws.proofs.RelocationFit.{RelocationFits, relocations_fit}
use Rattle.object_laws.proofs.SymbolReads.{object_section, content_read, symbols_read}

pub relocation_tables_read : RelocationTablesRead
relocation_tables_read symbols sections number section own fits is also some =
    let at = placed symbols sections number section own is also in
    object_section symbols sections (at.place + 1) (header_index symbols sections number + 1) (relocations_section symbols sections number section own) fits
    (ap (λ n. n + 1) at.header) (at.behind some)

entry_long : (number : ℕ) (r : Relocation) → length (relocation_entry number r) ≡ 24
unfolding word xword
entry_long number r = refl

-- a relocation stands in the bytes of them
entry_there : (numbers : NumbersOf) (own : List Relocation) (index : ℕ) (r : Relocation) (front bytes : List ℕ) → slice_get own index ≡ Some r → bytes ≡ front ++ relocation_bytes numbers own
    → PieceAt bytes (length front + 24 * index) (relocation_entry (target_number numbers r.target) r)
entry_there numbers [] index r front bytes is all = absurd cc
entry_there numbers (t ∷ ts) zero r front bytes is all =
    let same : t ≡ r = cc in
    let place : length front ≡ length front + 24 * 0 = omega arith in
    let here = behind_front bytes front (relocation_entry (target_number numbers t.target) t) (relocation_bytes numbers ts) (length front) all refl in
    subst (λ (e : Relocation). PieceAt bytes (length front + 24 * 0) (relocation_entry (target_number numbers e.target) e)) same
    (subst (λ n. PieceAt bytes n (relocation_entry (target_number numbers t.target) t)) place here)
entry_there numbers (t ∷ ts) (suc index) r front bytes is all =
    let first = relocation_entry (target_number numbers t.target) t in
    let wide : length first ≡ 24 = entry_long (target_number numbers t.target) t in
    let later = entry_there numbers ts index r (front ++ first) bytes is (all ∙ sym (append_assoc front first (relocation_bytes numbers ts))) in
    let place : length (front ++ first) + 24 * index ≡ length front + 24 * suc index = omega (arith, length-append front first, wide) in
    subst (λ n. PieceAt bytes n (relocation_entry (target_number numbers r.target) r)) place later

record_read : (bytes : List ℕ) (index : ℕ) (entry : List ℕ) → PieceAt bytes (24 * index) entry → length entry ≡ 24 → relocation_record bytes index ≡ Some (relocation_in entry)
unfolding relocation_record
record_read bytes index entry there long = ap (option_map relocation_in) (piece_read bytes (24 * index) 24 entry there long)

small_kind : (kind : RelocationKind) → kind_number kind < 2 ^ 32
small_kind Direct64 = omega arith
small_kind Pc32 = omega arith
small_kind Plt32 = omega arith
small_kind GotPcRel = omega arith
small_kind Direct32 = omega arith
small_kind Signed32 = omega arith
small_kind Direct16 = omega arith
small_kind Pc16 = omega arith
small_kind Direct8 = omega arith
small_kind Pc8 = omega arith
small_kind GotTpOff = omega arith
small_kind TpOff32 = omega arith
small_kind Pc64 = omega arith

-- the fields of an entry
record Says (relocation : RelocationRecord) (number : ℕ) (r : Relocation) : Type 0 where
  offset : relocation.offset ≡ r.offset
  kind : relocation.kind ≡ kind_number r.kind
  symbol : relocation.symbol ≡ number
  addend : relocation.addend ≡ r.addend

says : (number : ℕ) (r : Relocation) → RelocationFits r → number < 2 ^ 32 → Says (relocation_in (relocation_entry number r)) number r
unfolding relocation_in word_at xword_at word xword
says number r fits low = record {
  offset = xword_read r.offset [] fits.offset;
  kind = word_read (kind_number r.kind) [] (small_kind r.kind);
  symbol = word_read number [] low;
  addend = xword_read r.addend [] fits.addend;
}

-- the entry of a symbol has its name
entry_named : (map : SymbolMap) (sections : LaidSections) (mark thread : Bool) (symbol : Symbol) (there : SymbolValue) (entry : SymbolEntry)
    → listed_if map sections mark thread symbol there ≡ Some entry → entry.name ≡ text_of symbol.name
entry_named map sections mark thread symbol there entry is =
    kept (needs_naming symbol there && not (mark || is_named_by_group sections symbol there)) (entry_at map sections thread symbol there) entry is
  where
    kept : (b : Bool) (made got : SymbolEntry) → cond b None (Some made) ≡ Some got → got.name ≡ made.name
    kept true made got is = absurd cc
    kept false made got is = let same : made ≡ got = cc in ap (λ (e : SymbolEntry). e.name) (sym same)

listed_named : (map : SymbolMap) (sections : LaidSections) (mark thread : Bool) (symbol : Symbol) (entry : SymbolEntry) → listed map sections mark thread symbol ≡ Some entry
    → entry.name ≡ text_of symbol.name
unfolding listed
listed_named map sections mark thread symbol entry is =
    entry_named map sections mark thread symbol (value_or_undefined (symbol_value_of map sections symbol.meaning)) entry is

-- an entry that is listed is that of the symbol of its index
pub listed_from : (map : SymbolMap) (sections : LaidSections) (marks threads : List Bool) (symbols : List Symbol) (index : ℕ) (entry : SymbolEntry)
    → slice_get (listed_by map sections marks threads symbols) index ≡ Some (Some entry)
    → (symbol : Symbol) × (slice_get symbols index ≡ Some symbol) × (entry.name ≡ text_of symbol.name)
listed_from map sections [] threads symbols index entry is = absurd cc
listed_from map sections (mark ∷ marks) [] symbols index entry is = absurd cc
listed_from map sections (mark ∷ marks) (thread ∷ threads) [] index entry is = absurd cc
listed_from map sections (mark ∷ marks) (thread ∷ threads) (symbol ∷ symbols) zero entry is =
    let own : listed map sections mark thread symbol ≡ Some entry = cc in
    (symbol, refl, listed_named map sections mark thread symbol entry own)
listed_from map sections (mark ∷ marks) (thread ∷ threads) (symbol ∷ symbols) (suc index) entry is = listed_from map sections marks threads symbols index entry is

-- the entry of the number that a relocation has
record Meant (symbols : SymbolMap) (sections : LaidSections) (target : Target) (number : ℕ) : Type 0 where
  entry : SymbolEntry
  meant : IsMeant symbols sections target entry
  some : 0 < number
  there : slice_get (table_in symbols sections) (number - 1) ≡ Some entry

meant_by : (symbols : SymbolMap) (sections : LaidSections) (target : Target) (number : ℕ) → IsEntryOf symbols sections number target → Meant symbols sections target number
meant_by symbols sections (OfSection section) number (some, there) = record { entry = section_entry section; meant = refl; some = some; there = there }
meant_by symbols sections (OfSymbol index) number (entry, is_listed, some, there) =
    let named = named_targets symbols sections in
    let (symbol, got, name) = listed_from symbols sections named.symbols named.thread_locals symbols.symbols index entry is_listed in
    record { entry = entry; meant = (symbol, got, name, is_listed); some = some; there = there }

holds_one : {A : Type 0} (xs : List A) (i : ℕ) (x : A) → slice_get xs i ≡ Some x → 0 < length xs
holds_one [] i x is = absurd cc
holds_one (y ∷ xs) i x is = omega arith

pub relocations_read : TargetsStand → RelocationsRead
relocations_read law symbols sections number index section own r fits is also there =
    let image = image_of symbols sections in
    let header = header_index symbols sections number + 1 in
    let numbers = numbers_of symbols sections (named_targets symbols sections) in
    let bytes = relocation_bytes numbers own in
    let which = target_number numbers r.target in
    let entry = relocation_entry which r in
    let target = meant_by symbols sections r.target which (law symbols sections number index own r also there) in
    let some : 0 < which = target.some in
    let inside : which - 1 < length (table_in symbols sections) = got_inside (table_in symbols sections) (which - 1) target.entry target.there in
    let few : length (table_in symbols sections) + 1 < 2 ^ 32 = fits.symbol_count in
    let own_fields = says which r (relocations_fit symbols sections 0 sections number index own r also there) (omega arith) in
    let place : 0 + 24 * index ≡ 24 * index = omega arith in
    let stands = subst (λ n. PieceAt bytes n entry) place (entry_there numbers own index r [] bytes there refl) in
    let one : which - 1 + 1 ≡ (relocation_in entry).symbol = (let back : which - 1 + 1 ≡ which = omega arith in back) ∙ sym own_fields.symbol in
    record {
      relocation = relocation_in entry;
      found = ap (option_and_then (λ (xs : List ℕ). relocation_record xs index))
          (content_read image header (relocations_section symbols sections number section own)
          (relocation_tables_read symbols sections number section own fits is also (holds_one own index r there)))
          ∙ record_read bytes index entry stands (entry_long which r);
      offset = own_fields.offset;
      kind = own_fields.kind;
      addend = own_fields.addend;
      entry = target.entry;
      meant = target.meant;
      symbol = subst (λ n. ObjectSymbolRead symbols sections n target.entry) one (symbols_read symbols sections (which - 1) target.entry fits target.there);
    }

entries_long : (numbers : NumbersOf) (own : List Relocation) → length (relocation_bytes numbers own) ≡ 24 * length own
entries_long numbers [] = omega arith
entries_long numbers (t ∷ ts) =
    let first = relocation_entry (target_number numbers t.target) t in
    let wide : length first ≡ 24 = entry_long (target_number numbers t.target) t in
    omega (arith, length-append first (relocation_bytes numbers ts), wide, entries_long numbers ts)

record_past : (bytes : List ℕ) (index : ℕ) → length bytes < 24 * index + 24 → relocation_record bytes index ≡ None
unfolding relocation_record
record_past bytes index past = ap (option_map relocation_in) (piece_past bytes (24 * index) 24 past)

pub relocations_end : RelocationsEnd
relocations_end symbols sections number index section own fits is also some past =
    let bytes = relocation_bytes (numbers_of symbols sections (named_targets symbols sections)) own in
    let long : length bytes ≡ 24 * length own = entries_long (numbers_of symbols sections (named_targets symbols sections)) own in
    ap (option_and_then (λ (xs : List ℕ). relocation_record xs index))
    (content_read (image_of symbols sections) (header_index symbols sections number + 1) (relocations_section symbols sections number section own)
    (relocation_tables_read symbols sections number section own fits is also some))
    ∙ record_past bytes index (omega arith)
