-- A small object with a group meets what the laws take for granted, by computing, and its group lists the section in it.
use Rattle.std.proofs.Common.{◌≡◌, ℕ, zero, suc, ◌^◌, ◌<◌, [], ◌∷◌, true, None, Some, length, refl, ap, arith, subst, codes}
use Rattle.std.specs.Prelude.{slice_get}
use Rattle.asm_expr.specs.declared.naming.Name.TheVariants.{Plain}
use Rattle.asm_frags.specs.declared.groups.Group.{Group}
use Rattle.asm_frags.specs.Groups.{groups_of}
use Rattle.asm_frags.specs.SectionOf.{SectionOf}
use Rattle.asm_symbols.specs.declared.entries.Meaning.TheVariants.{Undefined}
use Rattle.asm_symbols.specs.declared.entries.Symbol.{Symbol}
use Rattle.asm_symbols.specs.SymbolMap.{SymbolMap}
use Rattle.asm_relax.specs.Final.{address_of, shift_in, section_size}
use Rattle.asm_relax.specs.Settling.{LaidItem, LaidSections}
use Rattle.elf_file.specs.Fields.{half, word, xword}
use Rattle.elf_file.specs.Image.{all_names, with_names, file_with, file_of, header_table, null_header, elf_header}
use Rattle.elf_file.specs.Sections.{section_names}
use Rattle.elf_file.specs.StringTable.{string_table_of, name_offsets}
use Rattle.elf_symbols.specs.Limits.{SymbolFits}
use Rattle.elf_symbols.specs.SymbolTable.{SymbolEntry, listed, table_of, symbol_names, symbol_table_of}
use Rattle.elf_symbols.specs.Aliases.{said_along, symbol_kind, symbol_size}
use Rattle.elf_object.specs.Contents.{filled, interleaved, section_bytes, relocations_of}
use Rattle.elf_object.specs.Image.{before_names, image_of, image_with}
use Rattle.elf_object.specs.Limits.{SourceFits}
use Rattle.elf_object.specs.Naming.{named_of}
use Rattle.elf_object.specs.Sections.{members_of}
use Rattle.elf_object.specs.TableLaws.{table_in}
use Rattle.object_laws.proofs.FileParts.{bodies, file_long}
use Rattle.object_laws.proofs.ObjectParts.{image_is}
use Rattle.object_laws.proofs.GroupReads.{groups_read}
use Rattle.object_laws.specs.GroupReading.{GroupRead}
use Rattle.object_laws.specs.ObjectLimits.{ObjectFits, entries_of}

-- the signature `s`, which nothing defines
abbrev s : Symbol
s = record { name = Plain (codes "s"); meaning = Undefined; binding = None; kind = None; size = None; sized = 0; visibility = None }

abbrev symbols : SymbolMap
symbols = record { symbols = s ∷ []; files = []; counts = []; sizes = 0 }

abbrev group : Group
group = record { signature = codes "s"; comdat = true }

-- `.text`
abbrev text : SectionOf LaidItem
text = record { name = codes ".text"; flags = record { 0 = 6 }; kind = 1; entry_size = 0; group = None; bytes = []; fields = []; items = [] }

-- `.section .d,"awG",@progbits,s,comdat`, `.byte 1`
abbrev member : SectionOf LaidItem
member = record { name = codes ".d"; flags = record { 0 = 0x203 }; kind = 1; entry_size = 0; group = Some group; bytes = 1 ∷ []; fields = []; items = [] }

abbrev sections : LaidSections
sections = text ∷ member ∷ []

-- the header of the group has the index 1, that of `.text` 2, and that of `.d` 3
members : members_of (codes "s") sections (relocations_of symbols sections) ≡ 3 ∷ []
unfolding groups_of
members = refl

one_symbol : length (table_in symbols sections) ≡ 1
unfolding groups_of table_of named_of listed address_of shift_in symbol_kind symbol_size said_along
one_symbol = refl

symbol_names_small : length (string_table_of (symbol_names (table_in symbols sections))) ≡ 3
unfolding groups_of table_of named_of listed address_of shift_in symbol_kind symbol_size said_along symbol_names string_table_of
symbol_names_small = refl

section_names_small : length (string_table_of (all_names (entries_of symbols sections))) ≡ 43
unfolding groups_of before_names all_names section_names string_table_of
section_names_small = refl

five_entries : length (entries_of symbols sections) ≡ 5
unfolding groups_of before_names
five_entries = refl

bodies_size : length (bodies (entries_of symbols sections)) ≡ 112
unfolding groups_of image_of image_with before_names file_with file_of header_table null_header elf_header half word xword name_offsets all_names section_names with_names string_table_of filled interleaved symbol_table_of table_of named_of listed address_of shift_in symbol_kind symbol_size said_along symbol_names section_size section_bytes
bodies_size = refl

size : length (image_of symbols sections) < 2 ^ 64
size =
    let long = file_long (entries_of symbols sections) in
    let few = five_entries in
    let same = ap length (image_is symbols sections) in
    omega (arith, long, few, same, bodies_size)

-- all numbers of the object fit
fits : ObjectFits symbols sections
unfolding groups_of table_of named_of listed address_of shift_in symbol_kind symbol_size said_along
fits = record {
  source_sections = λ i s is. each i s is;
  symbol_values = λ i s is. all i s is;
  header_count = omega arith;
  symbol_count = omega (arith, one_symbol);
  symbol_names_size = omega (arith, symbol_names_small);
  section_names_size = omega (arith, section_names_small);
  file_size = size;
}
  where
    each : (i : ℕ) (s : SectionOf LaidItem) → slice_get sections i ≡ Some s → SourceFits s
    each zero s is = let same : text ≡ s = cc in subst SourceFits same (record { kind = omega arith; flags = omega arith; flagged = refl; alignment = omega arith; entry_size = omega arith })
    each (suc zero) s is = let same : member ≡ s = cc in subst SourceFits same (record { kind = omega arith; flags = omega arith; flagged = refl; alignment = omega arith; entry_size = omega arith })
    each (suc (suc i)) s is = absurd cc

    all : (i : ℕ) (s : SymbolEntry) → slice_get (table_in symbols sections) i ≡ Some s → SymbolFits s
    all zero s is = grind arith
    all (suc i) s is = absurd cc

-- so its group is read
read : GroupRead symbols sections 1 0 group
unfolding groups_of
read = groups_read symbols sections fits 0 group refl
