-- A small object meets what the laws take for granted, by computing.
use Rattle.std.proofs.Common.{◌≡◌, ℕ, zero, suc, ◌^◌, ◌≤◌, [], ◌∷◌, None, Some, length, refl, ap, ◌∙◌, arith, subst, codes}
use Rattle.std.specs.Prelude.{slice_get}
use Rattle.std.proofs.lemmas.List.Elements.{All-nil, All-cons}
use Rattle.asm_expr.specs.declared.naming.Name.TheVariants.{Plain}
use Rattle.asm_frags.specs.Groups.{HasShortSignature, groups_of}
use Rattle.asm_frags.specs.SectionOf.{SectionOf}
use Rattle.asm_symbols.specs.declared.entries.Binding.TheVariants.{Global}
use Rattle.asm_symbols.specs.declared.entries.Meaning.TheVariants.{Label}
use Rattle.asm_symbols.specs.declared.entries.Symbol.{Symbol}
use Rattle.asm_symbols.specs.Interning.{names_size}
use Rattle.asm_symbols.specs.SymbolMap.{SymbolMap}
use Rattle.asm_relax.specs.Final.{address_of, shift_in, section_size}
use Rattle.asm_relax.specs.Settling.{LaidItem, LaidSections}
use Rattle.elf_file.specs.Fields.{half, word, xword}
use Rattle.elf_file.specs.Image.{all_names, with_names, file_with, file_of, header_table, null_header, elf_header}
use Rattle.elf_file.specs.Sections.{section_names}
use Rattle.elf_file.specs.StringTable.{string_table_of, name_offsets}
use Rattle.elf_symbols.specs.Limits.{SymbolFits}
use Rattle.elf_symbols.specs.SymbolTable.{SymbolEntry, listed, table_of, symbol_names, symbol_table_of}
use Rattle.elf_symbols.specs.Aliases.{said_along, symbol_kind, symbol_size}
use Rattle.elf_object.specs.Contents.{filled, interleaved, section_bytes}
use Rattle.elf_object.specs.Image.{before_names, image_of, image_with}
use Rattle.elf_object.specs.Limits.{SourceFits}
use Rattle.elf_object.specs.Naming.{named_of}
use Rattle.elf_object.specs.TableLaws.{table_in}
use Rattle.object_laws.proofs.FileParts.{bodies, file_long}
use Rattle.object_laws.proofs.ObjectParts.{image_is}
use Rattle.object_laws.specs.ObjectLimits.{ObjectFits, entries_of}
use Rattle.object_laws.specs.SmallSources.{IsSmallSource}

-- `.globl f`, `f:`
abbrev f : Symbol
f = record {
  name = Plain (codes "f");
  meaning = Label (record { place = record { section = 0; place = record { item = 0; offset = 0 } }; stretch = 0; at = 0 });
  binding = Some Global;
  kind = None;
  size = None;
  sized = 0;
  visibility = None;
}

-- with `.file "a.c"`
abbrev symbols : SymbolMap
symbols = record { symbols = f ∷ []; files = Plain (codes "a.c") ∷ []; counts = []; sizes = 0 }

-- `.text`, `nop`, `ret`
abbrev text : SectionOf LaidItem
text = record { name = codes ".text"; flags = record { 0 = 6 }; kind = 1; entry_size = 0; group = None; bytes = 0x90 ∷ 0xc3 ∷ []; fields = []; items = [] }

abbrev sections : LaidSections
sections = text ∷ []

two_symbols : length (table_in symbols sections) ≡ 2
unfolding groups_of table_of named_of listed address_of shift_in symbol_kind symbol_size said_along
two_symbols = refl

symbol_names_small : length (string_table_of (symbol_names (table_in symbols sections))) ≡ 7
unfolding groups_of table_of named_of listed address_of shift_in symbol_kind symbol_size said_along symbol_names string_table_of
symbol_names_small = refl

section_names_small : length (string_table_of (all_names (entries_of symbols sections))) ≡ 33
unfolding groups_of before_names all_names section_names string_table_of
section_names_small = refl

three_entries : length (entries_of symbols sections) ≡ 3
unfolding groups_of before_names
three_entries = refl

bodies_size : length (bodies (entries_of symbols sections)) ≡ 120
unfolding groups_of image_of image_with before_names file_with file_of header_table null_header elf_header half word xword name_offsets all_names section_names with_names string_table_of filled interleaved symbol_table_of table_of named_of listed address_of shift_in symbol_kind symbol_size said_along symbol_names section_size section_bytes
bodies_size = refl

size : length (image_of symbols sections) ≡ 504
size =
    let long = file_long (entries_of symbols sections) in
    let few = three_entries in
    ap length (image_is symbols sections) ∙ (let sum : length (file_with (entries_of symbols sections)) ≡ 504 = omega (arith, bodies_size) in sum)

-- all numbers of the object fit
fits : ObjectFits symbols sections
unfolding groups_of table_of named_of listed address_of shift_in symbol_kind symbol_size said_along
fits = record {
  source_sections = λ i s is. each i s is;
  symbol_values = λ i s is. all i s is;
  header_count = omega arith;
  symbol_count = omega (arith, two_symbols);
  symbol_names_size = omega (arith, symbol_names_small);
  section_names_size = omega (arith, section_names_small);
  file_size = omega (arith, size);
}
  where
    each : (i : ℕ) (s : SectionOf LaidItem) → slice_get sections i ≡ Some s → SourceFits s
    each zero s is = let same : text ≡ s = cc in subst SourceFits same (record { kind = omega arith; flags = omega arith; flagged = refl; alignment = omega arith; entry_size = omega arith })
    each (suc i) s is = absurd cc

    all : (i : ℕ) (s : SymbolEntry) → slice_get (table_in symbols sections) i ≡ Some s → SymbolFits s
    all zero s is = grind arith
    all (suc zero) s is = grind arith
    all (suc (suc i)) s is = absurd cc

names_taken : names_size symbols ≡ 6
names_taken = refl

-- its source is small
small : IsSmallSource symbols sections
unfolding groups_of
small = record {
  section_count = omega arith;
  section_names = All-cons (λ (section : SectionOf LaidItem). length section.name ≤ 2 ^ 16) text [] (omega arith) (All-nil (λ (section : SectionOf LaidItem). length section.name ≤ 2 ^ 16));
  signatures = All-nil HasShortSignature;
  symbol_count = omega arith;
  name_bytes = omega (arith, names_taken);
}
