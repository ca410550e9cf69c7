-- The definition of an object at small sections and symbols, by computing.
use Rattle.std.proofs.Common.{◌≡◌, ℕ, ◌-◌, ◌^◌, false, List, [], ◌∷◌, ◌++◌, length, take, drop, codes, None, Some, Result, Ok, Err, refl}
use Rattle.std.proofs.Math.ListN.{replicate}
use Rattle.asm_expr.specs.declared.naming.Name.{Name}
use Rattle.asm_expr.specs.declared.naming.Name.TheVariants.{Plain, Place}
use Rattle.asm_expr.specs.declared.forms.Term.{Term}
use Rattle.asm_expr.specs.Forms.{term_of}
use Rattle.asm_expr.specs.Settled.{put_all, settled}
use Rattle.item_contents.specs.declared.contents.Content.TheVariants.{Run}
use Rattle.asm_frags.specs.Groups.{groups_of}
use Rattle.asm_frags.specs.declared.fields.Field.{Field}
use Rattle.asm_frags.specs.declared.fields.FieldSize.{FieldSize}
use Rattle.asm_frags.specs.declared.fields.FieldSize.TheVariants.{Four, Eight}
use Rattle.asm_frags.specs.Fields.{data_role, low_bytes}
use Rattle.asm_frags.specs.SectionOf.{SectionOf}
use Rattle.asm_frags.specs.Sections.{section_flags}
use Rattle.asm_symbols.specs.declared.entries.Symbol.{Symbol}
use Rattle.asm_symbols.specs.declared.entries.Kind.TheVariants.{Object}
use Rattle.asm_symbols.specs.declared.entries.Meaning.{Meaning}
use Rattle.asm_symbols.specs.declared.entries.Meaning.TheVariants as meaning
use Rattle.asm_symbols.specs.SymbolMap.{SymbolMap}
use Rattle.asm_relax.specs.FieldValues.{told_beside, told_in_field, held_value}
use Rattle.asm_relax.specs.Final.{shift_in, section_size, address_of, final_told, laid_value, final_form}
use Rattle.assigned_forms.specs.Expanding.{plus_terms, expanded_within, expanded}
use Rattle.asm_relax.specs.Settling.{LaidItem, LaidSections}
use Rattle.elf_object.specs.declared.faults.ObjectCause.{ObjectCause}
use Rattle.elf_file.specs.Fields.{half, word, xword}
use Rattle.elf_file.specs.StringTable.{string_table_of, name_offsets}
use Rattle.elf_object.specs.Relocations.{reference_found, field_relocation}
use Rattle.elf_object.specs.Contents.{filled, interleaved, section_bytes}
use Rattle.elf_object.specs.Faults.{fields_fault, object_fault}
use Rattle.elf_object.specs.Naming.{named_of}
use Rattle.elf_symbols.specs.Aliases.{said_along, symbol_kind, symbol_size}
use Rattle.elf_symbols.specs.SymbolTable.{listed, table_of, symbol_names, symbol_table_of}
use Rattle.elf_file.specs.Sections.{section_names}
use Rattle.elf_file.specs.Image.{null_header, header_table, elf_header, file_of, all_names, with_names, file_with}
use Rattle.elf_object.specs.Image.{before_names, image_with, image_of}
use Rattle.elf_object.specs.Objects.{object_of}

symbol : Name → Meaning → Symbol
symbol name what = record {
  name = name;
  meaning = what;
  binding = None;
  kind = None;
  size = None;
  sized = 0;
  visibility = None;
}

label : ℕ → ℕ → ℕ → Meaning
label section item offset = meaning.Label (record { place = record { section = section; place = record { item = item; offset = offset } }; stretch = 0; at = 0 })

x : Name
x = Plain (codes "x")

y : Name
y = Plain (codes "y")

-- `x` before the first byte of `.data`, `y` of another object, and the place behind eight bytes
symbols : SymbolMap
symbols = record { symbols = symbol x (label 1 0 0) ∷ symbol y meaning.Undefined ∷ symbol (Place 1 1 8) (label 1 1 8) ∷ []; files = []; counts = []; sizes = 0 }

-- the name of a file, and no symbol
one_file : SymbolMap
one_file = record { symbols = []; files = Plain (codes "q.c") ∷ []; counts = []; sizes = 0 }

-- `v` before the first byte of the section behind `.bss`, said to be an object
thread_local : SymbolMap
thread_local = record { symbols = record (symbol (Plain (codes "v")) (label 3 0 0)) { kind = Some Object } ∷ []; files = []; counts = []; sizes = 0 }

-- a field behind a run and so many bytes
field : ℕ → FieldSize → List Term → ℕ → Field
field offset size terms constant = record {
  pos = record { file = 0; line = 1 };
  item = 1;
  offset = offset;
  section = 1;
  size = size;
  role = data_role;
  in_item = false;
  form = record { terms = terms; constant = constant };
}

-- a run that begins a section
run : LaidItem
run = record { pos = record { file = 0; line = 1 }; offset = 0; content = Run; address = 0; size = 0 }

section : List ℕ → ℕ → ℕ → ℕ → List Field → List LaidItem → SectionOf LaidItem
section name flags kind count fields items = record {
  name = name;
  flags = section_flags flags;
  kind = kind;
  entry_size = 0;
  group = None;
  bytes = replicate count 0;
  fields = fields;
  items = items;
}

-- in `.data`, `.quad x+8` and `.long y-.`
sections : LaidSections
sections =
    section (codes ".text") 6 1 0 [] []
    ∷ section (codes ".data") 3 1 12 (field 0 Eight (term_of 0 1 ∷ []) 8 ∷ field 8 Four (term_of 1 1 ∷ term_of 2 (2 ^ 64 - 1) ∷ []) 0 ∷ []) (run ∷ [])
    ∷ section (codes ".bss") 3 8 0 [] [] ∷ []

no_sections : LaidSections
no_sections = section (codes ".text") 6 1 0 [] [] ∷ section (codes ".data") 3 1 0 [] [] ∷ section (codes ".bss") 3 8 0 [] [] ∷ []

-- a section that each thread has for itself
thread_sections : LaidSections
thread_sections = no_sections ++ section (codes ".tdata") 0x403 1 4 (field 0 Four [] 1 ∷ []) (run ∷ []) ∷ []

bytes_of : Result (List ℕ) ObjectCause → List ℕ
bytes_of (Ok bytes) = bytes
bytes_of (Err fault) = []

-- the length of the file; its bytes from `.data` on with the two relocations; `sh_info` of the symbol table
row : (length (bytes_of (object_of symbols sections)) ≡ 800)
    × (take 64 (drop 64 (bytes_of (object_of symbols sections))) ≡ replicate 24 0 ++ (1 ∷ 0 ∷ 0 ∷ 0 ∷ 1 ∷ []) ++ replicate 3 0 ++ (8 ∷ []) ++ replicate 7 0
    ++ (8 ∷ []) ++ replicate 7 0 ++ (2 ∷ 0 ∷ 0 ∷ 0 ∷ 3 ∷ []) ++ replicate 11 0)
    × (take 4 (drop 652 (bytes_of (object_of symbols sections))) ≡ 3 ∷ 0 ∷ 0 ∷ 0 ∷ [])
unfolding groups_of symbol label x y symbols field run section sections bytes_of put_all settled low_bytes shift_in section_size address_of final_told laid_value held_value told_in_field told_beside final_form plus_terms expanded_within expanded half word xword string_table_of name_offsets reference_found field_relocation filled interleaved section_bytes fields_fault object_fault named_of listed symbol_kind symbol_size said_along table_of section_names null_header header_table elf_header file_of symbol_names symbol_table_of before_names all_names with_names file_with image_with image_of
row = (refl, refl, refl)

-- the length of the file; its symbol 1; `sh_info` of the symbol table
row_file : (length (bytes_of (object_of one_file no_sections)) ≡ 616)
    × (take 24 (drop 88 (bytes_of (object_of one_file no_sections))) ≡ (1 ∷ 0 ∷ 0 ∷ 0 ∷ 4 ∷ 0 ∷ 0xf1 ∷ 0xff ∷ []) ++ replicate 16 0)
    × (take 4 (drop 468 (bytes_of (object_of one_file no_sections))) ≡ 2 ∷ 0 ∷ 0 ∷ 0 ∷ [])
unfolding groups_of symbol label one_file thread_local no_sections thread_sections field run section bytes_of put_all settled low_bytes shift_in section_size address_of final_told laid_value held_value told_in_field told_beside final_form plus_terms expanded_within expanded half word xword string_table_of name_offsets reference_found field_relocation filled interleaved section_bytes fields_fault object_fault named_of listed symbol_kind symbol_size said_along table_of section_names null_header header_table elf_header file_of symbol_names symbol_table_of before_names all_names with_names file_with image_with image_of
row_file = (refl, refl, refl)

-- the length of the file, and its symbol 1, which is of type TLS
row_thread : (length (bytes_of (object_of thread_local thread_sections)) ≡ 688)
    × (take 8 (drop 96 (bytes_of (object_of thread_local thread_sections))) ≡ 1 ∷ 0 ∷ 0 ∷ 0 ∷ 6 ∷ 0 ∷ 4 ∷ 0 ∷ [])
unfolding groups_of symbol label one_file thread_local no_sections thread_sections field run section bytes_of put_all settled low_bytes shift_in section_size address_of final_told laid_value held_value told_in_field told_beside final_form plus_terms expanded_within expanded half word xword string_table_of name_offsets reference_found field_relocation filled interleaved section_bytes fields_fault object_fault named_of listed symbol_kind symbol_size said_along table_of section_names null_header header_table elf_header file_of symbol_names symbol_table_of before_names all_names with_names file_with image_with image_of
row_thread = (refl, refl)
