-- What holds of the symbol table of each object.
use Rattle.std.specs.Prelude.{◌≡◌, ℕ, ◌-◌, ◌<◌, true, not, List, Some, length, take, drop, slice_get}
use Rattle.std.specs.List.{list_all}
use Rattle.asm_symbols.specs.SymbolMap.{SymbolMap}
use Rattle.asm_relax.specs.Settling.{LaidSections}
use Rattle.elf_object.specs.declared.relocations.Relocation.{Relocation}
use Rattle.elf_symbols.specs.declared.targets.Target.{Target}
use Rattle.elf_symbols.specs.declared.targets.Target.TheVariants.{OfSection, OfSymbol}
use Rattle.elf_object.specs.Contents.{relocations_of}
use Rattle.elf_symbols.specs.Targets.{NamedOf}
use Rattle.elf_object.specs.Naming.{named_of}
use Rattle.elf_symbols.specs.Numbers.{first_other, numbers_of, target_number}
use Rattle.elf_symbols.specs.SymbolTable.{SymbolEntry, is_local_entry, section_entry, listed_all, table_of}

-- what the relocations of the sections name
abbrev pub named_targets : SymbolMap → LaidSections → NamedOf
named_targets symbols sections = named_of (relocations_of symbols sections) (length symbols.symbols)

-- the entries of the symbol table behind the null symbol
abbrev pub table_in : SymbolMap → LaidSections → List SymbolEntry
table_in symbols sections = table_of symbols sections (named_targets symbols sections)

-- sh_info counts the null symbol and the local ones
abbrev pub info_in : SymbolMap → LaidSections → ℕ
info_in symbols sections = first_other symbols sections (named_targets symbols sections)

-- the local symbols stand first, and sh_info is the number of the first that is not local (gABI, chapter 4, "Sections", sh_info)
abbrev pub LocalsFirst : Type 0
LocalsFirst = (symbols : SymbolMap) (sections : LaidSections)
    → (list_all is_local_entry (take (info_in symbols sections - 1) (table_in symbols sections)) ≡ true)
    × (list_all (λ s. not (is_local_entry s)) (drop (info_in symbols sections - 1) (table_in symbols sections)) ≡ true)

-- the entry of this number is the target's; the null symbol has the number 0
abbrev pub IsEntryOf : SymbolMap → LaidSections → ℕ → Target → Type 0
IsEntryOf symbols sections number (OfSection section) = (0 < number) × (slice_get (table_in symbols sections) (number - 1) ≡ Some (section_entry section))
IsEntryOf symbols sections number (OfSymbol index) =
    (entry : SymbolEntry) × (slice_get (listed_all symbols sections (named_targets symbols sections)) index ≡ Some (Some entry))
    × (0 < number) × (slice_get (table_in symbols sections) (number - 1) ≡ Some entry)

-- each relocation names a symbol that is there: the one that it means
abbrev pub TargetsStand : Type 0
TargetsStand = (symbols : SymbolMap) (sections : LaidSections) (number index : ℕ) (own : List Relocation) (r : Relocation)
    → slice_get (relocations_of symbols sections) number ≡ Some own → slice_get own index ≡ Some r
    → IsEntryOf symbols sections (target_number (numbers_of symbols sections (named_targets symbols sections)) r.target) r.target
