-- The entries of symbol tables and of tables of relocations (gABI, chapter 4, "Symbol Table" and "Relocation").
use Rattle.std.specs.Prelude.{ℕ, List, [], ◌∷◌, ◌++◌}
use Rattle.elf_file.specs.Fields.{half, word, xword}

-- an entry of a symbol table (Elf64_Sym): st_name, st_info, st_other, st_shndx, st_value and st_size
abbrev pub elf_symbol : ℕ → ℕ → ℕ → ℕ → ℕ → ℕ → List ℕ
elf_symbol name info other section value size =
    word name ++ info ∷ other ∷ [] ++ half section ++ xword value ++ xword size

-- an entry of a table of relocations (Elf64_Rela): r_offset, the low half of r_info, which is the kind, its high half, which is the symbol's number, and r_addend
abbrev pub elf_relocation : ℕ → ℕ → ℕ → ℕ → List ℕ
elf_relocation offset kind symbol addend = xword offset ++ word kind ++ word symbol ++ xword addend
