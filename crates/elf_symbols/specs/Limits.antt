-- What lets the numbers of a symbol fit their fields (gABI, chapter 4, "Data Representation").
use Rattle.std.specs.Prelude.{ℕ, ◌^◌, ◌<◌}
use Rattle.elf_symbols.specs.SymbolTable.{SymbolEntry}

-- st_value and st_size are Elf64_Xwords, as the numbers of the program are
pub record SymbolFits (entry : SymbolEntry) : Type 0 where
  pub value : entry.value < 2 ^ 64
  pub size : entry.size < 2 ^ 64
