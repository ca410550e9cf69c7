-- What the entries of tables of relocations tell (gABI, chapter 4, "Relocation").
use Rattle.std.specs.Prelude.{◌≡◌, ℕ, ◌^◌, ◌<◌}
use Rattle.elf_file.specs.Reader.{relocation_in}
use Rattle.elf_object.specs.declared.relocations.Relocation.{Relocation}
use Rattle.elf_object.specs.Relocations.{kind_number, relocation_entry}

-- read at the offsets of the gABI, the entry of a relocation, whose target has this number in the symbol table, tells
-- where the field stands, the number of the relocation's type, the symbol and the addend
abbrev pub EntriesTellTypes : Type 0
EntriesTellTypes = (symbol : ℕ) (r : Relocation) → symbol < 2 ^ 32 → r.offset < 2 ^ 64 → r.addend < 2 ^ 64
    → relocation_in (relocation_entry symbol r) ≡ record { offset = r.offset; kind = kind_number r.kind; symbol = symbol; addend = r.addend }
