-- The types of relocations, as the psABI has them (psABI for AMD64, section 4.4, table 4.9, "Relocation Types").
use Rattle.std.specs.Prelude.{ℕ, Bool, true, false, nat_eq, List, [], ◌∷◌, Option}
use Rattle.std.specs.Map.{lookup}

-- what a calculation takes for the symbol: S, its address; L, the place of its entry in the procedure linkage table;
-- G + GOT, the place of its entry in the global offset table; the place of the entry there that has its offset from the
-- thread pointer; and that offset
pub data Operand : Type 0 where
  symbol_address : Operand
  linkage_entry : Operand
  table_entry : Operand
  thread_entry : Operand
  thread_offset : Operand

-- what the linker has to verify of a value that it cuts to a field: nothing that the psABI says, or that the field,
-- extended by zeros or by its sign, is the value
pub data Check : Type 0 where
  unsaid : Check
  zero_extended : Check
  sign_extended : Check

-- a row of the table: the bytes of the field, what the calculation takes for the symbol, whether P, the place of the
-- field, is taken from the sum, and what the linker verifies
pub record RelocationType : Type 0 where
  pub bytes : ℕ
  pub operand : Operand
  pub relative : Bool
  pub check : Check

-- the operand and the addend: S + A
abbrev pub absolute : ℕ → Operand → Check → RelocationType
absolute bytes operand check = record { bytes = bytes; operand = operand; relative = false; check = check }

-- the operand and the addend, less the place: S + A - P
abbrev pub relative : ℕ → Operand → RelocationType
relative bytes operand = record { bytes = bytes; operand = operand; relative = true; check = unsaid }

-- the rows by their numbers: R_X86_64_64, PC32, PLT32, GOTPCREL, 32, 32S, 16, PC16, 8, PC8, GOTTPOFF, TPOFF32 and PC64
unfoldable pub relocation_types : List (ℕ × RelocationType)
relocation_types =
    (1, absolute 8 symbol_address unsaid)  -- R_X86_64_64: word64, S + A
    ∷ (2, relative 4 symbol_address)  -- R_X86_64_PC32: word32, S + A - P
    ∷ (4, relative 4 linkage_entry)  -- R_X86_64_PLT32: word32, L + A - P
    ∷ (9, relative 4 table_entry)  -- R_X86_64_GOTPCREL: word32, G + GOT + A - P
    ∷ (10, absolute 4 symbol_address zero_extended)  -- R_X86_64_32: word32, S + A
    ∷ (11, absolute 4 symbol_address sign_extended)  -- R_X86_64_32S: word32, S + A
    ∷ (12, absolute 2 symbol_address unsaid)  -- R_X86_64_16: word16, S + A
    ∷ (13, relative 2 symbol_address)  -- R_X86_64_PC16: word16, S + A - P
    ∷ (14, absolute 1 symbol_address unsaid)  -- R_X86_64_8: word8, S + A
    ∷ (15, relative 1 symbol_address)  -- R_X86_64_PC8: word8, S + A - P
    ∷ (22, relative 4 thread_entry)  -- R_X86_64_GOTTPOFF: word32
    ∷ (23, absolute 4 thread_offset unsaid)  -- R_X86_64_TPOFF32: word32
    ∷ (24, relative 8 symbol_address)  -- R_X86_64_PC64: word64, S + A - P
    ∷ []

-- the type of this number, which an entry of a table of relocations has in the low half of r_info
abbrev pub relocation_type : ℕ → Option RelocationType
relocation_type number = lookup (nat_eq number) relocation_types
