-- What the suffix behind a symbol asks the linker for.
use Rattle.std.specs.Prelude.{◌≡◌, ◌↔◌, ◌⊎◌, ℕ, ◌==◌, ◌&&◌, not, Bool, true, false, Option, None, Some}
use Rattle.asm_frags.specs.declared.fields.Field.{Field}
use Rattle.asm_frags.specs.Fields.{width}
use Rattle.asm_frags.specs.SectionOf.{SectionOf}
use Rattle.asm_symbols.specs.declared.entries.Symbol.{Symbol}
use Rattle.asm_symbols.specs.SymbolMap.{SymbolMap}
use Rattle.asm_relax.specs.Settling.{LaidItem, LaidSections}
use Rattle.elf_object.specs.declared.relocations.Relocation.{Relocation}
use Rattle.elf_object.specs.Relocations.{kind_number, field_relocation}
use Rattle.x86_insn.specs.declared.amounts.FieldKind.{FieldKind}
use Rattle.x86_insn.specs.declared.amounts.FieldKind.TheVariants as field
use Rattle.x86_insn.specs.declared.amounts.Suffix.{Suffix}
use Rattle.x86_insn.specs.declared.amounts.Suffix.TheVariants.{Plt, GotPcRel, GotTpOff, TpOff}
use Rattle.object_laws.specs.RelocationTypes.{Operand, symbol_address, linkage_entry, table_entry, thread_entry, thread_offset, RelocationType, relocation_type}
use Rattle.object_laws.specs.FieldSymbols.{is_local_symbol, IsSymbolOf}

-- the field has the distance of a branch
abbrev pub is_branch : FieldKind → Bool
is_branch field.Plain = false
is_branch field.Signed = false
is_branch field.Address = false
is_branch field.Branch = true
is_branch field.Number = false

-- a branch of four bytes to a symbol that is not local: the linker may lead it through the procedure linkage table
abbrev pub is_led : Field → Symbol → Bool
is_led field symbol = is_branch field.role.kind && (width field.size == 4) && not (is_local_symbol symbol)

-- what a suffix asks for; without one it is the address of the symbol, or, for a branch that may be led, of its entry in
-- the procedure linkage table
abbrev pub operand_by : Option Suffix → Bool → Operand
operand_by None false = symbol_address
operand_by None true = linkage_entry
operand_by (Some Plt) led = linkage_entry
operand_by (Some GotPcRel) led = table_entry
operand_by (Some GotTpOff) led = thread_entry
operand_by (Some TpOff) led = thread_offset

-- which numbers stand for which suffix, and for no other: R_X86_64_PLT32, GOTPCREL, GOTTPOFF and TPOFF32
pub record IsAsked (suffix : Option Suffix) (led : Bool) (number : ℕ) : Type 0 where
  pub by_linkage : (number ≡ 4) ↔ ((suffix ≡ Some Plt) ⊎ ((suffix ≡ None) × (led ≡ true)))
  pub by_table : (number ≡ 9) ↔ (suffix ≡ Some GotPcRel)
  pub by_thread_entry : (number ≡ 22) ↔ (suffix ≡ Some GotTpOff)
  pub by_thread_offset : (number ≡ 23) ↔ (suffix ≡ Some TpOff)

-- the type is one for which the linker puts what the field asks for
pub record IsAnswered (field : Field) (symbol : Symbol) (r : Relocation) : Type 0 where
  pub asked : IsAsked field.role.suffix (is_led field symbol) (kind_number r.kind)
  pub operand : (row : RelocationType) → relocation_type (kind_number r.kind) ≡ Some row → row.operand ≡ operand_by field.role.suffix (is_led field symbol)

-- the suffix of a field decides what the linker puts in place of the symbol's address, and nothing else does but that
-- the field is of a branch that may be led
abbrev pub SuffixesAreAnswered : Type 0
SuffixesAreAnswered = (map : SymbolMap) (sections : LaidSections) (number index : ℕ) (section : SectionOf LaidItem) (field : Field) (symbol : Symbol) (r : Relocation)
    → field_relocation map sections number section field ≡ Some r → IsSymbolOf map sections field index symbol → IsAnswered field symbol r
