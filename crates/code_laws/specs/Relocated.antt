-- Fields in items that a linker fills in.
use Rattle.std.specs.Prelude.{◌≡◌, ℕ, true, All, Some, Ok, slice_get}
use Rattle.x86_insn.specs.declared.amounts.FieldKind.TheVariants.{Branch}
use Rattle.asm_symbols.specs.SymbolMap.{SymbolMap}
use Rattle.asm_frags.specs.declared.fields.Field.{Field}
use Rattle.asm_frags.specs.SectionOf.{SectionOf}
use Rattle.asm_frags.specs.Writing.{LooseSection}
use Rattle.section_laws.specs.Within.{IsWithin}
use Rattle.item_rows.specs.ItemRows.{rows_of, levels_of}
use Rattle.asm_relax.specs.ItemValues.{IsInItem, AreLow}
use Rattle.asm_relax.specs.Settling.{LaidItem, LooseSections, LaidSections, planned, layout_of}
use Rattle.loaded_laws.specs.Beside.{HoldsRelocated}

-- a field that stands in the item of a direct jump, and all symbols that have a place, stand in
-- these sections
abbrev pub JumpIsInItem : SymbolMap → LaidSections → Field → Type 0
JumpIsInItem map sections field =
    field.in_item ≡ true → field.role.kind ≡ Branch → IsInItem map sections field

-- an item of a layout that holds a field with a relocation has the bytes of the field: only direct
-- jumps do, and they are near then
abbrev pub RelocatedFieldsAreHeld : Type 0
RelocatedFieldsAreHeld = (symbols : SymbolMap) (later : LooseSections) (laid : LaidSections)
    (number : ℕ) (section : LooseSection) (kept : SectionOf LaidItem)
    → layout_of symbols later ≡ Ok laid → slice_get later number ≡ Some section
    → slice_get laid number ≡ Some kept → IsWithin section
    → AreLow symbols (levels_of (rows_of symbols (planned symbols later))) (planned symbols later)
    → All (JumpIsInItem symbols (planned symbols later)) kept.fields
    → All (HoldsRelocated symbols laid number kept) kept.fields
