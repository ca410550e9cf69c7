-- Room in the items of direct jumps for what their fields hold, and what may be said behind the
-- targets of branches.
use Rattle.std.specs.Prelude.{◌≡◌, ◌⊎◌, ℕ, true, List, All, Option, None, Some, Ok, slice_get}
use Rattle.asm_base.specs.Tokens.{SpelledToken}
use Rattle.asm_base.specs.declared.positions.Pos.{Pos}
use Rattle.asm_expr.specs.Forms.{Form}
use Rattle.asm_symbols.specs.SymbolMap.{SymbolMap}
use Rattle.asm_frags.specs.declared.fields.Field.{Field}
use Rattle.asm_frags.specs.Substituting.{substituted_field}
use Rattle.asm_frags.specs.Writing.{LooseSection}
use Rattle.item_bytes.specs.declared.jumps.Condition.{Condition}
use Rattle.item_contents.specs.declared.kinds.Growth.TheVariants.{Jump}
use Rattle.x86_insn.specs.declared.amounts.FieldKind.TheVariants.{Branch}
use Rattle.x86_insn.specs.declared.amounts.Suffix.TheVariants.{Plt}
use Rattle.assigned_forms.specs.Linked.{linked}
use Rattle.asm_relax.specs.ItemValues.{IsInItem}
use Rattle.asm_relax.specs.SettledRoom.{HasRoomFor}
use Rattle.asm_relax.specs.Settling.{LooseSections, LaidSections, planned}
use Rattle.elf_object.specs.Objects.{object_of}
use Rattle.att_insns.specs.InsnTexts.{InsnText}
use Rattle.asm_values.specs.State.{Placed}
use Rattle.asm_place.specs.Coding.{from_own_place}
use Rattle.asm_place.specs.JumpPlaces.{IsJumpPut}
use Rattle.asm_place.specs.SymbolPlaces.{HasItems, MeaningStands}
use Rattle.place_laws.specs.Jumps.{laid_jump_field}
use Rattle.code_laws.specs.Sections.{IsLoadedLater}
use Rattle.target_laws.specs.Targets.{NamesNoField, AreExpandable}
use Rattle.target_laws.specs.Jumps.{jump_length}

-- the symbols stand in these sections: assigned ones can be put into forms, which name no symbol
-- above the last number, and each that has a place stands in a section that is there, behind some
-- of its items
pub record StandIn (symbols : SymbolMap) (sections : LooseSections) : Type 0 where
  pub expandable : AreExpandable symbols
  pub last : ℕ
  pub stand : All (λ symbol. MeaningStands sections last symbol.meaning) symbols.symbols

-- the field is that of a branch: it holds a target less its own place
pub record HoldsTarget (field : Field) : Type 0 where
  pub kind : field.role.kind ≡ Branch
  pub target : Form
  pub plain : NamesNoField target
  pub form : field.form ≡ from_own_place target

-- the field stands in the item of a direct jump, and counts from its end
pub record IsJumpField (field : Field) : Type 0 where
  pub in_item : field.in_item ≡ true
  pub behind : field.role.behind ≡ 0
  pub holds : HoldsTarget field

-- such a field of sections in which symbols stand is in its item in a layout of them, where its own
-- place stands there
abbrev pub JumpFieldsStand : Type 0
JumpFieldsStand = (symbols : SymbolMap) (sections : LooseSections) (field : Field)
    → StandIn symbols sections → HasItems sections field.section field.item → IsJumpField field
    → IsInItem symbols (planned symbols sections) (substituted_field (linked symbols) field)

-- the item of a direct jump that was put has room for what its field holds, where its section is
-- loaded in a layout of later sections in which symbols stand. Its target names no place of a field
abbrev pub JumpsHaveRoom : Type 0
JumpsHaveRoom = (symbols : SymbolMap) (laid : LaidSections) (pos : Pos)
    (tokens : List SpelledToken) (text : InsnText) (condition : Option Condition)
    (before placed : Placed) (code : List ℕ)
    (put : IsJumpPut pos tokens text condition before placed)
    (loaded : IsLoadedLater symbols laid before.current placed.sections code)
    → StandIn symbols loaded.later → NamesNoField put.jump.forms.displacement
    → HasRoomFor symbols laid (Jump condition) (jump_length laid before)
    (laid_jump_field symbols pos tokens text condition before placed put)

-- where there is an object, `@PLT` is said of the target of each branch, or nothing is: the linker
-- has no relocation for a branch with another suffix
abbrev pub BranchesAreSaid : Type 0
BranchesAreSaid = (symbols : SymbolMap) (laid : LaidSections) (number index : ℕ)
    (sections : List LooseSection) (section : LooseSection) (code object : List ℕ) (field : Field)
    → IsLoadedLater symbols laid number sections code → object_of symbols laid ≡ Ok object
    → AreExpandable symbols → slice_get sections number ≡ Some section
    → slice_get section.fields index ≡ Some field → HoldsTarget field
    → (field.role.suffix ≡ None) ⊎ (field.role.suffix ≡ Some Plt)
