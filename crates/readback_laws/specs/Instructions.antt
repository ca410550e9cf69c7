-- Where the instructions of statements stand in their object, and what is read there.
use Rattle.std.specs.Prelude.{ℕ, ◌+◌, ◌-◌, ◌^◌, ◌≡◌, ◌==◌, Bool, false, List, [], ◌∷◌, ◌++◌, drop, length, Option, None, Some, unwrap_or, slice_get}
use Rattle.std.specs.Option.{option_map_or}
use Rattle.asm_base.specs.declared.positions.Pos.{Pos}
use Rattle.asm_expr.specs.Forms.{wrapped, term_of}
use Rattle.asm_expr.specs.Knowledge.{label}
use Rattle.asm_lines.specs.NextStatements.{TokenStatement}
use Rattle.asm_symbols.specs.SymbolMap.{SymbolMap}
use Rattle.asm_frags.specs.declared.fields.Field.{Field}
use Rattle.asm_frags.specs.Fields.{own_place}
use Rattle.asm_frags.specs.Substituting.{substituted_field}
use Rattle.assigned_forms.specs.Linked.{linked}
use Rattle.item_rows.specs.Links.{is_linked}
use Rattle.asm_relax.specs.FieldValues.{held_value}
use Rattle.asm_relax.specs.Final.{address_of, final_told}
use Rattle.asm_relax.specs.Settling.{LaidSections}
use Rattle.elf_file.specs.Sections.{no_bits}
use Rattle.item_bytes.specs.declared.jumps.Condition.{Condition}
use Rattle.x86_insn.specs.Views.{View}
use Rattle.x86_table.specs.Reads.{meaning, Reads}
use Rattle.x86_parts.specs.declared.encoded.Field.{Field as CodedField}
use Rattle.x86_encode.specs.Answers.{InOrder}
use Rattle.x86_parts.specs.Codes.{meant}
use Rattle.x86_parts.specs.Filling.{Coding, filled, valued, ReadsAs}
use Rattle.att_insns.specs.InsnTexts.{InsnText}
use Rattle.x86_lookup.specs.BareInstructions.{Coded}
use Rattle.asm_values.specs.State.{Placed}
use Rattle.asm_place.specs.Coding.{view_in, shape_in, values_in, displacement_field, immediate_field}
use Rattle.asm_place.specs.CodePlaces.{FieldInCode, ValueForms, insn_in, jump_in, IsCoded, field_in}
use Rattle.asm_place.specs.JumpPlaces.{IsJump, jump_form, items_so_far, jump_field, jump_written}
use Rattle.asm_place.specs.Sources.{pos_at}
use Rattle.asm_place.specs.Instructions.{instruction_of, next_item, next_offset}
use Rattle.elf_object.specs.Places.{section_offset, moved}
use Rattle.readback_laws.specs.Origins.{IsReached}

-- the bytes from this place on begin with bytes that read as this instruction only, and no other front of them reads as any
pub record ReadsAt (bytes : List ℕ) (at : ℕ) (insn : View) : Type 0 where
  pub code : List ℕ
  pub rest : List ℕ
  pub stands : drop at bytes ≡ code ++ rest
  pub reads : Reads code insn
  pub only : (front after : List ℕ) (other : View) → drop at bytes ≡ front ++ after → Reads front other
      → (other ≡ insn) × (front ≡ code)

-- the offset in the file of a place of a section: so many items and so many plain bytes stand before it
abbrev pub file_place : SymbolMap → LaidSections → ℕ → ℕ → ℕ → ℕ
file_place symbols sections number item offset =
    section_offset symbols sections number + option_map_or (λ section. moved section.items item offset) (slice_get sections number) 0

-- the place in the file of the next plain bytes of the section that statements put into
abbrev pub next_place : SymbolMap → LaidSections → Placed → ℕ
next_place symbols laid placed = file_place symbols laid placed.current (next_item placed) (next_offset placed)

-- each instruction without operands and prefix that is handed out reads back at its place, where the statements before it end
abbrev pub BareReadBack : Bool → List TokenStatement → List ℕ → SymbolMap → LaidSections → Type 0
BareReadBack no_warn handed object symbols laid =
    (s : TokenStatement) (coded : Coded) (placed : Placed) → IsReached no_warn handed s placed
    → instruction_of placed.syntax s ≡ Some coded → ReadsAt object (next_place symbols laid placed) coded.insn

-- WITH OPERANDS OR A PREFIX

-- the low bytes of this value stand in a field: its own where its symbols cancel, and else 0, in whose place the linker puts a value
abbrev pub final_value : SymbolMap → LaidSections → Field → ℕ
final_value symbols laid field = unwrap_or (held_value symbols laid (substituted_field (linked symbols) field)) 0

-- the same of the field of an encoding, and 0 where there is none
abbrev pub value_in : (FieldInCode → ℕ) → (CodedField → FieldInCode) → Option CodedField → ℕ
value_in value made None = 0
value_in value made (Some field) = value (made field)

-- the values in the two fields over the bytes of an instruction, 0 where there is no such field: that of the displacement, and that of the
-- immediate or of the distance of a branch
pub record FinalValues : Type 0 where
  pub displacement : ℕ
  pub immediate : ℕ

-- these of an encoding, by the value of each of its fields
abbrev pub final_values : (FieldInCode → ℕ) → InsnText → ValueForms → Coding → FinalValues
final_values value text forms made = record {
  displacement = value_in value (displacement_field (length made.bytes) (shape_in text) forms) made.displacement;
  immediate = value_in value (immediate_field (length made.bytes) (shape_in text) forms) made.immediate;
}

-- the bytes of an encoding with these values in its fields
abbrev pub final_code : Coding → FinalValues → List ℕ
final_code made values = filled made.immediate values.immediate (filled made.displacement values.displacement made.bytes)

-- the bytes read as the instruction with these values in place of those that were not known where it stands, its operands in the row's order
abbrev pub ReadsWith : Coding → FinalValues → View → Type 0
ReadsWith made values insn =
    ReadsAs (final_code made values) insn (valued (length made.bytes) values.displacement values.immediate insn.first)
    (valued (length made.bytes) values.displacement values.immediate insn.second) (valued (length made.bytes) values.displacement values.immediate insn.third)

-- the bytes from this place on begin with the encoding with its final values, which reads as the instruction with these (the operands of
-- `xchg` in the row's order, which reading exchanges where the accumulator stands second); no other front of them reads as any instruction
pub record CodeReadsAt (bytes : List ℕ) (at : ℕ) (insn : View) (made : Coding) (values : FinalValues) : Type 0 where
  pub rest : List ℕ
  pub stands : drop at bytes ≡ final_code made values ++ rest
  pub reads : InOrder (ReadsWith made values) insn
  pub only : (front after : List ℕ) (other : View) → drop at bytes ≡ front ++ after → Reads front other
      → (other ≡ meaning reads.2.r reads.2.p) × (front ≡ final_code made values)

-- the value of a field of the instruction that is put where these statements end
abbrev pub value_behind : SymbolMap → LaidSections → Pos → Placed → FieldInCode → ℕ
value_behind symbols laid pos placed field = final_value symbols laid (field_in pos placed.current (next_item placed) (next_offset placed) field)

-- the statement, put where these end, reads back in the object as the instruction that is meant, by its encoding there
pub record InsnReadsBack (object : List ℕ) (symbols : SymbolMap) (laid : LaidSections) (s : TokenStatement) (text : InsnText) (placed : Placed) : Type 0 where
  pub coded : IsCoded (pos_at s.file s.line) s.tokens text placed
  pub reads : CodeReadsAt object (next_place symbols laid placed) (meant (view_in text (values_in coded.forms))) coded.made
      (final_values (value_behind symbols laid (pos_at s.file s.line) placed) text coded.forms coded.made)

-- the section of this number has no bytes in the file
abbrev pub has_no_bits : LaidSections → ℕ → Bool
has_no_bits laid number = option_map_or (λ section. section.kind == no_bits) (slice_get laid number) false

-- each instruction with operands or a prefix that is handed out and is no direct jump reads back at its place, where its section has bytes in the
-- file
abbrev pub CodesReadBack : Bool → List TokenStatement → List ℕ → SymbolMap → LaidSections → Type 0
CodesReadBack no_warn handed object symbols laid =
    (s : TokenStatement) (text : InsnText) (placed : Placed) → IsReached no_warn handed s placed
    → insn_in placed.syntax s ≡ Some text → jump_in text ≡ None → has_no_bits laid placed.current ≡ false
    → InsnReadsBack object symbols laid s text placed

-- DIRECT JUMPS

-- the place in the file of the item of a jump that is put where these statements end
abbrev pub jump_place : SymbolMap → LaidSections → Placed → ℕ
jump_place symbols laid placed = file_place symbols laid placed.current (items_so_far placed) (next_offset placed)

-- the value of the field of a jump with these forms that is put where these statements end: the distance from the end of the jump to its target
-- where its symbols cancel, and else 0, in whose place the linker puts one
abbrev pub jump_value : SymbolMap → LaidSections → Pos → InsnText → ValueForms → Placed → ℕ
jump_value symbols laid pos text forms placed = final_value symbols laid (jump_field pos text (jump_form forms) placed)

-- the bytes from this place on begin with so many that read as the jump that is written over this distance; no other front of them reads as any
-- instruction
pub record JumpReadsAt (bytes : List ℕ) (at : ℕ) (text : InsnText) (distance : ℕ) : Type 0 where
  pub size : ℕ
  pub reads : ReadsAt bytes at (jump_written text size distance)
  pub ends : length reads.code ≡ size

-- the place in the file behind that item
abbrev pub jump_end : SymbolMap → LaidSections → Placed → ℕ
jump_end symbols laid placed = file_place symbols laid placed.current (items_so_far placed + 1) (next_offset placed)

-- the same place as an address of the section, as labels have it
abbrev pub end_address : LaidSections → Placed → ℕ
end_address laid placed = address_of laid placed.current (items_so_far placed + 1) (next_offset placed)

-- what the target of the jump comes to with assigned symbols but weak aliases expanded: a symbol and a number, less the place of the field
abbrev pub IsTarget : SymbolMap → ValueForms → ℕ → ℕ → Type 0
IsTarget symbols forms symbol number =
    linked symbols (jump_form forms) ≡ record { terms = term_of symbol 1 ∷ term_of own_place (2 ^ 64 - 1) ∷ []; constant = number }

-- where the target is a label of the jump's section and a number, and not the linker's to find: the address of the label and the number is the end
-- of the jump and the distance (modulo 2^64)
abbrev pub LeadsToLabel : SymbolMap → LaidSections → Pos → InsnText → ValueForms → Placed → Type 0
LeadsToLabel symbols laid pos text forms placed =
    (symbol number address : ℕ) → IsTarget symbols forms symbol number → (symbol == own_place) ≡ false
    → is_linked symbols (substituted_field (linked symbols) (jump_field pos text (jump_form forms) placed)) ≡ false
    → final_told symbols laid symbol ≡ label placed.current address
    → wrapped (end_address laid placed + jump_value symbols laid pos text forms placed) ≡ wrapped (address + number)

-- the statement, put where these end, reads back in the object as the jump that is meant, short or near: over all of its distance, to its target
pub record JumpReadsBack (object : List ℕ) (symbols : SymbolMap) (laid : LaidSections) (s : TokenStatement) (text : InsnText) (placed : Placed) : Type 0 where
  pub jump : IsJump (pos_at s.file s.line) s.tokens text placed
  pub reads : JumpReadsAt object (jump_place symbols laid placed) text (jump_value symbols laid (pos_at s.file s.line) text jump.forms placed)
  pub behind : jump_place symbols laid placed + reads.size ≡ jump_end symbols laid placed
  pub leads : LeadsToLabel symbols laid (pos_at s.file s.line) text jump.forms placed

-- each direct jump that is handed out reads back at its place, where its section has bytes in the file
abbrev pub JumpsReadBack : Bool → List TokenStatement → List ℕ → SymbolMap → LaidSections → Type 0
JumpsReadBack no_warn handed object symbols laid =
    (s : TokenStatement) (text : InsnText) (condition : Option Condition) (placed : Placed) → IsReached no_warn handed s placed
    → insn_in placed.syntax s ≡ Some text → jump_in text ≡ Some condition → has_no_bits laid placed.current ≡ false
    → JumpReadsBack object symbols laid s text placed
