-- Instructions: what is known of their values where they stand, their bytes, and the fields over these (Intel SDM, volume 2, section 2.2.1.6;
-- psABI for AMD64, section 4.4).
use Rattle.std.specs.Prelude.{ℕ, ◌+◌, ◌-◌, ◌^◌, ◌==◌, ◌||◌, ◌&&◌, nat_lt, option_map, Bool, true, false, List, [], ◌∷◌, drop, slice_range, length, Option, Some, None, Result, Ok, Err, if◌then◌else◌}
use Rattle.asm_base.specs.declared.positions.Pos.{Pos}
use Rattle.asm_base.specs.Refusals.{◌>>=◌}
use Rattle.asm_base.specs.Tokens.{SpelledToken}
use Rattle.asm_expr.specs.Forms.{Form, symbol_form, plus_times}
use Rattle.asm_expr.specs.Knowledge.{Knowledge}
use Rattle.asm_expr.specs.Linear.{value_of}
use Rattle.asm_expr.specs.Trees.{Tree}
use Rattle.asm_frags.specs.declared.fields.FieldSize.{FieldSize}
use Rattle.asm_frags.specs.declared.fields.FieldSize.TheVariants.{One, Two, Four, Eight}
use Rattle.asm_frags.specs.Fields.{width, own_place}
use Rattle.asm_operands.specs.declared.place_faults.PlaceCause.{PlaceCause}
use Rattle.asm_operands.specs.declared.place_faults.PlaceCause.TheVariants as cause
use Rattle.asm_operands.specs.Expressions.{form_in}
use Rattle.asm_uses.specs.Places.{uses_place, end_naming}
use Rattle.asm_uses.specs.declared.tables.Naming.{Naming}
use Rattle.asm_uses.specs.Tables.{naming_of}
use Rattle.asm_values.specs.State.{Placed, with_table, with_names, here, known_here, put_bytes, put_field, put_growing}
use Rattle.x86_insn.specs.declared.amounts.FieldKind.{FieldKind}
use Rattle.x86_insn.specs.declared.amounts.FieldKind.TheVariants.{Plain, Signed, Address, Branch, Number}
use Rattle.x86_insn.specs.declared.amounts.Suffix.{Suffix}
use Rattle.x86_insn.specs.declared.amounts.Values.{Values}
use Rattle.x86_insn.specs.declared.insns.Slot.{Slot}
use Rattle.x86_insn.specs.declared.insns.Slot.TheVariants as slot
use Rattle.x86_insn.specs.Knowing.{if_known}
use Rattle.x86_insn.specs.declared.insns.Insn.{Insn}
use Rattle.x86_insn.specs.declared.insns.Prefix.{Prefix}
use Rattle.x86_insn.specs.declared.insns.Prefix.TheVariants.{Absent as no_prefix}
use Rattle.x86_table.specs.declared.mnemonics.integers.TheConstants.{JMP, JO, JG}
use Rattle.item_bytes.specs.declared.jumps.Condition.{Condition}
use Rattle.item_bytes.specs.Jumps.{condition_of}
use Rattle.item_contents.specs.declared.kinds.Growth.TheVariants.{Jump}
use Rattle.x86_insn.specs.Views.{Seen, absent, register, immediate, memory, target, View, displaced, view_of}
use Rattle.x86_lookup.specs.BareInstructions.{bare_code}
use Rattle.x86_parts.specs.declared.encoded.Field.{Field}
use Rattle.x86_parts.specs.declared.encoded.EncodeFault.{EncodeFault}
use Rattle.x86_parts.specs.declared.encoded.EncodeFault.TheVariants.{ValueNotKnown, NoSuchForm, OutOfRange}
use Rattle.x86_encode.specs.Encoding.{encoding_of}
use Rattle.x86_parts.specs.Filling.{Coding}
use Rattle.att_operands.specs.declared.faults.OperandCause.{OperandCause}
use Rattle.att_operands.specs.declared.faults.OperandCause.TheVariants as operand
use Rattle.att_insns.specs.InsnTexts.{InsnText}
use Rattle.amount_forms.specs.Amounts.{in_text_order}
use Rattle.asm_place.specs.declared.codes.InsnForms.{InsnForms}
use Rattle.asm_place.specs.declared.codes.CodeField.{CodeField}
use Rattle.att_insns.specs.Reading as att
use Rattle.intel_insns.specs.Reading as intel
use Rattle.asm_words.specs.declared.directives.Syntax.{Syntax}
use Rattle.asm_words.specs.declared.directives.Syntax.TheVariants.{Att, Intel}

-- THE FAULTS OF INSTRUCTIONS

-- a fault of the operands as one of the statement
abbrev pub operand_fault : OperandCause → PlaceCause
operand_fault operand.UnknownMnemonic = cause.UnknownMnemonic
operand_fault operand.BadExpression = cause.BadExpression
operand_fault operand.NumberTooWide = cause.NumberTooWide
operand_fault operand.ExpressionTooDeep = cause.ExpressionTooDeep
operand_fault operand.BadOperand = cause.BadOperand
operand_fault operand.UnknownOperandSize = cause.UnknownOperandSize

-- the instruction that was read, as a statement has it
abbrev pub of_operands : {A : Type 0} → Result A OperandCause → Result A PlaceCause
of_operands (Ok made) = Ok made
of_operands (Err fault) = Err (operand_fault fault)

-- why there are no bytes, as a fault of the statement
abbrev pub code_fault : EncodeFault → PlaceCause
code_fault ValueNotKnown = cause.ValueNotKnown
code_fault NoSuchForm = cause.NoSuchForm
code_fault OutOfRange = cause.OutOfRange

-- the bytes of an instruction, as a statement has them
abbrev pub of_code : {A : Type 0} → Result A EncodeFault → Result A PlaceCause
of_code (Ok made) = Ok made
of_code (Err fault) = Err (code_fault fault)

-- THE INSTRUCTION WITH ITS VALUES

-- what a slot of the instruction shows, with these values; a branch target and an address from rip count as not known
abbrev pub seen_in : InsnText → Values → Slot → Seen
seen_in text values slot.Absent = absent
seen_in text values (slot.Register reg) = register reg
seen_in text values slot.Immediate = immediate values.immediate
seen_in text values slot.Memory = memory text.address (displaced text.address.base values.displacement)
seen_in text values slot.Target = target None

-- the instruction with these values
abbrev pub view_in : InsnText → Values → View
view_in text values = record {
  name = text.name;
  size = text.size;
  «prefix» = text.«prefix»;
  first = seen_in text values text.first;
  second = seen_in text values text.second;
  third = seen_in text values text.third;
}

-- the slot shows a branch target
abbrev pub is_target : Slot → Bool
is_target slot.Absent = false
is_target (slot.Register reg) = false
is_target slot.Immediate = false
is_target slot.Memory = false
is_target slot.Target = true

-- the condition of a mnemonic, or none, where it is that of a jump (Intel SDM, volume 2, `JMP`, `Jcc`)
abbrev pub jump_named : ℕ → Option (Option Condition)
jump_named name = if name == JMP then Some None else (if nat_lt name JO || nat_lt JG name then None else option_map Some (condition_of (name - JO)))

-- the slot shows nothing
abbrev pub is_absent : Slot → Bool
is_absent slot.Absent = true
is_absent (slot.Register reg) = false
is_absent slot.Immediate = false
is_absent slot.Memory = false
is_absent slot.Target = false

-- there is no prefix
abbrev pub is_bare : Prefix → Bool
is_bare no_prefix = true
is_bare _ = false

-- the condition of a direct jump, or none, if it is one: a jump of 64 bits without a prefix to a target, and to nothing else
abbrev pub jump_by : Prefix → ℕ → ℕ → Slot → Slot → Slot → Option (Option Condition)
jump_by word name size first second third =
    if is_bare word && ((size == 64) && (is_target first && (is_absent second && is_absent third))) then jump_named name else None

-- what an instruction shows with any values, which direct jump it is, if it is one, and what is said behind its symbols
pub record InsnShape : Type 0 where
  pub view : Values → View
  pub jump : Option (Option Condition)
  pub immediate : Option Suffix
  pub displacement : Option Suffix

-- that of an instruction whose values are texts
abbrev pub shape_in : InsnText → InsnShape
shape_in text = record { view = view_in text; jump = jump_by text.«prefix» text.name.0 text.size text.first text.second text.third; immediate = text.immediate.suffix; displacement = text.displacement.suffix }

-- that of an instruction as the program has it
abbrev pub shape_of : Insn → InsnShape
shape_of insn = record { view = view_of insn; jump = jump_by insn.«prefix» insn.name.0 insn.size insn.first insn.second insn.third; immediate = insn.immediate.suffix; displacement = insn.displacement.suffix }

-- the forms of the trees, or the first fault, that of the immediate first
abbrev pub forms_of : Knowledge → Tree → Tree → Result InsnForms PlaceCause
forms_of known own moved = form_in known own >>= λ one. form_in known moved >>= λ other. Ok (record { immediate = one; displacement = other })

-- the values of these forms, where they are known
abbrev pub values_in : InsnForms → Values
values_in forms = record { immediate = if_known (value_of forms.immediate); displacement = if_known (value_of forms.displacement) }

-- THE FIELDS

-- the size of a field of so many bytes: 1, 2, 4 or 8
abbrev pub field_size : ℕ → FieldSize
field_size bytes = if bytes == 1 then One else (if bytes == 2 then Two else (if bytes == 8 then Eight else Four))

-- a form less the place of the field that holds it
abbrev pub from_own_place : Form → Form
from_own_place form = plus_times form (2 ^ 64 - 1) (symbol_form own_place)

-- the form that a field of this kind holds: that of a distance is less the place of the field, and what stands from there to the end of the
-- instruction is taken off its value
abbrev pub held_form : FieldKind → Form → Form
held_form Plain form = form
held_form Signed form = form
held_form Address form = from_own_place form
held_form Branch form = from_own_place form
held_form Number form = form

-- the field, in an instruction of so many bytes, that holds this form with this suffix
abbrev pub code_field : ℕ → Field → Option Suffix → Form → CodeField
code_field bytes field suffix form = record {
  at = field.at;
  size = field_size field.size;
  role = record { kind = field.kind; suffix = suffix; behind = bytes - (field.at + field.size) };
  form = held_form field.kind form;
}

-- the field is that of a branch target
abbrev pub is_branch : FieldKind → Bool
is_branch Plain = false
is_branch Signed = false
is_branch Address = false
is_branch Branch = true
is_branch Number = false

-- the field of a displacement
abbrev pub displacement_field : ℕ → InsnShape → InsnForms → Field → CodeField
displacement_field bytes shape forms field = code_field bytes field shape.displacement forms.displacement

-- the field of an immediate, or of a branch target, which is a displacement
abbrev pub immediate_field : ℕ → InsnShape → InsnForms → Field → CodeField
immediate_field bytes shape forms field =
    if is_branch field.kind then displacement_field bytes shape forms field else code_field bytes field shape.immediate forms.immediate

-- a field, if there is one, and others
abbrev pub before_fields : (Field → CodeField) → Option Field → List CodeField → List CodeField
before_fields made None fields = fields
before_fields made (Some field) fields = made field ∷ fields

-- the fields of an instruction, in the order of their places
abbrev pub fields_of : InsnShape → InsnForms → Coding → List CodeField
fields_of shape forms made =
    before_fields (displacement_field (length made.bytes) shape forms) made.displacement
    (before_fields (immediate_field (length made.bytes) shape forms) made.immediate [])

-- WHAT IS PUT

-- plain bytes, if there are any
abbrev pub put_rest : Pos → List ℕ → Placed → Result Placed PlaceCause
put_rest pos [] placed = Ok placed
put_rest pos (byte ∷ bytes) placed = put_bytes pos (byte ∷ bytes) placed

-- the bytes of an instruction from a place to a field, and the field
abbrev pub put_held : Pos → List ℕ → ℕ → CodeField → Placed → Result Placed PlaceCause
put_held pos bytes from field placed = put_rest pos (slice_range bytes from field.at) placed >>= put_field pos field.size field.role field.form

-- the bytes of an instruction from a place on: those before each field, the field, and those behind the last one
unfoldable pub put_code : Pos → List ℕ → ℕ → List CodeField → Placed → Result Placed PlaceCause
put_code pos bytes from [] placed = put_rest pos (drop from bytes) placed
put_code pos bytes from (field ∷ fields) placed =
    put_held pos bytes from field placed >>= put_code pos bytes (field.at + width field.size) fields

-- one of the forms keeps the place of the statement
abbrev pub keeps_place : ℕ → InsnForms → Bool
keeps_place place forms = uses_place place forms.immediate || uses_place place forms.displacement

-- the bytes and the fields of an instruction of these forms
unfoldable pub put_coded : Pos → InsnShape → InsnForms → Placed → Result Placed PlaceCause
put_coded pos shape forms placed =
    of_code (encoding_of shape.view (values_in forms)) >>= λ made. put_code pos made.bytes 0 (fields_of shape forms made) placed

-- a direct jump, as an item that grows with the distance from its end to its target
abbrev pub put_jump : Pos → Option Condition → InsnShape → InsnForms → Placed → Result Placed PlaceCause
put_jump pos condition shape forms placed =
    put_growing pos (Jump condition) shape.displacement (from_own_place forms.displacement) placed

-- a direct jump, or any other instruction
abbrev pub put_by_jump : Option (Option Condition) → Pos → InsnShape → InsnForms → Placed → Result Placed PlaceCause
put_by_jump None pos shape forms placed = put_coded pos shape forms placed
put_by_jump (Some condition) pos shape forms placed = put_jump pos condition shape forms placed

-- an instruction of these forms
unfoldable pub put_insn : Pos → InsnShape → InsnForms → Placed → Result Placed PlaceCause
put_insn pos shape forms placed = put_by_jump shape.jump pos shape forms placed

-- the same, and then its names are allowed or refused, and the place becomes a symbol where a form keeps it
abbrev pub put_named : Pos → InsnShape → Naming → InsnForms → Placed → Result Placed PlaceCause
put_named pos shape naming forms named =
    put_insn pos shape forms named >>= λ put.
    end_naming pos naming (here named) (keeps_place (known_here named).place forms) put.table >>= λ table. Ok (with_table put table)

-- an instruction of these trees whose names have symbols
abbrev pub insn_of_trees : Pos → InsnShape → Naming → Tree → Tree → Placed → Result Placed PlaceCause
insn_of_trees pos shape naming own moved named = forms_of (known_here named) own moved >>= λ forms. put_named pos shape naming forms named

-- the names of these trees become symbols, and then the same
unfoldable pub place_insn : Pos → InsnShape → Tree → Tree → Placed → Result Placed PlaceCause
place_insn pos shape own moved placed =
    insn_of_trees pos shape (naming_of (in_text_order placed.syntax own moved) placed.table) own moved (with_names pos (in_text_order placed.syntax own moved) placed)

-- an instruction whose values are texts
abbrev pub place_text : Pos → InsnText → Placed → Result Placed PlaceCause
place_text pos text placed = place_insn pos (shape_in text) text.immediate.tree text.displacement.tree placed

-- the instruction that was read, or the fault of its operands
abbrev pub place_read : Pos → Result InsnText OperandCause → Placed → Result Placed PlaceCause
place_read pos read placed = of_operands read >>= λ text. place_text pos text placed

-- the bytes of an instruction that stands alone, if its mnemonic has a row without operands; in Intel syntax all are read
abbrev pub lone_code : Syntax → List SpelledToken → Option (List ℕ)
lone_code Intel tokens = None
lone_code Att [] = None
lone_code Att (name ∷ []) = bare_code name.bytes
lone_code Att (name ∷ operand ∷ rest) = None

-- the bytes of an instruction that stands alone in AT&T syntax, where these are asked for
abbrev pub lone_asked : Bool → List SpelledToken → Option (List ℕ)
lone_asked false tokens = None
lone_asked true tokens = lone_code Att tokens

-- the instruction that the tokens are in this syntax
abbrev pub insn_by : Syntax → List SpelledToken → Result InsnText OperandCause
insn_by Att tokens = att.insn_of tokens
insn_by Intel tokens = intel.insn_of tokens

-- the bytes of its row for an instruction without operands; any other is read
abbrev pub place_coded : Pos → Option (List ℕ) → List SpelledToken → Placed → Result Placed PlaceCause
place_coded pos None tokens placed = place_read pos (insn_by placed.syntax tokens) placed
place_coded pos (Some bytes) tokens placed = put_bytes pos bytes placed

-- the bytes of a mnemonic that stands alone, or the instruction that was read
abbrev pub place_either : Pos → Option (List ℕ) → Result InsnText OperandCause → Placed → Result Placed PlaceCause
place_either pos None read placed = place_read pos read placed
place_either pos (Some bytes) read placed = put_bytes pos bytes placed

-- a statement that is an instruction, in the syntax that is in force
unfoldable pub place_instruction : Pos → List SpelledToken → Placed → Result Placed PlaceCause
place_instruction pos tokens placed = place_coded pos (lone_code placed.syntax tokens) tokens placed
