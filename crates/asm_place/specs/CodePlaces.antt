-- Statements that are instructions with operands or a prefix, and where their bytes and fields go.
use Rattle.std.specs.Prelude.{◌≡◌, ℕ, ◌+◌, ◌≤◌, ◌&&◌, ◌||◌, ◌++◌, not, Bool, true, false, is_some, List, [], ◌∷◌, All, map, replicate, if◌then◌else◌, Option, None, Some, Result, Ok, Err, length, take, drop, slice_get, slice_set, slice_range}
use Rattle.asm_base.specs.Refusals.{◌>>=◌}
use Rattle.asm_base.specs.Tokens.{SpelledToken}
use Rattle.asm_base.specs.declared.positions.Pos.{Pos}
use Rattle.asm_lines.specs.NextStatements.{TokenStatement}
use Rattle.asm_expr.specs.Knowledge.{Knowledge}
use Rattle.asm_frags.specs.declared.fields.Field.{Field}
use Rattle.asm_frags.specs.Fields.{width}
use Rattle.asm_frags.specs.PlainBytes.{field_end}
use Rattle.asm_frags.specs.Writing.{LooseSection, with_run}
use Rattle.item_bytes.specs.declared.jumps.Condition.{Condition}
use Rattle.asm_operands.specs.declared.place_faults.PlaceCause.{PlaceCause}
use Rattle.asm_operands.specs.Operands.{is_name, names_symbol, is_assignment, is_label, begins_with_dot}
use Rattle.asm_values.specs.State.{Placed, with_names, known_here}
use Rattle.att_operands.specs.declared.faults.OperandCause.{OperandCause}
use Rattle.att_insns.specs.InsnTexts.{InsnText}
use Rattle.asm_words.specs.declared.directives.Syntax.{Syntax}
use Rattle.x86_encode.specs.Encoding.{encoding_of}
use Rattle.x86_parts.specs.Filling.{Coding}
use Rattle.asm_place.specs.declared.codes.InsnForms.{InsnForms}
use Rattle.asm_place.specs.declared.codes.CodeField.{CodeField}
use Rattle.amount_forms.specs.Amounts.{in_text_order}
use Rattle.asm_place.specs.Coding.{view_in, shape_in, forms_of, values_in, fields_of, lone_code, insn_by, jump_by}
use Rattle.asm_place.specs.Placing.{place_label}
use Rattle.asm_place.specs.Instructions.{behind_labels, instruction_written, next_item, next_offset}

-- THE INSTRUCTION

-- the instruction that was read, unless the mnemonic alone has a row
abbrev pub text_read : Option (List ℕ) → Result InsnText OperandCause → Option InsnText
text_read (Some bytes) read = None
text_read None (Ok text) = Some text
text_read None (Err fault) = None

-- the instruction that the tokens write in this syntax: they begin with a name that no dot begins, are no assignment, and in AT&T syntax no
-- mnemonic alone that has a row
unfoldable pub insn_written : Syntax → List SpelledToken → Option InsnText
insn_written syntax [] = None
insn_written syntax (first ∷ rest) =
    if names_symbol first && is_assignment rest then None
    else (if is_name first && not (begins_with_dot first.bytes) then text_read (lone_code syntax (first ∷ rest)) (insn_by syntax (first ∷ rest)) else None)

-- the instruction that the statement is in this syntax, if it is one with operands or a prefix; in Intel syntax any
abbrev pub insn_in : Syntax → TokenStatement → Option InsnText
insn_in syntax s = insn_written syntax (behind_labels s.tokens)

-- the tokens write an instruction in this syntax, without operands or with some
abbrev pub is_instruction : Syntax → List SpelledToken → Bool
is_instruction syntax tokens = is_some (instruction_written syntax tokens) || is_some (insn_written syntax tokens)

-- the tokens begin with a name that no dot begins, and are no assignment
pub record BeginsAsInstruction (first : SpelledToken) (rest : List SpelledToken) : Type 0 where
  pub name : is_name first ≡ true
  pub no_directive : begins_with_dot first.bytes ≡ false
  pub no_assignment : (names_symbol first && is_assignment rest) ≡ false

-- WHAT IT IS MADE OF

-- what is placed once the labels in front of a statement are, or the fault of one
unfoldable pub labelled : Pos → List SpelledToken → Placed → Result Placed PlaceCause
labelled pos [] placed = Ok placed
labelled pos (token ∷ []) placed = Ok placed
labelled pos (first ∷ second ∷ rest) placed =
    if is_label first second then place_label pos first placed >>= (λ labels. labelled pos rest labels) else Ok placed

-- what is known of values where an instruction stands, once each name in it has a symbol
abbrev pub known_in : Pos → InsnText → Placed → Knowledge
known_in pos text placed = known_here (with_names pos (in_text_order placed.syntax text.immediate.tree text.displacement.tree) placed)

-- the forms of the values of an instruction, behind the labels in front of it, and its encoding with the values that are known there
pub record IsCoded (pos : Pos) (tokens : List SpelledToken) (text : InsnText) (before : Placed) : Type 0 where
  pub labels : Placed
  pub labels_are : labelled pos tokens before ≡ Ok labels
  pub forms : InsnForms
  pub forms_are : forms_of (known_in pos text labels) text.immediate.tree text.displacement.tree ≡ Ok forms
  pub made : Coding
  pub coding : encoding_of (view_in text) (values_in forms) ≡ Ok made

-- the fields over the bytes of the instruction
abbrev pub code_fields : InsnText → InsnForms → Coding → List CodeField
code_fields text forms made = fields_of (shape_in text) forms made

-- WHERE IT GOES

-- the forms of an instruction's values, for the layers above
abbrev pub ValueForms : Type 0
ValueForms = InsnForms

-- a field over the bytes of an instruction, for the layers above
abbrev pub FieldInCode : Type 0
FieldInCode = CodeField

-- the bytes from a place on, with these bytes in the fields
abbrev pub with_held : (CodeField → List ℕ) → List ℕ → ℕ → List CodeField → List ℕ
with_held held bytes from [] = drop from bytes
with_held held bytes from (field ∷ fields) = slice_range bytes from field.at ++ (held field ++ with_held held bytes (field.at + width field.size) fields)

-- zeros in a field
abbrev pub zeros_in : CodeField → List ℕ
zeros_in field = replicate (width field.size) 0

-- the bytes of an instruction with zeros in its fields
abbrev pub blanked : List ℕ → List CodeField → List ℕ
blanked bytes fields = with_held zeros_in bytes 0 fields

-- from this place on the fields stand in order and apart, within so many bytes
abbrev pub AreApart : ℕ → ℕ → List CodeField → Type 0
AreApart from end [] = from ≤ end
AreApart from end (field ∷ fields) = (from ≤ field.at) × AreApart (field.at + width field.size) end fields

-- a field of the instruction at this offset of the section of this number, which so many items stand before
abbrev pub field_in : Pos → ℕ → ℕ → ℕ → CodeField → Field
field_in pos number item offset field =
    record { pos = pos; item = item; offset = offset + field.at; section = number; size = field.size; role = field.role; in_item = false; form = field.form }

-- the section, which has this number, with the bytes and the fields of an instruction more
abbrev pub with_code : Pos → ℕ → List ℕ → List CodeField → LooseSection → LooseSection
with_code pos number bytes fields section = record (with_run pos section) {
  bytes = section.bytes ++ blanked bytes fields;
  fields = section.fields ++ map (field_in pos number (length (with_run pos section).items) (length section.bytes)) fields;
}

-- the bytes and fields of the statement at this place are put last in the section of this number; all else is as it was
pub record IsCodePut (before after : List LooseSection) (number : ℕ) (pos : Pos) (bytes : List ℕ) (fields : List CodeField) : Type 0 where
  pub apart : AreApart 1 (length bytes) fields
  pub section : LooseSection
  pub there : slice_get before number ≡ Some section
  pub put : after ≡ slice_set before number (with_code pos number bytes fields section)

-- the statement is put last in the current section, as an instruction of its encoding
pub record IsInsnPut (pos : Pos) (tokens : List SpelledToken) (text : InsnText) (before placed : Placed) : Type 0 where
  pub coded : IsCoded pos tokens text before
  pub put : IsCodePut before.sections placed.sections before.current pos coded.made.bytes (code_fields text coded.forms coded.made)

-- these bytes stand at this offset of the section's
pub record BytesAt (all : List ℕ) (offset : ℕ) (bytes : List ℕ) : Type 0 where
  pub front : List ℕ
  pub rest : List ℕ
  pub long : length front ≡ offset
  pub there : all ≡ front ++ (bytes ++ rest)

-- these fields are among the section's, and all others stand before the one offset or behind the other
pub record FieldsAmong (all : List Field) (from to : ℕ) (fields : List Field) : Type 0 where
  pub earlier : List Field
  pub others : List Field
  pub there : all ≡ earlier ++ (fields ++ others)
  pub before : All (λ field. field_end field ≤ from) earlier
  pub behind : All (λ field. to ≤ field.offset) others

-- these bytes, with zeros in these fields, stand at this offset of the section of this number, with the fields over them and no others; so
-- many items stand before them, and all other items behind them
pub record CodeStandsAt (sections : List LooseSection) (number item offset : ℕ) (pos : Pos) (bytes : List ℕ) (fields : List CodeField) : Type 0 where
  pub apart : AreApart 1 (length bytes) fields
  pub section : LooseSection
  pub found : slice_get sections number ≡ Some section
  pub within : offset + length bytes ≤ length section.bytes
  pub enough : item ≤ length section.items
  pub bytes_there : BytesAt section.bytes offset (blanked bytes fields)
  pub fields_there : FieldsAmong section.fields offset (offset + length bytes) (map (field_in pos number item offset) fields)
  pub items_before : All (λ item. item.offset ≤ offset) (take item section.items)
  pub items_behind : All (λ item. offset + length bytes ≤ item.offset) (drop item section.items)

-- which direct jump the instruction is, if it is one: its condition, or none
abbrev pub jump_in : InsnText → Option (Option Condition)
jump_in text = jump_by text.«prefix» text.name.0 text.size text.first text.second text.third

-- the statement stands in these sections, where what was placed before it ends, as an instruction of its encoding
pub record InsnStands (sections : List LooseSection) (pos : Pos) (tokens : List SpelledToken) (text : InsnText) (placed : Placed) : Type 0 where
  pub coded : IsCoded pos tokens text placed
  pub stands : CodeStandsAt sections placed.current (next_item placed) (next_offset placed) pos coded.made.bytes (code_fields text coded.forms coded.made)
