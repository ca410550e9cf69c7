-- The texts of operands in AT&T syntax (GNU as manual, "AT&T Syntax versus Intel Syntax" and "Memory References").
use Rattle.std.specs.Prelude.{ℕ, ◌-◌, ◌^◌, ◌==◌, Bool, true, false, List, [], ◌∷◌, ◌++◌, Option, Some, None, slice_get, codes, if◌then◌else◌}
use Rattle.std.specs.Fmt.{decimal}
use Rattle.x86_insn.specs.declared.registers.Class.{Class}
use Rattle.x86_insn.specs.declared.registers.Class.TheVariants as class
use Rattle.x86_insn.specs.declared.insns.Segment.{Segment}
use Rattle.x86_insn.specs.declared.insns.Segment.TheVariants as segment
use Rattle.x86_insn.specs.declared.insns.Base.{Base}
use Rattle.x86_insn.specs.declared.insns.Base.TheVariants as base
use Rattle.x86_insn.specs.declared.insns.Index.{Index}
use Rattle.x86_insn.specs.declared.insns.Index.TheVariants as index
use Rattle.x86_insn.specs.declared.insns.Address.{Address}
use Rattle.x86_insn.specs.Views.{Seen, absent, register, immediate, memory, target}
use Rattle.att_operands.specs.Registers.{RegisterName, quad_names, long_names, word_names, byte_names, high_names, xmm_names}
use Rattle.att_operands.specs.Values.{ValueText}
use Rattle.att_operands.specs.OperandTexts.{OperandText, no_displacement}
use Rattle.att_operands.specs.OperandTexts as operand
use Rattle.att_texts.specs.Pieces.{PrintedPiece, word, mark}
use Rattle.att_texts.specs.Numbers.{number_pieces, number_tree, place_pieces, place_tree, value_of}

-- the text of a name of a register
abbrev pub name_text : Option RegisterName → List ℕ
name_text None = []
name_text (Some name) = name.text

-- the name of the register of this number in the class
unfoldable pub register_text : Class → ℕ → List ℕ
register_text class.Byte number = name_text (slice_get byte_names number)
register_text class.High number = name_text (slice_get high_names (number - 4))
register_text class.Word number = name_text (slice_get word_names number)
register_text class.Long number = name_text (slice_get long_names number)
register_text class.Quad number = name_text (slice_get quad_names number)
register_text class.Xmm number = name_text (slice_get xmm_names number)

-- a register after its `%`
abbrev pub register_pieces : Class → ℕ → List PrintedPiece
register_pieces class number = mark 37 ∷ word (register_text class number) ∷ []

-- a segment and its `:`
abbrev pub segment_pieces : Option Segment → List PrintedPiece
segment_pieces None = []
segment_pieces (Some segment.Fs) = mark 37 ∷ word (codes "fs") ∷ mark 58 ∷ []
segment_pieces (Some segment.Gs) = mark 37 ∷ word (codes "gs") ∷ mark 58 ∷ []

-- an index with its scale, up to the `)`
abbrev pub index_pieces : Index → List PrintedPiece
index_pieces index.Absent = mark 41 ∷ []
index_pieces (index.By number scale) = mark 44 ∷ (register_pieces class.Quad number ++ (mark 44 ∷ word (decimal (2 ^ scale)) ∷ mark 41 ∷ []))

-- an address in parentheses
abbrev pub address_pieces : Base → Index → List PrintedPiece
address_pieces base.Absent index.Absent = []
address_pieces base.Absent (index.By number scale) = mark 40 ∷ index_pieces (index.By number scale)
address_pieces base.Rip index = mark 40 ∷ mark 37 ∷ word (codes "rip") ∷ mark 41 ∷ []
address_pieces (base.Of number) index = mark 40 ∷ (register_pieces class.Quad number ++ index_pieces index)

-- a displacement is left out where it is 0 beside a base or an index
abbrev pub is_left_out : Base → Index → ℕ → Bool
is_left_out base.Absent index.Absent value = false
is_left_out base.Absent (index.By number scale) value = value == 0
is_left_out base.Rip index value = false
is_left_out (base.Of number) index value = value == 0

-- a displacement: a place with rip, and else a number
abbrev pub displacement_pieces : Base → ℕ → List PrintedPiece
displacement_pieces base.Absent value = number_pieces 64 value
displacement_pieces base.Rip value = place_pieces value
displacement_pieces (base.Of number) value = number_pieces 64 value

-- the same as a text of a value
abbrev pub displacement_text : Base → ℕ → ValueText
displacement_text base.Absent value = record { tree = number_tree 64 value; suffix = None }
displacement_text base.Rip value = record { tree = place_tree value; suffix = None }
displacement_text (base.Of number) value = record { tree = number_tree 64 value; suffix = None }

-- memory after its segment
abbrev pub place_of : Base → Index → ℕ → List PrintedPiece
place_of base index value =
    if is_left_out base index value then address_pieces base index else displacement_pieces base value ++ address_pieces base index

-- memory
abbrev pub memory_pieces : Address → ℕ → List PrintedPiece
memory_pieces place value = segment_pieces place.segment ++ place_of place.base place.index value

-- what memory shows
abbrev pub memory_text : Address → ℕ → ValueText
memory_text place value = if is_left_out place.base place.index value then no_displacement else displacement_text place.base value

-- the `*` of a branch that is not direct
abbrev pub star : Bool → List PrintedPiece
star true = mark 42 ∷ []
star false = []

-- an operand of a branch or of another instruction, whose immediate has so many bits
abbrev pub operand_pieces : Bool → ℕ → Seen → List PrintedPiece
operand_pieces branch bits absent = []
operand_pieces branch bits (register reg) = star branch ++ register_pieces reg.class reg.number
operand_pieces branch bits (immediate value) = mark 36 ∷ number_pieces bits (value_of value)
operand_pieces branch bits (memory place value) = star branch ++ memory_pieces place (value_of value)
operand_pieces branch bits (target value) = place_pieces (value_of value)

-- the operand as its text
abbrev pub operand_text : ℕ → Seen → List OperandText
operand_text bits absent = []
operand_text bits (register reg) = operand.register reg ∷ []
operand_text bits (immediate value) = operand.immediate (record { tree = number_tree bits (value_of value); suffix = None }) ∷ []
operand_text bits (memory place value) = operand.memory place (memory_text place (value_of value)) ∷ []
operand_text bits (target value) = operand.target (record { tree = place_tree (value_of value); suffix = None }) ∷ []
