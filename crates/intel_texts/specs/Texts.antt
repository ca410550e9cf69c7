-- The texts of instructions in Intel syntax (GNU as manual, "AT&T Syntax versus Intel Syntax").
use Rattle.std.specs.Prelude.{ℕ, ◌||◌, List, [], ◌∷◌, ◌++◌, Bool, true, false, Option, Some, None, if◌then◌else◌}
use Rattle.x86_insn.specs.declared.insns.Prefix.{Prefix}
use Rattle.x86_insn.specs.declared.insns.Prefix.TheVariants as prefix
use Rattle.x86_insn.specs.Views.{Seen, absent, register, immediate, memory, target, View}
use Rattle.x86_table.specs.declared.forms.Pattern.{Pattern}
use Rattle.x86_table.specs.declared.forms.Pattern.TheVariants as pattern
use Rattle.x86_table.specs.declared.forms.Row.{Row}
use Rattle.x86_table.specs.Fields.{Fields, fields_of}
use Rattle.x86_table.specs.Reads.{meaning}
use Rattle.x86_decode.specs.declared.fronts.Front.{Front}
use Rattle.x86_lookup.specs.declared.names.Named.{Named}
use Rattle.x86_lookup.specs.Names.{text_of}
use Rattle.att_texts.specs.Pieces.{PrintedPiece, word, mark, blank, text_in}
use Rattle.att_texts.specs.AttTexts.{immediate_bits}
use Rattle.att_texts.specs.AttTexts.{prefix_pieces}
use Rattle.intel_texts.specs.Operands.{operand_pieces}
use Rattle.intel_texts.specs.Mnemonics.{mnemonic_of_row}

-- how many bytes of memory a pattern has, or else so many
abbrev pub bytes_of : Pattern → ℕ → ℕ
bytes_of (pattern.RegMem c bytes) others = bytes
bytes_of other others = others

-- how many bytes memory of the row has: one of its operands may be memory
abbrev pub memory_bytes : Row → ℕ
memory_bytes r = bytes_of r.first (bytes_of r.second (bytes_of r.third 0))

-- a blank before the first operand, and a comma and a blank before each other
abbrev pub lead : Bool → List PrintedPiece
lead false = blank ∷ []
lead true = mark 44 ∷ blank ∷ []

-- an operand is shown
abbrev pub is_shown : Seen → Bool
is_shown absent = false
is_shown (register reg) = true
is_shown (immediate value) = true
is_shown (memory place value) = true
is_shown (target value) = true

-- an operand, if one is shown, that others are before, or none
abbrev pub shown_behind : Bool → ℕ → ℕ → Seen → List PrintedPiece
shown_behind others bits bytes seen = if is_shown seen then lead others ++ operand_pieces bits bytes seen else []

-- operands that others are before, or none
abbrev pub operands_behind : Bool → ℕ → ℕ → List Seen → List PrintedPiece
operands_behind others bits bytes [] = []
operands_behind others bits bytes (seen ∷ operands) =
    shown_behind others bits bytes seen ++ operands_behind (others || is_shown seen) bits bytes operands

-- the operands of an instruction, the destination first
abbrev pub operands_of : View → List Seen
operands_of insn = insn.first ∷ insn.second ∷ insn.third ∷ []

-- a mnemonic, if there is one
abbrev pub name_pieces : Option Named → List PrintedPiece
name_pieces None = []
name_pieces (Some named) = word (text_of named) ∷ []

-- an instruction of the row
unfoldable pub row_pieces : Row → View → List PrintedPiece
row_pieces r insn = prefix_pieces insn.«prefix» ++ (name_pieces (mnemonic_of_row r) ++ operands_behind false (immediate_bits r.immediate) (memory_bytes r) (operands_of insn))

-- the text of what a row shows of the fields
abbrev pub intel_text : Row → Fields → List ℕ
intel_text r p = text_in (row_pieces r (meaning r p))

-- the text of what bytes begin with
abbrev pub front_text : Front → List ℕ
front_text front = intel_text front.row.now (fields_of front.parts)
