-- The texts of instructions in AT&T syntax: the first mnemonic under which the operands spell just this instruction (GNU as manual,
-- "i386-Mnemonics").
use Rattle.std.specs.Prelude.{ℕ, ◌==◌, ◌&&◌, ◌||◌, not, Bool, true, false, List, [], ◌∷◌, ◌++◌, Option, option_map, Result, Ok, Err, codes}
use Rattle.std.specs.List.{find}
use Rattle.x86_insn.specs.declared.registers.Class.{Class}
use Rattle.x86_insn.specs.declared.registers.Class.TheVariants as class
use Rattle.x86_insn.specs.declared.insns.Prefix.{Prefix}
use Rattle.x86_insn.specs.declared.insns.Prefix.TheVariants as prefix
use Rattle.x86_insn.specs.declared.insns.Slot.{Slot}
use Rattle.x86_insn.specs.declared.insns.Slot.TheVariants as slot
use Rattle.x86_insn.specs.Views.{Seen, absent, register, immediate, memory, target, View}
use Rattle.x86_table.specs.declared.forms.Immediate.{Immediate}
use Rattle.x86_table.specs.declared.forms.Immediate.TheVariants as held
use Rattle.x86_lookup.specs.declared.names.Named.{Named}
use Rattle.x86_lookup.specs.declared.names.Rule.{Rule}
use Rattle.x86_lookup.specs.declared.names.Rule.TheVariants as rule
use Rattle.x86_lookup.specs.Names.{the_att_names, text_of}
use Rattle.att_operands.specs.declared.faults.OperandCause.{OperandCause}
use Rattle.att_operands.specs.OperandTexts.{OperandText}
use Rattle.att_insns.specs.InsnTexts.{InsnText, blank, with_operands}
use Rattle.att_insns.specs.Rules.{ruled, is_branch}
use Rattle.x86_lookup.specs.Mnemonics.{is_by_source}
use Rattle.att_insns.specs.Sizes.{sized}
use Rattle.att_texts.specs.Pieces.{PrintedPiece, word, mark, blank as space, text_in}
use Rattle.att_texts.specs.AttOperands.{operand_pieces, operand_text}

-- how many bits the immediates of a row have; what counts something is no negative number
abbrev pub immediate_bits : Immediate → ℕ
immediate_bits held.Absent = 64
immediate_bits held.Byte = 8
immediate_bits held.Count = 64
immediate_bits held.Sext16 = 16
immediate_bits held.Sext32 = 32
immediate_bits held.Sext64 = 64
immediate_bits held.Word = 16
immediate_bits held.Long = 32
immediate_bits held.LongSext = 64
immediate_bits held.Quad = 64
immediate_bits held.Rel8 = 64
immediate_bits held.Short = 64
immediate_bits held.Rel32 = 64

-- the operands, in the order in which they are written: sources first
abbrev pub written : ℕ → View → List OperandText
written bits insn = operand_text bits insn.third ++ (operand_text bits insn.second ++ operand_text bits insn.first)

-- the instruction as its text
abbrev pub insn_text : ℕ → View → InsnText
insn_text bits insn = with_operands (written bits insn) (blank insn.name insn.size insn.«prefix»)

-- the registers are one
abbrev pub same_class : Class → Class → Bool
same_class class.Byte class.Byte = true
same_class class.High class.High = true
same_class class.Word class.Word = true
same_class class.Long class.Long = true
same_class class.Quad class.Quad = true
same_class class.Xmm class.Xmm = true
same_class _ _ = false

-- the operands stand at one place
abbrev pub same_slot : Slot → Slot → Bool
same_slot slot.Absent slot.Absent = true
same_slot (slot.Register one) (slot.Register other) = same_class one.class other.class && (one.number == other.number)
same_slot slot.Immediate slot.Immediate = true
same_slot slot.Memory slot.Memory = true
same_slot slot.Target slot.Target = true
same_slot _ _ = false

-- the instructions have the same name, size and operands
abbrev pub same_insn : InsnText → InsnText → Bool
same_insn one other = (one.name.0 == other.name.0) && ((one.size == other.size)
    && (same_slot one.first other.first && (same_slot one.second other.second && same_slot one.third other.third)))

-- the rule of `movq`
abbrev pub is_or_move : Rule → Bool
is_or_move rule.OrMove = true
is_or_move _ = false

-- what was read is this instruction
abbrev pub is_insn : InsnText → Result InsnText OperandCause → Bool
is_insn insn (Ok made) = same_insn made insn
is_insn insn (Err cause) = false

-- what the operands are read as after this mnemonic
abbrev pub read_after : InsnText → Named → Result InsnText OperandCause
read_after insn named = sized (ruled named.rule (record insn { name = named.name; size = named.size }))

-- the mnemonic names rows of this number by itself, or is `movq`, which may be `mov`; where the source decides, there is one for each of its sizes
abbrev pub may_name : ℕ → Named → Bool
may_name name named = not (is_by_source named.rule) && ((named.name.0 == name) || is_or_move named.rule)

-- after the mnemonic the operands spell just this instruction
unfoldable pub names_it : InsnText → Named → Bool
names_it insn named = may_name insn.name.0 named && is_insn insn (read_after insn named)

-- the first mnemonic of the table after which they do
unfoldable pub mnemonic_for : InsnText → Option Named
mnemonic_for insn = find (names_it insn) the_att_names

-- the word before the mnemonic
abbrev pub prefix_pieces : Prefix → List PrintedPiece
prefix_pieces prefix.Absent = []
prefix_pieces prefix.Lock = word (codes "lock") ∷ space ∷ []
prefix_pieces prefix.Rep = word (codes "rep") ∷ space ∷ []
prefix_pieces prefix.Repe = word (codes "repe") ∷ space ∷ []
prefix_pieces prefix.Repne = word (codes "repne") ∷ space ∷ []
prefix_pieces prefix.Notrack = word (codes "notrack") ∷ space ∷ []

-- an operand in pieces, if it stands
abbrev pub each_in : Bool → ℕ → Seen → List (List PrintedPiece)
each_in branch bits absent = []
each_in branch bits (register reg) = operand_pieces branch bits (register reg) ∷ []
each_in branch bits (immediate value) = operand_pieces branch bits (immediate value) ∷ []
each_in branch bits (memory place value) = operand_pieces branch bits (memory place value) ∷ []
each_in branch bits (target value) = operand_pieces branch bits (target value) ∷ []

-- operands with commas between
abbrev pub joined : List (List PrintedPiece) → List PrintedPiece
joined [] = []
joined (one ∷ []) = one
joined (one ∷ other ∷ others) = one ++ (mark 44 ∷ joined (other ∷ others))

-- a blank and the operands, if some stand
abbrev pub after_blank : List (List PrintedPiece) → List PrintedPiece
after_blank [] = []
after_blank (one ∷ others) = space ∷ joined (one ∷ others)

-- the operands that stand, sources first
abbrev pub operands_in : Bool → ℕ → View → List (List PrintedPiece)
operands_in branch bits insn = each_in branch bits insn.third ++ (each_in branch bits insn.second ++ each_in branch bits insn.first)

-- the instruction in pieces, with this mnemonic
abbrev pub insn_pieces : ℕ → View → Named → List PrintedPiece
insn_pieces bits insn named =
    prefix_pieces insn.«prefix» ++ (word (text_of named) ∷ after_blank (operands_in (is_branch named.rule) bits insn))

-- the text of an instruction whose immediate has so many bits
unfoldable pub att_text : ℕ → View → Option (List ℕ)
att_text bits insn = option_map (λ named. text_in (insn_pieces bits insn named)) (mnemonic_for (insn_text bits insn))
