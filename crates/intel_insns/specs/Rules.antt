-- What the operands of a mnemonic mean beside its rows' patterns (GNU as manual, "i386-Mnemonics").
use Rattle.std.specs.Prelude.{ℕ, ◌==◌, Result, Ok, if◌then◌else◌}
use Rattle.x86_lookup.specs.declared.names.Rule.{Rule}
use Rattle.x86_lookup.specs.declared.names.Rule.TheVariants as rule
use Rattle.att_operands.specs.declared.faults.OperandCause.{OperandCause}
use Rattle.att_insns.specs.InsnTexts.{InsnText}
use Rattle.att_insns.specs.Slots.{is_absent}
use Rattle.att_insns.specs.Rules.{long_memory, ruled}
use Rattle.att_insns.specs.Sources.{renamed, source_bits, by_bits}
use Rattle.intel_insns.specs.InsnTexts.{FilledText}

-- without operands it is the string instruction of this name, of 32 bits
abbrev pub or_string : ℕ → InsnText → InsnText
or_string name insn = if is_absent insn.first then record (renamed insn name) { size = 32 } else insn

-- memory that says no size has 32 bits
abbrev pub if_unsized : ℕ → InsnText → InsnText
if_unsized bits insn = if bits == 0 then long_memory insn else insn

-- the instruction that the operands mean by the rule of the mnemonic
abbrev pub meant_by : Rule → FilledText → Result InsnText OperandCause
meant_by rule.BySource filled = by_bits filled.insn (source_bits filled.bits filled.insn.second)
meant_by (rule.OrString name) filled = Ok (or_string name filled.insn)
meant_by rule.LongMemory filled = Ok (if_unsized filled.bits filled.insn)
meant_by rule.Plain filled = Ok filled.insn
meant_by (rule.Predicate value) filled = Ok (ruled (rule.Predicate value) filled.insn)
meant_by rule.ByOne filled = Ok (ruled rule.ByOne filled.insn)
meant_by rule.ByCl filled = Ok (ruled rule.ByCl filled.insn)
meant_by rule.OneForTwo filled = Ok (ruled rule.OneForTwo filled.insn)
meant_by rule.MemoryFirst filled = Ok (ruled rule.MemoryFirst filled.insn)
meant_by rule.AccumulatorFirst filled = Ok (ruled rule.AccumulatorFirst filled.insn)
meant_by rule.WithXmm0 filled = Ok (ruled rule.WithXmm0 filled.insn)
meant_by rule.Branch filled = Ok filled.insn
meant_by rule.QuadIsMovq filled = Ok (ruled rule.QuadIsMovq filled.insn)
meant_by rule.OrMove filled = Ok (ruled rule.OrMove filled.insn)
