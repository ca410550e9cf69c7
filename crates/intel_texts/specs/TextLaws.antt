-- What holds of the texts of operands.
use Rattle.std.specs.Prelude.{ℕ, ◌*◌, ◌^◌, ◌<◌, Bool, true, false, [], ◌∷◌}
use Rattle.x86_insn.specs.declared.registers.Reg.{Reg}
use Rattle.x86_insn.specs.declared.insns.Address.{Address}
use Rattle.att_operands.specs.OperandTexts as operand
use Rattle.att_texts.specs.Pieces.{word, tokens_in}
use Rattle.att_texts.specs.Numbers.{number_pieces, number_tree, place_pieces, place_tree}
use Rattle.att_texts.specs.AttOperands.{register_text}
use Rattle.att_texts.specs.Printable.{IsWidth, IsNumbered, IsAddressed}
use Rattle.intel_operands.specs.Spells.{SpellsOperand}
use Rattle.intel_operands.specs.OperandTexts.{unsized, in_memory}
use Rattle.intel_texts.specs.Operands.{memory_pieces}
use Rattle.intel_texts.specs.Instructions.{bare, moved_text}
use Rattle.intel_texts.specs.Printable.{IsMemorySize}

-- the text of an operand spells it: of a register, of a number of so many bits, of memory of so many bytes, and of a branch target
pub record OperandsSpell : Type 0 where
  pub registers : (branch : Bool) (reg : Reg) (offset : ℕ) → IsNumbered reg.class reg.number
      → SpellsOperand branch (unsized (operand.register reg)) (tokens_in offset (word (register_text reg.class reg.number) ∷ []))
  pub immediates : (bits value offset : ℕ) → IsWidth bits → value < 2 ^ 64
      → SpellsOperand false (unsized (operand.immediate (bare (number_tree bits value)))) (tokens_in offset (number_pieces bits value))
  pub memory : (branch : Bool) (bytes : ℕ) (address : Address) (value offset : ℕ) → IsMemorySize bytes → value < 2 ^ 64 → IsAddressed address.base address.index
      → SpellsOperand branch (in_memory (8 * bytes) address (moved_text address.base value)) (tokens_in offset (memory_pieces bytes address value))
  pub targets : (value offset : ℕ) → value < 2 ^ 64
      → SpellsOperand true (unsized (operand.target (bare (place_tree value)))) (tokens_in offset (place_pieces value))
