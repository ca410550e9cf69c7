-- What the visitors of operands answer.
use Rattle.std.specs.Prelude.{◌≡◌, ℕ, ◌==◌, ◌||◌, Bool, false, List, [], Option, Some, None}
use Rattle.asm_expr.specs.NamesOf.{names_of}
use Rattle.asm_expr.specs.declared.trees.Written.{Written}
use Rattle.x86_insn.specs.Amounts.{amount_tree}
use Rattle.x86_insn.specs.Registers.{is_part_of}
use Rattle.x86_insn.specs.Operands.{Shown, register, immediate, memory, target}
use Rattle.x86_insn.specs.declared.visitors.Kind.{Kind}
use Rattle.x86_insn.specs.declared.visitors.Kind.TheVariants as kind
use Rattle.x86_insn.specs.declared.visitors.Field.{Field}
use Rattle.x86_insn.specs.declared.visitors.Field.TheVariants as field
use Rattle.x86_insn.specs.declared.amounts.Value.{Value}
use Rattle.x86_insn.specs.declared.insns.Base.{Base}
use Rattle.x86_insn.specs.declared.insns.Base.TheVariants as base
use Rattle.x86_insn.specs.declared.insns.Index.{Index}
use Rattle.x86_insn.specs.declared.insns.Index.TheVariants as index

-- the visitor is as it was, and the answer is the wanted one
pub record Answers {V Out : Type 0} (before : V) (answer : Out) (after : V) (wanted : Out) : Type 0 where
  pub same : after ≡ before
  pub given : answer ≡ wanted

-- the base is this register
abbrev pub base_is : ℕ → Base → Bool
base_is number base.Absent = false
base_is number base.Rip = false
base_is number (base.Of own) = own == number

-- the index is this register
abbrev pub index_is : ℕ → Index → Bool
index_is number index.Absent = false
index_is number (index.By own scale) = own == number

-- the names of a value, from left to right
abbrev pub names_in : Value → List Written
names_in held = names_of (amount_tree held.amount)

-- the kind of an operand
abbrev pub kind_of : Shown → Kind
kind_of (register reg) = kind.Register reg.class
kind_of (immediate held) = kind.Immediate
kind_of (memory address held) = kind.Memory
kind_of (target held) = kind.Target

-- the operand names the general-purpose register, or a part of it, or an address by it
abbrev pub uses_register : ℕ → Shown → Bool
uses_register number (register reg) = is_part_of number reg
uses_register number (immediate held) = false
uses_register number (memory address held) = base_is number address.base || index_is number address.index
uses_register number (target held) = false

-- the field that holds the value of an operand, if it has one
abbrev pub field_of : Shown → Option Field
field_of (register reg) = None
field_of (immediate held) = Some field.Immediate
field_of (memory address held) = Some field.Displacement
field_of (target held) = Some field.Displacement

-- the names in the value of an operand, from left to right
abbrev pub names_of_operand : Shown → List Written
names_of_operand (register reg) = []
names_of_operand (immediate held) = names_in held
names_of_operand (memory address held) = names_in held
names_of_operand (target held) = names_in held
