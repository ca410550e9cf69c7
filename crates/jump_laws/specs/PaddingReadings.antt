-- Padding of code, and what its bytes read as (Intel SDM, volume 2, `NOP`).
use Rattle.std.specs.Prelude.{◌≡◌, ◌==◌, ◌&&◌, ◌++◌, ◌⊎◌, ℕ, Bool, true, false, List, [], Some, slice_get}
use Rattle.item_bytes.specs.NoOperations.{no_operations}
use Rattle.x86_insn.specs.declared.registers.Reg.{Reg}
use Rattle.x86_insn.specs.Views.{View, register}
use Rattle.x86_table.specs.declared.forms.Destinations.{Destinations}
use Rattle.x86_table.specs.declared.forms.Destinations.TheVariants as destinations
use Rattle.x86_table.specs.declared.forms.Implied.{Implied}
use Rattle.x86_table.specs.declared.forms.Implied.TheVariants as implied
use Rattle.x86_table.specs.declared.forms.StoreKind.{StoreKind}
use Rattle.x86_table.specs.declared.forms.StoreKind.TheVariants as store
use Rattle.x86_table.specs.declared.forms.Row.{Row}
use Rattle.x86_table.specs.declared.mnemonics.integers.TheConstants.{NOP, XCHG}
use Rattle.x86_table.specs.Reads.{Reads}
use Rattle.x86_table.specs.Rows.{the_rows}

-- a register of 16 bits is exchanged with itself
pub record ExchangesItself (insn : View) : Type 0 where
  pub name : insn.name.0 ≡ XCHG
  pub size : insn.size ≡ 16
  pub reg : Reg
  pub first : insn.first ≡ register reg
  pub second : insn.second ≡ register reg

-- the instruction changes no register: it is `nop`, of whatever operand, or exchanges a register with itself
abbrev pub IsNoOperation : View → Type 0
IsNoOperation insn = (insn.name.0 ≡ NOP) ⊎ ExchangesItself insn

-- the bytes are no-operations, one behind the other
pub data AreNoOperations : (bytes : List ℕ) → Type 0 where
  none : AreNoOperations []
  more : (front rest : List ℕ) (insn : View) → Reads front insn → IsNoOperation insn → AreNoOperations rest → AreNoOperations (front ++ rest)

-- padding of any size is no-operations
abbrev pub PaddingReads : Type 0
PaddingReads = (size : ℕ) → AreNoOperations (no_operations size)

-- no operand is written
abbrev pub no_operand : Destinations → Bool
no_operand destinations.Nothing = true
no_operand _ = false

-- no other register is written
abbrev pub no_register : Implied → Bool
no_register implied.Absent = true
no_register _ = false

-- nothing is stored
abbrev pub no_store : StoreKind → Bool
no_store store.Absent = true
no_store _ = false

-- the row says that its instructions write nothing
abbrev pub writes_nothing : Row → Bool
writes_nothing r = no_operand r.outputs.destinations && (no_register r.outputs.implied && no_store r.outputs.store)

-- each row of the name `nop` does
abbrev pub NopsWriteNothing : Type 0
NopsWriteNothing = (i : ℕ) (r : Row) → slice_get the_rows i ≡ Some r → (r.name.0 == NOP) ≡ true → writes_nothing r ≡ true
