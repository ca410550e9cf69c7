-- The rows of direct jumps in the instruction table.
use Rattle.std.proofs.Common.{◌≡◌, ℕ, ◌+◌, ◌*◌, Option, Some, None, refl, false}
use Rattle.std.specs.Prelude.{slice_get, ◌==◌}
use Rattle.item_bytes.specs.declared.jumps.Condition.{Condition}
use Rattle.item_bytes.specs.declared.jumps.Condition.TheVariants.{Overflow, NoOverflow, Below, AboveOrEqual, Equal, NotEqual, BelowOrEqual, Above, Sign, NoSign, Parity, NoParity, Less, GreaterOrEqual, LessOrEqual, Greater}
use Rattle.item_bytes.specs.Jumps.{number_of, short_opcode}
use Rattle.x86_table.specs.declared.forms.Repeat.TheVariants as repeat
use Rattle.x86_table.specs.declared.forms.Map.{Map}
use Rattle.x86_table.specs.declared.forms.Map.TheVariants as map
use Rattle.x86_table.specs.declared.forms.Shape.TheVariants as shape
use Rattle.x86_table.specs.declared.forms.Pattern.TheVariants as pattern
use Rattle.x86_table.specs.declared.forms.Immediate.{Immediate}
use Rattle.x86_table.specs.declared.forms.Immediate.TheVariants as immediate
use Rattle.x86_table.specs.declared.forms.Words.TheVariants as words
use Rattle.x86_table.specs.declared.forms.Destinations.TheVariants as destinations
use Rattle.x86_table.specs.declared.forms.Implied.TheVariants as implied
use Rattle.x86_table.specs.declared.forms.StoreKind.TheVariants as store
use Rattle.x86_table.specs.declared.forms.Row.{Row}
use Rattle.x86_table.specs.declared.mnemonics.integers.TheConstants.{XCHG}
use Rattle.x86_table.specs.Rows.{the_rows}
use Rattle.jump_laws.specs.JumpReadings.{jump_name}

-- the row of a jump of this mnemonic with this opcode
abbrev pub jump_row : ℕ → Map → ℕ → Immediate → Row
jump_row name of code held = record {
  name = record { 0 = name };
  size = 64;
  lead = record { operand_size = false; repeat = repeat.Absent; wide = false };
  map = of;
  code = code;
  shape = shape.Plain;
  first = pattern.Target;
  second = pattern.Absent;
  third = pattern.Absent;
  immediate = held;
  words = words.Absent;
  outputs = record { destinations = destinations.Nothing; implied = implied.Absent; store = store.Absent };
}

-- that of a short jump
abbrev pub short_row : Option Condition → Row
short_row condition = jump_row (jump_name condition) map.One (short_opcode condition) immediate.Short

-- that of a near jump
abbrev pub near_row : Option Condition → Row
near_row None = jump_row (jump_name None) map.One 0xe9 immediate.Rel32
near_row (Some condition) = jump_row (jump_name (Some condition)) map.Two (0x80 + number_of condition) immediate.Rel32

-- where the row of a short jump stands, behind which that of the near one does
abbrev pub index_of : Option Condition → ℕ
index_of None = 496
index_of (Some condition) = 499 + 2 * number_of condition

pub short_found : (condition : Option Condition) → slice_get the_rows (index_of condition) ≡ Some (short_row condition)
unfolding the_rows
short_found None = refl
short_found (Some Overflow) = refl
short_found (Some NoOverflow) = refl
short_found (Some Below) = refl
short_found (Some AboveOrEqual) = refl
short_found (Some Equal) = refl
short_found (Some NotEqual) = refl
short_found (Some BelowOrEqual) = refl
short_found (Some Above) = refl
short_found (Some Sign) = refl
short_found (Some NoSign) = refl
short_found (Some Parity) = refl
short_found (Some NoParity) = refl
short_found (Some Less) = refl
short_found (Some GreaterOrEqual) = refl
short_found (Some LessOrEqual) = refl
short_found (Some Greater) = refl

pub near_found : (condition : Option Condition) → slice_get the_rows (index_of condition + 1) ≡ Some (near_row condition)
unfolding the_rows
near_found None = refl
near_found (Some Overflow) = refl
near_found (Some NoOverflow) = refl
near_found (Some Below) = refl
near_found (Some AboveOrEqual) = refl
near_found (Some Equal) = refl
near_found (Some NotEqual) = refl
near_found (Some BelowOrEqual) = refl
near_found (Some Above) = refl
near_found (Some Sign) = refl
near_found (Some NoSign) = refl
near_found (Some Parity) = refl
near_found (Some NoParity) = refl
near_found (Some Less) = refl
near_found (Some GreaterOrEqual) = refl
near_found (Some LessOrEqual) = refl
near_found (Some Greater) = refl

-- no jump has the mnemonic of `xchg`, whose operands may change places
pub no_exchange : (condition : Option Condition) → (jump_name condition == XCHG) ≡ false
no_exchange None = refl
no_exchange (Some Overflow) = refl
no_exchange (Some NoOverflow) = refl
no_exchange (Some Below) = refl
no_exchange (Some AboveOrEqual) = refl
no_exchange (Some Equal) = refl
no_exchange (Some NotEqual) = refl
no_exchange (Some BelowOrEqual) = refl
no_exchange (Some Above) = refl
no_exchange (Some Sign) = refl
no_exchange (Some NoSign) = refl
no_exchange (Some Parity) = refl
no_exchange (Some NoParity) = refl
no_exchange (Some Less) = refl
no_exchange (Some GreaterOrEqual) = refl
no_exchange (Some LessOrEqual) = refl
no_exchange (Some Greater) = refl
