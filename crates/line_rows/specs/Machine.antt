-- The line machine (DWARF 5, sections 6.2.2 and 6.2.5): its registers, and what each operation makes of them.
use Rattle.std.specs.Prelude.{◌≡◌, ℕ, ◌+◌, ◌-◌, ◌^◌, ℤ, pos, negsuc, ◌+ℤ◌, true, false, not, Option, None, Some, unwrap_or, nat_lt, nat_le, ◌&&◌, if◌then◌else◌}
use Rattle.std.specs.Option.{option_map, option_and_then}
use Rattle.line_rows.specs.declared.rows.LineRow.{LineRow}
use Rattle.line_rows.specs.declared.rows.LineOp.{LineOp}
use Rattle.line_rows.specs.declared.rows.LineOp.TheVariants.{Copy, AdvancePc, AdvanceLine, SetFile, SetColumn, NegateStmt, SetBasicBlock, SetPrologueEnd, SetEpilogueBegin, SetIsa, Special, EndSequence, SetAddress, SetDiscriminator, Skipped}
use Rattle.line_rows.specs.declared.machine.Machine.{Machine}

-- a row as it's appended: its distance from the sequence's first address, and none where it ends the sequence
abbrev pub Line : Type 0
Line = ℕ × Option LineRow

-- the registers where a sequence begins; default_is_stmt is 1
abbrev pub first_row : LineRow
first_row = record {
  file = 1;
  line = 1;
  column = 0;
  is_stmt = true;
  isa = 0;
  discriminator = 0;
  basic_block = false;
  prologue_end = false;
  epilogue_begin = false;
}

-- the machine where a sequence begins: no row yet, at address 0
abbrev pub start : Machine
start = record { address = 0; first = None; row = first_row }

-- the sequence's first address is that of its first row
abbrev pub first_of : Machine → ℕ
first_of machine = unwrap_or machine.first machine.address

-- how far the address is from it, if that's 0 to 2 ^ 64 - 1
abbrev pub distance_from : ℕ → ℕ → Option ℕ
distance_from first address = if nat_le first address && nat_lt (address - first) (2 ^ 64) then Some (address - first) else None

-- how far the machine's address is from the sequence's first
abbrev pub distance : Machine → Option ℕ
distance machine = distance_from (first_of machine) machine.address

-- a register's value: 0 to 2 ^ 32 - 1
abbrev pub register : ℕ → Option ℕ
register value = if nat_lt value (2 ^ 32) then Some value else None

-- the same of a number that may be below 0, which no register holds
abbrev pub register_at : ℤ → Option ℕ
register_at (pos value) = register value
register_at (negsuc value) = None

-- the line behind a step
abbrev pub line_after : ℕ → ℤ → Option ℕ
line_after line step = register_at (pos line +ℤ step)

-- a machine, and the row that was appended
abbrev pub Step : Type 0
Step = Machine × Option Line

-- the machine with other registers, and no row
abbrev pub with_row : Machine → LineRow → Step
with_row machine row = (record machine { row = row }, None)

-- the registers behind a row
abbrev pub behind_row : LineRow → LineRow
behind_row row = record row { discriminator = 0; basic_block = false; prologue_end = false; epilogue_begin = false }

-- a row is appended
abbrev pub appended : Machine → Option Step
appended machine =
    option_map (λ place. (record machine { first = Some (first_of machine); row = behind_row machine.row }, Some (place, Some machine.row))) (distance machine)

-- what an operation makes of the machine, and the row that it appends; none where a register or a distance leaves its range
abbrev pub step : LineOp → Machine → Option Step
step Copy machine = appended machine
step (AdvancePc more) machine = Some (record machine { address = machine.address + more }, None)
step (AdvanceLine more) machine = option_map (λ line. with_row machine (record machine.row { line = line })) (line_after machine.row.line more)
step (SetFile value) machine = option_map (λ value. with_row machine (record machine.row { file = value })) (register value)
step (SetColumn value) machine = option_map (λ value. with_row machine (record machine.row { column = value })) (register value)
step NegateStmt machine = Some (with_row machine (record machine.row { is_stmt = not machine.row.is_stmt }))
step SetBasicBlock machine = Some (with_row machine (record machine.row { basic_block = true }))
step SetPrologueEnd machine = Some (with_row machine (record machine.row { prologue_end = true }))
step SetEpilogueBegin machine = Some (with_row machine (record machine.row { epilogue_begin = true }))
step (SetIsa value) machine = option_map (λ value. with_row machine (record machine.row { isa = value })) (register value)
step (Special line more) machine =
    option_and_then (λ line. appended (record machine { address = machine.address + more; row = record machine.row { line = line } }))
    (line_after machine.row.line line)
step EndSequence machine = option_map (λ place. (start, Some (place, None))) (distance machine)
step (SetAddress address) machine = Some (record machine { address = address }, None)
step (SetDiscriminator value) machine = option_map (λ value. with_row machine (record machine.row { discriminator = value })) (register value)
step Skipped machine = Some (machine, None)

-- what a call that takes a step answers, and the machine behind it
abbrev pub Steps : Option Step → Option (Option Line) → Machine → Type 0
Steps None answer new = answer ≡ None
Steps (Some (due, line)) answer new = (answer ≡ Some line) × (new ≡ due)
