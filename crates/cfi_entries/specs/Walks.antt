-- How the bytes of instructions are gone over once: a place, the rows there, and what was found of the place asked for. No public contract cites this:
-- the row in force is defined in Places.
use Rattle.std.specs.Prelude.{◌≡◌, ℕ, ◌+◌, List, [], ◌∷◌, Option, None, Some, nat_le, if◌then◌else◌}
use Rattle.std.specs.Option.{option_map, option_and_then}
use Rattle.cfi_rows.specs.declared.rows.CfaRow.{CfaRow}
use Rattle.cfi_rows.specs.declared.rows.Insn.{Insn}
use Rattle.cfi_rows.specs.declared.rows.Insn.TheVariants.{Nop, Advance, Op}
use Rattle.cfi_entries.specs.declared.running.Running.{Running}
use Rattle.cfi_rows.specs.Rows.{Rows, changed, start_rows, rows_of}
use Rattle.cfi_entries.specs.Places.{decoded}

-- a place, the rows there, and the row in force at the place asked for, if nothing follows
pub record Walk : Type 0 where
  pub place : ℕ
  pub rows : Rows
  pub found : CfaRow

-- the walk at a place: its row is found, if the place is not past the one asked for
abbrev pub arrived : ℕ → ℕ → CfaRow → Rows → Walk
arrived at place found rows = record { place = place; rows = rows; found = if nat_le place at then rows.row else found }

-- the walk behind an instruction, if that can be run
abbrev pub step : CfaRow → ℕ → Insn → Walk → Option Walk
step initial at Nop walk = Some (arrived at walk.place walk.found walk.rows)
step initial at (Advance distance) walk = Some (arrived at (walk.place + distance) walk.found walk.rows)
step initial at (Op op) walk = option_map (arrived at walk.place walk.found) (changed initial op walk.rows)

-- the walk behind all of them
abbrev pub run : CfaRow → ℕ → List Insn → Walk → Option Walk
run initial at [] walk = Some walk
run initial at (insn ∷ insns) walk = option_and_then (run initial at insns) (step initial at insn walk)

-- the walk behind bytes of at most so many instructions
abbrev pub ran : CfaRow → ℕ → ℕ → List ℕ → Walk → Option Walk
ran initial at most bytes walk = option_and_then (λ insns. run initial at insns walk) (decoded most bytes)

-- the walk before any instruction
abbrev pub start : CfaRow → Walk
start initial = record { place = 0; rows = start_rows initial; found = initial }

-- what a walk found in the end
abbrev pub found_by : Option Walk → Option CfaRow
found_by walk = option_map (λ walk. walk.found) walk

-- the walk of a running
abbrev pub walk_of : Running → Walk
walk_of running = record { place = running.place; rows = rows_of running.row running.saved.items; found = running.found }

-- what a call that takes a step answers, and its walk
abbrev pub Steps : Option Walk → Option (Unit {0}) → Walk → Type 0
Steps None answer walk = answer ≡ None
Steps (Some due) answer walk = (answer ≡ Some tt) × (walk ≡ due)

-- with the bytes that are left, or without an answer, the walk comes to the same
abbrev pub Continues : CfaRow → ℕ → List ℕ → Walk → Option (List ℕ) → Walk → Type 0
Continues initial at bytes old None new = (more : ℕ) → ran initial at (more + 1) bytes old ≡ None
Continues initial at bytes old (Some rest) new = (more : ℕ) → ran initial at (more + 1) bytes old ≡ ran initial at more rest new
