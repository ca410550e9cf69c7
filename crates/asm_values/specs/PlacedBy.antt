-- What the assembler has placed, as the definitions have it.
use Rattle.std.specs.Prelude.{Result}
use Rattle.asm_base.specs.declared.refusals.Refusal.{Refusal}
use Rattle.asm_operands.specs.declared.place_faults.PlaceCause.{PlaceCause}
use Rattle.asm_base.specs.Refusals.{Gives}
use Rattle.asm_values.specs.State.{Placed}
use Rattle.asm_values.specs.declared.assemblers.Assembler.{Assembler}

-- the state that the fields of the assembler are
abbrev pub placed_by : Assembler → Placed
placed_by assembler = record {
  sections = assembler.sections;
  table = assembler.table;
  current = assembler.current;
  previous = assembler.previous;
  stack = assembler.stack.items;
  syntax = assembler.syntax;
  procedures = assembler.procedures;
  lines = assembler.lines;
  no_warn = assembler.no_warn;
  notes = assembler.notes;
}

-- the call made what the step makes of what was placed before, or answered its fault
abbrev pub PlacesBy : {T : Type 0} → (Placed → Result Placed PlaceCause) → Assembler → Assembler → Result T (Refusal PlaceCause) → Type 0
PlacesBy step old new result = Gives (placed_by new) result (step (placed_by old))
