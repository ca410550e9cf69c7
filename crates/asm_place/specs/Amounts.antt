-- Instructions by the trees of their amounts, and whether these fit where their names have symbols.
use Rattle.std.specs.Prelude.{Result, Ok, Err}
use Rattle.asm_base.specs.declared.refusals.Refusal.{Refusal}
use Rattle.asm_base.specs.declared.refusals.Refusal.TheVariants.{Fault, NoMemory}
use Rattle.asm_base.specs.declared.positions.Pos.{Pos}
use Rattle.asm_operands.specs.declared.place_faults.PlaceCause.{PlaceCause}
use Rattle.asm_values.specs.State.{Placed, with_names, known_here}
use Rattle.x86_insn.specs.declared.insns.Insn.{Insn}
use Rattle.x86_insn.specs.Amounts.{amount_tree}
use Rattle.amount_forms.specs.Amounts.{trees_of, InsnFits}
use Rattle.asm_place.specs.Coding.{shape_of, place_insn}

-- the instruction by the trees of its amounts
abbrev pub place_amounts : Pos → Insn → Placed → Result Placed PlaceCause
place_amounts pos insn placed = place_insn pos (shape_of insn) (amount_tree insn.immediate.amount) (amount_tree insn.displacement.amount) placed

-- what is known of its names is below 2^64 where they have symbols, unless the call wanted memory
abbrev pub FitsThere : {T : Type 0} → Result T (Refusal PlaceCause) → Pos → Insn → Placed → Type 0
FitsThere (Ok done) pos insn placed = InsnFits (known_here (with_names pos (trees_of placed.syntax insn) placed)) insn
FitsThere (Err (Fault cause)) pos insn placed = InsnFits (known_here (with_names pos (trees_of placed.syntax insn) placed)) insn
FitsThere (Err NoMemory) pos insn placed = Unit {0}
