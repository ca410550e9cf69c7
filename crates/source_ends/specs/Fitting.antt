-- The numbers of the object at the end of a source fit their fields, as far as the program's own do.
use Rattle.std.specs.Prelude.{◌≡◌, ℕ, Bool, List, Some, Result, Ok, Err, OnOk}
use Rattle.asm_base.specs.declared.causes.FragCause.{FragCause}
use Rattle.asm_base.specs.declared.notes.Noted.{Noted}
use Rattle.asm_base.specs.declared.refusals.Refusal.{Refusal}
use Rattle.asm_base.specs.declared.refusals.Refusal.TheVariants as refusal
use Rattle.asm_frags.specs.Writing.{LooseSection}
use Rattle.asm_uses.specs.Tables.{Table}
use Rattle.cfi_directives.specs.Procedures.{no_procedures}
use Rattle.line_directives.specs.Taking.{LineTable}
use Rattle.code_functions.specs.declared.items.CodeItem.{CodeItem}
use Rattle.code_functions.specs.Recorded.{Recorded}
use Rattle.asm_symbols.specs.SymbolMap.{SymbolMap}
use Rattle.asm_relax.specs.declared.faults.LayoutFault.{LayoutFault}
use Rattle.asm_relax.specs.Settling.{LaidSections, layout_of}
use Rattle.table_pieces.specs.Pieces.{Tables}
use Rattle.elf_object.specs.Limits.{NumbersFit}
use Rattle.asm_place.specs.declared.place_faults.FaultAt.{FaultAt}
use Rattle.source_ends.specs.Synthesis.{Synthesis, ComeTo}
use Rattle.source_ends.specs.Ending.{with_tables, finished, procedures_by, unless_fault}
use Rattle.source_ends.specs.declared.ending.NotedObject.{NotedObject}

-- where there is a layout, the numbers of its object fit as far as the program's own do
abbrev pub LayoutFits : SymbolMap → Result LaidSections LayoutFault → Type 0
LayoutFits symbols (Ok laid) = NumbersFit symbols laid
LayoutFits symbols (Err fault) = Unit {0}

-- where there are tables, so do those of the layout with them
abbrev pub TablesFit : Result Tables FragCause → Type 0
TablesFit (Ok tables) = LayoutFits tables.symbols (layout_of tables.symbols tables.sections)
TablesFit (Err cause) = Unit {0}

-- the object or the fault at the end, with the frame tables that are worked out of these functions, of which so many are counted, by what these come to; the
-- numbers of an object fit
pub record EndsWithFrames (fatal : Bool) (count : ℕ) (sections : List LooseSection) (table : Table) (lines : LineTable)
    (functions : List (Recorded CodeItem)) (notes : List Noted) (answer : Result NotedObject FaultAt) : Type 0 where
  pub made : Synthesis
  pub comes : ComeTo table.symbols sections functions made
  pub answers : unless_fault (Some made) notes (finished fatal count sections table (procedures_by (Some made) no_procedures) lines notes) ≡ answer
  pub fits : OnOk answer (TablesFit (with_tables (procedures_by (Some made) no_procedures) lines table.symbols sections))

-- the call answers so
abbrev pub AnswersWithFrames : Bool → ℕ → List LooseSection → Table → LineTable → List (Recorded CodeItem) → List Noted → Result NotedObject (Refusal FaultAt)
    → Type 0
AnswersWithFrames fatal count sections table lines functions notes (Ok made) = EndsWithFrames fatal count sections table lines functions notes (Ok made)
AnswersWithFrames fatal count sections table lines functions notes (Err (refusal.Fault at)) = EndsWithFrames fatal count sections table lines functions notes (Err at)
AnswersWithFrames fatal count sections table lines functions notes (Err refusal.NoMemory) = Unit {0}
