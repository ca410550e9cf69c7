-- What the statements so far have placed.
use Rattle.std.specs.Prelude.{ℕ, Bool, true, false, List, [], ◌++◌, Option, Result, Ok, Err, if◌then◌else◌}
use Rattle.asm_operands.specs.declared.place_faults.PlaceCause.{PlaceCause}
use Rattle.asm_operands.specs.declared.place_faults.PlaceCause.TheVariants.{BadSymbolUse}
use Rattle.asm_base.specs.declared.notes.Noted.{Noted}
use Rattle.asm_base.specs.declared.positions.Pos.{Pos}
use Rattle.asm_expr.specs.Knowledge.{Knowledge}
use Rattle.asm_expr.specs.Trees.{Tree}
use Rattle.asm_expr.specs.Forms.{Form}
use Rattle.item_contents.specs.declared.contents.Content.{Content}
use Rattle.item_contents.specs.declared.kinds.Growth.{Growth}
use Rattle.asm_base.specs.declared.causes.FragCause.{FragCause}
use Rattle.asm_frags.specs.declared.fields.FieldSize.{FieldSize}
use Rattle.asm_frags.specs.Sections.{first_sections, put_into}
use Rattle.asm_frags.specs.declared.roles.FieldRole.{FieldRole}
use Rattle.asm_frags.specs.Writing.{LooseSection, new_item, bytes_put, field_put, item_put, growing_put}
use Rattle.asm_symbols.specs.declared.entries.Spot.{Spot}
use Rattle.asm_values.specs.declared.stacks.Entered.{Entered}
use Rattle.asm_words.specs.declared.directives.Syntax.{Syntax}
use Rattle.asm_words.specs.declared.directives.Syntax.TheVariants.{Att}
use Rattle.cfi_directives.specs.Procedures.{Procedures, no_procedures}
use Rattle.line_directives.specs.Taking.{LineTable, no_lines}
use Rattle.x86_insn.specs.declared.amounts.Suffix.{Suffix}
use Rattle.asm_base.specs.Refusals.{◌>>=◌}
use Rattle.asm_operands.specs.LayerFaults.{of_sections}
use Rattle.asm_uses.specs.Tables.{Table, no_table, with_trees}
use Rattle.asm_uses.specs.Places.{spot_at, known_at}

-- the sections, the symbols, the section that statements put into and the one before it, those that `.popsection` comes back to
-- with the last one at the end, the syntax of instructions, the procedures of frame tables, the line table, and the notes; and whether no warning is to be made
pub record Placed : Type 0 where
  pub sections : List LooseSection
  pub table : Table
  pub current : ℕ
  pub previous : ℕ
  pub stack : List Entered
  pub syntax : Syntax
  pub procedures : Procedures
  pub lines : LineTable
  pub no_warn : Bool
  pub notes : List Noted

-- statements put into `.text` at first, and instructions are in AT&T syntax
abbrev pub nothing_placed : Bool → Placed
nothing_placed no_warn = record {
  sections = first_sections;
  table = no_table;
  current = 0;
  previous = 0;
  stack = [];
  syntax = Att;
  procedures = no_procedures;
  lines = no_lines;
  no_warn = no_warn;
  notes = [];
}

-- the same with these symbols
abbrev pub with_table : Placed → Table → Placed
with_table placed table = record placed { table = table }

-- what is placed, unless the statement names a symbol by `.`
abbrev pub unless_dot : Bool → Placed → Result Placed PlaceCause
unless_dot true placed = Err BadSymbolUse
unless_dot false placed = Ok placed

-- these notes more, unless no warning is to be made
abbrev pub with_notes : List Noted → Placed → Placed
with_notes notes placed = record placed { notes = placed.notes ++ (if placed.no_warn then [] else notes) }

-- where what is put into the current section next goes
abbrev pub here : Placed → Spot
here placed = spot_at placed.sections placed.current

-- what is known there
abbrev pub known_here : Placed → Knowledge
known_here placed = known_at placed.table.symbols (here placed)

-- what is placed, once each name of these expressions has a symbol
abbrev pub with_names : Pos → List Tree → Placed → Placed
with_names pos trees placed = with_table placed (with_trees pos trees placed.table)

-- something is put into the section of this number
abbrev pub put_section : (LooseSection → Result LooseSection FragCause) → ℕ → Placed → Result Placed PlaceCause
put_section put number placed =
    of_sections (put_into put placed.sections number) >>= λ sections. Ok (record placed { sections = sections })

-- plain bytes last in the section of this number
unfoldable pub put_bytes_into : Pos → ℕ → List ℕ → Placed → Result Placed PlaceCause
put_bytes_into pos number bytes placed = put_section (bytes_put pos bytes) number placed

-- a field last in the section of this number
unfoldable pub put_field_into : Pos → ℕ → FieldSize → FieldRole → Form → Placed → Result Placed PlaceCause
put_field_into pos number size role form placed = put_section (field_put pos number size role form) number placed

-- an item last in the section of this number
unfoldable pub push_into : Pos → ℕ → Content → Placed → Result Placed PlaceCause
push_into pos number content placed = put_section (item_put (new_item pos content)) number placed

-- an item last in the section of this number that grows with the value of this form
unfoldable pub put_growing_into : Pos → ℕ → Growth → Option Suffix → Form → Placed → Result Placed PlaceCause
put_growing_into pos number kind suffix form placed = put_section (growing_put pos number kind suffix form) number placed

-- plain bytes last in the current section
abbrev pub put_bytes : Pos → List ℕ → Placed → Result Placed PlaceCause
put_bytes pos bytes placed = put_bytes_into pos placed.current bytes placed

-- a field last in the current section
abbrev pub put_field : Pos → FieldSize → FieldRole → Form → Placed → Result Placed PlaceCause
put_field pos size role form placed = put_field_into pos placed.current size role form placed

-- an item last in the current section
abbrev pub push_item : Pos → Content → Placed → Result Placed PlaceCause
push_item pos content placed = push_into pos placed.current content placed

-- an item last in the current section that grows with the value of this form
abbrev pub put_growing : Pos → Growth → Option Suffix → Form → Placed → Result Placed PlaceCause
put_growing pos kind suffix form placed = put_growing_into pos placed.current kind suffix form placed
