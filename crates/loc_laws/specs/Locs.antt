-- What the line table of an object says of the instructions behind each `.loc` (GNU as manual, ".loc"; DWARF 5, section 6.2).
use Rattle.std.specs.Prelude.{◌≡◌, ℕ, ◌+◌, ◌-◌, ◌≤◌, Bool, true, false, List, length, Option, None, Some, IsSomeAnd, slice_get}
use Rattle.asm_lines.specs.NextStatements.{TokenStatement}
use Rattle.asm_relax.specs.Settling.{LaidSections}
use Rattle.asm_symbols.specs.SymbolMap.{SymbolMap}
use Rattle.asm_values.specs.State.{Placed, here}
use Rattle.att_insns.specs.InsnTexts.{InsnText}
use Rattle.asm_place.specs.CodePlaces.{insn_in, is_instruction, jump_in}
use Rattle.asm_place.specs.Instructions.{behind_labels, instruction_of}
use Rattle.cfi_directives.specs.declared.frames.Frame.{Frame}
use Rattle.elf_file.specs.Places.{PieceAt}
use Rattle.elf_object.specs.Places.{section_offset, moved}
use Rattle.item_bytes.specs.declared.jumps.Condition.{Condition}
use Rattle.line_rows.specs.Header.{line_at}
use Rattle.line_directives.specs.declared.sequences.Sequence.{Sequence}
use Rattle.line_directives.specs.Numbered.{under}
use Rattle.line_directives.specs.Taking.{LineTable}
use Rattle.line_table.specs.Sequences.{place_in}
use Rattle.piece_laws.specs.LaidTables.{place_address}
use Rattle.line_laws.specs.TableReads.{rows_before, IsLineSection}
use Rattle.readback_laws.specs.Instructions.{has_no_bits, next_place, jump_place}
use Rattle.readback_laws.specs.Origins.{FramesAreReady, Origin, IsReached}
use Rattle.x86_lookup.specs.BareInstructions.{Coded}

-- the statement is an instruction in the syntax in force, without operands or with some
abbrev pub IsInstruction : Placed → TokenStatement → Type 0
IsInstruction placed s = is_instruction placed.syntax (behind_labels s.tokens) ≡ true

-- where a statement stands in the object that is put where these end, in bytes from the beginning of its section: where a label in front of it does
abbrev pub statement_address : LaidSections → Placed → ℕ
statement_address laid placed = place_address laid (here placed).place

-- the bytes of the statement, put where these end, begin at this place of the file: those of an instruction without operands, or with some, are the next plain
-- bytes of the section, and those of a direct jump its next item
pub record BeginsAt (symbols : SymbolMap) (laid : LaidSections) (s : TokenStatement) (placed : Placed) (place : ℕ) : Type 0 where
  pub bare : (coded : Coded) → instruction_of placed.syntax s ≡ Some coded → next_place symbols laid placed ≡ place
  pub coded : (text : InsnText) → insn_in placed.syntax s ≡ Some text → jump_in text ≡ None → next_place symbols laid placed ≡ place
  pub jump : (text : InsnText) (condition : Option Condition) → insn_in placed.syntax s ≡ Some text → jump_in text ≡ Some condition
      → jump_place symbols laid placed ≡ place

-- where the first row of a sequence of this section stands
abbrev pub first_address : LaidSections → ℕ → Sequence → ℕ
first_address laid section sequence = place_address laid (place_in section sequence.start)

-- the table is all of `.debug_line` in the object, and by its bytes alone it gives, for the statement that is put where these end, the row of the last `.loc` of
-- its section before it: the sequence of the section counts those of the sections with rows before it, and distances count from its first row. At the same place
-- the bytes of the statement begin
pub record LocReadsBack (object : List ℕ) (symbols : SymbolMap) (laid : LaidSections) (lines : LineTable) (s : TokenStatement) (placed : Placed) (sequence : Sequence) : Type 0 where
  pub number : ℕ
  pub section : IsSomeAnd (slice_get laid number) IsLineSection
  pub table : List ℕ
  pub stands : PieceAt object (section_offset symbols laid number) table
  pub whole : IsSomeAnd (slice_get laid number) (λ held. moved held.items (length held.items) (length held.bytes) ≡ length table)
  pub begins : BeginsAt symbols laid s placed (section_offset symbols laid placed.current + statement_address laid placed)
  pub behind : first_address laid placed.current sequence ≤ statement_address laid placed
  pub row : line_at table (rows_before placed.current lines) (statement_address laid placed - first_address laid placed.current sequence) ≡ Some sequence.row

-- each instruction that is handed out, in a section that has bytes in the file and in which a `.loc` stands before it, reads back so; `sequence` are the rows
-- of its section so far, and the last of these is `sequence.row`
abbrev pub LocsRead : Bool → List TokenStatement → List ℕ → SymbolMap → LaidSections → LineTable → Type 0
LocsRead no_warn handed object symbols laid lines =
    (s : TokenStatement) (placed : Placed) (sequence : Sequence) → IsReached no_warn handed s placed → IsInstruction placed s
    → has_no_bits laid placed.current ≡ false → under placed.current placed.lines.sequences ≡ Some sequence
    → LocReadsBack object symbols laid lines s placed sequence

-- so it is with each object of statements whose frames are ready
abbrev pub LocsReadBack : Type 0
LocsReadBack = (no_warn : Bool) (worked_out : Option (List Frame)) (handed : List TokenStatement) (object : List ℕ)
    → (origin : Origin no_warn worked_out handed object) → FramesAreReady worked_out origin.whole
    → LocsRead no_warn handed object origin.tables.symbols origin.laid origin.whole.lines
