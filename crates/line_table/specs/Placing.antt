-- A line table, put into its section.
use Rattle.std.specs.Prelude.{ℕ, ◌-◌, ◌^◌, ◌==◌, ◌&&◌, not, Bool, false, List, [], ◌∷◌, ◌++◌, codes, length, Option, None, Some, Result, Ok, Err, slice_get, if◌then◌else◌}
use Rattle.asm_base.specs.declared.causes.FragCause.{FragCause}
use Rattle.asm_base.specs.declared.causes.FragCause.TheVariants.{BadSection}
use Rattle.asm_base.specs.declared.places.SectionPlace.{SectionPlace}
use Rattle.asm_base.specs.declared.positions.Pos.{Pos}
use Rattle.asm_frags.specs.SectionOf.{new_section, section_number}
use Rattle.asm_frags.specs.Sections.{section_flags}
use Rattle.asm_frags.specs.Writing.{LooseSection, takes_zeros_alone}
use Rattle.line_directives.specs.Taking.{LineTable}
use Rattle.table_pieces.specs.declared.ends.SectionEnd.{SectionEnd}
use Rattle.table_pieces.specs.declared.marks.Mark.TheVariants.{Here, At}
use Rattle.table_pieces.specs.Ends.{behind_plain, behind_pieces, end_place}
use Rattle.table_pieces.specs.Pieces.{Piece, plain, number, Tables, tables_of, pieces_put}
use Rattle.line_table.specs.Header.{header_bytes}
use Rattle.line_table.specs.Sequences.{sequences_from}

-- the end of a section that nothing was put into
abbrev pub nothing_put : SectionEnd
nothing_put = record { items = 0; bytes = 0; in_run = false }

-- what the length of the unit counts: the header, and the sequences of these sections
abbrev pub counted_pieces : List LooseSection → LineTable → List Piece
counted_pieces sections lines = plain (header_bytes lines.files) ∷ sequences_from sections 0 lines.sequences

-- the length: from behind its own four bytes to the end
abbrev pub length_piece : SectionPlace → Piece
length_piece end = number (record { to = At end; from = Here; plus = 2 ^ 64 - 4 })

-- where a unit ends that is the first in its section, which has this number
abbrev pub unit_end : ℕ → List LooseSection → LineTable → SectionPlace
unit_end section sections lines = end_place section (behind_pieces (counted_pieces sections lines) (behind_plain 4 nothing_put))

-- the unit, which is the first in the section of this number (DWARF 5, section 6.2.4)
abbrev pub unit_pieces : ℕ → List LooseSection → LineTable → List Piece
unit_pieces section sections lines = length_piece (unit_end section sections lines) ∷ counted_pieces sections lines

-- the table at this position: rows reach to where their sections end before it is put
abbrev pub table_put : ℕ → Pos → LineTable → Tables → Tables
table_put section pos lines tables = pieces_put section pos (unit_pieces section tables.sections lines) tables

-- `.debug_line`, to which nothing was put
abbrev pub new_table : LooseSection
new_table = new_section (codes ".debug_line") (section_flags 0) 1 0

-- whether a table may be put into the section: nothing was put there, and it takes more than zeros
abbrev pub is_free : LooseSection → Bool
is_free held = not (takes_zeros_alone held) && (length held.items == 0) && (length held.bytes == 0)

-- the table in the section that there is, which is refused where that is not free
abbrev pub placed_there : ℕ → Option LooseSection → Pos → LineTable → Tables → Result Tables FragCause
placed_there section None pos lines tables = Err BadSection
placed_there section (Some held) pos lines tables = if is_free held then Ok (table_put section pos lines tables) else Err BadSection

-- the table in the section of this number, or in a new one, which is the last
abbrev pub placed_in : Option ℕ → Pos → LineTable → Tables → Result Tables FragCause
placed_in (Some section) pos lines tables = placed_there section (slice_get tables.sections section) pos lines tables
placed_in None pos lines tables =
    Ok (table_put (length tables.sections) pos lines (tables_of tables.symbols (tables.sections ++ new_table ∷ [])))

-- the table at the position of the first `.file` with a number; where there is none, nothing
abbrev pub placed_at : Option Pos → LineTable → Tables → Result Tables FragCause
placed_at None lines tables = Ok tables
placed_at (Some pos) lines tables = placed_in (section_number (codes ".debug_line") tables.sections) pos lines tables

-- the line table of a source in `.debug_line`
unfoldable pub placed : LineTable → Tables → Result Tables FragCause
placed lines tables = placed_at lines.first lines tables
