-- How many labels a table brings.
use Rattle.std.specs.Prelude.{◌≡◌, ℕ, ◌+◌, ◌≤◌, List, length, Ok, slice_get}
use Rattle.std.specs.Option.{option_map_or}
use Rattle.asm_base.specs.declared.positions.Pos.{Pos}
use Rattle.asm_frags.specs.Writing.{LooseSection}
use Rattle.line_directives.specs.Taking.{LineTable, LineDirective, table_of}
use Rattle.table_pieces.specs.Counts.{labels_of, bytes_of}
use Rattle.table_pieces.specs.Pieces.{Tables}
use Rattle.line_table.specs.FoundTables.{IsPlaced}
use Rattle.line_table.specs.Placing.{unit_pieces}

-- how many plain bytes the section of this number has
abbrev pub bytes_at : List LooseSection → ℕ → ℕ
bytes_at sections number = option_map_or (λ held. length held.bytes) (slice_get sections number) 0

-- the pieces of a table of directives bring no more labels than they have plain bytes; so do the symbols become no more than the section has bytes
pub record LabelsAreFew : Type 0 where
  pub pieces : (directives : List LineDirective) (lines : LineTable) (section : ℕ) (sections : List LooseSection) → table_of directives ≡ Ok lines
      → labels_of (unit_pieces section sections lines) ≤ bytes_of (unit_pieces section sections lines)
  pub symbols : (directives : List LineDirective) (lines : LineTable) (tables after : Tables) (pos : Pos) → table_of directives ≡ Ok lines
      → (is : IsPlaced pos lines tables after)
      → length after.symbols.symbols ≤ length tables.symbols.symbols + bytes_at after.sections is.section
