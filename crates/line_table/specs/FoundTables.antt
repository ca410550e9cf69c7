-- Where the pieces of a table stand in its section in the end, when all is put.
use Rattle.std.specs.Prelude.{◌≡◌, ℕ, ◌⊎◌, [], ◌∷◌, ◌++◌, codes, length, All, IsSomeAnd, None, Some, slice_get}
use Rattle.asm_base.specs.declared.positions.Pos.{Pos}
use Rattle.asm_frags.specs.SectionOf.{section_number}
use Rattle.asm_frags.specs.Writing.{LooseSection}
use Rattle.section_laws.specs.Within.{IsWithin}
use Rattle.line_directives.specs.Taking.{LineTable}
use Rattle.table_pieces.specs.Ends.{behind_pieces}
use Rattle.table_pieces.specs.Found.{IsReady, PiecesStand}
use Rattle.table_pieces.specs.Pieces.{Tables, tables_of, Takes}
use Rattle.table_pieces.specs.Standing.{HasEnd, AllExtend}
use Rattle.line_table.specs.Placing.{nothing_put, unit_pieces, table_put, new_table}

-- the pieces of the unit stand one behind the other, from the beginning of the section to its end
pub record TableStands (held : LooseSection) (section : ℕ) (pos : Pos) (lines : LineTable) (tables : Tables) : Type 0 where
  pub pieces : PiecesStand held section pos nothing_put tables (unit_pieces section tables.sections lines)
  pub ends : HasEnd (behind_pieces (unit_pieces section tables.sections lines) nothing_put) held

-- the table is put at this position into its section, which had nothing, or into a new one, which is the last
pub record IsPlaced (pos : Pos) (lines : LineTable) (tables after : Tables) : Type 0 where
  pub section : ℕ
  pub first : Tables
  pub begins : ((section_number (codes ".debug_line") tables.sections ≡ Some section) × (first ≡ tables))
      ⊎ ((section_number (codes ".debug_line") tables.sections ≡ None) × (section ≡ length tables.sections)
      × (first ≡ tables_of tables.symbols (tables.sections ++ new_table ∷ [])))
  pub takes : Takes section first.sections
  pub ready : IsReady section first.sections nothing_put
  pub put : after ≡ table_put section pos lines first
  pub stands : IsSomeAnd (slice_get after.sections section) (λ held. TableStands held section pos lines first)
  pub within : All IsWithin after.sections
  pub grows : AllExtend tables.sections after.sections
