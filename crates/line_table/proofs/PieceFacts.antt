-- What is known of the pieces of tables.
use Rattle.std.proofs.Common.{◌≡◌, ℕ, List, sym, subst}
use Rattle.std.specs.Prelude.{IsSomeAnd}
use Rattle.std.specs.List.{slice_get}
use Rattle.asm_base.specs.declared.positions.Pos.{Pos}
use Rattle.asm_frags.specs.Writing.{LooseSection}
use Rattle.asm_symbols.specs.SymbolMap.{SymbolMap}
use Rattle.table_pieces.specs.declared.ends.SectionEnd.{SectionEnd}
use Rattle.table_pieces.specs.Ends.{behind_pieces}
use Rattle.table_pieces.specs.Found.{IsReady, PiecesStand}
use Rattle.table_pieces.specs.Labels.{GetsLabels}
use Rattle.table_pieces.specs.Pieces.{Piece, Tables, tables_of, pieces_put}
use Rattle.table_pieces.specs.Standing.{OneExtends, Extensions, Reaches}

-- they stand behind what was there
pub record Extending : Type 0 where
  pub pieces : (section : ℕ) (pos : Pos) (pieces : List Piece) (tables : Tables) → OneExtends section tables.sections (pieces_put section pos pieces tables).sections
  pub extensions : Extensions

-- they bring labels
pub record Naming : Type 0 where
  pub pieces : (section : ℕ) (pos : Pos) (pieces : List Piece) (tables : Tables) → GetsLabels tables.symbols (pieces_put section pos pieces tables).symbols
  pub same : (map : SymbolMap) → GetsLabels map map
  pub on : (before middle after : SymbolMap) → GetsLabels before middle → GetsLabels middle after → GetsLabels before after

-- they are found in the end
pub record Finding : Type 0 where
  pub ready : (section : ℕ) (pos : Pos) (pieces : List Piece) (tables : Tables) (end : SectionEnd) → IsReady section tables.sections end
      → IsReady section (pieces_put section pos pieces tables).sections (behind_pieces pieces end)
  pub pieces : (section : ℕ) (pos : Pos) (pieces : List Piece) (tables : Tables) (end : SectionEnd) (last : List LooseSection) → IsReady section tables.sections end
      → OneExtends section (pieces_put section pos pieces tables).sections last → IsSomeAnd (slice_get last section) (λ held. PiecesStand held section pos end tables pieces)

-- the end that is counted over them is that of the section
abbrev pub Reaching : Type 0
Reaching = (section : ℕ) (pos : Pos) (pieces : List Piece) (tables : Tables) (end : SectionEnd) → Reaches section tables.sections end
    → Reaches section (pieces_put section pos pieces tables).sections (behind_pieces pieces end)

-- what is made of sections by pieces is behind what was there
pub pieces_grow : Extending → (section : ℕ) (pos : Pos) (pieces : List Piece) (old new : SymbolMap) (before after : List LooseSection)
    → tables_of new after ≡ pieces_put section pos pieces (tables_of old before) → OneExtends section before after
pieces_grow extending section pos pieces old new before after is =
    subst (λ (t : Tables). OneExtends section before t.sections) (sym is) (extending.pieces section pos pieces (tables_of old before))
