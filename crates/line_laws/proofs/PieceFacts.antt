-- What is known of the pieces of a line table, of its places, and of the labels of these.
use Rattle.std.proofs.Common.{ℕ, List}
use Rattle.asm_base.specs.declared.places.SectionPlace.{SectionPlace}
use Rattle.asm_base.specs.declared.positions.Pos.{Pos}
use Rattle.asm_symbols.specs.SymbolMap.{SymbolMap}
use Rattle.table_pieces.specs.declared.ends.SectionEnd.{SectionEnd}
use Rattle.table_pieces.specs.Labels.{GetsLabels, NamesPlace, PlacesAreLabels}
use Rattle.table_pieces.specs.Pieces.{Piece, Tables, pieces_put}
use Rattle.piece_laws.specs.LaidTables.{end_address, LaidTable, PlacesRise}
use Rattle.piece_laws.specs.PiecesInFile.{TablesAreInFile}

-- what is known of the labels of places
pub record LabelFacts : Type 0 where
  pub known : (before after : SymbolMap) → PlacesAreLabels before → GetsLabels before after → PlacesAreLabels after
  pub stays : (before after : SymbolMap) (number : ℕ) (at : SectionPlace) → GetsLabels before after → NamesPlace before number at → NamesPlace after number at
  pub pieces : (section : ℕ) (pos : Pos) (pieces : List Piece) (tables : Tables) → GetsLabels tables.symbols (pieces_put section pos pieces tables).symbols

-- and all of it
pub record PieceFacts : Type 0 where
  pub file : TablesAreInFile
  pub places : PlacesRise
  pub labels : LabelFacts

-- where an end of the table's section stands in the layout
abbrev pub at_end : LaidTable → SectionEnd → ℕ
at_end t end = end_address t.laid t.number end
