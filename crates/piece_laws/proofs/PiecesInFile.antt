-- Pieces stand in the file one behind the other.
use Rattle.std.proofs.Common.{◌≡◌, ◌+◌, List, [], ◌∷◌, length, sym, subst, arith, length-append}
use Rattle.asm_base.specs.declared.positions.Pos.{Pos}
use Rattle.elf_file.specs.Places.{PieceAt}
use Rattle.table_pieces.specs.declared.ends.SectionEnd.{SectionEnd}
use Rattle.table_pieces.specs.Ends.{behind_piece, behind_pieces}
use Rattle.table_pieces.specs.Found.{PiecesStand}
use Rattle.table_pieces.specs.Labels.{PlacesAreLabels}
use Rattle.table_pieces.specs.Made.{Made, piece_bytes, pieces_bytes, AreMade}
use Rattle.table_pieces.specs.Pieces.{Piece, Tables, piece_put, pieces_put}
use Rattle.piece_laws.specs.HeldDistances.{NamesStay}
use Rattle.piece_laws.specs.LaidTables.{place_address, StandsTo}
use Rattle.piece_laws.specs.PiecesInFile.{AllFit, PiecesAreInFile}
use Rattle.piece_laws.proofs.Parts.{stands_both, stands_behind, stands_first}
use Rattle.piece_laws.proofs.TableSections.{PieceFacts, TableSection, table_section, image, base, at_end, end_is}
use Rattle.piece_laws.proofs.PieceBytes.{piece_stays, piece_made}

module _ (facts : PieceFacts) (t : TableSection) where
  -- what the layout makes of pieces behind an end, where they stand in the file, and how far the end moves
  pub record AllMade (pieces : List Piece) (end : SectionEnd) : Type 0 where
    pub mades : List Made
    pub are_made : AreMade (place_address t.laid) (at_end facts t end) pieces mades
    pub stands : PieceAt (image facts t) (base facts t + at_end facts t end) (pieces_bytes pieces mades)
    pub reach : at_end facts t (behind_pieces pieces end) ≡ at_end facts t end + length (pieces_bytes pieces mades)

  pub pieces_made : (tables : Tables) (pos : Pos) (end : SectionEnd) (pieces : List Piece) → PieceAt (image facts t) (base facts t + at_end facts t end) []
      → StandsTo t.held end → PlacesAreLabels tables.symbols → NamesStay (pieces_put t.number pos pieces tables).symbols t.symbols → AllFit t.sections t.laid t.number pieces
      → PiecesStand t.held t.number pos end tables pieces → AllMade pieces end
  pieces_made tables pos end [] here enough known stays fit stand = record {
    mades = [];
    are_made = tt;
    stands = here;
    reach = omega arith;
  }
  pieces_made tables pos end (piece ∷ pieces) here enough known stays fit stand =
      let next = piece_put t.number pos piece tables in
      let all = pieces_put t.number pos pieces next in
      let one = piece_made facts t tables pos end piece enough.items known
      (λ symbol at there. stays symbol at (facts.labels.stays next.symbols all.symbols symbol at (facts.labels.pieces t.number pos pieces next) there)) fit.0 stand.0 in
      let behind = behind_piece piece end in
      let place : base facts t + at_end facts t behind ≡ base facts t + at_end facts t end + length (piece_bytes piece one.made) =
      (let reach = one.reach in omega (arith, reach)) in
      let there = subst (λ at. PieceAt (image facts t) at []) (sym place) (stands_behind (image facts t) (piece_bytes piece one.made) (base facts t + at_end facts t end) one.stands) in
      let more = pieces_made next pos behind pieces there (piece_stays facts t tables.symbols pos end piece enough stand.0)
      (facts.labels.known tables.symbols next.symbols known (facts.labels.pieces t.number pos (piece ∷ []) tables)) stays fit.1 stand.1 in
      let reach = one.reach in
      let later = more.reach in
      let long = length-append (piece_bytes piece one.made) (pieces_bytes pieces more.mades) in
      record {
        mades = one.made ∷ more.mades;
        are_made = (one.is_made, subst (λ here. AreMade (place_address t.laid) here pieces more.mades) reach more.are_made);
        stands = stands_both (image facts t) (piece_bytes piece one.made) (pieces_bytes pieces more.mades) (base facts t + at_end facts t end) one.stands
            (subst (λ at. PieceAt (image facts t) at (pieces_bytes pieces more.mades)) place more.stands);
        reach = omega (arith, reach, later, long);
      }

  -- the section has the items and plain bytes up to the end behind pieces
  pub pieces_stay : (tables : Tables) (pos : Pos) (end : SectionEnd) (pieces : List Piece) → StandsTo t.held end → PiecesStand t.held t.number pos end tables pieces
      → StandsTo t.held (behind_pieces pieces end)
  pieces_stay tables pos end [] stands stand = stands
  pieces_stay tables pos end (piece ∷ pieces) stands stand =
      pieces_stay (piece_put t.number pos piece tables) pos (behind_piece piece end) pieces (piece_stays facts t tables.symbols pos end piece stands stand.0) stand.1

  -- pieces of which there is a first one stand where that does
  first_made : (tables : Tables) (pos : Pos) (end : SectionEnd) (piece : Piece) (pieces : List Piece) → StandsTo t.held end → PlacesAreLabels tables.symbols
      → NamesStay (pieces_put t.number pos (piece ∷ pieces) tables).symbols t.symbols → AllFit t.sections t.laid t.number (piece ∷ pieces)
      → PiecesStand t.held t.number pos end tables (piece ∷ pieces) → AllMade (piece ∷ pieces) end
  first_made tables pos end piece pieces enough known stays fit stand =
      let next = piece_put t.number pos piece tables in
      let all = pieces_put t.number pos pieces next in
      let one = piece_made facts t tables pos end piece enough.items known
      (λ symbol at there. stays symbol at (facts.labels.stays next.symbols all.symbols symbol at (facts.labels.pieces t.number pos pieces next) there)) fit.0 stand.0 in
      pieces_made tables pos end (piece ∷ pieces) (stands_first (image facts t) (piece_bytes piece one.made) (base facts t + at_end facts t end) one.stands)
      enough known stays fit stand

-- so they are in the file
pub are_in_file : PieceFacts → PiecesAreInFile
are_in_file facts table tables pos end piece pieces enough known stays fit stand =
    let t : TableSection = table_section facts table in
    let made = first_made facts t tables pos end piece pieces enough known stays fit stand in
    let here = end_is facts t end in
    let last = end_is facts t (behind_pieces (piece ∷ pieces) end) in
    let reach = made.reach in
    record {
      mades = made.mades;
      are_made = subst (λ at. AreMade (place_address t.laid) at (piece ∷ pieces) made.mades) (sym here) made.are_made;
      stands = subst (λ at. PieceAt (image facts t) (base facts t + at) (pieces_bytes (piece ∷ pieces) made.mades)) (sym here) made.stands;
      reach = omega (arith, here, last, reach);
    }
