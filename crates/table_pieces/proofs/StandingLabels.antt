-- The places of the labels that pieces bring stand in their sections.
use Rattle.std.proofs.Common.{ℕ, List, [], ◌∷◌, ◌++◌, length, Option, None, Some, refl, sym, ap, ◌∙◌, append-nil, append_assoc}
use Rattle.std.proofs.lemmas.List.Elements.{All-nil, All-cons, All-append}
use Rattle.asm_base.specs.declared.places.SectionPlace.{SectionPlace}
use Rattle.asm_base.specs.declared.positions.Pos.{Pos}
use Rattle.asm_frags.specs.Writing.{LooseSection}
use Rattle.asm_symbols.specs.SymbolMap.{SymbolMap, names, index_of}
use Rattle.table_pieces.specs.declared.marks.Distance.{Distance}
use Rattle.table_pieces.specs.declared.marks.Mark.{Mark}
use Rattle.table_pieces.specs.declared.marks.Mark.TheVariants.{Here, At}
use Rattle.table_pieces.specs.Marks.{place_name, spot_of, label_symbol, with_label_by, with_label, with_mark, with_marks}
use Rattle.table_pieces.specs.Pieces as piece
use Rattle.table_pieces.specs.Pieces.{Piece, Tables, from_here, piece_put, pieces_put}
use Rattle.table_pieces.specs.StandingPlaces.{HoldsItems, LabelStands, GetsStanding, MarkStands, PlacesStand, AllPlacesStand, PiecesBringStanding}

module _ (sections : List LooseSection) where
  standing_same : (map : SymbolMap) → GetsStanding sections map map
  standing_same map = record { labels = []; all = sym (append-nil map.symbols); each = All-nil (LabelStands sections) }

  standing_on : (before middle after : SymbolMap) → GetsStanding sections before middle → GetsStanding sections middle after → GetsStanding sections before after
  standing_on before middle after one other = record {
    labels = one.labels ++ other.labels;
    all = other.all ∙ ap (λ all. all ++ other.labels) one.all ∙ append_assoc before.symbols one.labels other.labels;
    each = All-append (LabelStands sections) one.labels other.labels one.each other.each;
  }

  standing_by : (found : Option ℕ) (map : SymbolMap) (at : SectionPlace) → HoldsItems sections at.section at.place.item → GetsStanding sections map (with_label_by found map at)
  standing_by (Some number) map at has = standing_same map
  standing_by None map at has = record {
    labels = label_symbol at (length map.symbols) ∷ [];
    all = refl;
    each = All-cons (LabelStands sections) (label_symbol at (length map.symbols)) [] (spot_of at (length map.symbols), refl, has) (All-nil (LabelStands sections));
  }

  label_stands : (map : SymbolMap) (at : SectionPlace) → HoldsItems sections at.section at.place.item → GetsStanding sections map (with_label map at)
  unfolding with_label
  label_stands map at has = standing_by (index_of (place_name at) (names map.symbols)) map at has

  mark_stands : (map : SymbolMap) (mark : Mark) → MarkStands sections mark → GetsStanding sections map (with_mark map mark)
  mark_stands map Here stands = standing_same map
  mark_stands map (At at) stands = label_stands map at stands

  marks_stand : (map : SymbolMap) (distance : Distance) → MarkStands sections distance.to → MarkStands sections distance.from
      → GetsStanding sections map (with_marks map distance)
  marks_stand map distance to from =
      standing_on map (with_mark map distance.to) (with_marks map distance) (mark_stands map distance.to to) (mark_stands (with_mark map distance.to) distance.from from)

  piece_stands : (section : ℕ) (pos : Pos) (one : Piece) (tables : Tables) → PlacesStand sections one
      → GetsStanding sections tables.symbols (piece_put section pos one tables).symbols
  piece_stands section pos (piece.plain bytes) tables stands = standing_same tables.symbols
  piece_stands section pos (piece.number distance) tables stands = marks_stand tables.symbols distance stands.0 stands.1
  piece_stands section pos (piece.pointer place) tables stands = marks_stand tables.symbols (from_here place) stands tt
  piece_stands section pos (piece.address place) tables stands = label_stands tables.symbols place stands
  piece_stands section pos (piece.field size form) tables stands = standing_same tables.symbols
  piece_stands section pos (piece.advance distance) tables stands = marks_stand tables.symbols distance stands.0 stands.1
  piece_stands section pos (piece.leb128 distance) tables stands = marks_stand tables.symbols distance stands.0 stands.1
  piece_stands section pos (piece.padding log) tables stands = standing_same tables.symbols

  pieces_stand : (section : ℕ) (pos : Pos) (pieces : List Piece) (tables : Tables) → AllPlacesStand sections pieces
      → GetsStanding sections tables.symbols (pieces_put section pos pieces tables).symbols
  pieces_stand section pos [] tables stands = standing_same tables.symbols
  pieces_stand section pos (one ∷ pieces) tables stands =
      standing_on tables.symbols (piece_put section pos one tables).symbols (pieces_put section pos pieces (piece_put section pos one tables)).symbols
      (piece_stands section pos one tables stands.0) (pieces_stand section pos pieces (piece_put section pos one tables) stands.1)

pub bring_standing : PiecesBringStanding
bring_standing = record { pieces = pieces_stand; same = standing_same; on = standing_on }
