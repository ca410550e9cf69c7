-- The symbols of the marks of a distance.
use Rattle.std.proofs.Common.{◌≡◌, ℕ, ◌^◌, ◌<◌, ◌≤◌, List, [], ◌∷◌, length, refl}
use Rattle.asm_base.specs.declared.positions.Pos.{Pos}
use Rattle.asm_frags.specs.declared.fields.Field.{Field}
use Rattle.asm_frags.specs.Fields.{own_place}
use Rattle.asm_symbols.specs.Interning.{number_of}
use Rattle.asm_symbols.specs.SymbolMap.{SymbolMap}
use Rattle.asm_base.specs.declared.places.SectionPlace.{SectionPlace}
use Rattle.table_pieces.specs.declared.marks.Distance.{Distance}
use Rattle.table_pieces.specs.declared.marks.Mark.{Mark}
use Rattle.table_pieces.specs.declared.marks.Mark.TheVariants.{Here, At}
use Rattle.table_pieces.specs.Labels.{GetsLabels, NamesPlace, PlacesAreLabels}
use Rattle.table_pieces.specs.Marks.{place_name, with_label, with_mark, with_marks, mark_number, distance_form, address_form}
use Rattle.table_pieces.specs.Pieces.{Piece, number, Tables, tables_of, pieces_put}
use Rattle.piece_laws.specs.HeldDistances.{IsMarkOf, NamesStay, HasDistance, HasAddress}

-- what is known of the labels of places
pub record LabelFacts : Type 0 where
  pub named : (map : SymbolMap) (at : SectionPlace) → PlacesAreLabels map → NamesPlace (with_label map at) (number_of map (place_name at)) at
  pub known : (before after : SymbolMap) → PlacesAreLabels before → GetsLabels before after → PlacesAreLabels after
  pub stays : (before after : SymbolMap) (number : ℕ) (at : SectionPlace) → GetsLabels before after → NamesPlace before number at → NamesPlace after number at
  pub pieces : (section : ℕ) (pos : Pos) (pieces : List Piece) (tables : Tables) → GetsLabels tables.symbols (pieces_put section pos pieces tables).symbols

module _ (facts : LabelFacts) where
  -- a mark brings a label at most
  mark_labels : (map : SymbolMap) (mark : Mark) → GetsLabels map (with_mark map mark)
  mark_labels map mark =
      facts.pieces 0 (record { file = 0; line = 0 }) (number (record { to = mark; from = Here; plus = 0 }) ∷ []) (tables_of map [])

  mark_named : (map : SymbolMap) (mark : Mark) → PlacesAreLabels map → IsMarkOf (with_mark map mark) mark (mark_number map mark)
  mark_named map Here known = refl
  mark_named map (At at) known = facts.named map at known

  mark_stays : (before after : SymbolMap) (mark : Mark) (symbol : ℕ) → NamesStay before after → IsMarkOf before mark symbol → IsMarkOf after mark symbol
  mark_stays before after Here symbol stays is = is
  mark_stays before after (At at) symbol stays is = stays symbol at is

  -- a field that is put has the form of its distance
  pub has_distance : (map last : SymbolMap) (field : Field) (distance : Distance) → PlacesAreLabels map → NamesStay (with_marks map distance) last
      → length last.symbols ≤ own_place → field.form ≡ distance_form map distance → distance.plus < 2 ^ 64 → HasDistance last field distance
  has_distance map last field distance known stays few is plus =
      let to = with_mark map distance.to in
      let both = with_marks map distance in
      record {
        few = few;
        to = mark_number map distance.to;
        from = mark_number to distance.from;
        form = is;
        plus = plus;
        to_named = mark_stays to last distance.to (mark_number map distance.to)
            (λ symbol at there. stays symbol at (facts.stays to both symbol at (mark_labels to distance.from) there)) (mark_named map distance.to known);
        from_named = mark_stays both last distance.from (mark_number to distance.from) stays
            (mark_named to distance.from (facts.known map to known (mark_labels map distance.to)));
      }

  -- and one that holds an address that of its place
  pub has_address : (map last : SymbolMap) (field : Field) (at : SectionPlace) → PlacesAreLabels map → NamesStay (with_label map at) last
      → length last.symbols ≤ own_place → field.form ≡ address_form map at → HasAddress last field at
  has_address map last field at known stays few is = record {
    few = few;
    label = number_of map (place_name at);
    form = is;
    named = stays (number_of map (place_name at)) at (facts.named map at known);
  }
