-- The pieces of which a table is made, and how each is put into the section.
use Rattle.std.specs.Prelude.{◌≡◌, ℕ, ◌<◌, false, List, [], ◌∷◌, length, None, IsSomeAnd, slice_get}
use Rattle.asm_base.specs.declared.positions.Pos.{Pos}
use Rattle.asm_expr.specs.Forms.{Form}
use Rattle.asm_frags.specs.declared.fields.FieldSize.{FieldSize}
use Rattle.asm_frags.specs.declared.fields.FieldSize.TheVariants.{Four, Eight}
use Rattle.asm_frags.specs.Addresses.{changed_at}
use Rattle.asm_frags.specs.Fields.{data_role}
use Rattle.asm_frags.specs.Writing.{LooseSection, new_item, takes_zeros_alone, with_bytes, with_field, with_growing, with_item}
use Rattle.asm_symbols.specs.SymbolMap.{SymbolMap}
use Rattle.asm_base.specs.declared.places.SectionPlace.{SectionPlace}
use Rattle.item_contents.specs.declared.contents.Content.TheVariants.{Align}
use Rattle.item_contents.specs.declared.kinds.Growth.{Growth}
use Rattle.item_contents.specs.declared.kinds.Growth.TheVariants as growth
use Rattle.item_contents.specs.ItemParts.{zeros_up_to}
use Rattle.table_pieces.specs.declared.marks.Distance.{Distance}
use Rattle.table_pieces.specs.declared.marks.Mark.TheVariants.{Here, At}
use Rattle.table_pieces.specs.Marks.{with_label, with_marks, distance_form, address_form}

-- plain bytes; a distance in four bytes; where a place stands, from the four bytes themselves, which the linker fills in; the address of a place in eight
-- bytes, which the linker fills in; a form in a field of this size; the advance of a frame table by a distance; a distance in groups of 7 bits; zeros up to
-- the next multiple of 2 ^ log
pub data Piece : Type 0 where
  plain : List ℕ → Piece
  number : Distance → Piece
  pointer : SectionPlace → Piece
  address : SectionPlace → Piece
  field : FieldSize → Form → Piece
  advance : Distance → Piece
  leb128 : Distance → Piece
  padding : ℕ → Piece

-- from a field to a place
abbrev pub from_here : SectionPlace → Distance
from_here place = record { to = At place; from = Here; plus = 0 }

-- the symbols and the sections
pub record Tables : Type 0 where
  pub symbols : SymbolMap
  pub sections : List LooseSection

-- these symbols and these sections
abbrev pub tables_of : SymbolMap → List LooseSection → Tables
tables_of symbols sections = record { symbols = symbols; sections = sections }

-- a distance in four bytes, last in the section of this number
abbrev pub number_put : ℕ → Pos → Distance → Tables → Tables
number_put section pos distance tables =
    tables_of (with_marks tables.symbols distance)
    (changed_at (with_field pos section Four data_role (distance_form tables.symbols distance)) tables.sections section)

-- the address of a place in eight bytes, last in the section of this number
abbrev pub address_put : ℕ → Pos → SectionPlace → Tables → Tables
address_put section pos place tables =
    tables_of (with_label tables.symbols place)
    (changed_at (with_field pos section Eight data_role (address_form tables.symbols place)) tables.sections section)

-- a form in a field of this size, last in the section of this number
abbrev pub field_put : ℕ → Pos → FieldSize → Form → Tables → Tables
field_put section pos size form tables =
    tables_of tables.symbols (changed_at (with_field pos section size data_role form) tables.sections section)

-- a distance in an item that grows with it, last in the section of this number
abbrev pub grown_put : Growth → ℕ → Pos → Distance → Tables → Tables
grown_put kind section pos distance tables =
    tables_of (with_marks tables.symbols distance)
    (changed_at (with_growing pos section kind None (distance_form tables.symbols distance)) tables.sections section)

-- a piece, last in the section of this number
abbrev pub piece_put : ℕ → Pos → Piece → Tables → Tables
piece_put section pos (plain bytes) tables = tables_of tables.symbols (changed_at (with_bytes pos bytes) tables.sections section)
piece_put section pos (number distance) tables = number_put section pos distance tables
piece_put section pos (pointer place) tables = number_put section pos (from_here place) tables
piece_put section pos (address place) tables = address_put section pos place tables
piece_put section pos (field size form) tables = field_put section pos size form tables
piece_put section pos (advance distance) tables = grown_put growth.Advance section pos distance tables
piece_put section pos (leb128 distance) tables = grown_put (growth.Leb128 false) section pos distance tables
piece_put section pos (padding log) tables =
    tables_of tables.symbols (changed_at (with_item (new_item pos (Align (zeros_up_to log)))) tables.sections section)

-- pieces, one behind the other
abbrev pub pieces_put : ℕ → Pos → List Piece → Tables → Tables
pieces_put section pos [] tables = tables
pieces_put section pos (piece ∷ pieces) tables = pieces_put section pos pieces (piece_put section pos piece tables)

-- there is a section of this number, and it takes more than zeros
pub record Takes (section : ℕ) (sections : List LooseSection) : Type 0 where
  pub within : section < length sections
  pub filled : IsSomeAnd (slice_get sections section) (λ held. takes_zeros_alone held ≡ false)
