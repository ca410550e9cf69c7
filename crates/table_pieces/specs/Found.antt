-- Where each piece stands in the section in the end, when all is put.
use Rattle.std.specs.Prelude.{◌≡◌, ℕ, ◌+◌, ◌≤◌, ◌⊎◌, true, false, List, [], ◌∷◌, length, take, All, IsSomeAnd, None, Some, slice_get, slice_range}
use Rattle.asm_base.specs.declared.positions.Pos.{Pos}
use Rattle.asm_expr.specs.Forms.{Form}
use Rattle.asm_frags.specs.declared.fields.Field.{Field}
use Rattle.asm_frags.specs.declared.fields.FieldSize.{FieldSize}
use Rattle.asm_frags.specs.declared.fields.FieldSize.TheVariants.{Four, Eight}
use Rattle.asm_frags.specs.Fields.{width, data_role, growth_role}
use Rattle.asm_frags.specs.PlainBytes.{field_end, IsBeside}
use Rattle.asm_frags.specs.Writing.{LooseItem, LooseSection}
use Rattle.section_laws.specs.Within.{AreBetween, IsWithin}
use Rattle.asm_symbols.specs.SymbolMap.{SymbolMap}
use Rattle.item_contents.specs.declared.contents.Content.{Content}
use Rattle.item_contents.specs.declared.contents.Content.TheVariants.{Run, Align, Growing}
use Rattle.item_contents.specs.declared.kinds.Growth.{Growth}
use Rattle.item_contents.specs.declared.kinds.Growth.TheVariants as growth
use Rattle.item_contents.specs.ItemParts.{zeros_up_to}
use Rattle.table_pieces.specs.declared.ends.SectionEnd.{SectionEnd}
use Rattle.table_pieces.specs.Marks.{distance_form, address_form}
use Rattle.table_pieces.specs.Pieces as put
use Rattle.table_pieces.specs.Pieces.{Piece, from_here, Tables, piece_put}
use Rattle.table_pieces.specs.Ends.{behind_plain, behind_piece}
use Rattle.table_pieces.specs.Standing.{HasEnd}

-- the section has this end too
pub record IsReadyAt (end : SectionEnd) (held : LooseSection) : Type 0 where
  pub reaches : HasEnd end held
  pub low : IsWithin held

-- the section of this number is so
abbrev pub IsReady : ℕ → List LooseSection → SectionEnd → Type 0
IsReady section sections end = IsSomeAnd (slice_get sections section) (IsReadyAt end)

module _ (held : LooseSection) where
  -- the bytes stand at this offset behind so many items, beside all fields
  pub record PlainAt (count offset : ℕ) (bytes : List ℕ) : Type 0 where
    pub there : slice_range held.bytes offset (offset + length bytes) ≡ bytes
    pub within : offset + length bytes ≤ length held.bytes
    pub apart : All (IsBeside offset (offset + length bytes)) held.fields
    pub between : AreBetween held.items count offset (offset + length bytes)

  -- the field has this index, and stands behind as many items as it says
  pub record FieldAt (index : ℕ) (field : Field) : Type 0 where
    pub there : slice_get held.fields index ≡ Some field
    pub between : AreBetween held.items field.item field.offset (field_end field)

  -- the item has this index, and no plain byte behind it stands before it
  pub record ItemAt (index : ℕ) (item : LooseItem) : Type 0 where
    pub there : slice_get held.items index ≡ Some item
    pub within : item.offset ≤ length held.bytes
    pub first : All (λ other. other.offset ≤ item.offset) (take index held.items)

-- the field of a form behind this end
abbrev pub field_behind : FieldSize → ℕ → Pos → SectionEnd → Form → Field
field_behind size section pos end form = record {
  pos = pos;
  item = (behind_plain (width size) end).items;
  offset = end.bytes;
  section = section;
  size = size;
  role = data_role;
  in_item = false;
  form = form;
}

-- that of a distance in four bytes
abbrev pub number_field : ℕ → Pos → SectionEnd → Form → Field
number_field section pos end form = field_behind Four section pos end form

-- the field of what grows, in the last bytes of its item
abbrev pub grown_field : Growth → ℕ → Pos → SectionEnd → Form → Field
grown_field kind section pos end form = record {
  pos = pos;
  item = end.items + 1;
  offset = end.bytes;
  section = section;
  size = Four;
  role = growth_role kind None;
  in_item = true;
  form = form;
}

-- an item behind this end
abbrev pub item_at : Pos → SectionEnd → Content → LooseItem
item_at pos end content = record { pos = pos; offset = end.bytes; content = content; address = tt; size = tt }

-- what grows is an item behind this end, with its field
pub record GrownAt (kind : Growth) (held : LooseSection) (section : ℕ) (pos : Pos) (end : SectionEnd) (form : Form) : Type 0 where
  pub index : ℕ
  pub field : slice_get held.fields index ≡ Some (grown_field kind section pos end form)
  pub item : ItemAt held end.items (item_at pos end (Growing (record { kind = kind; field = index })))

-- plain bytes behind this end stand in a run that ends behind so many items: the last one, or one that begins with them
abbrev pub RunAt : LooseSection → Pos → SectionEnd → ℕ → Type 0
RunAt held pos end count = (count ≡ end.items) ⊎ ((count ≡ end.items + 1) × ItemAt held end.items (item_at pos end Run))

-- the field of a form stands behind this end
pub record FieldBehind (size : FieldSize) (held : LooseSection) (section : ℕ) (pos : Pos) (end : SectionEnd) (form : Form) : Type 0 where
  pub run : RunAt held pos end (behind_plain (width size) end).items
  pub index : ℕ
  pub field : FieldAt held index (field_behind size section pos end form)

-- that of a distance in four bytes
abbrev pub NumberAt : LooseSection → ℕ → Pos → SectionEnd → Form → Type 0
NumberAt held section pos end form = FieldBehind Four held section pos end form

-- the piece stands behind this end
abbrev pub PieceStands : LooseSection → ℕ → Pos → SymbolMap → SectionEnd → Piece → Type 0
PieceStands held section pos map end (put.plain bytes) =
    RunAt held pos end (behind_plain (length bytes) end).items × PlainAt held (behind_plain (length bytes) end).items end.bytes bytes
PieceStands held section pos map end (put.number distance) = NumberAt held section pos end (distance_form map distance)
PieceStands held section pos map end (put.pointer place) = NumberAt held section pos end (distance_form map (from_here place))
PieceStands held section pos map end (put.address place) = FieldBehind Eight held section pos end (address_form map place)
PieceStands held section pos map end (put.field size form) = FieldBehind size held section pos end form
PieceStands held section pos map end (put.advance distance) = GrownAt growth.Advance held section pos end (distance_form map distance)
PieceStands held section pos map end (put.leb128 distance) = GrownAt (growth.Leb128 false) held section pos end (distance_form map distance)
PieceStands held section pos map end (put.padding log) = ItemAt held end.items (item_at pos end (Align (zeros_up_to log)))

-- the pieces stand one behind the other, behind this end
abbrev pub PiecesStand : LooseSection → ℕ → Pos → SectionEnd → Tables → List Piece → Type 0
PiecesStand held section pos end tables [] = Unit {0}
PiecesStand held section pos end tables (piece ∷ pieces) =
    PieceStands held section pos tables.symbols end piece
    × PiecesStand held section pos (behind_piece piece end) (piece_put section pos piece tables) pieces
