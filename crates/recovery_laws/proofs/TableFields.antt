-- The fields of a frame table and of a line table are those of their sections, and none is a jump's.
use Rattle.std.proofs.Common.{◌≡◌, ℕ, ◌⊎◌, inl, inr, Bool, true, false, cond, List, [], ◌∷◌, ◌++◌, All, Option, None, Some, Ok, refl, sym, ap, subst, ◌∙◌}
use Rattle.std.specs.Prelude.{slice_get}
use Rattle.std.proofs.lemmas.List.Elements.{All-nil, All-push}
use Rattle.asm_base.specs.declared.places.SectionPlace.{SectionPlace}
use Rattle.asm_base.specs.declared.positions.Pos.{Pos}
use Rattle.asm_expr.specs.Forms.{Form}
use Rattle.asm_frags.specs.declared.fields.Field.{Field}
use Rattle.asm_frags.specs.declared.fields.FieldSize.{FieldSize}
use Rattle.asm_frags.specs.declared.fields.FieldSize.TheVariants.{Four, Eight}
use Rattle.asm_frags.specs.Addresses.{changed_at, changed_there}
use Rattle.asm_frags.specs.Fields.{data_role}
use Rattle.asm_frags.specs.Writing.{LooseSection, ends_in_run, new_item, with_item, with_run, with_bytes, with_field, with_growing}
use Rattle.item_contents.specs.declared.contents.Content.TheVariants.{Align, Run}
use Rattle.item_contents.specs.declared.kinds.Growth.TheVariants as growth
use Rattle.item_contents.specs.ItemParts.{zeros_up_to}
use Rattle.cfi_directives.specs.declared.frames.Frame.{Frame}
use Rattle.eh_frame.specs.Entries.{entry_pieces}
use Rattle.eh_frame.specs.FoundTables.{IsPlaced}
use Rattle.table_pieces.specs.Marks.{distance_form, address_form}
use Rattle.table_pieces.specs.Pieces as put
use Rattle.table_pieces.specs.Pieces.{Piece, plain, number, pointer, advance, leb128, padding, from_here, Tables, piece_put, pieces_put}
use Rattle.eh_frame.specs.Commons.{common_pieces}
use Rattle.eh_frame.specs.Placing.{Putting, padded_log, place_of, common_put, common_place, frame_put, entries_put, common_begun, new_table, table_put}
use Rattle.line_directives.specs.Taking.{LineTable}
use Rattle.line_table.specs.FoundTables as line_found
use Rattle.line_table.specs.Placing as line_table
use Rattle.asm_place.specs.SymbolPlaces.{IsOwnField, FieldsAreOwn}
use Rattle.section_laws.specs.Within.{AreWithin}
use Rattle.recovery_laws.proofs.Lists.{same_Ok, set_cases, last_or_before}

-- a run has no fields
run_fields : (pos : Pos) (section : LooseSection) → (with_run pos section).fields ≡ section.fields
run_fields pos section = by (ends_in_run section.items)
  where
    by : (test : Bool) → (cond test section (with_item (new_item pos Run) section)).fields ≡ section.fields
    by true = refl
    by false = refl

module _ (last section : ℕ) where
  -- the fields of the section are own where they were
  abbrev Keeps : (LooseSection → LooseSection) → Type 0
  Keeps change = (held : LooseSection) → All (IsOwnField last section) held.fields → All (IsOwnField last section) (change held).fields

  changed_fields : (change : LooseSection → LooseSection) → Keeps change → (sections : List LooseSection) → FieldsAreOwn last sections
      → FieldsAreOwn last (changed_at change sections section)
  changed_fields change keeps sections own = by (slice_get sections section) refl
    where
      by : (found : Option LooseSection) → slice_get sections section ≡ found → FieldsAreOwn last (changed_there change sections section found)
      by None is = own
      by (Some held) is = λ other found there. elim (set_cases sections section (change held) other found there) [
        | inl both ↦
            subst (λ (n : ℕ). All (IsOwnField last n) found.fields) both.0
            (subst (λ (s : LooseSection). All (IsOwnField last section) s.fields) both.1 (keeps held (own section held is)))
        | inr was ↦ own other found was
      ]

  -- a field more, which is own
  field_more : (held : LooseSection) (field : Field) → IsOwnField last section field → All (IsOwnField last section) held.fields → All (IsOwnField last section) (held.fields ++ field ∷ [])
  field_more held field one own = All-push (IsOwnField last section) held.fields field own one

  number_fields : (size : FieldSize) (pos : Pos) (form : Form) → Keeps (with_field pos section size data_role form)
  number_fields size pos form held = field_more held _ (record { own = refl; target = λ in_item branch. absurd cc })

  advance_fields : (pos : Pos) (form : Form) → Keeps (with_growing pos section growth.Advance None form)
  advance_fields pos form held = field_more held _ (record { own = refl; target = λ in_item branch. absurd cc })

  leb128_fields : (pos : Pos) (form : Form) → Keeps (with_growing pos section (growth.Leb128 false) None form)
  leb128_fields pos form held = field_more held _ (record { own = refl; target = λ in_item branch. absurd cc })

  bytes_fields : (pos : Pos) (bytes : List ℕ) → Keeps (with_bytes pos bytes)
  bytes_fields pos bytes held own = subst (All (IsOwnField last section)) (sym (run_fields pos held)) own

  -- a piece
  piece_fields : (pos : Pos) (piece : Piece) (tables : Tables) → FieldsAreOwn last tables.sections → FieldsAreOwn last (piece_put section pos piece tables).sections
  piece_fields pos (plain bytes) tables own = changed_fields (with_bytes pos bytes) (bytes_fields pos bytes) tables.sections own
  piece_fields pos (number distance) tables own =
      changed_fields (with_field pos section Four data_role (distance_form tables.symbols distance)) (number_fields Four pos (distance_form tables.symbols distance)) tables.sections own
  piece_fields pos (pointer place) tables own =
      changed_fields (with_field pos section Four data_role (distance_form tables.symbols (from_here place)))
      (number_fields Four pos (distance_form tables.symbols (from_here place))) tables.sections own
  piece_fields pos (put.address place) tables own =
      changed_fields (with_field pos section Eight data_role (address_form tables.symbols place)) (number_fields Eight pos (address_form tables.symbols place))
      tables.sections own
  piece_fields pos (put.field size form) tables own = changed_fields (with_field pos section size data_role form) (number_fields size pos form) tables.sections own
  piece_fields pos (advance distance) tables own =
      changed_fields (with_growing pos section growth.Advance None (distance_form tables.symbols distance)) (advance_fields pos (distance_form tables.symbols distance))
      tables.sections own
  piece_fields pos (leb128 distance) tables own =
      changed_fields (with_growing pos section (growth.Leb128 false) None (distance_form tables.symbols distance))
      (leb128_fields pos (distance_form tables.symbols distance)) tables.sections own
  piece_fields pos (padding log) tables own = changed_fields (with_item (new_item pos (Align (zeros_up_to log)))) (λ held all. all) tables.sections own

  -- pieces, entries, and the table
  pieces_fields : (pos : Pos) (pieces : List Piece) (tables : Tables) → FieldsAreOwn last tables.sections → FieldsAreOwn last (pieces_put section pos pieces tables).sections
  pieces_fields pos [] tables own = own
  pieces_fields pos (piece ∷ pieces) tables own = pieces_fields pos pieces (piece_put section pos piece tables) (piece_fields pos piece tables own)

  common_fields : (frame : Frame) (found : Option SectionPlace) (putting : Putting) → FieldsAreOwn last putting.tables.sections
      → FieldsAreOwn last (common_put section frame found putting).tables.sections
  common_fields frame (Some place) putting own = own
  common_fields frame None putting own = pieces_fields frame.pos (common_pieces frame) putting.tables own

  entries_fields : (frames : List Frame) (putting : Putting) → FieldsAreOwn last putting.tables.sections → FieldsAreOwn last (entries_put section frames putting).tables.sections
  entries_fields [] putting own = own
  entries_fields (frame ∷ frames) putting own =
      let found = place_of frame putting.commons in
      let one = common_put section frame found putting in
      let pieces = entry_pieces section one.end (common_place section frame putting) (padded_log frames) frame in
      entries_fields frames (frame_put section (padded_log frames) frame putting) (pieces_fields frame.pos pieces one.tables (common_fields frame found putting own))

  table_fields : (first : Frame) (frames : List Frame) (tables : Tables) → FieldsAreOwn last tables.sections → FieldsAreOwn last (table_put section first frames tables).sections
  table_fields first frames tables own = entries_fields frames (common_begun section first tables) (pieces_fields first.pos (common_pieces first) tables own)

-- a new section without fields has none
new_fields : (last : ℕ) (new : LooseSection) → new.fields ≡ [] → (sections : List LooseSection) → FieldsAreOwn last sections → FieldsAreOwn last (sections ++ new ∷ [])
new_fields last new none sections own = λ number section there. elim (last_or_before sections new number section there) [
  | inl same ↦
      subst (λ (s : LooseSection). All (IsOwnField last number) s.fields) same (subst (All (IsOwnField last number)) (sym none) (All-nil (IsOwnField last number)))
  | inr was ↦ own number section was
]

-- so each field is its section's where the table is put, if each was
pub placed_fields : (last : ℕ) (frame : Frame) (frames : List Frame) (tables after : Tables) → IsPlaced frame frames tables after → FieldsAreOwn last tables.sections
    → FieldsAreOwn last after.sections
placed_fields last frame frames tables after is own =
    subst (λ (t : Tables). FieldsAreOwn last t.sections) (sym is.put) (table_fields last is.section frame (frame ∷ frames) is.first first)
  where
    first : FieldsAreOwn last is.first.sections
    first = elim is.begins [
      | inl there ↦ subst (λ (t : Tables). FieldsAreOwn last t.sections) (sym there.1) own
      | inr new ↦ subst (λ (t : Tables). FieldsAreOwn last t.sections) (sym new.2) (new_fields last new_table refl tables.sections own)
    ]

-- a line table is put, if there is a `.file` with a number, and else nothing
abbrev pub LinesArePut : LineTable → Tables → Tables → Type 0
LinesArePut lines tables after = ((pos : Pos) × line_found.IsPlaced pos lines tables after) ⊎ (after ≡ tables)

-- without such a `.file` nothing is put
nothing_put : (lines : LineTable) (tables after : Tables) → lines.first ≡ None → line_table.placed lines tables ≡ Ok after → after ≡ tables
unfolding line_table.placed
nothing_put lines tables after none is = same_Ok after tables (sym is ∙ ap (λ (first : Option Pos). line_table.placed_at first lines tables) none)

-- so it is of every line table
pub lines_put : ((pos : Pos) (lines : LineTable) (tables after : Tables) → lines.first ≡ Some pos → AreWithin tables.sections → line_table.placed lines tables ≡ Ok after
    → line_found.IsPlaced pos lines tables after) → (lines : LineTable) (tables after : Tables) → AreWithin tables.sections → line_table.placed lines tables ≡ Ok after
    → LinesArePut lines tables after
lines_put law lines tables after within is = by lines.first refl
  where
    by : (first : Option Pos) → lines.first ≡ first → LinesArePut lines tables after
    by None none = inr (nothing_put lines tables after none is)
    by (Some pos) some = inl (pos, law pos lines tables after some within is)

-- then each field is its section's too
pub lines_fields : (last : ℕ) (lines : LineTable) (tables after : Tables) → LinesArePut lines tables after → FieldsAreOwn last tables.sections → FieldsAreOwn last after.sections
lines_fields last lines tables after (inr same) own = subst (λ (t : Tables). FieldsAreOwn last t.sections) (sym same) own
lines_fields last lines tables after (inl (pos, is)) own =
    subst (λ (t : Tables). FieldsAreOwn last t.sections) (sym is.put)
    (pieces_fields last is.section pos (line_table.unit_pieces is.section is.first.sections lines) is.first first)
  where
    first : FieldsAreOwn last is.first.sections
    first = elim is.begins [
      | inl there ↦ subst (λ (t : Tables). FieldsAreOwn last t.sections) (sym there.1) own
      | inr new ↦ subst (λ (t : Tables). FieldsAreOwn last t.sections) (sym new.2) (new_fields last line_table.new_table refl tables.sections own)
    ]
