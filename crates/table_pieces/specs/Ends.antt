-- How far a section reaches, and where pieces that are put into it end.
use Rattle.std.specs.Prelude.{ℕ, ◌+◌, true, false, List, [], ◌∷◌, length, slice_get, if◌then◌else◌}
use Rattle.std.specs.Option.{option_map_or}
use Rattle.asm_base.specs.declared.places.SectionPlace.{SectionPlace}
use Rattle.asm_frags.specs.Fields.{width}
use Rattle.asm_frags.specs.Writing.{LooseSection}
use Rattle.table_pieces.specs.declared.ends.SectionEnd.{SectionEnd}
use Rattle.table_pieces.specs.Pieces.{Piece, plain, number, pointer, address, field, advance, leb128, padding}

-- the end behind so many plain bytes more, which go on with a run that is last
abbrev pub behind_plain : ℕ → SectionEnd → SectionEnd
behind_plain count end = record {
  items = if end.in_run then end.items else end.items + 1;
  bytes = end.bytes + count;
  in_run = true;
}

-- the end behind an item more
abbrev pub behind_item : SectionEnd → SectionEnd
behind_item end = record { items = end.items + 1; bytes = end.bytes; in_run = false }

-- the end behind a piece
abbrev pub behind_piece : Piece → SectionEnd → SectionEnd
behind_piece (plain bytes) end = behind_plain (length bytes) end
behind_piece (number distance) end = behind_plain 4 end
behind_piece (pointer place) end = behind_plain 4 end
behind_piece (address place) end = behind_plain 8 end
behind_piece (field size form) end = behind_plain (width size) end
behind_piece (advance distance) end = behind_item end
behind_piece (leb128 distance) end = behind_item end
behind_piece (padding log) end = behind_item end

-- the end behind pieces
abbrev pub behind_pieces : List Piece → SectionEnd → SectionEnd
behind_pieces [] end = end
behind_pieces (piece ∷ pieces) end = behind_pieces pieces (behind_piece piece end)

-- the end as a place of the section of this number
abbrev pub end_place : ℕ → SectionEnd → SectionPlace
end_place section end = record { section = section; place = record { item = end.items; offset = end.bytes } }

-- the end of a section whose last item is a run
abbrev pub run_end : LooseSection → SectionEnd
run_end section = record { items = length section.items; bytes = length section.bytes; in_run = true }

-- the end of no section
abbrev pub no_end : SectionEnd
no_end = record { items = 0; bytes = 0; in_run = true }

-- the end of the section of this number, whose last item is a run
unfoldable pub end_of : ℕ → List LooseSection → SectionEnd
end_of section sections = option_map_or run_end (slice_get sections section) no_end
