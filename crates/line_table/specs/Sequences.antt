-- The sequences of a line table as pieces (DWARF 5, sections 6.2.5.2 and 6.2.5.3).
use Rattle.std.specs.Prelude.{ℕ, ◌+◌, ◌-◌, List, [], ◌∷◌, take, drop, Option, None, Some}
use Rattle.asm_base.specs.declared.places.Place.{Place}
use Rattle.asm_base.specs.declared.places.SectionPlace.{SectionPlace}
use Rattle.asm_frags.specs.Writing.{LooseSection}
use Rattle.line_directives.specs.declared.sequences.Sequence.{Sequence}
use Rattle.line_rows.specs.declared.sections.Gap.{Gap}
use Rattle.table_pieces.specs.declared.marks.Distance.{Distance}
use Rattle.table_pieces.specs.declared.marks.Mark.TheVariants.{At}
use Rattle.table_pieces.specs.Ends.{end_of, end_place}
use Rattle.table_pieces.specs.Pieces.{Piece, plain, address, leb128}

-- a place of the section of this number
abbrev pub place_in : ℕ → Place → SectionPlace
place_in section place = record { section = section; place = place }

-- how far it is from one place of a section to another
abbrev pub distance_in : ℕ → Place → Place → Distance
distance_in section from to = record { to = At (place_in section to); from = At (place_in section from); plus = 0 }

-- the end of the section of this number: behind its items and plain bytes
abbrev pub end_in : ℕ → List LooseSection → Place
end_in section sections = (end_place section (end_of section sections)).place

-- the bytes of rows, so many bytes of which stand before these, with the distance that is due in each gap, before other pieces
abbrev pub gap_pieces : ℕ → ℕ → List Gap → List ℕ → List Piece → List Piece
gap_pieces section from [] bytes pieces = plain bytes ∷ pieces
gap_pieces section from (gap ∷ gaps) bytes pieces =
    plain (take (gap.at - from) bytes) ∷ leb128 (distance_in section gap.from gap.to) ∷ gap_pieces section gap.at gaps (drop (gap.at - from) bytes) pieces

-- what begins a sequence, before other pieces: its address, which is that of a place
abbrev pub start_pieces : SectionPlace → List Piece → List Piece
start_pieces start pieces = plain (0x00 ∷ 0x09 ∷ 0x02 ∷ []) ∷ address start ∷ pieces

-- what ends a sequence, so far behind the last row, before other pieces
abbrev pub stop_pieces : Distance → List Piece → List Piece
stop_pieces distance pieces = plain (0x02 ∷ []) ∷ leb128 distance ∷ plain (0x00 ∷ 0x01 ∷ 0x01 ∷ []) ∷ pieces

-- the sequence of a section's rows up to this end of the section, before other pieces
abbrev pub sequence_pieces : ℕ → Place → Sequence → List Piece → List Piece
sequence_pieces section end sequence pieces =
    start_pieces (place_in section sequence.start)
    (gap_pieces section 0 sequence.rows.gaps sequence.rows.bytes (stop_pieces (distance_in section sequence.last end) pieces))

-- those of all sections with rows, in the order of their numbers, from this number on
abbrev pub sequences_from : List LooseSection → ℕ → List (Option Sequence) → List Piece
sequences_from sections section [] = []
sequences_from sections section (None ∷ sequences) = sequences_from sections (section + 1) sequences
sequences_from sections section (Some sequence ∷ sequences) =
    sequence_pieces section (end_in section sections) sequence (sequences_from sections (section + 1) sequences)
