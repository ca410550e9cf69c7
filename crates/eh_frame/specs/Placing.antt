-- A frame table, put behind what stands in its section.
use Rattle.std.specs.Prelude.{ℕ, List, [], ◌∷◌, ◌++◌, codes, length, Option, None, Some, Result, Ok, Err, slice_get, if◌then◌else◌}
use Rattle.std.specs.List.{find}
use Rattle.std.specs.Option.{option_map, unwrap_or}
use Rattle.asm_base.specs.declared.causes.FragCause.{FragCause}
use Rattle.asm_base.specs.declared.causes.FragCause.TheVariants.{BadSection}
use Rattle.asm_frags.specs.SectionOf.{new_section, section_number}
use Rattle.asm_frags.specs.Sections.{section_flags}
use Rattle.asm_frags.specs.Writing.{LooseSection, takes_zeros_alone}
use Rattle.cfi_directives.specs.declared.frames.Frame.{Frame}
use Rattle.asm_base.specs.declared.places.SectionPlace.{SectionPlace}
use Rattle.table_pieces.specs.declared.ends.SectionEnd.{SectionEnd}
use Rattle.table_pieces.specs.Ends.{behind_pieces, end_place, end_of}
use Rattle.table_pieces.specs.Pieces.{Tables, tables_of, piece_put, pieces_put}
use Rattle.eh_frame.specs.Commons.{share_common, head_piece, rest_pieces, common_pieces}
use Rattle.eh_frame.specs.Entries.{entry_pieces}

-- the last entry is padded to a multiple of 8, and each other one to a multiple of 4
abbrev pub padded_log : List Frame → ℕ
padded_log [] = 3
padded_log (frame ∷ frames) = 2

-- a CIE that stands at a place, by a procedure that it is made for
pub record Common : Type 0 where
  pub frame : Frame
  pub place : SectionPlace

-- the CIEs so far, the end of the section behind what was put, and what was put
pub record Putting : Type 0 where
  pub commons : List Common
  pub end : SectionEnd
  pub tables : Tables

-- where the CIE of a procedure stands, if it is there
abbrev pub place_of : Frame → List Common → Option SectionPlace
place_of frame commons = option_map (λ common. common.place) (find (λ common. share_common common.frame frame) commons)

-- the CIE of a procedure, unless it is there
abbrev pub common_put : ℕ → Frame → Option SectionPlace → Putting → Putting
common_put section frame (Some place) putting = putting
common_put section frame None putting = record {
  commons = putting.commons ++ record { frame = frame; place = end_place section putting.end } ∷ [];
  end = behind_pieces (common_pieces frame) putting.end;
  tables = pieces_put section frame.pos (common_pieces frame) putting.tables;
}

-- the FDE of a procedure, whose CIE stands at this place
abbrev pub entry_put : ℕ → ℕ → SectionPlace → Frame → Putting → Putting
entry_put section log common frame putting = record putting {
  end = behind_pieces (entry_pieces section putting.end common log frame) putting.end;
  tables = pieces_put section frame.pos (entry_pieces section putting.end common log frame) putting.tables;
}

-- where the CIE of a procedure stands, or is put
abbrev pub common_place : ℕ → Frame → Putting → SectionPlace
common_place section frame putting = unwrap_or (place_of frame putting.commons) (end_place section putting.end)

-- the same, behind the CIE of the procedure where that is not there
abbrev pub frame_put : ℕ → ℕ → Frame → Putting → Putting
frame_put section log frame putting =
    entry_put section log (common_place section frame putting) frame (common_put section frame (place_of frame putting.commons) putting)

-- the FDEs of procedures, one behind the other
abbrev pub entries_put : ℕ → List Frame → Putting → Putting
entries_put section [] putting = putting
entries_put section (frame ∷ frames) putting = entries_put section frames (frame_put section (padded_log frames) frame putting)

-- what the first CIE begins with stands behind what the section has, and the rest of it behind that
abbrev pub first_common : ℕ → Frame → Tables → Tables → Putting
first_common section frame tables begun = record {
  commons = record { frame = frame; place = end_place section (end_of section tables.sections) } ∷ [];
  end = behind_pieces (rest_pieces frame) (end_of section begun.sections);
  tables = pieces_put section frame.pos (rest_pieces frame) begun;
}

-- the CIE of a procedure, behind what the section has
abbrev pub common_begun : ℕ → Frame → Tables → Putting
common_begun section frame tables = first_common section frame tables (piece_put section frame.pos (head_piece frame) tables)

-- the FDEs of procedures, of which this is the first, and before the first of those that share it a CIE
abbrev pub table_put : ℕ → Frame → List Frame → Tables → Tables
table_put section first frames tables = (entries_put section frames (common_begun section first tables)).tables

-- `.eh_frame`, to which nothing was put
abbrev pub new_table : LooseSection
new_table = new_section (codes ".eh_frame") (section_flags 2) 1 0

-- the table in the section that there is, which is refused where that takes zeros alone
abbrev pub placed_there : ℕ → Option LooseSection → Frame → List Frame → Tables → Result Tables FragCause
placed_there section None first frames tables = Err BadSection
placed_there section (Some held) first frames tables =
    if takes_zeros_alone held then Err BadSection else Ok (table_put section first frames tables)

-- the table in the section of this number, or in a new one, which is the last
abbrev pub placed_in : Option ℕ → Frame → List Frame → Tables → Result Tables FragCause
placed_in (Some section) first frames tables = placed_there section (slice_get tables.sections section) first frames tables
placed_in None first frames tables =
    Ok (table_put (length tables.sections) first frames (tables_of tables.symbols (tables.sections ++ new_table ∷ [])))

-- the table of these procedures in `.eh_frame`; where there is none, nothing
unfoldable pub placed : List Frame → Tables → Result Tables FragCause
placed [] tables = Ok tables
placed (frame ∷ frames) tables = placed_in (section_number (codes ".eh_frame") tables.sections) frame (frame ∷ frames) tables
