-- Where the entries of a table stand in its section in the end, when all is put.
use Rattle.std.specs.Prelude.{◌≡◌, ℕ, ◌⊎◌, List, [], ◌∷◌, ◌++◌, codes, length, All, IsSomeAnd, Option, None, Some, slice_get}
use Rattle.asm_base.specs.declared.places.SectionPlace.{SectionPlace}
use Rattle.asm_frags.specs.SectionOf.{section_number}
use Rattle.asm_frags.specs.Writing.{LooseSection}
use Rattle.section_laws.specs.Within.{IsWithin}
use Rattle.cfi_directives.specs.declared.frames.Frame.{Frame}
use Rattle.table_pieces.specs.declared.ends.SectionEnd.{SectionEnd}
use Rattle.table_pieces.specs.Ends.{behind_pieces, end_place, end_of}
use Rattle.table_pieces.specs.Found.{PiecesStand}
use Rattle.table_pieces.specs.Pieces.{Tables, tables_of, Takes}
use Rattle.table_pieces.specs.Standing.{Extends}
use Rattle.eh_frame.specs.Entries.{entry_pieces}
use Rattle.eh_frame.specs.Commons.{common_pieces}
use Rattle.eh_frame.specs.Placing.{Putting, padded_log, place_of, common_put, common_place, frame_put, common_begun, table_put, new_table}

-- the CIE of a procedure stands behind this end, unless it stands already
abbrev pub CommonStands : LooseSection → ℕ → Frame → Option SectionPlace → Putting → Type 0
CommonStands held section frame (Some place) putting = Unit {0}
CommonStands held section frame None putting = PiecesStand held section frame.pos putting.end putting.tables (common_pieces frame)

-- the FDE of a procedure stands behind this end
abbrev pub EntryStands : LooseSection → ℕ → ℕ → SectionPlace → Frame → Putting → Type 0
EntryStands held section log common frame putting =
    PiecesStand held section frame.pos putting.end putting.tables (entry_pieces section putting.end common log frame)

-- the FDE of a procedure stands behind its CIE, where that is put with it, or else behind this end
pub record StandsWith (held : LooseSection) (section log : ℕ) (frame : Frame) (putting : Putting) : Type 0 where
  pub common : CommonStands held section frame (place_of frame putting.commons) putting
  pub entry : EntryStands held section log (common_place section frame putting) frame (common_put section frame (place_of frame putting.commons) putting)

-- the FDEs of procedures stand so one behind the other
abbrev pub EntriesStand : LooseSection → ℕ → List Frame → Putting → Type 0
EntriesStand held section [] putting = Unit {0}
EntriesStand held section (frame ∷ frames) putting =
    StandsWith held section (padded_log frames) frame putting × EntriesStand held section frames (frame_put section (padded_log frames) frame putting)

-- the first CIE stands behind what the section had, and the FDEs of procedures behind it
pub record TableStands (held : LooseSection) (section : ℕ) (first : Frame) (frames : List Frame) (tables : Tables) : Type 0 where
  pub start : SectionEnd
  pub place : end_place section start ≡ end_place section (end_of section tables.sections)
  pub end : behind_pieces (common_pieces first) start ≡ (common_begun section first tables).end
  pub common : PiecesStand held section first.pos start tables (common_pieces first)
  pub entries : EntriesStand held section frames (common_begun section first tables)

-- the table of these procedures is put, behind what the section had, if it was there, or into a new one, which is the last
pub record IsPlaced (frame : Frame) (frames : List Frame) (tables after : Tables) : Type 0 where
  pub section : ℕ
  pub first : Tables
  pub begins : ((section_number (codes ".eh_frame") tables.sections ≡ Some section) × (first ≡ tables))
      ⊎ ((section_number (codes ".eh_frame") tables.sections ≡ None) × (section ≡ length tables.sections)
      × (first ≡ tables_of tables.symbols (tables.sections ++ new_table ∷ [])))
  pub takes : Takes section first.sections
  pub put : after ≡ table_put section frame (frame ∷ frames) first
  pub stands : IsSomeAnd (slice_get after.sections section) (λ held. TableStands held section frame (frame ∷ frames) first)
  pub within : All IsWithin after.sections
  pub grows : (number : ℕ) (held : LooseSection) → slice_get tables.sections number ≡ Some held
      → (now : LooseSection) × (slice_get after.sections number ≡ Some now) × Extends held now
