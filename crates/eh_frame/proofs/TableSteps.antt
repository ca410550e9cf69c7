-- What the entries of a table add to sections and symbols, one behind the other.
use Rattle.std.proofs.Common.{ℕ, List, [], ◌∷◌, Option, None, Some}
use Rattle.asm_base.specs.declared.places.SectionPlace.{SectionPlace}
use Rattle.cfi_directives.specs.declared.frames.Frame.{Frame}
use Rattle.table_pieces.specs.Labels.{GetsLabels}
use Rattle.table_pieces.specs.Pieces.{Tables}
use Rattle.table_pieces.specs.Standing.{OneExtends}
use Rattle.eh_frame.specs.Commons.{common_pieces}
use Rattle.eh_frame.specs.Entries.{entry_pieces}
use Rattle.eh_frame.specs.Placing.{Putting, padded_log, place_of, common_put, common_place, frame_put, entries_put, common_begun, table_put}
use Rattle.eh_frame.proofs.PieceFacts.{Extending, Naming}

-- where the CIE of a procedure is there, or put
abbrev pub ready : ℕ → Frame → Putting → Putting
ready section frame putting = common_put section frame (place_of frame putting.commons) putting

module _ (facts : Extending) where
  pub common_extends : (section : ℕ) (frame : Frame) (found : Option SectionPlace) (putting : Putting)
      → OneExtends section putting.tables.sections (common_put section frame found putting).tables.sections
  common_extends section frame (Some place) putting = facts.extensions.same section putting.tables.sections
  common_extends section frame None putting = facts.pieces section frame.pos (common_pieces frame) putting.tables

  pub frame_extends : (section log : ℕ) (frame : Frame) (putting : Putting) → OneExtends section putting.tables.sections (frame_put section log frame putting).tables.sections
  frame_extends section log frame putting =
      let next : Putting = ready section frame putting in
      facts.extensions.on section putting.tables.sections next.tables.sections (frame_put section log frame putting).tables.sections
      (common_extends section frame (place_of frame putting.commons) putting)
      (facts.pieces section frame.pos (entry_pieces section next.end (common_place section frame putting) log frame) next.tables)

  pub entries_extend : (section : ℕ) (frames : List Frame) (putting : Putting) → OneExtends section putting.tables.sections (entries_put section frames putting).tables.sections
  entries_extend section [] putting = facts.extensions.same section putting.tables.sections
  entries_extend section (frame ∷ frames) putting =
      let next : Putting = frame_put section (padded_log frames) frame putting in
      facts.extensions.on section putting.tables.sections next.tables.sections (entries_put section frames next).tables.sections
      (frame_extends section (padded_log frames) frame putting) (entries_extend section frames next)

  pub table_extends : (section : ℕ) (first : Frame) (frames : List Frame) (tables : Tables) → OneExtends section tables.sections (table_put section first frames tables).sections
  table_extends section first frames tables =
      let begun : Putting = common_begun section first tables in
      facts.extensions.on section tables.sections begun.tables.sections (table_put section first frames tables).sections
      (facts.pieces section first.pos (common_pieces first) tables) (entries_extend section frames begun)

module _ (facts : Naming) where
  common_gets : (section : ℕ) (frame : Frame) (found : Option SectionPlace) (putting : Putting)
      → GetsLabels putting.tables.symbols (common_put section frame found putting).tables.symbols
  common_gets section frame (Some place) putting = facts.same putting.tables.symbols
  common_gets section frame None putting = facts.pieces section frame.pos (common_pieces frame) putting.tables

  frame_gets : (section log : ℕ) (frame : Frame) (putting : Putting) → GetsLabels putting.tables.symbols (frame_put section log frame putting).tables.symbols
  frame_gets section log frame putting =
      let next : Putting = ready section frame putting in
      facts.on putting.tables.symbols next.tables.symbols (frame_put section log frame putting).tables.symbols
      (common_gets section frame (place_of frame putting.commons) putting)
      (facts.pieces section frame.pos (entry_pieces section next.end (common_place section frame putting) log frame) next.tables)

  entries_get : (section : ℕ) (frames : List Frame) (putting : Putting) → GetsLabels putting.tables.symbols (entries_put section frames putting).tables.symbols
  entries_get section [] putting = facts.same putting.tables.symbols
  entries_get section (frame ∷ frames) putting =
      let next : Putting = frame_put section (padded_log frames) frame putting in
      facts.on putting.tables.symbols next.tables.symbols (entries_put section frames next).tables.symbols
      (frame_gets section (padded_log frames) frame putting) (entries_get section frames next)

  pub table_gets : (section : ℕ) (first : Frame) (frames : List Frame) (tables : Tables) → GetsLabels tables.symbols (table_put section first frames tables).symbols
  table_gets section first frames tables =
      let begun : Putting = common_begun section first tables in
      facts.on tables.symbols begun.tables.symbols (table_put section first frames tables).symbols
      (facts.pieces section first.pos (common_pieces first) tables) (entries_get section frames begun)
