-- Directives of frame tables and of line tables keep it so that all places stand in their sections.
use Rattle.std.proofs.Common.{◌≡◌, ℕ, List, All, length, map, Result, Ok, sym, subst, arith}
use Rattle.std.specs.Result.{IfOk}
use Rattle.std.proofs.lemmas.List.Elements.{All-weaker}
use Rattle.std.proofs.lemmas.Result.{IfOk-at_ok}
use Rattle.asm_base.specs.declared.positions.Pos.{Pos}
use Rattle.asm_base.specs.Tokens.{SpelledToken}
use Rattle.asm_frags.specs.Writing.{LooseSection}
use Rattle.asm_uses.specs.Tables.{naming_of}
use Rattle.asm_values.specs.State.{Placed, with_names, with_table, here}
use Rattle.asm_words.specs.declared.directives.FrameDirective.{FrameDirective}
use Rattle.cfi_directives.specs.declared.frames.Frame.{Frame}
use Rattle.cfi_directives.specs.declared.lines.CfiLine.{CfiLine}
use Rattle.asm_base.specs.declared.places.Place.{Place}
use Rattle.cfi_directives.specs.Procedures.{Procedures, frames_of}
use Rattle.cfi_directives.specs.Taking.{taken_from}
use Rattle.asm_frames.specs.Keeping.{line_here, OnlyNames}
use Rattle.asm_frames.specs.Placing.{with_procedures, place_frame}
use Rattle.asm_line_tables.specs.Keeping.{OnlyLines}
use Rattle.asm_line_tables.specs.Placing.{with_lines}
use Rattle.asm_operands.specs.declared.place_faults.PlaceCause.{PlaceCause}
use Rattle.asm_place.specs.SymbolPlaces.{HasItems, ProcedureStands, PlacesStand}
use Rattle.asm_place.proofs.Walks.{TablesKeep, known, weaker}
use Rattle.asm_place.proofs.TakenPlaces.{HasPlaces, HavePlaces, frames_have, have_frames, lines_have}
use Rattle.asm_place.proofs.OwnFields.{fields_more}
use Rattle.asm_place.proofs.SymbolTables.{Allows, allowed_stand, end_stand}
use Rattle.asm_place.proofs.PlaceSteps.{count, Stays, Walks, names_gain, spot_stands}

module _ (sections : List LooseSection) where
  -- the section has the items of the place
  abbrev HasItemsAt : ℕ → Place → Type 0
  HasItemsAt number place = HasItems sections number place.item

  -- a procedure that stands has its places there,
  frame_has : (frame : Frame) → ProcedureStands sections frame → HasPlaces HasItemsAt frame
  frame_has frame stands = record { start = stands.start; stop = stands.stop; ops = stands.ops }

  -- and one that has them stands
  frame_stands : (frame : Frame) → HasPlaces HasItemsAt frame → ProcedureStands sections frame
  frame_stands frame has = record { start = has.start; stop = has.stop; ops = has.ops }

-- where a directive stands its section has the items before it
here_has : (placed : Placed) → PlacesStand placed → HasItems placed.sections (here placed).place.section (here placed).place.place.item
here_has placed stands = spot_stands placed.sections placed.current stands.current

-- directives at one place keep procedures standing
lines_stand : (placed : Placed) (lines : List CfiLine) (last : Procedures) → PlacesStand placed → taken_from placed.procedures (map (line_here placed) lines) ≡ Ok last
    → All (ProcedureStands placed.sections) (frames_of last)
lines_stand placed lines last stands is =
    let sections = placed.sections in
    let have = have_frames (HasItemsAt sections) placed.procedures
    (All-weaker (ProcedureStands sections) (HasPlaces (HasItemsAt sections)) (frame_has sections) (frames_of placed.procedures) stands.procedures) in
    All-weaker (HasPlaces (HasItemsAt sections)) (ProcedureStands sections) (frame_stands sections) (frames_of last)
    (frames_have (HasItemsAt sections) last
    (IfOk-at_ok (HavePlaces (HasItemsAt sections)) is (lines_have (HasItemsAt sections) placed (here_has placed stands) lines placed.procedures have).holds))

-- what a frame directive changes stands
only_stays : (pos : Pos) (placed after : Placed) → PlacesStand placed → (only : OnlyNames pos placed after)
    → Stays placed (with_procedures (with_table (with_names pos only.trees placed) only.table) only.procedures)
only_stays pos placed after stands only =
    let named = with_names pos only.trees placed in
    let names = names_gain pos only.trees placed stands in
    let allows = IfOk-at_ok (Allows named.sections (count placed) named.table) only.names
    (end_stand named.sections pos (naming_of only.trees placed.table) (here named) only.keeps named.table
    (λ last. spot_stands placed.sections placed.current stands.current)).holds in
    let more = names.more in
    let further = allows.more in
    record {
      grows = names.grows;
      more = omega (arith, more, further);
      stands = record {
        current = stands.current;
        previous = stands.previous;
        stack = stands.stack;
        first = stands.first;
        symbols = allows.kept names.stands.symbols;
        procedures = lines_stand placed only.lines only.procedures stands only.taken;
        fields = fields_more (count named) (length only.table.symbols.symbols) further placed.sections names.stands.fields;
      };
      fits = λ fit. allows.few (λ le. names.alike le fit);
    }

-- a frame directive keeps all places standing
pub frame_walk : TablesKeep → (directive : FrameDirective) (pos : Pos) (tokens : List SpelledToken) (placed : Placed) → PlacesStand placed
    → Walks placed (place_frame directive pos tokens placed)
frame_walk tables directive pos tokens placed stands =
    weaker (known (place_frame directive pos tokens placed) (tables.frames directive pos tokens placed))
    (λ after only. subst (Stays placed) (sym only.is) (only_stays pos placed after stands only))

-- what a directive of the line table changes stands
lines_only_stay : (pos : Pos) (placed after : Placed) → PlacesStand placed → (only : OnlyLines pos placed after)
    → Stays placed (with_lines (with_names pos only.trees placed) only.lines)
lines_only_stay pos placed after stands only =
    let named = with_names pos only.trees placed in
    let names = names_gain pos only.trees placed stands in
    let allows = IfOk-at_ok (Allows named.sections (count placed) named.table) only.names
    (allowed_stand named.sections (naming_of only.trees placed.table) named.table).holds in
    record {
      grows = names.grows;
      more = names.more;
      stands = record {
        current = stands.current;
        previous = stands.previous;
        stack = stands.stack;
        first = stands.first;
        symbols = names.stands.symbols;
        procedures = stands.procedures;
        fields = names.stands.fields;
      };
      fits = λ fit. allows.few (λ le. names.alike le fit);
    }

-- a directive of the line table keeps all places standing
pub line_walk : (pos : Pos) (placed : Placed) (answer : Result Placed PlaceCause) → IfOk answer (OnlyLines pos placed) → PlacesStand placed → Walks placed answer
line_walk pos placed answer keeps stands =
    weaker (known answer keeps) (λ after only. subst (Stays placed) (sym only.is) (lines_only_stay pos placed after stands only))
