-- Directives of frame tables and of line tables only add symbols.
use Rattle.std.proofs.Common.{List, Result, sym, subst}
use Rattle.std.specs.Result.{IfOk}
use Rattle.asm_base.specs.declared.positions.Pos.{Pos}
use Rattle.asm_base.specs.Tokens.{SpelledToken}
use Rattle.asm_frames.specs.Keeping.{OnlyNames}
use Rattle.asm_frames.specs.Placing.{with_procedures, place_frame}
use Rattle.asm_line_tables.specs.Keeping.{OnlyLines}
use Rattle.asm_line_tables.specs.Placing.{place_loc, place_numbered_file}
use Rattle.asm_operands.specs.declared.place_faults.PlaceCause.{PlaceCause}
use Rattle.asm_place.specs.Placing.{names_source, place_any_file}
use Rattle.asm_values.specs.State.{Placed, with_names, with_table, here}
use Rattle.asm_words.specs.declared.directives.FrameDirective.{FrameDirective}
use Rattle.asm_uses.specs.Tables.{naming_of}
use Rattle.std.proofs.lemmas.Result.{IfOk-at_ok}
use Rattle.form_laws.proofs.Maps.{both}
use Rattle.form_laws.proofs.Tables.{Tables, end_keeps}
use Rattle.form_laws.proofs.Placing.{Stays, Walks, names_stay, file_walk}
use Rattle.form_laws.proofs.Steps.{known, weaker, either}

-- what the laws of the directives of frame tables and of line tables say
pub record TablesKeep : Type 0 where
  pub frames : (directive : FrameDirective) (pos : Pos) (tokens : List SpelledToken) (placed : Placed) → IfOk (place_frame directive pos tokens placed) (OnlyNames pos placed)
  pub rows : (pos : Pos) (tokens : List SpelledToken) (placed : Placed) → IfOk (place_loc pos tokens placed) (OnlyLines pos placed)
  pub files : (pos : Pos) (tokens : List SpelledToken) (placed : Placed) → IfOk (place_numbered_file pos tokens placed) (OnlyLines pos placed)

-- the names of a directive, and the place where a form keeps it
ended_stays : (pos : Pos) (placed after : Placed) (only : OnlyNames pos placed after)
    → Stays placed (with_procedures (with_table (with_names pos only.trees placed) only.table) only.procedures)
ended_stays pos placed after only =
    let named = with_names pos only.trees placed in
    both placed.table.symbols named.table.symbols only.table.symbols (names_stay pos only.trees placed)
    (IfOk-at_ok (Tables named.table) only.names (end_keeps pos (naming_of only.trees placed.table) (here named) only.keeps named.table).holds)

pub frame_walk : TablesKeep → (directive : FrameDirective) (pos : Pos) (tokens : List SpelledToken) (placed : Placed) → Walks placed (place_frame directive pos tokens placed)
frame_walk tables directive pos tokens placed =
    weaker (known (place_frame directive pos tokens placed) (tables.frames directive pos tokens placed))
    (λ after only. subst (Stays placed) (sym only.is) (ended_stays pos placed after only))

line_walk : (pos : Pos) (placed : Placed) (answer : Result Placed PlaceCause) → IfOk answer (OnlyLines pos placed) → Walks placed answer
line_walk pos placed answer keeps = weaker (known answer keeps) (λ after only. subst (Stays placed) (sym only.is) (names_stay pos only.trees placed))

pub row_walk : TablesKeep → (pos : Pos) (tokens : List SpelledToken) (placed : Placed) → Walks placed (place_loc pos tokens placed)
row_walk tables pos tokens placed = line_walk pos placed (place_loc pos tokens placed) (tables.rows pos tokens placed)

pub any_file_walk : TablesKeep → (pos : Pos) (tokens : List SpelledToken) (placed : Placed) → Walks placed (place_any_file pos tokens placed)
unfolding place_any_file
any_file_walk tables pos tokens placed =
    either (names_source tokens) (file_walk tokens placed) (line_walk pos placed (place_numbered_file pos tokens placed) (tables.files pos tokens placed))
