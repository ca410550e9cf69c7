-- What the object of a source is made of.
use Rattle.std.proofs.Common.{◌≡◌, ℕ, List, Some, Ok}
use Rattle.asm_base.specs.Inputs.{Contents}
use Rattle.asm_lines.specs.Statements.{statements_of}
use Rattle.asm_values.specs.State.{nothing_placed}
use Rattle.asm_place.specs.Sources.{place_all}
use Rattle.readback_laws.specs.Origins.{FramesAreReady, TablesContinue}
use Rattle.source_ends.specs.Synthesis.{IsMadeAt}
use Rattle.source_ends.specs.Ending.{Flags, worked_out}
use Rattle.source_ends.specs.Finished.{ObjectsAreFinished}
use Rattle.asm_front.specs.Assembly.{main_file, expansion_of, handed_by, handed_of}
use Rattle.source_ends.specs.declared.ending.NotedObject.{NotedObject}
use Rattle.asm_front.specs.Made.{IsMadeOf}
use Rattle.asm_front.proofs.HandedStatements.{MakesAtEnd, origin_of}

pub object_is_made : ObjectsAreFinished → TablesContinue → (flags : Flags) (contents : Contents) (name source : List ℕ) (made : NotedObject)
    (end : MakesAtEnd flags (expansion_of flags (Some contents) name source) (handed_by flags contents name (statements_of main_file source)) made)
    → IsMadeAt flags.scfi end.f → place_all (handed_of flags contents name source) (nothing_placed flags.no_warn) ≡ Ok end.f.placed
    → FramesAreReady (worked_out flags.scfi) end.f.placed → IsMadeOf flags contents name source made.object
object_is_made finished continues flags contents name source made end comes places ready =
    let handed = handed_of flags contents name source in
    let from = origin_of finished flags handed end.f made places end.ends in
    record {
      whole = end.f;
      files = end.names;
      ends = end.comes;
      follows = end.follows;
      places = places;
      comes = comes;
      framed_tables = from.framed;
      frames = from.frames;
      tables = from.tables;
      lines = from.lines;
      continued = continues flags.no_warn (worked_out flags.scfi) handed made.object from ready;
      laid = from.laid;
      settles = from.settles;
      is_object = (finished flags end.f made end.ends).is_object;
    }
