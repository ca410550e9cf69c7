-- The procedures of statements, or the frames in place of them, cover places of their sections, and what was placed stays behind its tables.
use Rattle.std.proofs.Common.{◌≡◌, ℕ, Bool, List, ◌++◌, All, Option, None, Some, Ok, option_to_list, sym, ap, ◌∙◌, subst, append-nil}
use Rattle.asm_lines.specs.NextStatements.{TokenStatement}
use Rattle.asm_values.specs.State.{Placed, nothing_placed}
use Rattle.asm_place.specs.ProcedurePlaces.{StandInOrder}
use Rattle.asm_place.specs.Sources.{place_all}
use Rattle.asm_place.specs.SymbolPlaces.{ProcedureStands, PlacesStand}
use Rattle.cfi_directives.specs.declared.frames.Frame.{Frame}
use Rattle.cfi_directives.specs.Procedures.{frames_of}
use Rattle.frame_laws.specs.PlacedTables.{IsCovered}
use Rattle.section_laws.specs.Within.{AreWithin}
use Rattle.readback_laws.specs.Origins.{FramesAreReady, IsContinuedBy, Origin, with_worked_out}
use Rattle.readback_laws.proofs.FramedSections.{TableFacts, ComesTo, is_framed}
use Rattle.readback_laws.proofs.FramedSymbols.{AreCovered, covered_stand, frame_stands, labels_framed}

-- what is known of the places of all that statements place
pub record StandingFacts : Type 0 where
  pub begins : (no_warn : Bool) → AreWithin (nothing_placed no_warn).sections
  pub within : (statements : List TokenStatement) (before placed : Placed) → place_all statements before ≡ Ok placed → AreWithin before.sections → AreWithin placed.sections
  pub starts : (no_warn : Bool) → PlacesStand (nothing_placed no_warn)
  pub places : (statements : List TokenStatement) (before placed : Placed) → place_all statements before ≡ Ok placed → PlacesStand before → PlacesStand placed
  pub ordered : (statements : List TokenStatement) (no_warn : Bool) (whole : Placed) → place_all statements (nothing_placed no_warn) ≡ Ok whole
      → StandInOrder whole.sections whole.procedures

-- each procedure covers places of its section, where all have ended
procedures_covered : (whole : Placed) → PlacesStand whole → StandInOrder whole.sections whole.procedures → frames_of whole.procedures ≡ whole.procedures.closed
    → All (IsCovered whole.sections) whole.procedures.closed
procedures_covered whole stands ordered closed = λ k default within. (
    let inside = ordered.closed k default within in
    record {
      whole = ordered.sound.closed k default within;
      order = ordered.order.closed k default within;
      stands = frame_stands whole.sections _ (subst (All (ProcedureStands whole.sections)) closed stands.procedures k default within);
      stop = record { held = inside.held; there = inside.there; items = inside.stop.enough; bytes = inside.stop.within };
    })

covered_by : (worked_out : Option (List Frame)) (whole : Placed) → PlacesStand whole → StandInOrder whole.sections whole.procedures → FramesAreReady worked_out whole
    → AreCovered worked_out whole
covered_by None whole stands ordered ready =
    let closed : frames_of whole.procedures ≡ whole.procedures.closed =
    ap (λ (begun : Option Frame). whole.procedures.closed ++ option_to_list begun) ready ∙ append-nil whole.procedures.closed in
    subst (All (IsCovered whole.sections)) (sym closed) (procedures_covered whole stands ordered closed)
covered_by (Some frames) whole stands ordered ready = subst (All (IsCovered whole.sections)) (sym (append-nil frames)) ready

module _ (facts : StandingFacts) (no_warn : Bool) (worked_out : Option (List Frame)) (handed : List TokenStatement) (object : List ℕ)
    (from : Origin no_warn worked_out handed object) (ready : FramesAreReady worked_out from.whole) where
  pub are_covered : AreCovered worked_out from.whole
  are_covered =
      let empty = nothing_placed no_warn in
      covered_by worked_out from.whole (facts.places handed empty from.whole from.places (facts.starts no_warn)) (facts.ordered handed no_warn from.whole from.places) ready

  -- what was placed is continued by its tables
  pub are_continued : TableFacts → IsContinuedBy from.whole from.tables
  are_continued table =
      let full = with_worked_out worked_out from.whole in
      let within = facts.within handed (nothing_placed no_warn) from.whole from.places (facts.begins no_warn) in
      let comes : ComesTo full from.tables = record { framed = from.framed; frames = from.frames; lines = from.lines } in
      let with_table = is_framed table full from.tables within comes in
      record {
        grows = with_table.grows;
        within = with_table.within;
        labels = labels_framed table full from.tables within (covered_stand worked_out from.whole are_covered)
            (table.rows handed no_warn from.whole from.places) comes;
      }
