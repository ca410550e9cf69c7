-- What was placed with its frame table is ready for a line table.
use Rattle.std.proofs.Common.{◌≡◌, ℕ, inl, inr, Bool, List, [], ◌∷◌, All, Option, Ok, length, sym, ap, subst}
use Rattle.std.proofs.lemmas.List.Elements.{All-weaker}
use Rattle.asm_base.specs.declared.positions.Pos.{Pos}
use Rattle.asm_lines.specs.NextStatements.{TokenStatement}
use Rattle.asm_symbols.specs.declared.entries.Symbol.{Symbol}
use Rattle.asm_symbols.specs.SymbolMap.{SymbolMap}
use Rattle.asm_values.specs.State.{Placed, nothing_placed}
use Rattle.asm_place.specs.SymbolPlaces.{MeaningStands}
use Rattle.cfi_directives.specs.declared.frames.Frame.{Frame}
use Rattle.cfi_directives.specs.Procedures.{frames_of}
use Rattle.eh_frame.specs.FoundTables.{IsPlaced}
use Rattle.eh_frame.specs.Placing.{table_put, placed}
use Rattle.section_laws.specs.Within.{AreWithin}
use Rattle.table_pieces.specs.Labels.{GetsLabels, PlacesAreLabels}
use Rattle.table_pieces.specs.Pieces.{Tables, tables_of}
use Rattle.table_pieces.specs.Ready.{SymbolHolds}
use Rattle.readback_laws.specs.FramedTables.{IsFramedReady}
use Rattle.readback_laws.specs.Origins.{Origin, with_worked_out}
use Rattle.readback_laws.proofs.FramedSections.{TableFacts, IsFramed, all_continued, framed_by}
use Rattle.readback_laws.proofs.FramedSymbols.{AreCovered, covered_stand, labels_by, symbols_framed}
use Rattle.readback_laws.proofs.FramesInObject.{means_hold, placed_ready, continued, small}
use Rattle.readback_laws.proofs.LinedSections.{LineFacts}
use Rattle.readback_laws.proofs.JumpsInObject.{JumpFacts}
use Rattle.readback_laws.proofs.PlacedFacts.{PlaceFacts}
use Rattle.readback_laws.proofs.SettledObjects.{AreSettled}

-- what is known of the labels of frame tables
pub record FrameLabels : Type 0 where
  pub known : (before after : SymbolMap) → PlacesAreLabels before → GetsLabels before after → PlacesAreLabels after
  pub gets : (section : ℕ) (first : Frame) (frames : List Frame) (tables : Tables) → GetsLabels tables.symbols (table_put section first frames tables).symbols

-- the symbols that a table is put to are those that were placed
first_symbols : (frame : Frame) (frames : List Frame) (tables after : Tables) (put : IsPlaced frame frames tables after) → put.first.symbols ≡ tables.symbols
first_symbols frame frames tables after put = elim put.begins [
  | inl there ↦ ap (λ (t : Tables). t.symbols) there.1
  | inr new ↦ ap (λ (t : Tables). t.symbols) new.2
]

-- with a frame table too each symbol that has the name of a place is a label there
named_framed : FrameLabels → TableFacts → (frames : List Frame) (tables after : Tables) → AreWithin tables.sections → placed frames tables ≡ Ok after
    → PlacesAreLabels tables.symbols → PlacesAreLabels after.symbols
unfolding placed
named_framed labels table [] tables after within is named =
    let same : tables ≡ after = cc in subst (λ (t : Tables). PlacesAreLabels t.symbols) same named
named_framed labels table (frame ∷ frames) tables after within is named =
    let put = table.put frame frames tables after within is in
    subst (λ (t : Tables). PlacesAreLabels t.symbols) (sym put.put)
    (labels.known put.first.symbols (table_put put.section frame (frame ∷ frames) put.first).symbols
    (subst PlacesAreLabels (sym (first_symbols frame frames tables after put)) named) (labels.gets put.section frame (frame ∷ frames) put.first))

module _ (labels : FrameLabels) (settled : AreSettled) (table : TableFacts) (lined : LineFacts) (placing : PlaceFacts) (facts : JumpFacts) (no_warn : Bool)
    (worked_out : Option (List Frame)) (handed : List TokenStatement) (object : List ℕ) (from : Origin no_warn worked_out handed object)
    (all_covered : AreCovered worked_out from.whole) where
  abbrev whole : Placed
  whole = from.whole

  abbrev frames : List Frame
  frames = frames_of (with_worked_out worked_out whole).procedures

  abbrev start : Tables
  start = tables_of whole.table.symbols whole.sections

  begins : AreWithin whole.sections
  begins = placing.within handed (nothing_placed no_warn) whole from.places (placing.begins no_warn)

  with_frames : IsFramed whole.sections from.framed.sections
  with_frames = framed_by table frames start from.framed begins from.frames

  -- the symbols stand in the sections with the frame table
  stand : All (SymbolHolds from.framed.sections) from.framed.symbols.symbols
  stand =
      let last = length whole.table.symbols.symbols in
      let gets = labels_by table frames start from.framed begins (covered_stand worked_out whole all_covered) from.frames in
      let symbols = (facts.places handed (nothing_placed no_warn) whole from.places (facts.starts no_warn)).symbols in
      All-weaker (λ (symbol : Symbol). MeaningStands from.framed.sections last symbol.meaning) (SymbolHolds from.framed.sections) (means_hold from.framed.sections last)
      from.framed.symbols.symbols (symbols_framed whole.sections from.framed.sections whole.table.symbols from.framed.symbols with_frames.grows symbols gets)

  pub framed_ready : IsFramedReady whole from.framed from.tables from.laid
  framed_ready =
      let within = (continued settled table lined placing facts no_warn worked_out handed object from all_covered).within in
      record {
        first = with_frames.grows;
        later = all_continued from.framed.sections from.tables.sections (table.others.stays whole.lines from.framed from.tables from.lines).grows;
        ready = record {
          within = with_frames.within;
          named = named_framed labels table frames start from.framed begins from.frames (placed_ready table placing facts handed no_warn whole from.places).named;
          stand = stand;
        };
        low = record {
          small = small settled table lined placing facts no_warn worked_out handed object from all_covered;
          rows = facts.low.rows from.tables.symbols from.tables.sections from.laid from.settles within;
        };
      }
