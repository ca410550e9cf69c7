-- The frame table of what statements place reads in their object, whose line table stands behind it.
use Rattle.std.proofs.Common.{◌≡◌, ℕ, ◌+◌, ◌^◌, ◌≤◌, inl, inr, Bool, List, [], ◌∷◌, All, Option, Ok, map, length, refl, sym, ap, ◌∙◌, subst, arith}
use Rattle.std.proofs.lemmas.List.Elements.{All-weaker}
use Rattle.asm_base.specs.declared.places.SectionPlace.{SectionPlace}
use Rattle.asm_expr.specs.declared.naming.Name.TheVariants as naming
use Rattle.asm_lines.specs.NextStatements.{TokenStatement}
use Rattle.asm_symbols.specs.declared.entries.Meaning.{Meaning}
use Rattle.asm_symbols.specs.declared.entries.Meaning.TheVariants as meaning
use Rattle.asm_symbols.specs.declared.entries.Symbol.{Symbol}
use Rattle.asm_frags.specs.Writing.{LooseSection}
use Rattle.asm_relax.specs.Placing.{placed_section}
use Rattle.asm_relax.specs.Settling.{LaidSections, planned}
use Rattle.asm_values.specs.State.{Placed, nothing_placed}
use Rattle.asm_place.specs.Sources.{place_all}
use Rattle.asm_place.specs.SymbolPlaces.{IsGiven, MeaningStands, NameStands, SymbolStands}
use Rattle.cfi_directives.specs.declared.frames.Frame.{Frame}
use Rattle.cfi_directives.specs.Procedures.{frames_of}
use Rattle.table_pieces.specs.Labels.{IsLabelAt}
use Rattle.table_pieces.specs.Marks.{place_name}
use Rattle.table_pieces.specs.Pieces.{Tables, tables_of}
use Rattle.eh_frame.specs.Placing.{placed}
use Rattle.table_pieces.specs.Ready.{SymbolHolds, AreReady}
use Rattle.frame_laws.specs.PlacedTables.{IsCovered, GoesOn}
use Rattle.frame_laws.specs.TableReads.{TableReads, FrameTablesRead}
use Rattle.piece_laws.specs.LaidTables.{IsSmall}
use Rattle.section_laws.specs.Within.{AreWithin}
use Rattle.readback_laws.specs.Origins.{Origin, with_worked_out}
use Rattle.readback_laws.specs.ReadsBack.{FramesReadBack}
use Rattle.readback_laws.proofs.FramedSections.{TableFacts, ComesTo, IsFramed, framed_by, is_framed}
use Rattle.readback_laws.proofs.FramedSymbols.{AreCovered, covered_stand, holds_items, labels_framed, symbols_framed}
use Rattle.readback_laws.proofs.LinedSections.{LineFacts, frame_table_stays, few_more}
use Rattle.readback_laws.proofs.JumpsInObject.{JumpFacts}
use Rattle.readback_laws.proofs.PlacedFacts.{PlaceFacts}
use Rattle.readback_laws.proofs.SettledObjects.{AreSettled}
use Rattle.readback_laws.proofs.SmallSections.{sections_small}
use Rattle.readback_laws.proofs.StandingRows.{RowsStand}

-- THE SYMBOLS

-- a symbol that has the name of a place is a label there
place_label : (symbol : Symbol) (meant : Meaning) → symbol.meaning ≡ meant → NameStands symbol.name symbol.binding meant → (at : SectionPlace)
    → symbol.name ≡ place_name at → IsLabelAt at symbol
place_label symbol meaning.Undefined means given at is = absurd (subst IsGiven is given)
place_label symbol (meaning.Label spot) means (inl given) at is = absurd (subst IsGiven is given)
place_label symbol (meaning.Label spot) means (inr (named, unbound)) at is =
    let same : naming.Place spot.place.section spot.place.place.item spot.place.place.offset ≡ naming.Place at.section at.place.item at.place.offset = sym named ∙ is in
    let section : spot.place.section ≡ at.section = cc in
    let item : spot.place.place.item ≡ at.place.item = cc in
    let offset : spot.place.place.offset ≡ at.place.offset = cc in
    record { spot = spot; means = means; place = record { section = section; item = item; offset = offset }; unbound = unbound }
place_label symbol (meaning.Common size align) means given at is = absurd (subst IsGiven is given)
place_label symbol (meaning.Space spot) means given at is = absurd (subst IsGiven is given)
place_label symbol (meaning.Assigned form) means given at is = absurd (subst IsGiven is given)

pub means_hold : (sections : List LooseSection) (last : ℕ) (symbol : Symbol) → MeaningStands sections last symbol.meaning → SymbolHolds sections symbol
means_hold sections last symbol stands spot (inl means) = holds_items sections spot.place.section spot.place.place.item (subst (MeaningStands sections last) means stands)
means_hold sections last symbol stands spot (inr means) = holds_items sections spot.place.section spot.place.place.item (subst (MeaningStands sections last) means stands)

-- what was placed is ready for a frame table
pub placed_ready : TableFacts → PlaceFacts → JumpFacts → (statements : List TokenStatement) (no_warn : Bool) (whole : Placed)
    → place_all statements (nothing_placed no_warn) ≡ Ok whole → AreReady (tables_of whole.table.symbols whole.sections)
placed_ready table placing facts statements no_warn whole is =
    let stands = facts.places statements (nothing_placed no_warn) whole is (facts.starts no_warn) in
    let last = length whole.table.symbols.symbols in
    record {
      within = placing.within statements (nothing_placed no_warn) whole is (placing.begins no_warn);
      few = facts.few statements no_warn whole is;
      named = All-weaker (SymbolStands whole.sections last) (λ (symbol : Symbol). (at : SectionPlace) → symbol.name ≡ place_name at → IsLabelAt at symbol)
          (λ symbol both. place_label symbol symbol.meaning refl both.1)
          whole.table.symbols.symbols stands.symbols.each;
      stand = All-weaker (SymbolStands whole.sections last) (SymbolHolds whole.sections) (λ symbol both. means_hold whole.sections last symbol both.0) whole.table.symbols.symbols stands.symbols.each;
    }

-- THE TABLES

module _ (settled : AreSettled) (table : TableFacts) (lined : LineFacts) (placing : PlaceFacts) (facts : JumpFacts) (no_warn : Bool) (worked_out : Option (List Frame))
    (handed : List TokenStatement) (object : List ℕ) (from : Origin no_warn worked_out handed object) (all_covered : AreCovered worked_out from.whole) where
  abbrev whole : Placed
  whole = from.whole

  abbrev full : Placed
  full = with_worked_out worked_out whole

  abbrev framed : Tables
  framed = from.framed

  abbrev tables : Tables
  tables = from.tables

  -- what was placed, before its tables
  abbrev start : Tables
  start = tables_of whole.table.symbols whole.sections

  comes : ComesTo full tables
  comes = record { framed = framed; frames = from.frames; lines = from.lines }

  begins : AreWithin whole.sections
  begins = placing.within handed (nothing_placed no_warn) whole from.places (placing.begins no_warn)

  pub continued : IsFramed whole.sections tables.sections
  continued = is_framed table full tables begins comes

  pub small : All IsSmall from.laid
  small =
      let none = settled.layouts.small tables.symbols tables.sections from.laid from.settles in
      let laid_is = settled.layouts.settled tables.symbols tables.sections from.laid from.settles in
      sections_small facts.addresses from.laid
      (subst (λ (all : LaidSections). map placed_section all ≡ all) (sym laid_is) (settled.placed tables.symbols (planned tables.symbols tables.sections))) none

  rows : RowsStand whole.sections whole.lines
  rows = table.rows handed no_warn whole from.places

  -- the line table brings few labels
  few_lined : length tables.symbols.symbols ≤ length framed.symbols.symbols + 2 ^ 30
  few_lined =
      few_more settled lined whole.sections whole.lines rows framed tables from.laid (framed_by table (frames_of full.procedures) start framed begins from.frames).within
      from.lines from.settles small

  -- the line table leaves the frame table as it is
  goes_on : GoesOn framed tables
  goes_on =
      let stays = table.others.stays whole.lines framed tables from.lines in
      let labels = labels_framed table full tables begins (covered_stand worked_out whole all_covered) rows comes in
      let last = length whole.table.symbols.symbols in
      let symbols = (facts.places handed (nothing_placed no_warn) whole from.places (facts.starts no_warn)).symbols in
      record {
        kept = λ number held there named. stays.others number held there (frame_table_stays framed.sections number held there named);
        grows = stays.grows;
        labels = stays.gets;
        few = few_lined;
        within = continued.within;
        stand = All-weaker (λ (symbol : Symbol). MeaningStands tables.sections last symbol.meaning) (SymbolHolds tables.sections) (means_hold tables.sections last)
            tables.symbols.symbols (symbols_framed whole.sections tables.sections whole.table.symbols tables.symbols continued.grows symbols labels);
      }

  -- the frame table of an object reads as the directives of its procedures mean
  pub frames_read_back : FrameTablesRead → FramesReadBack object full tables.symbols from.laid
  frames_read_back tables_read frame frames are =
      let covered = subst (All (IsCovered whole.sections)) are all_covered in
      let ready = placed_ready table placing facts handed no_warn whole from.places in
      let put : placed (frame ∷ frames) start ≡ Ok framed = sym (ap (λ (all : List Frame). placed all start) are) ∙ from.frames in
      let low = facts.low.rows tables.symbols tables.sections from.laid from.settles continued.within in
      subst (λ (file : List ℕ). TableReads file tables.symbols from.laid (frame ∷ frames)) (sym from.image)
      (tables_read frame frames start framed tables from.laid ready covered put goes_on from.settles from.faultless (record { small = small; rows = low }))

  same_start : placed [] start ≡ Ok framed → framed ≡ start
  unfolding placed
  same_start is = cc

  -- so both bring few symbols
  pub few_symbols : FrameTablesRead → length tables.symbols.symbols ≤ 2 ^ 24 + 2 ^ 31 + 2 ^ 30
  few_symbols tables_read = by (frames_of full.procedures) refl
    where
      by : (frames : List Frame) → frames_of full.procedures ≡ frames → length tables.symbols.symbols ≤ 2 ^ 24 + 2 ^ 31 + 2 ^ 30
      by [] none =
          let same = same_start (sym (ap (λ (all : List Frame). placed all start) none) ∙ from.frames) in
          let count : length framed.symbols.symbols ≡ length whole.table.symbols.symbols = ap (λ (t : Tables). length t.symbols.symbols) same in
          let first = facts.few handed no_warn whole from.places in
          let more = few_lined in
          omega (arith, count, first, more)
      by (frame ∷ frames) are = (frames_read_back tables_read frame frames are).few
