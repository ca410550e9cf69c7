-- The functions of a source recover in its object.
use Rattle.std.proofs.Common.{◌≡◌, ◌≤◌, ◌^◌, ℕ, zero, suc, Bool, true, false, cond, List, [], ◌∷◌, ◌++◌, All, length, Option, None, Some, Ok, Err, refl, sym, ap, subst, ◌∙◌, arith, append-nil}
use Rattle.std.specs.Prelude.{slice_get, is_none}
use Rattle.std.proofs.lemmas.Option.{none-some}
use Rattle.asm_base.specs.Inputs.{Contents}
use Rattle.asm_base.specs.declared.places.Place.{Place}
use Rattle.asm_lines.specs.NextStatements.{TokenStatement}
use Rattle.asm_lines.specs.Statements.{statements_of}
use Rattle.section_laws.specs.Within.{AreWithin}
use Rattle.asm_relax.specs.Settling.{LaidSections, layout_of}
use Rattle.asm_values.specs.State.{Placed, nothing_placed}
use Rattle.asm_place.specs.Sources.{place_all}
use Rattle.asm_place.specs.SymbolPlaces.{FieldsAreOwn, PlacesStand}
use Rattle.cfi_directives.specs.declared.frames.Frame.{Frame}
use Rattle.code_functions.specs.declared.items.CodeItem.{CodeItem}
use Rattle.code_functions.specs.Recorded.{Recorded, closed, closed_by, all_closed}
use Rattle.code_functions.specs.Seen.{SeenItem, mapped, seen, all_seen}
use Rattle.asm_functions.specs.FollowedSource.{FollowedSource, nothing_followed, follow_all, functions_at_end}
use Rattle.asm_functions.specs.Following.{end_of}
use Rattle.asm_functions.specs.Standing.{StandsInOrder}
use Rattle.eh_frame.specs.FoundTables.{IsPlaced}
use Rattle.table_pieces.specs.Pieces.{Tables, tables_of}
use Rattle.eh_frame.specs.Placing.{placed}
use Rattle.line_directives.specs.Taking.{LineTable}
use Rattle.line_table.specs.Placing as line_table
use Rattle.expansion_laws.specs.Handing.{IsBytes, AreBytes}
use Rattle.form_laws.specs.Framed.{TablesKeepTargets}
use Rattle.form_laws.specs.Numbers.{IsSpelled}
use Rattle.frame_laws.specs.TableReads.{TableReads}
use Rattle.source_ends.specs.Synthesis.{Synthesis, IsSynthesis, IsMadeAt, IsFrameOf}
use Rattle.source_ends.specs.Ending.{Flags, framed, with_made}
use Rattle.asm_front.specs.Assembly.{assembled, assembly_of, is_asked, main_file, expansion_of, handed_by, handed_of, SourceIsMade}
use Rattle.asm_front.specs.Made.{IsMadeOf}
use Rattle.readback_laws.specs.ReadsBack.{FramesReadBack}
use Rattle.asm_front.specs.ReadsBack.{Origin, ReadsBack}
use Rattle.source_ends.specs.declared.ending.NotedObject.{NotedObject}
use Rattle.recovery_laws.specs.Recovered.{FunctionRecovers, FunctionsRecover}
use Rattle.recovery_laws.specs.Sources.{FramesRecover, StepRecovers, SourceRecovers, ObjectsRecover}
use Rattle.recovery_laws.proofs.Lists.{same_Ok, all_there, zip_there}
use Rattle.recovery_laws.proofs.OneFunction.{FunctionFacts, IsLaidOut, function_recovers}
use Rattle.recovery_laws.proofs.StandingSymbols.{stand_in}
use Rattle.recovery_laws.proofs.TableEntries.{has_entry}
use Rattle.recovery_laws.proofs.TableFields.{LinesArePut, lines_fields, placed_fields}

-- what is known of sources and of their objects
pub record Facts : Type 0 where
  pub functions : FunctionFacts
  pub made : (flags : Flags) (contents : Contents) (name source : List ℕ) (made : NotedObject) (files : List (List ℕ)) → assembly_of flags contents name source ≡ assembled made files
      → SourceIsMade flags contents name source → IsMadeOf flags contents name source made.object
  pub reads_back : (flags : Flags) (contents : Contents) (name source : List ℕ) (made : NotedObject) (files : List (List ℕ)) → assembly_of flags contents name source ≡ assembled made files
      → SourceIsMade flags contents name source → ReadsBack flags (handed_of flags contents name source) made.object
  pub begins : (no_warn : Bool) → AreWithin (nothing_placed no_warn).sections
  pub within : (statements : List TokenStatement) (before placed : Placed) → place_all statements before ≡ Ok placed → AreWithin before.sections → AreWithin placed.sections
  pub starts : (no_warn : Bool) → PlacesStand (nothing_placed no_warn)
  pub places : (statements : List TokenStatement) (before placed : Placed) → place_all statements before ≡ Ok placed → PlacesStand before → PlacesStand placed
  pub few : (statements : List TokenStatement) (no_warn : Bool) (placed : Placed) → place_all statements (nothing_placed no_warn) ≡ Ok placed
      → length placed.table.symbols.symbols ≤ 2 ^ 24
  pub order : (statements : List TokenStatement) (no_warn asked : Bool) (f : FollowedSource) → follow_all statements (nothing_followed no_warn asked) ≡ Ok f
      → All (StandsInOrder f.placed.sections) (functions_at_end f)
  pub put : (frame : Frame) (frames : List Frame) (tables after : Tables) → AreWithin tables.sections → placed (frame ∷ frames) tables ≡ Ok after → IsPlaced frame frames tables after
  pub put_lines : (lines : LineTable) (tables after : Tables) → AreWithin tables.sections → line_table.placed lines tables ≡ Ok after → LinesArePut lines tables after
  pub labelled : TablesKeepTargets
  pub spelled : (flags : Flags) (contents : Contents) (name source : List ℕ) → AreBytes contents → IsBytes source
      → All IsSpelled (handed_by flags contents name (statements_of main_file source))

-- FUNCTIONS AT THE END

closed_seen : (stop : Place) (f : Recorded CodeItem) → mapped seen (closed stop f) ≡ closed stop (mapped seen f)
closed_seen stop f = by (is_none f.stop)
  where
    by : (still : Bool) → mapped seen (cond still (record f { stop = Some stop }) f) ≡ cond still (record (mapped seen f) { stop = Some stop }) (mapped seen f)
    by true = refl
    by false = refl

-- functions are seen so where all have ended
seen_at_end : (ends : ℕ → Place) (functions : List (Recorded CodeItem)) → all_seen (all_closed ends functions) ≡ all_closed ends (all_seen functions)
seen_at_end ends [] = refl
seen_at_end ends (f ∷ functions) =
    ap (λ (g : Recorded SeenItem). g ∷ all_seen (all_closed ends functions)) (closed_seen (ends f.section) f)
    ∙ ap (λ (rest : List (Recorded SeenItem)). closed_by ends (mapped seen f) ∷ rest) (seen_at_end ends functions)

get_seen : (functions : List (Recorded CodeItem)) (n : ℕ) (f : Recorded CodeItem) → slice_get functions n ≡ Some f → slice_get (all_seen functions) n ≡ Some (mapped seen f)
get_seen [] n f there = absurd (none-some f there)
get_seen (g ∷ functions) zero f there = ap (λ found. elim found [ None ↦ Some (mapped seen g) | Some h ↦ Some (mapped seen h) ]) there
get_seen (g ∷ functions) (suc n) f there = get_seen functions n f there

-- THE OBJECT

-- what an object comes from is one thing
pub record IsOne (flags : Flags) (contents : Contents) (name source object : List ℕ) (m : IsMadeOf flags contents name source object)
    (o : Origin flags (handed_of flags contents name source) object) : Type 0 where
  pub whole : o.whole ≡ m.whole.placed
  pub framed_tables : o.framed ≡ m.framed_tables
  pub tables : o.tables ≡ m.tables
  pub laid : o.laid ≡ m.laid

is_one : (flags : Flags) (contents : Contents) (name source object : List ℕ) (m : IsMadeOf flags contents name source object)
    (o : Origin flags (handed_of flags contents name source) object) → IsOne flags contents name source object m o
is_one flags contents name source object m o =
    record { whole = whole; framed_tables = framed_tables; tables = tables; laid = laid }
  where
    whole : o.whole ≡ m.whole.placed
    whole = same_Ok o.whole m.whole.placed (sym o.places ∙ m.places)

    framed_tables : o.framed ≡ m.framed_tables
    framed_tables = same_Ok o.framed m.framed_tables (sym o.frames ∙ (ap (λ (w : Placed). framed (with_made flags.scfi w)) whole ∙ m.frames))

    tables : o.tables ≡ m.tables
    tables =
        same_Ok o.tables m.tables
        (sym o.lines ∙ (ap (λ (w : Placed). line_table.placed w.lines o.framed) whole ∙ (ap (line_table.placed m.whole.placed.lines) framed_tables ∙ m.lines)))

    laid : o.laid ≡ m.laid
    laid = same_Ok o.laid m.laid (sym o.settles ∙ (ap (λ (t : Tables). layout_of t.symbols t.sections) tables ∙ m.settles))

module _ (facts : Facts) (flags : Flags) (contents : Contents) (name source object : List ℕ) (bytes : AreBytes contents) (text : IsBytes source)
    (m : IsMadeOf flags contents name source object) where
  abbrev whole : FollowedSource
  whole = m.whole

  abbrev statements : List TokenStatement
  statements = handed_by flags contents name (statements_of main_file source)

  within : AreWithin whole.placed.sections
  within = facts.within (handed_of flags contents name source) (nothing_placed flags.no_warn) whole.placed m.places (facts.begins flags.no_warn)

  stands : PlacesStand whole.placed
  stands = facts.places (handed_of flags contents name source) (nothing_placed flags.no_warn) whole.placed m.places (facts.starts flags.no_warn)

  few : length whole.placed.table.symbols.symbols ≤ 2 ^ 24
  few = facts.few (handed_of flags contents name source) flags.no_warn whole.placed m.places

  -- where there is a frame, its table is put
  module _ (frame : Frame) (frames : List Frame) (put : placed (frame ∷ frames) (tables_of whole.placed.table.symbols whole.placed.sections) ≡ Ok m.framed_tables)
      (reads : TableReads object m.tables.symbols m.laid (frame ∷ frames)) where
    is_placed : IsPlaced frame frames (tables_of whole.placed.table.symbols whole.placed.sections) m.framed_tables
    is_placed = facts.put frame frames (tables_of whole.placed.table.symbols whole.placed.sections) m.framed_tables within put

    -- the line table is put behind it
    own_fields : FieldsAreOwn (length whole.placed.table.symbols.symbols) m.tables.sections
    own_fields =
        let last = length whole.placed.table.symbols.symbols in
        lines_fields last whole.placed.lines m.framed_tables m.tables (facts.put_lines whole.placed.lines m.framed_tables m.tables is_placed.within m.lines)
        (placed_fields last frame frames (tables_of whole.placed.table.symbols whole.placed.sections) m.framed_tables is_placed stands.fields)

    laid_out : IsLaidOut statements flags.no_warn (is_asked flags) whole m.tables.symbols m.tables.sections m.laid object
    laid_out = record {
      follows = m.follows;
      spelled = facts.spelled flags contents name source bytes text;
      grows = m.continued.grows;
      within = m.continued.within;
      settles = m.settles;
      is_object = m.is_object;
      stand = stand_in whole.placed.sections m.tables.sections whole.placed.table.symbols m.tables.symbols m.continued.grows stands.symbols m.continued.labels reads.few few;
      labelled = facts.labelled (handed_of flags contents name source) flags.no_warn whole.placed (frame ∷ frames) m.framed_tables m.tables
          m.places put m.lines;
      last = length whole.placed.table.symbols.symbols;
      low = let most = few in omega (arith, most);
      own = own_fields;
    }

    recovers_there : (functions : List (Recorded CodeItem)) → all_seen functions ≡ functions_at_end whole → (n : ℕ) (f : Recorded CodeItem) (of : Frame) → slice_get functions n ≡ Some f
        → slice_get (frame ∷ frames) n ≡ Some of → IsFrameOf whole.placed.table.symbols whole.placed.sections f of
        → FunctionRecovers object m.tables.symbols m.laid reads whole.placed n f of
    recovers_there functions looks n f of there of_there made =
        let seen_there : slice_get (functions_at_end whole) n ≡ Some (mapped seen f) =
        sym (ap (λ (all : List (Recorded SeenItem)). slice_get all n) looks) ∙ get_seen functions n f there in
        let order = all_there (StandsInOrder whole.placed.sections) (functions_at_end whole) n (mapped seen f) seen_there
        (facts.order statements flags.no_warn (is_asked flags) whole m.follows) in
        function_recovers facts.functions statements flags.no_warn (is_asked flags) whole m.tables.symbols m.tables.sections m.laid object laid_out n f of seen_there order made reads
        (has_entry object m.tables.symbols m.laid (frame ∷ frames) reads n of of_there)

    recovers_with : IsSynthesis whole (Ok (frame ∷ frames)) → FunctionsRecover object m.tables.symbols m.laid whole (frame ∷ frames)
    recovers_with is =
        let functions = all_closed (end_of whole.placed.sections) is.functions in
        let looks : all_seen functions ≡ functions_at_end whole =
        seen_at_end (end_of whole.placed.sections) is.functions ∙ ap (all_closed (end_of whole.placed.sections)) is.seen in
        record {
          functions = functions;
          seen = looks;
          framed = is.comes;
          table = reads;
          each = λ n f of there of_there.
              recovers_there functions looks n f of there of_there
              (zip_there (IsFrameOf whole.placed.table.symbols whole.placed.sections) functions (frame ∷ frames) is.comes n f of there of_there);
        }

  by_synthesis : (made : Option Synthesis) → IsMadeAt made whole → framed (with_made made whole.placed) ≡ Ok m.framed_tables
      → FramesReadBack object (with_made made whole.placed) m.tables.symbols m.laid → FramesRecover object m.tables.symbols m.laid made whole
  by_synthesis None is put reads = tt
  by_synthesis (Some (Err at)) is put reads = tt
  by_synthesis (Some (Ok [])) is put reads = tt
  by_synthesis (Some (Ok (frame ∷ frames))) is put reads =
      let all : (frame ∷ frames) ++ [] ≡ frame ∷ frames = append-nil (frame ∷ frames) in
      recovers_with frame frames (subst (λ (these : List Frame). placed these (tables_of whole.placed.table.symbols whole.placed.sections) ≡ Ok m.framed_tables) all put) (reads frame frames all) is

  -- the frame table of the object reads
  reads_there : ReadsBack flags (handed_of flags contents name source) object → FramesReadBack object (with_made flags.scfi whole.placed) m.tables.symbols m.laid
  reads_there back =
      let one = is_one flags contents name source object m back.statements_read.made in
      subst (λ (w : Placed). FramesReadBack object (with_made flags.scfi w) m.tables.symbols m.laid) one.whole
      (subst (λ (t : Tables). FramesReadBack object (with_made flags.scfi back.statements_read.made.whole) t.symbols m.laid) one.tables
      (subst (λ (l : LaidSections). FramesReadBack object (with_made flags.scfi back.statements_read.made.whole) back.statements_read.made.tables.symbols l) one.laid back.statements_read.frames))

  pub source_recovers : ReadsBack flags (handed_of flags contents name source) object → SourceRecovers flags contents name source object
  source_recovers back = λ made.
      let one = is_one flags contents name source object m made in
      let here : StepRecovers object m.tables.symbols m.laid flags.scfi (expansion_of flags (Some contents) name source) =
      subst (StepRecovers object m.tables.symbols m.laid flags.scfi) (sym m.ends) (by_synthesis flags.scfi m.comes m.frames (reads_there back)) in
      subst (λ (t : Tables). StepRecovers object t.symbols made.laid flags.scfi (expansion_of flags (Some contents) name source)) (sym one.tables)
      (subst (λ (l : LaidSections). StepRecovers object m.tables.symbols l flags.scfi (expansion_of flags (Some contents) name source)) (sym one.laid) here)

pub objects_recover : Facts → ObjectsRecover
objects_recover facts flags contents name source made files bytes text is so =
    source_recovers facts flags contents name source made.object bytes text (facts.made flags contents name source made files is so) (facts.reads_back flags contents name source made files is so)
