-- The entry of one function recovers the caller.
use Rattle.std.proofs.Common.{◌≡◌, ◌-◌, ◌<◌, ℕ, Bool, List, All, Option, None, Some, Ok, sym, ap, subst, ◌∙◌}
use Rattle.std.specs.Prelude.{slice_get, IsSomeAnd}
use Rattle.asm_frags.specs.Fields.{own_place}
use Rattle.asm_frags.specs.Writing.{LooseSection}
use Rattle.asm_lines.specs.NextStatements.{TokenStatement}
use Rattle.asm_symbols.specs.SymbolMap.{SymbolMap}
use Rattle.section_laws.specs.Within.{AreWithin}
use Rattle.asm_relax.specs.Settling.{LaidSections, layout_of}
use Rattle.asm_place.specs.Instructions.{Grows}
use Rattle.asm_place.specs.SymbolPlaces.{FieldsAreOwn}
use Rattle.cfi_directives.specs.declared.frames.Frame.{Frame}
use Rattle.cfi_directives.specs.Meant.{place_in, row_meant}
use Rattle.cfi_rows.specs.declared.rows.CfaRow.{CfaRow}
use Rattle.code_functions.specs.declared.items.CodeItem.{CodeItem}
use Rattle.code_functions.specs.Recorded.{Recorded}
use Rattle.code_functions.specs.Seen.{mapped, seen}
use Rattle.asm_functions.specs.FollowedSource.{FollowedSource, nothing_followed, follow_all, functions_at_end}
use Rattle.asm_functions.specs.Standing.{StandsInOrder}
use Rattle.elf_object.specs.Contents.{section_relocations}
use Rattle.elf_object.specs.Faults.{object_fault}
use Rattle.elf_object.specs.Image.{image_of}
use Rattle.elf_object.specs.Objects.{object_of}
use Rattle.elf_object.specs.Places.{section_offset}
use Rattle.elf_object.specs.declared.faults.ObjectCause.{ObjectCause}
use Rattle.asm_relax.specs.RangeChecks.{whole_size}
use Rattle.asm_relax.specs.Settling.{unless}
use Rattle.flow_graph.specs.AddedLabels.{IsLabelled}
use Rattle.form_laws.specs.Numbers.{IsSpelled}
use Rattle.piece_laws.specs.LaidTables.{place_address}
use Rattle.frame_laws.specs.TableReads.{TableReads}
use Rattle.loaded_laws.specs.Loaded.{IsLoaded}
use Rattle.scfi_pass.specs.Tables.{Analyzed}
use Rattle.scfi_laws.specs.Recovering.{Recovers}
use Rattle.synthesis_laws.specs.WrittenTables.{TablesAreOfItems}
use Rattle.code_laws.specs.Sections.{IsLoadedLater}
use Rattle.target_laws.specs.Rooms.{StandIn}
use Rattle.function_laws.specs.Recovered.{RecoversInBytes, FunctionTablesRecover}
use Rattle.function_laws.specs.Tabled.{laid_address, starts_of, IsLoadedFunction, FunctionsAreTabled}
use Rattle.source_ends.specs.Synthesis.{IsFrameOf}
use Rattle.recovery_laws.specs.Executions.{RowsRecover}
use Rattle.recovery_laws.specs.Linked.{IsLinked, HasEntry, row_by}
use Rattle.recovery_laws.specs.Recovered.{FunctionRecovers}
use Rattle.recovery_laws.proofs.RelocatedFields.{LayoutFacts, relocated}
use Rattle.recovery_laws.proofs.SameRows.{addresses_same, rows_same}
use Rattle.recovery_laws.proofs.TableOps.{known, analysis, synthesized}

-- what is known of all functions
pub record FunctionFacts : Type 0 where
  pub layout : LayoutFacts
  pub told : TablesAreOfItems
  pub tabled : FunctionsAreTabled
  pub recovers : FunctionTablesRecover

-- a source that is followed, whose tokens are spelled in bytes, with the sections and symbols that have its frame table, as they are laid out
pub record IsLaidOut (statements : List TokenStatement) (no_warn asked : Bool) (whole : FollowedSource) (symbols : SymbolMap) (later : List LooseSection) (laid : LaidSections)
    (object : List ℕ) : Type 0 where
  pub follows : follow_all statements (nothing_followed no_warn asked) ≡ Ok whole
  pub spelled : All IsSpelled statements
  pub grows : Grows whole.placed.sections later
  pub within : AreWithin later
  pub settles : layout_of symbols later ≡ Ok laid
  pub is_object : object_of symbols laid ≡ Ok object
  pub stand : StandIn symbols later
  pub labelled : IsLabelled whole.placed.table.symbols symbols
  pub last : ℕ
  pub low : last < own_place
  pub own : FieldsAreOwn last later

image_is : (fault : Option ObjectCause) (image made : List ℕ) → unless fault image ≡ Ok made → made ≡ image
image_is None image made is = cc
image_is (Some fault) image made is = absurd cc

module _ (facts : FunctionFacts) (statements : List TokenStatement) (no_warn asked : Bool) (whole : FollowedSource) (symbols : SymbolMap) (later : List LooseSection) (laid : LaidSections)
    (object : List ℕ) (is : IsLaidOut statements no_warn asked whole symbols later laid object) (number : ℕ) (f : Recorded CodeItem) (frame : Frame)
    (there : slice_get (functions_at_end whole) number ≡ Some (mapped seen f)) (stands : StandsInOrder whole.placed.sections (mapped seen f))
    (made : IsFrameOf whole.placed.table.symbols whole.placed.sections f frame) where
  abbrev a : Analyzed
  a = known facts.told whole.placed f frame made

  abbrev section : LooseSection
  section = stands.held

  module _ (code : List ℕ) (linked : IsLinked object symbols laid f.section code) where
    loaded_image : IsLoaded (image_of symbols laid) (section_offset symbols laid f.section) (whole_size linked.section) (section_relocations symbols laid f.section linked.section) code
    loaded_image =
        subst (λ (file : List ℕ). IsLoaded file (section_offset symbols laid f.section) (whole_size linked.section) (section_relocations symbols laid f.section linked.section) code)
        (image_is (object_fault symbols laid) (image_of symbols laid) object is.is_object) linked.loaded

    loaded : IsLoadedLater symbols laid f.section whole.placed.sections code
    loaded =
        let more = is.grows.kept f.section section stands.there in
        record {
          later = later;
          grows = is.grows;
          is = is.settles;
          within = is.within;
          kept = linked.section;
          there = linked.there;
          takes_bytes = linked.filed;
          relocated = relocated facts.layout symbols later laid is.settles is.within is.stand is.last is.low is.own f.section _ more.there linked.section linked.there;
          loaded = loaded_image;
        }

    function : IsLoadedFunction statements no_warn asked whole number symbols laid code f
    unfolding loaded
    function = record {
      is = is.follows;
      spelled = is.spelled;
      there = there;
      loaded = loaded;
      resolved = record { labelled = is.labelled; stand = is.stand; object = object; is = is.is_object };
    }

    in_bytes : RecoversInBytes laid code f a frame
    in_bytes =
        facts.recovers statements no_warn asked whole number symbols laid code f a made.table.ops frame function (synthesized facts.told whole.placed f frame made)

    pub begins_there : laid_address laid (place_in frame.section frame.start) ≡ starts_of laid f 0
    begins_there =
        (facts.tabled statements no_warn asked whole number symbols laid code f a made.table.ops frame function (synthesized facts.told whole.placed f frame made)).1.stands.begins

    section_is : frame.section ≡ f.section
    section_is = ap (λ (p : Frame). p.section) made.made

    -- the bytes of the entry give the rows that the procedure means
    pub rows_recover : {frames : List Frame} → {table : TableReads object symbols laid frames} → (entry : HasEntry object symbols laid table number frame) → RowsRecover a (starts_of laid f) code (row_by object symbols laid entry)
    rows_recover entry =
        let same : (at : ℕ) → row_by object symbols laid entry at ≡ row_meant (laid_address laid) frame at =
        λ at. entry.reads.rows at
        ∙ rows_same (place_address laid) (laid_address laid) frame (addresses_same laid frame.section linked.section (ap (slice_get laid) section_is ∙ linked.there)) at in
        record {
          kinds = in_bytes.kinds;
          lies = in_bytes.lies;
          recovers = λ run.
              subst (λ (row : Option CfaRow). IsSomeAnd row (λ found. Recovers found run.now run.start)) (sym (same (run.now.place - starts_of laid f 0)))
              (in_bytes.recovers run.start run.earlier run.now run.entered run.kept);
          restores = λ run exit. in_bytes.restores run.start run.earlier run.now exit.number exit.node run.entered run.kept exit.holds exit.there exit.exits;
        }

  pub function_recovers : {frames : List Frame} → (table : TableReads object symbols laid frames) → HasEntry object symbols laid table number frame
      → FunctionRecovers object symbols laid table whole.placed number f frame
  function_recovers table entry = record {
    a = a;
    analysis = analysis facts.told whole.placed f frame made;
    entry = entry;
    recovers = λ code linked. record { begins = begins_there code linked; rows = rows_recover code linked entry };
  }
