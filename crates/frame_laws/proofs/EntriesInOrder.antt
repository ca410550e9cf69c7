-- The entries of a frame table read in the file, one behind the other.
use Rattle.std.proofs.Common.{◌≡◌, ℕ, ◌+◌, ◌≤◌, Bool, true, false, List, [], ◌∷◌, ◌++◌, All, Option, Some, None, Ok, length, map, refl, sym, ap, ◌∙◌, subst, arith}
use Rattle.std.specs.Prelude.{if◌then◌else◌, slice_get, IsSomeAnd}
use Rattle.std.specs.List.{find}
use Rattle.std.specs.Option.{option_map, unwrap_or}
use Rattle.std.proofs.lemmas.List.{map-append}
use Rattle.std.proofs.lemmas.List.Elements.{All-head, All-tail, All-push, All-weaker}
use Rattle.std.proofs.lemmas.Option.{none-some, same_Some}
use Rattle.asm_base.specs.declared.places.SectionPlace.{SectionPlace}
use Rattle.asm_base.specs.declared.positions.Pos.{Pos}
use Rattle.asm_frags.specs.SectionOf.{SectionOf}
use Rattle.asm_frags.specs.Writing.{LooseSection}
use Rattle.asm_relax.specs.KeptSections.{LayoutsKeepSections}
use Rattle.asm_relax.specs.Settling.{LaidItem, LaidSections}
use Rattle.elf_file.specs.Places.{PieceAt}
use Rattle.elf_object.specs.Faults.{object_fault}
use Rattle.elf_object.specs.Image.{image_of}
use Rattle.elf_object.specs.Places.{section_offset, moved}
use Rattle.cfi_directives.specs.declared.frames.Frame.{Frame}
use Rattle.cfi_directives.specs.declared.frames.Pointer.{Pointer}
use Rattle.cfi_rows.specs.declared.commons.CommonForm.{CommonForm}
use Rattle.cfi_rows.specs.Commons.{common_entry, common_head, common_length}
use Rattle.cfi_rows.specs.Pointers.{size_if}
use Rattle.section_laws.specs.Within.{IsWithin}
use Rattle.table_pieces.specs.declared.ends.SectionEnd.{SectionEnd}
use Rattle.table_pieces.specs.Ends.{behind_pieces, end_place, end_of}
use Rattle.table_pieces.specs.Labels.{PlacesAreLabels}
use Rattle.table_pieces.specs.Pieces.{Piece, plain, Tables, piece_put, pieces_put, Takes}
use Rattle.table_pieces.specs.Ready.{SectionsKeepPlaces}
use Rattle.table_pieces.specs.Found.{PiecesStand}
use Rattle.table_pieces.specs.Standing.{OneExtends, HasEnd, Reaches}
use Rattle.eh_frame.specs.Entries.{entry_pieces}
use Rattle.eh_frame.specs.Commons.{form_of, share_common, common_pieces}
use Rattle.eh_frame.specs.FoundTables.{CommonStands, EntriesStand, IsPlaced}
use Rattle.eh_frame.specs.Placing.{Common, Putting, padded_log, place_of, common_put, entry_put, common_place, frame_put, entries_put, table_put, placed}
use Rattle.eh_frame.specs.Reading.{EntriesRead}
use Rattle.eh_frame.specs.Sharing.{CommonsAreFirst, SharingIsEquality, TellAlike, with_frame}
use Rattle.piece_laws.specs.HeldDistances.{NamesStay}
use Rattle.piece_laws.specs.LaidTables.{place_address, LaidTable, StandsTo}
use Rattle.frame_laws.specs.LabelCounts.{LabelsAreFew}
use Rattle.frame_laws.specs.TableReads.{Names, CommonReads, EntryReads, Preceding, shared_common, bytes_before, EntriesFill}
use Rattle.frame_laws.proofs.PieceFacts.{LabelFacts, PieceFacts, at_end}
use Rattle.frame_laws.proofs.CommonReading.{CommonFacts, common_reads}
use Rattle.frame_laws.proofs.EntryReading.{IsRising, entry_reads}

-- what is known of all frame tables
pub record TableFacts : Type 0 where
  pub pieces : PieceFacts
  pub commons : CommonFacts
  pub layouts : LayoutsKeepSections
  pub keeping : SectionsKeepPlaces
  pub read : EntriesRead
  pub found : (frame : Frame) (frames : List Frame) (tables after : Tables) → All IsWithin tables.sections → placed (frame ∷ frames) tables ≡ Ok after
      → IsPlaced frame frames tables after
  pub behind : (section : ℕ) (first : Frame) (frames : List Frame) (tables : Tables) → OneExtends section tables.sections (table_put section first frames tables).sections
  pub few : LabelsAreFew
  pub sharing : SharingIsEquality
  pub first : CommonsAreFirst
  pub reaches : (section : ℕ) (pos : Pos) (pieces : List Piece) (tables : Tables) (end : SectionEnd) → Reaches section tables.sections end
      → Reaches section (pieces_put section pos pieces tables).sections (behind_pieces pieces end)
  pub plain_reaches : (section : ℕ) (pos : Pos) (bytes : List ℕ) (tables : Tables) → Takes section tables.sections
      → Reaches section (piece_put section pos (plain bytes) tables).sections (end_of section (piece_put section pos (plain bytes) tables).sections)

-- what names a place before a CIE is put, or not, does so behind it
ready_stays : LabelFacts → (section : ℕ) (frame : Frame) (found : Option SectionPlace) (putting : Putting)
    → NamesStay putting.tables.symbols (common_put section frame found putting).tables.symbols
ready_stays labels section frame (Some place) putting symbol at there = there
ready_stays labels section frame None putting symbol at there =
    labels.stays putting.tables.symbols (common_put section frame None putting).tables.symbols symbol at
    (labels.pieces section frame.pos (common_pieces frame) putting.tables) there

-- what names a place before an entry is put does so behind it
entry_stays : LabelFacts → (section log : ℕ) (place : SectionPlace) (frame : Frame) (putting : Putting)
    → NamesStay putting.tables.symbols (entry_put section log place frame putting).tables.symbols
entry_stays labels section log place frame putting symbol at there =
    labels.stays putting.tables.symbols (entry_put section log place frame putting).tables.symbols symbol at
    (labels.pieces section frame.pos (entry_pieces section putting.end place log frame) putting.tables) there

-- what names a place before entries are put does so behind them
pub entries_stay : LabelFacts → (section : ℕ) (frames : List Frame) (putting : Putting) → NamesStay putting.tables.symbols (entries_put section frames putting).tables.symbols
entries_stay labels section [] putting symbol at there = there
entries_stay labels section (frame ∷ frames) putting symbol at there =
    let one = common_put section frame (place_of frame putting.commons) putting in
    let place = common_place section frame putting in
    entries_stay labels section frames (frame_put section (padded_log frames) frame putting) symbol at
    (entry_stays labels section (padded_log frames) place frame one symbol at (ready_stays labels section frame (place_of frame putting.commons) putting symbol at there))

-- where a CIE stands is told by the place, or by its address
told_place : (laid : LaidSections) (found : Option SectionPlace) (here : SectionPlace)
    → place_address laid (unwrap_or found here) ≡ unwrap_or (option_map (place_address laid) found) (place_address laid here)
told_place laid None here = refl
told_place laid (Some place) here = refl

-- a procedure with the address of its CIE in the layout
abbrev told : LaidSections → Common → Preceding
told laid common = record { frame = common.frame; common = place_address laid common.place }

told_shared : (laid : LaidSections) (earlier : List Common) (frame : Frame)
    → shared_common (map (told laid) earlier) frame ≡ option_map (place_address laid) (place_of frame earlier)
told_shared laid [] frame = refl
told_shared laid (one ∷ earlier) frame = by (share_common one.frame frame) (told_shared laid earlier frame)
  where
    by : (shared : Bool) → shared_common (map (told laid) earlier) frame ≡ option_map (place_address laid) (place_of frame earlier)
        → option_map (λ (one : Preceding). one.common)
        (if shared then Some (told laid one) else find (λ (one : Preceding). share_common one.frame frame) (map (told laid) earlier))
        ≡ option_map (place_address laid)
        (option_map (λ (one : Common). one.place) (if shared then Some one else find (λ (one : Common). share_common one.frame frame) earlier))
    by true later = refl
    by false later = later

module _ (facts : TableFacts) (t : LaidTable) (faultless : object_fault t.symbols t.laid ≡ None) where
  abbrev image : List ℕ
  image = image_of t.symbols t.laid

  -- a CIE of procedures that have one personality, and whose pointers are written alike, reads as that of each of them
  reads_alike : (offset : ℕ) (one frame : Frame) → one.personality ≡ frame.personality → form_of one ≡ form_of frame
      → CommonReads image t.symbols t.laid t.number offset one → CommonReads image t.symbols t.laid t.number offset frame
  reads_alike offset one frame personality form reads = record {
    pointer = reads.pointer;
    sized = reads.sized ∙ ap (λ (form : CommonForm). size_if form.personality) form;
    stands = subst (λ (form : CommonForm). PieceAt image (section_offset t.symbols t.laid t.number + offset) (common_entry form reads.pointer)) form reads.stands;
    names_it = subst (λ (form : CommonForm). Names t.symbols t.laid t.number (offset + length (common_head form)) frame.personality) form
        (subst (λ (pointer : Option Pointer). Names t.symbols t.laid t.number (offset + length (common_head (form_of one))) pointer) personality reads.names_it);
  }

  -- a CIE reads at its place, up to this offset
  pub record CommonIs (limit : ℕ) (common : Common) : Type 0 where
    pub end : SectionEnd
    pub place : common.place ≡ end_place t.number end
    pub stands : StandsTo t.held end
    pub behind : at_end t end ≤ limit
    pub reads : CommonReads image t.symbols t.laid t.number (at_end t end) common.frame

  further : (limit more : ℕ) → limit ≤ more → (common : Common) → CommonIs limit common → CommonIs more common
  further limit more up common is =
      let low = is.behind in record { end = is.end; place = is.place; stands = is.stands; behind = omega (arith, low, up); reads = is.reads }

  -- the one that a procedure shares reads as its own
  found_common : (limit : ℕ) (frame : Frame) (place : SectionPlace) (commons : List Common) → All (CommonIs limit) commons → place_of frame commons ≡ Some place
      → CommonIs limit (record { frame = frame; place = place })
  found_common limit frame place [] all is = absurd (none-some place is)
  found_common limit frame place (common ∷ commons) all is =
      by (share_common common.frame frame) refl (λ found. found_common limit frame place commons (All-tail (CommonIs limit) common commons all) found) is
    where
      rest : Option Common
      rest = find (λ (common : Common). share_common common.frame frame) commons

      own : CommonIs limit common
      own = All-head (CommonIs limit) common commons all

      by : (shared : Bool) → share_common common.frame frame ≡ shared
          → (place_of frame commons ≡ Some place → CommonIs limit (record { frame = frame; place = place }))
          → option_map (λ (common : Common). common.place) (if shared then Some common else rest) ≡ Some place → CommonIs limit (record { frame = frame; place = place })
      by true shared later found =
          let same = (facts.sharing common.frame frame).0 shared in
          record {
            end = own.end;
            place = sym (same_Some common.place place found) ∙ own.place;
            stands = own.stands;
            behind = own.behind;
            reads = reads_alike (at_end t own.end) common.frame frame same.0 same.1 own.reads;
          }
      by false shared later found = later found

  -- what stands before the FDE of a procedure, and the CIE that it leads back to
  pub record OneReady (frame : Frame) (found : Option SectionPlace) (putting : Putting) : Type 0 where
    pub count : ℕ
    pub before : count ≡ bytes_before (option_map (place_address t.laid) found) frame
    pub end : at_end t (common_put t.number frame found putting).end ≡ at_end t putting.end + count
    pub stands : StandsTo t.held (common_put t.number frame found putting).end
    pub common : SectionEnd
    pub place : unwrap_or found (end_place t.number putting.end) ≡ end_place t.number common
    pub common_stands : StandsTo t.held common
    pub behind : at_end t common ≤ at_end t (common_put t.number frame found putting).end
    pub reads : CommonReads image t.symbols t.laid t.number (at_end t common) frame
    pub commons : All (CommonIs (at_end t (common_put t.number frame found putting).end)) (common_put t.number frame found putting).commons
    pub known : PlacesAreLabels (common_put t.number frame found putting).tables.symbols
    pub reaches : Reaches t.number (common_put t.number frame found putting).tables.sections (common_put t.number frame found putting).end

  one_ready : (frame : Frame) (found : Option SectionPlace) (putting : Putting) → place_of frame putting.commons ≡ found → StandsTo t.held putting.end
      → All (CommonIs (at_end t putting.end)) putting.commons → PlacesAreLabels putting.tables.symbols
      → NamesStay (common_put t.number frame found putting).tables.symbols t.symbols → CommonStands t.held t.number frame found putting
      → Reaches t.number putting.tables.sections putting.end → OneReady frame found putting
  one_ready frame (Some place) putting is stands commons known stays stand reaches =
      let shared = found_common (at_end t putting.end) frame place putting.commons commons is in
      record {
        count = 0;
        before = refl;
        end = omega arith;
        stands = stands;
        common = shared.end;
        place = shared.place;
        common_stands = shared.stands;
        behind = shared.behind;
        reads = shared.reads;
        commons = commons;
        known = known;
        reaches = reaches;
      }
  one_ready frame None putting is stands commons known stays stand reaches =
      let pieces = common_pieces frame in
      let made = common_reads facts.pieces t faultless facts.commons frame putting.end putting.tables stands known stays stand in
      let moves = made.1 in
      let next = common_put t.number frame None putting in
      record {
        count = 4 + common_length (form_of frame);
        before = refl;
        end = made.1;
        stands = facts.pieces.file.ends.pieces t putting.tables frame.pos putting.end pieces stands stand;
        common = putting.end;
        place = refl;
        common_stands = stands;
        behind = omega (arith, moves);
        reads = made.0;
        commons = All-push (CommonIs (at_end t next.end)) putting.commons (record { frame = frame; place = end_place t.number putting.end })
            (All-weaker (CommonIs (at_end t putting.end)) (CommonIs (at_end t next.end))
            (further (at_end t putting.end) (at_end t next.end) (omega (arith, moves))) putting.commons commons)
            (record { end = putting.end; place = refl; stands = stands; behind = omega (arith, moves); reads = made.0 });
        known = facts.pieces.labels.known putting.tables.symbols next.tables.symbols known (facts.pieces.labels.pieces t.number frame.pos pieces putting.tables);
        reaches = facts.reaches t.number frame.pos pieces putting.tables putting.end reaches;
      }

  -- the FDE of a procedure reads, leads to this CIE, and moves the end so far
  abbrev OneEntry : ℕ → Frame → Putting → SectionPlace → Type 0
  OneEntry log frame one place = PiecesStand t.held t.number frame.pos one.end one.tables (entry_pieces t.number one.end place log frame)
      → NamesStay (entry_put t.number log place frame one).tables.symbols t.symbols
      → (read : EntryReads image t.symbols t.laid t.number (at_end t one.end) frame)
      × (at_end t (entry_put t.number log place frame one).end ≡ at_end t one.end + length read.entry) × (read.common ≡ place_address t.laid place)

  one_entry : (frame : Frame) (log : ℕ) (one : Putting) (common : SectionEnd) → IsRising t frame
      → CommonReads image t.symbols t.laid t.number (at_end t common) frame → StandsTo t.held common → StandsTo t.held one.end
      → at_end t common ≤ at_end t one.end → PlacesAreLabels one.tables.symbols → OneEntry log frame one (end_place t.number common)
  one_entry frame log one common rising reads common_stands stands behind known stand stays =
      let made = entry_reads facts.pieces t faultless frame common log one.end rising facts.read reads one.tables common_stands stands behind known stays stand in
      (made.1, made.0.reach ∙ ap (λ (bytes : List ℕ). at_end t one.end + length bytes) (sym made.2), made.3)

  -- behind the last entry the section ends
  ends_there : (sections : List LooseSection) (end : SectionEnd) → slice_get sections t.number ≡ Some t.held → Reaches t.number sections end
      → IsSomeAnd (slice_get t.laid t.number) (λ section. moved section.items (length section.items) (length section.bytes) ≡ at_end t end)
  ends_there sections end are reach =
      let has : HasEnd end t.held =
      subst (λ (found : Option LooseSection). IsSomeAnd found (HasEnd end)) are reach in
      let last = facts.pieces.file.ends.last t end has.items has.bytes in
      subst (λ (found : Option (SectionOf LaidItem)). IsSomeAnd found
      (λ section. moved section.items (length section.items) (length section.bytes) ≡ at_end t end)) (sym last.1) last.2

  -- an FDE before others
  pub one_frame : (base : ℕ) (earlier : List Preceding) (frame : Frame) (frames : List Frame) (count : ℕ) → count ≡ bytes_before (shared_common earlier frame) frame
      → (offset : ℕ) → offset ≡ base + count → (read : EntryReads image t.symbols t.laid t.number offset frame) → read.common ≡ unwrap_or (shared_common earlier frame) base
      → EntriesFill image t.symbols t.laid t.number (offset + length read.entry) (earlier ++ record { frame = frame; common = read.common } ∷ []) frames
      → EntriesFill image t.symbols t.laid t.number base earlier (frame ∷ frames)
  one_frame base earlier frame frames count before offset is =
      subst (λ (offset : ℕ). (read : EntryReads image t.symbols t.laid t.number offset frame) → read.common ≡ unwrap_or (shared_common earlier frame) base
      → EntriesFill image t.symbols t.laid t.number (offset + length read.entry) (earlier ++ record { frame = frame; common = read.common } ∷ []) frames
      → EntriesFill image t.symbols t.laid t.number base earlier (frame ∷ frames)) (sym is)
      (λ read leads rest. (record { count = count; before = before; read = read; leads = leads }, rest))

  -- behind this end the entries of procedures read, one behind the other, where these stand before
  abbrev AllRead : List Frame → Type 0
  AllRead frames = (putting : Putting) (earlier : List Common) → TellAlike putting.commons earlier → StandsTo t.held putting.end
      → All (CommonIs (at_end t putting.end)) putting.commons → PlacesAreLabels putting.tables.symbols
      → NamesStay (entries_put t.number frames putting).tables.symbols t.symbols → All (IsRising t) frames
      → EntriesStand t.held t.number frames putting → Reaches t.number putting.tables.sections putting.end
      → slice_get (entries_put t.number frames putting).tables.sections t.number ≡ Some t.held
      → EntriesFill image t.symbols t.laid t.number (at_end t putting.end) (map (told t.laid) earlier) frames

  -- what stands before the FDE of a procedure, that FDE, and all that follows it
  pub record FrameStep (frame : Frame) (frames : List Frame) (putting : Putting) (earlier : List Common) : Type 0 where
    pub ready : OneReady frame (place_of frame putting.commons) putting
    pub read : EntryReads image t.symbols t.laid t.number (at_end t (common_put t.number frame (place_of frame putting.commons) putting).end) frame
    pub common : read.common ≡ place_address t.laid (common_place t.number frame putting)
    pub rest : EntriesFill image t.symbols t.laid t.number (at_end t (common_put t.number frame (place_of frame putting.commons) putting).end + length read.entry)
        (map (told t.laid) earlier ++ record { frame = frame; common = read.common } ∷ []) frames

  pub one_step : (frame : Frame) (frames : List Frame) → AllRead frames → (putting : Putting) (earlier : List Common)
      → TellAlike (frame_put t.number (padded_log frames) frame putting).commons (with_frame t.number frame putting earlier) → StandsTo t.held putting.end
      → All (CommonIs (at_end t putting.end)) putting.commons → PlacesAreLabels putting.tables.symbols
      → NamesStay (entries_put t.number (frame ∷ frames) putting).tables.symbols t.symbols → All (IsRising t) (frame ∷ frames)
      → EntriesStand t.held t.number (frame ∷ frames) putting → Reaches t.number putting.tables.sections putting.end
      → slice_get (entries_put t.number (frame ∷ frames) putting).tables.sections t.number ≡ Some t.held → FrameStep frame frames putting earlier
  one_step frame frames later putting earlier tells stands commons known stays rising stand reaches are =
      let labels = facts.pieces.labels in
      let log = padded_log frames in
      let found = place_of frame putting.commons in
      let place = common_place t.number frame putting in
      let one = common_put t.number frame found putting in
      let next = frame_put t.number log frame putting in
      let next_stays : NamesStay next.tables.symbols t.symbols = λ symbol at there. stays symbol at (entries_stay labels t.number frames next symbol at there) in
      let one_stays : NamesStay one.tables.symbols t.symbols = λ symbol at there. next_stays symbol at (entry_stays labels t.number log place frame one symbol at there) in
      let ready = one_ready frame found putting refl stands commons known one_stays stand.0.common reaches in
      let entry = subst (OneEntry log frame one) (sym ready.place)
      (one_entry frame log one ready.common (All-head (IsRising t) frame frames rising) ready.reads ready.common_stands ready.stands ready.behind ready.known)
      stand.0.entry next_stays in
      let moves = entry.1 in
      let pieces = entry_pieces t.number one.end place log frame in
      let next_stands = facts.pieces.file.ends.pieces t one.tables frame.pos one.end pieces ready.stands stand.0.entry in
      let next_known = labels.known one.tables.symbols next.tables.symbols ready.known (labels.pieces t.number frame.pos pieces one.tables) in
      let next_commons = All-weaker (CommonIs (at_end t one.end)) (CommonIs (at_end t next.end)) (further (at_end t one.end) (at_end t next.end) (omega (arith, moves)))
      one.commons ready.commons in
      let rest = later next (with_frame t.number frame putting earlier) tells next_stands next_commons next_known stays (All-tail (IsRising t) frame frames rising) stand.1
      (facts.reaches t.number frame.pos pieces one.tables one.end ready.reaches) are in
      let own : Common = record { frame = frame; place = place } in
      let told_all : map (told t.laid) (earlier ++ own ∷ []) ≡ map (told t.laid) earlier ++ record { frame = frame; common = entry.0.common } ∷ [] =
      map-append (told t.laid) earlier (own ∷ [])
      ∙ ap (λ (common : ℕ). map (told t.laid) earlier ++ record { frame = frame; common = common } ∷ []) (sym entry.2) in
      record {
        ready = ready;
        read = entry.0;
        common = entry.2;
        rest = subst (λ (earlier : List Preceding). EntriesFill image t.symbols t.laid t.number (at_end t one.end + length entry.0.entry) earlier frames) told_all
            (subst (λ (offset : ℕ). EntriesFill image t.symbols t.laid t.number offset (map (told t.laid) (earlier ++ own ∷ [])) frames) moves rest);
      }

  -- the entries of all procedures read in the file, one behind the other
  pub all_read : (frames : List Frame) → AllRead frames
  all_read [] putting earlier tells stands commons known stays rising stand reaches are = ends_there putting.tables.sections putting.end are reaches
  all_read (frame ∷ frames) putting earlier tells stands commons known stays rising stand reaches are =
      let found = place_of frame putting.commons in
      let step = one_step frame frames (all_read frames) putting earlier (facts.first.next t.number (padded_log frames) frame putting earlier tells) stands commons known stays
      rising stand reaches are in
      let shared : shared_common (map (told t.laid) earlier) frame ≡ option_map (place_address t.laid) found =
      told_shared t.laid earlier frame ∙ ap (option_map (place_address t.laid)) (sym (tells frame)) in
      one_frame (at_end t putting.end) (map (told t.laid) earlier) frame frames step.ready.count
      (step.ready.before ∙ ap (λ (found : Option ℕ). bytes_before found frame) (sym shared)) (at_end t (common_put t.number frame found putting).end) step.ready.end step.read
      (step.common ∙ told_place t.laid found (end_place t.number putting.end) ∙ ap (λ (found : Option ℕ). unwrap_or found (at_end t putting.end)) (sym shared)) step.rest
