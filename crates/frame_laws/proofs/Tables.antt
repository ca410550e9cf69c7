-- A frame table reads in the file.
use Rattle.std.proofs.Common.{◌≡◌, ℕ, ◌+◌, ◌==◌, ◌*◌, ◌^◌, ◌≤◌, inl, inr, Bool, true, false, List, [], ◌∷◌, ◌++◌, All, Option, Some, None, Ok, length, refl, sym, ap, ◌∙◌, subst, arith, length-append}
use Rattle.std.specs.Prelude.{◌&&◌, codes, is_none, if◌then◌else◌, slice_get, IsSomeAnd, IsSome}
use Rattle.std.specs.Option.{option_map, option_map_or, unwrap_or}
use Rattle.std.specs.Str.{bytes_eq}
use Rattle.std.proofs.lemmas.List.Elements.{All-nil, All-cons, All-weaker}
use Rattle.std.proofs.lemmas.List.Quantifiers.{position-Some}
use Rattle.std.proofs.lemmas.Option.{same_Some, get_or_from_slice_get}
use Rattle.asm_base.specs.declared.places.SectionPlace.{SectionPlace}
use Rattle.asm_symbols.specs.SymbolMap.{SymbolMap}
use Rattle.asm_frags.specs.declared.groups.Group.{Group}
use Rattle.asm_frags.specs.Fields.{own_place}
use Rattle.asm_frags.specs.SectionOf.{is_section_named}
use Rattle.asm_frags.specs.Writing.{LooseSection, takes_zeros_alone}
use Rattle.asm_relax.specs.KeptSections.{kept_section}
use Rattle.asm_relax.specs.Settling.{LaidSections, layout_of}
use Rattle.elf_object.specs.Faults.{object_fault}
use Rattle.elf_object.specs.Image.{image_of}
use Rattle.cfi_directives.specs.declared.frames.Frame.{Frame}
use Rattle.cfi_directives.specs.declared.frames.PlacedOp.{PlacedOp}
use Rattle.cfi_rows.specs.Commons.{common_head, common_length}
use Rattle.cfi_entries.specs.Written.{written}
use Rattle.table_pieces.specs.declared.ends.SectionEnd.{SectionEnd}
use Rattle.table_pieces.specs.Ends.{behind_pieces, end_place, run_end, no_end, end_of}
use Rattle.table_pieces.specs.Labels.{NamesPlace, PlacesAreLabels}
use Rattle.table_pieces.specs.Pieces.{Tables, piece_put}
use Rattle.table_pieces.specs.Ready.{AreReady}
use Rattle.table_pieces.specs.Standing.{Extends, OneExtends, Reaches}
use Rattle.eh_frame.specs.Commons.{form_of, head_piece, rest_pieces, common_pieces}
use Rattle.eh_frame.specs.FoundTables.{TableStands, IsPlaced}
use Rattle.eh_frame.specs.Placing.{Common, Putting, padded_log, place_of, common_put, common_begun, new_table}
use Rattle.piece_laws.specs.HeldDistances.{NamesStay}
use Rattle.piece_laws.specs.LaidTables.{IsSmall, IsLow, place_address, LaidTable, StandsTo}
use Rattle.frame_laws.specs.LabelCounts.{AreWritten, BringsFew}
use Rattle.frame_laws.specs.PlacedTables.{IsCovered, GoesOn}
use Rattle.frame_laws.specs.TableReads.{CommonReads, bytes_before, EntriesFill, IsTableSection, TableReads, FrameTablesRead}
use Rattle.frame_laws.proofs.Lists.{all_there}
use Rattle.frame_laws.proofs.PieceFacts.{at_end}
use Rattle.frame_laws.proofs.CommonReading.{common_reads}
use Rattle.frame_laws.proofs.EntryReading.{IsRising}
use Rattle.frame_laws.proofs.PlacedFrames.{covered_grows, frame_rising}
use Rattle.frame_laws.proofs.EntriesInOrder.{TableFacts, entries_stay, CommonIs, FrameStep, one_frame, one_step, all_read}

-- the end of a section that is there
end_there : (section : ℕ) (sections : List LooseSection) (held : LooseSection) → slice_get sections section ≡ Some held → end_of section sections ≡ run_end held
unfolding end_of
end_there section sections held there = ap (λ found. option_map_or run_end found no_end) there

last_there : (xs : List LooseSection) (x : LooseSection) → slice_get (xs ++ x ∷ []) (length xs) ≡ Some x
last_there [] x = refl
last_there (y ∷ xs) x = last_there xs x

module _ (facts : TableFacts) (frame : Frame) (frames : List Frame) (tables after last : Tables) (laid : LaidSections) (ready : AreReady tables)
    (covered : All (IsCovered tables.sections) (frame ∷ frames)) (is : layout_of last.symbols last.sections ≡ Ok laid)
    (faultless : object_fault last.symbols laid ≡ None) (low : IsLow last laid)
    (put : IsPlaced frame frames tables after) (goes_on : GoesOn after last) where
  -- the symbols are those that were placed
  first_symbols : put.first.symbols ≡ tables.symbols
  first_symbols = elim put.begins [
    | inl there ↦ ap (λ (t : Tables). t.symbols) there.1
    | inr new ↦ ap (λ (t : Tables). t.symbols) new.2
  ]

  -- the section has its name
  first_named : (held : LooseSection) → slice_get put.first.sections put.section ≡ Some held → is_section_named (codes ".eh_frame") held ≡ true
  first_named held there = elim put.begins [
    | inl old ↦
        (let found : slice_get tables.sections put.section ≡ Some held = sym (ap (λ (t : Tables). slice_get t.sections put.section) old.1) ∙ there in
        let named = position-Some (is_section_named (codes ".eh_frame")) tables.sections put.section held old.0 in
        sym (ap (is_section_named (codes ".eh_frame")) (get_or_from_slice_get tables.sections put.section held held found)) ∙ named.1)
    | inr new ↦
        (let found : slice_get (tables.sections ++ new_table ∷ []) (length tables.sections) ≡ Some held =
        ap (slice_get (tables.sections ++ new_table ∷ [])) (sym new.1) ∙ sym (ap (λ (t : Tables). slice_get t.sections put.section) new.2) ∙ there in
        ap (is_section_named (codes ".eh_frame")) (same_Some held new_table (sym found ∙ last_there tables.sections new_table)))
  ]

  covered_written : AreWritten (frame ∷ frames)
  covered_written =
      All-weaker (IsCovered tables.sections) (λ (one : Frame). All (λ (placed : PlacedOp). IsSome (written placed.op)) one.ops) (λ one is_covered. is_covered.whole.sound.written)
      (frame ∷ frames) covered

  module _ (before held : LooseSection) (was : slice_get put.first.sections put.section ≡ Some before) (there : slice_get after.sections put.section ≡ Some held)
      (takes : takes_zeros_alone before ≡ false) (more : Extends before held) where
    -- it keeps its name, and is in no group
    held_named : is_section_named (codes ".eh_frame") held ≡ true
    held_named =
        ap (λ (group : Option Group). is_none group && bytes_eq (codes ".eh_frame") held.name) more.group
        ∙ (ap (λ (name : List ℕ). is_none before.group && bytes_eq (codes ".eh_frame") name) more.name ∙ first_named before was)

    -- the section is as it was
    stays : slice_get last.sections put.section ≡ Some held
    stays = goes_on.kept put.section held there held_named

    own : (shifts : List ℕ) × (slice_get laid put.section ≡ Some (kept_section last.symbols shifts held))
    own = facts.layouts.section last.symbols last.sections laid put.section held is stays

    few_bytes : length held.bytes ≤ 2 ^ 30
    few_bytes =
        let all = (all_there IsSmall laid put.section (kept_section last.symbols own.0 held) own.1 low.small).size in omega (arith, all)

    few_labels : length last.symbols.symbols ≤ 2 ^ 24 + 2 ^ 31 + 2 ^ 30
    few_labels =
        let brings : BringsFew put.section put.first after =
        subst (λ (t : Tables). BringsFew put.section put.first t) (sym put.put)
        (facts.few put.section frame (frame ∷ frames) put.first covered_written put.takes) in
        let count : length after.symbols.symbols ≤ length put.first.symbols.symbols + 2 * length held.bytes =
        subst (λ (found : Option LooseSection). IsSomeAnd found (λ (held : LooseSection). length after.symbols.symbols ≤ length put.first.symbols.symbols + 2 * length held.bytes))
        there brings in
        let same = ap (λ (map : SymbolMap). length map.symbols) first_symbols in
        let few = ready.few in
        let bytes = few_bytes in
        let behind = goes_on.few in
        omega (arith, count, same, few, bytes, behind)

    few_symbols : length last.symbols.symbols ≤ own_place
    few_symbols = let few = few_labels in omega (arith, few)

    -- the section of the table, in the end
    abbrev section : LaidTable
    section = record {
      symbols = last.symbols;
      sections = last.sections;
      laid = laid;
      number = put.section;
      held = held;
      is = is;
      found = stays;
      takes = ap (λ kind. kind == 8) more.kind ∙ takes;
      within = goes_on.within;
      few = few_symbols;
      stand = goes_on.stand;
      low = record { small = low.small; rows = low.rows };
    }

    -- each procedure rises in the layout
    all_rising : All (IsRising section) (frame ∷ frames)
    all_rising =
        All-weaker (IsCovered tables.sections) (IsRising section)
        (λ one is_covered. frame_rising facts.keeping facts.pieces.places section after.sections goes_on.grows one
        (covered_grows facts.keeping tables.sections after.sections put.grows one is_covered)) (frame ∷ frames) covered

    module _ (table : TableStands held put.section frame (frame ∷ frames) put.first) where
      -- the end of the section before the table
      start_stands : StandsTo held table.start
      start_stands =
          let place = table.place in
          let end = end_there put.section put.first.sections before was in
          let items = ap (λ (at : SectionPlace). at.place.item) place ∙ ap (λ (end : SectionEnd). end.items) end in
          let bytes = ap (λ (at : SectionPlace). at.place.offset) place ∙ ap (λ (end : SectionEnd). end.bytes) end in
          let all_items = ap length more.all_items ∙ length-append before.items more.items in
          let all_bytes = ap length more.all_bytes ∙ length-append before.bytes more.bytes in
          record { items = omega (arith, items, all_items); bytes = omega (arith, bytes, all_bytes) }

      abbrev begun : Putting
      begun = common_begun put.section frame put.first

      -- what names a place behind the first CIE does so in the end
      begun_stays : NamesStay begun.tables.symbols last.symbols
      begun_stays symbol at there =
          facts.pieces.labels.stays after.symbols last.symbols symbol at goes_on.labels
          (subst (λ (t : Tables). NamesPlace t.symbols symbol at) (sym put.put) (entries_stay facts.pieces.labels put.section (frame ∷ frames) begun symbol at there))

      first_known : PlacesAreLabels put.first.symbols
      first_known = subst PlacesAreLabels (sym first_symbols) ready.named

      -- the first CIE reads
      first_reads : CommonReads (image_of last.symbols laid) last.symbols laid put.section (at_end section table.start) frame
          × (at_end section (behind_pieces (common_pieces frame) table.start) ≡ at_end section table.start + (4 + common_length (form_of frame)))
      first_reads = common_reads facts.pieces section faultless facts.commons frame table.start put.first start_stands first_known begun_stays table.common

      begun_stands : StandsTo held begun.end
      begun_stands = subst (StandsTo held) table.end (facts.pieces.file.ends.pieces section put.first frame.pos table.start (common_pieces frame) start_stands table.common)

      begun_end : at_end section begun.end ≡ at_end section table.start + (4 + common_length (form_of frame))
      begun_end = ap (at_end section) (sym table.end) ∙ first_reads.1

      begun_common : All (CommonIs facts section faultless (at_end section begun.end)) begun.commons
      begun_common =
          let moves = begun_end in
          All-cons (CommonIs facts section faultless (at_end section begun.end))
          (record { frame = frame; place = end_place put.section (end_of put.section put.first.sections) }) []
          (record { end = table.start; place = sym table.place; stands = start_stands; behind = omega (arith, moves); reads = first_reads.0 })
          (All-nil (CommonIs facts section faultless (at_end section begun.end)))

      begun_reaches : Reaches put.section begun.tables.sections begun.end
      begun_reaches =
          let head = piece_put put.section frame.pos (head_piece frame) put.first in
          facts.reaches put.section frame.pos (rest_pieces frame) head (end_of put.section head.sections)
          (facts.plain_reaches put.section frame.pos (common_head (form_of frame)) put.first put.takes)

      -- the first procedure finds its CIE
      begun_found : place_of frame begun.commons ≡ Some (end_place put.section (end_of put.section put.first.sections))
      begun_found =
          ap (λ (b : Bool). option_map (λ (common : Common). common.place)
          (if b then Some (record { frame = frame; place = end_place put.section (end_of put.section put.first.sections) }) else None))
          ((facts.sharing frame frame).1 (refl, refl))

      -- its FDE and all entries behind it
      first_step : FrameStep facts section faultless frame frames begun []
      first_step =
          one_step facts section faultless frame frames (all_read facts section faultless frames) begun []
          (facts.first.first put.section (padded_log frames) frame put.first) begun_stands begun_common
          (facts.pieces.labels.known put.first.symbols begun.tables.symbols first_known (facts.pieces.labels.pieces put.section frame.pos (common_pieces frame) put.first))
          (λ symbol at named. facts.pieces.labels.stays after.symbols last.symbols symbol at goes_on.labels
          (subst (λ (t : Tables). NamesPlace t.symbols symbol at) (sym put.put) named))
          all_rising table.entries begun_reaches (ap (λ (t : Tables). slice_get t.sections put.section) (sym put.put) ∙ there)

      first_end : at_end section (common_put put.section frame (place_of frame begun.commons) begun).end ≡ at_end section table.start + (4 + common_length (form_of frame))
      first_end =
          let none : first_step.ready.count ≡ 0 =
          first_step.ready.before ∙ ap (λ (found : Option SectionPlace). bytes_before (option_map (place_address laid) found) frame) begun_found in
          let count = first_step.ready.end in
          let start = begun_end in
          omega (arith, none, count, start)

      first_common : first_step.read.common ≡ at_end section table.start
      first_common =
          first_step.common
          ∙ ap (λ (found : Option SectionPlace). place_address laid (unwrap_or found (end_place put.section begun.end))) begun_found
          ∙ ap (place_address laid) (sym table.place)

      -- the entries read from the first CIE on
      entries_read : EntriesFill (image_of last.symbols laid) last.symbols laid put.section (at_end section table.start) [] (frame ∷ frames)
      entries_read =
          one_frame facts section faultless (at_end section table.start) [] frame frames (4 + common_length (form_of frame)) refl
          (at_end section (common_put put.section frame (place_of frame begun.commons) begun).end) first_end first_step.read first_common first_step.rest

      -- the table reads in the file
      table_reads : TableReads (image_of last.symbols laid) last.symbols laid (frame ∷ frames)
      table_reads = record {
        number = put.section;
        section = subst (λ found. IsSomeAnd found IsTableSection) (sym own.1)
            (record { named = held_named; filed = section.takes });
        common = at_end section table.start;
        entries = entries_read;
        few = few_labels;
      }

  by_last : (before : LooseSection) → slice_get put.first.sections put.section ≡ Some before → takes_zeros_alone before ≡ false → (found : Option LooseSection)
      → slice_get after.sections put.section ≡ found → IsSomeAnd found (λ held. TableStands held put.section frame (frame ∷ frames) put.first)
      → (now : LooseSection) × (slice_get after.sections put.section ≡ Some now) × Extends before now → TableReads (image_of last.symbols laid) last.symbols laid (frame ∷ frames)
  by_last before was takes None there table more = absurd table
  by_last before was takes (Some held) there table more =
      table_reads before held was there takes (subst (Extends before) (same_Some more.0 held (sym more.1 ∙ there)) more.2) table

  by_first : (found : Option LooseSection) → slice_get put.first.sections put.section ≡ found → IsSomeAnd found (λ held. takes_zeros_alone held ≡ false)
      → TableReads (image_of last.symbols laid) last.symbols laid (frame ∷ frames)
  by_first None was takes = absurd takes
  by_first (Some before) was takes =
      let extends = subst (λ (t : Tables). OneExtends put.section put.first.sections t.sections) (sym put.put)
      (facts.behind put.section frame (frame ∷ frames) put.first) in
      by_last before was takes (slice_get after.sections put.section) refl put.stands (extends.there before was)

  pub reads : TableReads (image_of last.symbols laid) last.symbols laid (frame ∷ frames)
  reads = by_first (slice_get put.first.sections put.section) refl put.takes.filled

-- whatever was placed, its table reads
pub tables_read : TableFacts → FrameTablesRead
tables_read facts frame frames tables after last laid ready covered made goes_on is faultless low =
    reads facts frame frames tables after last laid ready covered is faultless low (facts.found frame frames tables after ready.within made) goes_on
