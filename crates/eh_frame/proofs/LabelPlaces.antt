-- The places of the labels that a table brings stand in its sections.
use Rattle.std.proofs.Common.{◌≡◌, ℕ, ◌<◌, ◌^◌, ◌-◌, inl, inr, Bool, true, false, List, [], ◌∷◌, ◌++◌, length, Option, None, Some, Ok, get_or, refl, sym, ap, subst, ◌∙◌, ◌==◌, arith}
use Rattle.std.specs.Prelude.{All, IsSomeAnd, if◌then◌else◌}
use Rattle.std.specs.List.{slice_get, find}
use Rattle.std.specs.Option.{option_map, option_map_or, unwrap_or}
use Rattle.std.proofs.lemmas.List.Elements.{All-nil, All-cons, All-head, All-tail, All-append, All-push, All-weaker}
use Rattle.std.proofs.lemmas.Option.{slice_get-get_or, slice_get_within, get_or_from_slice_get}
use Rattle.asm_frags.specs.Writing.{LooseSection, ends_in_run}
use Rattle.asm_symbols.specs.SymbolMap.{SymbolMap}
use Rattle.cfi_directives.specs.declared.frames.Frame.{Frame}
use Rattle.cfi_directives.specs.declared.frames.PlacedOp.{PlacedOp}
use Rattle.asm_base.specs.declared.places.Place.{Place}
use Rattle.asm_base.specs.declared.places.SectionPlace.{SectionPlace}
use Rattle.cfi_directives.specs.declared.frames.Pointer.{Pointer}
use Rattle.cfi_rows.specs.Commons.{common_tail}
use Rattle.table_pieces.specs.declared.ends.SectionEnd.{SectionEnd}
use Rattle.table_pieces.specs.declared.marks.Mark.TheVariants.{Here, At}
use Rattle.table_pieces.specs.Pieces as piece
use Rattle.table_pieces.specs.Pieces.{Piece, Tables, tables_of, piece_put}
use Rattle.table_pieces.specs.Ends.{behind_piece, behind_pieces, end_place, run_end, no_end, end_of}
use Rattle.table_pieces.specs.Standing.{OneExtends, HasEnd, Reaches}
use Rattle.section_laws.specs.Within.{IsWithin}
use Rattle.table_pieces.specs.Found.{IsReadyAt, IsReady}
use Rattle.table_pieces.specs.Ready.{SectionsKeepPlaces}
use Rattle.table_pieces.specs.StandingPlaces.{HoldsItems, GetsStanding, PlacesStand, AllPlacesStand, PiecesBringStanding}
use Rattle.eh_frame.specs.Entries.{advance_piece, op_pieces, counted_pieces, entry_pieces}
use Rattle.eh_frame.specs.Commons.{share_common, form_of, with_pointer, head_piece, rest_pieces, common_pieces}
use Rattle.eh_frame.specs.Placing.{Common, Putting, padded_log, place_of, common_put, common_place, frame_put, entries_put, common_begun, table_put, new_table, placed}
use Rattle.eh_frame.specs.FoundTables.{IsPlaced}
use Rattle.eh_frame.specs.StandingFrames.{FrameStands}
use Rattle.eh_frame.proofs.PieceFacts.{Extending, Finding, Reaching}
use Rattle.eh_frame.proofs.TableSteps.{ready, frame_extends, entries_extend, table_extends}
use Rattle.eh_frame.proofs.TableLemmas.{end_is, new_low, get_first, is_placed}

-- what is known of pieces, and of sections and labels that stand
pub record StandingFacts : Type 0 where
  pub extending : Extending
  pub finding : Finding
  pub reaching : Reaching
  pub standing : PiecesBringStanding
  pub keeping : SectionsKeepPlaces

-- what stands in sections stands there when one is extended
items_grow : StandingFacts → (section : ℕ) (before after : List LooseSection) → OneExtends section before after → (number items : ℕ) → HoldsItems before number items
    → HoldsItems after number items
items_grow facts section before after extends number items has = facts.keeping.items before after number items (facts.extending.extensions.all section before after extends) has

module _ (facts : StandingFacts) (sections : List LooseSection) where
  advance_is : (same : Bool) (section : ℕ) (last place : Place) → HoldsItems sections section last.item → HoldsItems sections section place.item
      → PlacesStand sections (advance_piece same section last place)
  advance_is true section last place one other = tt
  advance_is false section last place one other = (other, one)

  ops_are : (section log : ℕ) (last : Place) (ops : List PlacedOp) → HoldsItems sections section last.item → All (λ placed. HoldsItems sections section placed.place.item) ops
      → AllPlacesStand sections (op_pieces section log last ops)
  ops_are section log last [] one all = (tt, tt)
  ops_are section log last (op ∷ ops) one all =
      let own = All-head (λ (placed : PlacedOp). HoldsItems sections section placed.place.item) op ops all in (
        advance_is (last.item == op.place.item) section last op.place one own,
        (tt, ops_are section log op.place ops own (All-tail (λ (placed : PlacedOp). HoldsItems sections section placed.place.item) op ops all)),
      )

  -- a pointer has no place
  pointer_is : (pointer : Option Pointer) (pieces : List Piece) → AllPlacesStand sections pieces → AllPlacesStand sections (with_pointer pointer pieces)
  pointer_is None pieces all = all
  pointer_is (Some pointer) pieces all = (tt, all)

  common_is : (frame : Frame) → AllPlacesStand sections (common_pieces frame)
  common_is frame = (tt, pointer_is frame.personality (piece.plain (common_tail (form_of frame)) ∷ []) (tt, tt))

  entry_is : (common end : SectionPlace) (log : ℕ) (frame : Frame) → HoldsItems sections common.section common.place.item → HoldsItems sections end.section end.place.item
      → FrameStands sections frame → AllPlacesStand sections (piece.number (record { to = At end; from = Here; plus = 2 ^ 64 - 4 }) ∷ counted_pieces common log frame)
  entry_is common end log frame one other stands =
      let ops = ops_are frame.section log frame.start frame.ops stands.start stands.ops in
      ((other, tt), ((tt, one), (stands.start, ((stands.stop, stands.start), (tt, pointer_is frame.lsda (op_pieces frame.section log frame.start frame.ops) ops)))))

  -- the end that is counted stands
  reached : (section : ℕ) (held : List LooseSection) (end : SectionEnd) → Reaches section held end → HoldsItems held section end.items
  reached section held end reaches = by (slice_get held section) refl reaches
    where
      by : (found : Option LooseSection) → slice_get held section ≡ found → IsSomeAnd found (HasEnd end) → HoldsItems held section end.items
      by None is has = absurd has
      by (Some one) is has = record { held = one; there = is; enough = let items = has.items in omega (arith, items) }

  -- where a CIE stands
  abbrev pub CommonHolds : Common → Type 0
  CommonHolds common = HoldsItems sections common.place.section common.place.place.item

  -- the one that is found stands, or else the one that is put
  place_holds : (frame : Frame) (commons : List Common) (other : SectionPlace) → All CommonHolds commons → HoldsItems sections other.section other.place.item
      → (let place = unwrap_or (place_of frame commons) other in HoldsItems sections place.section place.place.item)
  place_holds frame [] other all own = own
  place_holds frame (common ∷ commons) other all own =
      by (share_common common.frame frame) (All-head CommonHolds common commons all) (place_holds frame commons other (All-tail CommonHolds common commons all) own)
    where
      rest : Option Common
      rest = find (λ (common : Common). share_common common.frame frame) commons

      by : (same : Bool) → CommonHolds common
          → (let place = unwrap_or (option_map (λ (common : Common). common.place) rest) other in HoldsItems sections place.section place.place.item)
          → (let place = unwrap_or (option_map (λ (common : Common). common.place) (if same then Some common else rest)) other in
          HoldsItems sections place.section place.place.item)
      by true first later = first
      by false first later = later

  -- with one more
  ready_holds : (section : ℕ) (frame : Frame) (found : Option SectionPlace) (putting : Putting) → All CommonHolds putting.commons → HoldsItems sections section putting.end.items
      → All CommonHolds (common_put section frame found putting).commons
  ready_holds section frame (Some place) putting all own = all
  ready_holds section frame None putting all own =
      All-push CommonHolds putting.commons (record { frame = frame; place = end_place section putting.end }) all own

  ready_stands : (section : ℕ) (frame : Frame) (found : Option SectionPlace) (putting : Putting)
      → GetsStanding sections putting.tables.symbols (common_put section frame found putting).tables.symbols
  ready_stands section frame (Some place) putting = facts.standing.same sections putting.tables.symbols
  ready_stands section frame None putting = facts.standing.pieces sections section frame.pos (common_pieces frame) putting.tables (common_is frame)

  ready_reaches : (section : ℕ) (frame : Frame) (found : Option SectionPlace) (putting : Putting) → Reaches section putting.tables.sections putting.end
      → Reaches section (common_put section frame found putting).tables.sections (common_put section frame found putting).end
  ready_reaches section frame (Some place) putting reaches = reaches
  ready_reaches section frame None putting reaches = facts.reaching section frame.pos (common_pieces frame) putting.tables putting.end reaches

  entries_stand : (section : ℕ) (frames : List Frame) (putting : Putting) → OneExtends section (entries_put section frames putting).tables.sections sections
      → Reaches section putting.tables.sections putting.end → All CommonHolds putting.commons → All (FrameStands sections) frames
      → GetsStanding sections putting.tables.symbols (entries_put section frames putting).tables.symbols
  entries_stand section [] putting extends reaches commons all = facts.standing.same sections putting.tables.symbols
  entries_stand section (frame ∷ frames) putting extends reaches commons all =
      let log = padded_log frames in
      let found : Option SectionPlace = place_of frame putting.commons in
      let one : Putting = ready section frame putting in
      let place : SectionPlace = common_place section frame putting in
      let pieces : List Piece = entry_pieces section one.end place log frame in
      let next : Putting = frame_put section log frame putting in
      let reach_one : Reaches section one.tables.sections one.end = ready_reaches section frame found putting reaches in
      let reach : Reaches section next.tables.sections next.end = facts.reaching section frame.pos pieces one.tables one.end reach_one in
      let grown : OneExtends section next.tables.sections sections =
      facts.extending.extensions.on section next.tables.sections (entries_put section frames next).tables.sections sections (entries_extend facts.extending section frames next) extends in
      let all_grown : OneExtends section putting.tables.sections sections =
      facts.extending.extensions.on section putting.tables.sections next.tables.sections sections (frame_extends facts.extending section log frame putting) grown in
      let own : HoldsItems sections section putting.end.items =
      items_grow facts section putting.tables.sections sections all_grown section putting.end.items (reached section putting.tables.sections putting.end reaches) in
      let stop : HoldsItems sections section next.end.items = items_grow facts section next.tables.sections sections grown section next.end.items (reached section next.tables.sections next.end reach) in
      let there = place_holds frame putting.commons (end_place section putting.end) commons own in
      facts.standing.on sections putting.tables.symbols one.tables.symbols (entries_put section frames next).tables.symbols (ready_stands section frame found putting)
      (facts.standing.on sections one.tables.symbols next.tables.symbols (entries_put section frames next).tables.symbols
      (facts.standing.pieces sections section frame.pos pieces one.tables (entry_is place (end_place section next.end) log frame there stop (All-head (FrameStands sections) frame frames all)))
      (entries_stand section frames next extends reach (ready_holds section frame found putting commons own) (All-tail (FrameStands sections) frame frames all)))

-- the CIE stands where the section ended
common_there : (section : ℕ) (sections : List LooseSection) (held : LooseSection) → slice_get sections section ≡ Some held → HoldsItems sections section (end_of section sections).items
unfolding end_of
common_there section sections held is =
    record { held = held; there = is; enough = let items = ap (λ found. (option_map_or run_end found no_end).items) is in omega (arith, items) }

frames_grow : StandingFacts → (section : ℕ) (before after : List LooseSection) → OneExtends section before after → (frame : Frame) → FrameStands before frame → FrameStands after frame
frames_grow facts section before after extends frame stands = record {
  start = items_grow facts section before after extends frame.section frame.start.item stands.start;
  stop = items_grow facts section before after extends frame.section _ stands.stop;
  ops = All-weaker (λ (placed : PlacedOp). HoldsItems before frame.section placed.place.item) (λ (placed : PlacedOp). HoldsItems after frame.section placed.place.item)
      (λ placed has. items_grow facts section before after extends frame.section placed.place.item has) frame.ops stands.ops;
}

table_stands : StandingFacts → (section : ℕ) (first : Frame) (frames : List Frame) (tables : Tables) (held : LooseSection) → slice_get tables.sections section ≡ Some held → IsWithin held
    → All (FrameStands tables.sections) frames → GetsStanding (table_put section first frames tables).sections tables.symbols (table_put section first frames tables).symbols
table_stands facts section first frames tables held is low stand =
    let start : SectionEnd = record { items = length held.items; bytes = length held.bytes; in_run = ends_in_run held.items } in
    let is_ready : IsReady section tables.sections start =
    subst (λ (found : Option LooseSection). IsSomeAnd found (IsReadyAt start)) (sym is) (record { reaches = record { items = refl; bytes = refl; in_run = refl }; low = low }) in
    let reached_start : Reaches section tables.sections start =
    subst (λ (found : Option LooseSection). IsSomeAnd found (HasEnd start)) (sym is) (record { items = refl; bytes = refl; in_run = refl }) in
    let begun : Putting = common_begun section first tables in
    let put : Tables = piece_put section first.pos (head_piece first) tables in
    let puts : IsReady section put.sections (behind_piece (head_piece first) start) = facts.finding.ready section first.pos (head_piece first ∷ []) tables start is_ready in
    let ended : end_of section put.sections ≡ behind_piece (head_piece first) start = end_is section put.sections (behind_piece (head_piece first) start) puts refl in
    let end_same : behind_pieces (common_pieces first) start ≡ begun.end = ap (behind_pieces (rest_pieces first)) (sym ended) in
    let reach : Reaches section begun.tables.sections begun.end =
    subst (Reaches section begun.tables.sections) end_same (facts.reaching section first.pos (common_pieces first) tables start reached_start) in
    let all : List LooseSection = (table_put section first frames tables).sections in
    let extends : OneExtends section tables.sections all = table_extends facts.extending section first frames tables in
    let own : HoldsItems all section (end_of section tables.sections).items =
    items_grow facts section tables.sections all extends section _ (common_there section tables.sections held is) in
    facts.standing.on all tables.symbols begun.tables.symbols (table_put section first frames tables).symbols
    (facts.standing.pieces all section first.pos (common_pieces first) tables (common_is facts all first))
    (entries_stand facts all section frames begun (facts.extending.extensions.same section all) reach
    (All-cons (CommonHolds facts all) (record { frame = first; place = end_place section (end_of section tables.sections) }) [] own (All-nil (CommonHolds facts all)))
    (All-weaker (FrameStands tables.sections) (FrameStands all) (frames_grow facts section tables.sections all extends) frames stand))

of_all : (xs : List LooseSection) (i : ℕ) (x : LooseSection) → slice_get xs i ≡ Some x → All IsWithin xs → IsWithin x
of_all xs i x there low = subst IsWithin (get_or_from_slice_get xs i x x there) (low i x (slice_get_within xs i x there))

module _ (facts : StandingFacts) (frame : Frame) (frames : List Frame) (tables after : Tables) (low : All IsWithin tables.sections) (stand : All (FrameStands tables.sections) (frame ∷ frames)) where
  -- the section is there before the table is put, since it is there then
  section_there : (section : ℕ) (sections : List LooseSection) (found : Option LooseSection) (P : LooseSection → Type 0) → slice_get after.sections section ≡ found
      → IsSomeAnd found P → length after.sections ≡ length sections → slice_get sections section ≡ Some (get_or sections section new_table)
  section_there section sections None P is some long = absurd some
  section_there section sections (Some held) P is some long =
      slice_get-get_or sections section new_table (subst (λ (n : ℕ). section < n) long (slice_get_within after.sections section held is))

  by_first : (put : IsPlaced frame frames tables after) → put.first.symbols ≡ tables.symbols → All IsWithin put.first.sections → All (FrameStands put.first.sections) (frame ∷ frames)
      → GetsStanding after.sections tables.symbols after.symbols
  by_first put same within all =
      let long : length after.sections ≡ length put.first.sections =
      ap (λ (t : Tables). length t.sections) put.put ∙ (table_extends facts.extending put.section frame (frame ∷ frames) put.first).count in
      let there = section_there put.section put.first.sections (slice_get after.sections put.section) _ refl put.stands long in
      subst (λ (t : Tables). GetsStanding t.sections tables.symbols t.symbols) (sym put.put)
      (subst (λ (map : SymbolMap). GetsStanding (table_put put.section frame (frame ∷ frames) put.first).sections map (table_put put.section frame (frame ∷ frames) put.first).symbols) same
      (table_stands facts put.section frame (frame ∷ frames) put.first (get_or put.first.sections put.section new_table) there
      (of_all put.first.sections put.section _ there within) all))

  more_items : (number items : ℕ) → HoldsItems tables.sections number items → HoldsItems (tables.sections ++ new_table ∷ []) number items
  more_items number items has = record { held = has.held; there = get_first tables.sections (new_table ∷ []) number has.held has.there; enough = has.enough }

  frame_more : (one : Frame) → FrameStands tables.sections one → FrameStands (tables.sections ++ new_table ∷ []) one
  frame_more one stands = record {
    start = more_items one.section one.start.item stands.start;
    stop = more_items one.section _ stands.stop;
    ops = All-weaker (λ (placed : PlacedOp). HoldsItems tables.sections one.section placed.place.item)
        (λ (placed : PlacedOp). HoldsItems (tables.sections ++ new_table ∷ []) one.section placed.place.item)
        (λ placed has. more_items one.section placed.place.item has) one.ops stands.ops;
  }

  pub labels_by : IsPlaced frame frames tables after → GetsStanding after.sections tables.symbols after.symbols
  labels_by put = elim put.begins [
    | inl there ↦ by_first put (ap (λ (t : Tables). t.symbols) there.1) (subst (λ (t : Tables). All IsWithin t.sections) (sym there.1) low)
        (subst (λ (t : Tables). All (FrameStands t.sections) (frame ∷ frames)) (sym there.1) stand)
    | inr new ↦ by_first put (ap (λ (t : Tables). t.symbols) new.2)
        (subst (λ (t : Tables). All IsWithin t.sections) (sym new.2)
        (All-append IsWithin tables.sections (new_table ∷ []) low (All-cons IsWithin new_table [] new_low (All-nil IsWithin))))
        (subst (λ (t : Tables). All (FrameStands t.sections) (frame ∷ frames)) (sym new.2)
        (All-weaker (FrameStands tables.sections) (FrameStands (tables.sections ++ new_table ∷ [])) frame_more (frame ∷ frames) stand))
  ]

-- where the places of procedures stand, so do those of labels
pub labels_stand : StandingFacts → (frame : Frame) (frames : List Frame) (tables after : Tables) → All IsWithin tables.sections → All (FrameStands tables.sections) (frame ∷ frames)
    → placed (frame ∷ frames) tables ≡ Ok after → GetsStanding after.sections tables.symbols after.symbols
labels_stand facts frame frames tables after low stand is =
    labels_by facts frame frames tables after low stand (is_placed facts.extending facts.finding frame frames tables after low is)
