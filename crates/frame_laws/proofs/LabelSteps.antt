-- The labels and the bytes that pieces bring.
use Rattle.std.proofs.Common.{◌≡◌, ℕ, ◌+◌, ◌*◌, ◌≤◌, ◌==◌, Bool, true, false, List, [], ◌∷◌, length, Option, None, Some, arith}
use Rattle.std.specs.Prelude.{All, IsSome, IsSomeAnd}
use Rattle.std.specs.List.{slice_get}
use Rattle.std.proofs.lemmas.List.Elements.{All-head, All-tail}
use Rattle.asm_base.specs.declared.positions.Pos.{Pos}
use Rattle.asm_frags.specs.Writing.{LooseSection}
use Rattle.cfi_directives.specs.declared.frames.Frame.{Frame}
use Rattle.cfi_directives.specs.declared.frames.PlacedOp.{PlacedOp}
use Rattle.asm_base.specs.declared.places.Place.{Place}
use Rattle.asm_base.specs.declared.places.SectionPlace.{SectionPlace}
use Rattle.asm_frags.specs.Fields.{width}
use Rattle.cfi_directives.specs.declared.frames.Pointer.{Pointer}
use Rattle.cfi_rows.specs.Commons.{common_head, common_tail}
use Rattle.cfi_entries.specs.Written.{written}
use Rattle.table_pieces.specs.declared.ends.SectionEnd.{SectionEnd}
use Rattle.table_pieces.specs.Counts.{labels_in, bytes_in, labels_of, bytes_of, PiecesAreCounted}
use Rattle.table_pieces.specs.Pieces.{Piece, plain, Tables, Takes, piece_put, pieces_put}
use Rattle.table_pieces.specs.Ends.{behind_pieces, end_of}
use Rattle.eh_frame.specs.Entries.{op_code, advance_piece, op_pieces, entry_pieces}
use Rattle.eh_frame.specs.Commons.{form_of, pointer_field, with_pointer, head_piece, rest_pieces, common_pieces}
use Rattle.eh_frame.specs.Placing.{Putting, padded_log, place_of, common_put, common_place, frame_put, entries_put, common_begun, table_put}
use Rattle.table_pieces.specs.Standing.{HasEnd, Reaches}
use Rattle.frame_laws.specs.LabelCounts.{AreWritten, LabelsAreFew}
use Rattle.frame_laws.proofs.WrittenBytes.{code_counts}

-- ENTRIES

advance_labels : (known : Bool) (section : ℕ) (last place : Place) → labels_in (advance_piece known section last place) ≤ 2
advance_labels true section last place = omega arith
advance_labels false section last place = omega arith

-- the instructions of a procedure bring few labels
ops_few : (section log : ℕ) (last : Place) (ops : List PlacedOp) → All (λ placed. IsSome (written placed.op)) ops
    → labels_of (op_pieces section log last ops) ≤ 2 * bytes_of (op_pieces section log last ops)
ops_few section log last [] all = omega arith
ops_few section log last (placed ∷ ops) all =
    let one : Piece = advance_piece (last.item == placed.place.item) section last placed.place in
    let labels : labels_in one ≤ 2 = advance_labels (last.item == placed.place.item) section last placed.place in
    let code : 1 ≤ length (op_code placed.op) = code_counts placed.op (All-head (λ (placed : PlacedOp). IsSome (written placed.op)) placed ops all) in
    let rest : List Piece = op_pieces section log placed.place ops in
    let few : labels_of rest ≤ 2 * bytes_of rest = ops_few section log placed.place ops (All-tail (λ (placed : PlacedOp). IsSome (written placed.op)) placed ops all) in
    let both : labels_in one + (0 + labels_of rest) ≤ 2 * (bytes_in one + (length (op_code placed.op) + bytes_of rest)) = omega (arith, labels, code, few) in
    both

-- a pointer brings none
pointer_few : (pointer : Option Pointer) (pieces : List Piece) → labels_of pieces ≤ 2 * bytes_of pieces
    → labels_of (with_pointer pointer pieces) ≤ 2 * bytes_of (with_pointer pointer pieces)
pointer_few None pieces few = few
pointer_few (Some pointer) pieces few =
    let both : 0 + labels_of pieces ≤ 2 * (width (pointer_field pointer.encoding) + bytes_of pieces) = omega (arith, few) in
    both

-- and so does a CIE
common_few : (frame : Frame) → labels_of (common_pieces frame) ≤ 2 * bytes_of (common_pieces frame)
common_few frame =
    let tail : List Piece = plain (common_tail (form_of frame)) ∷ [] in
    let rest : List Piece = with_pointer frame.personality tail in
    let few : labels_of rest ≤ 2 * bytes_of rest = pointer_few frame.personality tail (omega arith) in
    let both : 0 + labels_of rest ≤ 2 * (length (common_head (form_of frame)) + bytes_of rest) = omega (arith, few) in
    both

-- the FDE of a procedure brings few labels
entry_few : (section : ℕ) (end : SectionEnd) (common : SectionPlace) (log : ℕ) (frame : Frame) → All (λ placed. IsSome (written placed.op)) frame.ops
    → labels_of (entry_pieces section end common log frame) ≤ 2 * bytes_of (entry_pieces section end common log frame)
entry_few section end common log frame all =
    let ops : List Piece = op_pieces frame.section log frame.start frame.ops in
    let rest : List Piece = with_pointer frame.lsda ops in
    let few : labels_of rest ≤ 2 * bytes_of rest = pointer_few frame.lsda ops (ops_few frame.section log frame.start frame.ops all) in
    let both : 2 + (2 + (2 + (2 + (0 + labels_of rest)))) ≤ 2 * (4 + (4 + (4 + (4 + (1 + bytes_of rest))))) = omega (arith, few) in
    both

-- TABLES

-- pieces lead from one end of the section to another
abbrev PiecesReach : Type 0
PiecesReach = (section : ℕ) (pos : Pos) (pieces : List Piece) (tables : Tables) (end : SectionEnd) → Reaches section tables.sections end
    → Reaches section (pieces_put section pos pieces tables).sections (behind_pieces pieces end)

-- plain bytes lead to the end of the section
abbrev PlainReaches : Type 0
PlainReaches = (section : ℕ) (pos : Pos) (bytes : List ℕ) (tables : Tables) → Takes section tables.sections
    → Reaches section (piece_put section pos (plain bytes) tables).sections (end_of section (piece_put section pos (plain bytes) tables).sections)

weaker : (P Q : LooseSection → Type 0) → ((held : LooseSection) → P held → Q held) → (found : Option LooseSection) → IsSomeAnd found P → IsSomeAnd found Q
weaker P Q to None is = absurd is
weaker P Q to (Some held) is = to held is

module _ (counted : PiecesAreCounted) (reach : PiecesReach) where
  -- a CIE that is put, or not, brings few labels
  ready_few : (section : ℕ) (frame : Frame) (found : Option SectionPlace) (putting : Putting)
      → (let next = common_put section frame found putting in
      length next.tables.symbols.symbols + 2 * putting.end.bytes ≤ length putting.tables.symbols.symbols + 2 * next.end.bytes)
  ready_few section frame (Some place) putting = omega arith
  ready_few section frame None putting =
      let more = counted.labels section frame.pos (common_pieces frame) putting.tables in
      let few = common_few frame in
      let far = counted.bytes (common_pieces frame) putting.end in
      omega (arith, more, few, far)

  ready_reaches : (section : ℕ) (frame : Frame) (found : Option SectionPlace) (putting : Putting) → Reaches section putting.tables.sections putting.end
      → Reaches section (common_put section frame found putting).tables.sections (common_put section frame found putting).end
  ready_reaches section frame (Some place) putting reaches = reaches
  ready_reaches section frame None putting reaches = reach section frame.pos (common_pieces frame) putting.tables putting.end reaches

  -- entries behind an end of the section bring few labels for the bytes behind that end
  entries_few : (section : ℕ) (frames : List Frame) (putting : Putting) → AreWritten frames → Reaches section putting.tables.sections putting.end
      → (let last = (entries_put section frames putting).tables in IsSomeAnd (slice_get last.sections section)
      (λ held. length last.symbols.symbols + 2 * putting.end.bytes ≤ length putting.tables.symbols.symbols + 2 * length held.bytes))
  entries_few section [] putting all reaches =
      weaker (HasEnd putting.end) (λ held. length putting.tables.symbols.symbols + 2 * putting.end.bytes ≤ length putting.tables.symbols.symbols + 2 * length held.bytes)
      (λ held has. let is = has.bytes in omega (arith, is)) (slice_get putting.tables.sections section) reaches
  entries_few section (frame ∷ frames) putting all reaches =
      let log = padded_log frames in
      let found : Option SectionPlace = place_of frame putting.commons in
      let one : Putting = common_put section frame found putting in
      let pieces : List Piece = entry_pieces section one.end (common_place section frame putting) log frame in
      let next : Putting = frame_put section log frame putting in
      let last : Tables = (entries_put section frames next).tables in
      let each = λ (frame : Frame). All (λ (placed : PlacedOp). IsSome (written placed.op)) frame.ops in
      let first = ready_few section frame found putting in
      let more : length next.tables.symbols.symbols ≤ length one.tables.symbols.symbols + labels_of pieces = counted.labels section frame.pos pieces one.tables in
      let few : labels_of pieces ≤ 2 * bytes_of pieces = entry_few section one.end (common_place section frame putting) log frame (All-head each frame frames all) in
      let far : next.end.bytes ≡ one.end.bytes + bytes_of pieces = counted.bytes pieces one.end in
      weaker (λ held. length last.symbols.symbols + 2 * next.end.bytes ≤ length next.tables.symbols.symbols + 2 * length held.bytes)
      (λ held. length last.symbols.symbols + 2 * putting.end.bytes ≤ length putting.tables.symbols.symbols + 2 * length held.bytes)
      (λ held is. omega (arith, is, more, few, far, first)) (slice_get last.sections section)
      (entries_few section frames next (All-tail each frame frames all)
      (reach section frame.pos pieces one.tables one.end (ready_reaches section frame found putting reaches)))

  -- a table brings few labels
  pub table_few : PlainReaches → LabelsAreFew
  table_few begins section first frames tables all takes =
      let put : Tables = piece_put section first.pos (head_piece first) tables in
      let begun : Putting = common_begun section first tables in
      let last : Tables = table_put section first frames tables in
      let more : length begun.tables.symbols.symbols ≤ length put.symbols.symbols + labels_of (rest_pieces first) = counted.labels section first.pos (rest_pieces first) put in
      let few : labels_of (rest_pieces first) ≤ 2 * bytes_of (rest_pieces first) = pointer_few first.personality (plain (common_tail (form_of first)) ∷ []) (omega arith) in
      let far : begun.end.bytes ≡ (end_of section put.sections).bytes + bytes_of (rest_pieces first) = counted.bytes (rest_pieces first) (end_of section put.sections) in
      weaker (λ held. length last.symbols.symbols + 2 * begun.end.bytes ≤ length begun.tables.symbols.symbols + 2 * length held.bytes)
      (λ held. length last.symbols.symbols ≤ length tables.symbols.symbols + 2 * length held.bytes)
      (λ held is. omega (arith, is, more, few, far)) (slice_get last.sections section)
      (entries_few section frames begun all
      (reach section first.pos (rest_pieces first) put (end_of section put.sections) (begins section first.pos (common_head (form_of first)) tables takes)))
