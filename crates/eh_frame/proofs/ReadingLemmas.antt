-- The pieces of an entry are written lines, whatever layout makes of them.
use Rattle.std.proofs.Common.{◌≡◌, ℕ, zero, suc, ◌+◌, ◌-◌, ◌/◌, ◌%◌, ◌^◌, ◌<◌, ◌≤◌, ◌==◌, ◌↔◌, min, Bool, true, false, List, [], ◌∷◌, ◌++◌, length, map, replicate, nat_lt, nat_le, Option, None, Some, if◌then◌else◌, refl, sym, ap, subst, ◌∙◌, arith}
use Rattle.std.specs.Prelude.{All, IsSome}
use Rattle.std.specs.Option.{unwrap_or, option_map, option_and_then}
use Rattle.std.proofs.lemmas.Bool.{eqb-true, lt-ltb}
use Rattle.std.proofs.lemmas.List.{append-nil}
use Rattle.std.proofs.lemmas.List.Elements.{All-head, All-tail}
use Rattle.asm_expr.specs.Forms.{wrapped}
use Rattle.asm_frags.specs.declared.fields.FieldSize.TheVariants.{Four, Eight}
use Rattle.asm_frags.specs.Fields.{low_bytes}
use Rattle.item_bytes.specs.Levels.{AdvanceHolds, advance_level}
use Rattle.item_bytes.specs.Levels.{advance_size}
use Rattle.item_bytes.specs.Advances as item
use Rattle.item_contents.specs.declared.kinds.Growth.TheVariants as growth
use Rattle.item_contents.specs.Contents.{grown_bytes}
use Rattle.cfi_directives.specs.declared.frames.Frame.{Frame}
use Rattle.cfi_directives.specs.declared.frames.PlacedOp.{PlacedOp}
use Rattle.asm_base.specs.declared.places.Place.{Place}
use Rattle.asm_base.specs.declared.places.SectionPlace.{SectionPlace}
use Rattle.cfi_rows.specs.declared.rows.CfaRow.{CfaRow}
use Rattle.cfi_rows.specs.declared.rows.CfiOp.{CfiOp}
use Rattle.cfi_directives.specs.Meant.{from_start, ops_up_to, row_meant, stands_at, stop_of}
use Rattle.cfi_directives.specs.Rows.{rows_after}
use Rattle.cfi_directives.specs.declared.frames.Pointer.{Pointer}
use Rattle.cfi_rows.specs.declared.commons.CommonForm.{CommonForm}
use Rattle.cfi_rows.specs.Commons.{common_entry}
use Rattle.cfi_entries.specs.Entries.{row_of}
use Rattle.cfi_rows.specs.Pointers.{is_wide, size_if}
use Rattle.cfi_entries.specs.Lines.{Form, absent, inside, in_byte, in_two, in_four, advance_bytes, IsRoom, Line, bytes_of, AreLines, ops_of, word_then, entry_bytes, row_due}
use Rattle.cfi_entries.specs.Places.{Placed, up_to, row_after}
use Rattle.cfi_entries.specs.Places.{rows_after as rows_behind}
use Rattle.cfi_rows.specs.Rows.{Rows, common_row, start_rows, changed, ops_after}
use Rattle.cfi_entries.specs.Written.{written}
use Rattle.table_pieces.specs.declared.marks.Mark.TheVariants.{Here, At}
use Rattle.table_pieces.specs.Made.{Made, pieces_bytes, AreMade, IsSpan}
use Rattle.table_pieces.specs.Pieces.{Piece, plain}
use Rattle.eh_frame.specs.Commons.{encoding_if, form_of, pointer_field, with_pointer}
use Rattle.eh_frame.specs.Entries.{op_code, known_advance, advance_piece, op_pieces}
use Rattle.eh_frame.specs.Reading.{Follows, Rise, EntriesRead, RowsAreMeant}

-- ADVANCES

-- the form of an advance of this level
abbrev level_form : ℕ → Form
level_form zero = absent
level_form (suc zero) = inside
level_form (suc (suc zero)) = in_byte
level_form (suc (suc (suc zero))) = in_two
level_form (suc (suc (suc (suc level)))) = in_four

level_room : (level distance : ℕ) → AdvanceHolds level distance → IsRoom (level_form level) distance
level_room zero distance holds = holds
level_room (suc zero) distance holds = holds
level_room (suc (suc zero)) distance holds = holds
level_room (suc (suc (suc zero))) distance holds = holds
level_room (suc (suc (suc (suc level)))) distance holds = holds

-- an advance of a level that holds the distance is written in its form
level_bytes : (level distance : ℕ) → level ≤ 4 → AdvanceHolds level distance → item.advance_bytes level distance ≡ advance_bytes (level_form level) distance
unfolding item.advance_bytes
level_bytes zero distance within holds = refl
level_bytes (suc zero) distance within holds =
    let same : distance % 2 ^ 6 ≡ distance = omega (arith, holds) in ap (λ d. (0x40 + d) ∷ []) same
level_bytes (suc (suc zero)) distance within holds =
    let same : distance % 2 ^ 8 ≡ distance = omega (arith, holds) in ap (λ d. 0x02 ∷ d ∷ []) same
level_bytes (suc (suc (suc zero))) distance within holds =
    let a : distance % 2 ^ 16 % 256 ≡ distance % 256 = omega (arith, holds) in
    let b : distance % 2 ^ 16 / 256 % 256 ≡ distance / 256 = omega (arith, holds) in
    cc (a, b)
level_bytes (suc (suc (suc (suc zero)))) distance within holds =
    let a : distance % 2 ^ 32 % 256 ≡ distance % 256 = omega (arith, holds) in
    let b : distance % 2 ^ 32 / 256 % 256 ≡ distance / 256 % 256 = omega (arith, holds) in
    let c : distance % 2 ^ 32 / 65536 % 256 ≡ distance / 65536 % 256 = omega (arith, holds) in
    let d : distance % 2 ^ 32 / 16777216 % 256 ≡ distance / 16777216 = omega (arith, holds) in
    cc (a, b, c, d)
level_bytes (suc (suc (suc (suc (suc level))))) distance within holds = absurd (let none : ⊥ = omega (arith, within) in none)

-- an advance of 5 bytes has level 4, and each other one that of its size
size_level : (level : ℕ) → level ≤ 4 → min (advance_size level) 4 ≡ level
size_level zero within = refl
size_level (suc zero) within = refl
size_level (suc (suc zero)) within = refl
size_level (suc (suc (suc zero))) within = refl
size_level (suc (suc (suc (suc zero)))) within = refl
size_level (suc (suc (suc (suc (suc level))))) within = absurd (let none : ⊥ = omega (arith, within) in none)

-- what is said of the levels of advances
abbrev pub AdvancesHold : Type 0
AdvancesHold = (distance level : ℕ) → distance < 2 ^ 32 → (advance_level distance ≤ level) ↔ AdvanceHolds level distance

-- LINES

-- an instruction that has bytes has these
code_of : (code : Option (List ℕ)) → IsSome code → code ≡ Some (unwrap_or code [])
code_of None is = absurd (let none : ⊥ = cc in none)
code_of (Some bytes) is = refl

-- the bytes are those of instructions, one behind the other from this distance on, and of a padding
record AsLines (distance : Place → ℕ) (here : ℕ) (ops : List PlacedOp) (bytes : List ℕ) : Type 0 where
  lines : List Line
  padding : ℕ
  are : AreLines here lines
  written : bytes ≡ bytes_of padding here lines
  placed : ops_of lines ≡ map (λ placed. (distance placed.place, placed.op)) ops

-- an instruction more, behind an advance
line_more : (distance : Place → ℕ) (form : Form) (here : ℕ) (placed : PlacedOp) (ops : List PlacedOp) (moved rest : List ℕ) → here ≤ distance placed.place
    → IsRoom form (distance placed.place - here) → IsSome (written placed.op) → moved ≡ advance_bytes form (distance placed.place - here)
    → AsLines distance (distance placed.place) ops rest → AsLines distance here (placed ∷ ops) (moved ++ (op_code placed.op ++ rest))
line_more distance form here placed ops moved rest rises fits has_form is behind = record {
  lines = record { form = form; place = distance placed.place; op = placed.op; bytes = op_code placed.op } ∷ behind.lines;
  padding = behind.padding;
  are = (rises, fits, code_of (written placed.op) has_form, behind.are);
  written = ap (λ bytes. bytes ++ (op_code placed.op ++ rest)) is
      ∙ ap (λ bytes. advance_bytes form (distance placed.place - here) ++ (op_code placed.op ++ bytes)) behind.written;
  placed = ap (λ ops. (distance placed.place, placed.op) ∷ ops) behind.placed;
}

-- the last place stands behind the first one
rise_ends : (address : SectionPlace → ℕ) (section : ℕ) (last : Place) (ops : List PlacedOp) (stop : Place) → Rise address section last ops stop
    → stands_at address section last ≤ stands_at address section stop
rise_ends address section last [] stop rise = rise
rise_ends address section last (placed ∷ ops) stop rise =
    let ends : stands_at address section placed.place ≤ stands_at address section stop = rise_ends address section placed.place ops stop rise.1 in
    omega (arith, rise.0.rises, ends)

-- the value of a distance from one place to a later one
span_value : (value from to : ℕ) → value < 2 ^ 64 → wrapped (value + from) ≡ wrapped (to + 0) → from ≤ to → to < 2 ^ 32 → value ≡ to - from
span_value value from to within spans rises low = omega (arith, within, spans, rises, low)

module _ (address : SectionPlace → ℕ) (section log start : ℕ) where
  -- how far a place stands from the start
  abbrev distance_of : Place → ℕ
  distance_of place = stands_at address section place - start

  abbrev Below : Place → List PlacedOp → Type 0
  Below last ops = (at : ℕ) (mades : List Made) → AreMade address at (op_pieces section log last ops) mades
      → AsLines distance_of (distance_of last) ops (pieces_bytes (op_pieces section log last ops) mades)

  op_lines : AdvancesHold → (last : Place) (placed : PlacedOp) (ops : List PlacedOp) (known : Bool) → (last.item == placed.place.item) ≡ known
      → start ≤ stands_at address section last → Follows address section last placed.place → stands_at address section placed.place < 2 ^ 32
      → IsSome (written placed.op) → Below placed.place ops → (at : ℕ) (mades : List Made)
      → AreMade address at (advance_piece known section last placed.place ∷ plain (op_code placed.op) ∷ op_pieces section log placed.place ops) mades
      → AsLines distance_of (distance_of last) (placed ∷ ops)
      (pieces_bytes (advance_piece known section last placed.place ∷ plain (op_code placed.op) ∷ op_pieces section log placed.place ops) mades)
  op_lines hold last placed ops true is behind follows low has_form below at [] made = absurd made
  op_lines hold last placed ops true is behind follows low has_form below at (one ∷ []) made = absurd made.1
  op_lines hold last placed ops true is behind follows low has_form below at (one ∷ two ∷ mades) made =
      let same : last.item ≡ placed.place.item = eqb-true last.item placed.place.item is in
      let apart : stands_at address section placed.place + last.offset ≡ stands_at address section last + placed.place.offset = follows.beside same in
      let far : placed.place.offset - last.offset ≡ distance_of placed.place - distance_of last = omega (arith, apart, behind, follows.rises) in
      let short : placed.place.offset - last.offset < 2 ^ 32 = omega (arith, far, low) in
      let holds : AdvanceHolds (advance_level (placed.place.offset - last.offset)) (placed.place.offset - last.offset) =
      (hold (placed.place.offset - last.offset) (advance_level (placed.place.offset - last.offset)) short).0 (omega arith) in
      let within : advance_level (placed.place.offset - last.offset) ≤ 4 = (hold (placed.place.offset - last.offset) 4 short).1 short in
      let fits : IsRoom (level_form (advance_level (placed.place.offset - last.offset))) (placed.place.offset - last.offset) =
      level_room (advance_level (placed.place.offset - last.offset)) (placed.place.offset - last.offset) holds in
      line_more distance_of (level_form (advance_level (placed.place.offset - last.offset))) (distance_of last) placed ops
      (known_advance (placed.place.offset - last.offset)) (pieces_bytes (op_pieces section log placed.place ops) mades) (omega (arith, follows.rises))
      (subst (IsRoom (level_form (advance_level (placed.place.offset - last.offset)))) far fits) has_form
      (level_bytes (advance_level (placed.place.offset - last.offset)) (placed.place.offset - last.offset) within holds
      ∙ ap (advance_bytes (level_form (advance_level (placed.place.offset - last.offset)))) far)
      (below (at + length (known_advance (placed.place.offset - last.offset)) + length (op_code placed.op)) mades made.1.1)
  op_lines hold last placed ops false is behind follows low has_form below at [] made = absurd made
  op_lines hold last placed ops false is behind follows low has_form below at (one ∷ []) made = absurd made.1
  op_lines hold last placed ops false is behind follows low has_form below at (one ∷ two ∷ mades) made =
      let value : one.value ≡ stands_at address section placed.place - stands_at address section last =
      span_value one.value (stands_at address section last) (stands_at address section placed.place) made.0.span.within made.0.span.spans follows.rises low in
      let far : one.value ≡ distance_of placed.place - distance_of last = omega (arith, value, behind, follows.rises) in
      let fits : IsRoom (level_form made.0.level) one.value = level_room made.0.level one.value made.0.holds in
      let bytes : grown_bytes growth.Advance one.size one.value ≡ advance_bytes (level_form made.0.level) one.value =
      ap (λ size. grown_bytes growth.Advance size one.value) made.0.size
      ∙ ap (λ level. item.advance_bytes level one.value) (size_level made.0.level made.0.within)
      ∙ level_bytes made.0.level one.value made.0.within made.0.holds in
      line_more distance_of (level_form made.0.level) (distance_of last) placed ops (grown_bytes growth.Advance one.size one.value)
      (pieces_bytes (op_pieces section log placed.place ops) mades)
      (omega (arith, follows.rises)) (subst (IsRoom (level_form made.0.level)) far fits) has_form (bytes ∙ ap (advance_bytes (level_form made.0.level)) far)
      (below (at + length (grown_bytes growth.Advance one.size one.value) + length (op_code placed.op)) mades made.1.1)

  ops_lines : AdvancesHold → (last : Place) (ops : List PlacedOp) (stop : Place) → start ≤ stands_at address section last → Rise address section last ops stop
      → stands_at address section stop < 2 ^ 32 → All (λ placed. IsSome (written placed.op)) ops → Below last ops
  ops_lines hold last [] stop behind rise low has_form at [] made = absurd made
  ops_lines hold last [] stop behind rise low has_form at (one ∷ []) made =
      record { lines = []; padding = one.size; are = tt; written = append-nil (replicate one.size 0); placed = refl }
  ops_lines hold last [] stop behind rise low has_form at (one ∷ two ∷ mades) made = absurd made.1
  ops_lines hold last (placed ∷ ops) stop behind rise low has_form at mades made =
      let ends : stands_at address section placed.place ≤ stands_at address section stop = rise_ends address section placed.place ops stop rise.1 in
      op_lines hold last placed ops (last.item == placed.place.item) refl behind rise.0 (omega (arith, ends, low))
      (All-head (λ (placed : PlacedOp). IsSome (written placed.op)) placed ops has_form)
      (ops_lines hold placed.place ops stop (omega (arith, behind, rise.0.rises)) rise.1 low (All-tail (λ (placed : PlacedOp). IsSome (written placed.op)) placed ops has_form))
      at mades made

-- ROWS

-- the rows behind placed instructions are those behind the instructions
each_so : {A B : Type 0} (f g : A → Option B) → ((a : A) → f a ≡ g a) → (o : Option A) → option_and_then f o ≡ option_and_then g o
each_so f g same None = refl
each_so f g same (Some a) = same a

module _ (address : SectionPlace → ℕ) (frame : Frame) where
  abbrev placed_op : PlacedOp → Placed
  placed_op placed = (from_start address frame placed.place, placed.op)

  abbrev op_of : PlacedOp → CfiOp
  op_of placed = placed.op

  placed_rows : (ops : List PlacedOp) (rows : Rows) → rows_behind common_row (map placed_op ops) rows ≡ ops_after common_row (map op_of ops) rows
  placed_rows [] rows = refl
  placed_rows (placed ∷ ops) rows =
      each_so (rows_behind common_row (map placed_op ops)) (ops_after common_row (map op_of ops)) (placed_rows ops) (changed common_row placed.op rows)

  up_to_if : (b : Bool) (placed : PlacedOp) (ops : List PlacedOp) (rest : List Placed) → rest ≡ map placed_op ops
      → (if b then (placed_op placed ∷ rest) else []) ≡ map placed_op (if b then (placed ∷ ops) else [])
  up_to_if true placed ops rest is = ap (λ rest. placed_op placed ∷ rest) is
  up_to_if false placed ops rest is = refl

  placed_up_to : (at : ℕ) (ops : List PlacedOp) → up_to at (map placed_op ops) ≡ map placed_op (ops_up_to address frame at ops)
  placed_up_to at [] = refl
  placed_up_to at (placed ∷ ops) =
      up_to_if (nat_le (from_start address frame placed.place) at) placed (ops_up_to address frame at ops) (up_to at (map placed_op ops)) (placed_up_to at ops)

  behind_some : (row : Option CfaRow) (all : Option Rows) → IsSome all → option_and_then (λ _. row) all ≡ row
  behind_some row None is = absurd (let none : ⊥ = cc in none)
  behind_some row (Some rows) is = refl

  -- where all instructions can be run, the row after those up to a place is the one that is meant
  meant_row : (at : ℕ) → IsSome (rows_after frame.ops)
      → row_after common_row at (map placed_op frame.ops) (start_rows common_row) ≡ option_map (λ rows. rows.row) (rows_after (ops_up_to address frame at frame.ops))
  meant_row at run =
      behind_some (option_map (λ rows. rows.row) (rows_behind common_row (up_to at (map placed_op frame.ops)) (start_rows common_row)))
      (rows_behind common_row (map placed_op frame.ops) (start_rows common_row))
      (subst (λ (all : Option Rows). IsSome all) (sym (placed_rows frame.ops (start_rows common_row))) run)
      ∙ ap (λ (ops : List Placed). option_map (λ rows. rows.row) (rows_behind common_row ops (start_rows common_row))) (placed_up_to at frame.ops)
      ∙ ap (option_map (λ rows. rows.row)) (placed_rows (ops_up_to address frame at frame.ops) (start_rows common_row))

  -- where all of them can be run, those up to a place can
  first_runs : (b : Bool) (placed : PlacedOp) (ops some : List PlacedOp) (rows : Rows)
      → ((rows : Rows) → IsSome (ops_after common_row (map op_of ops) rows) → IsSome (ops_after common_row (map op_of some) rows))
      → IsSome (ops_after common_row (map op_of (placed ∷ ops)) rows) → IsSome (ops_after common_row (map op_of (if b then (placed ∷ some) else [])) rows)
  first_runs false placed ops some rows below run = refl
  first_runs true placed ops some rows below run = by (changed common_row placed.op rows) run
    where
      by : (next : Option Rows) → IsSome (option_and_then (ops_after common_row (map op_of ops)) next)
          → IsSome (option_and_then (ops_after common_row (map op_of some)) next)
      by None run = run
      by (Some next) run = below next run

  up_to_run : (at : ℕ) (ops : List PlacedOp) (rows : Rows) → IsSome (ops_after common_row (map op_of ops) rows)
      → IsSome (ops_after common_row (map op_of (ops_up_to address frame at ops)) rows)
  up_to_run at [] rows run = run
  up_to_run at (placed ∷ ops) rows run =
      first_runs (nat_le (from_start address frame placed.place) at) placed ops (ops_up_to address frame at ops) rows (up_to_run at ops) run

  some_row : (rows : Option Rows) → IsSome rows → IsSome (option_map (λ rows. rows.row) rows)
  some_row None is = is
  some_row (Some rows) is = refl

pub rows_are_meant : RowsAreMeant
rows_are_meant address frame at whole below =
    subst (λ (b : Bool). IsSome (if b then option_map (λ rows. rows.row) (rows_after (ops_up_to address frame at frame.ops)) else None))
    (let test : true ≡ nat_lt at (from_start address frame (stop_of frame)) = sym (lt-ltb at (from_start address frame (stop_of frame)) below) in test)
    (some_row address frame (rows_after (ops_up_to address frame at frame.ops)) (up_to_run address frame at frame.ops (start_rows common_row) whole.sound.run))

-- ENTRIES

low_length : (value : ℕ) → length (low_bytes Four value) ≡ 4
unfolding low_bytes
low_length value = refl

low_more : (value : ℕ) (rest : List ℕ) → length (low_bytes Four value ++ rest) ≡ length rest + 4
unfolding low_bytes
low_more value rest = omega arith

low_word : (value : ℕ) (rest : List ℕ) → value < 2 ^ 32 → low_bytes Four value ++ rest ≡ word_then value rest
unfolding low_bytes
low_word value rest low =
    let same : value / 16777216 % 256 ≡ value / 16777216 = omega (arith, low) in
    ap (λ last. value % 256 ∷ value / 256 % 256 ∷ value / 65536 % 256 ∷ last ∷ rest) same

-- five numbers, the pointer to the LSDA and the instructions are an entry
entry_written : (count back first range : ℕ) (lsda code : List ℕ) → count ≡ length (lsda ++ code) + 13 → count < 2 ^ 32 → back < 2 ^ 32 → first < 2 ^ 32 → range < 2 ^ 32
    → low_bytes Four count ++ (low_bytes Four back ++ (low_bytes Four first ++ (low_bytes Four range ++ (length lsda ∷ (lsda ++ code))))) ≡ entry_bytes back first range lsda code
entry_written count back first range lsda code is count_low back_low first_low range_low =
    low_word count (low_bytes Four back ++ (low_bytes Four first ++ (low_bytes Four range ++ covered))) count_low
    ∙ ap (λ rest. word_then count rest) (
    low_word back (low_bytes Four first ++ (low_bytes Four range ++ covered)) back_low
    ∙ ap (λ rest. word_then back rest) (
    low_word first (low_bytes Four range ++ covered) first_low ∙ ap (λ rest. word_then first rest) (low_word range covered range_low)
    )
    )
    ∙ ap (λ count. word_then count (word_then back (word_then first (word_then range covered)))) is
  where
    covered : List ℕ
    covered = length lsda ∷ (lsda ++ code)

entry_length : (count back first range size : ℕ) (rest : List ℕ)
    → length (low_bytes Four count ++ (low_bytes Four back ++ (low_bytes Four first ++ (low_bytes Four range ++ (size ∷ rest))))) ≡ length rest + 17
entry_length count back first range size rest =
    let a : length (low_bytes Four range ++ (size ∷ rest)) ≡ length rest + 1 + 4 = low_more range (size ∷ rest) ∙ (let one : length rest + 1 + 4 ≡ length rest + 1 + 4 = refl in omega arith) in
    let b : length (low_bytes Four first ++ (low_bytes Four range ++ (size ∷ rest))) ≡ length (low_bytes Four range ++ (size ∷ rest)) + 4 = low_more first (low_bytes Four range ++ (size ∷ rest)) in
    let c : length (low_bytes Four back ++ (low_bytes Four first ++ (low_bytes Four range ++ (size ∷ rest)))) ≡ length (low_bytes Four first ++ (low_bytes Four range ++ (size ∷ rest))) + 4 = low_more back (low_bytes Four first ++ (low_bytes Four range ++ (size ∷ rest))) in
    let d : length (low_bytes Four count ++ (low_bytes Four back ++ (low_bytes Four first ++ (low_bytes Four range ++ (size ∷ rest))))) ≡ length (low_bytes Four back ++ (low_bytes Four first ++ (low_bytes Four range ++ (size ∷ rest)))) + 4 = low_more count (low_bytes Four back ++ (low_bytes Four first ++ (low_bytes Four range ++ (size ∷ rest)))) in
    omega (arith, a, b, c, d)

-- a pointer has as many bytes as its encoding says
field_long : (wide : Bool) (value : ℕ) → length (low_bytes (if wide then Eight else Four) value) ≡ (if wide then 8 else 4)
unfolding low_bytes
field_long true value = refl
field_long false value = refl

-- the bytes of a pointer, where there is one, before those of other pieces
pub record SplitPointer (address : SectionPlace → ℕ) (here : ℕ) (pointer : Option Pointer) (pieces : List Piece) (mades : List Made) : Type 0 where
  pub bytes : List ℕ
  pub sized : length bytes ≡ size_if (encoding_if pointer)
  pub later : List Made
  pub all : pieces_bytes (with_pointer pointer pieces) mades ≡ bytes ++ pieces_bytes pieces later
  pub place : ℕ
  pub made : AreMade address place pieces later

pub split_pointer : (address : SectionPlace → ℕ) (here : ℕ) (pointer : Option Pointer) (pieces : List Piece) (mades : List Made)
    → AreMade address here (with_pointer pointer pieces) mades → SplitPointer address here pointer pieces mades
split_pointer address here None pieces mades made = record { bytes = []; sized = refl; later = mades; all = refl; place = here; made = made }
split_pointer address here (Some pointer) pieces [] made = absurd made
split_pointer address here (Some pointer) pieces (one ∷ mades) made = record {
  bytes = low_bytes (pointer_field pointer.encoding) one.value;
  sized = field_long (is_wide pointer.encoding) one.value;
  later = mades;
  all = refl;
  place = here + length (low_bytes (pointer_field pointer.encoding) one.value);
  made = made.1;
}

-- what is said of written entries
abbrev pub EntriesReadBack : Type 0
EntriesReadBack = (form : CommonForm) (pointer lsda : List ℕ) (at padding back first range : ℕ) (lines : List Line) → length pointer ≡ size_if form.personality
    → length lsda ≡ size_if form.lsda → AreLines 0 lines → back < 2 ^ 32 → 0 < back → first < 2 ^ 32 → range < 2 ^ 32
    → length (lsda ++ bytes_of padding 0 lines) + 13 < 0xfffffff0
    → row_of (common_entry form pointer) (entry_bytes back first range lsda (bytes_of padding 0 lines)) at ≡ row_due at range lines

-- the numbers of an entry, and its instructions as lines
made_reads : EntriesReadBack → (address : SectionPlace → ℕ) (here : ℕ) (common end : SectionPlace) (frame : Frame) (pointer lsda : List ℕ) (at count back first range : ℕ) (code : List ℕ)
    → length pointer ≡ size_if (encoding_if frame.personality) → length lsda ≡ size_if (encoding_if frame.lsda)
    → count < 2 ^ 64 → wrapped (count + here) ≡ wrapped (address end + (2 ^ 64 - 4)) → back < 2 ^ 64 → wrapped (back + address common) ≡ wrapped (here + 4 + 0)
    → first < 2 ^ 32 → range ≡ stands_at address frame.section (stop_of frame) - stands_at address frame.section frame.start
    → stands_at address frame.section (stop_of frame) < 2 ^ 32 → address common ≤ here → address end ≡ here + (length (lsda ++ code) + 17)
    → here + (length (lsda ++ code) + 17) < 0xfffffff0 → IsSome (rows_after frame.ops) → AsLines (from_start address frame) 0 frame.ops code
    → row_of (common_entry (form_of frame) pointer)
    (low_bytes Four count ++ (low_bytes Four back ++ (low_bytes Four first ++ (low_bytes Four range ++ (length lsda ∷ (lsda ++ code)))))) at ≡ row_meant address frame at
made_reads reads address here common end frame pointer lsda at count back first range code reaches sized count_within counts back_within backs first_low ranges low behind ends short run lines =
    let counted : count ≡ length (lsda ++ code) + 13 = omega (arith, count_within, counts, ends, short) in
    let back_is : back ≡ here + 4 - address common = omega (arith, back_within, backs, behind, short) in
    let count_low : count < 2 ^ 32 = omega (arith, counted, short) in
    let back_low : back < 2 ^ 32 = omega (arith, back_is, short) in
    let back_some : 0 < back = omega (arith, back_is, behind) in
    let range_low : range < 2 ^ 32 = omega (arith, ranges, low) in
    let long : length (lsda ++ bytes_of lines.padding 0 lines.lines) ≡ length (lsda ++ code) = sym (ap (λ code. length (lsda ++ code)) lines.written) in
    ap (λ bytes. row_of (common_entry (form_of frame) pointer) bytes at) (entry_written count back first range lsda code counted count_low back_low first_low range_low)
    ∙ ap (λ code. row_of (common_entry (form_of frame) pointer) (entry_bytes back first range lsda code) at) lines.written
    ∙ reads (form_of frame) pointer lsda at lines.padding back first range lines.lines reaches sized lines.are back_low back_some first_low range_low (omega (arith, long, short))
    ∙ ap (λ (range : ℕ). row_due at range lines.lines) ranges
    ∙ ap (λ (ops : List Placed). if nat_lt at (from_start address frame (stop_of frame)) then row_after common_row at ops (start_rows common_row) else None) lines.placed
    ∙ ap (λ (row : Option CfaRow). if nat_lt at (from_start address frame (stop_of frame)) then row else None) (meant_row address frame at run)

pub entries_read : AdvancesHold → EntriesReadBack → EntriesRead
entries_read hold reads address here common end log frame [] pointer at entry is = absurd entry.made
entries_read hold reads address here common end log frame (count ∷ []) pointer at entry is = absurd entry.made.1
entries_read hold reads address here common end log frame (count ∷ back ∷ []) pointer at entry is = absurd entry.made.1.1
entries_read hold reads address here common end log frame (count ∷ back ∷ first ∷ []) pointer at entry is = absurd entry.made.1.1.1
entries_read hold reads address here common end log frame (count ∷ back ∷ first ∷ range ∷ []) pointer at entry is = absurd entry.made.1.1.1.1
entries_read hold reads address here common end log frame (count ∷ back ∷ first ∷ range ∷ size ∷ mades) pointer at entry is =
    let section : ℕ = frame.section in
    let ops : List Piece = op_pieces frame.section log frame.start frame.ops in
    let lsda = split_pointer address _ frame.lsda ops mades entry.made.1.1.1.1.1 in
    let code : List ℕ = pieces_bytes ops lsda.later in
    let rest : List ℕ = pieces_bytes (with_pointer frame.lsda ops) mades in
    let words : ℕ → List ℕ → List ℕ = λ size rest. low_bytes Four count.value ++ (low_bytes Four back.value ++ (low_bytes Four first.value ++ (low_bytes Four range.value ++ (size ∷ rest)))) in
    let counts : IsSpan address here (record { to = At end; from = Here; plus = 2 ^ 64 - 4 }) count.value = entry.made.0 in
    let backs : IsSpan address (here + length (low_bytes Four count.value)) (record { to = Here; from = At common; plus = 0 }) back.value = entry.made.1.0 in
    let ranges = entry.made.1.1.1.0 in
    let long : length (words (size_if (encoding_if frame.lsda)) rest) ≡ length (lsda.bytes ++ code) + 17 =
    entry_length count.value back.value first.value range.value (size_if (encoding_if frame.lsda)) rest ∙ ap (λ rest. length rest + 17) lsda.all in
    let rises : stands_at address frame.section frame.start ≤ stands_at address frame.section (stop_of frame) =
    rise_ends address frame.section frame.start frame.ops (stop_of frame) entry.rise in
    let far : range.value ≡ stands_at address frame.section (stop_of frame) - stands_at address frame.section frame.start =
    span_value range.value (stands_at address frame.section frame.start) (stands_at address frame.section (stop_of frame)) ranges.within ranges.spans rises entry.low in
    let zero_here : stands_at address frame.section frame.start - stands_at address frame.section frame.start ≡ 0 = omega arith in
    let lines = ops_lines address frame.section log (stands_at address frame.section frame.start) hold frame.start frame.ops (stop_of frame) (omega arith) entry.rise
    entry.low entry.whole.sound.written lsda.place lsda.later lsda.made in
    let from_zero : AsLines (from_start address frame) 0 frame.ops code =
    subst (λ (n : ℕ). AsLines (from_start address frame) n frame.ops code) zero_here lines in
    ap (λ rest. row_of (common_entry (form_of frame) pointer) (words (size_if (encoding_if frame.lsda)) rest) at) lsda.all
    ∙ ap (λ size. row_of (common_entry (form_of frame) pointer) (words size (lsda.bytes ++ code)) at) (sym lsda.sized)
    ∙ made_reads reads address here common end frame pointer lsda.bytes at count.value back.value first.value range.value code is lsda.sized counts.within counts.spans backs.within
    (ap (λ n. wrapped (back.value + address common)) (low_length count.value) ∙ backs.spans ∙ ap (λ n. wrapped (here + n + 0)) (low_length count.value))
    entry.made.1.1.0 far entry.low entry.behind (entry.ends ∙ ap (λ n. here + n) long) (subst (λ (n : ℕ). here + n < 0xfffffff0) long entry.short) entry.whole.sound.run from_zero
