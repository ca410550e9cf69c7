-- The row that directives mean is that behind the instructions up to there.
use Rattle.std.proofs.Common.{◌≡◌, ℕ, ◌<◌, ◌≤◌, nat_lt, nat_le, Bool, true, false, List, [], ◌∷◌, ◌++◌, map, Option, None, Some, if◌then◌else◌, refl, sym, ◌∙◌, ap, subst, arith}
use Rattle.std.specs.Prelude.{All, IsSome}
use Rattle.std.specs.Option.{option_map, option_and_then}
use Rattle.std.proofs.lemmas.List.Elements.{All-nil, All-cons, All-head, All-tail}
use Rattle.cfi_rows.specs.declared.rows.CfaRow.{CfaRow}
use Rattle.cfi_rows.specs.declared.rows.CfiOp.{CfiOp}
use Rattle.cfi_entries.specs.Places as placing
use Rattle.cfi_rows.specs.Rows.{Rows, common_row, changed, start_rows, ops_after}
use Rattle.cfi_directives.specs.declared.frames.Frame.{Frame}
use Rattle.cfi_directives.specs.declared.frames.PlacedOp.{PlacedOp}
use Rattle.asm_base.specs.declared.places.Place.{Place}
use Rattle.asm_base.specs.declared.places.SectionPlace.{SectionPlace}
use Rattle.cfi_directives.specs.Meant.{stop_of, from_start, ops_up_to, row_meant, AreSplit, KeepsOrder}
use Rattle.cfi_directives.specs.Order.{IsUpTo, NeverFall, op_places}
use Rattle.cfi_directives.specs.Rows.{rows_after, at_addresses}
use Rattle.cfi_directives.specs.Sound.{IsSound}
use Rattle.cfi_directives.proofs.AddressLemmas.{addressed_rows}

is_up_to : (place at : ℕ) → place ≤ at → nat_le place at ≡ true
is_up_to place at up = grind arith

is_past : (place at : ℕ) → at < place → nat_le place at ≡ false
is_past place at past = grind arith

is_before : (at stop : ℕ) → at < stop → nat_lt at stop ≡ true
is_before at stop before = grind arith

is_behind : (at stop : ℕ) → stop ≤ at → nat_lt at stop ≡ false
is_behind at stop behind = grind arith

test_up_to : (place at : ℕ) → nat_le place at ≡ true → place ≤ at
test_up_to place at up = grind arith

test_past : (place at : ℕ) → nat_le place at ≡ false → at < place
test_past place at past = grind arith

some_row : (rows : Option Rows) → IsSome rows → IsSome (option_map (λ rows. rows.row) rows)
some_row None is = is
some_row (Some rows) is = refl

behind_some : (row : Option CfaRow) (all : Option Rows) → IsSome all → option_and_then (λ _. row) all ≡ row
behind_some row None is = absurd (let none : ⊥ = cc in none)
behind_some row (Some rows) is = refl

-- the order of the places behind the first
fall_still : (first : Place) (places : List Place) → NeverFall (first ∷ places) → NeverFall places
fall_still first [] falls = tt
fall_still first (second ∷ places) falls = falls.1

abbrev op_of : PlacedOp → CfiOp
op_of placed = placed.op

abbrev place_of : PlacedOp → Place
place_of placed = placed.place

module _ (address : SectionPlace → ℕ) (frame : Frame) where
  abbrev far : PlacedOp → ℕ
  far placed = from_start address frame placed.place

  -- where all of them can be run, those up to a place can
  first_runs : (b : Bool) (placed : PlacedOp) (ops some : List PlacedOp) (rows : Rows)
      → ((rows : Rows) → IsSome (ops_after common_row (map op_of ops) rows) → IsSome (ops_after common_row (map op_of some) rows))
      → IsSome (ops_after common_row (map op_of (placed ∷ ops)) rows) → IsSome (ops_after common_row (map op_of (if b then (placed ∷ some) else [])) rows)
  first_runs false placed ops some rows below run = refl
  first_runs true placed ops some rows below run = by (changed common_row placed.op rows) run
    where
      by : (next : Option Rows) → IsSome (option_and_then (ops_after common_row (map op_of ops)) next)
          → IsSome (option_and_then (ops_after common_row (map op_of some)) next)
      by None run = run
      by (Some next) run = below next run

  up_to_run : (at : ℕ) (ops : List PlacedOp) (rows : Rows) → IsSome (ops_after common_row (map op_of ops) rows)
      → IsSome (ops_after common_row (map op_of (ops_up_to address frame at ops)) rows)
  up_to_run at [] rows run = run
  up_to_run at (placed ∷ ops) rows run = first_runs (nat_le (far placed) at) placed ops (ops_up_to address frame at ops) rows (up_to_run at ops) run

  -- the row before the end of the procedure
  meant : (at : ℕ) → at < from_start address frame (stop_of frame)
      → row_meant address frame at ≡ option_map (λ rows. rows.row) (rows_after (ops_up_to address frame at frame.ops))
  meant at before =
      ap (λ b. if b then option_map (λ rows. rows.row) (rows_after (ops_up_to address frame at frame.ops)) else None)
      (is_before at (from_start address frame (stop_of frame)) before)

  -- those up to a place, where the others are past it
  up_to_are : (at : ℕ) (before past : List PlacedOp) → All (λ placed. far placed ≤ at) before → All (λ placed. at < far placed) past
      → ops_up_to address frame at (before ++ past) ≡ before
  up_to_are at [] [] up beyond = refl
  up_to_are at [] (placed ∷ past) up beyond =
      ap (λ b. if b then placed ∷ ops_up_to address frame at past else []) (is_past (far placed) at (All-head (λ placed. at < far placed) placed past beyond))
  up_to_are at (placed ∷ before) past up beyond =
      ap (λ b. if b then placed ∷ ops_up_to address frame at (before ++ past) else []) (is_up_to (far placed) at (All-head (λ placed. far placed ≤ at) placed before up))
      ∙ ap (λ rest. placed ∷ rest) (up_to_are at before past (All-tail (λ placed. far placed ≤ at) placed before up) beyond)

  -- a place that is not before another is not less far from the start
  far_on : (first second : Place) → KeepsOrder address frame.section → IsUpTo first second → from_start address frame first ≤ from_start address frame second
  far_on first second keeps up = let on = keeps first second up in omega (arith, on)

  all_past : (at : ℕ) (first : PlacedOp) (ops : List PlacedOp) → KeepsOrder address frame.section → at < far first
      → NeverFall (first.place ∷ map place_of ops) → All (λ placed. at < far placed) ops
  all_past at first [] keeps past falls = All-nil (λ placed. at < far placed)
  all_past at first (second ∷ ops) keeps past falls =
      let on = far_on first.place second.place keeps falls.0 in
      let also : at < far second = omega (arith, on, past) in
      All-cons (λ placed. at < far placed) second ops also (all_past at second ops keeps also falls.1)

  -- the instructions up to a place, and the others
  record Split (at : ℕ) (ops some : List PlacedOp) : Type 0 where
    pub past : List PlacedOp
    pub all : ops ≡ some ++ past
    pub up_to : All (λ placed. far placed ≤ at) some
    pub beyond : All (λ placed. at < far placed) past

  split_first : (b : Bool) (at : ℕ) (placed : PlacedOp) (ops : List PlacedOp) → KeepsOrder address frame.section
      → nat_le (far placed) at ≡ b → NeverFall (placed.place ∷ map place_of ops) → Split at ops (ops_up_to address frame at ops)
      → Split at (placed ∷ ops) (if b then placed ∷ ops_up_to address frame at ops else [])
  split_first true at placed ops keeps test falls rest = record {
    past = rest.past;
    all = ap (λ ops. placed ∷ ops) rest.all;
    up_to = All-cons (λ placed. far placed ≤ at) placed (ops_up_to address frame at ops) (test_up_to (far placed) at test) rest.up_to;
    beyond = rest.beyond;
  }
  split_first false at placed ops keeps test falls rest =
      let past = test_past (far placed) at test in record {
        past = placed ∷ ops;
        all = refl;
        up_to = All-nil (λ placed. far placed ≤ at);
        beyond = All-cons (λ placed. at < far placed) placed ops past (all_past at placed ops keeps past falls);
      }

  split_all : (at : ℕ) (ops : List PlacedOp) → KeepsOrder address frame.section → NeverFall (map place_of ops) → Split at ops (ops_up_to address frame at ops)
  split_all at [] keeps falls = record { past = []; all = refl; up_to = All-nil (λ placed. far placed ≤ at); beyond = All-nil (λ placed. at < far placed) }
  split_all at (placed ∷ ops) keeps falls =
      split_first (nat_le (far placed) at) at placed ops keeps refl falls (split_all at ops keeps (fall_still placed.place (map place_of ops) falls))

  -- those up to a place, each with its address
  up_to_if : (b : Bool) (placed : PlacedOp) (ops : List PlacedOp) (rest : List placing.Placed) → rest ≡ at_addresses (from_start address frame) ops
      → (if b then ((far placed, placed.op) ∷ rest) else []) ≡ at_addresses (from_start address frame) (if b then (placed ∷ ops) else [])
  up_to_if true placed ops rest is = ap (λ rest. (far placed, placed.op) ∷ rest) is
  up_to_if false placed ops rest is = refl

  placed_up_to : (at : ℕ) (ops : List PlacedOp)
      → placing.up_to at (at_addresses (from_start address frame) ops) ≡ at_addresses (from_start address frame) (ops_up_to address frame at ops)
  placed_up_to at [] = refl
  placed_up_to at (placed ∷ ops) =
      up_to_if (nat_le (far placed) at) placed (ops_up_to address frame at ops) (placing.up_to at (at_addresses (from_start address frame) ops)) (placed_up_to at ops)

pub has_row : (address : SectionPlace → ℕ) (frame : Frame) (at : ℕ) → IsSound frame → at < from_start address frame (stop_of frame)
    → IsSome (row_meant address frame at)
has_row address frame at sound before =
    subst (λ (row : Option CfaRow). IsSome row) (sym (meant address frame at before))
    (some_row (rows_after (ops_up_to address frame at frame.ops)) (up_to_run address frame at frame.ops (start_rows common_row) sound.run))

pub row_there : (address : SectionPlace → ℕ) (frame : Frame) (at : ℕ) (before past : List PlacedOp) → AreSplit address frame at before past
    → at < from_start address frame (stop_of frame) → row_meant address frame at ≡ option_map (λ rows. rows.row) (rows_after before)
row_there address frame at before past split within =
    meant address frame at within
    ∙ ap (λ ops. option_map (λ rows. rows.row) (rows_after (ops_up_to address frame at ops))) split.all
    ∙ ap (λ ops. option_map (λ rows. rows.row) (rows_after ops)) (up_to_are address frame at before past split.up_to split.beyond)

pub has_ended : (address : SectionPlace → ℕ) (frame : Frame) (at : ℕ) → from_start address frame (stop_of frame) ≤ at → row_meant address frame at ≡ None
has_ended address frame at behind =
    ap (λ b. if b then option_map (λ rows. rows.row) (rows_after (ops_up_to address frame at frame.ops)) else None)
    (is_behind at (from_start address frame (stop_of frame)) behind)

pub are_split : (address : SectionPlace → ℕ) (frame : Frame) (at : ℕ) → KeepsOrder address frame.section → NeverFall (op_places frame)
    → (past : List PlacedOp) × AreSplit address frame at (ops_up_to address frame at frame.ops) past
are_split address frame at keeps falls =
    let split = split_all address frame at frame.ops keeps (fall_still frame.start (map place_of frame.ops) falls) in
    (split.past, record { all = split.all; up_to = split.up_to; beyond = split.beyond })

pub addressed_row : (address : SectionPlace → ℕ) (frame : Frame) (at : ℕ) → IsSound frame → at < from_start address frame (stop_of frame)
    → row_meant address frame at ≡ placing.row_after common_row at (at_addresses (from_start address frame) frame.ops) (start_rows common_row)
addressed_row address frame at sound before =
    meant address frame at before
    ∙ ap (option_map (λ rows. rows.row)) (sym (addressed_rows (from_start address frame) (ops_up_to address frame at frame.ops)))
    ∙ ap (λ (ops : List placing.Placed). option_map (λ rows. rows.row) (placing.rows_after common_row ops (start_rows common_row))) (sym (placed_up_to address frame at frame.ops))
    ∙ sym (behind_some (option_map (λ rows. rows.row) (placing.rows_after common_row (placing.up_to at (at_addresses (from_start address frame) frame.ops)) (start_rows common_row)))
    (placing.rows_after common_row (at_addresses (from_start address frame) frame.ops) (start_rows common_row))
    (subst (λ (all : Option Rows). IsSome all) (sym (addressed_rows (from_start address frame) frame.ops)) sound.run))
