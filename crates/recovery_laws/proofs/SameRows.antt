-- The rows of a procedure hang on the addresses of places of its section alone.
use Rattle.std.proofs.Common.{◌≡◌, ◌-◌, ◌+◌, ℕ, nat_lt, nat_le, cond, List, [], ◌∷◌, None, Some, refl, sym, ap, ◌∙◌}
use Rattle.std.specs.Prelude.{slice_get}
use Rattle.std.specs.Option.{option_map, option_map_or}
use Rattle.asm_base.specs.declared.places.Place.{Place}
use Rattle.asm_base.specs.declared.places.SectionPlace.{SectionPlace}
use Rattle.asm_frags.specs.SectionOf.{SectionOf}
use Rattle.asm_relax.specs.Placing.{shift_of}
use Rattle.asm_relax.specs.Settling.{LaidItem, LaidSections}
use Rattle.cfi_rows.specs.Rows.{Rows}
use Rattle.cfi_directives.specs.declared.frames.Frame.{Frame}
use Rattle.cfi_directives.specs.declared.frames.PlacedOp.{PlacedOp}
use Rattle.cfi_directives.specs.Meant.{stands_at, from_start, ops_up_to, row_meant, stop_of}
use Rattle.cfi_directives.specs.Rows.{rows_after}
use Rattle.elf_object.specs.Places.{moved}
use Rattle.piece_laws.specs.LaidTables.{place_address}
use Rattle.function_laws.specs.Tabled.{laid_address}

module _ (one other : SectionPlace → ℕ) (frame : Frame) (same : (place : Place) → stands_at one frame.section place ≡ stands_at other frame.section place) where
  distance_same : (place : Place) → from_start one frame place ≡ from_start other frame place
  distance_same place = ap (λ n. n - stands_at one frame.section frame.start) (same place) ∙ ap (λ n. stands_at other frame.section place - n) (same frame.start)

  ops_same : (at : ℕ) (ops : List PlacedOp) → ops_up_to one frame at ops ≡ ops_up_to other frame at ops
  ops_same at [] = refl
  ops_same at (placed ∷ ops) =
      ap (λ n. cond (nat_le n at) (placed ∷ ops_up_to one frame at ops) []) (distance_same placed.place)
      ∙ ap (λ (rest : List PlacedOp). cond (nat_le (from_start other frame placed.place) at) (placed ∷ rest) []) (ops_same at ops)

  pub rows_same : (at : ℕ) → row_meant one frame at ≡ row_meant other frame at
  rows_same at =
      ap (λ n. cond (nat_lt at n) (option_map (λ (rows : Rows). rows.row) (rows_after (ops_up_to one frame at frame.ops))) None) (distance_same (stop_of frame))
      ∙ ap (λ (ops : List PlacedOp). cond (nat_lt at (from_start other frame (stop_of frame))) (option_map (λ (rows : Rows). rows.row) (rows_after ops)) None)
      (ops_same at frame.ops)

-- in a section that is there places have one address
pub addresses_same : (laid : LaidSections) (number : ℕ) (section : SectionOf LaidItem) → slice_get laid number ≡ Some section
    → (place : Place) → stands_at (place_address laid) number place ≡ stands_at (laid_address laid) number place
addresses_same laid number section there place =
    ap (λ found. option_map_or (λ (s : SectionOf LaidItem). moved s.items place.item place.offset) found 0) there
    ∙ sym (ap (λ found. place.offset + shift_of place.item 0 (option_map_or (λ (s : SectionOf LaidItem). s.items) found [])) there)
