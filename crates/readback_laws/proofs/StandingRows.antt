-- The places of the rows of a line table stand in their sections.
use Rattle.std.proofs.Common.{◌≡◌, ℕ, ◌≤◌, ◌==◌, Bool, true, false, cond, List, [], ◌∷◌, All, Option, None, Some, Ok, length, refl, ap, subst, arith}
use Rattle.std.specs.Prelude.{slice_get, IsSomeAnd}
use Rattle.std.specs.Option.{option_map_or}
use Rattle.std.proofs.lemmas.Bool.Decides.{nat_tests}
use Rattle.std.proofs.lemmas.List.Elements.{All-nil, All-cons, All-head, All-tail}
use Rattle.asm_base.specs.declared.places.Place.{Place}
use Rattle.asm_base.specs.declared.places.SectionPlace.{SectionPlace}
use Rattle.asm_frags.specs.Writing.{LooseSection, takes_zeros_alone}
use Rattle.asm_uses.specs.Places.{spot_in, no_spot, spot_at}
use Rattle.line_directives.specs.Meanings.{RowAt, rows_in, rows_of}
use Rattle.line_directives.specs.Order.{RowsRise}
use Rattle.line_directives.specs.Rows.{row_with}
use Rattle.line_directives.specs.Taking.{LineTable, LineDirective, numbered_file, loc, table_of}
use Rattle.line_rows.specs.declared.rows.LineRow.{LineRow}
use Rattle.line_table.specs.StandingLines.{RowPlacesStand}
use Rattle.table_pieces.specs.StandingPlaces.{HoldsItems}
use Rattle.asm_values.specs.State.{Placed, nothing_placed}
use Rattle.asm_place.specs.LinePlaces.{RowStands, end_in, LinesFollow}

-- the directives of a line table, and that the places of their rows stand in the sections
pub record RowsStand (sections : List LooseSection) (lines : LineTable) : Type 0 where
  pub directives : List LineDirective
  pub taken : table_of directives ≡ Ok lines
  pub stand : RowPlacesStand sections directives

-- THE ORDER

rises_up : (from : Place) (rows : List RowAt) (to : Place) → RowsRise from rows to → from.item ≤ to.item
rises_up from [] to rise = rise.0
rises_up from (row ∷ rows) to rise =
    let one = rise.0.0 in
    let rest = rises_up row.0 rows to rise.1 in
    omega (arith, one, rest)

-- no row stands behind the end
all_up : (from : Place) (rows : List RowAt) (to : Place) → RowsRise from rows to → All (λ row. row.0.item ≤ to.item) rows
all_up from [] to rise = All-nil (λ (row : RowAt). row.0.item ≤ to.item)
all_up from (row ∷ rows) to rise =
    All-cons (λ (row : RowAt). row.0.item ≤ to.item) row rows (rises_up row.0 rows to rise.1) (all_up row.0 rows to rise.1)

-- THE SECTION

-- how many items stand before the end of a section that is there
end_items : (sections : List LooseSection) (number : ℕ) (held : LooseSection) → slice_get sections number ≡ Some held → (end_in sections number).item ≡ length held.items
unfolding spot_at
end_items sections number held there =
    ap (λ (found : Option LooseSection). (option_map_or (spot_in number) found (no_spot number)).place.place.item) there

module _ (sections : List LooseSection) (number : ℕ) where
  -- where the section is there, a place up to its end stands in it
  abbrev Stands : RowAt → Type 0
  Stands row = row.0.item ≤ (end_in sections number).item → HoldsItems sections number row.0.item

  there_stands : (found : Option LooseSection) → slice_get sections number ≡ found → IsSomeAnd found (λ held. takes_zeros_alone held ≡ false) → (row : RowAt) → Stands row
  there_stands None there takes row low = absurd takes
  there_stands (Some held) there takes row low =
      let last = end_items sections number held there in
      record { held = held; there = there; enough = omega (arith, low, last) }

  with_row : (test : Bool) (at : SectionPlace) (row : LineRow) (rows : List RowAt) → (at.section == number) ≡ test
      → IsSomeAnd (slice_get sections at.section) (λ held. takes_zeros_alone held ≡ false) → All Stands rows → All Stands (cond test ((at.place, row) ∷ rows) rows)
  with_row false at row rows is takes all = all
  with_row true at row rows is takes all =
      let same : at.section ≡ number = grind (arith, nat_tests) in
      All-cons Stands (at.place, row) rows
      (there_stands (slice_get sections number) refl
      (subst (λ (n : ℕ). IsSomeAnd (slice_get sections n) (λ held. takes_zeros_alone held ≡ false)) same takes) (at.place, row)) all

  -- so do the places of all rows of the section
  all_stand : (is_stmt : Bool) (isa : ℕ) (directives : List LineDirective) → All (RowStands sections) directives → All Stands (rows_in number is_stmt isa directives)
  all_stand is_stmt isa [] stand = All-nil Stands
  all_stand is_stmt isa (numbered_file pos file directory name ∷ directives) stand =
      all_stand is_stmt isa directives (All-tail (RowStands sections) (numbered_file pos file directory name) directives stand)
  all_stand is_stmt isa (loc line at ∷ directives) stand =
      let row = row_with is_stmt isa line in
      with_row (at.section == number) at row (rows_in number row.is_stmt row.isa directives) refl (All-head (RowStands sections) (loc line at) directives stand)
      (all_stand row.is_stmt row.isa directives (All-tail (RowStands sections) (loc line at) directives stand))

-- the rows of all that is placed stand
pub rows_stand : (no_warn : Bool) (whole : Placed) → LinesFollow (nothing_placed no_warn) whole → RowsStand whole.sections whole.lines
rows_stand no_warn whole follow = record {
  directives = follow.directives;
  taken = follow.taken;
  stand = λ number k default within.
      all_stand whole.sections number true 0 follow.directives follow.stand k default within
      (all_up (end_in (nothing_placed no_warn).sections number) (rows_of number follow.directives) (end_in whole.sections number) (follow.rise number) k default within);
}
