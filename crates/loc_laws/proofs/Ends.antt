-- Where sections end, and what stays where they grow.
use Rattle.std.proofs.Common.{◌≡◌, ℕ, false, List, [], ◌∷◌, ◌++◌, Option, None, Some, length, refl, sym, ap, subst, arith, length-append}
use Rattle.std.specs.Prelude.{IsSomeAnd, slice_get}
use Rattle.std.specs.Option.{option_map_or}
use Rattle.asm_base.specs.declared.places.Place.{Place}
use Rattle.asm_frags.specs.Writing.{LooseSection, takes_zeros_alone}
use Rattle.asm_uses.specs.Places.{spot_in, no_spot, spot_at}
use Rattle.asm_values.specs.State.{Placed, here}
use Rattle.asm_place.specs.Instructions.{Grows, next_offset}
use Rattle.asm_place.specs.JumpPlaces.{items_so_far}
use Rattle.asm_place.specs.LinePlaces as placing
use Rattle.line_directives.specs.Meanings.{RowAt}
use Rattle.line_directives.specs.Order.{IsUpTo, RowsRise}
use Rattle.line_directives.specs.Taking.{LineDirective, numbered_file, loc}
use Rattle.line_table.specs.Sequences.{place_in, end_in}
use Rattle.line_laws.specs.PlacedLines.{RowStands}
use Rattle.table_pieces.specs.declared.ends.SectionEnd.{SectionEnd}
use Rattle.table_pieces.specs.Ends.{run_end, no_end, end_of}

-- ENDS

pub end_there : (section : ℕ) (sections : List LooseSection) (held : LooseSection) → slice_get sections section ≡ Some held
    → end_in section sections ≡ record { item = length held.items; offset = length held.bytes }
unfolding end_of
end_there section sections held there =
    ap (λ (end : SectionEnd). record { item = end.items; offset = end.bytes }) (ap (λ found. option_map_or run_end found no_end) there)

-- the end of a section is where the next statement puts
pub spot_end : (section : ℕ) (sections : List LooseSection) → placing.end_in sections section ≡ end_in section sections
unfolding spot_at end_of
spot_end section sections = by (slice_get sections section)
  where
    by : (found : Option LooseSection) → (option_map_or (spot_in section) found (no_spot section)).place.place
        ≡ record { item = (option_map_or run_end found no_end).items; offset = (option_map_or run_end found no_end).bytes }
    by None = refl
    by (Some held) = refl

pub here_end : (placed : Placed) → (here placed).place ≡ place_in placed.current (end_in placed.current placed.sections)
unfolding spot_at end_of
here_end placed = by (slice_get placed.sections placed.current)
  where
    by : (found : Option LooseSection) → (option_map_or (spot_in placed.current) found (no_spot placed.current)).place
        ≡ place_in placed.current (record { item = (option_map_or run_end found no_end).items; offset = (option_map_or run_end found no_end).bytes })
    by None = refl
    by (Some held) = refl

pub end_is : (placed : Placed) → end_in placed.current placed.sections ≡ record { item = items_so_far placed; offset = next_offset placed }
unfolding end_of
end_is placed = by (slice_get placed.sections placed.current)
  where
    by : (found : Option LooseSection) → ◌≡◌ {A = Place} (record { item = (option_map_or run_end found no_end).items; offset = (option_map_or run_end found no_end).bytes })
        (record {
          item = option_map_or (λ (section : LooseSection). length section.items) found 0;
          offset = option_map_or (λ (section : LooseSection). length section.bytes) found 0;
        })
    by None = refl
    by (Some held) = refl

-- SECTIONS THAT GROW

pub up_to_on : (one two three : Place) → IsUpTo one two → IsUpTo two three → IsUpTo one three
up_to_on one two three first later = (omega (arith, first.0, later.0), omega (arith, first.1, later.1))

abbrev end_by : Option LooseSection → Place
end_by found = record { item = (option_map_or run_end found no_end).items; offset = (option_map_or run_end found no_end).bytes }

-- sections end where they ended, or behind it
pub ends_grow : (before after : List LooseSection) → Grows before after → (section : ℕ) → IsUpTo (end_in section before) (end_in section after)
unfolding end_of
ends_grow before after grows section = by (slice_get before section) refl
  where
    by : (found : Option LooseSection) → slice_get before section ≡ found → IsUpTo (end_by found) (end_by (slice_get after section))
    by None is = (omega arith, omega arith)
    by (Some held) is =
        let more = grows.kept section held is in
        subst (λ (later : Option LooseSection). IsUpTo (end_by (Some held)) (end_by later)) (sym more.there)
        (omega (arith, length-append held.items more.items), omega (arith, length-append held.bytes more.bytes))

-- a section that takes bytes does so behind more
pub takes_stay : (before after : List LooseSection) → Grows before after → (section : ℕ) → IsSomeAnd (slice_get before section) (λ held. takes_zeros_alone held ≡ false)
    → IsSomeAnd (slice_get after section) (λ held. takes_zeros_alone held ≡ false)
takes_stay before after grows section = by (slice_get before section) refl
  where
    by : (found : Option LooseSection) → slice_get before section ≡ found → IsSomeAnd found (λ (held : LooseSection). takes_zeros_alone held ≡ false)
        → IsSomeAnd (slice_get after section) (λ (held : LooseSection). takes_zeros_alone held ≡ false)
    by None is none = absurd none
    by (Some held) is takes =
        let more = grows.kept section held is in
        subst (λ (later : Option LooseSection). IsSomeAnd later (λ (held : LooseSection). takes_zeros_alone held ≡ false)) (sym more.there) takes

-- and so stand the rows of what was placed
pub row_stands : (before after : List LooseSection) → Grows before after → (directive : LineDirective) → placing.RowStands before directive → RowStands after directive
row_stands before after grows (numbered_file pos number directory name) stands = tt
row_stands before after grows (loc line at) stands = takes_stay before after grows at.section stands

pub row_stays : (before after : List LooseSection) → Grows before after → (directive : LineDirective) → RowStands before directive → RowStands after directive
row_stays before after grows (numbered_file pos number directory name) stands = tt
row_stays before after grows (loc line at) stands = takes_stay before after grows at.section stands

-- ROWS THAT RISE

-- rows that rise from a place rise from one before it
pub rise_from : (before from to : Place) (rows : List RowAt) → IsUpTo before from → RowsRise from rows to → RowsRise before rows to
rise_from before from to [] up rise = up_to_on before from to up rise
rise_from before from to (row ∷ rows) up rise = (up_to_on before from row.0 up rise.0, rise.1)

-- and up to one behind it
pub rise_to : (from to behind : Place) (rows : List RowAt) → RowsRise from rows to → IsUpTo to behind → RowsRise from rows behind
rise_to from to behind [] rise up = up_to_on from to behind rise up
rise_to from to behind (row ∷ rows) rise up = (rise.0, rise_to row.0 to behind rows rise.1 up)

-- and others behind them
pub rise_on : (from between to : Place) (rows others : List RowAt) → RowsRise from rows between → RowsRise between others to → RowsRise from (rows ++ others) to
rise_on from between to [] others first later = rise_from from between to others first later
rise_on from between to (row ∷ rows) others first later = (first.0, rise_on row.0 between to rows others first.1 later)

-- the place before rows that rise is up to the end
pub up_to_end : (last : Place) (rows : List RowAt) (end : Place) → RowsRise last rows end → IsUpTo last end
up_to_end last [] end rise = rise
up_to_end last (row ∷ rows) end rise = up_to_on last row.0 end rise.0 (up_to_end row.0 rows end rise.1)
