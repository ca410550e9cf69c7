-- The line table of what is placed: its rows stand in sections that take bytes, each behind those before it.
use Rattle.std.specs.Prelude.{◌≡◌, ℕ, false, List, Ok, All, IsSomeAnd, slice_get}
use Rattle.asm_base.specs.declared.places.Place.{Place}
use Rattle.asm_frags.specs.Writing.{LooseSection, takes_zeros_alone}
use Rattle.asm_uses.specs.Places.{spot_at}
use Rattle.asm_values.specs.State.{Placed}
use Rattle.line_directives.specs.Meanings.{rows_in}
use Rattle.line_directives.specs.Order.{RowsRise, IsInRange}
use Rattle.line_directives.specs.Taking.{LineDirective, numbered_file, loc, taken_from}

-- the end of the section of this number: behind its items and plain bytes
abbrev pub end_in : List LooseSection → ℕ → Place
end_in sections number = (spot_at sections number).place.place

-- a row stands in a section that is there and takes bytes
abbrev pub RowStands : List LooseSection → LineDirective → Type 0
RowStands sections (numbered_file pos number directory name) = Unit {0}
RowStands sections (loc line at) = IsSomeAnd (slice_get sections at.section) (λ held. takes_zeros_alone held ≡ false)

-- the line table of what was placed, with directives more: their numbers are in their ranges, their rows stand in sections that take bytes, and those of
-- each section rise from where it ended up to where it ends
pub record LinesFollow (before after : Placed) : Type 0 where
  pub directives : List LineDirective
  pub taken : taken_from before.lines directives ≡ Ok after.lines
  pub fit : All IsInRange directives
  pub stand : All (RowStands after.sections) directives
  pub rise : (number : ℕ) → RowsRise (end_in before.sections number) (rows_in number before.lines.is_stmt before.lines.isa directives) (end_in after.sections number)
