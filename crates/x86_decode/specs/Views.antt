-- What the program holds, as the definitions have it.
use Rattle.std.specs.Prelude.{◌≡◌, ℕ, List, Some, true, length, slice_get}
use Rattle.x86_table.specs.declared.forms.Map.{Map}
use Rattle.x86_table.specs.declared.forms.Row.{Row}
use Rattle.x86_table.specs.Rows.{the_rows}
use Rattle.x86_table.specs.Bytes.{bytes_of}
use Rattle.x86_table.specs.Fits.{fits}
use Rattle.x86_table.specs.Reads.{meaning, is_known, is_known_place}
use Rattle.x86_table.specs.Fields.{Fields, located, fields_of}
use Rattle.x86_decode.specs.declared.heads.Head.{Head as Held}
use Rattle.x86_decode.specs.declared.places.Numbered.{Numbered as HeldNumber}
use Rattle.x86_decode.specs.declared.places.Placed.{Placed as HeldPlace}
use Rattle.x86_decode.specs.declared.field_readings.Shaped.{Shaped as HeldShape}
use Rattle.x86_decode.specs.declared.fronts.Front.{Front as HeldFront}
use Rattle.x86_decode.specs.Decoding.{Front}
use Rattle.x86_decode.specs.Admitting.{admits}
use Rattle.x86_decode.specs.Slots.{IsInTable}
use Rattle.x86_decode.specs.Heads.{Head}
use Rattle.x86_decode.specs.FieldReadings.{Shaped}
use Rattle.x86_decode.specs.Places.{Numbered, Placed}

-- the head that is held
abbrev pub shown_head : Held → Head
shown_head held = record { first = held.first; size = held.size; repeat = held.repeat; lock = held.lock; rex = held.rex; rest = held.rest.now }

-- the number that is held
abbrev pub shown_number : HeldNumber → Numbered
shown_number held = record { value = held.value; rest = held.rest.now }

-- the place that is held
abbrev pub shown_place : HeldPlace → Placed
shown_place held = record { place = located (Some held.displacement) held.place; rest = held.rest.now }

-- the registers that are held
abbrev pub shown_shape : HeldShape → Shaped
shown_shape held = record { reg = held.reg; low = held.low; place = located (Some held.displacement) held.place; rest = held.rest.now }

-- the instruction that is held
abbrev pub shown_front : HeldFront → Front
shown_front held = record { insn = meaning held.row.now (fields_of held.parts); len = held.len }

-- its numbers stand
pub record IsKnown (p : Fields) : Type 0 where
  pub held : is_known p.held ≡ true
  pub place : is_known_place p.place ≡ true

-- it is of the row of the table that has its number, and of fields that fit it; it has as many bytes as these, and its numbers are known
pub record IsOfRow (held : HeldFront) : Type 0 where
  pub there : IsInTable held.row.now
  pub numbered : slice_get the_rows held.number ≡ Some held.row.now
  pub fit : fits held.row.now (fields_of held.parts) ≡ true
  pub counted : held.len ≡ length (bytes_of held.row.now (fields_of held.parts))
  pub known : IsKnown (fields_of held.parts)

-- the row is one of the table that admits the head
pub record IsAdmitted (m : Map) (h : Head) (o : ℕ) (tail : List ℕ) (r : Row) : Type 0 where
  pub there : IsInTable r
  pub admitted : admits m h o tail r ≡ true
