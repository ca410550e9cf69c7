-- Rows as they are kept.
use Rattle.asm_levels.specs.declared.distances.Distance.TheVariants.{Between}
use Rattle.asm_levels.specs.declared.rows.Row.{Row}
use Rattle.asm_levels.specs.declared.rows.RowSize.TheVariants as size
use Rattle.asm_levels.specs.declared.packing.Held.{Held}
use Rattle.asm_levels.specs.declared.packing.Held.TheVariants.{Fixed, Align, Jump, Leb128, Advance, End, Other}

-- the row that is kept in this way
abbrev pub unpacked : Held → Row
unpacked (Fixed offset bytes) = record { offset = offset; size = size.Fixed bytes }
unpacked (Align log offset most) = record { offset = offset; size = size.Align log most }
unpacked (Jump conditional offset ahead behind number) = record { offset = offset; size = size.Jump conditional (Between number ahead behind) }
unpacked (Leb128 signed offset ahead behind number) = record { offset = offset; size = size.Leb128 signed (Between number ahead behind) }
unpacked (Advance offset ahead behind number) = record { offset = offset; size = size.Advance (Between number ahead behind) }
unpacked (End offset) = record { offset = offset; size = size.End }
unpacked (Other row) = row.value
