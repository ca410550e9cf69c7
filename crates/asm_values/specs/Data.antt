-- What data and space place.
use Rattle.std.specs.Prelude.{ℕ, ◌%◌, ◌^◌, nat_le, Bool, true, false, List, replicate, unwrap_or, Result, Ok}
use Rattle.std.specs.List.{list_any, count_by}
use Rattle.asm_operands.specs.declared.place_faults.PlaceCause.{PlaceCause}
use Rattle.asm_base.specs.declared.positions.Pos.{Pos}
use Rattle.asm_base.specs.Tokens.{SpelledToken}
use Rattle.asm_expr.specs.Forms.{Form}
use Rattle.asm_expr.specs.Trees.{Tree}
use Rattle.item_contents.specs.declared.contents.Content.{Content}
use Rattle.asm_frags.specs.declared.fields.FieldSize.{FieldSize}
use Rattle.asm_symbols.specs.declared.entries.Spot.{Spot}
use Rattle.asm_uses.specs.declared.tables.Naming.{Naming}
use Rattle.asm_base.specs.Refusals.{◌>>=◌}
use Rattle.asm_uses.specs.Tables.{naming_of, allowed}
use Rattle.asm_uses.specs.Places.{uses_place, end_naming}
use Rattle.asm_values.specs.State.{Placed, with_table, with_names, with_notes, here, known_here, put_bytes, push_item}
use Rattle.asm_operands.specs.Operands.{operands_of, each, joined_strings}
use Rattle.asm_operands.specs.Expressions.{expression_of, form_in}
use Rattle.asm_values.specs.KnownOperands.{KnownOperands, known_operands}
use Rattle.asm_values.specs.DataItems.{put_forms, is_cut, cut_notes}
use Rattle.asm_words.specs.Spaces.{space_of, units_of, unit_size}

-- the names of values that were put are allowed or refused, and so many values were cut
abbrev pub end_data : Pos → Naming → Spot → Bool → ℕ → Placed → Result Placed PlaceCause
end_data pos naming spot keeps cut put =
    end_naming pos naming spot keeps put.table >>= λ table. Ok (with_notes (cut_notes pos cut) (with_table put table))

-- all values one after the other, of which those that are not known are fields, and a note for each that does not fit
unfoldable pub put_data : Pos → FieldSize → Naming → List Form → Placed → Result Placed PlaceCause
put_data pos size naming forms named =
    put_forms pos size forms named >>= λ put.
    end_naming pos naming (here named) (list_any (uses_place (known_here named).place) forms) put.table >>= λ table.
    Ok (with_notes (cut_notes pos (count_by (is_cut size) forms)) (with_table put table))

-- data of these expressions, each of whose names has a symbol
abbrev pub data_of : Pos → FieldSize → List Tree → Naming → Placed → Result Placed PlaceCause
data_of pos size trees naming named = each (form_in (known_here named)) trees >>= λ forms. put_data pos size naming forms named

-- the names of the expressions become symbols, and then the same
abbrev pub data_read : Pos → FieldSize → List Tree → Placed → Result Placed PlaceCause
data_read pos size trees placed = data_of pos size trees (naming_of trees placed.table) (with_names pos trees placed)

-- `.byte` and the others: all operands are read before a form is made
unfoldable pub place_data : Pos → FieldSize → List SpelledToken → Placed → Result Placed PlaceCause
place_data pos size tokens placed = each expression_of (operands_of tokens) >>= λ trees. data_read pos size trees placed

-- `.ascii` and the others: the bytes of all strings, each with a zero byte behind it where that is asked for
unfoldable pub place_strings : Pos → Bool → List SpelledToken → Placed → Result Placed PlaceCause
place_strings pos ended tokens placed = joined_strings ended (operands_of tokens) >>= λ bytes. put_bytes pos bytes placed

-- so many bytes of a value last in the current section: few of them beside the plain bytes there, more as an item
abbrev pub put_space_by : Bool → Pos → ℕ → ℕ → Placed → Result Placed PlaceCause
put_space_by true pos count value placed = put_bytes pos (replicate count (value % 2 ^ 8)) placed
put_space_by false pos count value placed = space_of count value >>= λ item. push_item pos item placed

-- few are at most 16
abbrev pub put_space : Pos → ℕ → ℕ → Placed → Result Placed PlaceCause
put_space pos count value placed = put_space_by (nat_le count 16) pos count value placed

-- the same, and then the names of the operands are allowed or refused
abbrev pub with_filled : Pos → KnownOperands → ℕ → ℕ → Result Placed PlaceCause
with_filled pos given count value =
    put_space pos count value given.placed >>= λ filled. allowed given.naming filled.table >>= λ table. Ok (with_table filled table)

-- the item is put, and then the names of its operands are allowed or refused
abbrev pub with_named : Pos → Naming → Content → Placed → Result Placed PlaceCause
with_named pos naming item named = push_item pos item named >>= λ pushed. allowed naming pushed.table >>= λ table. Ok (with_table pushed table)

-- the same, by the operands that were read
abbrev pub with_item : Pos → KnownOperands → Content → Result Placed PlaceCause
with_item pos given item = with_named pos given.naming item given.placed

-- `.zero`
unfoldable pub place_zero : Pos → List SpelledToken → Placed → Result Placed PlaceCause
place_zero pos tokens placed =
    known_operands pos placed 1 (operands_of tokens) >>= λ given. with_filled pos given given.values.first 0

-- `.skip`, `.space`
unfoldable pub place_skip : Pos → List SpelledToken → Placed → Result Placed PlaceCause
place_skip pos tokens placed =
    known_operands pos placed 2 (operands_of tokens) >>= λ given. with_filled pos given given.values.first (unwrap_or given.values.second 0)

-- `.fill`
unfoldable pub place_fill : Pos → List SpelledToken → Placed → Result Placed PlaceCause
place_fill pos tokens placed =
    known_operands pos placed 3 (operands_of tokens) >>= λ given. unit_size given.values.second >>= λ size.
    units_of given.values.first size (unwrap_or given.values.third 0) >>= with_item pos given
