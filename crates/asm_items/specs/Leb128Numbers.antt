-- Numbers in groups of seven bits (GNU as manual, ".uleb128", ".sleb128"; DWARF 5, section 7.6).
use Rattle.std.specs.Prelude.{Bool, List, [], ◌∷◌, None, Result, Ok, Err}
use Rattle.std.specs.List.{list_any}
use Rattle.asm_base.specs.declared.positions.Pos.{Pos}
use Rattle.asm_base.specs.Refusals.{◌>>=◌}
use Rattle.asm_base.specs.Tokens.{SpelledToken}
use Rattle.asm_expr.specs.declared.forms.Term.{Term}
use Rattle.asm_expr.specs.Forms.{Form}
use Rattle.asm_expr.specs.Trees.{Tree}
use Rattle.asm_operands.specs.declared.place_faults.PlaceCause.{PlaceCause}
use Rattle.asm_operands.specs.declared.place_faults.PlaceCause.TheVariants.{BadExpression}
use Rattle.asm_operands.specs.Expressions.{expression_of, form_in}
use Rattle.asm_operands.specs.Operands.{operands_of, each}
use Rattle.asm_operands.specs.Results.{all_steps}
use Rattle.asm_uses.specs.declared.tables.Naming.{Naming}
use Rattle.asm_uses.specs.Places.{uses_place, end_naming}
use Rattle.asm_uses.specs.Tables.{naming_of}
use Rattle.asm_values.specs.State.{Placed, with_table, with_names, here, known_here, put_bytes, put_growing}
use Rattle.item_bytes.specs.Leb128.{least_leb128}
use Rattle.item_contents.specs.declared.kinds.Growth.TheVariants.{Leb128}

-- the bytes of a form without symbols, in as few groups as hold it; an item that grows with the value of any other
abbrev pub put_number_by : List Term → Pos → Bool → Form → Placed → Result Placed PlaceCause
put_number_by [] pos signed form placed = put_bytes pos (least_leb128 signed form.constant) placed
put_number_by (term ∷ terms) pos signed form placed = put_growing pos (Leb128 signed) None form placed

-- a number more in the current section
abbrev pub put_number : Pos → Bool → Form → Placed → Result Placed PlaceCause
put_number pos signed form placed = put_number_by form.terms pos signed form placed

-- one number after the other in the current section
unfoldable pub put_numbers : Pos → Bool → List Form → Placed → Result Placed PlaceCause
put_numbers pos signed forms placed = all_steps (put_number pos signed) forms placed

-- the same, and then the names are allowed or refused, and the place becomes a symbol where a form keeps it
unfoldable pub put_leb128 : Pos → Bool → Naming → List Form → Placed → Result Placed PlaceCause
put_leb128 pos signed naming forms named =
    put_numbers pos signed forms named >>= λ put.
    end_naming pos naming (here named) (list_any (uses_place (known_here named).place) forms) put.table >>= λ table. Ok (with_table put table)

-- numbers of these expressions, each of whose names has a symbol
abbrev pub leb128_of : Pos → Bool → List Tree → Naming → Placed → Result Placed PlaceCause
leb128_of pos signed trees naming named = each (form_in (known_here named)) trees >>= λ forms. put_leb128 pos signed naming forms named

-- the names of the expressions become symbols, and then the same
abbrev pub leb128_read : Pos → Bool → List Tree → Placed → Result Placed PlaceCause
leb128_read pos signed trees placed = leb128_of pos signed trees (naming_of trees placed.table) (with_names pos trees placed)

-- the expressions of operands, of which there is at least one
abbrev pub some_expressions : List (List SpelledToken) → Result (List Tree) PlaceCause
some_expressions [] = Err BadExpression
some_expressions (operand ∷ operands) = each expression_of (operand ∷ operands)

-- `.uleb128`, `.sleb128`: all operands are read before a form is made
unfoldable pub place_leb128 : Pos → Bool → List SpelledToken → Placed → Result Placed PlaceCause
place_leb128 pos signed tokens placed = some_expressions (operands_of tokens) >>= λ trees. leb128_read pos signed trees placed
