-- What directives say of symbols (GNU as manual, ".globl", ".weak", ".local", ".hidden", ".protected", ".internal", ".type").
use Rattle.std.specs.Prelude.{List, [], ◌∷◌, Result, Err}
use Rattle.std.specs.List.{list_any}
use Rattle.asm_operands.specs.declared.place_faults.PlaceCause.{PlaceCause}
use Rattle.asm_operands.specs.declared.place_faults.PlaceCause.TheVariants.{BadOperand}
use Rattle.asm_base.specs.declared.positions.Pos.{Pos}
use Rattle.asm_base.specs.Tokens.{SpelledToken}
use Rattle.asm_symbols.specs.declared.entries.SymbolAttribute.{SymbolAttribute}
use Rattle.asm_base.specs.Refusals.{◌>>=◌}
use Rattle.asm_uses.specs.Tables.{change_named}
use Rattle.asm_values.specs.State.{Placed, with_table, unless_dot}
use Rattle.asm_operands.specs.Operands.{is_dot, begins_with_place, operands_of, each}
use Rattle.asm_uses.specs.Attributes.{say_all, kind_said}
use Rattle.asm_operands.specs.NamedTrees.{plain_of}
use Rattle.asm_words.specs.SymbolKinds.{named_kind}

-- `.globl` and the others, with a name at least
unfoldable pub place_said : Pos → SymbolAttribute → List SpelledToken → Placed → Result Placed PlaceCause
place_said pos attribute [] placed = Err BadOperand
place_said pos attribute (token ∷ rest) placed =
    each plain_of (operands_of (token ∷ rest)) >>= λ names. say_all pos attribute names placed.table >>= λ table.
    unless_dot (list_any is_dot (token ∷ rest)) (with_table placed table)

-- `.type`
unfoldable pub place_type : Pos → List SpelledToken → Placed → Result Placed PlaceCause
place_type pos tokens placed =
    named_kind (operands_of tokens) >>= λ words. change_named pos (kind_said words.kind) words.name placed.table >>= λ table.
    unless_dot (begins_with_place tokens) (with_table placed table)
