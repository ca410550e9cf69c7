-- The sizes of symbols (GNU as manual, ".size").
use Rattle.std.specs.Prelude.{ℕ, List, [], ◌∷◌, Result, Ok}
use Rattle.asm_operands.specs.declared.place_faults.PlaceCause.{PlaceCause}
use Rattle.asm_base.specs.declared.positions.Pos.{Pos}
use Rattle.asm_base.specs.Tokens.{SpelledToken}
use Rattle.asm_expr.specs.Forms.{Form}
use Rattle.asm_expr.specs.Trees.{Tree}
use Rattle.asm_symbols.specs.Interning.{number_of}
use Rattle.asm_uses.specs.declared.tables.Naming.{Naming}
use Rattle.asm_base.specs.Refusals.{◌>>=◌}
use Rattle.asm_uses.specs.Tables.{Table, with_name, with_tree, naming_of}
use Rattle.asm_uses.specs.Places.{uses_place, end_naming}
use Rattle.asm_values.specs.State.{Placed, with_table, unless_dot, here, known_here}
use Rattle.asm_operands.specs.Operands.{begins_with_place, operands_of}
use Rattle.asm_operands.specs.Expressions.{form_in}
use Rattle.asm_uses.specs.Attributes.{sized}
use Rattle.asm_operands.specs.NamedTrees.{NamedTree, named_tree}

-- how many symbols there are, and whether each `Nb` of the expression means a label that came before
abbrev pub words_naming : NamedTree → Placed → Naming
words_naming words placed = naming_of (words.tree ∷ []) placed.table

-- what is placed, once the name and then each name of the expression has a symbol
abbrev pub with_words : Pos → NamedTree → Placed → Placed
with_words pos words placed = with_table placed (with_tree pos words.tree (with_name pos words.name placed.table))

-- the number of the name's symbol
abbrev pub words_symbol : NamedTree → Placed → ℕ
words_symbol words placed = number_of placed.table.symbols words.name

-- the names are allowed or refused, and the place becomes a symbol where the form keeps it
abbrev pub end_words : Pos → Naming → Form → Placed → Table → Result Table PlaceCause
end_words pos naming form named table = end_naming pos naming (here named) (uses_place (known_here named).place form) table

-- the expression is the size of the symbol
abbrev pub size_named : Pos → Tree → ℕ → Naming → Placed → Result Placed PlaceCause
size_named pos tree symbol naming named =
    form_in (known_here named) tree >>= λ form.
    end_words pos naming form named (sized pos form (named.table, symbol)) >>= λ table. Ok (with_table named table)

-- the name and those of the expression become symbols, and then the same
unfoldable pub size_words : Pos → NamedTree → Placed → Result Placed PlaceCause
size_words pos words placed =
    size_named pos words.tree (words_symbol words placed) (words_naming words placed) (with_words pos words placed)

-- `.size`
unfoldable pub place_size : Pos → List SpelledToken → Placed → Result Placed PlaceCause
place_size pos tokens placed =
    named_tree (operands_of tokens) >>= λ words. size_words pos words placed >>= unless_dot (begins_with_place tokens)
