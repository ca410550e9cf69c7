-- Assignments to symbols (GNU as manual, ".set", ".equ", ".equiv", "Setting Symbols").
use Rattle.std.specs.Prelude.{ℕ, Bool, false, List, Result, Ok}
use Rattle.asm_operands.specs.declared.place_faults.PlaceCause.{PlaceCause}
use Rattle.asm_uses.specs.declared.tables.Naming.{Naming}
use Rattle.asm_base.specs.declared.positions.Pos.{Pos}
use Rattle.asm_base.specs.Tokens.{SpelledToken}
use Rattle.asm_expr.specs.declared.naming.Name.TheVariants as naming
use Rattle.asm_expr.specs.Trees.{Tree}
use Rattle.asm_symbols.specs.LeadsBack.{assigned}
use Rattle.asm_base.specs.Refusals.{◌>>=◌}
use Rattle.asm_uses.specs.Tables.{changed_by}
use Rattle.asm_values.specs.State.{Placed, with_table, known_here}
use Rattle.asm_operands.specs.Operands.{symbol_name, operands_of}
use Rattle.asm_operands.specs.Expressions.{expression_of, form_in}
use Rattle.asm_operands.specs.NamedTrees.{NamedTree, named_tree}
use Rattle.asm_values.specs.Sizes.{words_naming, with_words, words_symbol, end_words}

-- the symbol stands for the expression; with `once` only if it was nothing before
abbrev pub assign_named : Pos → Bool → Tree → ℕ → Naming → Placed → Result Placed PlaceCause
assign_named pos once tree symbol naming named =
    form_in (known_here named) tree >>= λ form.
    changed_by (λ map index. assigned map index form once) (named.table, symbol) >>= end_words pos naming form named
    >>= λ table. Ok (with_table named table)

-- the name and those of the expression become symbols, and then the same
unfoldable pub assign_words : Pos → Bool → NamedTree → Placed → Result Placed PlaceCause
assign_words pos once words placed =
    assign_named pos once words.tree (words_symbol words placed) (words_naming words placed) (with_words pos words placed)

-- `.set`, `.equ`, `.equiv`
unfoldable pub place_set : Pos → Bool → List SpelledToken → Placed → Result Placed PlaceCause
place_set pos once tokens placed = named_tree (operands_of tokens) >>= λ words. assign_words pos once words placed

-- `name = expression`, by the token of the name and those behind the sign
unfoldable pub place_assignment : Pos → SpelledToken → List SpelledToken → Placed → Result Placed PlaceCause
place_assignment pos token tokens placed =
    symbol_name token >>= λ name. expression_of tokens >>= λ tree. assign_words pos false (record { name = naming.Plain name; tree = tree }) placed
