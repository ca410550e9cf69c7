-- Assignments and sizes by expressions of numbers alone.
use Rattle.std.specs.Prelude.{◌≡◌, ℕ, Bool, List, [], ◌∷◌, Option, None, Some, Result, Ok}
use Rattle.asm_base.specs.Tokens.{SpelledToken}
use Rattle.asm_base.specs.Refusals.{◌>>=◌}
use Rattle.asm_base.specs.declared.positions.Pos.{Pos}
use Rattle.asm_expr.specs.declared.naming.Name.TheVariants.{Plain}
use Rattle.asm_expr.specs.Forms.{constant_form}
use Rattle.asm_expr.specs.Knowledge.{Knowledge}
use Rattle.asm_expr.specs.Trees.{Tree}
use Rattle.asm_symbols.specs.Interning.{number_of}
use Rattle.asm_symbols.specs.LeadsBack.{assigned}
use Rattle.asm_operands.specs.declared.place_faults.PlaceCause.{PlaceCause}
use Rattle.asm_values.specs.declared.few_sums.NamedNumber.{NamedNumber}
use Rattle.asm_values.specs.ConstantOperands.{NamesNothing, no_naming}
use Rattle.asm_operands.specs.Expressions.{form_in}
use Rattle.asm_operands.specs.Operands.{operands_of}
use Rattle.asm_values.specs.State.{Placed, with_table, unless_dot}
use Rattle.asm_operands.specs.NamedTrees.{named_tree}
use Rattle.asm_uses.specs.Attributes.{sized}
use Rattle.asm_uses.specs.Tables.{Table, with_name, changed_by, allowed}

-- the operands are this name and an expression that names nothing, and is this number whatever is known
pub record IsNamedNumber (operands : List (List SpelledToken)) (name : List ℕ) (number : ℕ) : Type 0 where
  pub tree : Tree
  pub reads : named_tree operands ≡ Ok (record { name = Plain name; tree = tree })
  pub counts : (known : Knowledge) → form_in known tree ≡ Ok (constant_form number)
  pub names : NamesNothing (tree ∷ [])

-- a name and a number that are found are the operands; where none are found nothing is said
abbrev pub FindsNamedNumber : List SpelledToken → Option NamedNumber → Type 0
FindsNamedNumber tokens (Some words) = IsNamedNumber (operands_of tokens) words.name.now words.number
FindsNamedNumber tokens None = Unit {0}

-- the table where the name has a symbol, and the symbol's number
abbrev pub with_symbol : Pos → List ℕ → Table → Table × ℕ
with_symbol pos name table = (with_name pos (Plain name) table, number_of table.symbols (Plain name))

-- the symbol of the name stands for the number; with `once` only if it was nothing before
abbrev pub assign_number : Pos → Bool → List ℕ → ℕ → Placed → Result Placed PlaceCause
assign_number pos once name number placed =
    changed_by (λ map index. assigned map index (constant_form number) once) (with_symbol pos name placed.table) >>= allowed (no_naming placed.table)
    >>= λ table. Ok (with_table placed table)

-- the number is the size of the symbol of the name, unless the statement names a symbol by `.`
abbrev pub size_number : Pos → List ℕ → ℕ → Bool → Placed → Result Placed PlaceCause
size_number pos name number dot placed =
    allowed (no_naming placed.table) (sized pos (constant_form number) (with_symbol pos name placed.table))
    >>= λ table. unless_dot dot (with_table placed table)
