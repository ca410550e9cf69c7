-- One to three operands that are numbers alone, their values, and space that is made of these.
use Rattle.std.specs.Prelude.{◌≡◌, ℕ, Bool, true, List, [], ◌∷◌, length, Option, None, Some, Result, Ok, option_map}
use Rattle.std.specs.Option.{option_to_list}
use Rattle.asm_base.specs.Tokens.{SpelledToken}
use Rattle.asm_base.specs.Refusals.{◌>>=◌}
use Rattle.asm_base.specs.declared.positions.Pos.{Pos}
use Rattle.asm_expr.specs.Forms.{constant_form}
use Rattle.asm_expr.specs.Knowledge.{Knowledge}
use Rattle.asm_expr.specs.Trees.{Tree}
use Rattle.asm_operands.specs.declared.place_faults.PlaceCause.{PlaceCause}
use Rattle.asm_uses.specs.declared.tables.Naming.{Naming}
use Rattle.asm_operands.specs.declared.up_to_three.UpToThree.{UpToThree}
use Rattle.asm_operands.specs.Expressions.{expression_of, form_in, first_tree, next_tree_if}
use Rattle.asm_operands.specs.Operands.{operands_of, each}
use Rattle.asm_values.specs.KnownOperands.{known_operands}
use Rattle.asm_operands.specs.Results.{if_some}
use Rattle.asm_words.specs.Spaces.{units_of, unit_size}
use Rattle.asm_values.specs.State.{Placed, push_item}
use Rattle.asm_uses.specs.Tables.{Table, with_trees, are_meant}

-- the expressions name nothing
pub record NamesNothing (trees : List Tree) : Type 0 where
  pub names : (pos : Pos) (table : Table) → with_trees pos trees table ≡ table
  pub meant : (counts : List (ℕ × ℕ)) → are_meant counts trees ≡ true

-- the first operand is a number, with these operands behind it
pub record IsFirstConstant (operands behind : List (List SpelledToken)) (value : ℕ) : Type 0 where
  pub tree : Tree
  pub reads : first_tree operands ≡ Ok (tree, behind)
  pub counts : (known : Knowledge) → form_in known tree ≡ Ok (constant_form value)
  pub names : NamesNothing (tree ∷ [])

-- the next operand, where there may be one, is a number or is missing, with these operands behind it
pub record IsNextConstant (may : Bool) (operands behind : List (List SpelledToken)) (value : Option ℕ) : Type 0 where
  pub tree : Option Tree
  pub reads : next_tree_if may operands ≡ Ok (tree, behind)
  pub counts : (known : Knowledge) → if_some (form_in known) tree ≡ Ok (option_map constant_form value)
  pub names : NamesNothing (option_to_list tree)

-- the naming of expressions that name nothing
abbrev pub no_naming : Table → Naming
no_naming table = record { before = length table.symbols.symbols; meant = true }

-- the only operand is this number, whatever is known, and names nothing
pub record IsOnlyNumber (tokens : List SpelledToken) (value : ℕ) : Type 0 where
  pub tree : Tree
  pub reads : each expression_of (operands_of tokens) ≡ Ok (tree ∷ [])
  pub counts : (known : Knowledge) → form_in known tree ≡ Ok (constant_form value)
  pub names : NamesNothing (tree ∷ [])

-- a number that is found is the only operand; where none is found nothing is said
abbrev pub FindsOnlyNumber : List SpelledToken → Option ℕ → Type 0
FindsOnlyNumber tokens (Some value) = IsOnlyNumber tokens value
FindsOnlyNumber tokens None = Unit {0}

-- these are the values of the operands, whatever is known, and the operands name nothing
pub record AreConstants (most : ℕ) (operands : List (List SpelledToken)) (values : UpToThree ℕ) : Type 0 where
  pub counts : (pos : Pos) (placed : Placed) → known_operands pos placed most operands ≡ Ok (record { naming = no_naming placed.table; placed = placed; values = values })

-- a value that is found is that of the first operand; where none is found nothing is said
abbrev pub FindsFirst : List (List SpelledToken) → List (List SpelledToken) → Option ℕ → Type 0
FindsFirst operands behind (Some value) = IsFirstConstant operands behind value
FindsFirst operands behind None = Unit {0}

-- the same of the next operand
abbrev pub FindsNext : Bool → List (List SpelledToken) → List (List SpelledToken) → Option (Option ℕ) → Type 0
FindsNext may operands behind (Some value) = IsNextConstant may operands behind value
FindsNext may operands behind None = Unit {0}

-- the same of all
abbrev pub FindsConstants : ℕ → List (List SpelledToken) → Option (UpToThree ℕ) → Type 0
FindsConstants most operands (Some values) = AreConstants most operands values
FindsConstants most operands None = Unit {0}

-- so many units of a size and a value last in the current section
abbrev pub put_units_of : Pos → ℕ → Option ℕ → ℕ → Placed → Result Placed PlaceCause
put_units_of pos count size value placed =
    unit_size size >>= λ bytes. units_of count bytes value >>= λ item. push_item pos item placed
