-- The expressions that operands are, and their values.
use Rattle.std.specs.Prelude.{ℕ, nat_le, Bool, true, false, List, [], ◌∷◌, ◌++◌, Option, None, Some, Result, Ok, Err}
use Rattle.std.specs.Option.{option_to_list}
use Rattle.asm_operands.specs.declared.place_faults.PlaceCause.{PlaceCause}
use Rattle.asm_operands.specs.declared.place_faults.PlaceCause.TheVariants.{BadExpression, BadOperand}
use Rattle.asm_base.specs.Tokens.{SpelledToken}
use Rattle.asm_expr.specs.Trees.{Tree}
use Rattle.asm_expr.specs.Forms.{Form}
use Rattle.asm_expr.specs.Knowledge.{Knowledge}
use Rattle.expr_texts.specs.Reading.{reading}
use Rattle.asm_expr.specs.Linear.{linear, value_of}
use Rattle.asm_operands.specs.declared.up_to_three.UpToThree.{UpToThree}
use Rattle.asm_base.specs.Refusals.{◌>>=◌}
use Rattle.asm_operands.specs.Results.{if_some}
use Rattle.asm_operands.specs.ExprFaults.{in_statement}

-- nothing stands behind an expression
abbrev pub alone : List SpelledToken → Tree → Result Tree PlaceCause
alone [] tree = Ok tree
alone (token ∷ rest) tree = Err BadOperand

-- an expression alone
unfoldable pub expression_of : List SpelledToken → Result Tree PlaceCause
expression_of operand = in_statement (reading 1 0 operand) >>= λ found. alone found.rest found.tree

-- its linear form
unfoldable pub form_in : Knowledge → Tree → Result Form PlaceCause
form_in known tree = in_statement (linear known tree)

-- its value, which has to be known
unfoldable pub constant_in : Form → Result ℕ PlaceCause
constant_in form = in_statement (value_of form)

-- what is given, as a list
abbrev pub up_to_three_listed : {A : Type 0} → UpToThree A → List A
up_to_three_listed few = few.first ∷ (option_to_list few.second ++ option_to_list few.third)

-- what is given of each, from the first to the third
abbrev pub each_up_to_three : {A B : Type 0} → (A → Result B PlaceCause) → UpToThree A → Result (UpToThree B) PlaceCause
each_up_to_three give few =
    give few.first >>= λ first. if_some give few.second >>= λ second. if_some give few.third >>= λ third.
    Ok (record { first = first; second = second; third = third })

-- an operand that has to be there
unfoldable pub first_tree : List (List SpelledToken) → Result (Tree × List (List SpelledToken)) PlaceCause
first_tree [] = Err BadExpression
first_tree (operand ∷ operands) = expression_of operand >>= λ tree. Ok (tree, operands)

-- an operand that may be missing, or empty
unfoldable pub next_tree : List (List SpelledToken) → Result (Option Tree × List (List SpelledToken)) PlaceCause
next_tree [] = Ok (None, [])
next_tree ([] ∷ operands) = Ok (None, operands)
next_tree ((token ∷ rest) ∷ operands) = expression_of (token ∷ rest) >>= λ tree. Ok (Some tree, operands)

-- an operand that may be there only where so many may
abbrev pub next_tree_if : Bool → List (List SpelledToken) → Result (Option Tree × List (List SpelledToken)) PlaceCause
next_tree_if true operands = next_tree operands
next_tree_if false operands = Ok (None, operands)

-- no operand is left
abbrev pub no_more : {A : Type 0} → List (List SpelledToken) → A → Result A PlaceCause
no_more [] done = Ok done
no_more (operand ∷ operands) done = Err BadOperand

-- one expression, or as many more as there may be in all
unfoldable pub up_to_three_trees : ℕ → List (List SpelledToken) → Result (UpToThree Tree) PlaceCause
up_to_three_trees most operands =
    first_tree operands >>= λ one. next_tree_if (nat_le 2 most) one.1 >>= λ two. next_tree_if (nat_le 3 most) two.1 >>= λ three.
    no_more three.1 (record { first = one.0; second = two.0; third = three.0 })

-- their forms
unfoldable pub up_to_three_forms : Knowledge → UpToThree Tree → Result (UpToThree Form) PlaceCause
up_to_three_forms known trees = each_up_to_three (form_in known) trees

-- the values of forms, each of which has to be known
unfoldable pub up_to_three_constants : UpToThree Form → Result (UpToThree ℕ) PlaceCause
up_to_three_constants forms = each_up_to_three constant_in forms
