-- Operands that are one to three numbers, names or places: they are read without a tree.
use Rattle.std.specs.Prelude.{◌≡◌, ℕ, Bool, true, false, List, [], Option, None, Some, Ok}
use Rattle.asm_base.specs.Tokens.{SpelledToken}
use Rattle.asm_expr.specs.declared.trees.Written.TheVariants as written
use Rattle.asm_expr.specs.declared.trees.BinaryOp.{BinaryOp}
use Rattle.asm_expr.specs.declared.trees.BinaryOp.TheVariants.{Add, Sub}
use Rattle.asm_expr.specs.Trees.{Tree, number, name, here, binary}
use Rattle.expr_texts.specs.Operators.{opens, prefix_of, operator_of}
use Rattle.expr_texts.specs.Leaves.{digits_leaf, leaf_of}
use Rattle.expr_texts.specs.Reading.{read, reading}
use Rattle.asm_operands.specs.declared.sums.Summand.{Summand}
use Rattle.asm_operands.specs.declared.sums.Summand.TheVariants.{Number, Name, Back, Next, Here}
use Rattle.asm_operands.specs.declared.sums.Addend.{Addend}
use Rattle.asm_operands.specs.declared.sums.Addend.TheVariants.{Nothing, Plus, Minus}
use Rattle.asm_operands.specs.declared.sums.Sum.{Sum}
use Rattle.asm_operands.specs.declared.sums.LongSum.{LongSum}

-- the tree of what one token spells
abbrev pub summand_tree : Summand → Tree
summand_tree (Number value) = number value
summand_tree (Name token) = name (written.Plain token.now.bytes.now)
summand_tree (Back label) = name (written.Back label)
summand_tree (Next label) = name (written.Next label)
summand_tree Here = here

-- the operator of a sign
abbrev pub sign_operator : Bool → BinaryOp
sign_operator false = Add
sign_operator true = Sub

-- the tree with one summand more, if there is one
abbrev pub added_tree : Tree → Addend → Tree
added_tree tree Nothing = tree
added_tree tree (Plus summand) = binary Add tree (summand_tree summand)
added_tree tree (Minus summand) = binary Sub tree (summand_tree summand)

-- the tree of a sum
abbrev pub sum_tree : Sum → Tree
sum_tree sum = added_tree (summand_tree sum.first) sum.second

-- the tree of a sum with one summand more behind it, if there is one
abbrev pub long_tree : LongSum → Tree
long_tree sum = added_tree (sum_tree sum.front) sum.third

-- the token is an operand of its own, which spells this
pub record IsSummand (token : SpelledToken) (found : Summand) : Type 0 where
  pub leaf : leaf_of token ≡ Ok (summand_tree found)
  pub unopened : opens token ≡ false
  pub unprefixed : prefix_of token ≡ None

-- the operator is this sign, and the token behind it spells this
pub record IsSigned (operator token : SpelledToken) (minus : Bool) (found : Summand) : Type 0 where
  pub sign : operator_of operator ≡ Some (sign_operator minus)
  pub summand : IsSummand token found

-- the operator and the token behind it add this, or take it off
abbrev pub IsAddend : SpelledToken → SpelledToken → Addend → Type 0
IsAddend operator token Nothing = ⊥
IsAddend operator token (Plus summand) = IsSigned operator token false summand
IsAddend operator token (Minus summand) = IsSigned operator token true summand

-- a label that is found is what the digits spell; where none is found nothing is said
abbrev pub FindsLabel : List ℕ → Option Summand → Type 0
FindsLabel digits (Some found) = digits_leaf digits ≡ Ok (summand_tree found)
FindsLabel digits None = Unit {0}

-- the same of what a token spells
abbrev pub FindsSummand : SpelledToken → Option Summand → Type 0
FindsSummand token (Some found) = IsSummand token found
FindsSummand token None = Unit {0}

-- the same of a sign
abbrev pub FindsMinus : SpelledToken → Option Bool → Type 0
FindsMinus token (Some minus) = operator_of token ≡ Some (sign_operator minus)
FindsMinus token None = Unit {0}

-- the same of what is added
abbrev pub FindsAddend : SpelledToken → SpelledToken → Option Addend → Type 0
FindsAddend operator token (Some found) = IsAddend operator token found
FindsAddend operator token None = Unit {0}

-- a sum that is found is the whole operand; where none is found nothing is said
abbrev pub FindsSum : List SpelledToken → Option Sum → Type 0
FindsSum tokens (Some found) = reading 1 0 tokens ≡ Ok (read (sum_tree found) [])
FindsSum tokens None = Unit {0}

-- the same of a sum with one summand more behind it
abbrev pub FindsLongSum : List SpelledToken → Option LongSum → Type 0
FindsLongSum tokens (Some found) = reading 1 0 tokens ≡ Ok (read (long_tree found) [])
FindsLongSum tokens None = Unit {0}
