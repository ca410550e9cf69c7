-- Operands of numbers alone: their value needs no tree.
use Rattle.std.specs.Prelude.{◌≡◌, ◌≤◌, ℕ, false, List, [], ◌∷◌, length, take, Option, None, Some, Ok}
use Rattle.std.specs.List.{list_any}
use Rattle.asm_base.specs.Tokens.{SpelledToken}
use Rattle.asm_expr.specs.Trees.{Tree}
use Rattle.asm_expr.specs.Forms.{constant_form}
use Rattle.asm_expr.specs.Knowledge.{Knowledge}
use Rattle.asm_expr.specs.Linear.{linear}
use Rattle.asm_expr.specs.NamesOf.{names_of}
use Rattle.expr_texts.specs.Reading.{read, reading}
use Rattle.asm_operands.specs.declared.constants.FrontConstant.{FrontConstant}
use Rattle.asm_operands.specs.Commas.{is_comma}

-- the tokens are one expression that names nothing, and its linear form is this number, whatever is known
pub record IsConstant (tokens : List SpelledToken) (value : ℕ) : Type 0 where
  pub tree : Tree
  pub reads : reading 1 0 tokens ≡ Ok (read tree [])
  pub counts : (known : Knowledge) → linear known tree ≡ Ok (constant_form value)
  pub names : names_of tree ≡ []

-- a value that is found is that of the operand; where none is found nothing is said
abbrev pub FindsConstant : List SpelledToken → Option ℕ → Type 0
FindsConstant tokens (Some value) = IsConstant tokens value
FindsConstant tokens None = Unit {0}

-- the tokens are this number, and no comma is among them
pub record IsLoneConstant (tokens : List SpelledToken) (value : ℕ) : Type 0 where
  pub one : IsConstant tokens value
  pub apart : list_any is_comma tokens ≡ false

-- a number that is found is that of the tokens; where none is found nothing is said
abbrev pub FindsLoneConstant : List SpelledToken → Option ℕ → Type 0
FindsLoneConstant tokens (Some value) = IsLoneConstant tokens value
FindsLoneConstant tokens None = Unit {0}

-- the token alone is this number, and is no comma
pub record IsSingle (token : SpelledToken) (value : ℕ) : Type 0 where
  pub one : IsConstant (token ∷ []) value
  pub apart : is_comma token ≡ false

-- a number that is found is that of the token; where none is found nothing is said
abbrev pub FindsSingle : SpelledToken → Option ℕ → Type 0
FindsSingle token (Some value) = IsSingle token value
FindsSingle token None = Unit {0}

-- so many tokens at the front are this number, and none of them is a comma
pub record IsFront (tokens : List SpelledToken) (found : FrontConstant) : Type 0 where
  pub within : found.length ≤ length tokens
  pub one : IsConstant (take found.length tokens) found.value
  pub apart : list_any is_comma (take found.length tokens) ≡ false

-- a number that is found is at the front of the tokens; where none is found nothing is said
abbrev pub FindsFront : List SpelledToken → Option FrontConstant → Type 0
FindsFront tokens (Some found) = IsFront tokens found
FindsFront tokens None = Unit {0}
