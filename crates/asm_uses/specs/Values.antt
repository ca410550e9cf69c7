-- What expressions are worth where their names are known: a number, or a label and a number.
use Rattle.std.specs.Prelude.{◌≡◌, ℕ, ◌+◌, Bool, List, [], ◌∷◌, Option, None, Some, Ok}
use Rattle.std.specs.List.{All}
use Rattle.asm_base.specs.Tokens.{SpelledToken}
use Rattle.asm_expr.specs.declared.naming.Name.TheVariants as naming
use Rattle.asm_expr.specs.declared.trees.Written.{Written}
use Rattle.asm_expr.specs.declared.trees.Written.TheVariants.{Plain, Back, Next}
use Rattle.asm_expr.specs.Forms.{Form, wrapped, term_of, constant_form, joined}
use Rattle.asm_expr.specs.Knowledge.{Told, label, Knowledge}
use Rattle.asm_expr.specs.Linear.{linear}
use Rattle.asm_expr.specs.NamesOf.{names_of}
use Rattle.asm_expr.specs.Settled.{settled}
use Rattle.asm_expr.specs.Trees.{Tree}
use Rattle.asm_operands.specs.Worths.{IsWorth}
use Rattle.asm_symbols.specs.SymbolMap.{SymbolMap, names, index_of}
use Rattle.asm_uses.specs.declared.places.View.{View}
use Rattle.asm_uses.specs.declared.values.Value.{Value}
use Rattle.asm_uses.specs.declared.values.Value.TheVariants.{Number, Label}
use Rattle.asm_uses.specs.KnownIn.{known_in}

-- the form is one label of this stretch and a number, which together stand at this place of the stretch
pub record IsLabelForm (told : ℕ → Told) (stretch at : ℕ) (form : Form) : Type 0 where
  pub symbol : ℕ
  pub origin : ℕ
  pub offset : ℕ
  pub is : form ≡ record { terms = term_of symbol 1 ∷ []; constant = offset }
  pub known : told symbol ≡ label stretch origin
  pub place : wrapped at ≡ wrapped (origin + offset)

-- the form has this value, by what is known of symbols
abbrev pub IsValueForm : (ℕ → Told) → Value → Form → Type 0
IsValueForm told (Number n) form = form ≡ constant_form n
IsValueForm told (Label stretch at) form = IsLabelForm told stretch at form

-- the name is a text, and a symbol has it
abbrev pub HasSymbol : SymbolMap → Written → Type 0
HasSymbol map (Plain text) = (index : ℕ) × (index_of (naming.Plain text) (names map.symbols) ≡ Some index)
HasSymbol map (Back digits) = ⊥
HasSymbol map (Next digits) = ⊥

-- the linear form of the tree has this value, and each of its names has a symbol
pub record IsValueTree (map : SymbolMap) (known : Knowledge) (tree : Tree) (value : Value) : Type 0 where
  pub form : Form
  pub counts : linear known tree ≡ Ok form
  pub is : IsValueForm known.told value form
  pub names : All (HasSymbol map) (names_of tree)

-- the same at the place that a view is of
abbrev pub IsWorthIn : View → Tree → Value → Type 0
IsWorthIn view tree value = IsValueTree view.symbols.now (known_in view) tree value

-- the tokens are one expression that is this number there
abbrev pub IsNumberIn : View → List SpelledToken → ℕ → Type 0
IsNumberIn view tokens value = IsWorth (IsWorthIn view) tokens (Number value)

-- a value that is found is that of the sum of any forms that have these values, of which the second is taken with this sign
abbrev pub FindsSum : Bool → Value → Value → Option Value → Type 0
FindsSum minus one other (Some value) =
    (told : ℕ → Told) (first second : Form) → IsValueForm told one first → IsValueForm told other second → IsValueForm told value (settled told (joined minus first second))
FindsSum minus one other None = Unit {0}
