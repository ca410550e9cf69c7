-- The amounts of an instruction's values: the trees that they stand for, the symbols of their names, and whether these fit.
use Rattle.std.specs.Prelude.{◌≡◌, ℕ, List, [], ◌∷◌, Option, None, Some}
use Rattle.asm_expr.specs.declared.naming.Name.TheVariants as naming
use Rattle.asm_expr.specs.declared.trees.Written.{Written}
use Rattle.asm_expr.specs.declared.trees.Written.TheVariants.{Plain}
use Rattle.asm_expr.specs.Knowledge.{Knowledge}
use Rattle.asm_expr.specs.Trees.{Tree, tree_of}
use Rattle.asm_symbols.specs.SymbolMap.{SymbolMap, names, index_of}
use Rattle.x86_insn.specs.declared.amounts.Amount.{Amount}
use Rattle.x86_insn.specs.declared.amounts.Amount.TheVariants as amount
use Rattle.x86_insn.specs.declared.insns.Insn.{Insn}
use Rattle.x86_insn.specs.Amounts.{amount_tree}
use Rattle.att_operands.specs.Values.{IsFitting, KnowsFitting}
use Rattle.asm_words.specs.declared.directives.Syntax.{Syntax}
use Rattle.asm_words.specs.declared.directives.Syntax.TheVariants.{Att, Intel}

-- the trees of an immediate and of a displacement in the order of the text: an immediate stands before memory in AT&T syntax, and after it in Intel
-- syntax
abbrev pub in_text_order : Syntax → Tree → Tree → List Tree
in_text_order Att own moved = own ∷ moved ∷ []
in_text_order Intel own moved = moved ∷ own ∷ []

-- the trees of the amounts of an instruction's values, in the order of its text
abbrev pub trees_of : Syntax → Insn → List Tree
trees_of syntax insn = in_text_order syntax (amount_tree insn.immediate.amount) (amount_tree insn.displacement.amount)

-- what is known of this name, as it is written, is below 2^64
abbrev pub WrittenFits : Knowledge → Written → Type 0
WrittenFits known written = IsFitting (known.told (known.meant written))

-- the same of a name of these bytes
abbrev pub NameFits : Knowledge → List ℕ → Type 0
NameFits known bytes = WrittenFits known (Plain bytes)

-- what is known of the names of an amount is below 2^64
abbrev pub AmountFits : Knowledge → Amount → Type 0
AmountFits known (amount.Number value) = Unit {0}
AmountFits known (amount.Name bytes more) = NameFits known bytes.now
AmountFits known (amount.Tree boxed) = KnowsFitting known (tree_of boxed.value)

-- so is what is known of the names of both amounts
pub record InsnFits (known : Knowledge) (insn : Insn) : Type 0 where
  pub immediate : AmountFits known insn.immediate.amount
  pub displacement : AmountFits known insn.displacement.amount

-- the symbol, where one is given, is that of the name of the amount
abbrev pub IsSymbolOf : SymbolMap → Amount → Option ℕ → Type 0
IsSymbolOf map held None = Unit {0}
IsSymbolOf map (amount.Number value) (Some symbol) = ⊥
IsSymbolOf map (amount.Name bytes more) (Some symbol) = index_of (naming.Plain bytes.now) (names map.symbols) ≡ Some symbol
IsSymbolOf map (amount.Tree boxed) (Some symbol) = ⊥
