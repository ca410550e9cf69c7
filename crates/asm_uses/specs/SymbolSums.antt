-- Sums whose names have become symbols: what the symbols have to do with the names.
use Rattle.std.specs.Prelude.{◌≡◌, ℕ, Bool, true, List, Some}
use Rattle.asm_base.specs.declared.positions.Pos.{Pos}
use Rattle.asm_expr.specs.declared.trees.Written.{Written}
use Rattle.asm_expr.specs.declared.trees.Written.TheVariants as written
use Rattle.asm_operands.specs.declared.sums.Summand.{Summand}
use Rattle.asm_operands.specs.declared.sums.Summand.TheVariants as summands
use Rattle.asm_operands.specs.declared.sums.Addend.{Addend}
use Rattle.asm_operands.specs.declared.sums.Addend.TheVariants as addends
use Rattle.asm_operands.specs.declared.sums.Sum.{Sum}
use Rattle.asm_operands.specs.Sums.{summand_tree}
use Rattle.asm_symbols.specs.Counting.{meant_name}
use Rattle.asm_symbols.specs.SymbolMap.{SymbolMap, names, index_of}
use Rattle.asm_uses.specs.declared.sums.Operand.{Operand}
use Rattle.asm_uses.specs.declared.sums.Operand.TheVariants.{Number, Symbol, Here}
use Rattle.asm_uses.specs.declared.sums.Added.{Added}
use Rattle.asm_uses.specs.declared.sums.Added.TheVariants.{Nothing, Plus, Minus}
use Rattle.asm_uses.specs.declared.sums.SymbolSum.{SymbolSum}
use Rattle.asm_uses.specs.Tables.{Table, with_tree, is_meant}

-- the operand is the symbol that the name means
abbrev pub IsSymbol : SymbolMap → Written → Operand → Type 0
IsSymbol map name (Symbol index) = index_of (meant_name map.counts name) (names map.symbols) ≡ Some index
IsSymbol map name (Number value) = ⊥
IsSymbol map name Here = ⊥

-- the operand stands for the summand: the same number, the symbol that a name means, or the place
abbrev pub IsOperand : SymbolMap → Summand → Operand → Type 0
IsOperand map (summands.Number value) operand = operand ≡ Number value
IsOperand map (summands.Name token) operand = IsSymbol map (written.Plain token.now.bytes.now) operand
IsOperand map (summands.Back digits) operand = IsSymbol map (written.Back digits) operand
IsOperand map (summands.Next digits) operand = IsSymbol map (written.Next digits) operand
IsOperand map summands.Here operand = operand ≡ Here

-- the same is added, or taken off, if there is something
abbrev pub IsAdded : SymbolMap → Addend → Added → Type 0
IsAdded map addends.Nothing Nothing = Unit {0}
IsAdded map addends.Nothing (Plus operand) = ⊥
IsAdded map addends.Nothing (Minus operand) = ⊥
IsAdded map (addends.Plus summand) Nothing = ⊥
IsAdded map (addends.Plus summand) (Plus operand) = IsOperand map summand operand
IsAdded map (addends.Plus summand) (Minus operand) = ⊥
IsAdded map (addends.Minus summand) Nothing = ⊥
IsAdded map (addends.Minus summand) (Plus operand) = ⊥
IsAdded map (addends.Minus summand) (Minus operand) = IsOperand map summand operand

-- the sum by symbols stands for the sum by names
pub record IsNamed (map : SymbolMap) (sum : Sum) (named : SymbolSum) : Type 0 where
  pub first : IsOperand map sum.first named.first
  pub second : IsAdded map sum.second named.second

-- what is added has a symbol, if it is a name
abbrev pub with_addend : Pos → Addend → Table → Table
with_addend pos addends.Nothing table = table
with_addend pos (addends.Plus summand) table = with_tree pos (summand_tree summand) table
with_addend pos (addends.Minus summand) table = with_tree pos (summand_tree summand) table

-- an `Nb` that is added means a label that came before
abbrev pub is_addend_meant : List (ℕ × ℕ) → Addend → Bool
is_addend_meant counts addends.Nothing = true
is_addend_meant counts (addends.Plus summand) = is_meant counts (summand_tree summand)
is_addend_meant counts (addends.Minus summand) = is_meant counts (summand_tree summand)
