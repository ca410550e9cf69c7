-- The names of a sum become symbols one after the other, and what was found stays found.
use Rattle.std.proofs.Common.{◌≡◌, ℕ, ◌&&◌, Bool, true, false, List, Some, refl, sym, ap, subst, ◌∙◌}
use Rattle.asm_base.specs.declared.positions.Pos.{Pos}
use Rattle.asm_expr.specs.declared.naming.Name.{Name}
use Rattle.asm_expr.specs.declared.trees.Written.{Written}
use Rattle.asm_expr.specs.declared.trees.Written.TheVariants as written
use Rattle.asm_expr.specs.Trees.{Tree}
use Rattle.asm_expr.specs.Trees as trees
use Rattle.asm_operands.specs.declared.sums.Summand.{Summand}
use Rattle.asm_operands.specs.declared.sums.Summand.TheVariants as summands
use Rattle.asm_operands.specs.declared.sums.Addend.{Addend}
use Rattle.asm_operands.specs.declared.sums.Addend.TheVariants as addends
use Rattle.asm_operands.specs.declared.sums.Sum.{Sum}
use Rattle.asm_operands.specs.Sums.{summand_tree, added_tree, sum_tree}
use Rattle.asm_symbols.specs.Counting.{meant_name}
use Rattle.asm_symbols.specs.SymbolMap.{SymbolMap, names, index_of}
use Rattle.asm_uses.specs.declared.sums.Operand.{Operand}
use Rattle.asm_uses.specs.declared.sums.Operand.TheVariants as operands
use Rattle.asm_uses.specs.declared.sums.Added.{Added}
use Rattle.asm_uses.specs.declared.sums.Added.TheVariants.{Nothing, Plus, Minus}
use Rattle.asm_uses.specs.declared.sums.SymbolSum.{SymbolSum}
use Rattle.asm_uses.specs.SymbolSums.{IsSymbol, IsOperand, IsAdded, IsNamed, with_addend, is_addend_meant}
use Rattle.asm_uses.specs.Tables.{Table, with_name, with_tree, is_meant}
use Rattle.asm_uses.proofs.InternLemmas.{interned_counts, interned_stays}

-- each name that is found stays where it is, and the numeric labels count as before
pub record KeepsNames (old new : SymbolMap) : Type 0 where
  pub counts : new.counts ≡ old.counts
  pub found : (name : Name) (at : ℕ) → index_of name (names old.symbols) ≡ Some at → index_of name (names new.symbols) ≡ Some at

keeps_same : (map : SymbolMap) → KeepsNames map map
keeps_same map = record { counts = refl; found = λ name at is. is }

keeps_on : (old middle new : SymbolMap) → KeepsNames old middle → KeepsNames middle new → KeepsNames old new
keeps_on old middle new first later = record {
  counts = later.counts ∙ first.counts;
  found = λ name at is. later.found name at (first.found name at is);
}

name_keeps : (pos : Pos) (name : Name) (table : Table) → KeepsNames table.symbols (with_name pos name table).symbols
unfolding with_name
name_keeps pos name table = record {
  counts = interned_counts table.symbols name _ refl;
  found = λ other at is. interned_stays table.symbols name other at is;
}

-- the names of an expression become symbols
pub tree_keeps : (pos : Pos) (tree : Tree) (table : Table) → KeepsNames table.symbols (with_tree pos tree table).symbols
unfolding with_tree
tree_keeps pos (trees.number value) table = keeps_same table.symbols
tree_keeps pos (trees.name meant) table = name_keeps pos (meant_name table.symbols.counts meant) table
tree_keeps pos trees.here table = keeps_same table.symbols
tree_keeps pos (trees.unary op operand) table = tree_keeps pos operand table
tree_keeps pos (trees.binary op left right) table =
    keeps_on table.symbols (with_tree pos left table).symbols _ (tree_keeps pos left table) (tree_keeps pos right (with_tree pos left table))

pub addend_keeps : (pos : Pos) (addend : Addend) (table : Table) → KeepsNames table.symbols (with_addend pos addend table).symbols
addend_keeps pos addends.Nothing table = keeps_same table.symbols
addend_keeps pos (addends.Plus summand) table = tree_keeps pos (summand_tree summand) table
addend_keeps pos (addends.Minus summand) table = tree_keeps pos (summand_tree summand) table

module _ (old new : SymbolMap) (keeps : KeepsNames old new) where
  symbol_kept : (meant : Written) (operand : Operand) → IsSymbol old meant operand → IsSymbol new meant operand
  symbol_kept meant (operands.Symbol index) is =
      ap (λ counts. index_of (meant_name counts meant) (names new.symbols)) keeps.counts ∙ keeps.found (meant_name old.counts meant) index is
  symbol_kept meant (operands.Number value) is = is
  symbol_kept meant operands.Here is = is

  operand_kept : (summand : Summand) (operand : Operand) → IsOperand old summand operand → IsOperand new summand operand
  operand_kept (summands.Number value) operand is = is
  operand_kept (summands.Name token) operand is = symbol_kept (written.Plain token.now.bytes.now) operand is
  operand_kept (summands.Back digits) operand is = symbol_kept (written.Back digits) operand is
  operand_kept (summands.Next digits) operand is = symbol_kept (written.Next digits) operand is
  operand_kept summands.Here operand is = is

  pub added_kept : (addend : Addend) (added : Added) → IsAdded old addend added → IsAdded new addend added
  added_kept addends.Nothing Nothing is = is
  added_kept addends.Nothing (Plus operand) is = is
  added_kept addends.Nothing (Minus operand) is = is
  added_kept (addends.Plus summand) Nothing is = is
  added_kept (addends.Plus summand) (Plus operand) is = operand_kept summand operand is
  added_kept (addends.Plus summand) (Minus operand) is = is
  added_kept (addends.Minus summand) Nothing is = is
  added_kept (addends.Minus summand) (Plus operand) is = is
  added_kept (addends.Minus summand) (Minus operand) is = operand_kept summand operand is

  pub named_kept : (sum : Sum) (named : SymbolSum) → IsNamed old sum named → IsNamed new sum named
  named_kept sum named is = record {
    first = operand_kept sum.first named.first is.first;
    second = added_kept sum.second named.second is.second;
  }

-- a sum that is named stays so while the names of another become symbols
pub named_stays : (pos : Pos) (tree : Tree) (old new : Table) (sum : Sum) (named : SymbolSum) → new ≡ with_tree pos tree old
    → IsNamed old.symbols sum named → IsNamed new.symbols sum named
named_stays pos tree old new sum named is first =
    subst (λ (table : Table). IsNamed table.symbols sum named) (sym is) (named_kept old.symbols (with_tree pos tree old).symbols (tree_keeps pos tree old) sum named first)

pub names_added : (pos : Pos) (tree : Tree) (addend : Addend) (table : Table)
    → with_addend pos addend (with_tree pos tree table) ≡ with_tree pos (added_tree tree addend) table
unfolding with_tree
names_added pos tree addends.Nothing table = refl
names_added pos tree (addends.Plus summand) table = refl
names_added pos tree (addends.Minus summand) table = refl

pub meant_added : (counts : List (ℕ × ℕ)) (tree : Tree) (addend : Addend)
    → (is_meant counts tree && is_addend_meant counts addend) ≡ is_meant counts (added_tree tree addend)
unfolding is_meant
meant_added counts tree addends.Nothing = by (is_meant counts tree)
  where
    by : (meant : Bool) → (meant && true) ≡ meant
    by true = refl
    by false = refl
meant_added counts tree (addends.Plus summand) = refl
meant_added counts tree (addends.Minus summand) = refl

-- the names of a sum become symbols
pub sum_names : (pos : Pos) (sum : Sum) (table first second : Table) → first ≡ with_tree pos (summand_tree sum.first) table
    → second ≡ with_addend pos sum.second first → second ≡ with_tree pos (sum_tree sum) table
sum_names pos sum table first second one two =
    two ∙ (ap (with_addend pos sum.second) one ∙ names_added pos (summand_tree sum.first) sum.second table)

-- whether each of them means a label that came before
pub sum_meant : (counts : List (ℕ × ℕ)) (sum : Sum) (one two : Bool) → one ≡ is_meant counts (summand_tree sum.first) → two ≡ is_addend_meant counts sum.second
    → (one && two) ≡ is_meant counts (sum_tree sum)
sum_meant counts sum one two one_is two_is = rw (one_is, two_is) (meant_added counts (summand_tree sum.first) sum.second)

-- what each summand stands for is what it stands for when all names are symbols
pub sum_named : (pos : Pos) (sum : Sum) (first second : Table) (named : SymbolSum) → second ≡ with_addend pos sum.second first
    → IsOperand first.symbols sum.first named.first → IsAdded second.symbols sum.second named.second → IsNamed second.symbols sum named
sum_named pos sum first second named two one_is two_is =
    let on : KeepsNames first.symbols second.symbols = subst (λ (table : Table). KeepsNames first.symbols table.symbols) (sym two) (addend_keeps pos sum.second first) in
    record {
      first = operand_kept first.symbols second.symbols on sum.first named.first one_is;
      second = two_is;
    }
