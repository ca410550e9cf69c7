-- Expressions without names, or whose names have symbols, make no symbol, and are refused by no limit of symbols.
use Rattle.std.proofs.Common.{◌≡◌, ℕ, ◌&&◌, ◌||◌, nat_lt, nat_le, Bool, true, false, cond, List, [], ◌∷◌, ◌++◌, length, Some, is_some, Ok, Err, refl, ap, ◌∙◌, arith}
use Rattle.std.specs.List.{All, list_all}
use Rattle.std.proofs.lemmas.List.Elements.{All-cons, All-head, All-nil, All-tail}
use Rattle.std.proofs.lemmas.List.Folds.{list_all-append}
use Rattle.asm_base.specs.declared.positions.Pos.{Pos}
use Rattle.std.proofs.lemmas.Bool.Decides.{nat_tests}
use Rattle.asm_expr.specs.NamesOf.{names_of}
use Rattle.asm_expr.specs.Trees.{Tree, number, name, here, unary, binary}
use Rattle.asm_expr.specs.declared.naming.Name.{Name}
use Rattle.asm_expr.specs.declared.naming.Name.TheVariants as naming
use Rattle.asm_expr.specs.declared.trees.Written.{Written}
use Rattle.asm_expr.specs.declared.trees.Written.TheVariants.{Plain, Back, Next}
use Rattle.asm_symbols.specs.Counting.{meant_name, may_be_meant}
use Rattle.asm_symbols.specs.Interning.{is_within_limits, interned}
use Rattle.asm_symbols.specs.Interning.{with_name as with_symbol}
use Rattle.asm_symbols.specs.SymbolMap.{SymbolMap, names, index_of}
use Rattle.asm_operands.specs.declared.place_faults.PlaceCause.TheVariants.{BadSymbolUse}
use Rattle.asm_values.specs.ConstantOperands.{NamesNothing, no_naming}
use Rattle.asm_uses.specs.Tables.{Table, named_in, with_name, with_tree, with_trees, is_meant, are_meant, naming_of, allowed}
use Rattle.asm_uses.specs.Values.{HasSymbol}

module _ {X : Type 0} where
  front_none : (xs ys : List X) → xs ++ ys ≡ [] → xs ≡ []
  front_none [] ys none = refl
  front_none (x ∷ xs) ys none = cc

  back_none : (xs ys : List X) → xs ++ ys ≡ [] → ys ≡ []
  back_none [] ys none = none
  back_none (x ∷ xs) ys none = cc

-- one expression
pub tree_names : (pos : Pos) (tree : Tree) (table : Table) → names_of tree ≡ [] → with_tree pos tree table ≡ table
unfolding with_tree
tree_names pos (number value) table none = refl
tree_names pos (name written) table none = cc
tree_names pos here table none = refl
tree_names pos (unary op operand) table none = tree_names pos operand table none
tree_names pos (binary op left right) table none =
    ap (with_tree pos right) (tree_names pos left table (front_none (names_of left) (names_of right) none))
    ∙ tree_names pos right table (back_none (names_of left) (names_of right) none)

pub tree_meant : (counts : List (ℕ × ℕ)) (tree : Tree) → names_of tree ≡ [] → is_meant counts tree ≡ true
unfolding is_meant
tree_meant counts (number value) none = refl
tree_meant counts (name written) none = cc
tree_meant counts here none = refl
tree_meant counts (unary op operand) none = tree_meant counts operand none
tree_meant counts (binary op left right) none =
    ap (λ meant. meant && is_meant counts right) (tree_meant counts left (front_none (names_of left) (names_of right) none))
    ∙ tree_meant counts right (back_none (names_of left) (names_of right) none)

pub one_nothing : (tree : Tree) → names_of tree ≡ [] → NamesNothing (tree ∷ [])
unfolding with_trees are_meant
one_nothing tree none = record {
  names = λ pos table. tree_names pos tree table none;
  meant = λ counts. ap (λ meant. meant && true) (tree_meant counts tree none);
}

-- several expressions
pub none_nothing : NamesNothing []
unfolding with_trees are_meant
none_nothing = record { names = λ pos table. refl; meant = λ counts. refl }

trees_on : (pos : Pos) (trees more : List Tree) (table : Table) → with_trees pos (trees ++ more) table ≡ with_trees pos more (with_trees pos trees table)
unfolding with_trees
trees_on pos [] more table = refl
trees_on pos (tree ∷ trees) more table = trees_on pos trees more (with_tree pos tree table)

pub more_nothing : (trees more : List Tree) → NamesNothing trees → NamesNothing more → NamesNothing (trees ++ more)
unfolding are_meant
more_nothing trees more first later = record {
  names = λ pos table. trees_on pos trees more table ∙ (ap (with_trees pos more) (first.names pos table) ∙ later.names pos table);
  meant = λ counts.
      list_all-append (is_meant counts) trees more
      ∙ (ap (λ meant. meant && list_all (is_meant counts) more) (first.meant counts) ∙ later.meant counts);
}

-- no symbol came
le_same : (n : ℕ) → nat_le n n ≡ true
le_same n = by (nat_le n n) refl
  where
    by : (test : Bool) → nat_le n n ≡ test → test ≡ true
    by true is = refl
    by false is = absurd (grind (arith, nat_tests))

pub none_allowed : (table : Table) → allowed (no_naming table) table ≡ Ok table
unfolding allowed
none_allowed table =
    ap (λ few. cond (few || is_within_limits table.symbols) (Ok table) (Err BadSymbolUse)) (le_same (length table.symbols.symbols))

pub nothing_named : (trees : List Tree) (table : Table) → NamesNothing trees → naming_of trees table ≡ no_naming table
nothing_named trees table none = ap (λ meant. record { before = length table.symbols.symbols; meant = meant }) (none.meant table.symbols.counts)

-- names that have symbols make none
lt_same : (n : ℕ) → nat_lt n n ≡ false
lt_same n = by (nat_lt n n) refl
  where
    by : (test : Bool) → nat_lt n n ≡ test → test ≡ false
    by true is = absurd (grind (arith, nat_tests))
    by false is = refl

kept_name : (pos : Pos) (named : Name) (table : Table) (index : ℕ) → index_of named (names table.symbols.symbols) ≡ Some index → with_name pos named table ≡ table
unfolding with_name interned
kept_name pos named table index is =
    ap (λ found. named_in pos table (cond (is_some found) table.symbols (with_symbol table.symbols named))) is
    ∙ ap (λ (came : Bool). record { symbols = table.symbols; named = cond came (table.named ++ pos ∷ []) table.named; sized = table.sized }) (lt_same (length table.symbols.symbols))

module _ {X : Type 0} (P : X → Type 0) where
  all_front : (xs ys : List X) → All P (xs ++ ys) → All P xs
  all_front [] ys all = All-nil P
  all_front (x ∷ xs) ys all = All-cons P x xs (All-head P x (xs ++ ys) all) (all_front xs ys (All-tail P x (xs ++ ys) all))

  all_back : (xs ys : List X) → All P (xs ++ ys) → All P ys
  all_back [] ys all = all
  all_back (x ∷ xs) ys all = all_back xs ys (All-tail P x (xs ++ ys) all)

kept_written : (pos : Pos) (written : Written) (table : Table) → HasSymbol table.symbols written → with_name pos (meant_name table.symbols.counts written) table ≡ table
kept_written pos (Plain text) table has = kept_name pos (naming.Plain text) table has.0 has.1
kept_written pos (Back digits) table has = absurd has
kept_written pos (Next digits) table has = absurd has

pub tree_kept : (pos : Pos) (tree : Tree) (table : Table) → All (HasSymbol table.symbols) (names_of tree) → with_tree pos tree table ≡ table
unfolding with_tree
tree_kept pos (number value) table all = refl
tree_kept pos (name written) table all = kept_written pos written table (All-head (HasSymbol table.symbols) written [] all)
tree_kept pos here table all = refl
tree_kept pos (unary op operand) table all = tree_kept pos operand table all
tree_kept pos (binary op left right) table all =
    ap (with_tree pos right) (tree_kept pos left table (all_front (HasSymbol table.symbols) (names_of left) (names_of right) all))
    ∙ tree_kept pos right table (all_back (HasSymbol table.symbols) (names_of left) (names_of right) all)

written_meant : (map : SymbolMap) (written : Written) → HasSymbol map written → may_be_meant map.counts written ≡ true
written_meant map (Plain text) has = refl
written_meant map (Back digits) has = absurd has
written_meant map (Next digits) has = absurd has

pub tree_named : (map : SymbolMap) (tree : Tree) → All (HasSymbol map) (names_of tree) → is_meant map.counts tree ≡ true
unfolding is_meant
tree_named map (number value) all = refl
tree_named map (name written) all = written_meant map written (All-head (HasSymbol map) written [] all)
tree_named map here all = refl
tree_named map (unary op operand) all = tree_named map operand all
tree_named map (binary op left right) all =
    ap (λ meant. meant && is_meant map.counts right) (tree_named map left (all_front (HasSymbol map) (names_of left) (names_of right) all))
    ∙ tree_named map right (all_back (HasSymbol map) (names_of left) (names_of right) all)
