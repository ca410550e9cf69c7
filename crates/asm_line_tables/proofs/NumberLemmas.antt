-- Numbers alone are read, counted and named as their statement has it.
use Rattle.std.proofs.Common.{◌≡◌, ◌≤◌, ℕ, true, ◌&&◌, List, [], ◌∷◌, ◌++◌, length, map, drop, Result, Ok, Err, refl, sym, ap, ◌∙◌, append_assoc, append-nil}
use Rattle.std.specs.List.{list_all}
use Rattle.std.proofs.lemmas.List.{map-append, drop_all}
use Rattle.std.proofs.lemmas.List.Folds.{list_all-append}
use Rattle.asm_base.specs.declared.positions.Pos.{Pos}
use Rattle.asm_base.specs.Refusals.{◌>>=◌}
use Rattle.asm_base.specs.Tokens.{SpelledToken}
use Rattle.asm_expr.specs.Forms.{Form, constant_form}
use Rattle.asm_expr.specs.Knowledge.{Knowledge}
use Rattle.asm_expr.specs.NamesOf.{names_of}
use Rattle.asm_expr.specs.Trees.{Tree, number, name, here, unary, binary}
use Rattle.asm_operands.specs.Constants.{IsConstant}
use Rattle.asm_operands.specs.declared.place_faults.PlaceCause.{PlaceCause}
use Rattle.asm_operands.specs.ExprFaults.{in_statement}
use Rattle.asm_operands.specs.Expressions.{alone, expression_of, form_in, constant_in}
use Rattle.asm_operands.specs.Operands.{each}
use Rattle.asm_uses.specs.Tables.{Table, with_tree, with_trees, is_meant, are_meant, naming_of}
use Rattle.asm_values.specs.ConstantOperands.{NamesNothing, no_naming}
use Rattle.asm_line_tables.specs.declared.words.LocNumbers.{LocNumbers}
use Rattle.asm_line_tables.specs.declared.words.LocValue.{LocValue}
use Rattle.asm_line_tables.specs.Constants.{IsFrontNumber, AddsNumber, AreNumbers}
use Rattle.asm_line_tables.specs.Numbers.{no_numbers, with_numbers}
use Rattle.asm_line_tables.specs.Parts.{front, behind_front}
use Rattle.asm_line_tables.specs.Placing.{known_numbers}
use Rattle.asm_line_tables.specs.Words.{LocWords}

-- ONE NUMBER

front_none : {X : Type 0} (xs ys : List X) → xs ++ ys ≡ [] → xs ≡ []
front_none [] ys none = refl
front_none (x ∷ xs) ys none = cc

back_none : {X : Type 0} (xs ys : List X) → xs ++ ys ≡ [] → ys ≡ []
back_none [] ys none = none
back_none (x ∷ xs) ys none = cc

-- an expression without names
tree_names : (pos : Pos) (tree : Tree) (table : Table) → names_of tree ≡ [] → with_tree pos tree table ≡ table
unfolding with_tree
tree_names pos (number value) table none = refl
tree_names pos (name written) table none = cc
tree_names pos here table none = refl
tree_names pos (unary op operand) table none = tree_names pos operand table none
tree_names pos (binary op left right) table none =
    ap (with_tree pos right) (tree_names pos left table (front_none (names_of left) (names_of right) none))
    ∙ tree_names pos right table (back_none (names_of left) (names_of right) none)

tree_meant : (counts : List (ℕ × ℕ)) (tree : Tree) → names_of tree ≡ [] → is_meant counts tree ≡ true
unfolding is_meant
tree_meant counts (number value) none = refl
tree_meant counts (name written) none = cc
tree_meant counts here none = refl
tree_meant counts (unary op operand) none = tree_meant counts operand none
tree_meant counts (binary op left right) none =
    ap (λ meant. meant && is_meant counts right) (tree_meant counts left (front_none (names_of left) (names_of right) none))
    ∙ tree_meant counts right (back_none (names_of left) (names_of right) none)

one_nothing : (tree : Tree) → names_of tree ≡ [] → NamesNothing (tree ∷ [])
unfolding with_trees are_meant
one_nothing tree none = record {
  names = λ pos table. tree_names pos tree table none;
  meant = λ counts. ap (λ meant. meant && true) (tree_meant counts tree none);
}

-- a number that is found is the expression at the front
pub number_found : (tokens operand left behind : List SpelledToken) (value : ℕ) → operand ≡ front tokens → left ≡ behind_front tokens → behind ≡ left
    → IsConstant operand value → IsFrontNumber tokens behind value
unfolding expression_of form_in
number_found tokens operand left behind value is left_is behind_is one = record {
  tree = one.tree;
  reads = ap expression_of (sym is) ∙ ap (λ read. in_statement read >>= λ found. alone found.rest found.tree) one.reads;
  counts = λ known. ap in_statement (one.counts known);
  names = one_nothing one.tree one.names;
  rest = behind_is ∙ left_is;
}

-- SEVERAL

none_nothing : NamesNothing []
unfolding with_trees are_meant
none_nothing = record { names = λ pos table. refl; meant = λ counts. refl }

trees_on : (pos : Pos) (trees more : List Tree) (table : Table) → with_trees pos (trees ++ more) table ≡ with_trees pos more (with_trees pos trees table)
unfolding with_trees
trees_on pos [] more table = refl
trees_on pos (tree ∷ trees) more table = trees_on pos trees more (with_tree pos tree table)

-- expressions more
more_nothing : (trees more : List Tree) → NamesNothing trees → NamesNothing more → NamesNothing (trees ++ more)
unfolding are_meant
more_nothing trees more first later = record {
  names = λ pos table. trees_on pos trees more table ∙ (ap (with_trees pos more) (first.names pos table) ∙ later.names pos table);
  meant = λ counts.
      list_all-append (is_meant counts) trees more
      ∙ (ap (λ meant. meant && list_all (is_meant counts) more) (first.meant counts) ∙ later.meant counts);
}

pub nothing_named : (trees : List Tree) (table : Table) → NamesNothing trees → naming_of trees table ≡ no_naming table
nothing_named trees table none = ap (λ meant. record { before = length table.symbols.symbols; meant = meant }) (none.meant table.symbols.counts)

-- the values of numbers
values_so : (values : List ℕ) → each constant_in (map constant_form values) ≡ Ok values
unfolding each constant_in
values_so [] = refl
values_so (value ∷ values) = ap (λ others. others >>= λ others. Ok (value ∷ others)) (values_so values)

ok_part : (one other : List Form) → ◌≡◌ {A = Result (List Form) PlaceCause} (Ok one) (Ok other) → one ≡ other
ok_part one other is = cc

-- the forms of expressions, and of those behind them
forms_on : (known : Knowledge) (trees more : List Tree) (forms others : List Form) → each (form_in known) trees ≡ Ok forms → each (form_in known) more ≡ Ok others
    → each (form_in known) (trees ++ more) ≡ Ok (forms ++ others)
unfolding each
forms_on known [] more forms others is later = later ∙ ap (λ (these : List Form). Ok (these ++ others)) (ok_part [] forms is)
forms_on known (tree ∷ trees) more forms others is later = by (form_in known tree) (each (form_in known) trees) is (λ behind so. forms_on known trees more behind others so later)
  where
    by : (first : Result Form PlaceCause) (rest : Result (List Form) PlaceCause)
        → (first >>= λ first. rest >>= λ behind. Ok (first ∷ behind)) ≡ Ok forms
        → ((behind : List Form) → rest ≡ Ok behind → each (form_in known) (trees ++ more) ≡ Ok (behind ++ others))
        → (first >>= λ first. each (form_in known) (trees ++ more) >>= λ behind. Ok (first ∷ behind)) ≡ Ok (forms ++ others)
    by (Ok first) (Ok behind) is on =
        ap (λ (made : Result (List Form) PlaceCause). made >>= λ behind. Ok (first ∷ behind)) (on behind refl)
        ∙ ap (λ (these : List Form). Ok (these ++ others)) (ok_part (first ∷ behind) forms is)
    by (Ok first) (Err fault) is on = absurd cc
    by (Err fault) rest is on = absurd cc

-- no number
pub no_number : (numbers : LocNumbers) → AreNumbers [] [] numbers numbers
unfolding each
no_number numbers = record { values = []; counts = λ known. refl; names = none_nothing; added = λ more others. refl }

-- one number
pub one_number : (kind : LocValue) (tokens behind : List SpelledToken) (before after : LocNumbers) (one : AddsNumber kind tokens behind before after)
    → AreNumbers (kind ∷ []) (one.one.tree ∷ []) before after
unfolding each
one_number kind tokens behind before after one = record {
  values = one.value ∷ [];
  counts = λ known. ap (λ form. form >>= λ first. Ok (first ∷ [])) (one.one.counts known);
  names = one.one.names;
  added = λ more others. ap (λ made. made >>= with_numbers more others) one.added;
}

-- numbers, and others behind them
pub more_numbers : (kinds more : List LocValue) (trees others : List Tree) (before middle after : LocNumbers) → AreNumbers kinds trees before middle → AreNumbers more others middle after
    → AreNumbers (kinds ++ more) (trees ++ others) before after
more_numbers kinds more trees others before middle after first later = record {
  values = first.values ++ later.values;
  counts = λ known.
      forms_on known trees others (map constant_form first.values) (map constant_form later.values) (first.counts known) (later.counts known)
      ∙ ap Ok (sym (map-append constant_form first.values later.values));
  names = more_nothing trees others first.names later.names;
  added = λ kinds_more values_more.
      ap (λ these. with_numbers these ((first.values ++ later.values) ++ values_more) before) (append_assoc kinds more kinds_more)
      ∙ ap (λ these. with_numbers (kinds ++ (more ++ kinds_more)) these before) (append_assoc first.values later.values values_more)
      ∙ first.added (more ++ kinds_more) (later.values ++ values_more) ∙ later.added kinds_more values_more;
}

-- the numbers that words are
pub known_so : (known : Knowledge) (words : LocWords) (numbers : LocNumbers) → AreNumbers words.kinds words.trees no_numbers numbers → known_numbers known words ≡ Ok numbers
unfolding known_numbers
known_so known words numbers are =
    ap (λ made. made >>= λ forms. each constant_in forms >>= λ values. with_numbers words.kinds values no_numbers) (are.counts known)
    ∙ ap (λ made. made >>= λ values. with_numbers words.kinds values no_numbers) (values_so are.values)
    ∙ ap (λ kinds. with_numbers kinds are.values no_numbers) (sym (append-nil words.kinds))
    ∙ ap (λ values. with_numbers (words.kinds ++ []) values no_numbers) (sym (append-nil are.values))
    ∙ are.added [] []

-- no value is left
pub no_value : (kinds : List LocValue) (values : List ℕ) (index : ℕ) (numbers : LocNumbers) → length values ≤ index → with_numbers kinds (drop index values) numbers ≡ Ok numbers
no_value [] values index numbers within = refl
no_value (kind ∷ kinds) values index numbers within = ap (λ values. with_numbers (kind ∷ kinds) values numbers) (drop_all index values within)
