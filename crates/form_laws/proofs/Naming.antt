-- The names of expressions are symbols where their forms are made.
use Rattle.std.proofs.Common.{◌≡◌, ℕ, ◌+◌, ◌<◌, Bool, true, false, cond, List, [], ◌∷◌, ◌++◌, length, map, Option, None, Some, refl, sym, ap, subst, ◌∙◌, arith, eq-eqb}
use Rattle.std.specs.Prelude.{option_map, is_some, unwrap_or}
use Rattle.std.specs.Cmp.Lexicographic.{bytes_decides}
use Rattle.std.specs.Str.{bytes_eq}
use Rattle.std.proofs.lemmas.List.{map-append}
use Rattle.std.proofs.lemmas.Option.{none-some}
use Rattle.asm_base.specs.declared.positions.Pos.{Pos}
use Rattle.asm_expr.specs.declared.naming.Name.{Name}
use Rattle.asm_expr.specs.declared.naming.Name.TheVariants as naming
use Rattle.asm_expr.specs.declared.trees.Written.{Written}
use Rattle.asm_expr.specs.Names.{same_name}
use Rattle.asm_expr.specs.Trees.{Tree}
use Rattle.asm_expr.specs.Trees as expr
use Rattle.asm_symbols.specs.declared.entries.Symbol.{Symbol}
use Rattle.asm_symbols.specs.SymbolMap.{SymbolMap, names, index_of}
use Rattle.asm_symbols.specs.Counting.{meant_name}
use Rattle.asm_symbols.specs.Interning.{undefined, with_name, interned, number_of}
use Rattle.asm_uses.specs.Tables.{Table, with_name as table_with_name, with_tree, with_trees}
use Rattle.form_laws.proofs.Tables.{index_low, names_long}

-- NAMES

own_bytes : (text : List ℕ) → bytes_eq text text ≡ true
own_bytes text = (bytes_decides text text).1 refl

own_name : (name : Name) → same_name name name ≡ true
own_name (naming.Plain text) = own_bytes text
own_name (naming.Numeric number instance) = rw (eq-eqb number number refl, eq-eqb instance instance refl) refl
own_name (naming.Place section item offset) = rw (eq-eqb section section refl, eq-eqb item item refl, eq-eqb offset offset refl) refl

-- the name is that of a symbol
pub record IsNamed (map : SymbolMap) (name : Name) : Type 0 where
  pub index : ℕ
  pub found : index_of name (names map.symbols) ≡ Some index

-- its number is below that of symbols
pub number_low : (map : SymbolMap) (name : Name) → IsNamed map name → number_of map name < length map.symbols
unfolding number_of
number_low map name is =
    let low = index_low name (names map.symbols) is.index is.found in
    let long = names_long map.symbols in
    let number : unwrap_or (index_of name (names map.symbols)) (length map.symbols) ≡ is.index = ap (λ (o : Option ℕ). unwrap_or o (length map.symbols)) is.found in
    omega (arith, low, long, number)

-- it is found also where names come behind
front_found : (name : Name) (all more : List Name) (index : ℕ) → index_of name all ≡ Some index → index_of name (all ++ more) ≡ Some index
front_found name [] more index is = absurd (none-some index is)
front_found name (first ∷ rest) more index is = by (same_name name first) (index_of name rest) (λ number. front_found name rest more number) is
  where
    by : (b : Bool) (found : Option ℕ) → ((number : ℕ) → found ≡ Some number → index_of name (rest ++ more) ≡ Some number)
        → cond b (Some 0) (option_map (λ number. number + 1) found) ≡ Some index
        → cond b (Some 0) (option_map (λ number. number + 1) (index_of name (rest ++ more))) ≡ Some index
    by true found later has = has
    by false None later has = absurd (none-some index has)
    by false (Some number) later has = ap (option_map (λ number. number + 1)) (later number refl) ∙ has

-- the last name is found, if none before it
last_found : (name : Name) (all : List Name) → (index : ℕ) × (index_of name (all ++ name ∷ []) ≡ Some index)
last_found name [] = (0, ap (λ (b : Bool). cond b (Some 0) None) (own_name name))
last_found name (first ∷ rest) = by (same_name name first) (last_found name rest)
  where
    by : (b : Bool) → (index : ℕ) × (index_of name (rest ++ name ∷ []) ≡ Some index)
        → (index : ℕ) × (cond b (Some 0) (option_map (λ number. number + 1) (index_of name (rest ++ name ∷ []))) ≡ Some index)
    by true later = (0, refl)
    by false later = (later.0 + 1, ap (option_map (λ number. number + 1)) later.1)

pushed_names : (map' : SymbolMap) (name : Name) → names (with_name map' name).symbols ≡ names map'.symbols ++ name ∷ []
pushed_names map' name = map-append (λ (symbol : Symbol). symbol.name) map'.symbols (undefined name ∷ [])

push_named : (map' : SymbolMap) (name : Name) → IsNamed (with_name map' name) name
push_named map' name =
    let last = last_found name (names map'.symbols) in
    record { index = last.0; found = ap (index_of name) (pushed_names map' name) ∙ last.1 }

push_keeps_named : (map' : SymbolMap) (name other : Name) → IsNamed map' name → IsNamed (with_name map' other) name
push_keeps_named map' name other is =
    record { index = is.index; found = ap (index_of name) (pushed_names map' other) ∙ front_found name (names map'.symbols) (other ∷ []) is.index is.found }

found_named : (map' : SymbolMap) (name : Name) (found : Option ℕ) → index_of name (names map'.symbols) ≡ found → is_some found ≡ true → IsNamed map' name
found_named map' name None is some = absurd cc
found_named map' name (Some index) is some = record { index = index; found = is }

interned_named : (map' : SymbolMap) (name : Name) → IsNamed (interned map' name) name
unfolding interned
interned_named map' name = by (is_some (index_of name (names map'.symbols))) refl
  where
    by : (b : Bool) → is_some (index_of name (names map'.symbols)) ≡ b → IsNamed (cond b map' (with_name map' name)) name
    by true is = found_named map' name (index_of name (names map'.symbols)) refl is
    by false is = push_named map' name

interned_keeps_named : (map' : SymbolMap) (name other : Name) → IsNamed map' name → IsNamed (interned map' other) name
unfolding interned
interned_keeps_named map' name other named = by (is_some (index_of other (names map'.symbols)))
  where
    by : (b : Bool) → IsNamed (cond b map' (with_name map' other)) name
    by true = named
    by false = push_keeps_named map' name other named

interned_counts : (map' : SymbolMap) (name : Name) → (interned map' name).counts ≡ map'.counts
unfolding interned
interned_counts map' name = by (is_some (index_of name (names map'.symbols)))
  where
    by : (b : Bool) → (cond b map' (with_name map' name)).counts ≡ map'.counts
    by true = refl
    by false = refl

-- EXPRESSIONS

-- this holds of each name of the tree
abbrev pub EachName : (Written → Type 0) → Tree → Type 0
EachName Holds (expr.number value) = Unit {0}
EachName Holds (expr.name written) = Holds written
EachName Holds expr.here = Unit {0}
EachName Holds (expr.unary op operand) = EachName Holds operand
EachName Holds (expr.binary op left right) = EachName Holds left × EachName Holds right

pub each_weaker : (Holds Also : Written → Type 0) → ((written : Written) → Holds written → Also written) → (tree : Tree) → EachName Holds tree → EachName Also tree
each_weaker Holds Also more (expr.number value) all = tt
each_weaker Holds Also more (expr.name written) all = more written all
each_weaker Holds Also more expr.here all = tt
each_weaker Holds Also more (expr.unary op operand) all = each_weaker Holds Also more operand all
each_weaker Holds Also more (expr.binary op left right) all = (each_weaker Holds Also more left all.0, each_weaker Holds Also more right all.1)

-- what it means is the name of a symbol
abbrev pub IsMeant : SymbolMap → Written → Type 0
IsMeant map' written = IsNamed map' (meant_name map'.counts written)

name_counts : (pos : Pos) (name : Name) (table : Table) → (table_with_name pos name table).symbols.counts ≡ table.symbols.counts
unfolding table_with_name
name_counts pos name table = interned_counts table.symbols name

tree_counts : (pos : Pos) (tree : Tree) (table : Table) → (with_tree pos tree table).symbols.counts ≡ table.symbols.counts
unfolding with_tree
tree_counts pos (expr.number value) table = refl
tree_counts pos (expr.name written) table = name_counts pos (meant_name table.symbols.counts written) table
tree_counts pos expr.here table = refl
tree_counts pos (expr.unary op operand) table = tree_counts pos operand table
tree_counts pos (expr.binary op left right) table = tree_counts pos right (with_tree pos left table) ∙ tree_counts pos left table

name_keeps_named : (pos : Pos) (name other : Name) (table : Table) → IsNamed table.symbols name → IsNamed (table_with_name pos other table).symbols name
unfolding table_with_name
name_keeps_named pos name other table named = interned_keeps_named table.symbols name other named

name_named : (pos : Pos) (name : Name) (table : Table) → IsNamed (table_with_name pos name table).symbols name
unfolding table_with_name
name_named pos name table = interned_named table.symbols name

tree_keeps_named : (pos : Pos) (tree : Tree) (name : Name) (table : Table) → IsNamed table.symbols name → IsNamed (with_tree pos tree table).symbols name
unfolding with_tree
tree_keeps_named pos (expr.number value) name table named = named
tree_keeps_named pos (expr.name written) name table named = name_keeps_named pos name (meant_name table.symbols.counts written) table named
tree_keeps_named pos expr.here name table named = named
tree_keeps_named pos (expr.unary op operand) name table named = tree_keeps_named pos operand name table named
tree_keeps_named pos (expr.binary op left right) name table named =
    tree_keeps_named pos right name (with_tree pos left table) (tree_keeps_named pos left name table named)

-- a name that is meant stays meant
meant_stays : (pos : Pos) (tree : Tree) (table : Table) (written : Written) → IsMeant table.symbols written → IsMeant (with_tree pos tree table).symbols written
meant_stays pos tree table written meant =
    subst (λ (counts : List (ℕ × ℕ)). IsNamed (with_tree pos tree table).symbols (meant_name counts written)) (sym (tree_counts pos tree table))
    (tree_keeps_named pos tree (meant_name table.symbols.counts written) table meant)

pub tree_stays : (pos : Pos) (tree other : Tree) (table : Table) → EachName (IsMeant table.symbols) tree → EachName (IsMeant (with_tree pos other table).symbols) tree
tree_stays pos tree other table all = each_weaker (IsMeant table.symbols) (IsMeant (with_tree pos other table).symbols) (meant_stays pos other table) tree all

-- each name of the tree means a symbol
pub tree_meant : (pos : Pos) (tree : Tree) (table : Table) → EachName (IsMeant (with_tree pos tree table).symbols) tree
unfolding with_tree
tree_meant pos (expr.number value) table = tt
tree_meant pos (expr.name written) table =
    subst (λ (counts : List (ℕ × ℕ)). IsNamed (table_with_name pos (meant_name table.symbols.counts written) table).symbols (meant_name counts written))
    (sym (name_counts pos (meant_name table.symbols.counts written) table)) (name_named pos (meant_name table.symbols.counts written) table)
tree_meant pos expr.here table = tt
tree_meant pos (expr.unary op operand) table = tree_meant pos operand table
tree_meant pos (expr.binary op left right) table =
    (tree_stays pos left right (with_tree pos left table) (tree_meant pos left table), tree_meant pos right (with_tree pos left table))

-- so do those of two trees
pub both_meant : (pos : Pos) (one other : Tree) (table : Table)
    → EachName (IsMeant (with_trees pos (one ∷ other ∷ []) table).symbols) one × EachName (IsMeant (with_trees pos (one ∷ other ∷ []) table).symbols) other
unfolding with_trees
both_meant pos one other table =
    (tree_stays pos one other (with_tree pos one table) (tree_meant pos one table), tree_meant pos other (with_tree pos one table))
