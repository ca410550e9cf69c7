-- Changes of the symbol table by which no symbol goes and no form comes.
use Rattle.std.proofs.Common.{◌≡◌, ℕ, suc, ◌+◌, ◌<◌, Bool, true, false, cond, List, [], ◌∷◌, length, Option, None, Some, Result, Ok, Err, refl, ap, arith}
use Rattle.std.specs.Prelude.{◌&&◌, ◌||◌, nat_le, unwrap_or, option_map}
use Rattle.std.proofs.lemmas.Option.{none-some, same_Some}
use Rattle.asm_base.specs.Refusals.{◌>>=◌}
use Rattle.asm_base.specs.Tokens.{SpelledToken}
use Rattle.asm_base.specs.declared.positions.Pos.{Pos}
use Rattle.asm_base.specs.declared.tokens.TokenKind.{TokenKind}
use Rattle.asm_base.specs.declared.tokens.TokenKind.TheVariants as token
use Rattle.asm_base.specs.declared.causes.SymCause.{SymCause}
use Rattle.asm_expr.specs.declared.naming.Name.{Name}
use Rattle.asm_expr.specs.declared.naming.Name.TheVariants as naming
use Rattle.asm_expr.specs.Names.{same_name}
use Rattle.asm_expr.specs.Forms.{Form}
use Rattle.asm_expr.specs.Trees.{Tree}
use Rattle.asm_expr.specs.Trees as expr
use Rattle.expr_texts.specs.Numbers.{numeral}
use Rattle.asm_operands.specs.ExprFaults.{in_statement}
use Rattle.asm_operands.specs.LayerFaults.{of_symbols}
use Rattle.asm_operands.specs.Operands.{symbol_name}
use Rattle.asm_operands.specs.Results.{all_steps}
use Rattle.asm_operands.specs.declared.place_faults.PlaceCause.{PlaceCause}
use Rattle.asm_operands.specs.declared.place_faults.PlaceCause.TheVariants.{BadSymbolUse}
use Rattle.asm_symbols.specs.declared.entries.Definition.{Definition}
use Rattle.asm_symbols.specs.declared.entries.Definition.TheVariants.{Label}
use Rattle.asm_symbols.specs.declared.entries.Spot.{Spot}
use Rattle.asm_symbols.specs.declared.entries.Symbol.{Symbol}
use Rattle.asm_symbols.specs.declared.entries.SymbolAttribute.{SymbolAttribute}
use Rattle.asm_symbols.specs.SymbolMap.{SymbolMap, names, index_of}
use Rattle.asm_symbols.specs.Counting.{meant_name, next_named}
use Rattle.asm_symbols.specs.Defining.{defined}
use Rattle.asm_symbols.specs.Interning.{is_within_limits, named, number_of, with_file}
use Rattle.asm_uses.specs.Attributes.{said, sized, say_all, as_space, define_space}
use Rattle.asm_uses.specs.Labels.{named_symbol, label_by, label_symbol}
use Rattle.asm_uses.specs.Places.{here_name, here_by, name_here, end_naming}
use Rattle.asm_uses.specs.Tables.{Table, with_map, found_in, symbol_of, next_symbol, changed_by, change_named, file_named, with_name, with_tree, with_trees, allowed}
use Rattle.asm_uses.specs.declared.tables.Naming.{Naming}
use Rattle.form_laws.proofs.Steps.{Fine, made, refused, weaker, step, after}
use Rattle.form_laws.proofs.Maps.{Keeps, same, both, interned_keeps, named_keeps, named_longer, file_keeps, defined_keeps, said_keeps, size_keeps, space_keeps}

-- no symbol goes from the table, and no form comes
abbrev pub Tables : Table → Table → Type 0
Tables before after = Keeps before.symbols after.symbols

-- what a layer answers is as fine as a statement's
pub of_fine : {A : Type 0} {P : A → Type 0} (answer : Result A SymCause) → Fine P answer → Fine P (of_symbols answer)
of_fine (Ok x) fine = made x fine.holds
of_fine (Err fault) fine = refused _

-- a change before others
pub onto : (before between : Table) (r : Result Table PlaceCause) → Tables before between → Fine (Tables between) r → Fine (Tables before) r
onto before between r first later = weaker later (λ after last. both before.symbols between.symbols after.symbols first last)

-- NAMES

found_keeps : (pos : Pos) (table : Table) (found : Result (SymbolMap × ℕ) SymCause) → Fine (λ (pair : SymbolMap × ℕ). Keeps table.symbols pair.0) found
    → Fine (λ (pair : Table × ℕ). Tables table pair.0) (found_in pos table found)
found_keeps pos table found fine = step (of_fine found fine) (λ pair kept. made _ kept)

pub symbol_keeps : (pos : Pos) (name : Name) (table : Table) → Fine (λ (pair : Table × ℕ). Tables table pair.0) (symbol_of pos name table)
unfolding symbol_of
symbol_keeps pos name table = found_keeps pos table (named table.symbols name) (named_keeps table.symbols name)

next_keeps : (pos : Pos) (number : ℕ) (table : Table) → Fine (λ (pair : Table × ℕ). Tables table pair.0) (next_symbol pos number table)
unfolding next_symbol next_named
next_keeps pos number table = found_keeps pos table (next_named table.symbols number) (named_keeps table.symbols _)

-- a label by its token
pub label_keeps : (pos : Pos) (spelled : SpelledToken) (table : Table) → Fine (λ (pair : Table × ℕ). Tables table pair.0) (label_symbol pos spelled table)
unfolding label_symbol
label_keeps pos spelled table = by spelled.kind
  where
    named_by : Fine (λ (pair : Table × ℕ). Tables table pair.0) (named_symbol pos spelled table)
    named_by = after (symbol_name spelled) (λ name. symbol_keeps pos (naming.Plain name) table)

    by : (kind : TokenKind) → Fine (λ (pair : Table × ℕ). Tables table pair.0) (label_by kind pos spelled table)
    by token.Digits = after (in_statement (numeral 10 spelled.bytes)) (λ number. next_keeps pos number table)
    by token.Name = named_by
    by token.Character = named_by
    by token.String = named_by
    by token.Operator = named_by
    by token.Other = named_by

pub name_keeps : (pos : Pos) (name : Name) (table : Table) → Tables table (with_name pos name table)
unfolding with_name
name_keeps pos name table = interned_keeps table.symbols name

pub tree_keeps : (pos : Pos) (tree : Tree) (table : Table) → Tables table (with_tree pos tree table)
unfolding with_tree
tree_keeps pos (expr.number value) table = same table.symbols
tree_keeps pos (expr.name written) table = name_keeps pos (meant_name table.symbols.counts written) table
tree_keeps pos expr.here table = same table.symbols
tree_keeps pos (expr.unary op operand) table = tree_keeps pos operand table
tree_keeps pos (expr.binary op left right) table =
    both table.symbols (with_tree pos left table).symbols (with_tree pos right (with_tree pos left table)).symbols (tree_keeps pos left table)
    (tree_keeps pos right (with_tree pos left table))

pub trees_keep : (pos : Pos) (trees : List Tree) (table : Table) → Tables table (with_trees pos trees table)
unfolding with_trees
trees_keep pos [] table = same table.symbols
trees_keep pos (tree ∷ trees) table =
    both table.symbols (with_tree pos tree table).symbols (with_trees pos trees (with_tree pos tree table)).symbols (tree_keeps pos tree table)
    (trees_keep pos trees (with_tree pos tree table))

-- CHANGES OF ONE SYMBOL

pub change_keeps : (change : SymbolMap → ℕ → Result SymbolMap SymCause) (found : Table × ℕ) → Fine (Keeps found.0.symbols) (change found.0.symbols found.1)
    → Fine (Tables found.0) (changed_by change found)
change_keeps change found fine = step (of_fine (change found.0.symbols found.1) fine) (λ map kept. made _ kept)

pub change_named_keeps : (pos : Pos) (change : SymbolMap → ℕ → Result SymbolMap SymCause) (name : Name) (table : Table)
    → ((map : SymbolMap) (at : ℕ) → Fine (Keeps map) (change map at)) → Fine (Tables table) (change_named pos change name table)
change_named_keeps pos change name table keeps =
    step (symbol_keeps pos name table)
    (λ found kept. onto table found.0 (changed_by change found) kept (change_keeps change found (keeps found.0.symbols found.1)))

pub say_all_keep : (pos : Pos) (attribute : SymbolAttribute) (names : List Name) (table : Table) → Fine (Tables table) (say_all pos attribute names table)
unfolding say_all all_steps
say_all_keep pos attribute [] table = made table (same table.symbols)
say_all_keep pos attribute (name ∷ names) table =
    step (change_named_keeps pos (said attribute) name table (said_keeps attribute))
    (λ next kept. onto table next (say_all pos attribute names next) kept (say_all_keep pos attribute names next))

pub sized_keeps : (pos : Pos) (form : Form) (found : Table × ℕ) → Tables found.0 (sized pos form found)
sized_keeps pos form found = size_keeps form found.0.symbols found.1

-- WHAT CLOSES A STATEMENT

pub allowed_keeps : (naming : Naming) (table : Table) → Fine (Tables table) (allowed naming table)
unfolding allowed
allowed_keeps naming table = by (naming.meant && (nat_le (length table.symbols.symbols) naming.before || is_within_limits table.symbols))
  where
    by : (test : Bool) → Fine (Tables table) (cond test (Ok table) (Err BadSymbolUse))
    by true = made table (same table.symbols)
    by false = refused _

pub define_space_keeps : (naming : Naming) (symbol size : ℕ) (what : Definition) (table : Table) → Fine (Tables table) (define_space naming symbol size what table)
unfolding define_space
define_space_keeps naming symbol size what table =
    step (step (change_keeps (λ map at. defined map at what) (table, symbol) (defined_keeps what table.symbols symbol))
    (λ next kept. made (with_map next (as_space size next.symbols symbol))
    (both table.symbols next.symbols (as_space size next.symbols symbol) kept (space_keeps size next.symbols symbol))))
    (λ next kept. onto table next (allowed naming next) kept (allowed_keeps naming next))

pub file_named_keeps : (name : Name) (table : Table) → Fine (Tables table) (file_named name table)
file_named_keeps name table = step (of_fine (with_file table.symbols name) (file_keeps table.symbols name)) (λ map kept. made _ kept)

-- THE PLACE OF A STATEMENT

-- where a name is found, a symbol is
pub index_low : (name : Name) (all : List Name) (index : ℕ) → index_of name all ≡ Some index → index < length all
index_low name [] index is = absurd (none-some index is)
index_low name (first ∷ rest) index is = by (same_name name first) (index_of name rest) (λ number. index_low name rest number) is
  where
    by : (b : Bool) (found : Option ℕ) → ((number : ℕ) → found ≡ Some number → number < length rest)
        → cond b (Some 0) (option_map (λ number. number + 1) found) ≡ Some index → index < suc (length rest)
    by true found low has = let first_is : 0 ≡ index = same_Some 0 index has in omega (arith, first_is)
    by false None low has = absurd (none-some index has)
    by false (Some number) low has =
        let next : number + 1 ≡ index = same_Some (number + 1) index has in
        let below = low number refl in
        omega (arith, next, below)

pub names_long : (symbols : List Symbol) → length (names symbols) ≡ length symbols
names_long [] = refl
names_long (symbol ∷ symbols) = ap suc (names_long symbols)

-- the place is a symbol in the end, where a form keeps it
pub record Closes (spot : Spot) (keeps : Bool) (before after : Table) : Type 0 where
  pub kept : Tables before after
  pub placed : keeps ≡ true → number_of before.symbols (here_name spot) < length after.symbols.symbols

label_longer : (pos : Pos) (spot : Spot) (table : Table) → index_of (here_name spot) (names table.symbols.symbols) ≡ None
    → Fine (λ (after : Table). length table.symbols.symbols < length after.symbols.symbols) (change_named pos (λ map at. defined map at (Label spot)) (here_name spot) table)
unfolding symbol_of
label_longer pos spot table new =
    step (step (of_fine (named table.symbols (here_name spot)) (named_longer table.symbols (here_name spot) new)) (λ pair longer. made {P = λ (found : Table × ℕ). length table.symbols.symbols < length found.0.symbols.symbols} _ longer))
    (λ found longer. weaker (change_keeps (λ map at. defined map at (Label spot)) found (defined_keeps (Label spot) found.0.symbols found.1))
    (λ after kept. let more = kept.more in omega (arith, longer, more)))

here_closes : (pos : Pos) (spot : Spot) (found : Option ℕ) (table : Table) → index_of (here_name spot) (names table.symbols.symbols) ≡ found
    → Fine (Closes spot true table) (here_by pos spot found table)
unfolding number_of
here_closes pos spot (Some index) table is =
    made table (record {
      kept = same table.symbols;
      placed = λ keeps.
          let low = index_low (here_name spot) (names table.symbols.symbols) index is in
          let long = names_long table.symbols.symbols in
          let number : unwrap_or (index_of (here_name spot) (names table.symbols.symbols)) (length table.symbols.symbols) ≡ index =
          ap (λ (o : Option ℕ). unwrap_or o (length table.symbols.symbols)) is in
          omega (arith, low, long, number);
    })
here_closes pos spot None table is =
    step_two (change_named_keeps pos (λ map at. defined map at (Label spot)) (here_name spot) table (defined_keeps (Label spot))) (label_longer pos spot table is)
  where
    step_two : {r : Result Table PlaceCause} → Fine (Tables table) r → Fine (λ (after : Table). length table.symbols.symbols < length after.symbols.symbols) r
        → Fine (Closes spot true table) r
    step_two {r = Ok after} kept longer =
        made after (record {
          kept = kept.holds;
          placed = λ keeps.
              let more = longer.holds in
              let number : unwrap_or (index_of (here_name spot) (names table.symbols.symbols)) (length table.symbols.symbols) ≡ length table.symbols.symbols =
              ap (λ (o : Option ℕ). unwrap_or o (length table.symbols.symbols)) is in
              omega (arith, more, number);
        })
    step_two {r = Err fault} kept longer = refused fault

named_here : (pos : Pos) (spot : Spot) (keeps : Bool) (table : Table) → Fine (Closes spot keeps table) (name_here pos spot keeps table)
unfolding name_here
named_here pos spot false table = made table (record { kept = same table.symbols; placed = λ keeps. absurd cc })
named_here pos spot true table = here_closes pos spot (index_of (here_name spot) (names table.symbols.symbols)) table refl

-- names are allowed, and the place becomes a symbol where a form keeps it
pub end_closes : (pos : Pos) (naming : Naming) (spot : Spot) (keeps : Bool) (table : Table) → Fine (Closes spot keeps table) (end_naming pos naming spot keeps table)
unfolding allowed
end_closes pos naming spot keeps table = by (naming.meant && (nat_le (length table.symbols.symbols) naming.before || is_within_limits table.symbols))
  where
    by : (test : Bool) → Fine (Closes spot keeps table) (cond test (Ok table) (Err BadSymbolUse) >>= name_here pos spot keeps)
    by true = named_here pos spot keeps table
    by false = refused _

pub end_keeps : (pos : Pos) (naming : Naming) (spot : Spot) (keeps : Bool) (table : Table) → Fine (Tables table) (end_naming pos naming spot keeps table)
end_keeps pos naming spot keeps table = weaker (end_closes pos naming spot keeps table) (λ after closes. closes.kept)
