-- Assignments and sizes by expressions of numbers alone are what their statements place.
use Rattle.std.proofs.Common.{◌≡◌, ℕ, Bool, false, List, [], ◌∷◌, Result, Ok, Err, refl, sym, ap, ◌∙◌}
use Rattle.asm_base.specs.Tokens.{SpelledToken}
use Rattle.asm_base.specs.Refusals.{◌>>=◌}
use Rattle.asm_base.specs.declared.positions.Pos.{Pos}
use Rattle.asm_expr.specs.declared.naming.Name.TheVariants.{Plain}
use Rattle.asm_expr.specs.Forms.{constant_form}
use Rattle.asm_operands.specs.Constants.{IsConstant}
use Rattle.asm_symbols.specs.declared.entries.Spot.{Spot}
use Rattle.asm_symbols.specs.Interning.{number_of}
use Rattle.asm_symbols.specs.LeadsBack.{assigned}
use Rattle.asm_operands.specs.declared.place_faults.PlaceCause.{PlaceCause}
use Rattle.asm_uses.specs.declared.tables.Naming.{Naming}
use Rattle.asm_values.specs.Assignments.{assign_named, assign_words, place_set}
use Rattle.asm_values.specs.ConstantOperands.{no_naming}
use Rattle.asm_values.specs.NamedNumbers.{IsNamedNumber, assign_number, size_number}
use Rattle.asm_operands.specs.Operands.{operands_of, begins_with_place, name_of}
use Rattle.asm_uses.specs.Places.{name_here, end_naming}
use Rattle.asm_values.specs.State.{Placed, with_table, unless_dot, here, known_here}
use Rattle.asm_operands.specs.NamedTrees.{named_tree}
use Rattle.asm_values.specs.Sizes.{end_words, size_named, size_words, place_size}
use Rattle.asm_uses.specs.Attributes.{sized}
use Rattle.asm_uses.specs.Tables.{Table, with_name, with_tree, with_trees, changed_by, naming_of, allowed}
use Rattle.asm_values.proofs.ConstantOperandsLemmas.{reads_alone, counts_so}
use Rattle.asm_values.proofs.NamedTreeLemmas.{name_and_tree}
use Rattle.asm_values.proofs.NameLemmas.{one_nothing, nothing_named}

-- a name and a number are all there is
pub name_and_number : (operand : List SpelledToken) (number : ℕ) → IsConstant operand number
    → (all first rest last : List (List SpelledToken)) (name : List ℕ) (named : List SpelledToken) → name_of named ≡ Ok name
    → first ≡ all → first ≡ named ∷ rest → rest ≡ operand ∷ last → last ≡ [] → IsNamedNumber all name number
name_and_number operand number one all first rest last name named called is front next end = record {
  tree = one.tree;
  reads = name_and_tree operand one.tree (reads_alone operand number one) all first rest last name named called is front next end;
  counts = counts_so operand number one;
  names = one_nothing one.tree one.names;
}

-- where no form keeps the place, the names alone are looked at
kept_so : (pos : Pos) (spot : Spot) (table : Result Table PlaceCause) → (table >>= name_here pos spot false) ≡ table
unfolding name_here
kept_so pos spot (Ok table) = refl
kept_so pos spot (Err fault) = refl

ends_so : (pos : Pos) (naming : Naming) (spot : Spot) (table : Result Table PlaceCause)
    → (table >>= end_naming pos naming spot false) ≡ (table >>= allowed naming)
ends_so pos naming spot (Ok table) = kept_so pos spot (allowed naming table)
ends_so pos naming spot (Err fault) = refl

then_dot : (placed : Placed) (dot : Bool) (table : Result Table PlaceCause)
    → ((table >>= λ found. Ok (with_table placed found)) >>= unless_dot dot) ≡ (table >>= λ found. unless_dot dot (with_table placed found))
then_dot placed dot (Ok table) = refl
then_dot placed dot (Err fault) = refl

module _ (pos : Pos) (operands : List (List SpelledToken)) (name : List ℕ) (number : ℕ) (is : IsNamedNumber operands name number) (placed : Placed) where
  no_names : with_tree pos is.tree (with_name pos (Plain name) placed.table) ≡ with_name pos (Plain name) placed.table
  unfolding with_trees
  no_names = is.names.names pos (with_name pos (Plain name) placed.table)

  -- an assignment
  assign_so : (once : Bool) → (named_tree operands >>= λ words. assign_words pos once words placed) ≡ assign_number pos once name number placed
  unfolding assign_words
  assign_so once =
      let table : Table = with_name pos (Plain name) placed.table in
      let symbol : ℕ = number_of placed.table.symbols (Plain name) in
      let named : Placed = with_table placed table in
      ap (λ read. read >>= λ words. assign_words pos once words placed) is.reads
      ∙ ap (λ found. assign_named pos once is.tree symbol (naming_of (is.tree ∷ []) placed.table) (with_table placed found)) no_names
      ∙ ap (λ naming. assign_named pos once is.tree symbol naming named) (nothing_named (is.tree ∷ []) placed.table is.names)
      ∙ ap (λ made. made >>= λ form. changed_by (λ map index. assigned map index form once) (table, symbol) >>= end_words pos (no_naming placed.table) form named
      >>= λ found. Ok (with_table named found)) (is.counts (known_here named))
      ∙ ap (λ found. found >>= λ found. Ok (with_table placed found))
      (ends_so pos (no_naming placed.table) (here named) (changed_by (λ map index. assigned map index (constant_form number) once) (table, symbol)))

  -- a size
  size_so : (dot : Bool) → (named_tree operands >>= λ words. size_words pos words placed >>= unless_dot dot) ≡ size_number pos name number dot placed
  unfolding size_words
  size_so dot =
      let table : Table = with_name pos (Plain name) placed.table in
      let symbol : ℕ = number_of placed.table.symbols (Plain name) in
      let named : Placed = with_table placed table in
      ap (λ read. read >>= λ words. size_words pos words placed >>= unless_dot dot) is.reads
      ∙ ap (λ found. size_named pos is.tree symbol (naming_of (is.tree ∷ []) placed.table) (with_table placed found) >>= unless_dot dot) no_names
      ∙ ap (λ naming. size_named pos is.tree symbol naming named >>= unless_dot dot) (nothing_named (is.tree ∷ []) placed.table is.names)
      ∙ ap (λ made. (made >>= λ form. end_words pos (no_naming placed.table) form named (sized pos form (table, symbol)) >>= λ found. Ok (with_table named found)) >>= unless_dot dot)
      (is.counts (known_here named))
      ∙ ap (λ found. (found >>= λ found. Ok (with_table placed found)) >>= unless_dot dot)
      (kept_so pos (here named) (allowed (no_naming placed.table) (sized pos (constant_form number) (table, symbol))))
      ∙ then_dot placed dot (allowed (no_naming placed.table) (sized pos (constant_form number) (table, symbol)))

-- `.set`, `.equ`, `.equiv` of a number
pub set_so : (pos : Pos) (once : Bool) (tokens : List SpelledToken) (name : List ℕ) (number : ℕ) (placed : Placed)
    → IsNamedNumber (operands_of tokens) name number → place_set pos once tokens placed ≡ assign_number pos once name number placed
unfolding place_set
set_so pos once tokens name number placed is = assign_so pos (operands_of tokens) name number is placed once

-- `.size` of a number
pub size_is : (pos : Pos) (dot : Bool) (tokens : List SpelledToken) (name : List ℕ) (number : ℕ) (placed : Placed)
    → IsNamedNumber (operands_of tokens) name number → dot ≡ begins_with_place tokens
    → place_size pos tokens placed ≡ size_number pos name number dot placed
unfolding place_size
size_is pos dot tokens name number placed is begins =
    size_so pos (operands_of tokens) name number is placed (begins_with_place tokens) ∙ ap (λ first. size_number pos name number first placed) (sym begins)
