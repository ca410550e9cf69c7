-- The forms of sums are those of their trees.
use Rattle.std.proofs.Common.{◌≡◌, ℕ, length, Some, unwrap_or, Ok, refl, ap}
use Rattle.asm_expr.specs.declared.naming.Name.{Name}
use Rattle.asm_expr.specs.declared.trees.Written.{Written}
use Rattle.asm_expr.specs.declared.trees.Written.TheVariants as written
use Rattle.asm_expr.specs.Forms.{Form}
use Rattle.asm_expr.specs.Knowledge.{Knowledge}
use Rattle.asm_expr.specs.Linear.{form_of, linear, binary_form}
use Rattle.asm_expr.specs.Trees.{Tree}
use Rattle.asm_expr.specs.Trees as tree
use Rattle.asm_operands.specs.declared.sums.Summand.{Summand}
use Rattle.asm_operands.specs.declared.sums.Summand.TheVariants as summands
use Rattle.asm_operands.specs.declared.sums.Addend.{Addend}
use Rattle.asm_operands.specs.declared.sums.Addend.TheVariants as addends
use Rattle.asm_operands.specs.declared.sums.Sum.{Sum}
use Rattle.asm_operands.specs.declared.sums.LongSum.{LongSum}
use Rattle.asm_operands.specs.Sums.{summand_tree, added_tree, sum_tree, long_tree}
use Rattle.asm_symbols.specs.declared.entries.Spot.{Spot}
use Rattle.asm_symbols.specs.Counting.{meant_name}
use Rattle.asm_symbols.specs.Interning.{number_of}
use Rattle.asm_symbols.specs.SymbolMap.{SymbolMap, names, index_of}
use Rattle.asm_uses.specs.declared.places.View.{View}
use Rattle.asm_uses.specs.declared.sums.Operand.{Operand}
use Rattle.asm_uses.specs.declared.sums.Operand.TheVariants.{Number, Symbol, Here}
use Rattle.asm_uses.specs.declared.sums.Added.{Added}
use Rattle.asm_uses.specs.declared.sums.Added.TheVariants as adds
use Rattle.asm_uses.specs.declared.sums.SymbolSum.{SymbolSum}
use Rattle.asm_uses.specs.declared.long_sums.LongSymbolSum.{LongSymbolSum}
use Rattle.asm_uses.specs.LongSums.{IsLongNamed, long_form}
use Rattle.asm_operands.specs.ExprFaults.{in_statement}
use Rattle.asm_operands.specs.Expressions.{form_in}
use Rattle.asm_uses.specs.KnownIn.{known_in}
use Rattle.asm_uses.specs.Places.{told_at}
use Rattle.asm_uses.specs.SumForms.{operand_form, added_form, sum_form}
use Rattle.asm_uses.specs.SymbolSums.{IsSymbol, IsOperand, IsAdded, IsNamed}

-- a name that is found means the symbol that it is found as
found_number : (map : SymbolMap) (name : Name) (index : ℕ) → index_of name (names map.symbols) ≡ Some index → number_of map name ≡ index
unfolding number_of
found_number map name index is = ap (λ found. unwrap_or found (length map.symbols)) is

-- what is known where the place is the symbol of this number
abbrev known_by : SymbolMap → ℕ → Spot → Knowledge
known_by map place spot = record { told = told_at map place spot; meant = λ written. number_of map (meant_name map.counts written); place = place }

module _ (map : SymbolMap) (place : ℕ) (spot : Spot) where
  symbol_linear : (meant : Written) (operand : Operand) → IsSymbol map meant operand
      → linear (known_by map place spot) (tree.name meant) ≡ Ok (operand_form (known_by map place spot) operand)
  unfolding linear
  symbol_linear meant (Symbol index) is =
      ap (λ symbol. Ok (form_of (told_at map place spot) symbol)) (found_number map (meant_name map.counts meant) index is)
  symbol_linear meant (Number value) is = absurd is
  symbol_linear written Here is = absurd is

  -- the linear form of a tree of summands
  linear_summand : (summand : Summand) (operand : Operand) → IsOperand map summand operand
      → linear (known_by map place spot) (summand_tree summand) ≡ Ok (operand_form (known_by map place spot) operand)
  unfolding linear
  linear_summand (summands.Number value) operand is = rw is refl
  linear_summand (summands.Name token) operand is = symbol_linear (written.Plain token.now.bytes.now) operand is
  linear_summand (summands.Back digits) operand is = symbol_linear (written.Back digits) operand is
  linear_summand (summands.Next digits) operand is = symbol_linear (written.Next digits) operand is
  linear_summand summands.Here operand is = rw is refl

  linear_added : (tree : Tree) (made : Form) (addend : Addend) (added : Added) → IsAdded map addend added
      → linear (known_by map place spot) tree ≡ Ok made → linear (known_by map place spot) (added_tree tree addend) ≡ Ok (added_form (known_by map place spot) made added)
  unfolding linear binary_form
  linear_added tree made addends.Nothing adds.Nothing same is = is
  linear_added tree made addends.Nothing (adds.Plus operand) same is = absurd same
  linear_added tree made addends.Nothing (adds.Minus operand) same is = absurd same
  linear_added tree made (addends.Plus summand) adds.Nothing same is = absurd same
  linear_added tree made (addends.Plus summand) (adds.Plus operand) same is = rw (is, linear_summand summand operand same) refl
  linear_added tree made (addends.Plus summand) (adds.Minus operand) same is = absurd same
  linear_added tree made (addends.Minus summand) adds.Nothing same is = absurd same
  linear_added tree made (addends.Minus summand) (adds.Plus operand) same is = absurd same
  linear_added tree made (addends.Minus summand) (adds.Minus operand) same is = rw (is, linear_summand summand operand same) refl

  -- the form of a sum is that of its tree
  pub sum_linear : (sum : Sum) (named : SymbolSum) → IsNamed map sum named
      → form_in (known_by map place spot) (sum_tree sum) ≡ Ok (sum_form (known_by map place spot) named)
  unfolding form_in sum_form
  sum_linear sum named is =
      ap in_statement
      (linear_added (summand_tree sum.first) (operand_form (known_by map place spot) named.first) sum.second named.second is.second (linear_summand sum.first named.first is.first))

  -- and so is the form of a longer one
  pub long_linear : (sum : LongSum) (named : LongSymbolSum) → IsLongNamed map sum named
      → form_in (known_by map place spot) (long_tree sum) ≡ Ok (long_form (known_by map place spot) named)
  unfolding form_in sum_form long_form
  long_linear sum named is =
      ap in_statement
      (linear_added (sum_tree sum.front) (added_form (known_by map place spot) (operand_form (known_by map place spot) named.front.first) named.front.second) sum.third named.third is.third
      (linear_added (summand_tree sum.front.first) (operand_form (known_by map place spot) named.front.first) sum.front.second named.front.second is.front.second
      (linear_summand sum.front.first named.front.first is.front.first)))

-- the same where a view is had
pub linear_sum : (view : View) (sum : Sum) (named : SymbolSum) → IsNamed view.symbols.now sum named
    → form_in (known_in view) (sum_tree sum) ≡ Ok (sum_form (known_in view) named)
linear_sum view = sum_linear view.symbols.now view.place view.spot
