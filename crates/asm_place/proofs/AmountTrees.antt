-- The trees of amounts are as good as those that were read: they have the same names, and count the same.
use Rattle.std.proofs.Common.{◌≡◌, ℕ, ◌&&◌, Bool, true, false, List, [], ◌∷◌, ◌++◌, Result, Ok, Err, refl, sym, ap, ◌∙◌}
use Rattle.std.specs.List.{list_all}
use Rattle.std.proofs.lemmas.List.Elements.{All-nil, All-cons}
use Rattle.asm_base.specs.declared.positions.Pos.{Pos}
use Rattle.asm_base.specs.declared.refusals.Refusal.{Refusal}
use Rattle.asm_base.specs.declared.refusals.Refusal.TheVariants.{Fault, NoMemory}
use Rattle.asm_base.specs.Refusals.{Gives, ◌>>=◌}
use Rattle.asm_expr.specs.declared.trees.Written.{Written}
use Rattle.asm_expr.specs.declared.trees.Written.TheVariants.{Plain}
use Rattle.asm_expr.specs.Knowledge.{Knowledge}
use Rattle.asm_expr.specs.Linear.{linear}
use Rattle.asm_expr.specs.NamesOf.{names_of}
use Rattle.asm_expr.specs.Trees.{Tree}
use Rattle.asm_expr.specs.Trees as tree
use Rattle.asm_operands.specs.declared.place_faults.PlaceCause.{PlaceCause}
use Rattle.asm_operands.specs.ExprFaults.{in_statement}
use Rattle.asm_operands.specs.Expressions.{form_in}
use Rattle.asm_symbols.specs.Counting.{meant_name, may_be_meant}
use Rattle.asm_uses.specs.Tables.{Table, with_name, with_tree, with_trees, is_meant, are_meant, naming_of}
use Rattle.asm_values.specs.State.{Placed, with_table, with_names, known_here}
use Rattle.x86_insn.specs.declared.amounts.Amount.{Amount}
use Rattle.x86_insn.specs.declared.amounts.Amount.TheVariants as amount
use Rattle.x86_insn.specs.declared.insns.Insn.{Insn}
use Rattle.x86_insn.specs.Amounts.{amount_tree}
use Rattle.att_operands.specs.declared.faults.OperandCause.{OperandCause}
use Rattle.att_operands.specs.Values.{GivesSo, IsFitting, IsAmountOf}
use Rattle.att_insns.specs.InsnTexts.{InsnText, IsInsnOf}
use Rattle.asm_words.specs.declared.directives.Syntax.{Syntax}
use Rattle.asm_words.specs.declared.directives.Syntax.TheVariants.{Att, Intel}
use Rattle.amount_forms.specs.Amounts.{in_text_order, trees_of, AmountFits, InsnFits}
use Rattle.asm_place.specs.Coding.{shape_in, shape_of, forms_of, put_named, insn_of_trees, place_insn, place_text, place_read}
use Rattle.asm_place.specs.Amounts.{place_amounts, FitsThere}

-- each of these names has a symbol, from left to right
abbrev with_each : Pos → List Written → Table → Table
with_each pos [] table = table
with_each pos (written ∷ others) table = with_each pos others (with_name pos (meant_name table.symbols.counts written) table)

each_more : (pos : Pos) (ones others : List Written) (table : Table) → with_each pos (ones ++ others) table ≡ with_each pos others (with_each pos ones table)
each_more pos [] others table = refl
each_more pos (one ∷ ones) others table = each_more pos ones others (with_name pos (meant_name table.symbols.counts one) table)

-- the names of a tree are all that get symbols
by_names : (pos : Pos) (made : Tree) (table : Table) → with_tree pos made table ≡ with_each pos (names_of made) table
unfolding with_tree
by_names pos (tree.number value) table = refl
by_names pos (tree.name written) table = refl
by_names pos tree.here table = refl
by_names pos (tree.unary op operand) table = by_names pos operand table
by_names pos (tree.binary op left right) table =
    by_names pos right (with_tree pos left table)
    ∙ (ap (with_each pos (names_of right)) (by_names pos left table) ∙ sym (each_more pos (names_of left) (names_of right) table))

and_assoc : (a b c : Bool) → (a && (b && c)) ≡ ((a && b) && c)
and_assoc true b c = refl
and_assoc false b c = refl

and_true : (b : Bool) → b ≡ (b && true)
and_true true = refl
and_true false = refl

all_more : (test : Written → Bool) (ones others : List Written) → list_all test (ones ++ others) ≡ (list_all test ones && list_all test others)
all_more test [] others = refl
all_more test (one ∷ ones) others = ap (λ rest. test one && rest) (all_more test ones others) ∙ and_assoc (test one) (list_all test ones) (list_all test others)

-- and all of which `Nb` has to mean a label
meant_by_names : (counts : List (ℕ × ℕ)) (made : Tree) → is_meant counts made ≡ list_all (may_be_meant counts) (names_of made)
unfolding is_meant
meant_by_names counts (tree.number value) = refl
meant_by_names counts (tree.name written) = and_true (may_be_meant counts written)
meant_by_names counts tree.here = refl
meant_by_names counts (tree.unary op operand) = meant_by_names counts operand
meant_by_names counts (tree.binary op left right) =
    ap (λ b. b && is_meant counts right) (meant_by_names counts left)
    ∙ (ap (λ b. list_all (may_be_meant counts) (names_of left) && b) (meant_by_names counts right)
    ∙ sym (all_more (may_be_meant counts) (names_of left) (names_of right)))

same_names : (held : Amount) (read : Tree) → IsAmountOf held read → names_of (amount_tree held) ≡ names_of read
same_names (amount.Number value) read is = is.names
same_names (amount.Name bytes more) read is = is.names
same_names (amount.Tree boxed) read is = is.names

same_linear : (held : Amount) (read : Tree) (known : Knowledge) → IsAmountOf held read → AmountFits known held → linear known (amount_tree held) ≡ linear known read
same_linear (amount.Number value) read known is fits = is.counts known (All-nil _)
same_linear (amount.Name bytes more) read known is fits =
    is.counts known (All-cons (λ written. IsFitting (known.told (known.meant written))) (Plain bytes.now) [] fits (All-nil _))
same_linear (amount.Tree boxed) read known is fits = is.counts known fits

module _ (held : Amount) (read : Tree) (is : IsAmountOf held read) where
  same_table : (pos : Pos) (table : Table) → with_tree pos (amount_tree held) table ≡ with_tree pos read table
  same_table pos table = by_names pos (amount_tree held) table ∙ (ap (λ ws. with_each pos ws table) (same_names held read is) ∙ sym (by_names pos read table))

  same_meant : (counts : List (ℕ × ℕ)) → is_meant counts (amount_tree held) ≡ is_meant counts read
  same_meant counts =
      meant_by_names counts (amount_tree held) ∙ (ap (list_all (may_be_meant counts)) (same_names held read is) ∙ sym (meant_by_names counts read))

  same_form : (known : Knowledge) → AmountFits known held → form_in known (amount_tree held) ≡ form_in known read
  unfolding form_in
  same_form known fits = ap in_statement (same_linear held read known is fits)

-- the shape of an instruction is that of its text
pub same_shape : (insn : Insn) (text : InsnText) → IsInsnOf insn text → shape_of insn ≡ shape_in text
same_shape insn text is =
    rw (is.name, is.size, is.«prefix», is.first, is.second, is.third, is.address, is.immediate.suffix, is.displacement.suffix) refl

module _ (pos : Pos) (insn : Insn) (text : InsnText) (placed : Placed) (is : IsInsnOf insn text) where
  abbrev own : Tree
  own = text.immediate.tree

  abbrev moved : Tree
  moved = text.displacement.tree

  pub same_tables : (syntax : Syntax) → with_trees pos (trees_of syntax insn) placed.table ≡ with_trees pos (in_text_order syntax own moved) placed.table
  unfolding with_trees
  same_tables Att =
      same_table insn.displacement.amount moved is.displacement.amount pos (with_tree pos (amount_tree insn.immediate.amount) placed.table)
      ∙ ap (with_tree pos moved) (same_table insn.immediate.amount own is.immediate.amount pos placed.table)
  same_tables Intel =
      same_table insn.immediate.amount own is.immediate.amount pos (with_tree pos (amount_tree insn.displacement.amount) placed.table)
      ∙ ap (with_tree pos own) (same_table insn.displacement.amount moved is.displacement.amount pos placed.table)

  same_naming : (syntax : Syntax) → naming_of (trees_of syntax insn) placed.table ≡ naming_of (in_text_order syntax own moved) placed.table
  unfolding are_meant
  same_naming Att =
      rw (
        same_meant insn.immediate.amount own is.immediate.amount placed.table.symbols.counts,
        same_meant insn.displacement.amount moved is.displacement.amount placed.table.symbols.counts,
      ) refl
  same_naming Intel =
      rw (
        same_meant insn.immediate.amount own is.immediate.amount placed.table.symbols.counts,
        same_meant insn.displacement.amount moved is.displacement.amount placed.table.symbols.counts,
      ) refl

  pub same_forms : (known : Knowledge) → InsnFits known insn
      → forms_of known (amount_tree insn.immediate.amount) (amount_tree insn.displacement.amount) ≡ forms_of known own moved
  same_forms known fits =
      rw (same_form insn.immediate.amount own is.immediate.amount known fits.immediate, same_form insn.displacement.amount moved is.displacement.amount known fits.displacement) refl

  -- an instruction by the trees of its amounts is the instruction by its text
  pub text_placed : InsnFits (known_here (with_names pos (trees_of placed.syntax insn) placed)) insn → place_amounts pos insn placed ≡ place_text pos text placed
  unfolding place_insn
  text_placed fits =
      let syntax = placed.syntax in
      let named = with_names pos (trees_of syntax insn) placed in
      let made = naming_of (in_text_order syntax own moved) placed.table in
      ap (λ shape. insn_of_trees pos shape (naming_of (trees_of syntax insn) placed.table) (amount_tree insn.immediate.amount) (amount_tree insn.displacement.amount) named) (same_shape insn text is)
      ∙ (ap (λ naming. insn_of_trees pos (shape_in text) naming (amount_tree insn.immediate.amount) (amount_tree insn.displacement.amount) named) (same_naming syntax)
      ∙ (ap (λ read. read >>= λ forms. put_named pos (shape_in text) made forms named) (same_forms (known_here named) fits)
      ∙ ap (λ table. insn_of_trees pos (shape_in text) made own moved (with_table placed table)) (same_tables syntax)))

-- an instruction that was read is placed by its text
pub read_placed : {T : Type 0} (pos : Pos) (insn : Insn) (due : Result InsnText OperandCause) (placed new : Placed) (result : Result T (Refusal PlaceCause))
    → (let read : Result Insn (Refusal OperandCause) = Ok insn in GivesSo IsInsnOf read due) → Gives new result (place_amounts pos insn placed)
    → FitsThere result pos insn placed → Gives new result (place_read pos due placed)
read_placed pos insn (Ok text) placed new (Ok done) is gives fits = sym (text_placed pos insn text placed is fits) ∙ gives
read_placed pos insn (Ok text) placed new (Err (Fault cause)) is gives fits = sym (text_placed pos insn text placed is fits) ∙ gives
read_placed pos insn (Ok text) placed new (Err NoMemory) is gives fits = tt
read_placed pos insn (Err cause) placed new result is gives fits = absurd is
