-- Operands of numbers alone are read, counted and named as their statement has it, and space of them is placed so.
use Rattle.std.proofs.Common.{◌≡◌, ℕ, ◌%◌, ◌^◌, Bool, true, false, nat_le, replicate, List, [], ◌∷◌, ◌++◌, Option, None, Some, Result, Ok, Err, option_map, unwrap_or, is_ok, map, length, refl, sym, ap, ◌∙◌, arith}
use Rattle.std.specs.Option.{option_to_list}
use Rattle.std.specs.Prelude.{◌==◌}
use Rattle.std.proofs.lemmas.Bool.{false≢true}
use Rattle.std.proofs.lemmas.Bool.Decides.{nat_tests}
use Rattle.asm_base.specs.Tokens.{SpelledToken}
use Rattle.asm_base.specs.Refusals.{◌>>=◌}
use Rattle.asm_base.specs.declared.positions.Pos.{Pos}
use Rattle.asm_expr.specs.Forms.{constant_form}
use Rattle.asm_expr.specs.Knowledge.{Knowledge}
use Rattle.expr_texts.specs.Reading.{reading, read_at}
use Rattle.asm_expr.specs.Trees.{Tree}
use Rattle.item_contents.specs.declared.contents.Content.{Content}
use Rattle.asm_frags.specs.Sections.{put_into}
use Rattle.asm_frags.specs.Writing.{LooseSection, new_item, item_put, bytes_put}
use Rattle.asm_operands.specs.Constants.{IsConstant, IsLoneConstant, FindsConstant}
use Rattle.asm_values.specs.ConstantData.{IsLone}
use Rattle.asm_operands.specs.declared.place_faults.PlaceCause.{PlaceCause}
use Rattle.asm_operands.specs.declared.up_to_three.UpToThree.{UpToThree}
use Rattle.asm_values.specs.ConstantOperands.{NamesNothing, IsFirstConstant, IsNextConstant, no_naming, AreConstants, FindsFirst, IsOnlyNumber, put_units_of}
use Rattle.asm_operands.specs.ExprFaults.{in_statement}
use Rattle.asm_operands.specs.Expressions.{alone, expression_of, form_in, constant_in, up_to_three_listed, first_tree, next_tree, next_tree_if, no_more, up_to_three_trees, up_to_three_forms, up_to_three_constants}
use Rattle.asm_values.specs.KnownOperands.{KnownOperands, known_values, known_operands}
use Rattle.asm_operands.specs.LayerFaults.{of_sections}
use Rattle.asm_operands.specs.Operands.{operands_of, each}
use Rattle.asm_values.specs.Data.{put_space_by, put_space, with_filled, with_item, place_zero, place_skip, place_fill}
use Rattle.asm_operands.specs.Results.{if_some}
use Rattle.asm_words.specs.Spaces.{space_of, units_of, unit_size}
use Rattle.asm_values.specs.State.{Placed, with_table, with_names, known_here, put_bytes, put_bytes_into, push_item, push_into}
use Rattle.asm_uses.specs.Tables.{naming_of, allowed}
use Rattle.asm_values.proofs.OperandEnds.{lone_found}
use Rattle.asm_values.proofs.NameLemmas.{one_nothing, none_nothing, more_nothing, none_allowed, nothing_named}

-- a number is one expression, and its form is the number
pub reads_alone : (operand : List SpelledToken) (value : ℕ) (one : IsConstant operand value) → expression_of operand ≡ Ok one.tree
unfolding expression_of
reads_alone operand value one = ap (λ read. in_statement read >>= λ found. alone found.rest found.tree) one.reads

pub counts_so : (operand : List SpelledToken) (value : ℕ) (one : IsConstant operand value) (known : Knowledge) → form_in known one.tree ≡ Ok (constant_form value)
unfolding form_in
counts_so operand value one known = ap in_statement (one.counts known)

-- the first operand is a number
first_so : (operand : List SpelledToken) (all behind : List (List SpelledToken)) (value : ℕ) → all ≡ operand ∷ behind
    → IsConstant operand value → IsFirstConstant all behind value
unfolding first_tree
first_so operand all behind value is one = record {
  tree = one.tree;
  reads = ap first_tree is ∙ ap (λ read. read >>= λ tree. Ok (tree, behind)) (reads_alone operand value one);
  counts = counts_so operand value one;
  names = one_nothing one.tree one.names;
}

pub first_finds : (operand : List SpelledToken) (all behind : List (List SpelledToken)) (found : Option ℕ) → all ≡ operand ∷ behind
    → FindsConstant operand found → FindsFirst all behind found
first_finds operand all behind None is one = tt
first_finds operand all behind (Some value) is one = first_so operand all behind value is one

-- no operand may be there
pub none_may : (may : Bool) (all : List (List SpelledToken)) → may ≡ false → IsNextConstant may all all None
none_may true all may_not = absurd (false≢true (sym may_not))
none_may false all may_not = record { tree = None; reads = refl; counts = λ known. refl; names = none_nothing }

-- no operand is left
pub none_left : (may : Bool) (all behind : List (List SpelledToken)) → may ≡ true → all ≡ [] → behind ≡ [] → IsNextConstant may all behind None
unfolding next_tree
none_left may all behind may_be is rest = record {
  tree = None;
  reads = ap (λ m. next_tree_if m all) may_be ∙ (ap next_tree is ∙ ap (λ operands. Ok (None, operands)) (sym rest));
  counts = λ known. refl;
  names = none_nothing;
}

-- the next operand is empty
pub none_said : {X : Type 0} (spelled_as : X → SpelledToken) (may : Bool) (all behind : List (List SpelledToken)) (operand : List X) → may ≡ true → true ≡ (length operand == 0)
    → all ≡ map spelled_as operand ∷ behind → IsNextConstant may all behind None
unfolding next_tree
none_said spelled_as may all behind [] may_be empty is = record {
  tree = None;
  reads = ap (λ m. next_tree_if m all) may_be ∙ ap next_tree is;
  counts = λ known. refl;
  names = none_nothing;
}
none_said spelled_as may all behind (token ∷ rest) may_be empty is =
    let some : (length (token ∷ rest) == 0) ≡ false = grind (arith, nat_tests) in
    absurd (false≢true (sym some ∙ sym empty))

-- nothing is no number
none_counts : (value : ℕ) → IsConstant [] value → false ≡ true
unfolding reading read_at
none_counts value one = ap is_ok one.reads

some_tree : (token : SpelledToken) (tokens : List SpelledToken) (behind : List (List SpelledToken))
    → next_tree ((token ∷ tokens) ∷ behind) ≡ (expression_of (token ∷ tokens) >>= λ tree. Ok (Some tree, behind))
unfolding next_tree
some_tree token tokens behind = refl

-- the next operand is a number
pub next_so : (may : Bool) (operand : List SpelledToken) (all behind : List (List SpelledToken)) (value : ℕ) → may ≡ true → all ≡ operand ∷ behind
    → IsConstant operand value → IsNextConstant may all behind (Some value)
next_so may [] all behind value may_be is one = absurd (false≢true (none_counts value one))
next_so may (token ∷ tokens) all behind value may_be is one = record {
  tree = Some one.tree;
  reads =
      ap (λ m. next_tree_if m all) may_be ∙ (ap next_tree is ∙ (some_tree token tokens behind
      ∙ ap (λ read. read >>= λ tree. Ok (Some tree, behind)) (reads_alone (token ∷ tokens) value one)));
  counts = λ known. ap (λ made. made >>= λ form. Ok (Some form)) (counts_so (token ∷ tokens) value one known);
  names = one_nothing one.tree one.names;
}

-- the value of a number
value_so : (value : ℕ) → constant_in (constant_form value) ≡ Ok value
unfolding constant_in
value_so value = refl

value_if_so : (value : Option ℕ) → if_some constant_in (option_map constant_form value) ≡ Ok value
value_if_so None = refl
value_if_so (Some value) = ap (λ made. made >>= λ counted. Ok (Some counted)) (value_so value)

-- one to three numbers, and no operand behind them
module _ (most first : ℕ) (second third : Option ℕ) where
  values_so : up_to_three_constants (record { first = constant_form first; second = option_map constant_form second; third = option_map constant_form third })
      ≡ Ok (record { first = first; second = second; third = third })
  unfolding up_to_three_constants
  values_so =
      ap (λ one. one >>= λ first. if_some constant_in (option_map constant_form second) >>= λ second. if_some constant_in (option_map constant_form third) >>= λ third.
      Ok (record { first = first; second = second; third = third })) (value_so first)
      ∙ (ap (λ two. two >>= λ second. if_some constant_in (option_map constant_form third) >>= λ third.
      Ok (record { first = first; second = second; third = third })) (value_if_so second)
      ∙ ap (λ three. three >>= λ third. Ok (record { first = first; second = second; third = third })) (value_if_so third))

  module _ (all one_left two_left last : List (List SpelledToken)) (one : IsFirstConstant all one_left first)
      (two : IsNextConstant (nat_le 2 most) one_left two_left second) (three : IsNextConstant (nat_le 3 most) two_left last third) (end : last ≡ []) where
    few : UpToThree Tree
    few = record { first = one.tree; second = two.tree; third = three.tree }

    reads_so : up_to_three_trees most all ≡ Ok few
    unfolding up_to_three_trees few
    reads_so =
        ap (λ read. read >>= λ one. next_tree_if (nat_le 2 most) one.1 >>= λ two. next_tree_if (nat_le 3 most) two.1 >>= λ three.
        no_more three.1 (record { first = one.0; second = two.0; third = three.0 })) one.reads
        ∙ (ap (λ read. read >>= λ two. next_tree_if (nat_le 3 most) two.1 >>= λ three.
        no_more three.1 (record { first = one.tree; second = two.0; third = three.0 })) two.reads
        ∙ (ap (λ read. read >>= λ three. no_more three.1 (record { first = one.tree; second = two.tree; third = three.0 })) three.reads
        ∙ ap (λ operands. no_more operands (record { first = one.tree; second = two.tree; third = three.tree })) end))

    forms_so : (known : Knowledge) → up_to_three_forms known few
        ≡ Ok (record { first = constant_form first; second = option_map constant_form second; third = option_map constant_form third })
    unfolding up_to_three_forms few
    forms_so known =
        ap (λ form. form >>= λ first. if_some (form_in known) two.tree >>= λ second. if_some (form_in known) three.tree >>= λ third.
        Ok (record { first = first; second = second; third = third })) (one.counts known)
        ∙ (ap (λ form. form >>= λ second. if_some (form_in known) three.tree >>= λ third.
        Ok (record { first = constant_form first; second = second; third = third })) (two.counts known)
        ∙ ap (λ form. form >>= λ third. Ok (record { first = constant_form first; second = option_map constant_form second; third = third })) (three.counts known))

    few_nothing : NamesNothing (up_to_three_listed few)
    unfolding few
    few_nothing =
        more_nothing (one.tree ∷ []) (option_to_list two.tree ++ option_to_list three.tree) one.names
        (more_nothing (option_to_list two.tree) (option_to_list three.tree) two.names three.names)

    pub all_so : AreConstants most all (record { first = first; second = second; third = third })
    unfolding known_operands
    all_so = record {
      counts = λ pos placed.
          ap (λ read. read >>= λ trees. known_values trees (naming_of (up_to_three_listed trees) placed.table) (with_names pos (up_to_three_listed trees) placed)) reads_so
          ∙ (ap (λ table. known_values few (naming_of (up_to_three_listed few) placed.table) (with_table placed table)) (few_nothing.names pos placed.table)
          ∙ (ap (λ naming. known_values few naming placed) (nothing_named (up_to_three_listed few) placed.table few_nothing)
          ∙ (ap (λ made. made >>= λ forms. up_to_three_constants forms >>= λ values. Ok (record { naming = no_naming placed.table; placed = placed; values = values }))
          (forms_so (known_here placed))
          ∙ ap (λ counted. counted >>= λ values. Ok (record { naming = no_naming placed.table; placed = placed; values = values })) values_so)));
    }

-- space whose operands name nothing is its item
module _ (pos : Pos) (placed : Placed) (values : UpToThree ℕ) where
  given : KnownOperands
  given = record { naming = no_naming placed.table; placed = placed; values = values }

  pushed_so : (put : Result (List LooseSection) PlaceCause)
      → ((put >>= λ sections. Ok (record placed { sections = sections })) >>= λ pushed.
      allowed (no_naming placed.table) pushed.table >>= λ table. Ok (with_table pushed table))
      ≡ (put >>= λ sections. Ok (record placed { sections = sections }))
  pushed_so (Ok sections) = ap (λ may. may >>= λ table. Ok (with_table (record placed { sections = sections }) table)) (none_allowed placed.table)
  pushed_so (Err fault) = refl

  one_so : (item : Content) → with_item pos given item ≡ push_item pos item placed
  unfolding push_into given
  one_so item = pushed_so (of_sections (put_into (item_put (new_item pos item)) placed.sections placed.current))

  item_so : (item : Result Content PlaceCause) → (item >>= with_item pos given) ≡ (item >>= λ item. push_item pos item placed)
  item_so (Ok item) = one_so item
  item_so (Err fault) = refl

  bytes_so : (bytes : List ℕ) → (put_bytes pos bytes placed >>= λ filled. allowed given.naming filled.table >>= λ table. Ok (with_table filled table)) ≡ put_bytes pos bytes placed
  unfolding put_bytes_into given
  bytes_so bytes = pushed_so (of_sections (put_into (bytes_put pos bytes) placed.sections placed.current))

  space_by : (few : Bool) (count value : ℕ)
      → (put_space_by few pos count value placed >>= λ filled. allowed given.naming filled.table >>= λ table. Ok (with_table filled table)) ≡ put_space_by few pos count value placed
  unfolding given
  space_by true count value = bytes_so (replicate count (value % 2 ^ 8))
  space_by false count value = more (space_of count value)
    where
      more : (item : Result Content PlaceCause)
          → ((item >>= λ item. push_item pos item placed) >>= λ filled. allowed given.naming filled.table >>= λ table. Ok (with_table filled table))
          ≡ (item >>= λ item. push_item pos item placed)
      more (Ok item) = one_so item
      more (Err fault) = refl

  space_so : (count value : ℕ) → with_filled pos given count value ≡ put_space pos count value placed
  unfolding given
  space_so count value = space_by (nat_le count 16) count value

  units_so : (count value : ℕ) (size : Result ℕ PlaceCause)
      → (size >>= λ size. units_of count size value >>= with_item pos given) ≡ (size >>= λ size. units_of count size value >>= λ item. push_item pos item placed)
  units_so count value (Ok size) = item_so (units_of count size value)
  units_so count value (Err fault) = refl

module _ (pos : Pos) (tokens : List SpelledToken) (operands : List (List SpelledToken)) (values : UpToThree ℕ) (placed : Placed) (is : operands ≡ operands_of tokens) where
  pub zero_so : AreConstants 1 operands values → put_space pos values.first 0 placed ≡ place_zero pos tokens placed
  unfolding place_zero given
  zero_so all = sym
      (ap (λ these. known_operands pos placed 1 these >>= λ (given : KnownOperands). with_filled pos given given.values.first 0) (sym is)
      ∙ (ap (λ given. given >>= λ (given : KnownOperands). with_filled pos given given.values.first 0) (all.counts pos placed)
      ∙ space_so pos placed values values.first 0))

  pub skip_so : (value : ℕ) → value ≡ unwrap_or values.second 0 → AreConstants 2 operands values
      → put_space pos values.first value placed ≡ place_skip pos tokens placed
  unfolding place_skip given
  skip_so value value_is all =
      ap (λ n. put_space pos values.first n placed) value_is
      ∙ sym (ap (λ these. known_operands pos placed 2 these >>= λ (given : KnownOperands). with_filled pos given given.values.first (unwrap_or given.values.second 0)) (sym is)
      ∙ (ap (λ given. given >>= λ (given : KnownOperands). with_filled pos given given.values.first (unwrap_or given.values.second 0)) (all.counts pos placed)
      ∙ space_so pos placed values values.first (unwrap_or values.second 0)))

  pub fill_so : (value : ℕ) → value ≡ unwrap_or values.third 0 → AreConstants 3 operands values
      → put_units_of pos values.first values.second value placed ≡ place_fill pos tokens placed
  unfolding place_fill given
  fill_so value value_is all =
      ap (λ n. put_units_of pos values.first values.second n placed) value_is
      ∙ sym (ap (λ these. known_operands pos placed 3 these >>= λ (given : KnownOperands). unit_size given.values.second >>= λ size.
      units_of given.values.first size (unwrap_or given.values.third 0) >>= with_item pos given) (sym is)
      ∙ (ap (λ given. given >>= λ (given : KnownOperands). unit_size given.values.second >>= λ size.
      units_of given.values.first size (unwrap_or given.values.third 0) >>= with_item pos given) (all.counts pos placed)
      ∙ units_so pos placed values values.first (unwrap_or values.third 0) (unit_size values.second)))

-- ONE OPERAND ALONE

ok_parts : {A : Type 0} (one other : A) → ◌≡◌ {A = Result A PlaceCause} (Ok one) (Ok other) → one ≡ other
ok_parts one other is = cc

read_first : (read : Result Tree PlaceCause) (rest behind : List (List SpelledToken)) (tree : Tree)
    → ◌>>=◌ {B = Tree × List (List SpelledToken)} read (λ made. Ok (made, rest)) ≡ Ok (tree, behind)
    → (read ≡ Ok tree) × (rest ≡ behind)
read_first (Ok made) rest behind tree is =
    let pair = ok_parts (made, rest) (tree, behind) is in
    (ap (λ (p : Tree × List (List SpelledToken)). Ok p.0) pair, ap (λ (p : Tree × List (List SpelledToken)). p.1) pair)
read_first (Err fault) rest behind tree is = absurd cc

-- a number is the only operand where none is left behind it
pub only_finds : (tokens : List SpelledToken) (operands behind : List (List SpelledToken)) (value : ℕ) → operands ≡ operands_of tokens → behind ≡ []
    → IsFirstConstant operands behind value → IsOnlyNumber tokens value
unfolding first_tree each
only_finds tokens [] behind value is none first = absurd cc
only_finds tokens (operand ∷ rest) behind value is none first =
    let parts = read_first (expression_of operand) rest behind first.tree first.reads in
    record {
      tree = first.tree;
      reads = ap (each expression_of) (sym is ∙ ap (λ others. operand ∷ others) (parts.1 ∙ none))
          ∙ ap (λ read. read >>= λ one. each expression_of [] >>= λ others. Ok (one ∷ others)) parts.0;
      counts = first.counts;
      names = first.names;
    }

-- nor where the tokens have no comma
pub lone_only : (tokens : List SpelledToken) (value : ℕ) → IsLoneConstant tokens value → IsOnlyNumber tokens value
unfolding each
lone_only tokens value is =
    let lone : IsLone tokens value = lone_found tokens (Some value) is in
    record {
      tree = lone.one.tree;
      reads = ap (each expression_of) lone.operands
          ∙ ap (λ read. read >>= λ one. each expression_of [] >>= λ others. Ok (one ∷ others)) (reads_alone tokens value lone.one);
      counts = counts_so tokens value lone.one;
      names = one_nothing lone.one.tree lone.one.names;
    }
