-- Data of numbers is what its statement places.
use Rattle.std.proofs.Common.{◌≡◌, ℕ, ◌+◌, ◌≤◌, ◌&&◌, Bool, false, cond, List, [], ◌∷◌, ◌++◌, length, map, Result, Ok, Err, refl, sym, ap, subst, ◌∙◌, arith, length-append}
use Rattle.std.specs.List.{All, list_all, list_any, count_by}
use Rattle.std.proofs.lemmas.List.Sums.{sum_by-cons}
use Rattle.asm_base.specs.declared.tokens.Token.{Token}
use Rattle.asm_base.specs.Tokens.{SpelledToken, spelled}
use Rattle.asm_base.specs.Refusals.{◌>>=◌}
use Rattle.asm_base.specs.declared.positions.Pos.{Pos}
use Rattle.asm_expr.specs.Forms.{constant_form, Form}
use Rattle.asm_expr.specs.Knowledge.{Knowledge}
use Rattle.asm_expr.specs.Linear.{linear}
use Rattle.asm_expr.specs.NamesOf.{names_of}
use Rattle.asm_symbols.specs.SymbolMap.{SymbolMap}
use Rattle.asm_frags.specs.declared.fields.FieldSize.{FieldSize}
use Rattle.asm_frags.specs.declared.fields.FieldSize.TheVariants.{One, Two, Four, Eight}
use Rattle.asm_frags.specs.Fields.{low_bytes}
use Rattle.asm_frags.specs.Sections.{put_into}
use Rattle.asm_frags.specs.Writing.{LooseSection, bytes_put}
use Rattle.asm_operands.specs.Constants.{IsConstant}
use Rattle.asm_symbols.specs.declared.entries.Spot.{Spot}
use Rattle.asm_operands.specs.declared.place_faults.PlaceCause.{PlaceCause}
use Rattle.asm_uses.specs.declared.tables.Naming.{Naming}
use Rattle.asm_values.specs.ConstantOperands.{no_naming}
use Rattle.asm_values.specs.ConstantData.{IsNumberHere, MakesData, IsViewOf, IsLone, cut_of, put_any, put_lone, put_constants}
use Rattle.asm_values.specs.DataItems.{put_forms, is_cut, cut_notes}
use Rattle.asm_operands.specs.ExprFaults.{in_statement}
use Rattle.asm_operands.specs.Expressions.{alone, expression_of, form_in}
use Rattle.asm_operands.specs.LayerFaults.{of_sections}
use Rattle.asm_operands.specs.Operands.{operands_of, each}
use Rattle.asm_uses.specs.Places.{uses_place, name_here, end_naming}
use Rattle.asm_values.specs.Data.{put_data, data_of, place_data}
use Rattle.asm_operands.specs.Results.{all_steps}
use Rattle.asm_values.specs.State.{Placed, with_table, with_notes, with_names, here, known_here, put_bytes, put_bytes_into}
use Rattle.asm_uses.specs.declared.places.View.{View}
use Rattle.asm_uses.specs.Tables.{with_tree, with_trees, is_meant, are_meant, naming_of, allowed}
use Rattle.asm_uses.specs.Values.{HasSymbol, IsNumberIn}
use Rattle.asm_values.proofs.PutTwice.{any_twice, some_put}
use Rattle.asm_values.proofs.NameLemmas.{tree_names, tree_meant, tree_kept, tree_named, none_allowed}

some_bytes : (size : FieldSize) (value : ℕ) → 1 ≤ length (low_bytes size value)
unfolding low_bytes
some_bytes One value = omega arith
some_bytes Two value = omega arith
some_bytes Four value = omega arith
some_bytes Eight value = omega arith

none_behind : (pos : Pos) (size : FieldSize) (put : Result Placed PlaceCause) → (put >>= put_forms pos size []) ≡ put
unfolding put_forms all_steps
none_behind pos size (Ok placed) = refl
none_behind pos size (Err fault) = refl

-- a number in front is put behind what is there, and then the others
one_in_front : (pos : Pos) (size : FieldSize) (value : ℕ) (forms : List Form) (put : Result Placed PlaceCause)
    → (put >>= put_forms pos size (constant_form value ∷ forms)) ≡ ((put >>= put_bytes pos (low_bytes size value)) >>= put_forms pos size forms)
unfolding put_forms all_steps
one_in_front pos size value forms (Ok placed) = refl
one_in_front pos size value forms (Err fault) = refl

-- a number alone is one wherever a statement stands,
pub number_here : (placed : Placed) (operand : List SpelledToken) (value : ℕ) → IsConstant operand value → IsNumberHere placed operand value
number_here placed operand value one = record {
  tree = one.tree;
  reads = one.reads;
  counts = one.counts (known_here placed);
  names = λ pos. tree_names pos one.tree placed.table one.names;
  meant = tree_meant placed.table.symbols.counts one.tree one.names;
}

-- and what is known as a number is one where a statement stands that the view is of
pub known_number : (view : View) (placed : Placed) (operand : List SpelledToken) (value : ℕ) → IsViewOf view placed → IsNumberIn view operand value → IsNumberHere placed operand value
known_number view placed operand value here one =
    let worth = one.worth in
    let named : All (HasSymbol placed.table.symbols) (names_of one.tree) = subst (λ (map : SymbolMap). All (HasSymbol map) (names_of one.tree)) here.symbols worth.names in
    record {
      tree = one.tree;
      reads = one.reads;
      counts = subst (λ (known : Knowledge). linear known one.tree ≡ Ok (constant_form value)) here.known (worth.counts ∙ ap Ok worth.is);
      names = λ pos. tree_kept pos one.tree placed.table named;
      meant = tree_named placed.table.symbols one.tree named;
    }

-- no operand makes nothing more
makes_none : (placed : Placed) (size : FieldSize) (held : List ℕ) (cut : ℕ) → MakesData placed size [] held cut held cut
unfolding each with_trees are_meant
makes_none placed size held cut = record {
  trees = [];
  forms = [];
  reads = refl;
  counts = refl;
  names = λ pos. refl;
  meant = refl;
  away = λ place. refl;
  held = λ pos. none_behind pos size (put_any pos held placed);
  cut = omega arith;
}

-- a number in front makes its bytes
makes_more : (placed : Placed) (size : FieldSize) (operand : List SpelledToken) (value : ℕ) (rest : List (List SpelledToken)) (before after : List ℕ) (cut cut_after : ℕ)
    → IsNumberHere placed operand value → MakesData placed size rest (before ++ low_bytes size value) (cut + cut_of size value) after cut_after
    → MakesData placed size (operand ∷ rest) before cut after cut_after
unfolding each expression_of form_in with_trees are_meant
makes_more placed size operand value rest before after cut cut_after one later = record {
  trees = one.tree ∷ later.trees;
  forms = constant_form value ∷ later.forms;
  reads =
      ap (λ read. (in_statement read >>= (λ found. alone found.rest found.tree)) >>= λ first. each expression_of rest >>= λ others. Ok (first ∷ others)) one.reads
      ∙ ap (λ read. read >>= λ others. Ok (one.tree ∷ others)) later.reads;
  counts =
      ap (λ made. in_statement made >>= λ first. each (form_in (known_here placed)) later.trees >>= λ others. Ok (first ∷ others)) one.counts
      ∙ ap (λ made. made >>= λ others. Ok (constant_form value ∷ others)) later.counts;
  names = λ pos. ap (with_trees pos later.trees) (one.names pos) ∙ later.names pos;
  meant = ap (λ meant. meant && list_all (is_meant placed.table.symbols.counts) later.trees) one.meant ∙ later.meant;
  away = λ place. later.away place;
  held = λ pos.
      one_in_front pos size value later.forms (put_any pos before placed)
      ∙ (ap (λ put. put >>= put_forms pos size later.forms) (any_twice pos before (low_bytes size value) placed (some_bytes size value)) ∙ later.held pos);
  cut =
      let one_more : count_by (is_cut size) (constant_form value ∷ later.forms) ≡ cut_of size value + count_by (is_cut size) later.forms =
      sum_by-cons (λ form. cond (is_cut size form) 1 0) (constant_form value) later.forms in
      omega (arith, later.cut, one_more);
}

-- a number more behind what made data from the beginning
pub loop_more : (placed : Placed) (size : FieldSize) (operand : List SpelledToken) (value : ℕ) (all left rest : List (List SpelledToken)) (before held : List ℕ) (cut more : ℕ)
    → left ≡ operand ∷ rest → IsNumberHere placed operand value → held ≡ before ++ low_bytes size value → more ≡ cut_of size value
    → ((after : List ℕ) (cut_after : ℕ) → MakesData placed size left before cut after cut_after → MakesData placed size all [] 0 after cut_after)
    → (after : List ℕ) (cut_after : ℕ) → MakesData placed size rest held (cut + more) after cut_after → MakesData placed size all [] 0 after cut_after
loop_more placed size operand value all left rest before held cut more is one held_is more_is so_far after cut_after later =
    so_far after cut_after (subst (λ operands. MakesData placed size operands before cut after cut_after) (sym is)
    (makes_more placed size operand value rest before after cut cut_after one
    (subst (λ put. MakesData placed size rest put (cut + cut_of size value) after cut_after) held_is
    (subst (λ n. MakesData placed size rest held (cut + n) after cut_after) more_is later))))

-- behind the last operand
pub loop_end : (placed : Placed) (size : FieldSize) (all left : List (List SpelledToken)) (held : List ℕ) (cut : ℕ) → left ≡ []
    → ((after : List ℕ) (cut_after : ℕ) → MakesData placed size left held cut after cut_after → MakesData placed size all [] 0 after cut_after)
    → MakesData placed size all [] 0 held cut
loop_end placed size all left held cut is so_far =
    so_far held cut (subst (λ operands. MakesData placed size operands held cut held cut) (sym is) (makes_none placed size held cut))

-- no tokens make nothing
pub nothing_made : (size : FieldSize) (tokens : List Token) (held : List ℕ) → length tokens ≡ 0 → held ≡ []
    → (placed : Placed) → MakesData placed size (operands_of (map spelled tokens)) [] 0 held 0
nothing_made size [] held none empty placed = subst (λ bytes. MakesData placed size [] [] 0 bytes 0) (sym empty) (makes_none placed size [] 0)
nothing_made size (token ∷ rest) held none empty placed = absurd (omega arith)

-- no more values are cut than there are bytes
pub still_few : (size : FieldSize) (value : ℕ) (before held : List ℕ) (cut more : ℕ) → held ≡ before ++ low_bytes size value
    → more ≤ 1 → cut ≤ length before → cut + more ≤ length held
still_few size value before held cut more is one few =
    let bytes : length held ≡ length before + length (low_bytes size value) = ap length is ∙ length-append before (low_bytes size value) in
    omega (arith, some_bytes size value)

-- the symbols stay where bytes are put
module _ (placed : Placed) (one other : Placed → Result Placed PlaceCause) (same : (put : Placed) → put.table ≡ placed.table → one put ≡ other put) where
  sections_same : (put : Result (List LooseSection) PlaceCause) → ((put >>= λ sections. Ok (record placed { sections = sections })) >>= one)
      ≡ ((put >>= λ sections. Ok (record placed { sections = sections })) >>= other)
  sections_same (Ok sections) = same (record placed { sections = sections }) refl
  sections_same (Err fault) = refl

  any_same : (pos : Pos) (bytes : List ℕ) → (put_any pos bytes placed >>= one) ≡ (put_any pos bytes placed >>= other)
  unfolding put_bytes_into
  any_same pos [] = same placed refl
  any_same pos (byte ∷ bytes) = sections_same (of_sections (put_into (bytes_put pos (byte ∷ bytes)) placed.sections placed.current))

-- operands that make data from the beginning are placed as that data
module _ (pos : Pos) (size : FieldSize) (held : List ℕ) (cut : ℕ) where
  -- names that are nothing's end nothing
  end_so : (naming : Naming) (spot : Spot) (keeps : Bool) (forms : List Form) (put : Placed) → allowed naming put.table ≡ Ok put.table → keeps ≡ false
      → count_by (is_cut size) forms ≡ cut
      → (end_naming pos naming spot keeps put.table >>= λ table. Ok (with_notes (cut_notes pos (count_by (is_cut size) forms)) (with_table put table)))
      ≡ Ok (with_notes (cut_notes pos cut) put)
  unfolding name_here
  end_so naming spot keeps forms put may away count =
      ap (λ may. (may >>= name_here pos spot keeps) >>= λ table. Ok (with_notes (cut_notes pos (count_by (is_cut size) forms)) (with_table put table))) may
      ∙ (ap (λ keeps. name_here pos spot keeps put.table >>= λ table. Ok (with_notes (cut_notes pos (count_by (is_cut size) forms)) (with_table put table))) away
      ∙ ap (λ n. Ok (with_notes (cut_notes pos n) put)) count)

  put_so : (forms : List Form) (placed : Placed) → (put_any pos [] placed >>= put_forms pos size forms) ≡ put_any pos held placed
      → list_any (uses_place (known_here placed).place) forms ≡ false → count_by (is_cut size) forms ≡ cut
      → put_data pos size (no_naming placed.table) forms placed ≡ put_constants pos held cut placed
  unfolding put_data
  put_so forms placed puts away count =
      ap (λ put. put >>= λ made.
      end_naming pos (no_naming placed.table) (here placed) (list_any (uses_place (known_here placed).place) forms) made.table >>= λ table.
      Ok (with_notes (cut_notes pos (count_by (is_cut size) forms)) (with_table made table))) puts
      ∙ any_same placed _ (λ made. Ok (with_notes (cut_notes pos cut) made))
      (λ made still. end_so (no_naming placed.table) (here placed) (list_any (uses_place (known_here placed).place) forms) forms made
      (subst (λ table. allowed (no_naming table) made.table ≡ Ok made.table) still (none_allowed made.table)) away count) pos held

  pub constants_place : (tokens : List SpelledToken) (placed : Placed) → MakesData placed size (operands_of tokens) [] 0 held cut
      → place_data pos size tokens placed ≡ put_constants pos held cut placed
  unfolding place_data
  constants_place tokens placed made =
      ap (λ read. read >>= λ trees. data_of pos size trees (naming_of trees placed.table) (with_names pos trees placed)) made.reads
      ∙ (ap (λ table. data_of pos size made.trees (naming_of made.trees placed.table) (with_table placed table)) (made.names pos)
      ∙ (ap (λ (meant : Bool). data_of pos size made.trees (record { before = length placed.table.symbols.symbols; meant = meant }) placed) made.meant
      ∙ (ap (λ counted. counted >>= λ forms. put_data pos size (no_naming placed.table) forms placed) made.counts
      ∙ put_so made.forms placed (made.held pos) (made.away (known_here placed).place) (omega (arith, made.cut)))))

-- one number is placed as its bytes
pub lone_places : (pos : Pos) (size : FieldSize) (value : ℕ) (tokens : List SpelledToken) (placed : Placed) → IsLone tokens value
    → put_lone pos size value placed ≡ place_data pos size tokens placed
lone_places pos size value tokens placed lone =
    let low = low_bytes size value in
    let cut = cut_of size value in
    let none : 0 + cut ≡ cut = omega arith in
    let more : MakesData placed size (tokens ∷ []) [] 0 low (0 + cut) =
    makes_more placed size tokens value [] [] low 0 (0 + cut) (number_here placed tokens value lone.one) (makes_none placed size low (0 + cut)) in
    let made : MakesData placed size (tokens ∷ []) [] 0 low cut = subst (λ n. MakesData placed size (tokens ∷ []) [] 0 low n) none more in
    sym (constants_place pos size (low_bytes size value) (cut_of size value) tokens placed
    (subst (λ operands. MakesData placed size operands [] 0 (low_bytes size value) (cut_of size value)) (sym lone.operands) made)
    ∙ ap (λ put. put >>= λ made. Ok (with_notes (cut_notes pos (cut_of size value)) made)) (some_put pos (low_bytes size value) placed (some_bytes size value)))
