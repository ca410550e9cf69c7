-- Which form a statement brings: that of the expression of an assignment, and none else.
use Rattle.std.proofs.Common.{◌≡◌, ◌<◌, ◌⊎◌, inl, inr, ℕ, Bool, true, false, cond, List, [], ◌∷◌, length, Option, None, Some, Result, Ok, Err, refl, ap, subst, ◌∙◌}
use Rattle.std.specs.Prelude.{◌&&◌, not, drop, unwrap_or, All}
use Rattle.std.specs.List.{slice_split, onto_first}
use Rattle.std.proofs.lemmas.List.Elements.{All-nil, All-cons, All-head, All-tail}
use Rattle.asm_base.specs.Tokens.{SpelledToken}
use Rattle.asm_base.specs.declared.notes.Noted.{Noted}
use Rattle.asm_base.specs.declared.positions.Pos.{Pos}
use Rattle.asm_expr.specs.declared.naming.Name.{Name}
use Rattle.asm_expr.specs.declared.naming.Name.TheVariants as naming
use Rattle.asm_expr.specs.Forms.{Form}
use Rattle.asm_expr.specs.Trees.{Tree}
use Rattle.asm_lines.specs.NextStatements.{TokenStatement}
use Rattle.asm_operands.specs.declared.place_faults.PlaceCause.{PlaceCause}
use Rattle.asm_operands.specs.declared.place_faults.PlaceCause.TheVariants.{NumberTooWide, UnknownMnemonic}
use Rattle.asm_operands.specs.Expressions.{expression_of, form_in, first_tree, no_more}
use Rattle.asm_operands.specs.NamedTrees.{NamedTree, named_tree}
use Rattle.asm_operands.specs.Operands.{name_of, symbol_name, operands_of, is_comma, needed, is_name, is_dot, names_symbol, is_assignment, begins_with_dot, is_label}
use Rattle.asm_symbols.specs.declared.entries.Definition.TheVariants.{Label}
use Rattle.asm_symbols.specs.declared.entries.Meaning.TheVariants.{Assigned}
use Rattle.asm_symbols.specs.SymbolMap.{SymbolMap, names, index_of, changed, with_meaning}
use Rattle.asm_symbols.specs.Assigning.{with_form}
use Rattle.asm_symbols.specs.Defining.{defined}
use Rattle.asm_symbols.specs.Interning.{number_of}
use Rattle.asm_symbols.specs.LeadsBack.{assigned}
use Rattle.asm_uses.specs.Places.{here_name, uses_place}
use Rattle.asm_uses.specs.Tables.{Table, changed_by}
use Rattle.asm_values.specs.Assignments.{assign_words, place_set, place_assignment}
use Rattle.asm_values.specs.Sizes.{words_naming, with_words, words_symbol}
use Rattle.asm_values.specs.State.{Placed, with_table, here, known_here}
use Rattle.asm_words.specs.declared.directives.Directive.{Directive}
use Rattle.asm_words.specs.declared.directives.Directive.TheVariants as directive
use Rattle.asm_place.specs.CodePlaces.{labelled}
use Rattle.asm_place.specs.Placing.{initial_number, place_by, place_found, place_directive, place_body, place_label, place_labelled, place_tokens, has_wide_label}
use Rattle.asm_place.specs.Sources.{pos_at, located, place}
use Rattle.asm_declarations.specs.SectionChanges.{with_current, popped}
use Rattle.form_laws.specs.Numbers.{IsInBytes}
use Rattle.form_laws.proofs.Steps.{Fine, made, refused, weaker, step, after, either, given, held}
use Rattle.form_laws.proofs.Maps.{Keeps, both, changed_long, changed_names, TakesForm, assigned_takes, defined_keeps}
use Rattle.form_laws.proofs.Tables.{of_fine, onto, label_keeps, change_keeps, Closes, end_closes}
use Rattle.form_laws.proofs.Placing.{Stays, Walks, still, walked, data_walk, strings_walk, zero_walk, skip_walk, fill_walk, align_walk, org_walk, leb128_walk, dot_walk, said_walk, type_walk, size_walk, comm_walk, lcomm_walk, ident_walk, error_walk, warning_walk, syntax_walk, bare_walk, section_walk, pushed_walk, popped_walk, instruction_walk}
use Rattle.form_laws.proofs.TableWalks.{TablesKeep, frame_walk, row_walk, any_file_walk}

-- TOKENS

-- the tree is that of an expression of some of the tokens
pub record IsReadIn (tokens : List SpelledToken) (tree : Tree) : Type 0 where
  pub read : List SpelledToken
  pub reads : expression_of read ≡ Ok tree
  pub among : All IsInBytes tokens → All IsInBytes read

-- what holds of tokens holds of the parts between commas
onto_spelled : (token : SpelledToken) (parts : List (List SpelledToken)) → IsInBytes token → All (All IsInBytes) parts → All (All IsInBytes) (onto_first token parts)
onto_spelled token [] one all = All-cons (All IsInBytes) (token ∷ []) [] (All-cons IsInBytes token [] one (All-nil IsInBytes)) (All-nil (All IsInBytes))
onto_spelled token (part ∷ parts) one all =
    All-cons (All IsInBytes) (token ∷ part) parts (All-cons IsInBytes token part one (All-head (All IsInBytes) part parts all)) (All-tail (All IsInBytes) part parts all)

split_by : (comma : Bool) (token : SpelledToken) (parts : List (List SpelledToken)) → IsInBytes token → All (All IsInBytes) parts
    → All (All IsInBytes) (cond comma ([] ∷ parts) (onto_first token parts))
split_by true token parts one all = All-cons (All IsInBytes) [] parts (All-nil IsInBytes) all
split_by false token parts one all = onto_spelled token parts one all

split_spelled : (tokens : List SpelledToken) → All IsInBytes tokens → All (All IsInBytes) (slice_split is_comma tokens)
split_spelled [] all = All-cons (All IsInBytes) [] [] (All-nil IsInBytes) (All-nil (All IsInBytes))
split_spelled (token ∷ tokens) all =
    split_by (is_comma token) token (slice_split is_comma tokens) (All-head IsInBytes token tokens all) (split_spelled tokens (All-tail IsInBytes token tokens all))

operands_spelled : (tokens : List SpelledToken) → All IsInBytes tokens → All (All IsInBytes) (operands_of tokens)
operands_spelled [] all = All-nil (All IsInBytes)
operands_spelled (token ∷ tokens) all = split_spelled (token ∷ tokens) all

-- the expression of an operand
record IsReadOf (operands : List (List SpelledToken)) (tree : Tree) : Type 0 where
  read : List SpelledToken
  reads : expression_of read ≡ Ok tree
  among : All (All IsInBytes) operands → All IsInBytes read

first_read : (operands : List (List SpelledToken)) → Fine (λ (pair : Tree × List (List SpelledToken)). IsReadOf operands pair.0) (first_tree operands)
unfolding first_tree
first_read [] = refused _
first_read (operand ∷ operands) =
    step (given (expression_of operand))
    (λ tree is. made (tree, operands) (record { read = operand; reads = is; among = λ all. All-head (All IsInBytes) operand operands all }))

needed_rest : {A : Type 0} (give : List SpelledToken → Result A PlaceCause) (operands : List (List SpelledToken))
    → Fine (λ (pair : A × List (List SpelledToken)). All (All IsInBytes) operands → All (All IsInBytes) pair.1) (needed give operands)
needed_rest give [] = refused _
needed_rest give (operand ∷ operands) = after (give operand) (λ one. made _ (λ all. All-tail (All IsInBytes) operand operands all))

last_of : {A : Type 0} {P : A → Type 0} (operands : List (List SpelledToken)) (done : A) → P done → Fine {E = PlaceCause} P (no_more operands done)
last_of [] done is = made done is
last_of (operand ∷ operands) done is = refused _

-- a name and an expression
tree_read : (tokens : List SpelledToken) → Fine (λ (words : NamedTree). IsReadIn tokens words.tree) (named_tree (operands_of tokens))
unfolding named_tree
tree_read tokens =
    step (needed_rest name_of (operands_of tokens))
    (λ name rest. step (first_read name.1)
    (λ tree is. last_of {P = λ (words : NamedTree). IsReadIn tokens words.tree} tree.1 (record { name = naming.Plain name.0; tree = tree.0 })
    (record { read = is.read; reads = is.reads; among = λ all. is.among (rest (operands_spelled tokens all)) })))

-- ASSIGNMENTS

-- the form of the expression of an assignment comes, and the place of the statement is a symbol in the end, if the form keeps it
pub record IsAssigned (tokens : List SpelledToken) (before after : Placed) : Type 0 where
  pub there : Placed
  pub first : Stays before there
  pub pos : Pos
  pub words : NamedTree
  pub read : IsReadIn tokens words.tree
  pub at : ℕ
  pub form : Form
  pub form_is : form_in (known_here (with_words pos words there)) words.tree ≡ Ok form
  pub later : Keeps (with_form (with_words pos words there).table.symbols at form) after.table.symbols
  pub placed : uses_place (known_here (with_words pos words there)).place form ≡ true → (known_here (with_words pos words there)).place < length after.table.symbols.symbols

-- no form comes, or such a one
abbrev pub Comes : List SpelledToken → Placed → Placed → Type 0
Comes tokens before after = Stays before after ⊎ IsAssigned tokens before after

-- an assignment does not change numbers of symbols
number_same : (map : SymbolMap) (at : ℕ) (form : Form) (name : Name) → number_of (with_form map at form) name ≡ number_of map name
unfolding number_of
number_same map at form name =
    ap (λ (all : List Name). unwrap_or (index_of name all) (length (changed (with_meaning (Assigned form)) map.symbols at))) (changed_names (with_meaning (Assigned form)) (λ symbol. refl) map.symbols at)
    ∙ ap (λ (count : ℕ). unwrap_or (index_of name (names map.symbols)) count) (changed_long (with_meaning (Assigned form)) map.symbols at)

takes : (table : Table) (at : ℕ) (form : Form) (once : Bool) → Fine (λ (next : Table). TakesForm table.symbols at form next.symbols) (changed_by (λ map index. assigned map index form once) (table, at))
takes table at form once = step (of_fine (assigned table.symbols at form once) (assigned_takes table.symbols at form once)) (λ map is. made _ is)

words_assigned : (pos : Pos) (once : Bool) (words : NamedTree) (tokens : List SpelledToken) → IsReadIn tokens words.tree → (placed : Placed)
    → Fine (IsAssigned tokens placed) (assign_words pos once words placed)
unfolding assign_words
words_assigned pos once words tokens read placed =
    let named = with_words pos words placed in
    let at = words_symbol words placed in
    step (given (form_in (known_here named) words.tree))
    (λ form form_is. step (step (takes named.table at form once)
    (λ next taken. weaker (end_closes pos (words_naming words placed) (here named) (uses_place (known_here named).place form) next)
    (λ table closes. ends form form_is next taken table closes)))
    (λ table comes. made (with_table named table) comes))
  where
    ends : (form : Form) → form_in (known_here (with_words pos words placed)) words.tree ≡ Ok form → (next : Table)
        → TakesForm (with_words pos words placed).table.symbols (words_symbol words placed) form next.symbols → (table : Table)
        → Closes (here (with_words pos words placed)) (uses_place (known_here (with_words pos words placed)).place form) next table
        → IsAssigned tokens placed (with_table (with_words pos words placed) table)
    ends form form_is next taken table closes =
        let named = with_words pos words placed in
        let at = words_symbol words placed in
        record {
          there = placed;
          first = still placed;
          pos = pos;
          words = words;
          read = read;
          at = at;
          form = form;
          form_is = form_is;
          later = subst (λ (map : SymbolMap). Keeps map table.symbols) taken closes.kept;
          placed = λ keeps.
              let number : number_of next.symbols (here_name (here named)) ≡ number_of named.table.symbols (here_name (here named)) =
              ap (λ (map : SymbolMap). number_of map (here_name (here named))) taken ∙ number_same named.table.symbols at form (here_name (here named)) in
              subst (λ (n : ℕ). n < length table.symbols.symbols) number (closes.placed keeps);
        }

-- `.set`, `.equ`, `.equiv`
set_comes : (pos : Pos) (once : Bool) (tokens : List SpelledToken) (placed : Placed) → Fine (IsAssigned tokens placed) (place_set pos once tokens placed)
unfolding place_set
set_comes pos once tokens placed = step (tree_read tokens) (λ words read. words_assigned pos once words tokens read placed)

-- `name = expression`
assignment_comes : (pos : Pos) (token sign : SpelledToken) (rest : List SpelledToken) (placed : Placed)
    → Fine (IsAssigned (token ∷ sign ∷ rest) placed) (place_assignment pos token rest placed)
unfolding place_assignment
assignment_comes pos token sign rest placed =
    after (symbol_name token)
    (λ name. step (given (expression_of rest))
    (λ tree is. words_assigned pos false (record { name = naming.Plain name; tree = tree }) (token ∷ sign ∷ rest)
    (record { read = rest; reads = is; among = λ all. All-tail IsInBytes sign rest (All-tail IsInBytes token (sign ∷ rest) all) }) placed))

-- STATEMENTS

-- what comes by more tokens
more_tokens : (some all : List SpelledToken) → (All IsInBytes all → All IsInBytes some) → (before after : Placed) → Comes some before after → Comes all before after
more_tokens some all among before after (inl stays) = inl stays
more_tokens some all among before after (inr comes) = inr (record {
  there = comes.there;
  first = comes.first;
  pos = comes.pos;
  words = comes.words;
  read = record { read = comes.read.read; reads = comes.read.reads; among = λ spelled. comes.read.among (among spelled) };
  at = comes.at;
  form = comes.form;
  form_is = comes.form_is;
  later = comes.later;
  placed = comes.placed;
})

-- what comes behind names
behind_names : (tokens : List SpelledToken) (before between after : Placed) → Stays before between → Comes tokens between after → Comes tokens before after
behind_names tokens before between after first (inl stays) = inl (both before.table.symbols between.table.symbols after.table.symbols first stays)
behind_names tokens before between after first (inr comes) = inr (record {
  there = comes.there;
  first = both before.table.symbols between.table.symbols comes.there.table.symbols first comes.first;
  pos = comes.pos;
  words = comes.words;
  read = comes.read;
  at = comes.at;
  form = comes.form;
  form_is = comes.form_is;
  later = comes.later;
  placed = comes.placed;
})

stays_comes : {E : Type 0} {r : Result Placed E} (tokens : List SpelledToken) (placed : Placed) → Walks placed r → Fine (Comes tokens placed) r
stays_comes tokens placed walk = weaker walk (λ after stays. inl stays)

-- a label
pub label_walk : (pos : Pos) (token : SpelledToken) (placed : Placed) → Walks placed (place_label pos token placed)
unfolding place_label
label_walk pos token placed =
    step (step (label_keeps pos token placed.table)
    (λ pair kept. onto placed.table pair.0 _ kept (change_keeps (λ map index. defined map index (Label (here placed))) pair (defined_keeps (Label (here placed)) pair.0.symbols pair.1))))
    (λ table kept. dot_walk (is_dot token) placed (with_table placed table) kept)

-- labels one after the other
pub labels_walk : (pos : Pos) (tokens : List SpelledToken) (placed : Placed) → Walks placed (labelled pos tokens placed)
unfolding labelled
labels_walk pos [] placed = made _ (still placed)
labels_walk pos (token ∷ []) placed = made _ (still placed)
labels_walk pos (first ∷ second ∷ rest) placed =
    either (is_label first second) (walked placed (label_walk pos first placed) (λ labels. labels_walk pos rest labels)) (made _ (still placed))

module _ (tables : TablesKeep) where
  by_comes : (found : Directive) (pos : Pos) (tokens : List SpelledToken) (placed : Placed) → Fine (Comes tokens placed) (place_by found pos tokens placed)
  unfolding place_by
  by_comes (directive.Data size) pos tokens placed = stays_comes tokens placed (data_walk pos size tokens placed)
  by_comes (directive.Strings ended) pos tokens placed = stays_comes tokens placed (strings_walk pos ended tokens placed)
  by_comes (directive.Leb128 signed) pos tokens placed = stays_comes tokens placed (leb128_walk pos signed tokens placed)
  by_comes directive.Zero pos tokens placed = stays_comes tokens placed (zero_walk pos tokens placed)
  by_comes directive.Skip pos tokens placed = stays_comes tokens placed (skip_walk pos tokens placed)
  by_comes directive.Fill pos tokens placed = stays_comes tokens placed (fill_walk pos tokens placed)
  by_comes (directive.Align by) pos tokens placed = stays_comes tokens placed (align_walk pos by tokens placed)
  by_comes directive.Org pos tokens placed = stays_comes tokens placed (org_walk pos tokens placed)
  by_comes (directive.Enter initial) pos tokens placed =
      stays_comes tokens placed (bare_walk tokens placed (Ok (with_current (initial_number initial) placed)) (made _ (still placed)))
  by_comes directive.Section pos tokens placed = stays_comes tokens placed (section_walk pos tokens placed)
  by_comes directive.PushSection pos tokens placed = stays_comes tokens placed (pushed_walk pos tokens placed)
  by_comes directive.PopSection pos tokens placed = stays_comes tokens placed (bare_walk tokens placed (popped placed) (popped_walk placed))
  by_comes directive.Previous pos tokens placed =
      stays_comes tokens placed (bare_walk tokens placed (Ok (with_current placed.previous placed)) (made _ (still placed)))
  by_comes (directive.Say attribute) pos tokens placed = stays_comes tokens placed (said_walk pos attribute tokens placed)
  by_comes directive.Type pos tokens placed = stays_comes tokens placed (type_walk pos tokens placed)
  by_comes directive.Size pos tokens placed = stays_comes tokens placed (size_walk pos tokens placed)
  by_comes (directive.Assign once) pos tokens placed = weaker (set_comes pos once tokens placed) (λ after comes. inr comes)
  by_comes directive.Comm pos tokens placed = stays_comes tokens placed (comm_walk pos tokens placed)
  by_comes directive.Lcomm pos tokens placed = stays_comes tokens placed (lcomm_walk pos tokens placed)
  by_comes directive.Ident pos tokens placed = stays_comes tokens placed (ident_walk pos tokens placed)
  by_comes directive.File pos tokens placed = stays_comes tokens placed (any_file_walk tables pos tokens placed)
  by_comes directive.Loc pos tokens placed = stays_comes tokens placed (row_walk tables pos tokens placed)
  by_comes (directive.Error said) pos tokens placed = stays_comes tokens placed (error_walk said tokens placed)
  by_comes directive.Warning pos tokens placed = stays_comes tokens placed (warning_walk pos tokens placed)
  by_comes (directive.Syntax syntax) pos tokens placed = stays_comes tokens placed (syntax_walk syntax tokens placed)
  by_comes directive.Code64 pos tokens placed = stays_comes tokens placed (bare_walk tokens placed (Ok placed) (made _ (still placed)))
  by_comes (directive.Frame frame) pos tokens placed = stays_comes tokens placed (frame_walk tables frame pos tokens placed)

  found_comes : (found : Option Directive) (pos : Pos) (tokens : List SpelledToken) (placed : Placed) → Fine (Comes tokens placed) (place_found found pos tokens placed)
  found_comes None pos tokens placed = refused _
  found_comes (Some found) pos tokens placed = by_comes found pos tokens placed

  directive_comes : (pos : Pos) (name : List ℕ) (tokens : List SpelledToken) (placed : Placed) → Fine (Comes tokens placed) (place_directive pos name tokens placed)
  unfolding place_directive
  directive_comes pos name tokens placed = found_comes _ pos tokens placed

  -- an assignment, by what stands behind its name
  signed_comes : (pos : Pos) (first : SpelledToken) (rest : List SpelledToken) (placed : Placed) → is_assignment rest ≡ true
      → Fine (Comes (first ∷ rest) placed) (place_assignment pos first (drop 1 rest) placed)
  signed_comes pos first [] placed is = absurd cc
  signed_comes pos first (sign ∷ rest) placed is = weaker (assignment_comes pos first sign rest placed) (λ after comes. inr comes)

  body_comes : (pos : Pos) (first : SpelledToken) (rest : List SpelledToken) (placed : Placed) → Fine (Comes (first ∷ rest) placed) (place_body pos first rest placed)
  unfolding place_body
  body_comes pos first rest placed =
      either_true (names_symbol first) (is_assignment rest) (signed_comes pos first rest placed)
      (either (not (is_name first)) (refused UnknownMnemonic)
      (either (begins_with_dot first.bytes)
      (weaker (directive_comes pos first.bytes rest placed) (more_tokens rest (first ∷ rest) (λ all. All-tail IsInBytes first rest all) placed))
      (stays_comes (first ∷ rest) placed (instruction_walk pos (first ∷ rest) placed))))
    where
      either_true : (one other : Bool) {r s : Result Placed PlaceCause} → (other ≡ true → Fine (Comes (first ∷ rest) placed) r) → Fine (Comes (first ∷ rest) placed) s
          → Fine (Comes (first ∷ rest) placed) (cond (one && other) r s)
      either_true true true go stay = go refl
      either_true true false go stay = stay
      either_true false other go stay = stay

  labelled_comes : (pos : Pos) (tokens : List SpelledToken) (placed : Placed) → Fine (Comes tokens placed) (place_labelled pos tokens placed)
  unfolding place_labelled
  labelled_comes pos [] placed = made _ (inl (still placed))
  labelled_comes pos (first ∷ []) placed = body_comes pos first [] placed
  labelled_comes pos (first ∷ second ∷ rest) placed =
      either (is_label first second)
      (step (label_walk pos first placed)
      (λ labels stays. weaker (labelled_comes pos rest labels)
      (λ after comes. behind_names (first ∷ second ∷ rest) placed labels after stays
      (more_tokens rest (first ∷ second ∷ rest) (λ all. All-tail IsInBytes second rest (All-tail IsInBytes first (second ∷ rest) all)) labels after comes))))
      (body_comes pos first (second ∷ rest) placed)

  tokens_come : (pos : Pos) (tokens : List SpelledToken) (placed : Placed) → Fine (Comes tokens placed) (place_tokens pos tokens placed)
  unfolding place_tokens
  tokens_come pos tokens placed = either (has_wide_label tokens) (refused NumberTooWide) (labelled_comes pos tokens placed)

  located_comes : (s : TokenStatement) (notes : List Noted) (before : Placed) (answer : Result Placed PlaceCause) → Fine (Comes s.tokens before) answer
      → Fine (Comes s.tokens before) (located s notes answer)
  located_comes s notes before (Ok more) comes = made more comes.holds
  located_comes s notes before (Err fault) comes = refused _

  -- a statement
  pub statement_comes : (s : TokenStatement) (before after : Placed) → place s before ≡ Ok after → Comes s.tokens before after
  unfolding place
  statement_comes s before after is =
      held {P = Comes s.tokens before} after is (located_comes s before.notes before _ (tokens_come (pos_at s.file s.line) s.tokens before))
