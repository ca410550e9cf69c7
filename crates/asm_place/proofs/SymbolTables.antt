-- What the changes of the symbol table keep: each symbol that has a place stands in its section, and forms name symbols that are there, or the next one.
use Rattle.std.proofs.Common.{◌≡◌, ℕ, zero, suc, inl, inr, Bool, true, false, cond, ◌+◌, ◌≤◌, ◌++◌, length, List, [], ◌∷◌, Option, None, Some, Result, Ok, Err, All, refl, sym, ap, ◌∙◌, subst, arith, length-append}
use Rattle.std.specs.Prelude.{◌&&◌, ◌||◌, nat_le, slice_get, is_some}
use Rattle.std.proofs.lemmas.Bool.{and_parts, or_cases, leb-true}
use Rattle.std.proofs.lemmas.Option.{same_Some}
use Rattle.std.proofs.lemmas.List.Elements.{All-nil, All-cons, All-head, All-tail, All-push, All-weaker}
use Rattle.asm_expr.specs.declared.naming.Name.TheVariants as naming
use Rattle.asm_base.specs.Tokens.{SpelledToken}
use Rattle.asm_base.specs.declared.positions.Pos.{Pos}
use Rattle.asm_base.specs.declared.tokens.TokenKind.{TokenKind}
use Rattle.asm_base.specs.declared.tokens.TokenKind.TheVariants as token
use Rattle.asm_expr.specs.declared.naming.Name.{Name}
use Rattle.asm_expr.specs.Forms.{Form, constant_form}
use Rattle.asm_expr.specs.Trees.{Tree}
use Rattle.asm_expr.specs.Trees as expr
use Rattle.asm_declarations.specs.SectionChanges.{signed}
use Rattle.asm_frags.specs.Writing.{LooseSection}
use Rattle.asm_operands.specs.LayerFaults.{of_symbols}
use Rattle.asm_operands.specs.declared.place_faults.PlaceCause.{PlaceCause}
use Rattle.asm_operands.specs.declared.place_faults.PlaceCause.TheVariants.{BadSymbolUse as BadSymbol}
use Rattle.asm_operands.specs.Results.{all_steps}
use Rattle.asm_symbols.specs.declared.entries.Binding.{Binding}
use Rattle.asm_symbols.specs.declared.entries.Definition.{Definition}
use Rattle.asm_symbols.specs.declared.entries.Definition.TheVariants as definition
use Rattle.asm_symbols.specs.declared.entries.Kind.{Kind}
use Rattle.asm_symbols.specs.declared.entries.Meaning.{Meaning}
use Rattle.asm_symbols.specs.declared.entries.Meaning.TheVariants as meaning
use Rattle.asm_symbols.specs.declared.entries.Spot.{Spot}
use Rattle.asm_symbols.specs.declared.entries.Symbol.{Symbol}
use Rattle.asm_base.specs.declared.causes.SymCause.{SymCause}
use Rattle.asm_base.specs.declared.causes.SymCause.TheVariants.{BadSymbolUse}
use Rattle.asm_symbols.specs.Assigning.{form_fault_at, form_of, with_form, NoFormLeadsBack}
use Rattle.asm_symbols.specs.Attributes.{with_binding, with_kind, with_visibility, with_size, with_next_size, bound_as, bound_by, bound}
use Rattle.asm_symbols.specs.Counting.{meant_name, next_named}
use Rattle.asm_symbols.specs.Defining.{meant, redefined, with_defined, defined_by, defined}
use Rattle.asm_symbols.specs.Interning.{is_within_limits, undefined, with_name, named, interned, has_room, with_file}
use Rattle.asm_symbols.specs.LeadsBack.{leads_back, assigned_by, assigned}
use Rattle.asm_symbols.specs.SymbolMap.{SymbolMap, names, index_of, changed, with_meaning}
use Rattle.asm_uses.specs.Attributes.{said, say_all, kind_said, sized, as_space, space_kind, define_space}
use Rattle.expr_texts.specs.Numbers.{numeral}
use Rattle.asm_operands.specs.ExprFaults.{in_statement}
use Rattle.asm_operands.specs.Operands.{symbol_name}
use Rattle.asm_uses.specs.Labels.{named_symbol, label_by, label_symbol}
use Rattle.asm_uses.specs.Places.{here_name, here_by, name_here, end_naming}
use Rattle.asm_uses.specs.Tables.{Table, with_map, found_in, symbol_of, next_symbol, changed_by, change_named, file_named, with_name as table_with_name, with_tree, with_trees, allowed}
use Rattle.asm_uses.specs.declared.tables.Naming.{Naming}
use Rattle.asm_symbols.specs.declared.entries.SymbolAttribute.{SymbolAttribute}
use Rattle.asm_symbols.specs.declared.entries.SymbolAttribute.TheVariants.{Bind, See}
use Rattle.asm_place.specs.SymbolPlaces.{AreUpTo, IsGiven, MeaningStands, NameStands, SymbolStands, SymbolsStand}
use Rattle.asm_place.proofs.ForwardForms.{LeadsAreFound, not_led, forward_kept, forward_push, forward_written, meant_formless}
use Rattle.asm_place.proofs.GivenNames.{GivenAt, meant_given, given_stands, found_given, form_takes}
use Rattle.asm_place.proofs.NamedSymbols.{up_to_more}
use Rattle.asm_place.proofs.SymbolLimits.{AreFit, fit_alike, changed_long, changed_names, put_last, changed_last, fit_symbol, fit_file}
use Rattle.asm_place.proofs.Walks.{Fine, made, refused, step, after, either_by}

-- what a layer answers is as fine as a statement's
of_fine : {A : Type 0} {P : A → Type 0} (answer : Result A SymCause) → Fine P answer → Fine P (of_symbols answer)
of_fine (Ok x) fine = made x fine.holds
of_fine (Err fault) fine = refused _

module _ (sections : List LooseSection) where
  -- a symbol that has a place stands in its section, a form names no symbol above this one, and a label alone has the name of a place, its own
  abbrev pub Stands : ℕ → Symbol → Type 0
  Stands last symbol = SymbolStands sections last symbol

  -- no symbol goes, all stand so where they did, and where none comes all are within the limits if they were
  pub record Names (before after : SymbolMap) : Type 0 where
    pub more : length before.symbols ≤ length after.symbols
    pub kept : SymbolsStand sections before.symbols → SymbolsStand sections after.symbols
    pub alike : length after.symbols ≤ length before.symbols → AreFit before → AreFit after

  -- and symbols and files are within the limits where they were
  pub record Maps (before after : SymbolMap) : Type 0 where
    pub more : length before.symbols ≤ length after.symbols
    pub kept : SymbolsStand sections before.symbols → SymbolsStand sections after.symbols
    pub fits : AreFit before → AreFit after

  -- the same of tables
  abbrev pub Tables : Table → Table → Type 0
  Tables before after = Maps before.symbols after.symbols

  -- where names were asked for since there were so many symbols, all are within the limits in the end if they were with no more symbols than that
  pub record Allows (base : ℕ) (before after : Table) : Type 0 where
    pub more : length before.symbols.symbols ≤ length after.symbols.symbols
    pub kept : SymbolsStand sections before.symbols.symbols → SymbolsStand sections after.symbols.symbols
    pub few : (length before.symbols.symbols ≤ base → AreFit before.symbols) → AreFit after.symbols

  -- a map that stays
  pub same : (map : SymbolMap) → Maps map map
  same map = record { more = omega arith; kept = λ all. all; fits = λ fit. fit }

  -- a change behind another
  pub both : (one two three : SymbolMap) → Maps one two → Maps two three → Maps one three
  both one two three first last =
      let more = first.more in
      let still = last.more in
      record { more = omega arith; kept = λ all. last.kept (first.kept all); fits = λ fit. last.fits (first.fits fit) }

  -- no name more
  pub named_so : (map : SymbolMap) → Names map map
  named_so map = record { more = omega arith; kept = λ all. all; alike = λ few fit. fit }

  -- names, and more names
  pub named_both : (one two three : SymbolMap) → Names one two → Names two three → Names one three
  named_both one two three first last =
      let more = first.more in
      let still = last.more in
      record {
        more = omega arith;
        kept = λ all. last.kept (first.kept all);
        alike = λ few fit. last.alike (omega (arith, few, more)) (first.alike (omega (arith, few, still)) fit);
      }

  -- where more symbols may be named, all stand as before
  stands_more : (last more : ℕ) → last ≤ more → (meant : Meaning) → MeaningStands sections last meant → MeaningStands sections more meant
  stands_more last more le meaning.Undefined stands = tt
  stands_more last more le (meaning.Label spot) stands = stands
  stands_more last more le (meaning.Common size align) stands = tt
  stands_more last more le (meaning.Space spot) stands = stands
  stands_more last more le (meaning.Assigned form) stands = up_to_more last more form.terms le stands

  -- all stand where one is changed that stands as before
  changed_all : (last : ℕ) (change : Symbol → Symbol) (symbols : List Symbol) (index : ℕ)
      → ((symbol : Symbol) → slice_get symbols index ≡ Some symbol → Stands last symbol → Stands last (change symbol))
      → All (Stands last) symbols → All (Stands last) (changed change symbols index)
  unfolding changed
  changed_all last change [] index stands all = All-nil (Stands last)
  changed_all last change (symbol ∷ rest) zero stands all =
      All-cons (Stands last) (change symbol) rest (stands symbol refl (All-head (Stands last) symbol rest all)) (All-tail (Stands last) symbol rest all)
  changed_all last change (symbol ∷ rest) (suc index) stands all =
      All-cons (Stands last) symbol (changed change rest index) (All-head (Stands last) symbol rest all)
      (changed_all last change rest index stands (All-tail (Stands last) symbol rest all))

  -- a change of the symbol that is there, by which it stands as before and keeps its name
  one_stands : (change : Symbol → Symbol) (map : SymbolMap) (index : ℕ) (after : SymbolMap) → after.symbols ≡ changed change map.symbols index
      → after.files ≡ map.files → ((symbol : Symbol) → (change symbol).name ≡ symbol.name) → (NoFormLeadsBack map.symbols → NoFormLeadsBack (changed change map.symbols index))
      → ((symbol : Symbol) → slice_get map.symbols index ≡ Some symbol → Stands (length map.symbols) symbol → Stands (length map.symbols) (change symbol))
      → Maps map after
  one_stands change map index after is files name forward stands =
      let long : length after.symbols ≡ length map.symbols = ap (λ (all : List Symbol). length all) is ∙ changed_long change map.symbols index in
      record {
        more = omega (arith, long);
        kept = λ all. record {
          each = subst (λ (last : ℕ). All (Stands last) after.symbols) (sym long)
              (subst (All (Stands (length map.symbols))) (sym is) (changed_all (length map.symbols) change map.symbols index stands all.each));
          forward = subst NoFormLeadsBack (sym is) (forward all.forward);
        };
        fits = fit_alike map after long (ap names is ∙ changed_names change name map.symbols index) files;
      }

  -- a change by which any symbol stands as before
  changed_stand : (change : Symbol → Symbol) (map : SymbolMap) (index : ℕ) (after : SymbolMap) → after.symbols ≡ changed change map.symbols index
      → after.files ≡ map.files → ((symbol : Symbol) → (change symbol).name ≡ symbol.name) → ((symbol : Symbol) → (change symbol).meaning ≡ symbol.meaning)
      → ((symbol : Symbol) → Stands (length map.symbols) symbol → Stands (length map.symbols) (change symbol)) → Maps map after
  changed_stand change map index after is files name meaning stands =
      one_stands change map index after is files name (forward_kept change map.symbols index (λ symbol there. ap form_of (meaning symbol))) (λ symbol there. stands symbol)

  -- one symbol more, which stands
  pushed_stand : (symbols : List Symbol) (one : Symbol) → Stands (length symbols + 1) one → form_of one.meaning ≡ None → SymbolsStand sections symbols → SymbolsStand sections (symbols ++ one ∷ [])
  pushed_stand symbols one stands formless all =
      let long : length (symbols ++ one ∷ []) ≡ length symbols + 1 = length-append symbols (one ∷ []) in
      record {
        each = subst (λ (last : ℕ). All (Stands last) (symbols ++ one ∷ [])) (sym long)
            (All-push (Stands (length symbols + 1)) symbols one
            (All-weaker (Stands (length symbols)) (Stands (length symbols + 1))
            (λ symbol stood. (stands_more (length symbols) (length symbols + 1) (omega arith) symbol.meaning stood.0, stood.1)) symbols all.each) stands);
        forward = forward_push symbols one formless all.forward;
      }

  -- a symbol of which nothing is known stands
  more_stand : (map : SymbolMap) (name : Name) → IsGiven name → Names map (with_name map name)
  more_stand map name given =
      let long : length (map.symbols ++ undefined name ∷ []) ≡ length map.symbols + 1 = length-append map.symbols (undefined name ∷ []) in
      record {
        more = omega (arith, long);
        kept = pushed_stand map.symbols (undefined name) (tt, given) refl;
        alike = λ few fit. absurd (omega (arith, long, few));
      }

  -- names
  interned_stand : (map : SymbolMap) (name : Name) → IsGiven name → Names map (interned map name)
  unfolding interned
  interned_stand map name given = by (is_some (index_of name (names map.symbols)))
    where
      by : (test : Bool) → Names map (cond test map (with_name map name))
      by true = named_so map
      by false = more_stand map name given

  -- the symbol that is put last has the name
  last_given : (map : SymbolMap) (name : Name) → IsGiven name → GivenAt (with_name map name) (length map.symbols)
  last_given map name given symbol there =
      subst (λ (s : Symbol). IsGiven s.name) (same_Some (undefined name) symbol (sym (put_last map.symbols (undefined name)) ∙ there)) given

  -- a new name, where there is room for it
  added_stand : (test : Bool) (map : SymbolMap) (name : Name) → IsGiven name → has_room map name ≡ test
      → Fine (λ (pair : SymbolMap × ℕ). Maps map pair.0 × GivenAt pair.0 pair.1) (cond test (Ok (with_name map name, length map.symbols)) (Err BadSymbolUse))
  added_stand true map name given room =
      let new = more_stand map name given in
      made _ ((record { more = new.more; kept = new.kept; fits = λ before. fit_symbol map name room }, last_given map name given))
  added_stand false map name given room = refused _

  -- a name, new or not
  named_stand : (map : SymbolMap) (name : Name) → IsGiven name → Fine (λ (pair : SymbolMap × ℕ). Maps map pair.0 × GivenAt pair.0 pair.1) (named map name)
  unfolding named
  named_stand map name given = by (index_of name (names map.symbols)) refl
    where
      by : (found : Option ℕ) → index_of name (names map.symbols) ≡ found
          → Fine (λ (pair : SymbolMap × ℕ). Maps map pair.0 × GivenAt pair.0 pair.1) (named map name)
      by (Some index) is = rw is (made (map, index) (same map, found_given name given map.symbols index is))
      by None is = rw is (added_stand (has_room map name) map name given refl)

  -- the same in a table
  found_stand : (pos : Pos) (table : Table) (found : Result (SymbolMap × ℕ) SymCause)
      → Fine (λ (pair : SymbolMap × ℕ). Maps table.symbols pair.0 × GivenAt pair.0 pair.1) found
      → Fine (λ (pair : Table × ℕ). Tables table pair.0 × GivenAt pair.0.symbols pair.1) (found_in pos table found)
  found_stand pos table found fine = step (of_fine found fine) (λ pair kept. made _ kept)

  -- the symbol of a name
  pub symbol_stand : (pos : Pos) (name : Name) → IsGiven name → (table : Table)
      → Fine (λ (pair : Table × ℕ). Tables table pair.0 × GivenAt pair.0.symbols pair.1) (symbol_of pos name table)
  unfolding symbol_of
  symbol_stand pos name given table = found_stand pos table (named table.symbols name) (named_stand table.symbols name given)

  -- the next instance of a numeric label
  next_stand : (pos : Pos) (number : ℕ) (table : Table) → Fine (λ (pair : Table × ℕ). Tables table pair.0 × GivenAt pair.0.symbols pair.1) (next_symbol pos number table)
  unfolding next_symbol next_named
  next_stand pos number table = found_stand pos table (next_named table.symbols number) (named_stand table.symbols _ tt)

  -- a label by its token
  pub label_stand : (pos : Pos) (spelled : SpelledToken) (table : Table)
      → Fine (λ (pair : Table × ℕ). Tables table pair.0 × GivenAt pair.0.symbols pair.1) (label_symbol pos spelled table)
  unfolding label_symbol
  label_stand pos spelled table = by spelled.kind
    where
      named_by : Fine (λ (pair : Table × ℕ). Tables table pair.0 × GivenAt pair.0.symbols pair.1) (named_symbol pos spelled table)
      named_by = after (symbol_name spelled) (λ name. symbol_stand pos (naming.Plain name) tt table)

      by : (kind : TokenKind) → Fine (λ (pair : Table × ℕ). Tables table pair.0 × GivenAt pair.0.symbols pair.1) (label_by kind pos spelled table)
      by token.Digits = after (in_statement (numeral 10 spelled.bytes)) (λ number. next_stand pos number table)
      by token.Name = named_by
      by token.Character = named_by
      by token.String = named_by
      by token.Operator = named_by
      by token.Other = named_by

  -- names of a statement
  pub with_name_stand : (pos : Pos) (name : Name) → IsGiven name → (table : Table) → Names table.symbols (table_with_name pos name table).symbols
  unfolding table_with_name
  with_name_stand pos name given table = interned_stand table.symbols name given

  -- those of an expression
  pub tree_stand : (pos : Pos) (tree : Tree) (table : Table) → Names table.symbols (with_tree pos tree table).symbols
  unfolding with_tree
  tree_stand pos (expr.number value) table = named_so table.symbols
  tree_stand pos (expr.name written) table = with_name_stand pos (meant_name table.symbols.counts written) (meant_given table.symbols.counts written) table
  tree_stand pos expr.here table = named_so table.symbols
  tree_stand pos (expr.unary op operand) table = tree_stand pos operand table
  tree_stand pos (expr.binary op left right) table =
      named_both table.symbols (with_tree pos left table).symbols (with_tree pos right (with_tree pos left table)).symbols (tree_stand pos left table)
      (tree_stand pos right (with_tree pos left table))

  -- those of several
  pub trees_stand : (pos : Pos) (trees : List Tree) (table : Table) → Names table.symbols (with_trees pos trees table).symbols
  unfolding with_trees
  trees_stand pos [] table = named_so table.symbols
  trees_stand pos (tree ∷ trees) table =
      named_both table.symbols (with_tree pos tree table).symbols (with_trees pos trees (with_tree pos tree table)).symbols (tree_stand pos tree table)
      (trees_stand pos trees (with_tree pos tree table))

  -- the signature of a group
  pub signed_stand : (pos : Pos) (signature : Option (List ℕ)) (table : Table) → Names table.symbols (signed pos signature table).symbols
  signed_stand pos None table = named_so table.symbols
  signed_stand pos (Some text) table = with_name_stand pos (naming.Plain text) tt table

  -- changes
  pub onto : {A : Type 0} (before between : Table) (tables : A → Table) {r : Result A PlaceCause} → Tables before between → Fine (λ x. Tables between (tables x)) r → Fine (λ x. Tables before (tables x)) r
  onto before between tables {r = Ok x} first later = made x (both before.symbols between.symbols (tables x).symbols first later.holds)
  onto before between tables {r = Err fault} first later = refused fault

  -- a change of a symbol that is found
  pub change_stand : (change : SymbolMap → ℕ → Result SymbolMap SymCause) (found : Table × ℕ) → Fine (Maps found.0.symbols) (change found.0.symbols found.1)
      → Fine (Tables found.0) (changed_by change found)
  change_stand change found fine = step (of_fine (change found.0.symbols found.1) fine) (λ map kept. made _ kept)

  -- a change of the symbol of a name
  pub named_change_stand : (pos : Pos) (change : SymbolMap → ℕ → Result SymbolMap SymCause) (name : Name) → IsGiven name → (table : Table)
      → ((map : SymbolMap) (index : ℕ) → GivenAt map index → Fine (Maps map) (change map index)) → Fine (Tables table) (change_named pos change name table)
  named_change_stand pos change name given table fine =
      step (symbol_stand pos name given table) (λ pair kept. onto table pair.0 (λ t. t) kept.0 (change_stand change pair (fine pair.0.symbols pair.1 kept.1)))

  -- the place of a definition stands in its section
  abbrev pub DefinitionStands : Definition → Type 0
  DefinitionStands what = (last : ℕ) → MeaningStands sections last (meant what)

  -- what a definition makes of a symbol stands, and so does its name if it did; and it has no form more
  abbrev RedefinedStands : Name → Option Binding → Meaning → Meaning → Type 0
  RedefinedStands name binding now new = (NameStands name binding now → (last : ℕ) → MeaningStands sections last new × NameStands name binding new) × (form_of new ≡ form_of now)

  -- a symbol that is defined anew
  redefined_stand : (name : Name) (binding : Option Binding) (now : Meaning) (what : Definition) → DefinitionStands what → Fine (RedefinedStands name binding now) (redefined now what)
  redefined_stand name binding meaning.Undefined what stands = made (meant what) ((λ given last. (stands last, given_stands name binding (meant what) given)), meant_formless what)
  redefined_stand name binding (meaning.Label spot) what stands = refused _
  redefined_stand name binding (meaning.Space spot) what stands = refused _
  redefined_stand name binding (meaning.Common size align) what stands = refused _
  redefined_stand name binding (meaning.Assigned form) (definition.Label spot) stands = refused _
  redefined_stand name binding (meaning.Assigned form) (definition.Common size align) stands = refused _
  redefined_stand name binding (meaning.Assigned form) (definition.Space spot) stands = refused _

  -- a definition
  pub defined_stand : (what : Definition) → DefinitionStands what → (map : SymbolMap) (index : ℕ) → Fine (Maps map) (defined map index what)
  unfolding defined
  defined_stand what stands map index = by (slice_get map.symbols index) refl
    where
      by : (found : Option Symbol) → slice_get map.symbols index ≡ found → Fine (Maps map) (defined_by found map index what)
      by None is = refused _
      by (Some symbol) is =
          step (redefined_stand symbol.name symbol.binding symbol.meaning what stands)
          (λ now new. made _ (one_stands (with_meaning now) map index (with_defined map index symbol.name what now) refl refl (λ one. refl)
          (forward_kept (with_meaning now) map.symbols index (λ one there. new.1 ∙ ap (λ (s : Symbol). form_of s.meaning) (same_Some symbol one (sym is ∙ there))))
          (λ one there stood. subst (λ (s : Symbol). NameStands s.name s.binding s.meaning → MeaningStands sections (length map.symbols) now × NameStands s.name s.binding now)
          (same_Some symbol one (sym is ∙ there)) (λ named. new.0 named (length map.symbols)) stood.1)))

  -- an assignment
  pub assigned_stand : LeadsAreFound → (form : Form) (once : Bool) (map : SymbolMap) (index : ℕ) → AreUpTo (length map.symbols) form.terms
      → Fine (Maps map) (assigned map index form once)
  unfolding assigned
  assigned_stand leads form once map index named = by (form_fault_at map index once) (leads_back map.symbols form index) refl refl
    where
      by : (fault : Option SymCause) (back : Bool) → form_fault_at map index once ≡ fault → leads_back map.symbols form index ≡ back → Fine (Maps map) (assigned_by fault back (with_form map index form))
      by (Some fault) back is led = refused _
      by None true is led = refused _
      by None false is led = made _ (one_stands (with_meaning (meaning.Assigned form)) map index (with_form map index form) refl refl (λ one. refl)
          (forward_written map.symbols index form (not_led leads map.symbols form index led)) (λ one there stood. (named, form_takes map index once one there is stood.1)))

  -- a kind that is said
  pub kind_stand : (kind : Kind) (map : SymbolMap) (index : ℕ) → Fine (Maps map) (kind_said kind map index)
  kind_stand kind map index = made _ (changed_stand (with_kind kind) map index _ refl refl (λ one. refl) (λ one. refl) (λ one stood. stood))

  -- a binding that is said
  bound_stand : (binding : Binding) (map : SymbolMap) (index : ℕ) → GivenAt map index → Fine (Maps map) (bound map index binding)
  unfolding bound
  bound_stand binding map index given = by (slice_get map.symbols index)
    where
      by : (found : Option Symbol) → Fine (Maps map) (bound_by found map index binding)
      by None = refused _
      by (Some symbol) =
          after (bound_as symbol.meaning symbol.binding binding)
          (λ now. made _ (one_stands (with_binding now) map index _ refl refl (λ one. refl) (forward_kept (with_binding now) map.symbols index (λ one there. refl))
          (λ one there stood. (stood.0, given_stands one.name (Some now) one.meaning (given one there)))))

  -- an attribute of a symbol
  said_stand : (attribute : SymbolAttribute) (map : SymbolMap) (index : ℕ) → GivenAt map index → Fine (Maps map) (said attribute map index)
  said_stand (Bind binding) map index given = bound_stand binding map index given
  said_stand (See visibility) map index given =
      made _ (changed_stand (with_visibility visibility) map index _ refl refl (λ one. refl) (λ one. refl) (λ one stood. stood))

  -- the same of several symbols
  pub say_all_stand : (pos : Pos) (attribute : SymbolAttribute) (names : List Name) → All IsGiven names → (table : Table)
      → Fine (Tables table) (say_all pos attribute names table)
  unfolding say_all all_steps
  say_all_stand pos attribute [] given table = made table (same table.symbols)
  say_all_stand pos attribute (name ∷ names) given table =
      step (named_change_stand pos (said attribute) name (All-head IsGiven name names given) table (said_stand attribute))
      (λ next kept. onto table next (λ t. t) kept (say_all_stand pos attribute names (All-tail IsGiven name names given) next))

  -- a size that is said
  next_size_stand : (size : Form) (map : SymbolMap) (index : ℕ) → Maps map (with_next_size size map index)
  next_size_stand size map index = changed_stand (with_size size (map.sizes + 1)) map index (with_next_size size map index) refl refl (λ one. refl) (λ one. refl) (λ one stood. stood)

  -- the same of a symbol that is found
  pub sized_stand : (pos : Pos) (form : Form) (found : Table × ℕ) → Tables found.0 (sized pos form found)
  sized_stand pos form found = next_size_stand form found.0.symbols found.1

  -- a change before what is allowed, and one behind it
  pub allows_on : {r : Result Table PlaceCause} (base : ℕ) (before between : Table) → Tables before between → Fine (Allows base between) r → Fine (Allows base before) r
  allows_on {r = Ok after} base before between first later =
      let more = first.more in
      let still = later.holds.more in
      made after (record { more = omega (arith, more, still); kept = λ all. later.holds.kept (first.kept all); few = λ old. later.holds.few (λ le. first.fits (old (omega (arith, le, more)))) })
  allows_on {r = Err fault} base before between first later = refused fault

  -- and a change behind what is allowed
  allows_behind : {r : Result Table PlaceCause} (base : ℕ) (before between : Table) → Allows base before between → Fine (Tables between) r → Fine (Allows base before) r
  allows_behind {r = Ok after} base before between first later =
      let more = first.more in
      let still = later.holds.more in
      made after (record { more = omega (arith, more, still); kept = λ all. later.holds.kept (first.kept all); few = λ old. later.holds.fits (first.few old) })
  allows_behind {r = Err fault} base before between first later = refused fault

  -- names that are allowed
  pub allowed_stand : (naming : Naming) (table : Table) → Fine (Allows naming.before table) (allowed naming table)
  unfolding allowed
  allowed_stand naming table = by (naming.meant && (nat_le (length table.symbols.symbols) naming.before || is_within_limits table.symbols)) refl
    where
      within : (length table.symbols.symbols ≤ naming.before → AreFit table.symbols) → (nat_le (length table.symbols.symbols) naming.before || is_within_limits table.symbols) ≡ true
          → AreFit table.symbols
      within old test = elim (or_cases (nat_le (length table.symbols.symbols) naming.before) (is_within_limits table.symbols) test) [
        | inl no_more ↦ old (leb-true (length table.symbols.symbols) naming.before no_more)
        | inr new ↦ new
      ]

      by : (test : Bool) → (naming.meant && (nat_le (length table.symbols.symbols) naming.before || is_within_limits table.symbols)) ≡ test
          → Fine (Allows naming.before table) (cond test (Ok table) (Err BadSymbol))
      by true is =
          made table (record {
            more = omega arith;
            kept = λ all. all;
            few = λ old. within old (and_parts naming.meant (nat_le (length table.symbols.symbols) naming.before || is_within_limits table.symbols) is).1;
          })
      by false is = refused _

  -- space for a symbol
  pub define_space_stand : (naming : Naming) (symbol size : ℕ) (what : Definition) (table : Table) → DefinitionStands what
      → Fine (Allows naming.before table) (define_space naming symbol size what table)
  unfolding define_space
  define_space_stand naming symbol size what table stands =
      step (step (change_stand (λ map index. defined map index what) (table, symbol) (defined_stand what stands table.symbols symbol))
      (λ next kept. made (with_map next (as_space size next.symbols symbol))
      (both table.symbols next.symbols (as_space size next.symbols symbol) kept (space_stand next.symbols))))
      (λ next kept. allows_on naming.before table next kept (allowed_stand naming next))
    where
      space_stand : (map : SymbolMap) → Maps map (as_space size map symbol)
      space_stand map =
          both map (with_next_size (constant_form size) map symbol) (as_space size map symbol) (next_size_stand (constant_form size) map symbol)
          (changed_stand (with_kind (space_kind map symbol)) (with_next_size (constant_form size) map symbol) symbol (as_space size map symbol) refl refl (λ one. refl) (λ one. refl) (λ one stood. stood))

  -- the map has this name last, and the index is its symbol's
  record IsPushed (map : SymbolMap) (name : Name) (after : SymbolMap) (index : ℕ) : Type 0 where
    map_is : after ≡ with_name map name
    at : index ≡ length map.symbols
    fits : AreFit (with_name map name)

  -- a new name is put last where there is room for it
  push_by : (test : Bool) (map : SymbolMap) (name : Name) → has_room map name ≡ test
      → Fine (λ (pair : SymbolMap × ℕ). IsPushed map name pair.0 pair.1) (cond test (Ok (with_name map name, length map.symbols)) (Err BadSymbolUse))
  push_by true map name room = made _ (record { map_is = refl; at = refl; fits = fit_symbol map name room })
  push_by false map name room = refused _

  -- a name that is new is put last
  name_pushed : (map : SymbolMap) (name : Name) → index_of name (names map.symbols) ≡ None → Fine (λ (pair : SymbolMap × ℕ). IsPushed map name pair.0 pair.1) (named map name)
  unfolding named
  name_pushed map name is = rw is (push_by (has_room map name) map name refl)

  -- the place itself becomes a label of its own name
  label_pushed : (map : SymbolMap) (spot : Spot) → DefinitionStands (definition.Label spot) → AreFit (with_name map (here_name spot))
      → Maps map (with_defined (with_name map (here_name spot)) (length map.symbols) (here_name spot) (definition.Label spot) (meaning.Label spot))
  label_pushed map spot stands fits =
      let last = undefined (here_name spot) in
      let label = with_meaning (meaning.Label spot) last in
      let is = changed_last (with_meaning (meaning.Label spot)) map.symbols last in
      let long : length (changed (with_meaning (meaning.Label spot)) (map.symbols ++ last ∷ []) (length map.symbols)) ≡ length map.symbols + 1 =
      ap (λ (all : List Symbol). length all) is ∙ length-append map.symbols (label ∷ []) in
      record {
        more = omega (arith, long);
        kept = λ all. subst (SymbolsStand sections) (sym is) (pushed_stand map.symbols label (stands (length map.symbols + 1), inr (refl, refl)) refl all);
        fits = λ before.
            fit_alike (with_name map (here_name spot)) (with_defined (with_name map (here_name spot)) (length map.symbols) (here_name spot) (definition.Label spot) (meaning.Label spot))
            (changed_long (with_meaning (meaning.Label spot)) (map.symbols ++ last ∷ []) (length map.symbols))
            (changed_names (with_meaning (meaning.Label spot)) (λ one. refl) (map.symbols ++ last ∷ []) (length map.symbols)) refl fits;
      }

  -- the label is defined where its name was put
  place_defined : (map after : SymbolMap) (index : ℕ) (spot : Spot) → DefinitionStands (definition.Label spot) → IsPushed map (here_name spot) after index
      → Fine (Maps map) (defined after index (definition.Label spot))
  unfolding defined
  place_defined map after index spot stands is =
      rw is.map_is (rw is.at (rw (put_last map.symbols (undefined (here_name spot))) (made _ (label_pushed map spot stands is.fits))))

  -- the name of the place is put last
  place_named : (pos : Pos) (name : Name) (table : Table) → index_of name (names table.symbols.symbols) ≡ None
      → Fine (λ (found : Table × ℕ). IsPushed table.symbols name found.0.symbols found.1) (symbol_of pos name table)
  unfolding symbol_of
  place_named pos name table is = step (of_fine (named table.symbols name) (name_pushed table.symbols name is)) (λ pair pushed. made _ pushed)

  -- the place becomes a symbol of its own
  place_stand : (pos : Pos) (spot : Spot) (table : Table) → DefinitionStands (definition.Label spot) → index_of (here_name spot) (names table.symbols.symbols) ≡ None
      → Fine (Tables table) (change_named pos (λ map index. defined map index (definition.Label spot)) (here_name spot) table)
  place_stand pos spot table stands is =
      step (place_named pos (here_name spot) table is)
      (λ found pushed. step (of_fine (defined found.0.symbols found.1 (definition.Label spot)) (place_defined table.symbols found.0.symbols found.1 spot stands pushed))
      (λ map kept. made _ kept))

  -- names that are allowed, and the place where a form keeps it
  pub end_stand : (pos : Pos) (naming : Naming) (spot : Spot) (keeps : Bool) (table : Table) → DefinitionStands (definition.Label spot)
      → Fine (Allows naming.before table) (end_naming pos naming spot keeps table)
  unfolding name_here
  end_stand pos naming spot keeps table stands = step (allowed_stand naming table) (λ next allows. allows_behind naming.before table next allows (here keeps next))
    where
      here_found : (found : Option ℕ) (next : Table) → index_of (here_name spot) (names next.symbols.symbols) ≡ found → Fine (Tables next) (here_by pos spot found next)
      here_found (Some index) next is = made next (same next.symbols)
      here_found None next is = place_stand pos spot next stands is

      here : (keeps : Bool) (next : Table) → Fine (Tables next) (name_here pos spot keeps next)
      here false next = made next (same next.symbols)
      here true next = here_found (index_of (here_name spot) (names next.symbols.symbols)) next refl

  -- the name of a file
  pub file_stand : (name : Name) (table : Table) → Fine (Tables table) (file_named name table)
  unfolding with_file
  file_stand name table =
      step (of_fine (with_file table.symbols name) (either_by (has_room table.symbols name)
      (λ room. made _ (record { more = omega arith; kept = λ all. all; fits = λ fit. fit_file table.symbols name room })) (λ full. refused _)))
      (λ map kept. made _ kept)
