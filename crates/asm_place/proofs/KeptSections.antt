-- A statement changes one section at most of those that are there.
use Rattle.std.proofs.Common.{◌≡◌, ◌≢◌, ℕ, zero, suc, Bool, true, false, cond, List, [], ◌∷◌, ◌++◌, length, Option, None, Some, Result, Ok, Err, inl, inr, refl, sym, ap, subst, arith, ◌+◌, slice_get}
use Rattle.std.specs.Prelude.{◌&&◌, ◌^◌, nat_lt, not, drop, codes}
use Rattle.std.specs.List.{list_any}
use Rattle.std.specs.Result.{IfOk}
use Rattle.std.proofs.lemmas.Option.{none-some}
use Rattle.std.proofs.lemmas.Result.{IfOk-at_ok}
use Rattle.asm_operands.specs.declared.place_faults.PlaceCause.{PlaceCause}
use Rattle.asm_operands.specs.declared.place_faults.PlaceCause.TheVariants.{UnknownMnemonic, BadSection}
use Rattle.asm_base.specs.declared.causes.FragCause.TheVariants as frag
use Rattle.asm_base.specs.declared.faults.Note.TheVariants.{Written}
use Rattle.asm_base.specs.declared.notes.Noted.{Noted}
use Rattle.asm_base.specs.declared.positions.Pos.{Pos}
use Rattle.asm_base.specs.Refusals.{◌>>=◌}
use Rattle.asm_base.specs.Tokens.{SpelledToken}
use Rattle.asm_lines.specs.NextStatements.{TokenStatement}
use Rattle.asm_expr.specs.declared.naming.Name.TheVariants as naming
use Rattle.item_contents.specs.declared.contents.Content.TheVariants as content
use Rattle.item_contents.specs.ItemParts.{zeros_up_to}
use Rattle.asm_frags.specs.Groups.{counted}
use Rattle.asm_frags.specs.SectionOf.{new_section, is_alike, section_number}
use Rattle.asm_frags.specs.Sections.{section_flags, entered_there, entered_by}
use Rattle.asm_frags.specs.Writing.{LooseSection}
use Rattle.asm_symbols.specs.declared.entries.Definition.TheVariants.{Space, Common}
use Rattle.asm_symbols.specs.declared.entries.SymbolAttribute.{SymbolAttribute}
use Rattle.asm_symbols.specs.LeadsBack.{assigned}
use Rattle.asm_words.specs.declared.directives.Directive.{Directive}
use Rattle.asm_words.specs.declared.directives.Directive.TheVariants as directive
use Rattle.asm_words.specs.declared.directives.FrameDirective.{FrameDirective}
use Rattle.asm_words.specs.declared.directives.Syntax.{Syntax}
use Rattle.asm_words.specs.declared.directives.Syntax.TheVariants.{Att, Intel}
use Rattle.asm_words.specs.Directives.{directive_of}
use Rattle.asm_words.specs.SectionWords.{SectionWords, section_words, said_group}
use Rattle.asm_words.specs.Spaces.{space_size, space_of, log_of}
use Rattle.asm_words.specs.SymbolKinds.{named_kind}
use Rattle.asm_operands.specs.Operands.{is_name, names_symbol, is_assignment, begins_with_dot, begins_with_label, name_of, operands_of, is_dot, begins_with_place, symbol_name, each, needed}
use Rattle.asm_operands.specs.Expressions.{expression_of, form_in, up_to_three_listed, up_to_three_trees, up_to_three_forms, up_to_three_constants}
use Rattle.asm_operands.specs.NamedTrees.{plain_of, NamedTree, named_tree}
use Rattle.asm_uses.specs.declared.tables.Naming.{Naming}
use Rattle.asm_uses.specs.Attributes.{kind_said, sized, say_all, define_space}
use Rattle.asm_uses.specs.Places.{spot_at}
use Rattle.asm_uses.specs.Tables.{changed_by, change_named, file_named, naming_of, allowed}
use Rattle.asm_values.specs.declared.stacks.Entered.{Entered}
use Rattle.asm_values.specs.Assignments.{assign_words, place_set, place_assignment}
use Rattle.asm_values.specs.KnownOperands.{KnownOperands, known_operands}
use Rattle.asm_values.specs.Sizes.{size_words, place_size, words_naming, with_words, words_symbol, end_words}
use Rattle.asm_values.specs.State.{Placed, with_table, with_notes, with_names, known_here, unless_dot}
use Rattle.asm_declarations.specs.declared.section_changes.Header.{Header}
use Rattle.asm_declarations.specs.Commons.{bss, with_space, with_common, is_said_local, place_space, place_comm, place_lcomm, SpaceWords, with_own, space_words}
use Rattle.asm_declarations.specs.Idents.{items_in, comment_bytes, comment_header, place_ident, place_file, one_string, file_name}
use Rattle.asm_declarations.specs.SectionChanges.{bare, with_current, option_trees, numbered, with_signature, entered_as, enter_words, place_section, entered_now, place_pushed, back_to, popped, entry_size_in}
use Rattle.asm_declarations.specs.SymbolWords.{place_said, place_type}
use Rattle.asm_frames.specs.Placing.{place_frame}
use Rattle.asm_line_tables.specs.Keeping.{OnlyLines}
use Rattle.asm_line_tables.specs.Placing.{place_loc, place_numbered_file}
use Rattle.asm_place.specs.declared.bodies.Body.TheVariants as body
use Rattle.asm_place.specs.Bodies.{body_of}
use Rattle.asm_place.specs.Coding.{place_instruction}
use Rattle.asm_place.specs.Placing.{initial_number, names_source, place_any_file, place_by, place_found, place_directive, place_body, place_unlabelled}
use Rattle.asm_place.specs.PutSections.{section_of_directive, section_put}
use Rattle.asm_place.specs.Remarks.{place_err, place_error, place_warning}
use Rattle.asm_place.specs.Sources.{pos_at, located, place}
use Rattle.asm_place.specs.SyntaxWords.{with_syntax, says_names, place_syntax}
use Rattle.asm_place.proofs.EnteredSections.{IsEntered, for_entered}
use Rattle.asm_place.proofs.SectionKinds.{headed}
use Rattle.asm_place.proofs.GrowthLemmas.{get_append}
use Rattle.asm_place.proofs.LabelLemmas.{tokens_unlabelled}
use Rattle.asm_place.proofs.Walks.{TablesKeep, Fine, made, refused, known, weaker, step, after, either}
use Rattle.asm_place.proofs.PutSections.{Holds, Kept, Stays, bytes_keep, push_keeps, instruction_keeps, data_keeps, strings_keep, leb128_keeps, zero_keeps, skip_keeps, fill_keeps, align_keeps, org_keeps}

-- what is there is there before the end
apart_from_end : {X : Type 0} (xs : List X) (i : ℕ) (x : X) → slice_get xs i ≡ Some x → length xs ≢ i
apart_from_end [] i x there = absurd (none-some x there)
apart_from_end (y ∷ xs) zero x there = λ same. omega arith
apart_from_end (y ∷ xs) (suc i) x there = λ same. apart_from_end xs i x there (omega arith)

-- the section of this number is this one
module _ (number : ℕ) (held : LooseSection) where
  -- what stays is kept
  stayed : (current : ℕ) (answer : Result Placed PlaceCause) → Fine (Stays number held current) answer → Fine (Kept number held) answer
  stayed current answer stays = weaker stays (λ more is. is.there)

  -- what is put into the current section keeps all others
  current_keeps : (placed : Placed) (answer : Result Placed PlaceCause) → Kept number held placed
      → ((stays : Stays number held placed.current placed) → Fine (Stays number held placed.current) answer) → Fine (Kept number held) answer
  current_keeps placed answer kept keeps = stayed placed.current answer (keeps (record { there = kept; same = refl }))

  -- SECTIONS THAT ARE ENTERED

  -- the section is kept, and is not that of the name unless it was so before
  record Enters (before : Option ℕ) (pair : List LooseSection × ℕ) : Type 0 where
    there : Holds number held pair.0
    apart : before ≢ Some number → pair.1 ≢ number

  new_enters : (sections : List LooseSection) (new : LooseSection) (test : Bool) → Holds number held sections
      → Fine (Enters None) (numbered (cond test (Ok (length sections, sections ++ new ∷ [])) (Err frag.BadSection)))
  new_enters sections new true there =
      made _ (record { there = get_append sections (new ∷ []) number held there; apart = λ other. apart_from_end sections number held there })
  new_enters sections new false there = refused _

  alike_enters : (sections : List LooseSection) (found : ℕ) (test : Bool) → Holds number held sections
      → Fine (Enters (Some found)) (numbered (cond test (Ok (found, sections)) (Err frag.BadSection)))
  alike_enters sections found true there = made _ (record { there = there; apart = λ other same. other (ap Some same) })
  alike_enters sections found false there = refused _

  known_enters : (sections : List LooseSection) (target : ℕ) (found : Option LooseSection) (header : Header) → Holds number held sections
      → Fine (Enters (Some target)) (numbered (entered_there sections target found (section_flags header.flags) header.kind header.entry_size))
  known_enters sections target None header there = refused _
  known_enters sections target (Some section) header there =
      alike_enters sections target (is_alike section (section_flags header.flags) header.kind header.entry_size) there

  by_enters : (sections : List LooseSection) (target : Option ℕ) (name : List ℕ) (header : Header) → Holds number held sections
      → Fine (Enters target) (numbered (entered_by sections target name (section_flags header.flags) header.kind header.entry_size))
  by_enters sections None name header there =
      new_enters sections (new_section name (section_flags header.flags) header.kind header.entry_size) (nat_lt (counted sections + 0) 30003) there
  by_enters sections (Some target) name header there = known_enters sections target (slice_get sections target) header there

  enters : (sections : List LooseSection) (name : List ℕ) (header : Header) → Holds number held sections
      → Fine (Enters (section_number name sections)) (entered_as sections name header)
  unfolding entered_as
  enters sections name header there = either (nat_lt (2 ^ 16) (length name)) (refused BadSection) (by_enters sections (section_number name sections) name header there)

  is_kept : (sections : List LooseSection) (pair : List LooseSection × ℕ) → IsEntered sections pair → Holds number held sections → Holds number held pair.0
  is_kept sections pair is there = elim is [
    | inl old ↦ subst (Holds number held) (sym old.same) there
    | inr new ↦ subst (Holds number held) (sym new.last) (get_append sections (new.section ∷ []) number held there)
  ]

  words_keep : (pos : Pos) (words : SectionWords) (placed : Placed) → Kept number held placed → Fine (Kept number held) (enter_words pos words placed)
  unfolding enter_words
  words_keep pos words placed kept =
      let trees = option_trees words.entry_size in
      let named = with_signature pos words.signature (with_names pos trees placed) in
      after (entry_size_in (known_here named) words.entry_size)
      (λ size. step (headed placed.sections words size) (λ header other. after (said_group words)
      (λ group. step (weaker (for_entered placed.sections group words.name header other) (λ pair is. is_kept placed.sections pair is kept))
      (λ pair there. after (allowed (naming_of trees placed.table) named.table)
      (λ table. made (with_table (with_current pair.1 (record named { sections = pair.0 })) table) there)))))

  section_keeps : (pos : Pos) (tokens : List SpelledToken) (placed : Placed) → Kept number held placed → Fine (Kept number held) (place_section pos tokens placed)
  unfolding place_section
  section_keeps pos tokens placed kept = after (section_words (operands_of tokens)) (λ words. words_keep pos words placed kept)

  pushed_keeps : (pos : Pos) (tokens : List SpelledToken) (placed : Placed) → Kept number held placed → Fine (Kept number held) (place_pushed pos tokens placed)
  unfolding place_pushed
  pushed_keeps pos tokens placed kept =
      step (section_keeps pos tokens placed kept) (λ entered kept. made (record entered { stack = entered.stack ++ entered_now placed ∷ [] }) kept)

  back_keeps : (entered : Option Entered) (placed : Placed) → Kept number held placed → Fine (Kept number held) (back_to entered placed)
  back_keeps None placed kept = refused _
  back_keeps (Some entered) placed kept = made _ kept

  popped_keeps : (placed : Placed) → Kept number held placed → Fine (Kept number held) (popped placed)
  unfolding popped
  popped_keeps placed kept = back_keeps _ placed kept

  -- SYMBOLS

  dot_keeps : (dot : Bool) (placed : Placed) → Kept number held placed → Fine (Kept number held) (unless_dot dot placed)
  dot_keeps true placed kept = refused _
  dot_keeps false placed kept = made placed kept

  said_keeps : (pos : Pos) (attribute : SymbolAttribute) (tokens : List SpelledToken) (placed : Placed) → Kept number held placed → Fine (Kept number held) (place_said pos attribute tokens placed)
  unfolding place_said
  said_keeps pos attribute [] placed kept = refused _
  said_keeps pos attribute (token ∷ rest) placed kept =
      after (each plain_of (operands_of (token ∷ rest)))
      (λ names. after (say_all pos attribute names placed.table) (λ table. dot_keeps (list_any is_dot (token ∷ rest)) (with_table placed table) kept))

  type_keeps : (pos : Pos) (tokens : List SpelledToken) (placed : Placed) → Kept number held placed → Fine (Kept number held) (place_type pos tokens placed)
  unfolding place_type
  type_keeps pos tokens placed kept =
      after (named_kind (operands_of tokens)) (λ words. after (change_named pos (kind_said words.kind) words.name placed.table)
      (λ table. dot_keeps (begins_with_place tokens) (with_table placed table) kept))

  size_words_keep : (pos : Pos) (words : NamedTree) (placed : Placed) → Kept number held placed → Fine (Kept number held) (size_words pos words placed)
  unfolding size_words
  size_words_keep pos words placed kept =
      let named = with_words pos words placed in
      after (form_in (known_here named) words.tree)
      (λ form. after (end_words pos (words_naming words placed) form named (sized pos form (named.table, words_symbol words placed)))
      (λ table. made (with_table named table) kept))

  size_keeps : (pos : Pos) (tokens : List SpelledToken) (placed : Placed) → Kept number held placed → Fine (Kept number held) (place_size pos tokens placed)
  unfolding place_size
  size_keeps pos tokens placed kept =
      after (named_tree (operands_of tokens)) (λ words. step (size_words_keep pos words placed kept) (λ sized kept. dot_keeps (begins_with_place tokens) sized kept))

  assign_keeps : (pos : Pos) (once : Bool) (words : NamedTree) (placed : Placed) → Kept number held placed → Fine (Kept number held) (assign_words pos once words placed)
  unfolding assign_words
  assign_keeps pos once words placed kept =
      let named = with_words pos words placed in
      after (form_in (known_here named) words.tree)
      (λ form. after (changed_by (λ map index. assigned map index form once) (named.table, words_symbol words placed) >>= end_words pos (words_naming words placed) form named)
      (λ table. made (with_table named table) kept))

  set_keeps : (pos : Pos) (once : Bool) (tokens : List SpelledToken) (placed : Placed) → Kept number held placed → Fine (Kept number held) (place_set pos once tokens placed)
  unfolding place_set
  set_keeps pos once tokens placed kept = after (named_tree (operands_of tokens)) (λ words. assign_keeps pos once words placed kept)

  assignment_keeps : (pos : Pos) (token : SpelledToken) (tokens : List SpelledToken) (placed : Placed) → Kept number held placed → Fine (Kept number held) (place_assignment pos token tokens placed)
  unfolding place_assignment
  assignment_keeps pos token tokens placed kept =
      after (symbol_name token) (λ name. after (expression_of tokens) (λ tree. assign_keeps pos false (record { name = naming.Plain name; tree = tree }) placed kept))

  -- SPACE FOR SYMBOLS, AND TEXTS

  module _ (apart : bss ≢ number) where
    with_space_keeps : (pos : Pos) (naming : Naming) (symbol size log : ℕ) (placed : Placed) → Kept number held placed → Fine (Kept number held) (with_space pos naming symbol size log placed)
    unfolding with_space
    with_space_keeps pos naming symbol size log placed kept =
        after (space_of size 0) (λ space. step (push_keeps number held pos bss (content.Align (zeros_up_to log)) placed.current placed apart (record { there = kept; same = refl }))
        (λ aligned stays. step (push_keeps number held pos bss space placed.current aligned apart stays)
        (λ pushed stays. after (define_space naming symbol size (Space (spot_at aligned.sections bss)) pushed.table)
        (λ table. made (with_table pushed table) stays.there))))

    with_common_keeps : (naming : Naming) (symbol size log : ℕ) (placed : Placed) → Kept number held placed → Fine (Kept number held) (with_common naming symbol size log placed)
    unfolding with_common
    with_common_keeps naming symbol size log placed kept =
        after (define_space naming symbol size (Common size (2 ^ log)) placed.table) (λ table. made (with_table placed table) kept)

    symbol_space_keeps : (is_local : Bool) (pos : Pos) (naming : Naming) (symbol size log : ℕ) (placed : Placed) → Kept number held placed
        → Fine (Kept number held) (place_space is_local pos naming symbol size log placed)
    symbol_space_keeps true pos naming symbol size log placed kept = with_space_keeps pos naming symbol size log placed kept
    symbol_space_keeps false pos naming symbol size log placed kept = with_common_keeps naming symbol size log placed kept

    values_kept : (pos : Pos) (placed : Placed) (most : ℕ) (operands : List (List SpelledToken)) → Kept number held placed
        → Fine (λ (given : KnownOperands). Kept number held given.placed) (known_operands pos placed most operands)
    unfolding known_operands
    values_kept pos placed most operands kept =
        after (up_to_three_trees most operands)
        (λ trees. after (up_to_three_forms (known_here (with_names pos (up_to_three_listed trees) placed)) trees)
        (λ forms. after (up_to_three_constants forms) (λ values. made _ kept)))

    space_words_keep : (pos : Pos) (placed : Placed) (most : ℕ) (tokens : List SpelledToken) → Kept number held placed
        → Fine (λ (words : SpaceWords). Kept number held words.given.placed) (space_words pos placed most tokens)
    unfolding space_words
    space_words_keep pos placed most tokens kept =
        after (needed name_of (operands_of tokens))
        (λ name. step (values_kept pos (with_own pos (naming.Plain name.0) placed) most name.1 kept) (λ given kept. made _ kept))

    comm_keeps : (pos : Pos) (tokens : List SpelledToken) (placed : Placed) → Kept number held placed → Fine (Kept number held) (place_comm pos tokens placed)
    unfolding place_comm
    comm_keeps pos tokens placed kept =
        step (space_words_keep pos placed 2 tokens kept)
        (λ words kept. after (space_size words.given.values.first) (λ size. after (log_of words.given.values.second size)
        (λ log. step (symbol_space_keeps (is_said_local words.given.placed.table.symbols words.symbol) pos words.given.naming words.symbol size log words.given.placed kept)
        (λ spaced kept. dot_keeps (begins_with_place tokens) spaced kept))))

    lcomm_keeps : (pos : Pos) (tokens : List SpelledToken) (placed : Placed) → Kept number held placed → Fine (Kept number held) (place_lcomm pos tokens placed)
    unfolding place_lcomm
    lcomm_keeps pos tokens placed kept =
        step (space_words_keep pos placed 1 tokens kept)
        (λ words kept. after (space_size words.given.values.first) (λ size. after (log_of None size)
        (λ log. step (with_space_keeps pos words.given.naming words.symbol size log words.given.placed kept)
        (λ spaced kept. dot_keeps (begins_with_place tokens) spaced kept))))

  ident_keeps : (pos : Pos) (tokens : List SpelledToken) (placed : Placed) → section_number (codes ".comment") placed.sections ≢ Some number → Kept number held placed
      → Fine (Kept number held) (place_ident pos tokens placed)
  unfolding place_ident
  ident_keeps pos tokens placed other kept =
      after (one_string tokens) (λ text. step (enters placed.sections (codes ".comment") comment_header kept)
      (λ pair entered. stayed placed.current _
      (bytes_keep number held pos pair.1 (comment_bytes (items_in pair.0 pair.1) text) placed.current (record placed { sections = pair.0 }) (entered.apart other)
      (record { there = entered.there; same = refl }))))

  file_keeps : (tokens : List SpelledToken) (placed : Placed) → Kept number held placed → Fine (Kept number held) (place_file tokens placed)
  unfolding place_file
  file_keeps tokens placed kept =
      after (one_string tokens) (λ text. after (file_name text)
      (λ name. after (file_named (naming.Plain name) placed.table) (λ table. made (with_table placed table) kept)))

  -- FAULTS, WARNINGS, THE SYNTAX

  err_keeps : (tokens : List SpelledToken) → Fine (Kept number held) (place_err tokens)
  err_keeps [] = refused _
  err_keeps (token ∷ rest) = refused _

  error_keeps : (said : Bool) (tokens : List SpelledToken) → Fine (Kept number held) (place_error said tokens)
  unfolding place_error
  error_keeps false tokens = err_keeps tokens
  error_keeps true tokens = after (one_string tokens) (λ text. refused _)

  warning_keeps : (pos : Pos) (tokens : List SpelledToken) (placed : Placed) → Kept number held placed → Fine (Kept number held) (place_warning pos tokens placed)
  unfolding place_warning
  warning_keeps pos tokens placed kept =
      after (one_string tokens) (λ text. made (with_notes (record { note = Written text; pos = pos } ∷ []) placed) kept)

  syntax_keeps : (syntax : Syntax) (tokens : List SpelledToken) (placed : Placed) → Kept number held placed → Fine (Kept number held) (place_syntax syntax tokens placed)
  unfolding place_syntax
  syntax_keeps Att [] placed kept = made _ kept
  syntax_keeps Intel [] placed kept = refused _
  syntax_keeps Att (word ∷ []) placed kept = either (says_names Att word) (made (with_syntax Att placed) kept) (refused _)
  syntax_keeps Intel (word ∷ []) placed kept = either (says_names Intel word) (made (with_syntax Intel placed) kept) (refused _)
  syntax_keeps Att (word ∷ more ∷ rest) placed kept = refused _
  syntax_keeps Intel (word ∷ more ∷ rest) placed kept = refused _

  -- DIRECTIVES

  bare_keeps : (tokens : List SpelledToken) (answer : Result Placed PlaceCause) → Fine (Kept number held) answer → Fine (Kept number held) (bare tokens answer)
  bare_keeps [] answer kept = kept
  bare_keeps (token ∷ rest) answer kept = refused _

  line_keeps : (pos : Pos) (placed : Placed) (answer : Result Placed PlaceCause) → IfOk answer (OnlyLines pos placed) → Kept number held placed → Fine (Kept number held) answer
  line_keeps pos placed answer keeps kept = weaker (known answer keeps) (λ after only. subst (Kept number held) (sym only.is) kept)

  module _ (tables : TablesKeep) where
    frame_keeps : (frame : FrameDirective) (pos : Pos) (tokens : List SpelledToken) (placed : Placed) → Kept number held placed → Fine (Kept number held) (place_frame frame pos tokens placed)
    frame_keeps frame pos tokens placed kept =
        weaker (known (place_frame frame pos tokens placed) (tables.frames frame pos tokens placed)) (λ after only. subst (Kept number held) (sym only.is) kept)

    any_file_keeps : (pos : Pos) (tokens : List SpelledToken) (placed : Placed) → Kept number held placed → Fine (Kept number held) (place_any_file pos tokens placed)
    unfolding place_any_file
    any_file_keeps pos tokens placed kept =
        either (names_source tokens) (file_keeps tokens placed kept) (line_keeps pos placed (place_numbered_file pos tokens placed) (tables.files pos tokens placed) kept)

    -- that a directive puts into some other section
    abbrev IsElsewhere : Option ℕ → Type 0
    IsElsewhere target = target ≢ Some number

    not_current : (placed : Placed) → IsElsewhere (Some placed.current) → placed.current ≢ number
    not_current placed other same = other (ap Some same)

    directive_keeps : (found : Directive) (pos : Pos) (tokens : List SpelledToken) (placed : Placed) → Kept number held placed → IsElsewhere (section_of_directive found placed)
        → Fine (Kept number held) (place_by found pos tokens placed)
    unfolding place_by
    directive_keeps (directive.Data size) pos tokens placed kept other =
        current_keeps placed _ kept (λ stays. data_keeps number held placed.current (not_current placed other) pos size tokens placed stays)
    directive_keeps (directive.Strings ended) pos tokens placed kept other =
        current_keeps placed _ kept (λ stays. strings_keep number held placed.current (not_current placed other) pos ended tokens placed stays)
    directive_keeps (directive.Leb128 signed) pos tokens placed kept other =
        current_keeps placed _ kept (λ stays. leb128_keeps number held placed.current (not_current placed other) pos signed tokens placed stays)
    directive_keeps directive.Zero pos tokens placed kept other =
        current_keeps placed _ kept (λ stays. zero_keeps number held placed.current (not_current placed other) pos tokens placed stays)
    directive_keeps directive.Skip pos tokens placed kept other =
        current_keeps placed _ kept (λ stays. skip_keeps number held placed.current (not_current placed other) pos tokens placed stays)
    directive_keeps directive.Fill pos tokens placed kept other =
        current_keeps placed _ kept (λ stays. fill_keeps number held placed.current (not_current placed other) pos tokens placed stays)
    directive_keeps (directive.Align by) pos tokens placed kept other =
        current_keeps placed _ kept (λ stays. align_keeps number held placed.current (not_current placed other) pos by tokens placed stays)
    directive_keeps directive.Org pos tokens placed kept other =
        current_keeps placed _ kept (λ stays. org_keeps number held placed.current (not_current placed other) pos tokens placed stays)
    directive_keeps (directive.Enter initial) pos tokens placed kept other = bare_keeps tokens (Ok (with_current (initial_number initial) placed)) (made _ kept)
    directive_keeps directive.Section pos tokens placed kept other = section_keeps pos tokens placed kept
    directive_keeps directive.PushSection pos tokens placed kept other = pushed_keeps pos tokens placed kept
    directive_keeps directive.PopSection pos tokens placed kept other = bare_keeps tokens (popped placed) (popped_keeps placed kept)
    directive_keeps directive.Previous pos tokens placed kept other = bare_keeps tokens (Ok (with_current placed.previous placed)) (made _ kept)
    directive_keeps (directive.Say attribute) pos tokens placed kept other = said_keeps pos attribute tokens placed kept
    directive_keeps directive.Type pos tokens placed kept other = type_keeps pos tokens placed kept
    directive_keeps directive.Size pos tokens placed kept other = size_keeps pos tokens placed kept
    directive_keeps (directive.Assign once) pos tokens placed kept other = set_keeps pos once tokens placed kept
    directive_keeps directive.Comm pos tokens placed kept other = comm_keeps (λ same. other (ap Some same)) pos tokens placed kept
    directive_keeps directive.Lcomm pos tokens placed kept other = lcomm_keeps (λ same. other (ap Some same)) pos tokens placed kept
    directive_keeps directive.Ident pos tokens placed kept other = ident_keeps pos tokens placed other kept
    directive_keeps directive.File pos tokens placed kept other = any_file_keeps pos tokens placed kept
    directive_keeps directive.Loc pos tokens placed kept other = line_keeps pos placed (place_loc pos tokens placed) (tables.rows pos tokens placed) kept
    directive_keeps (directive.Error said) pos tokens placed kept other = error_keeps said tokens
    directive_keeps directive.Warning pos tokens placed kept other = warning_keeps pos tokens placed kept
    directive_keeps (directive.Syntax syntax) pos tokens placed kept other = syntax_keeps syntax tokens placed kept
    directive_keeps directive.Code64 pos tokens placed kept other = bare_keeps tokens (Ok placed) (made _ kept)
    directive_keeps (directive.Frame frame) pos tokens placed kept other = frame_keeps frame pos tokens placed kept

    found_keeps_all : (found : Option Directive) (pos : Pos) (tokens : List SpelledToken) (placed : Placed) → Kept number held placed
        → IsElsewhere (section_put (body.Directed found) placed) → Fine (Kept number held) (place_found found pos tokens placed)
    found_keeps_all None pos tokens placed kept other = refused _
    found_keeps_all (Some found) pos tokens placed kept other = directive_keeps found pos tokens placed kept other

    -- STATEMENTS

    body_by_tests : (assigns named dotted : Bool) (pos : Pos) (first : SpelledToken) (rest : List SpelledToken) (placed : Placed) → Kept number held placed
        → IsElsewhere (section_put (cond assigns body.Assignment (cond (not named) body.Unknown (cond dotted (body.Directed (directive_of first.bytes)) body.Instruction))) placed)
        → Fine (Kept number held) (cond assigns (place_assignment pos first (drop 1 rest) placed)
        (cond (not named) (Err UnknownMnemonic) (cond dotted (place_found (directive_of first.bytes) pos rest placed) (place_instruction pos (first ∷ rest) placed))))
    body_by_tests true named dotted pos first rest placed kept other = assignment_keeps pos first (drop 1 rest) placed kept
    body_by_tests false false dotted pos first rest placed kept other = refused _
    body_by_tests false true true pos first rest placed kept other = found_keeps_all (directive_of first.bytes) pos rest placed kept other
    body_by_tests false true false pos first rest placed kept other =
        current_keeps placed _ kept (λ stays. instruction_keeps number held placed.current (not_current placed other) pos (first ∷ rest) placed stays)

    unlabelled_keeps : (pos : Pos) (tokens : List SpelledToken) (placed : Placed) → Kept number held placed → IsElsewhere (section_put (body_of tokens) placed)
        → Fine (Kept number held) (place_unlabelled pos tokens placed)
    unfolding place_unlabelled place_body place_directive
    unlabelled_keeps pos [] placed kept other = made placed kept
    unlabelled_keeps pos (first ∷ rest) placed kept other =
        body_by_tests (names_symbol first && is_assignment rest) (is_name first) (begins_with_dot first.bytes) pos first rest placed kept other

    located_keeps : (s : TokenStatement) (notes : List Noted) (answer : Result Placed PlaceCause) → Fine (Kept number held) answer → Fine (Kept number held) (located s notes answer)
    located_keeps s notes (Ok more) kept = made more kept.holds
    located_keeps s notes (Err fault) kept = refused _

    statement_keeps : (s : TokenStatement) (placed : Placed) → begins_with_label s.tokens ≡ false → Kept number held placed → IsElsewhere (section_put (body_of s.tokens) placed)
        → Fine (Kept number held) (place s placed)
    unfolding place
    statement_keeps s placed bare kept other =
        located_keeps s placed.notes _ (subst (Fine (Kept number held)) (tokens_unlabelled (pos_at s.file s.line) s.tokens placed bare)
        (unlabelled_keeps (pos_at s.file s.line) s.tokens placed kept other))

-- a statement without labels keeps each section but the one that it puts into
pub section_kept : TablesKeep → (s : TokenStatement) (before after : Placed) (number : ℕ) (held : LooseSection) → begins_with_label s.tokens ≡ false → place s before ≡ Ok after
    → slice_get before.sections number ≡ Some held → section_put (body_of s.tokens) before ≢ Some number → slice_get after.sections number ≡ Some held
section_kept tables s before after number held bare is there other =
    IfOk-at_ok (Kept number held) is (statement_keeps number held tables s before bare there other).holds
