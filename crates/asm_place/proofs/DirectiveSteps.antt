-- Directives only add to sections.
use Rattle.std.proofs.Common.{ℕ, nat_le, Bool, true, false, List, [], ◌∷◌, Option, None, Some, Result, Ok, sym, subst, arith}
use Rattle.std.specs.Prelude.{◌^◌, codes, unwrap_or}
use Rattle.std.specs.List.{list_any, count_by}
use Rattle.std.specs.Result.{IfOk}
use Rattle.asm_operands.specs.declared.place_faults.PlaceCause.{PlaceCause}
use Rattle.asm_base.specs.declared.faults.Note.TheVariants.{Written}
use Rattle.asm_base.specs.declared.positions.Pos.{Pos}
use Rattle.asm_base.specs.Tokens.{SpelledToken}
use Rattle.asm_expr.specs.declared.naming.Name.TheVariants as naming
use Rattle.asm_expr.specs.declared.forms.Term.{Term}
use Rattle.asm_expr.specs.Forms.{Form}
use Rattle.item_contents.specs.declared.contents.Content.{Content}
use Rattle.item_contents.specs.declared.contents.Content.TheVariants as content
use Rattle.asm_frags.specs.declared.fields.FieldSize.{FieldSize}
use Rattle.item_contents.specs.ItemParts.{zeros_up_to}
use Rattle.item_bytes.specs.Leb128.{least_leb128}
use Rattle.item_contents.specs.declared.kinds.Growth.TheVariants.{Leb128}
use Rattle.asm_frags.specs.Fields.{data_role}
use Rattle.asm_symbols.specs.declared.entries.Definition.TheVariants.{Space, Common}
use Rattle.asm_symbols.specs.LeadsBack.{assigned}
use Rattle.asm_words.specs.declared.directives.Directive.{Directive}
use Rattle.asm_words.specs.declared.directives.Directive.TheVariants as directive
use Rattle.asm_symbols.specs.declared.entries.SymbolAttribute.{SymbolAttribute}
use Rattle.asm_words.specs.declared.directives.AlignedBy.{AlignedBy}
use Rattle.asm_words.specs.Paddings.{align_of, org_of}
use Rattle.asm_uses.specs.declared.tables.Naming.{Naming}
use Rattle.asm_base.specs.Refusals.{◌>>=◌}
use Rattle.asm_operands.specs.Operands.{name_of, operands_of, is_dot, begins_with_place, symbol_name, each, joined_strings, needed}
use Rattle.asm_operands.specs.Expressions.{expression_of, form_in, constant_in, up_to_three_listed, up_to_three_trees, up_to_three_forms, up_to_three_constants}
use Rattle.asm_values.specs.KnownOperands.{KnownOperands, known_operands}
use Rattle.asm_uses.specs.Places.{uses_place, spot_at, end_naming}
use Rattle.asm_values.specs.State.{Placed, with_table, with_notes, with_names, here, known_here, unless_dot}
use Rattle.asm_values.specs.DataItems.{put_by, put_forms, is_cut, cut_notes}
use Rattle.asm_operands.specs.Results.{all_steps, if_some}
use Rattle.asm_declarations.specs.SectionChanges.{bare, with_current, popped}
use Rattle.asm_operands.specs.NamedTrees.{plain_of, NamedTree, named_tree}
use Rattle.asm_uses.specs.Attributes.{kind_said, sized, say_all, define_space}
use Rattle.asm_declarations.specs.SymbolWords.{place_said, place_type}
use Rattle.asm_values.specs.Sizes.{size_words, place_size, words_naming, with_words, words_symbol, end_words}
use Rattle.asm_words.specs.SymbolKinds.{named_kind}
use Rattle.asm_values.specs.Assignments.{assign_words, place_set, place_assignment}
use Rattle.asm_declarations.specs.Commons.{bss, with_space, with_common, is_said_local, place_space, place_comm, place_lcomm, SpaceWords, with_own, space_words}
use Rattle.asm_words.specs.Spaces.{space_size, space_of, units_of, unit_size, log_of}
use Rattle.asm_declarations.specs.Idents.{items_in, comment_bytes, comment_header, place_ident, place_file, one_string, file_name}
use Rattle.asm_place.specs.Remarks.{place_err, place_error, place_warning}
use Rattle.asm_place.specs.SyntaxWords.{with_syntax, says_names, place_syntax}
use Rattle.asm_words.specs.declared.directives.FrameDirective.{FrameDirective}
use Rattle.asm_frames.specs.Placing.{place_frame}
use Rattle.asm_line_tables.specs.Keeping.{OnlyLines}
use Rattle.asm_line_tables.specs.Placing.{place_loc, place_numbered_file}
use Rattle.asm_words.specs.declared.directives.Syntax.{Syntax}
use Rattle.asm_words.specs.declared.directives.Syntax.TheVariants.{Att, Intel}
use Rattle.asm_values.specs.Data.{put_data, place_data, place_strings, put_space_by, with_filled, with_named, place_zero, place_skip, place_fill}
use Rattle.asm_items.specs.Alignments.{is_code, place_align}
use Rattle.asm_items.specs.Orgs.{known_origin, origin_by, place_org}
use Rattle.asm_items.specs.Leb128Numbers.{put_number_by, put_numbers, put_leb128, some_expressions, place_leb128}
use Rattle.asm_place.specs.Placing.{initial_number, names_source, place_any_file, place_by, place_found, place_directive}
use Rattle.asm_uses.specs.Tables.{changed_by, change_named, file_named, naming_of, allowed}
use Rattle.asm_place.proofs.Walks.{TablesKeep, Fine, made, refused, known, weaker, step, after, either}
use Rattle.asm_place.proofs.ProcedureSteps.{Led, Steps, leads_by, leads_lines, leads_rows, still, on, grown}
use Rattle.asm_place.proofs.SectionSteps.{bytes_steps, field_steps, push_steps, growing_steps, entered_adds, section_steps, pushed_steps, popped_steps}

-- data and space
form_steps : (pos : Pos) (size : FieldSize) (terms : List Term) (form : Form) (placed : Placed) → Steps placed (put_by terms pos size form placed)
form_steps pos size [] form placed = bytes_steps pos placed.current _ placed
form_steps pos size (term ∷ terms) form placed = field_steps pos placed.current size data_role form placed

forms_steps : (pos : Pos) (size : FieldSize) (forms : List Form) (placed : Placed) → Steps placed (put_forms pos size forms placed)
unfolding put_forms all_steps
forms_steps pos size [] placed = made placed (still placed)
forms_steps pos size (form ∷ forms) placed = grown placed (form_steps pos size form.terms form placed) (λ put. forms_steps pos size forms put)

values_steps : (pos : Pos) (size : FieldSize) (naming : Naming) (forms : List Form) (placed : Placed) → Steps placed (put_data pos size naming forms placed)
unfolding put_data
values_steps pos size naming forms placed =
    grown placed (forms_steps pos size forms placed)
    (λ put. after (end_naming pos naming (here placed) (list_any (uses_place (known_here placed).place) forms) put.table)
    (λ table. made (with_notes (cut_notes pos (count_by (is_cut size) forms)) (with_table put table)) (still put)))

data_steps : (pos : Pos) (size : FieldSize) (tokens : List SpelledToken) (placed : Placed) → Steps placed (place_data pos size tokens placed)
unfolding place_data
data_steps pos size tokens placed =
    after (each expression_of (operands_of tokens))
    (λ trees. after (each (form_in (known_here (with_names pos trees placed))) trees)
    (λ forms. values_steps pos size (naming_of trees placed.table) forms (with_names pos trees placed)))

strings_steps : (pos : Pos) (ended : Bool) (tokens : List SpelledToken) (placed : Placed) → Steps placed (place_strings pos ended tokens placed)
unfolding place_strings
strings_steps pos ended tokens placed = after (joined_strings ended (operands_of tokens)) (λ bytes. bytes_steps pos placed.current bytes placed)

item_steps : (pos : Pos) (naming : Naming) (item : Content) (placed : Placed) → Steps placed (with_named pos naming item placed)
item_steps pos naming item placed =
    grown placed (push_steps pos placed.current item placed) (λ pushed. after (allowed naming pushed.table) (λ table. made (with_table pushed table) (still pushed)))

-- what was made on the way is added to once more
from : (before between : Placed) {r : Result Placed PlaceCause} → Led before between → Steps between r → Steps before r
from before between led later = on before between _ led later

known_steps : (pos : Pos) (placed : Placed) (most : ℕ) (operands : List (List SpelledToken))
    → Fine (λ (given : KnownOperands). Led placed given.placed) (known_operands pos placed most operands)
unfolding known_operands
known_steps pos placed most operands =
    after (up_to_three_trees most operands)
    (λ trees. after (up_to_three_forms (known_here (with_names pos (up_to_three_listed trees) placed)) trees)
    (λ forms. after (up_to_three_constants forms) (λ values. made _ (still placed))))

-- space, as plain bytes or as an item
put_space_steps : (few : Bool) (pos : Pos) (count value : ℕ) (placed : Placed) → Steps placed (put_space_by few pos count value placed)
put_space_steps true pos count value placed = bytes_steps pos placed.current _ placed
put_space_steps false pos count value placed = after (space_of count value) (λ item. push_steps pos placed.current item placed)

filled_steps : (pos : Pos) (given : KnownOperands) (count value : ℕ) → Steps given.placed (with_filled pos given count value)
filled_steps pos given count value =
    grown given.placed (put_space_steps (nat_le count 16) pos count value given.placed)
    (λ filled. after (allowed given.naming filled.table) (λ table. made (with_table filled table) (still filled)))

zero_steps : (pos : Pos) (tokens : List SpelledToken) (placed : Placed) → Steps placed (place_zero pos tokens placed)
unfolding place_zero
zero_steps pos tokens placed =
    step (known_steps pos placed 1 (operands_of tokens))
    (λ given led. from placed given.placed led (filled_steps pos given given.values.first 0))

skip_steps : (pos : Pos) (tokens : List SpelledToken) (placed : Placed) → Steps placed (place_skip pos tokens placed)
unfolding place_skip
skip_steps pos tokens placed =
    step (known_steps pos placed 2 (operands_of tokens))
    (λ given led. from placed given.placed led (filled_steps pos given given.values.first (unwrap_or given.values.second 0)))

fill_steps : (pos : Pos) (tokens : List SpelledToken) (placed : Placed) → Steps placed (place_fill pos tokens placed)
unfolding place_fill
fill_steps pos tokens placed =
    step (known_steps pos placed 3 (operands_of tokens))
    (λ given led. from placed given.placed led
    (after (unit_size given.values.second) (λ size. after (units_of given.values.first size (unwrap_or given.values.third 0))
    (λ item. item_steps pos given.naming item given.placed))))

-- alignments, places and numbers in groups of seven bits
align_steps : (pos : Pos) (by : AlignedBy) (tokens : List SpelledToken) (placed : Placed) → Steps placed (place_align pos by tokens placed)
unfolding place_align
align_steps pos by tokens placed =
    step (known_steps pos placed 3 (operands_of tokens))
    (λ given led. from placed given.placed led
    (after (align_of by (is_code given.placed.sections given.placed.current) given.values) (λ item. item_steps pos given.naming item given.placed)))

org_steps : (pos : Pos) (tokens : List SpelledToken) (placed : Placed) → Steps placed (place_org pos tokens placed)
unfolding place_org
org_steps pos tokens placed =
    after (up_to_three_trees 2 (operands_of tokens))
    (λ trees. let named = with_names pos (up_to_three_listed trees) placed in
    after (up_to_three_forms (known_here named) trees)
    (λ forms. after (known_origin (origin_by named forms.first.terms))
    (λ origin. after (if_some constant_in forms.second)
    (λ fill. after (org_of origin.from origin.offset forms.first.constant (unwrap_or fill 0))
    (λ item. item_steps pos (naming_of (up_to_three_listed trees) placed.table) item named)))))

number_steps : (pos : Pos) (signed : Bool) (terms : List Term) (form : Form) (placed : Placed) → Steps placed (put_number_by terms pos signed form placed)
number_steps pos signed [] form placed = bytes_steps pos placed.current (least_leb128 signed form.constant) placed
number_steps pos signed (term ∷ terms) form placed = growing_steps pos placed.current (Leb128 signed) None form placed

numbers_steps : (pos : Pos) (signed : Bool) (forms : List Form) (placed : Placed) → Steps placed (put_numbers pos signed forms placed)
unfolding put_numbers all_steps
numbers_steps pos signed [] placed = made placed (still placed)
numbers_steps pos signed (form ∷ forms) placed = grown placed (number_steps pos signed form.terms form placed) (λ put. numbers_steps pos signed forms put)

put_leb128_steps : (pos : Pos) (signed : Bool) (naming : Naming) (forms : List Form) (placed : Placed) → Steps placed (put_leb128 pos signed naming forms placed)
unfolding put_leb128
put_leb128_steps pos signed naming forms placed =
    grown placed (numbers_steps pos signed forms placed)
    (λ put. after (end_naming pos naming (here placed) (list_any (uses_place (known_here placed).place) forms) put.table)
    (λ table. made (with_table put table) (still put)))

leb128_steps : (pos : Pos) (signed : Bool) (tokens : List SpelledToken) (placed : Placed) → Steps placed (place_leb128 pos signed tokens placed)
unfolding place_leb128
leb128_steps pos signed tokens placed =
    after (some_expressions (operands_of tokens))
    (λ trees. after (each (form_in (known_here (with_names pos trees placed))) trees)
    (λ forms. put_leb128_steps pos signed (naming_of trees placed.table) forms (with_names pos trees placed)))

-- symbols
pub dot_steps : (dot : Bool) (before placed : Placed) → Led before placed → Steps before (unless_dot dot placed)
dot_steps true before placed led = refused _
dot_steps false before placed led = made placed led

said_steps : (pos : Pos) (attribute : SymbolAttribute) (tokens : List SpelledToken) (placed : Placed) → Steps placed (place_said pos attribute tokens placed)
unfolding place_said
said_steps pos attribute [] placed = refused _
said_steps pos attribute (token ∷ rest) placed =
    after (each plain_of (operands_of (token ∷ rest)))
    (λ names. after (say_all pos attribute names placed.table) (λ table. dot_steps (list_any is_dot (token ∷ rest)) placed (with_table placed table) (still placed)))

type_steps : (pos : Pos) (tokens : List SpelledToken) (placed : Placed) → Steps placed (place_type pos tokens placed)
unfolding place_type
type_steps pos tokens placed =
    after (named_kind (operands_of tokens)) (λ words. after (change_named pos (kind_said words.kind) words.name placed.table)
    (λ table. dot_steps (begins_with_place tokens) placed (with_table placed table) (still placed)))

size_words_steps : (pos : Pos) (words : NamedTree) (placed : Placed) → Steps placed (size_words pos words placed)
unfolding size_words
size_words_steps pos words placed =
    let named = with_words pos words placed in
    after (form_in (known_here named) words.tree)
    (λ form. after (end_words pos (words_naming words placed) form named (sized pos form (named.table, words_symbol words placed)))
    (λ table. made (with_table named table) (still placed)))

size_steps : (pos : Pos) (tokens : List SpelledToken) (placed : Placed) → Steps placed (place_size pos tokens placed)
unfolding place_size
size_steps pos tokens placed =
    after (named_tree (operands_of tokens)) (λ words. grown placed (size_words_steps pos words placed)
    (λ sized. dot_steps (begins_with_place tokens) sized sized (still sized)))

assign_steps : (pos : Pos) (once : Bool) (words : NamedTree) (placed : Placed) → Steps placed (assign_words pos once words placed)
unfolding assign_words
assign_steps pos once words placed =
    let named = with_words pos words placed in
    after (form_in (known_here named) words.tree)
    (λ form. after (changed_by (λ map index. assigned map index form once) (named.table, words_symbol words placed) >>= end_words pos (words_naming words placed) form named)
    (λ table. made (with_table named table) (still placed)))

set_steps : (pos : Pos) (once : Bool) (tokens : List SpelledToken) (placed : Placed) → Steps placed (place_set pos once tokens placed)
unfolding place_set
set_steps pos once tokens placed = after (named_tree (operands_of tokens)) (λ words. assign_steps pos once words placed)

pub assignment_steps : (pos : Pos) (token : SpelledToken) (tokens : List SpelledToken) (placed : Placed) → Steps placed (place_assignment pos token tokens placed)
unfolding place_assignment
assignment_steps pos token tokens placed =
    after (symbol_name token) (λ name. after (expression_of tokens) (λ tree. assign_steps pos false (record { name = naming.Plain name; tree = tree }) placed))

-- space for symbols
with_space_steps : (pos : Pos) (naming : Naming) (symbol size log : ℕ) (placed : Placed) → Steps placed (with_space pos naming symbol size log placed)
unfolding with_space
with_space_steps pos naming symbol size log placed =
    after (space_of size 0) (λ space. grown placed (push_steps pos bss (content.Align (zeros_up_to log)) placed)
    (λ aligned. grown aligned (push_steps pos bss space aligned)
    (λ pushed. after (define_space naming symbol size (Space (spot_at aligned.sections bss)) pushed.table)
    (λ table. made (with_table pushed table) (still pushed)))))

with_common_steps : (naming : Naming) (symbol size log : ℕ) (placed : Placed) → Steps placed (with_common naming symbol size log placed)
unfolding with_common
with_common_steps naming symbol size log placed =
    after (define_space naming symbol size (Common size (2 ^ log)) placed.table) (λ table. made (with_table placed table) (still placed))

space_steps : (is_local : Bool) (pos : Pos) (naming : Naming) (symbol size log : ℕ) (placed : Placed) → Steps placed (place_space is_local pos naming symbol size log placed)
space_steps true pos naming symbol size log placed = with_space_steps pos naming symbol size log placed
space_steps false pos naming symbol size log placed = with_common_steps naming symbol size log placed

space_words_steps : (pos : Pos) (placed : Placed) (most : ℕ) (tokens : List SpelledToken)
    → Fine (λ (words : SpaceWords). Led placed words.given.placed) (space_words pos placed most tokens)
unfolding space_words
space_words_steps pos placed most tokens =
    after (needed name_of (operands_of tokens))
    (λ name. step (known_steps pos (with_own pos (naming.Plain name.0) placed) most name.1) (λ given led. made _ led))

comm_steps : (pos : Pos) (tokens : List SpelledToken) (placed : Placed) → Steps placed (place_comm pos tokens placed)
unfolding place_comm
comm_steps pos tokens placed =
    step (space_words_steps pos placed 2 tokens)
    (λ words led. from placed words.given.placed led
    (after (space_size words.given.values.first) (λ size. after (log_of words.given.values.second size)
    (λ log. grown words.given.placed
    (space_steps (is_said_local words.given.placed.table.symbols words.symbol) pos words.given.naming words.symbol size log words.given.placed)
    (λ spaced. dot_steps (begins_with_place tokens) spaced spaced (still spaced))))))

lcomm_steps : (pos : Pos) (tokens : List SpelledToken) (placed : Placed) → Steps placed (place_lcomm pos tokens placed)
unfolding place_lcomm
lcomm_steps pos tokens placed =
    step (space_words_steps pos placed 1 tokens)
    (λ words led. from placed words.given.placed led
    (after (space_size words.given.values.first) (λ size. after (log_of None size)
    (λ log. grown words.given.placed (with_space_steps pos words.given.naming words.symbol size log words.given.placed)
    (λ spaced. dot_steps (begins_with_place tokens) spaced spaced (still spaced))))))

-- texts
ident_steps : (pos : Pos) (tokens : List SpelledToken) (placed : Placed) → Steps placed (place_ident pos tokens placed)
unfolding place_ident
ident_steps pos tokens placed =
    after (one_string tokens) (λ text. step (entered_adds placed.sections (codes ".comment") comment_header (λ same. omega (arith, same)))
    (λ pair adds. from placed (record placed { sections = pair.0 }) (leads_by placed.sections pair.0 placed.procedures placed.lines adds)
    (bytes_steps pos pair.1 (comment_bytes (items_in pair.0 pair.1) text) (record placed { sections = pair.0 }))))

file_steps : (tokens : List SpelledToken) (placed : Placed) → Steps placed (place_file tokens placed)
unfolding place_file
file_steps tokens placed =
    after (one_string tokens) (λ text. after (file_name text)
    (λ name. after (file_named (naming.Plain name) placed.table) (λ table. made (with_table placed table) (still placed))))

-- faults and warnings
err_steps : (tokens : List SpelledToken) (placed : Placed) → Steps placed (place_err tokens)
err_steps [] placed = refused _
err_steps (token ∷ rest) placed = refused _

error_steps : (said : Bool) (tokens : List SpelledToken) (placed : Placed) → Steps placed (place_error said tokens)
unfolding place_error
error_steps false tokens placed = err_steps tokens placed
error_steps true tokens placed = after (one_string tokens) (λ text. refused _)

warning_steps : (pos : Pos) (tokens : List SpelledToken) (placed : Placed) → Steps placed (place_warning pos tokens placed)
unfolding place_warning
warning_steps pos tokens placed =
    after (one_string tokens) (λ text. made (with_notes (record { note = Written text; pos = pos } ∷ []) placed) (still placed))

-- the syntax
syntax_steps : (syntax : Syntax) (tokens : List SpelledToken) (placed : Placed) → Steps placed (place_syntax syntax tokens placed)
unfolding place_syntax
syntax_steps Att [] placed = made _ (still placed)
syntax_steps Intel [] placed = refused _
syntax_steps Att (word ∷ []) placed = either (says_names Att word) (made (with_syntax Att placed) (still placed)) (refused _)
syntax_steps Intel (word ∷ []) placed = either (says_names Intel word) (made (with_syntax Intel placed) (still placed)) (refused _)
syntax_steps Att (word ∷ more ∷ rest) placed = refused _
syntax_steps Intel (word ∷ more ∷ rest) placed = refused _

-- directives
bare_steps : (tokens : List SpelledToken) (placed : Placed) (answer : Result Placed PlaceCause) → Steps placed answer → Steps placed (bare tokens answer)
bare_steps [] placed answer steps = steps
bare_steps (token ∷ rest) placed answer steps = refused _

-- a directive of the line table
line_steps : (pos : Pos) (placed : Placed) (answer : Result Placed PlaceCause) → IfOk answer (OnlyLines pos placed) → Steps placed answer
line_steps pos placed answer keeps =
    weaker (known answer keeps) (λ after only. subst (Led placed) (sym only.is) (leads_rows placed only.directives only.lines only.taken only.fit))

module _ (tables : TablesKeep) where
  frame_steps : (frame : FrameDirective) (pos : Pos) (tokens : List SpelledToken) (placed : Placed) → Steps placed (place_frame frame pos tokens placed)
  frame_steps frame pos tokens placed =
      weaker (known (place_frame frame pos tokens placed) (tables.frames frame pos tokens placed))
      (λ after only. subst (Led placed) (sym only.is) (leads_lines placed only.lines only.procedures only.taken))

  any_file_steps : (pos : Pos) (tokens : List SpelledToken) (placed : Placed) → Steps placed (place_any_file pos tokens placed)
  unfolding place_any_file
  any_file_steps pos tokens placed =
      either (names_source tokens) (file_steps tokens placed) (line_steps pos placed (place_numbered_file pos tokens placed) (tables.files pos tokens placed))

  by_steps : (found : Directive) (pos : Pos) (tokens : List SpelledToken) (placed : Placed) → Steps placed (place_by found pos tokens placed)
  unfolding place_by
  by_steps (directive.Data size) pos tokens placed = data_steps pos size tokens placed
  by_steps (directive.Strings ended) pos tokens placed = strings_steps pos ended tokens placed
  by_steps (directive.Leb128 signed) pos tokens placed = leb128_steps pos signed tokens placed
  by_steps directive.Zero pos tokens placed = zero_steps pos tokens placed
  by_steps directive.Skip pos tokens placed = skip_steps pos tokens placed
  by_steps directive.Fill pos tokens placed = fill_steps pos tokens placed
  by_steps (directive.Align by) pos tokens placed = align_steps pos by tokens placed
  by_steps directive.Org pos tokens placed = org_steps pos tokens placed
  by_steps (directive.Enter initial) pos tokens placed = bare_steps tokens placed (Ok (with_current (initial_number initial) placed)) (made _ (still placed))
  by_steps directive.Section pos tokens placed = section_steps pos tokens placed
  by_steps directive.PushSection pos tokens placed = pushed_steps pos tokens placed
  by_steps directive.PopSection pos tokens placed = bare_steps tokens placed (popped placed) (popped_steps placed)
  by_steps directive.Previous pos tokens placed = bare_steps tokens placed (Ok (with_current placed.previous placed)) (made _ (still placed))
  by_steps (directive.Say attribute) pos tokens placed = said_steps pos attribute tokens placed
  by_steps directive.Type pos tokens placed = type_steps pos tokens placed
  by_steps directive.Size pos tokens placed = size_steps pos tokens placed
  by_steps (directive.Assign once) pos tokens placed = set_steps pos once tokens placed
  by_steps directive.Comm pos tokens placed = comm_steps pos tokens placed
  by_steps directive.Lcomm pos tokens placed = lcomm_steps pos tokens placed
  by_steps directive.Ident pos tokens placed = ident_steps pos tokens placed
  by_steps directive.File pos tokens placed = any_file_steps pos tokens placed
  by_steps directive.Loc pos tokens placed = line_steps pos placed (place_loc pos tokens placed) (tables.rows pos tokens placed)
  by_steps (directive.Error said) pos tokens placed = error_steps said tokens placed
  by_steps directive.Warning pos tokens placed = warning_steps pos tokens placed
  by_steps (directive.Syntax syntax) pos tokens placed = syntax_steps syntax tokens placed
  by_steps directive.Code64 pos tokens placed = bare_steps tokens placed (Ok placed) (made _ (still placed))
  by_steps (directive.Frame frame) pos tokens placed = frame_steps frame pos tokens placed

  found_steps : (found : Option Directive) (pos : Pos) (tokens : List SpelledToken) (placed : Placed) → Steps placed (place_found found pos tokens placed)
  found_steps None pos tokens placed = refused _
  found_steps (Some found) pos tokens placed = by_steps found pos tokens placed

  pub directive_steps : (pos : Pos) (name : List ℕ) (tokens : List SpelledToken) (placed : Placed) → Steps placed (place_directive pos name tokens placed)
  unfolding place_directive
  directive_steps pos name tokens placed = found_steps _ pos tokens placed
