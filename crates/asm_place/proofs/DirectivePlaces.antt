-- Directives keep it so that each symbol that has a place stands in its section.
use Rattle.std.proofs.Common.{◌≡◌, ℕ, nat_le, Bool, true, false, List, [], ◌∷◌, length, Option, None, Some, Result, Ok, Err, refl}
use Rattle.std.specs.Prelude.{◌^◌, codes, unwrap_or}
use Rattle.std.specs.List.{list_any, count_by}
use Rattle.asm_operands.specs.declared.place_faults.PlaceCause.{PlaceCause}
use Rattle.asm_base.specs.declared.positions.Pos.{Pos}
use Rattle.asm_base.specs.Tokens.{SpelledToken}
use Rattle.asm_expr.specs.declared.naming.Name.TheVariants as naming
use Rattle.asm_expr.specs.declared.forms.Term.{Term}
use Rattle.asm_expr.specs.Forms.{Form}
use Rattle.asm_expr.specs.Trees.{Tree}
use Rattle.asm_frags.specs.Writing.{LooseSection}
use Rattle.asm_symbols.specs.declared.entries.Spot.{Spot}
use Rattle.asm_symbols.specs.SymbolMap.{SymbolMap}
use Rattle.item_contents.specs.declared.contents.Content.{Content}
use Rattle.item_contents.specs.declared.contents.Content.TheVariants as content
use Rattle.asm_frags.specs.declared.fields.FieldSize.{FieldSize}
use Rattle.item_contents.specs.ItemParts.{zeros_up_to}
use Rattle.item_bytes.specs.Leb128.{least_leb128}
use Rattle.item_contents.specs.declared.kinds.Growth.TheVariants.{Leb128}
use Rattle.asm_frags.specs.Fields.{data_role}
use Rattle.asm_symbols.specs.declared.entries.Definition.TheVariants.{Space, Common}
use Rattle.asm_symbols.specs.LeadsBack.{assigned}
use Rattle.asm_words.specs.declared.directives.Directive.{Directive}
use Rattle.asm_words.specs.declared.directives.Directive.TheVariants as directive
use Rattle.asm_symbols.specs.declared.entries.SymbolAttribute.{SymbolAttribute}
use Rattle.asm_words.specs.declared.directives.AlignedBy.{AlignedBy}
use Rattle.asm_words.specs.Paddings.{align_of, org_of}
use Rattle.asm_uses.specs.declared.tables.Naming.{Naming}
use Rattle.asm_base.specs.Refusals.{◌>>=◌}
use Rattle.asm_operands.specs.Operands.{name_of, operands_of, is_dot, begins_with_place, symbol_name, each, joined_strings, needed}
use Rattle.asm_operands.specs.Expressions.{expression_of, form_in, constant_in, up_to_three_listed, up_to_three_trees, up_to_three_forms}
use Rattle.asm_uses.specs.Places.{uses_place, spot_at, known_at, end_naming}
use Rattle.asm_values.specs.State.{Placed, with_table, with_names, here, known_here, unless_dot}
use Rattle.asm_values.specs.KnownOperands.{KnownOperands}
use Rattle.asm_values.specs.DataItems.{put_by, put_forms, is_cut, cut_notes}
use Rattle.asm_operands.specs.Results.{all_steps, if_some}
use Rattle.asm_declarations.specs.SectionChanges.{bare, with_current, popped}
use Rattle.asm_operands.specs.NamedTrees.{NamedTree}
use Rattle.asm_uses.specs.Attributes.{kind_said, sized, define_space}
use Rattle.asm_declarations.specs.SymbolWords.{place_said, place_type}
use Rattle.asm_values.specs.Sizes.{size_words, place_size, words_naming, with_words, words_symbol, end_words}
use Rattle.asm_values.specs.Assignments.{assign_words, place_set, place_assignment}
use Rattle.asm_declarations.specs.Commons.{bss, with_space, with_common, is_said_local, place_space, place_comm, place_lcomm, SpaceWords, with_own, space_words}
use Rattle.asm_words.specs.Spaces.{space_size, space_of, units_of, unit_size, log_of}
use Rattle.asm_base.specs.declared.faults.Note.TheVariants.{Written}
use Rattle.asm_place.specs.Remarks.{place_err, place_error, place_warning}
use Rattle.asm_words.specs.declared.directives.Syntax.{Syntax}
use Rattle.asm_words.specs.declared.directives.Syntax.TheVariants.{Att, Intel}
use Rattle.asm_place.specs.SyntaxWords.{with_syntax, says_names, place_syntax}
use Rattle.asm_declarations.specs.Idents.{items_in, comment_bytes, comment_header, place_ident, place_file, one_string, file_name}
use Rattle.asm_values.specs.Data.{put_data, place_data, place_strings, put_space_by, with_filled, with_named, place_zero, place_skip, place_fill}
use Rattle.asm_items.specs.Alignments.{is_code, place_align}
use Rattle.asm_items.specs.Orgs.{known_origin, origin_by, place_org}
use Rattle.asm_items.specs.Leb128Numbers.{put_number_by, put_numbers, put_leb128, some_expressions, place_leb128}
use Rattle.asm_place.specs.Placing.{initial_number, names_source, place_any_file, place_by, place_found, place_directive}
use Rattle.asm_line_tables.specs.Placing.{place_loc, place_numbered_file}
use Rattle.asm_place.proofs.Walks.{TablesKeep, Fine, made, refused, step, after, either}
use Rattle.asm_uses.specs.Tables.{changed_by, file_named, naming_of, allowed}
use Rattle.std.proofs.Common.{◌<◌, arith}
use Rattle.asm_uses.specs.Tables.{with_name, with_tree}
use Rattle.asm_words.specs.declared.directives.InitialSection.{InitialSection}
use Rattle.asm_words.specs.declared.directives.InitialSection.TheVariants as initially
use Rattle.asm_place.specs.SymbolPlaces.{AreUpTo, IsGiven, SymbolsStand, PlacesStand}
use Rattle.asm_place.proofs.ForwardForms.{LeadsAreFound}
use Rattle.asm_place.proofs.GivenNames.{names_given, kind_given, tree_given}
use Rattle.asm_place.proofs.NamedSymbols.{form_up}
use Rattle.asm_place.proofs.OwnFields.{entered_fields}
use Rattle.asm_place.proofs.SectionSteps.{entered_adds}
use Rattle.asm_place.proofs.SymbolTables.{Allows, named_both, allows_on, with_name_stand, tree_stand, change_stand, named_change_stand, assigned_stand, kind_stand, say_all_stand, sized_stand, allowed_stand, define_space_stand, end_stand, file_stand}
use Rattle.asm_place.proofs.KnownWalks.{AreAsked, given_walk, known_walk}
use Rattle.asm_place.proofs.FramePlaces.{frame_walk, line_walk}
use Rattle.asm_place.proofs.PlaceSteps.{count, Gains, Stays, Closes, Walks, grown_twice, stays_on, closes_on, closed, walked, unmoved, items_grow, sections_stay, table_stays, table_gains, table_closes, current_stays, notes_close, notes_stay, syntax_stays, names_gain, spot_stands, both_fine, table_walk, table_close, bytes_walk, field_walk, push_walk, growing_walk, section_walk, pushed_walk, popped_walk}

-- DATA AND SPACE

form_walk : (pos : Pos) (size : FieldSize) (terms : List Term) (form : Form) (placed : Placed) → PlacesStand placed → Walks placed (put_by terms pos size form placed)
form_walk pos size [] form placed stands = bytes_walk pos placed.current _ placed stands
form_walk pos size (term ∷ terms) form placed stands = field_walk pos placed.current size data_role form placed stands

forms_walk : (pos : Pos) (size : FieldSize) (forms : List Form) (placed : Placed) → PlacesStand placed → Walks placed (put_forms pos size forms placed)
unfolding put_forms all_steps
forms_walk pos size [] placed stands = made placed (unmoved placed stands)
forms_walk pos size (form ∷ forms) placed stands = walked placed (form_walk pos size form.terms form placed stands) (λ put now. forms_walk pos size forms put now)

-- the place of the statement may become a symbol, behind what it put
pub here_stand : (pos : Pos) (naming : Naming) (keeps : Bool) (placed put : Placed) → PlacesStand placed → Stays placed put
    → Fine (Allows put.sections naming.before put.table) (end_naming pos naming (here placed) keeps put.table)
here_stand pos naming keeps placed put stands stays =
    end_stand put.sections pos naming (here placed) keeps put.table
    (λ last. items_grow placed.sections put.sections (here placed).place.section (here placed).place.place.item stays.grows (spot_stands placed.sections placed.current stands.current))

values_walk : (pos : Pos) (size : FieldSize) (naming : Naming) (forms : List Form) (placed : Placed) → PlacesStand placed
    → Fine (Closes naming.before placed) (put_data pos size naming forms placed)
unfolding put_data
values_walk pos size naming forms placed stands =
    step (forms_walk pos size forms placed stands)
    (λ put stays. closes_on naming.before placed put _ stays (step (here_stand pos naming (list_any (uses_place (known_here placed).place) forms) placed put stands stays)
    (λ table kept. made _ (notes_close (cut_notes pos (count_by (is_cut size) forms)) naming.before put (with_table put table)
    (table_closes naming.before put table kept stays.stands)))))

data_walk : (pos : Pos) (size : FieldSize) (tokens : List SpelledToken) (placed : Placed) → PlacesStand placed → Walks placed (place_data pos size tokens placed)
unfolding place_data
data_walk pos size tokens placed stands =
    after (each expression_of (operands_of tokens))
    (λ trees. after (each (form_in (known_here (with_names pos trees placed))) trees)
    (λ forms. let names = names_gain pos trees placed stands in
    closed placed (with_names pos trees placed) _ names (values_walk pos size (naming_of trees placed.table) forms (with_names pos trees placed) names.stands)))

strings_walk : (pos : Pos) (ended : Bool) (tokens : List SpelledToken) (placed : Placed) → PlacesStand placed → Walks placed (place_strings pos ended tokens placed)
unfolding place_strings
strings_walk pos ended tokens placed stands = after (joined_strings ended (operands_of tokens)) (λ bytes. bytes_walk pos placed.current bytes placed stands)

item_walk : (pos : Pos) (naming : Naming) (item : Content) (placed : Placed) → PlacesStand placed → Fine (Closes naming.before placed) (with_named pos naming item placed)
item_walk pos naming item placed stands =
    step (push_walk pos placed.current item placed stands)
    (λ pushed stays. closes_on naming.before placed pushed _ stays
    (table_close naming.before pushed (allowed naming pushed.table) stays.stands (allowed_stand pushed.sections naming pushed.table)))

-- space, as plain bytes or as an item
put_space_walk : (few : Bool) (pos : Pos) (count value : ℕ) (placed : Placed) → PlacesStand placed → Walks placed (put_space_by few pos count value placed)
put_space_walk true pos count value placed stands = bytes_walk pos placed.current _ placed stands
put_space_walk false pos count value placed stands = after (space_of count value) (λ item. push_walk pos placed.current item placed stands)

filled_walk : (pos : Pos) (given : KnownOperands) (count value : ℕ) → PlacesStand given.placed → Fine (Closes given.naming.before given.placed) (with_filled pos given count value)
filled_walk pos given count value stands =
    step (put_space_walk (nat_le count 16) pos count value given.placed stands)
    (λ filled stays. closes_on given.naming.before given.placed filled _ stays
    (table_close given.naming.before filled (allowed given.naming filled.table) stays.stands (allowed_stand filled.sections given.naming filled.table)))

zero_walk : (pos : Pos) (tokens : List SpelledToken) (placed : Placed) → PlacesStand placed → Walks placed (place_zero pos tokens placed)
unfolding place_zero
zero_walk pos tokens placed stands =
    step (known_walk pos placed 1 (operands_of tokens) stands)
    (λ given asked. given_walk placed given _ asked (filled_walk pos given given.values.first 0 asked.gains.stands))

skip_walk : (pos : Pos) (tokens : List SpelledToken) (placed : Placed) → PlacesStand placed → Walks placed (place_skip pos tokens placed)
unfolding place_skip
skip_walk pos tokens placed stands =
    step (known_walk pos placed 2 (operands_of tokens) stands)
    (λ given asked. given_walk placed given _ asked (filled_walk pos given given.values.first (unwrap_or given.values.second 0) asked.gains.stands))

fill_walk : (pos : Pos) (tokens : List SpelledToken) (placed : Placed) → PlacesStand placed → Walks placed (place_fill pos tokens placed)
unfolding place_fill
fill_walk pos tokens placed stands =
    step (known_walk pos placed 3 (operands_of tokens) stands)
    (λ given asked. given_walk placed given _ asked
    (after (unit_size given.values.second) (λ size. after (units_of given.values.first size (unwrap_or given.values.third 0))
    (λ item. item_walk pos given.naming item given.placed asked.gains.stands))))

align_walk : (pos : Pos) (by : AlignedBy) (tokens : List SpelledToken) (placed : Placed) → PlacesStand placed → Walks placed (place_align pos by tokens placed)
unfolding place_align
align_walk pos by tokens placed stands =
    step (known_walk pos placed 3 (operands_of tokens) stands)
    (λ given asked. given_walk placed given _ asked
    (after (align_of by (is_code given.placed.sections given.placed.current) given.values) (λ item. item_walk pos given.naming item given.placed asked.gains.stands)))

org_walk : (pos : Pos) (tokens : List SpelledToken) (placed : Placed) → PlacesStand placed → Walks placed (place_org pos tokens placed)
unfolding place_org
org_walk pos tokens placed stands =
    after (up_to_three_trees 2 (operands_of tokens))
    (λ trees. let named = with_names pos (up_to_three_listed trees) placed in
    let names = names_gain pos (up_to_three_listed trees) placed stands in
    closed placed named _ names
    (after (up_to_three_forms (known_here named) trees)
    (λ forms. after (known_origin (origin_by named forms.first.terms))
    (λ origin. after (if_some constant_in forms.second)
    (λ fill. after (org_of origin.from origin.offset forms.first.constant (unwrap_or fill 0))
    (λ item. item_walk pos (naming_of (up_to_three_listed trees) placed.table) item named names.stands))))))

number_walk : (pos : Pos) (signed : Bool) (terms : List Term) (form : Form) (placed : Placed) → PlacesStand placed → Walks placed (put_number_by terms pos signed form placed)
number_walk pos signed [] form placed stands = bytes_walk pos placed.current (least_leb128 signed form.constant) placed stands
number_walk pos signed (term ∷ terms) form placed stands = growing_walk pos placed.current (Leb128 signed) None form placed (λ branch. absurd cc) stands

numbers_walk : (pos : Pos) (signed : Bool) (forms : List Form) (placed : Placed) → PlacesStand placed → Walks placed (put_numbers pos signed forms placed)
unfolding put_numbers all_steps
numbers_walk pos signed [] placed stands = made placed (unmoved placed stands)
numbers_walk pos signed (form ∷ forms) placed stands = walked placed (number_walk pos signed form.terms form placed stands) (λ put now. numbers_walk pos signed forms put now)

put_leb128_walk : (pos : Pos) (signed : Bool) (naming : Naming) (forms : List Form) (placed : Placed) → PlacesStand placed
    → Fine (Closes naming.before placed) (put_leb128 pos signed naming forms placed)
unfolding put_leb128
put_leb128_walk pos signed naming forms placed stands =
    step (numbers_walk pos signed forms placed stands)
    (λ put stays. closes_on naming.before placed put _ stays
    (table_close naming.before put (end_naming pos naming (here placed) (list_any (uses_place (known_here placed).place) forms) put.table) stays.stands
    (here_stand pos naming (list_any (uses_place (known_here placed).place) forms) placed put stands stays)))

leb128_walk : (pos : Pos) (signed : Bool) (tokens : List SpelledToken) (placed : Placed) → PlacesStand placed → Walks placed (place_leb128 pos signed tokens placed)
unfolding place_leb128
leb128_walk pos signed tokens placed stands =
    after (some_expressions (operands_of tokens))
    (λ trees. after (each (form_in (known_here (with_names pos trees placed))) trees)
    (λ forms. let names = names_gain pos trees placed stands in
    closed placed (with_names pos trees placed) _ names (put_leb128_walk pos signed (naming_of trees placed.table) forms (with_names pos trees placed) names.stands)))

-- SYMBOLS

pub dot_walk : (dot : Bool) (before placed : Placed) → Stays before placed → Walks before (unless_dot dot placed)
dot_walk true before placed stays = refused _
dot_walk false before placed stays = made placed stays

said_walk : (pos : Pos) (attribute : SymbolAttribute) (tokens : List SpelledToken) (placed : Placed) → PlacesStand placed → Walks placed (place_said pos attribute tokens placed)
unfolding place_said
said_walk pos attribute [] placed stands = refused _
said_walk pos attribute (token ∷ rest) placed stands =
    step (names_given (operands_of (token ∷ rest)))
    (λ names given. step (say_all_stand placed.sections pos attribute names given placed.table)
    (λ table kept. dot_walk (list_any is_dot (token ∷ rest)) placed (with_table placed table) (table_stays placed table kept stands)))

type_walk : (pos : Pos) (tokens : List SpelledToken) (placed : Placed) → PlacesStand placed → Walks placed (place_type pos tokens placed)
unfolding place_type
type_walk pos tokens placed stands =
    step (kind_given (operands_of tokens))
    (λ words given. step (named_change_stand placed.sections pos (kind_said words.kind) words.name given placed.table
    (λ map index named. kind_stand placed.sections words.kind map index))
    (λ table kept. dot_walk (begins_with_place tokens) placed (with_table placed table) (table_stays placed table kept stands)))

words_gain : (pos : Pos) (words : NamedTree) → IsGiven words.name → (placed : Placed) → PlacesStand placed → Gains placed (with_words pos words placed)
words_gain pos words given placed stands =
    let one = with_name pos words.name placed.table in
    table_gains placed (with_tree pos words.tree one)
    (named_both placed.sections placed.table.symbols one.symbols (with_tree pos words.tree one).symbols (with_name_stand placed.sections pos words.name given placed.table)
    (tree_stand placed.sections pos words.tree one)) stands

size_words_walk : (pos : Pos) (words : NamedTree) → IsGiven words.name → (placed : Placed) → PlacesStand placed → Walks placed (size_words pos words placed)
unfolding size_words
size_words_walk pos words given placed stands =
    let named = with_words pos words placed in
    let names = words_gain pos words given placed stands in
    closed placed named _ names
    (after (form_in (known_here named) words.tree)
    (λ form. let new = sized pos form (named.table, words_symbol words placed) in
    table_close (count placed) named (end_words pos (words_naming words placed) form named new) names.stands
    (allows_on named.sections (count placed) named.table new (sized_stand named.sections pos form (named.table, words_symbol words placed))
    (end_stand named.sections pos (words_naming words placed) (here named) (uses_place (known_here named).place form) new
    (λ last. spot_stands named.sections named.current names.stands.current)))))

size_walk : (pos : Pos) (tokens : List SpelledToken) (placed : Placed) → PlacesStand placed → Walks placed (place_size pos tokens placed)
unfolding place_size
size_walk pos tokens placed stands =
    step (tree_given (operands_of tokens)) (λ words given. walked placed (size_words_walk pos words given placed stands)
    (λ sized now. dot_walk (begins_with_place tokens) sized sized (unmoved sized now)))

-- the form of an expression names symbols that are there, or the next one
form_stands : (sections : List LooseSection) (map : SymbolMap) (spot : Spot) (tree : Tree) → SymbolsStand sections map.symbols
    → Fine (λ (form : Form). AreUpTo (length map.symbols) form.terms) (form_in (known_at map spot) tree)
form_stands sections map spot tree stand = by (form_in (known_at map spot) tree) refl
  where
    by : (answer : Result Form PlaceCause) → form_in (known_at map spot) tree ≡ answer → Fine (λ (form : Form). AreUpTo (length map.symbols) form.terms) answer
    by (Ok form) is = made form (form_up sections map spot tree form stand is)
    by (Err fault) is = refused fault

assign_walk : LeadsAreFound → (pos : Pos) (once : Bool) (words : NamedTree) → IsGiven words.name → (placed : Placed) → PlacesStand placed
    → Walks placed (assign_words pos once words placed)
unfolding assign_words
assign_walk leads pos once words given placed stands =
    let named = with_words pos words placed in
    let names = words_gain pos words given placed stands in
    closed placed named _ names
    (step (form_stands named.sections named.table.symbols (here named) words.tree names.stands.symbols)
    (λ form few. table_close (count placed) named (changed_by (λ map index. assigned map index form once) (named.table, words_symbol words placed) >>= end_words pos (words_naming words placed) form named)
    names.stands
    (step (change_stand named.sections (λ map index. assigned map index form once) (named.table, words_symbol words placed)
    (assigned_stand named.sections leads form once named.table.symbols (words_symbol words placed) few))
    (λ next kept. allows_on named.sections (count placed) named.table next kept
    (end_stand named.sections pos (words_naming words placed) (here named) (uses_place (known_here named).place form) next
    (λ last. spot_stands named.sections named.current names.stands.current))))))

set_walk : LeadsAreFound → (pos : Pos) (once : Bool) (tokens : List SpelledToken) (placed : Placed) → PlacesStand placed → Walks placed (place_set pos once tokens placed)
unfolding place_set
set_walk leads pos once tokens placed stands = step (tree_given (operands_of tokens)) (λ words given. assign_walk leads pos once words given placed stands)

pub assignment_walk : LeadsAreFound → (pos : Pos) (token : SpelledToken) (tokens : List SpelledToken) (placed : Placed) → PlacesStand placed → Walks placed (place_assignment pos token tokens placed)
unfolding place_assignment
assignment_walk leads pos token tokens placed stands =
    after (symbol_name token) (λ name. after (expression_of tokens) (λ tree. assign_walk leads pos false (record { name = naming.Plain name; tree = tree }) tt placed stands))

-- space for symbols
with_space_walk : (pos : Pos) (naming : Naming) (symbol size log : ℕ) (placed : Placed) → PlacesStand placed
    → Fine (Closes naming.before placed) (with_space pos naming symbol size log placed)
unfolding with_space
with_space_walk pos naming symbol size log placed stands =
    after (space_of size 0)
    (λ space. step (push_walk pos bss (content.Align (zeros_up_to log)) placed stands)
    (λ aligned first. let there = first.stands in closes_on naming.before placed aligned _ first (step (push_walk pos bss space aligned there)
    (λ pushed stays. closes_on naming.before aligned pushed _ stays
    (table_close naming.before pushed (define_space naming symbol size (Space (spot_at aligned.sections bss)) pushed.table) stays.stands
    (define_space_stand pushed.sections naming symbol size (Space (spot_at aligned.sections bss)) pushed.table
    (λ last. items_grow aligned.sections pushed.sections (spot_at aligned.sections bss).place.section (spot_at aligned.sections bss).place.place.item stays.grows
    (spot_stands aligned.sections bss (there.first bss (omega arith))))))))))

with_common_walk : (naming : Naming) (symbol size log : ℕ) (placed : Placed) → PlacesStand placed → Fine (Closes naming.before placed) (with_common naming symbol size log placed)
unfolding with_common
with_common_walk naming symbol size log placed stands =
    table_close naming.before placed (define_space naming symbol size (Common size (2 ^ log)) placed.table) stands
    (define_space_stand placed.sections naming symbol size (Common size (2 ^ log)) placed.table (λ last. tt))

space_walk : (is_local : Bool) (pos : Pos) (naming : Naming) (symbol size log : ℕ) (placed : Placed) → PlacesStand placed
    → Fine (Closes naming.before placed) (place_space is_local pos naming symbol size log placed)
space_walk true pos naming symbol size log placed stands = with_space_walk pos naming symbol size log placed stands
space_walk false pos naming symbol size log placed stands = with_common_walk naming symbol size log placed stands

space_words_walk : (pos : Pos) (placed : Placed) (most : ℕ) (tokens : List SpelledToken) → PlacesStand placed
    → Fine (λ (words : SpaceWords). AreAsked placed words.given) (space_words pos placed most tokens)
unfolding space_words
space_words_walk pos placed most tokens stands =
    after (needed name_of (operands_of tokens))
    (λ name. let owned = with_own pos (naming.Plain name.0) placed in
    let own = table_gains placed owned.table (with_name_stand placed.sections pos (naming.Plain name.0) tt placed.table) stands in
    step (known_walk pos owned most name.1 own.stands)
    (λ given asked.
    let first = own.more in
    let last = asked.gains.more in
    made _ (record {
      gains = record {
        grows = grown_twice placed.sections owned.sections given.placed.sections own.grows asked.gains.grows;
        more = omega (arith, first, last);
        stands = asked.gains.stands;
        alike = λ few fit. asked.gains.alike (omega (arith, few, first)) (own.alike (omega (arith, few, last)) fit);
      };
      base = refl;
    })))

dotted_walk : (dot : Bool) (placed : Placed) (r : Result Placed PlaceCause) → Walks placed r → Walks placed (r >>= unless_dot dot)
dotted_walk dot placed r walk = walked placed walk (λ done now. dot_walk dot done done (unmoved done now))

comm_walk : (pos : Pos) (tokens : List SpelledToken) (placed : Placed) → PlacesStand placed → Walks placed (place_comm pos tokens placed)
unfolding place_comm
comm_walk pos tokens placed stands =
    step (space_words_walk pos placed 2 tokens stands)
    (λ words asked. after (space_size words.given.values.first)
    (λ size. after (log_of words.given.values.second size)
    (λ log. dotted_walk (begins_with_place tokens) placed _
    (given_walk placed words.given _ asked
    (space_walk (is_said_local words.given.placed.table.symbols words.symbol) pos words.given.naming words.symbol size log words.given.placed asked.gains.stands)))))

lcomm_walk : (pos : Pos) (tokens : List SpelledToken) (placed : Placed) → PlacesStand placed → Walks placed (place_lcomm pos tokens placed)
unfolding place_lcomm
lcomm_walk pos tokens placed stands =
    step (space_words_walk pos placed 1 tokens stands)
    (λ words asked. after (space_size words.given.values.first)
    (λ size. after (log_of None size)
    (λ log. dotted_walk (begins_with_place tokens) placed _
    (given_walk placed words.given _ asked (space_walk true pos words.given.naming words.symbol size log words.given.placed asked.gains.stands)))))

-- texts
ident_walk : (pos : Pos) (tokens : List SpelledToken) (placed : Placed) → PlacesStand placed → Walks placed (place_ident pos tokens placed)
unfolding place_ident
ident_walk pos tokens placed stands =
    after (one_string tokens)
    (λ text. step (both_fine _ (entered_adds placed.sections (codes ".comment") comment_header (λ same. omega (arith, same)))
    (entered_fields (count placed) placed.sections (codes ".comment") comment_header (λ same. omega (arith, same))))
    (λ pair has. let more = sections_stay placed pair.0 has.0.grows has.1 stands in
    stays_on placed (record placed { sections = pair.0 }) _ more
    (bytes_walk pos pair.1 (comment_bytes (items_in pair.0 pair.1) text) (record placed { sections = pair.0 }) more.stands)))

file_walk : (tokens : List SpelledToken) (placed : Placed) → PlacesStand placed → Walks placed (place_file tokens placed)
unfolding place_file
file_walk tokens placed stands =
    after (one_string tokens) (λ text. after (file_name text)
    (λ name. table_walk placed (file_named (naming.Plain name) placed.table) stands (file_stand placed.sections (naming.Plain name) placed.table)))

-- faults and warnings
err_walk : (tokens : List SpelledToken) (placed : Placed) → Walks placed (place_err tokens)
err_walk [] placed = refused _
err_walk (token ∷ rest) placed = refused _

error_walk : (said : Bool) (tokens : List SpelledToken) (placed : Placed) → Walks placed (place_error said tokens)
unfolding place_error
error_walk false tokens placed = err_walk tokens placed
error_walk true tokens placed = after (one_string tokens) (λ text. refused _)

warning_walk : (pos : Pos) (tokens : List SpelledToken) (placed : Placed) → PlacesStand placed → Walks placed (place_warning pos tokens placed)
unfolding place_warning
warning_walk pos tokens placed stands =
    after (one_string tokens) (λ text. made _ (notes_stay (record { note = Written text; pos = pos } ∷ []) placed stands))

-- the syntax
syntax_walk : (syntax : Syntax) (tokens : List SpelledToken) (placed : Placed) → PlacesStand placed → Walks placed (place_syntax syntax tokens placed)
unfolding place_syntax
syntax_walk Att [] placed stands = made _ (syntax_stays Att placed stands)
syntax_walk Intel [] placed stands = refused _
syntax_walk Att (word ∷ []) placed stands = either (says_names Att word) (made (with_syntax Att placed) (syntax_stays Att placed stands)) (refused _)
syntax_walk Intel (word ∷ []) placed stands = either (says_names Intel word) (made (with_syntax Intel placed) (syntax_stays Intel placed stands)) (refused _)
syntax_walk Att (word ∷ more ∷ rest) placed stands = refused _
syntax_walk Intel (word ∷ more ∷ rest) placed stands = refused _

-- directives
bare_walk : (tokens : List SpelledToken) (placed : Placed) (answer : Result Placed PlaceCause) → Walks placed answer → Walks placed (bare tokens answer)
bare_walk [] placed answer steps = steps
bare_walk (token ∷ rest) placed answer steps = refused _

initial_few : (initial : InitialSection) → initial_number initial < 3
initial_few initially.Text = omega arith
initial_few initially.Data = omega arith
initial_few initially.Bss = omega arith

module _ (tables : TablesKeep) (leads : LeadsAreFound) where
  any_file_walk : (pos : Pos) (tokens : List SpelledToken) (placed : Placed) → PlacesStand placed → Walks placed (place_any_file pos tokens placed)
  unfolding place_any_file
  any_file_walk pos tokens placed stands =
      either (names_source tokens) (file_walk tokens placed stands) (line_walk pos placed (place_numbered_file pos tokens placed) (tables.files pos tokens placed) stands)

  by_walk : (found : Directive) (pos : Pos) (tokens : List SpelledToken) (placed : Placed) → PlacesStand placed → Walks placed (place_by found pos tokens placed)
  unfolding place_by
  by_walk (directive.Data size) pos tokens placed stands = data_walk pos size tokens placed stands
  by_walk (directive.Strings ended) pos tokens placed stands = strings_walk pos ended tokens placed stands
  by_walk (directive.Leb128 signed) pos tokens placed stands = leb128_walk pos signed tokens placed stands
  by_walk directive.Zero pos tokens placed stands = zero_walk pos tokens placed stands
  by_walk directive.Skip pos tokens placed stands = skip_walk pos tokens placed stands
  by_walk directive.Fill pos tokens placed stands = fill_walk pos tokens placed stands
  by_walk (directive.Align by) pos tokens placed stands = align_walk pos by tokens placed stands
  by_walk directive.Org pos tokens placed stands = org_walk pos tokens placed stands
  by_walk (directive.Enter initial) pos tokens placed stands =
      bare_walk tokens placed (Ok (with_current (initial_number initial) placed))
      (made _ (current_stays (initial_number initial) placed (stands.first (initial_number initial) (initial_few initial)) stands))
  by_walk directive.Section pos tokens placed stands = section_walk pos tokens placed stands
  by_walk directive.PushSection pos tokens placed stands = pushed_walk pos tokens placed stands
  by_walk directive.PopSection pos tokens placed stands = bare_walk tokens placed (popped placed) (popped_walk placed stands)
  by_walk directive.Previous pos tokens placed stands =
      bare_walk tokens placed (Ok (with_current placed.previous placed)) (made _ (current_stays placed.previous placed stands.previous stands))
  by_walk (directive.Say attribute) pos tokens placed stands = said_walk pos attribute tokens placed stands
  by_walk directive.Type pos tokens placed stands = type_walk pos tokens placed stands
  by_walk directive.Size pos tokens placed stands = size_walk pos tokens placed stands
  by_walk (directive.Assign once) pos tokens placed stands = set_walk leads pos once tokens placed stands
  by_walk directive.Comm pos tokens placed stands = comm_walk pos tokens placed stands
  by_walk directive.Lcomm pos tokens placed stands = lcomm_walk pos tokens placed stands
  by_walk directive.Ident pos tokens placed stands = ident_walk pos tokens placed stands
  by_walk directive.File pos tokens placed stands = any_file_walk pos tokens placed stands
  by_walk directive.Loc pos tokens placed stands = line_walk pos placed (place_loc pos tokens placed) (tables.rows pos tokens placed) stands
  by_walk (directive.Error said) pos tokens placed stands = error_walk said tokens placed
  by_walk directive.Warning pos tokens placed stands = warning_walk pos tokens placed stands
  by_walk (directive.Syntax syntax) pos tokens placed stands = syntax_walk syntax tokens placed stands
  by_walk directive.Code64 pos tokens placed stands = bare_walk tokens placed (Ok placed) (made _ (unmoved placed stands))
  by_walk (directive.Frame frame) pos tokens placed stands = frame_walk tables frame pos tokens placed stands

  found_walk : (found : Option Directive) (pos : Pos) (tokens : List SpelledToken) (placed : Placed) → PlacesStand placed → Walks placed (place_found found pos tokens placed)
  found_walk None pos tokens placed stands = refused _
  found_walk (Some found) pos tokens placed stands = by_walk found pos tokens placed stands

  pub directive_walk : (pos : Pos) (name : List ℕ) (tokens : List SpelledToken) (placed : Placed) → PlacesStand placed → Walks placed (place_directive pos name tokens placed)
  unfolding place_directive
  directive_walk pos name tokens placed stands = found_walk _ pos tokens placed stands
