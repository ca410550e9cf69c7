-- Statements by which no form comes to a symbol: all but assignments.
use Rattle.std.proofs.Common.{◌≡◌, ℕ, nat_le, Bool, true, false, List, [], ◌∷◌, Option, None, Some, Result, Ok, refl, sym, subst, ◌∙◌, slice_get}
use Rattle.std.specs.Prelude.{◌+◌, ◌^◌, ◌-◌, codes, unwrap_or, drop, length, slice_range}
use Rattle.std.specs.List.{list_any}
use Rattle.asm_base.specs.Refusals.{◌>>=◌}
use Rattle.asm_base.specs.Tokens.{SpelledToken}
use Rattle.asm_base.specs.declared.positions.Pos.{Pos}
use Rattle.asm_base.specs.declared.causes.FragCause.{FragCause}
use Rattle.asm_base.specs.declared.faults.Note.TheVariants.{Written}
use Rattle.asm_expr.specs.declared.naming.Name.TheVariants as naming
use Rattle.asm_expr.specs.declared.forms.Term.{Term}
use Rattle.asm_expr.specs.Forms.{Form}
use Rattle.asm_expr.specs.Trees.{Tree}
use Rattle.asm_frags.specs.declared.fields.FieldSize.{FieldSize}
use Rattle.asm_frags.specs.declared.roles.FieldRole.{FieldRole}
use Rattle.asm_frags.specs.Fields.{width, data_role}
use Rattle.asm_frags.specs.Sections.{put_into}
use Rattle.asm_frags.specs.Writing.{LooseSection, new_item, bytes_put, field_put, item_put, growing_put}
use Rattle.item_bytes.specs.Leb128.{least_leb128}
use Rattle.item_bytes.specs.declared.jumps.Condition.{Condition}
use Rattle.item_contents.specs.ItemParts.{zeros_up_to}
use Rattle.item_contents.specs.declared.contents.Content.{Content}
use Rattle.item_contents.specs.declared.contents.Content.TheVariants.{Align}
use Rattle.item_contents.specs.declared.kinds.Growth.{Growth}
use Rattle.item_contents.specs.declared.kinds.Growth.TheVariants.{Jump, Leb128}
use Rattle.x86_insn.specs.declared.amounts.Suffix.{Suffix}
use Rattle.x86_encode.specs.Encoding.{encoding_of}
use Rattle.att_operands.specs.declared.faults.OperandCause.{OperandCause}
use Rattle.att_insns.specs.InsnTexts.{InsnText}
use Rattle.amount_forms.specs.Amounts.{in_text_order}
use Rattle.asm_operands.specs.declared.place_faults.PlaceCause.{PlaceCause}
use Rattle.asm_operands.specs.LayerFaults.{of_sections}
use Rattle.asm_operands.specs.NamedTrees.{plain_of}
use Rattle.asm_operands.specs.Operands.{name_of, operands_of, is_dot, begins_with_place, each, joined_strings, needed}
use Rattle.asm_operands.specs.Expressions.{expression_of, form_in, constant_in, up_to_three_listed, up_to_three_trees, up_to_three_forms, up_to_three_constants}
use Rattle.asm_operands.specs.Results.{all_steps, if_some}
use Rattle.asm_words.specs.declared.directives.AlignedBy.{AlignedBy}
use Rattle.asm_words.specs.declared.directives.Syntax.{Syntax}
use Rattle.asm_words.specs.declared.directives.Syntax.TheVariants.{Att, Intel}
use Rattle.asm_words.specs.Paddings.{align_of, org_of}
use Rattle.asm_words.specs.SectionWords.{SectionWords, section_words, said_group}
use Rattle.asm_words.specs.Spaces.{space_size, space_of, units_of, unit_size, log_of}
use Rattle.asm_words.specs.SymbolKinds.{named_kind}
use Rattle.asm_symbols.specs.declared.entries.Definition.TheVariants.{Space, Common}
use Rattle.asm_symbols.specs.declared.entries.SymbolAttribute.{SymbolAttribute}
use Rattle.asm_uses.specs.declared.tables.Naming.{Naming}
use Rattle.asm_uses.specs.Attributes.{kind_said, sized, define_space}
use Rattle.asm_uses.specs.Places.{uses_place, spot_at, end_naming}
use Rattle.asm_uses.specs.Tables.{Table, with_name, with_tree, file_named, naming_of, allowed}
use Rattle.asm_values.specs.declared.stacks.Entered.{Entered}
use Rattle.asm_values.specs.Data.{put_data, place_data, place_strings, put_space_by, with_filled, with_named, place_zero, place_skip, place_fill}
use Rattle.asm_values.specs.DataItems.{put_by, put_forms}
use Rattle.asm_values.specs.KnownOperands.{KnownOperands, known_operands}
use Rattle.asm_values.specs.Sizes.{size_words, place_size, words_naming, with_words, words_symbol, end_words}
use Rattle.asm_values.specs.State.{Placed, with_table, with_notes, with_names, here, known_here, unless_dot, put_section, put_bytes_into, put_field_into, put_growing_into, push_into}
use Rattle.asm_operands.specs.NamedTrees.{NamedTree, named_tree}
use Rattle.asm_items.specs.Alignments.{is_code, place_align}
use Rattle.asm_items.specs.Orgs.{known_origin, origin_by, place_org}
use Rattle.asm_items.specs.Leb128Numbers.{put_number_by, put_numbers, put_leb128, some_expressions, place_leb128}
use Rattle.asm_declarations.specs.Commons.{bss, with_space, with_common, is_said_local, place_space, place_comm, place_lcomm, SpaceWords, with_own, space_words}
use Rattle.asm_declarations.specs.Idents.{items_in, comment_bytes, comment_header, place_ident, place_file, one_string, file_name}
use Rattle.asm_declarations.specs.SectionChanges.{bare, option_trees, entry_size_in, header_by, entered_as, entered_for, with_signature, enter_words, place_section, place_pushed, back_to, popped}
use Rattle.asm_declarations.specs.SymbolWords.{place_said, place_type}
use Rattle.asm_place.specs.Coding.{InsnShape, shape_in, forms_of, values_in, of_operands, of_code, fields_of, put_rest, put_code, keeps_place, put_coded, put_by_jump, put_insn, put_named, insn_of_trees, from_own_place, place_insn, place_read, lone_code, insn_by, place_coded, place_instruction}
use Rattle.asm_place.specs.CodePlaces.{ValueForms, FieldInCode}
use Rattle.asm_place.specs.Remarks.{place_err, place_error, place_warning}
use Rattle.asm_place.specs.SyntaxWords.{with_syntax, says_names, place_syntax}
use Rattle.form_laws.proofs.Steps.{Fine, made, refused, weaker, step, after, either}
use Rattle.form_laws.proofs.Maps.{same, both}
use Rattle.form_laws.proofs.Tables.{Tables, Closes, onto, name_keeps, tree_keeps, trees_keep, change_named_keeps, say_all_keep, sized_keeps, allowed_keeps, define_space_keeps, file_named_keeps, end_keeps, end_closes}
use Rattle.form_laws.proofs.Maps.{kind_keeps}

-- no symbol goes, and no form comes
abbrev pub Stays : Placed → Placed → Type 0
Stays before after = Tables before.table after.table

-- steps that keep it so
abbrev pub Walks : {E : Type 0} → Placed → Result Placed E → Type 0
Walks before = Fine (Stays before)

-- nothing is named
pub still : (placed : Placed) → Stays placed placed
still placed = same placed.table.symbols

-- a step behind another
pub stays_on : {E : Type 0} (before between : Placed) {r : Result Placed E} → Stays before between → Walks between r → Walks before r
stays_on before between first later = weaker later (λ after last. both before.table.symbols between.table.symbols after.table.symbols first last)

-- steps one after the other
pub walked : {E : Type 0} (before : Placed) {r : Result Placed E} {f : Placed → Result Placed E} → Walks before r → ((x : Placed) → Walks x (f x)) → Walks before (r >>= f)
walked before {f = f} first later = step first (λ x stays. stays_on before x stays (later x))

-- the names of expressions become symbols
pub names_stay : (pos : Pos) (trees : List Tree) (placed : Placed) → Stays placed (with_names pos trees placed)
names_stay pos trees placed = trees_keep pos trees placed.table

-- so does the signature of a group
signature_stays : (pos : Pos) (signature : Option (List ℕ)) (placed : Placed) → Stays placed (with_signature pos signature placed)
signature_stays pos None placed = still placed
signature_stays pos (Some text) placed = name_keeps pos (naming.Plain text) placed.table

-- the table that a step makes on what is placed
table_walk : (placed : Placed) (r : Result Table PlaceCause) → Fine (Tables placed.table) r → Walks placed (r >>= λ table. Ok (with_table placed table))
table_walk placed r fine = step fine (λ table kept. made (with_table placed table) kept)

-- the same behind what was put
closed_walk : (placed put : Placed) (r : Result Table PlaceCause) → Stays placed put → Fine (Tables put.table) r → Walks placed (r >>= λ table. Ok (with_table put table))
closed_walk placed put r stays fine = stays_on placed put stays (table_walk put r fine)

-- WHAT IS PUT

-- the table stays
abbrev pub Leaves : Placed → Placed → Type 0
Leaves before after = after.table ≡ before.table

left_stays : {E : Type 0} (placed : Placed) {r : Result Placed E} → Fine (Leaves placed) r → Walks placed r
left_stays placed leaves = weaker leaves (λ after is. subst (Tables placed.table) (sym is) (still placed))

-- steps one after the other
left_on : {E : Type 0} (before : Placed) {r : Result Placed E} {f : Placed → Result Placed E} → Fine (Leaves before) r → ((x : Placed) → Fine (Leaves x) (f x)) → Fine (Leaves before) (r >>= f)
left_on before {f = f} first later = step first (λ x is. weaker (later x) (λ after last. last ∙ is))

put_leaves : (put : LooseSection → Result LooseSection FragCause) (number : ℕ) (placed : Placed) → Fine (Leaves placed) (put_section put number placed)
put_leaves put number placed = after (of_sections (put_into put placed.sections number)) (λ sections. made _ refl)

bytes_leave : (pos : Pos) (number : ℕ) (bytes : List ℕ) (placed : Placed) → Fine (Leaves placed) (put_bytes_into pos number bytes placed)
unfolding put_bytes_into
bytes_leave pos number bytes placed = put_leaves (bytes_put pos bytes) number placed

field_leaves : (pos : Pos) (number : ℕ) (size : FieldSize) (role : FieldRole) (form : Form) (placed : Placed) → Fine (Leaves placed) (put_field_into pos number size role form placed)
unfolding put_field_into
field_leaves pos number size role form placed = put_leaves (field_put pos number size role form) number placed

push_leaves : (pos : Pos) (number : ℕ) (item : Content) (placed : Placed) → Fine (Leaves placed) (push_into pos number item placed)
unfolding push_into
push_leaves pos number item placed = put_leaves (item_put (new_item pos item)) number placed

growing_leaves : (pos : Pos) (number : ℕ) (kind : Growth) (suffix : Option Suffix) (form : Form) (placed : Placed) → Fine (Leaves placed) (put_growing_into pos number kind suffix form placed)
unfolding put_growing_into
growing_leaves pos number kind suffix form placed = put_leaves (growing_put pos number kind suffix form) number placed

bytes_walk : (pos : Pos) (number : ℕ) (bytes : List ℕ) (placed : Placed) → Walks placed (put_bytes_into pos number bytes placed)
bytes_walk pos number bytes placed = left_stays placed (bytes_leave pos number bytes placed)

field_walk : (pos : Pos) (number : ℕ) (size : FieldSize) (role : FieldRole) (form : Form) (placed : Placed) → Walks placed (put_field_into pos number size role form placed)
field_walk pos number size role form placed = left_stays placed (field_leaves pos number size role form placed)

push_walk : (pos : Pos) (number : ℕ) (item : Content) (placed : Placed) → Walks placed (push_into pos number item placed)
push_walk pos number item placed = left_stays placed (push_leaves pos number item placed)

growing_walk : (pos : Pos) (number : ℕ) (kind : Growth) (suffix : Option Suffix) (form : Form) (placed : Placed) → Walks placed (put_growing_into pos number kind suffix form placed)
growing_walk pos number kind suffix form placed = left_stays placed (growing_leaves pos number kind suffix form placed)

-- DATA AND SPACE

form_walk : (pos : Pos) (size : FieldSize) (terms : List Term) (form : Form) (placed : Placed) → Walks placed (put_by terms pos size form placed)
form_walk pos size [] form placed = bytes_walk pos placed.current _ placed
form_walk pos size (term ∷ terms) form placed = field_walk pos placed.current size data_role form placed

forms_walk : (pos : Pos) (size : FieldSize) (forms : List Form) (placed : Placed) → Walks placed (put_forms pos size forms placed)
unfolding put_forms all_steps
forms_walk pos size [] placed = made placed (still placed)
forms_walk pos size (form ∷ forms) placed = walked placed (form_walk pos size form.terms form placed) (λ put. forms_walk pos size forms put)

values_walk : (pos : Pos) (size : FieldSize) (naming : Naming) (forms : List Form) (placed : Placed) → Walks placed (put_data pos size naming forms placed)
unfolding put_data
values_walk pos size naming forms placed =
    walked placed (forms_walk pos size forms placed)
    (λ put. step (end_keeps pos naming (here placed) (list_any (uses_place (known_here placed).place) forms) put.table) (λ table kept. made _ kept))

pub data_walk : (pos : Pos) (size : FieldSize) (tokens : List SpelledToken) (placed : Placed) → Walks placed (place_data pos size tokens placed)
unfolding place_data
data_walk pos size tokens placed =
    after (each expression_of (operands_of tokens))
    (λ trees. after (each (form_in (known_here (with_names pos trees placed))) trees)
    (λ forms. stays_on placed (with_names pos trees placed) (names_stay pos trees placed) (values_walk pos size (naming_of trees placed.table) forms (with_names pos trees placed))))

pub strings_walk : (pos : Pos) (ended : Bool) (tokens : List SpelledToken) (placed : Placed) → Walks placed (place_strings pos ended tokens placed)
unfolding place_strings
strings_walk pos ended tokens placed = after (joined_strings ended (operands_of tokens)) (λ bytes. bytes_walk pos placed.current bytes placed)

item_walk : (pos : Pos) (naming : Naming) (item : Content) (placed : Placed) → Walks placed (with_named pos naming item placed)
item_walk pos naming item placed =
    walked placed (push_walk pos placed.current item placed) (λ pushed. table_walk pushed (allowed naming pushed.table) (allowed_keeps naming pushed.table))

put_space_walk : (few : Bool) (pos : Pos) (count value : ℕ) (placed : Placed) → Walks placed (put_space_by few pos count value placed)
put_space_walk true pos count value placed = bytes_walk pos placed.current _ placed
put_space_walk false pos count value placed = after (space_of count value) (λ item. push_walk pos placed.current item placed)

filled_walk : (pos : Pos) (given : KnownOperands) (count value : ℕ) → Walks given.placed (with_filled pos given count value)
filled_walk pos given count value =
    walked given.placed (put_space_walk (nat_le count 16) pos count value given.placed)
    (λ filled. table_walk filled (allowed given.naming filled.table) (allowed_keeps given.naming filled.table))

known_walk : (pos : Pos) (placed : Placed) (most : ℕ) (operands : List (List SpelledToken)) → Fine (λ (given : KnownOperands). Stays placed given.placed) (known_operands pos placed most operands)
unfolding known_operands
known_walk pos placed most operands =
    after (up_to_three_trees most operands)
    (λ trees. after (up_to_three_forms (known_here (with_names pos (up_to_three_listed trees) placed)) trees)
    (λ forms. after (up_to_three_constants forms) (λ values. made _ (names_stay pos (up_to_three_listed trees) placed))))

pub zero_walk : (pos : Pos) (tokens : List SpelledToken) (placed : Placed) → Walks placed (place_zero pos tokens placed)
unfolding place_zero
zero_walk pos tokens placed =
    step (known_walk pos placed 1 (operands_of tokens)) (λ given stays. stays_on placed given.placed stays (filled_walk pos given given.values.first 0))

pub skip_walk : (pos : Pos) (tokens : List SpelledToken) (placed : Placed) → Walks placed (place_skip pos tokens placed)
unfolding place_skip
skip_walk pos tokens placed =
    step (known_walk pos placed 2 (operands_of tokens))
    (λ given stays. stays_on placed given.placed stays (filled_walk pos given given.values.first (unwrap_or given.values.second 0)))

pub fill_walk : (pos : Pos) (tokens : List SpelledToken) (placed : Placed) → Walks placed (place_fill pos tokens placed)
unfolding place_fill
fill_walk pos tokens placed =
    step (known_walk pos placed 3 (operands_of tokens))
    (λ given stays. stays_on placed given.placed stays
    (after (unit_size given.values.second) (λ size. after (units_of given.values.first size (unwrap_or given.values.third 0))
    (λ item. item_walk pos given.naming item given.placed))))

pub align_walk : (pos : Pos) (by : AlignedBy) (tokens : List SpelledToken) (placed : Placed) → Walks placed (place_align pos by tokens placed)
unfolding place_align
align_walk pos by tokens placed =
    step (known_walk pos placed 3 (operands_of tokens))
    (λ given stays. stays_on placed given.placed stays
    (after (align_of by (is_code given.placed.sections given.placed.current) given.values) (λ item. item_walk pos given.naming item given.placed)))

pub org_walk : (pos : Pos) (tokens : List SpelledToken) (placed : Placed) → Walks placed (place_org pos tokens placed)
unfolding place_org
org_walk pos tokens placed =
    after (up_to_three_trees 2 (operands_of tokens))
    (λ trees. let named = with_names pos (up_to_three_listed trees) placed in
    stays_on placed named (names_stay pos (up_to_three_listed trees) placed)
    (after (up_to_three_forms (known_here named) trees)
    (λ forms. after (known_origin (origin_by named forms.first.terms))
    (λ origin. after (if_some constant_in forms.second)
    (λ fill. after (org_of origin.from origin.offset forms.first.constant (unwrap_or fill 0))
    (λ item. item_walk pos (naming_of (up_to_three_listed trees) placed.table) item named))))))

number_walk : (pos : Pos) (signed : Bool) (terms : List Term) (form : Form) (placed : Placed) → Walks placed (put_number_by terms pos signed form placed)
number_walk pos signed [] form placed = bytes_walk pos placed.current (least_leb128 signed form.constant) placed
number_walk pos signed (term ∷ terms) form placed = growing_walk pos placed.current (Leb128 signed) None form placed

numbers_walk : (pos : Pos) (signed : Bool) (forms : List Form) (placed : Placed) → Walks placed (put_numbers pos signed forms placed)
unfolding put_numbers all_steps
numbers_walk pos signed [] placed = made placed (still placed)
numbers_walk pos signed (form ∷ forms) placed = walked placed (number_walk pos signed form.terms form placed) (λ put. numbers_walk pos signed forms put)

put_leb128_walk : (pos : Pos) (signed : Bool) (naming : Naming) (forms : List Form) (placed : Placed) → Walks placed (put_leb128 pos signed naming forms placed)
unfolding put_leb128
put_leb128_walk pos signed naming forms placed =
    walked placed (numbers_walk pos signed forms placed)
    (λ put. table_walk put (end_naming pos naming (here placed) (list_any (uses_place (known_here placed).place) forms) put.table)
    (end_keeps pos naming (here placed) (list_any (uses_place (known_here placed).place) forms) put.table))

pub leb128_walk : (pos : Pos) (signed : Bool) (tokens : List SpelledToken) (placed : Placed) → Walks placed (place_leb128 pos signed tokens placed)
unfolding place_leb128
leb128_walk pos signed tokens placed =
    after (some_expressions (operands_of tokens))
    (λ trees. after (each (form_in (known_here (with_names pos trees placed))) trees)
    (λ forms. stays_on placed (with_names pos trees placed) (names_stay pos trees placed)
    (put_leb128_walk pos signed (naming_of trees placed.table) forms (with_names pos trees placed))))

-- SYMBOLS

pub dot_walk : (dot : Bool) (before placed : Placed) → Stays before placed → Walks before (unless_dot dot placed)
dot_walk true before placed stays = refused _
dot_walk false before placed stays = made placed stays

pub said_walk : (pos : Pos) (attribute : SymbolAttribute) (tokens : List SpelledToken) (placed : Placed) → Walks placed (place_said pos attribute tokens placed)
unfolding place_said
said_walk pos attribute [] placed = refused _
said_walk pos attribute (token ∷ rest) placed =
    after (each plain_of (operands_of (token ∷ rest)))
    (λ names. step (say_all_keep pos attribute names placed.table) (λ table kept. dot_walk (list_any is_dot (token ∷ rest)) placed (with_table placed table) kept))

pub type_walk : (pos : Pos) (tokens : List SpelledToken) (placed : Placed) → Walks placed (place_type pos tokens placed)
unfolding place_type
type_walk pos tokens placed =
    after (named_kind (operands_of tokens))
    (λ words. step (change_named_keeps pos (kind_said words.kind) words.name placed.table (kind_keeps words.kind))
    (λ table kept. dot_walk (begins_with_place tokens) placed (with_table placed table) kept))

pub words_stay : (pos : Pos) (words : NamedTree) (placed : Placed) → Stays placed (with_words pos words placed)
words_stay pos words placed =
    let one = with_name pos words.name placed.table in
    both placed.table.symbols one.symbols (with_tree pos words.tree one).symbols (name_keeps pos words.name placed.table) (tree_keeps pos words.tree one)

size_words_walk : (pos : Pos) (words : NamedTree) (placed : Placed) → Walks placed (size_words pos words placed)
unfolding size_words
size_words_walk pos words placed =
    let named = with_words pos words placed in
    stays_on placed named (words_stay pos words placed)
    (after (form_in (known_here named) words.tree)
    (λ form. let new = sized pos form (named.table, words_symbol words placed) in
    table_walk named (end_words pos (words_naming words placed) form named new)
    (onto named.table new (end_words pos (words_naming words placed) form named new) (sized_keeps pos form (named.table, words_symbol words placed))
    (end_keeps pos (words_naming words placed) (here named) (uses_place (known_here named).place form) new))))

pub size_walk : (pos : Pos) (tokens : List SpelledToken) (placed : Placed) → Walks placed (place_size pos tokens placed)
unfolding place_size
size_walk pos tokens placed =
    after (named_tree (operands_of tokens))
    (λ words. walked placed (size_words_walk pos words placed) (λ sized. dot_walk (begins_with_place tokens) sized sized (still sized)))

with_space_walk : (pos : Pos) (naming : Naming) (symbol size log : ℕ) (placed : Placed) → Walks placed (with_space pos naming symbol size log placed)
unfolding with_space
with_space_walk pos naming symbol size log placed =
    after (space_of size 0)
    (λ space. walked placed (push_walk pos bss (Align (zeros_up_to log)) placed)
    (λ aligned. walked aligned (push_walk pos bss space aligned)
    (λ pushed. table_walk pushed (define_space naming symbol size (Space (spot_at aligned.sections bss)) pushed.table)
    (define_space_keeps naming symbol size (Space (spot_at aligned.sections bss)) pushed.table))))

with_common_walk : (naming : Naming) (symbol size log : ℕ) (placed : Placed) → Walks placed (with_common naming symbol size log placed)
unfolding with_common
with_common_walk naming symbol size log placed =
    table_walk placed (define_space naming symbol size (Common size (2 ^ log)) placed.table) (define_space_keeps naming symbol size (Common size (2 ^ log)) placed.table)

space_walk : (is_local : Bool) (pos : Pos) (naming : Naming) (symbol size log : ℕ) (placed : Placed) → Walks placed (place_space is_local pos naming symbol size log placed)
space_walk true pos naming symbol size log placed = with_space_walk pos naming symbol size log placed
space_walk false pos naming symbol size log placed = with_common_walk naming symbol size log placed

space_words_walk : (pos : Pos) (placed : Placed) (most : ℕ) (tokens : List SpelledToken) → Fine (λ (words : SpaceWords). Stays placed words.given.placed) (space_words pos placed most tokens)
unfolding space_words
space_words_walk pos placed most tokens =
    after (needed name_of (operands_of tokens))
    (λ name. let owned = with_own pos (naming.Plain name.0) placed in
    step (known_walk pos owned most name.1)
    (λ given stays. made _ (both placed.table.symbols owned.table.symbols given.placed.table.symbols (name_keeps pos (naming.Plain name.0) placed.table) stays)))

dotted_walk : (dot : Bool) (placed : Placed) (r : Result Placed PlaceCause) → Walks placed r → Walks placed (r >>= unless_dot dot)
dotted_walk dot placed r walk = walked placed walk (λ done. dot_walk dot done done (still done))

pub comm_walk : (pos : Pos) (tokens : List SpelledToken) (placed : Placed) → Walks placed (place_comm pos tokens placed)
unfolding place_comm
comm_walk pos tokens placed =
    step (space_words_walk pos placed 2 tokens)
    (λ words stays. after (space_size words.given.values.first)
    (λ size. after (log_of words.given.values.second size)
    (λ log. dotted_walk (begins_with_place tokens) placed _
    (stays_on placed words.given.placed stays
    (space_walk (is_said_local words.given.placed.table.symbols words.symbol) pos words.given.naming words.symbol size log words.given.placed)))))

pub lcomm_walk : (pos : Pos) (tokens : List SpelledToken) (placed : Placed) → Walks placed (place_lcomm pos tokens placed)
unfolding place_lcomm
lcomm_walk pos tokens placed =
    step (space_words_walk pos placed 1 tokens)
    (λ words stays. after (space_size words.given.values.first)
    (λ size. after (log_of None size)
    (λ log. dotted_walk (begins_with_place tokens) placed _
    (stays_on placed words.given.placed stays (space_walk true pos words.given.naming words.symbol size log words.given.placed)))))

-- TEXTS, REMARKS AND THE SYNTAX

pub ident_walk : (pos : Pos) (tokens : List SpelledToken) (placed : Placed) → Walks placed (place_ident pos tokens placed)
unfolding place_ident
ident_walk pos tokens placed =
    after (one_string tokens) (λ text. after (entered_as placed.sections (codes ".comment") comment_header)
    (λ pair. bytes_walk pos pair.1 (comment_bytes (items_in pair.0 pair.1) text) (record placed { sections = pair.0 })))

pub file_walk : (tokens : List SpelledToken) (placed : Placed) → Walks placed (place_file tokens placed)
unfolding place_file
file_walk tokens placed =
    after (one_string tokens) (λ text. after (file_name text)
    (λ name. table_walk placed (file_named (naming.Plain name) placed.table) (file_named_keeps (naming.Plain name) placed.table)))

err_walk : (tokens : List SpelledToken) (placed : Placed) → Walks placed (place_err tokens)
err_walk [] placed = refused _
err_walk (token ∷ rest) placed = refused _

pub error_walk : (said : Bool) (tokens : List SpelledToken) (placed : Placed) → Walks placed (place_error said tokens)
unfolding place_error
error_walk false tokens placed = err_walk tokens placed
error_walk true tokens placed = after (one_string tokens) (λ text. refused _)

pub warning_walk : (pos : Pos) (tokens : List SpelledToken) (placed : Placed) → Walks placed (place_warning pos tokens placed)
unfolding place_warning
warning_walk pos tokens placed = after (one_string tokens) (λ text. made (with_notes (record { note = Written text; pos = pos } ∷ []) placed) (still placed))

pub syntax_walk : (syntax : Syntax) (tokens : List SpelledToken) (placed : Placed) → Walks placed (place_syntax syntax tokens placed)
unfolding place_syntax
syntax_walk Att [] placed = made (with_syntax Att placed) (still placed)
syntax_walk Intel [] placed = refused _
syntax_walk Att (word ∷ []) placed = either (says_names Att word) (made (with_syntax Att placed) (still placed)) (refused _)
syntax_walk Intel (word ∷ []) placed = either (says_names Intel word) (made (with_syntax Intel placed) (still placed)) (refused _)
syntax_walk Att (word ∷ more ∷ rest) placed = refused _
syntax_walk Intel (word ∷ more ∷ rest) placed = refused _

pub bare_walk : (tokens : List SpelledToken) (placed : Placed) (answer : Result Placed PlaceCause) → Walks placed answer → Walks placed (bare tokens answer)
bare_walk [] placed answer steps = steps
bare_walk (token ∷ rest) placed answer steps = refused _

-- SECTIONS

enter_walk : (pos : Pos) (words : SectionWords) (placed : Placed) → Walks placed (enter_words pos words placed)
unfolding enter_words
enter_walk pos words placed =
    let trees = option_trees words.entry_size in
    let named = with_names pos trees placed in
    let all = with_signature pos words.signature named in
    stays_on placed named (names_stay pos trees placed)
    (stays_on named all (signature_stays pos words.signature named)
    (after (entry_size_in (known_here all) words.entry_size)
    (λ size. after (header_by placed.sections words size)
    (λ header. after (said_group words)
    (λ group. after (entered_for group placed.sections words.name header)
    (λ pair. step (allowed_keeps (naming_of trees placed.table) all.table) (λ table kept. made _ kept)))))))

pub section_walk : (pos : Pos) (tokens : List SpelledToken) (placed : Placed) → Walks placed (place_section pos tokens placed)
unfolding place_section
section_walk pos tokens placed = after (section_words (operands_of tokens)) (λ words. enter_walk pos words placed)

pub pushed_walk : (pos : Pos) (tokens : List SpelledToken) (placed : Placed) → Walks placed (place_pushed pos tokens placed)
unfolding place_pushed
pushed_walk pos tokens placed = step (section_walk pos tokens placed) (λ entered stays. made _ stays)

back_walk : (entered : Option Entered) (placed : Placed) → Walks placed (back_to entered placed)
back_walk None placed = refused _
back_walk (Some entered) placed = made _ (still placed)

pub popped_walk : (placed : Placed) → Walks placed (popped placed)
unfolding popped
popped_walk placed = back_walk (slice_get placed.stack (length placed.stack - 1)) placed

-- INSTRUCTIONS

rest_leaves : (pos : Pos) (bytes : List ℕ) (placed : Placed) → Fine (Leaves placed) (put_rest pos bytes placed)
rest_leaves pos [] placed = made placed refl
rest_leaves pos (byte ∷ bytes) placed = bytes_leave pos placed.current (byte ∷ bytes) placed

put_code_leaves : (pos : Pos) (bytes : List ℕ) (from : ℕ) (fields : List FieldInCode) (placed : Placed) → Fine (Leaves placed) (put_code pos bytes from fields placed)
unfolding put_code
put_code_leaves pos bytes from [] placed = rest_leaves pos (drop from bytes) placed
put_code_leaves pos bytes from (field ∷ fields) placed =
    left_on placed (left_on placed (rest_leaves pos (slice_range bytes from field.at) placed) (λ put. field_leaves pos put.current field.size field.role field.form put))
    (λ held. put_code_leaves pos bytes (field.at + width field.size) fields held)

put_coded_leaves : (pos : Pos) (shape : InsnShape) (forms : ValueForms) (placed : Placed) → Fine (Leaves placed) (put_coded pos shape forms placed)
unfolding put_coded
put_coded_leaves pos shape forms placed =
    after (of_code (encoding_of shape.view (values_in forms))) (λ coding. put_code_leaves pos coding.bytes 0 (fields_of shape forms coding) placed)

by_jump_leaves : (jump : Option (Option Condition)) (pos : Pos) (shape : InsnShape) (forms : ValueForms) (placed : Placed) → Fine (Leaves placed) (put_by_jump jump pos shape forms placed)
by_jump_leaves None pos shape forms placed = put_coded_leaves pos shape forms placed
by_jump_leaves (Some condition) pos shape forms placed = growing_leaves pos placed.current (Jump condition) shape.displacement (from_own_place forms.displacement) placed

put_insn_leaves : (pos : Pos) (shape : InsnShape) (forms : ValueForms) (placed : Placed) → Fine (Leaves placed) (put_insn pos shape forms placed)
unfolding put_insn
put_insn_leaves pos shape forms placed = by_jump_leaves shape.jump pos shape forms placed

-- an instruction is put, and the place is a symbol in the end, if one of its forms keeps it
pub named_closes : (pos : Pos) (shape : InsnShape) (naming : Naming) (forms : ValueForms) (named : Placed)
    → Fine (λ (next : Placed). Closes (here named) (keeps_place (known_here named).place forms) named.table next.table) (put_named pos shape naming forms named)
named_closes pos shape naming forms named =
    step (put_insn_leaves pos shape forms named)
    (λ put is. step (end_closes pos naming (here named) (keeps_place (known_here named).place forms) put.table)
    (λ table closes. made (with_table put table) (subst (λ (t : Table). Closes (here named) (keeps_place (known_here named).place forms) t table) is closes)))

trees_walk : (pos : Pos) (shape : InsnShape) (naming : Naming) (own moved : Tree) (named : Placed) → Walks named (insn_of_trees pos shape naming own moved named)
trees_walk pos shape naming own moved named =
    after (forms_of (known_here named) own moved) (λ forms. weaker (named_closes pos shape naming forms named) (λ next closes. closes.kept))

insn_walk : (pos : Pos) (shape : InsnShape) (own moved : Tree) (placed : Placed) → Walks placed (place_insn pos shape own moved placed)
unfolding place_insn
insn_walk pos shape own moved placed =
    let trees = in_text_order placed.syntax own moved in
    stays_on placed (with_names pos trees placed) (names_stay pos trees placed) (trees_walk pos shape (naming_of trees placed.table) own moved (with_names pos trees placed))

read_walk : (pos : Pos) (read : Result InsnText OperandCause) (placed : Placed) → Walks placed (place_read pos read placed)
read_walk pos read placed = after (of_operands read) (λ text. insn_walk pos (shape_in text) text.immediate.tree text.displacement.tree placed)

coded_walk : (pos : Pos) (code : Option (List ℕ)) (tokens : List SpelledToken) (placed : Placed) → Walks placed (place_coded pos code tokens placed)
coded_walk pos None tokens placed = read_walk pos (insn_by placed.syntax tokens) placed
coded_walk pos (Some bytes) tokens placed = bytes_walk pos placed.current bytes placed

pub instruction_walk : (pos : Pos) (tokens : List SpelledToken) (placed : Placed) → Walks placed (place_instruction pos tokens placed)
unfolding place_instruction
instruction_walk pos tokens placed = coded_walk pos (lone_code placed.syntax tokens) tokens placed
