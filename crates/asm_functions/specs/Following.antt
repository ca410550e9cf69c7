-- What statements do to the functions of a source: where these begin and end, and what their items are.
use Rattle.std.specs.Prelude.{◌==◌, ◌&&◌, ◌||◌, ℕ, Bool, true, false, not, List, [], ◌∷◌, length, Option, None, Some, slice_get, codes, Result, Ok, Err, if◌then◌else◌}
use Rattle.std.specs.Option.{option_map_or}
use Rattle.asm_base.specs.Tokens.{SpelledToken}
use Rattle.asm_base.specs.declared.places.Place.{Place}
use Rattle.asm_base.specs.declared.positions.Pos.{Pos}
use Rattle.asm_expr.specs.declared.naming.Name.TheVariants as naming
use Rattle.asm_symbols.specs.SymbolMap.{SymbolMap, names, index_of}
use Rattle.asm_symbols.specs.declared.entries.Kind.{Kind}
use Rattle.asm_symbols.specs.declared.entries.Kind.TheVariants.{Function}
use Rattle.asm_frags.specs.SectionOf.{section_number}
use Rattle.asm_frags.specs.Writing.{LooseSection}
use Rattle.asm_operands.specs.declared.place_faults.PlaceCause.{PlaceCause}
use Rattle.asm_operands.specs.Operands.{is_number, symbol_name, name_of, needed, operands_of}
use Rattle.asm_uses.specs.Places.{spot_at}
use Rattle.asm_words.specs.declared.directives.Directive.{Directive}
use Rattle.asm_words.specs.declared.directives.Directive.TheVariants as directive
use Rattle.asm_words.specs.declared.symbol_kinds.NamedKind.{NamedKind}
use Rattle.asm_words.specs.SymbolKinds.{named_kind}
use Rattle.asm_values.specs.State.{Placed}
use Rattle.asm_items.specs.Alignments.{is_code}
use Rattle.asm_declarations.specs.Commons.{bss}
use Rattle.asm_place.specs.Effects.{insn_view, fill_said}
use Rattle.x86_insn.specs.Views.{View}
use Rattle.insn_effects.specs.Flows.{flow_of}
use Rattle.insn_effects.specs.Followed.{flow_by}
use Rattle.insn_effects.specs.declared.effects.Effect.{Effect}
use Rattle.code_functions.specs.Recorded.{Recorded, begun, added, all_closed, closed_of, is_split}
use Rattle.code_functions.specs.Seen.{SeenItem, seen, data_item, padding_item, insn_item, target_field}

-- WHERE SECTIONS END

-- where the section of this number ends
abbrev pub end_of : List LooseSection → ℕ → Place
end_of sections number = (spot_at sections number).place.place

-- how many fields it has
abbrev pub fields_in : List LooseSection → ℕ → ℕ
fields_in sections number = option_map_or (λ section. length section.fields) (slice_get sections number) 0

-- both are one place
abbrev pub same_place : Place → Place → Bool
same_place one other = (one.item == other.item) && (one.offset == other.offset)

-- WHERE FUNCTIONS BEGIN

-- a symbol of this kind was said to be a function (GNU as manual, ".type")
abbrev pub is_function : Option Kind → Bool
is_function (Some Function) = true
is_function _ = false

-- the symbol at this index was said to be one
abbrev pub is_function_at : SymbolMap → ℕ → Bool
is_function_at map index = option_map_or (λ symbol. is_function symbol.kind) (slice_get map.symbols index) false

-- the symbol that was found, if it was said to be a function
abbrev pub function_at : SymbolMap → Option ℕ → Option ℕ
function_at map None = None
function_at map (Some index) = if is_function_at map index then Some index else None

-- the symbol that is found by the name which was read
abbrev pub symbol_found : SymbolMap → Result (List ℕ) PlaceCause → Option ℕ
symbol_found map (Err cause) = None
symbol_found map (Ok name) = index_of (naming.Plain name) (names map.symbols)

-- the symbol of a label, if it was said to be a function; a numeric label never is one
unfoldable pub function_label : SymbolMap → SpelledToken → Option ℕ
function_label map token = if is_number token then None else function_at map (symbol_found map (symbol_name token))

-- a function begins at a label that is one, where the section ends that statements put into
abbrev pub begun_by : Option ℕ → Pos → Placed → List (Recorded SeenItem) → List (Recorded SeenItem)
begun_by None pos before functions = functions
begun_by (Some symbol) pos before functions = begun symbol pos before.current (end_of before.sections before.current) functions

-- the functions that begin at the labels in front of a statement, each a token and its colon; what the statement itself says of a symbol comes behind its labels
unfoldable pub labels_begun : Pos → List SpelledToken → Placed → List (Recorded SeenItem) → List (Recorded SeenItem)
labels_begun pos [] before functions = functions
labels_begun pos (name ∷ []) before functions = functions
labels_begun pos (name ∷ colon ∷ rest) before functions =
    labels_begun pos rest before (begun_by (function_label before.table.symbols name) pos before functions)

-- DATA AND PADDING

-- data begin where the section of this number ended, if the statement has operands or the section ends elsewhere behind it
abbrev pub data_since : (operands : Bool) → Pos → ℕ → (start stop : Place) → List (Recorded SeenItem) → List (Recorded SeenItem)
data_since operands pos number start stop functions =
    if operands || not (same_place start stop) then added number (data_item pos start) functions else functions

-- data are put into a section
abbrev pub with_data : (operands : Bool) → Pos → ℕ → (there after : Placed) → List (Recorded SeenItem) → List (Recorded SeenItem)
with_data operands pos number there after functions =
    data_since operands pos number (end_of there.sections number) (end_of after.sections number) functions

-- the same of a section that may not have been there: no function is in one that was not
abbrev pub with_moved : Pos → Option ℕ → (there after : Placed) → List (Recorded SeenItem) → List (Recorded SeenItem)
with_moved pos None there after functions = functions
with_moved pos (Some number) there after functions = with_data false pos number there after functions

-- a statement has operands
abbrev pub has_operands : List SpelledToken → Bool
has_operands [] = false
has_operands (token ∷ rest) = true

-- the byte of the instruction `nop`
abbrev pub no_operation : ℕ
no_operation = 144

-- an alignment with this fill pads code with instructions that do nothing: no fill is said, or that of `nop` as a whole value
abbrev pub fills_with_code : Option ℕ → Bool
fills_with_code None = true
fills_with_code (Some fill) = fill == no_operation

-- padding or data
abbrev pub plain_item : (padding : Bool) → Pos → Place → SeenItem
plain_item padding pos place = if padding then padding_item pos place else data_item pos place

-- an alignment is padding in a section of code, if it is filled so, and data else
abbrev pub align_item : (code : Bool) → Option ℕ → Pos → Place → SeenItem
align_item code fill pos place = plain_item (code && fills_with_code fill) pos place

-- an alignment is put where the section ended
abbrev pub with_align : Option ℕ → Pos → Placed → List (Recorded SeenItem) → List (Recorded SeenItem)
with_align fill pos there functions =
    added there.current (align_item (is_code there.sections there.current) fill pos (end_of there.sections there.current)) functions

-- WHERE FUNCTIONS END

-- all functions end that are open, each where its section does
abbrev pub ended : Placed → List (Recorded SeenItem) → List (Recorded SeenItem)
ended after functions = all_closed (end_of after.sections) functions

-- they do where a symbol is said to be a function
abbrev pub with_kind : Result NamedKind PlaceCause → Placed → List (Recorded SeenItem) → List (Recorded SeenItem)
with_kind (Err cause) after functions = functions
with_kind (Ok words) after functions = if is_function (Some words.kind) then ended after functions else functions

-- the function of the symbol that was found ends where its section does, if it is open
abbrev pub ended_of : Option ℕ → Placed → List (Recorded SeenItem) → List (Recorded SeenItem)
ended_of None after functions = functions
ended_of (Some symbol) after functions = closed_of symbol (end_of after.sections) functions

-- it does where the size of a symbol is said (GNU as manual, ".size")
abbrev pub with_size : Result (List ℕ × List (List SpelledToken)) PlaceCause → Placed → List (Recorded SeenItem) → List (Recorded SeenItem)
with_size (Err cause) after functions = functions
with_size (Ok name) after functions = ended_of (index_of (naming.Plain name.0) (names after.table.symbols.symbols)) after functions

-- DIRECTIVES

-- what a directive of these operands does, placed between these two. What it puts into a section is one item there, which begins where that section ended. One of a frame
-- table is ignored before it comes here
unfoldable pub follow_directive : Directive → Pos → List SpelledToken → (there after : Placed) → List (Recorded SeenItem) → List (Recorded SeenItem)
follow_directive (directive.Data size) pos tokens there after functions = with_data (has_operands tokens) pos there.current there after functions
follow_directive (directive.Strings terminated) pos tokens there after functions = with_data (has_operands tokens) pos there.current there after functions
follow_directive (directive.Leb128 signed) pos tokens there after functions = with_data (has_operands tokens) pos there.current there after functions
follow_directive directive.Zero pos tokens there after functions = with_data (has_operands tokens) pos there.current there after functions
follow_directive directive.Skip pos tokens there after functions = with_data (has_operands tokens) pos there.current there after functions
follow_directive directive.Fill pos tokens there after functions = with_data (has_operands tokens) pos there.current there after functions
follow_directive directive.Org pos tokens there after functions = with_data (has_operands tokens) pos there.current there after functions
follow_directive (directive.Align by) pos tokens there after functions = with_align (fill_said pos tokens there) pos there functions
follow_directive (directive.Enter initial) pos tokens there after functions = functions
follow_directive directive.Section pos tokens there after functions = functions
follow_directive directive.PushSection pos tokens there after functions = functions
follow_directive directive.PopSection pos tokens there after functions = functions
follow_directive directive.Previous pos tokens there after functions = functions
follow_directive (directive.Say attribute) pos tokens there after functions = functions
follow_directive directive.Type pos tokens there after functions = with_kind (named_kind (operands_of tokens)) after functions
follow_directive directive.Size pos tokens there after functions = with_size (needed name_of (operands_of tokens)) after functions
follow_directive (directive.Assign once) pos tokens there after functions = functions
follow_directive directive.Comm pos tokens there after functions = with_data false pos bss there after functions
follow_directive directive.Lcomm pos tokens there after functions = with_data false pos bss there after functions
follow_directive directive.Ident pos tokens there after functions = with_moved pos (section_number (codes ".comment") there.sections) there after functions
follow_directive directive.File pos tokens there after functions = functions
follow_directive directive.Loc pos tokens there after functions = functions
follow_directive (directive.Error said) pos tokens there after functions = functions
follow_directive directive.Warning pos tokens there after functions = functions
follow_directive (directive.Syntax syntax) pos tokens there after functions = functions
follow_directive directive.Code64 pos tokens there after functions = functions
follow_directive (directive.Frame frame) pos tokens there after functions = functions

-- INSTRUCTIONS

-- what is seen of an instruction whose section ended here, and had and has so many fields. What can't be read would be no instruction: such a statement is not placed
abbrev pub item_seen : Option View → Pos → Place → (before after : ℕ) → SeenItem
item_seen None pos place before after = data_item pos place
item_seen (Some view) pos place before after = insn_item pos place view (target_field (flow_of view) before after)

-- what is seen of the item that is kept of an instruction with this effect: for a clause, since the definition knows no effect
abbrev pub effect_item : Effect → Pos → Place → (before after : ℕ) → SeenItem
effect_item effect pos place before after =
    seen (record { effect = effect; place = place; field = target_field (flow_by effect.role) before after; pos = pos })

-- an instruction, placed between these two
abbrev pub with_insn : Pos → List SpelledToken → (there after : Placed) → List (Recorded SeenItem) → List (Recorded SeenItem)
with_insn pos tokens there after functions =
    added there.current (item_seen (insn_view pos tokens there) pos (end_of there.sections there.current)
    (fields_in there.sections there.current) (fields_in after.sections there.current)) functions

-- the same, unless it stands in another section than that of an open function
abbrev pub follow_insn : Pos → List SpelledToken → (there after : Placed) → List (Recorded SeenItem) → Option (List (Recorded SeenItem))
follow_insn pos tokens there after functions = if is_split there.current functions then None else Some (with_insn pos tokens there after functions)
