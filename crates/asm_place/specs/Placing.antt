-- What each statement adds to the sections, the symbols and the notes, or its fault.
use Rattle.std.specs.Prelude.{ℕ, ◌&&◌, ◌||◌, Bool, true, false, not, List, [], ◌∷◌, drop, Option, None, Some, Result, Ok, Err, if◌then◌else◌}
use Rattle.std.specs.Result.{is_err}
use Rattle.asm_operands.specs.declared.place_faults.PlaceCause.{PlaceCause}
use Rattle.asm_operands.specs.declared.place_faults.PlaceCause.TheVariants.{NumberTooWide, UnknownMnemonic, UnknownDirective}
use Rattle.asm_base.specs.declared.positions.Pos.{Pos}
use Rattle.asm_base.specs.declared.tokens.TokenKind.{TokenKind}
use Rattle.asm_base.specs.declared.tokens.TokenKind.TheVariants.{String}
use Rattle.asm_base.specs.Tokens.{SpelledToken}
use Rattle.expr_texts.specs.Numbers.{numeral}
use Rattle.asm_symbols.specs.declared.entries.Definition.TheVariants.{Label}
use Rattle.asm_symbols.specs.Defining.{defined}
use Rattle.asm_words.specs.declared.directives.Directive.{Directive}
use Rattle.asm_words.specs.declared.directives.Directive.TheVariants as directive
use Rattle.asm_words.specs.declared.directives.InitialSection.{InitialSection}
use Rattle.asm_words.specs.declared.directives.InitialSection.TheVariants.{Text, Data, Bss}
use Rattle.asm_base.specs.Refusals.{◌>>=◌}
use Rattle.asm_uses.specs.Tables.{changed_by}
use Rattle.asm_values.specs.State.{Placed, with_table, unless_dot, here}
use Rattle.asm_operands.specs.Operands.{is_name, is_dot, names_symbol, is_assignment, begins_with_dot, is_number, is_label}
use Rattle.asm_declarations.specs.SectionChanges.{with_current, place_section, place_pushed, popped, bare}
use Rattle.asm_declarations.specs.SymbolWords.{place_said, place_type}
use Rattle.asm_values.specs.Sizes.{place_size}
use Rattle.asm_values.specs.Assignments.{place_set, place_assignment}
use Rattle.asm_declarations.specs.Commons.{place_comm, place_lcomm}
use Rattle.asm_declarations.specs.Idents.{place_ident, place_file}
use Rattle.asm_place.specs.Remarks.{place_error, place_warning}
use Rattle.asm_place.specs.SyntaxWords.{place_syntax}
use Rattle.asm_place.specs.Coding.{place_instruction}
use Rattle.asm_frames.specs.Placing.{place_frame}
use Rattle.asm_line_tables.specs.Placing.{place_loc, place_numbered_file}
use Rattle.asm_words.specs.Directives.{directive_of}
use Rattle.asm_uses.specs.Labels.{label_symbol}
use Rattle.asm_items.specs.Alignments.{place_align}
use Rattle.asm_items.specs.Orgs.{place_org}
use Rattle.asm_items.specs.Leb128Numbers.{place_leb128}
use Rattle.asm_values.specs.Data.{place_data, place_strings, place_zero, place_skip, place_fill}

-- the numbers of the sections that are there from the beginning
abbrev pub initial_number : InitialSection → ℕ
initial_number Text = 0
initial_number Data = 1
initial_number Bss = 2

-- the class of strings
abbrev pub is_string_kind : TokenKind → Bool
is_string_kind String = true
is_string_kind _ = false

-- a string stands first, or nothing
abbrev pub names_source : List SpelledToken → Bool
names_source [] = true
names_source (token ∷ rest) = is_string_kind token.kind

-- `.file`: the name of the source, or with a number in front a file of the line table
unfoldable pub place_any_file : Pos → List SpelledToken → Placed → Result Placed PlaceCause
place_any_file pos tokens placed = if names_source tokens then place_file tokens placed else place_numbered_file pos tokens placed

-- a directive, by what it is
unfoldable pub place_by : Directive → Pos → List SpelledToken → Placed → Result Placed PlaceCause
place_by (directive.Data size) pos tokens placed = place_data pos size tokens placed
place_by (directive.Strings ended) pos tokens placed = place_strings pos ended tokens placed
place_by (directive.Leb128 signed) pos tokens placed = place_leb128 pos signed tokens placed
place_by directive.Zero pos tokens placed = place_zero pos tokens placed
place_by directive.Skip pos tokens placed = place_skip pos tokens placed
place_by directive.Fill pos tokens placed = place_fill pos tokens placed
place_by (directive.Align by) pos tokens placed = place_align pos by tokens placed
place_by directive.Org pos tokens placed = place_org pos tokens placed
place_by (directive.Enter initial) pos tokens placed = bare tokens (Ok (with_current (initial_number initial) placed))
place_by directive.Section pos tokens placed = place_section pos tokens placed
place_by directive.PushSection pos tokens placed = place_pushed pos tokens placed
place_by directive.PopSection pos tokens placed = bare tokens (popped placed)
place_by directive.Previous pos tokens placed = bare tokens (Ok (with_current placed.previous placed))
place_by (directive.Say attribute) pos tokens placed = place_said pos attribute tokens placed
place_by directive.Type pos tokens placed = place_type pos tokens placed
place_by directive.Size pos tokens placed = place_size pos tokens placed
place_by (directive.Assign once) pos tokens placed = place_set pos once tokens placed
place_by directive.Comm pos tokens placed = place_comm pos tokens placed
place_by directive.Lcomm pos tokens placed = place_lcomm pos tokens placed
place_by directive.Ident pos tokens placed = place_ident pos tokens placed
place_by directive.File pos tokens placed = place_any_file pos tokens placed
place_by directive.Loc pos tokens placed = place_loc pos tokens placed
place_by (directive.Error said) pos tokens placed = place_error said tokens
place_by directive.Warning pos tokens placed = place_warning pos tokens placed
place_by (directive.Syntax syntax) pos tokens placed = place_syntax syntax tokens placed
place_by directive.Code64 pos tokens placed = bare tokens (Ok placed)
place_by (directive.Frame frame) pos tokens placed = place_frame frame pos tokens placed

-- the directive that was found, or the fault that there is none of the name
abbrev pub place_found : Option Directive → Pos → List SpelledToken → Placed → Result Placed PlaceCause
place_found None pos tokens placed = Err UnknownDirective
place_found (Some found) pos tokens placed = place_by found pos tokens placed

-- a directive by its name
unfoldable pub place_directive : Pos → List ℕ → List SpelledToken → Placed → Result Placed PlaceCause
place_directive pos name tokens placed = place_found (directive_of name) pos tokens placed

-- what stands behind the labels: an assignment, a directive or an instruction
unfoldable pub place_body : Pos → SpelledToken → List SpelledToken → Placed → Result Placed PlaceCause
place_body pos first rest placed =
    if names_symbol first && is_assignment rest then place_assignment pos first (drop 1 rest) placed
    else (if not (is_name first) then Err UnknownMnemonic
    else (if begins_with_dot first.bytes then place_directive pos first.bytes rest placed
    else place_instruction pos (first ∷ rest) placed))

-- a label, by its token
unfoldable pub place_label : Pos → SpelledToken → Placed → Result Placed PlaceCause
place_label pos token placed =
    label_symbol pos token placed.table >>= changed_by (λ map index. defined map index (Label (here placed))) >>= λ table.
    unless_dot (is_dot token) (with_table placed table)

-- behind the labels, where anything is
unfoldable pub place_unlabelled : Pos → List SpelledToken → Placed → Result Placed PlaceCause
place_unlabelled pos [] placed = Ok placed
place_unlabelled pos (first ∷ rest) placed = place_body pos first rest placed

-- the labels one after the other, and what stands behind them
unfoldable pub place_labelled : Pos → List SpelledToken → Placed → Result Placed PlaceCause
place_labelled pos [] placed = Ok placed
place_labelled pos (first ∷ []) placed = place_body pos first [] placed
place_labelled pos (first ∷ second ∷ rest) placed =
    if is_label first second then place_label pos first placed >>= (λ labels. place_labelled pos rest labels)
    else place_body pos first (second ∷ rest) placed

-- a number that is above 2 ^ 64 - 1
abbrev pub is_too_wide : SpelledToken → Bool
is_too_wide token = is_number token && is_err (numeral 10 token.bytes)

-- the number of one of the labels in front is too wide
unfoldable pub has_wide_label : List SpelledToken → Bool
has_wide_label [] = false
has_wide_label (first ∷ []) = false
has_wide_label (first ∷ second ∷ rest) = is_label first second && (is_too_wide first || has_wide_label rest)

-- a statement: the numbers of all its labels are read before one is placed
unfoldable pub place_tokens : Pos → List SpelledToken → Placed → Result Placed PlaceCause
place_tokens pos tokens placed = if has_wide_label tokens then Err NumberTooWide else place_labelled pos tokens placed
