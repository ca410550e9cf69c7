-- Expansion: the list of statements and end marks is rewritten at its head, until a statement is handed out (GNU as manual, ".macro",
-- ".rept", ".irp", ".irpc", ".if", ".include").
use Rattle.std.specs.Prelude.{ℕ, ◌+◌, ◌^◌, nat_le, Bool, true, false, if◌then◌else◌, List, [], ◌∷◌, ◌++◌, Option, Some, None, unwrap_or, length, find, count_by, Result, Ok, Err}
use Rattle.std.specs.List.{list_any}
use Rattle.std.specs.Str.{bytes_eq}
use Rattle.asm_base.specs.Tokens.{SpelledToken}
use Rattle.asm_base.specs.declared.positions.Pos.{Pos}
use Rattle.asm_lines.specs.NextStatements.{TokenStatement}
use Rattle.macro_texts.specs.declared.causes.MacroLineCause.{MacroLineCause}
use Rattle.macro_texts.specs.Parameters.{ParameterAs, MacroLineAs, macro_line}
use Rattle.macro_texts.specs.Arguments.{call_arguments}
use Rattle.macro_texts.specs.Putting.{put}
use Rattle.macro_texts.specs.Repeats.{EachLineAs, irp_line, irpc_line}
use Rattle.macro_blocks.specs.declared.blocks.Block.TheVariants as block
use Rattle.macro_blocks.specs.declared.blocks.Ending.{Ending}
use Rattle.macro_blocks.specs.declared.blocks.Ending.TheVariants as ending
use Rattle.macro_words.specs.declared.causes.MacroCause.{MacroCause}
use Rattle.macro_words.specs.declared.causes.MacroCause.TheVariants.{BadMacroLine, UnclosedBlock, EndWithoutBeginning, NestedTooDeeply, ExpansionTooLong, MacroAlreadyDefined}
use Rattle.macro_words.specs.declared.words.Condition.{Condition}
use Rattle.macro_words.specs.declared.words.Word.{Word}
use Rattle.macro_words.specs.declared.words.Word.TheVariants as word
use Rattle.macro_words.specs.Statements.{pos_of, with_tokens, labels_of, behind_labels, named_by, word_in, operands_in, one_name, raised, body_text, made_statements}
use Rattle.macro_blocks.specs.Blocks.{Cut, cut_block, cut_branch}
use Rattle.macro_blocks.specs.Levels.{Level, with_statements, with_open, first_open, but_last, level_with, copies_of, each_copy}
use Rattle.macro_words.specs.Branches.{verdict}
use Rattle.macro_words.specs.Conditions.{Knowledge, repeat_count, holds}
use Rattle.asm_base.specs.Inputs.{Contents}
use Rattle.macro_words.specs.Files.{FileFault, file_name, file_statements}

-- a macro that is known: the text of its body
pub record MacroAs : Type 0 where
  pub name : List ℕ
  pub parameters : List ParameterAs
  pub body : List ℕ

-- the list, innermost part first; the macros that are known; how many calls began, and how many statements left the head; and the names
-- of the files that were started
pub record State : Type 0 where
  pub levels : List Level
  pub macros : List MacroAs
  pub begun : ℕ
  pub given : ℕ
  pub files : List (List ℕ)

-- what becomes of the head: it is handed out, or rewritten; or there is none, or it has a fault, or starts a file of this name that has
-- one; or it names a file that is not there, by this name, or one of which nothing is told
pub data Turn : Type 0 where
  hands : TokenStatement → State → Turn
  goes : State → Turn
  ended : Turn
  fails : MacroCause → Pos → Turn
  breaks : List ℕ → FileFault → Turn
  misses : List ℕ → Turn
  untold : Turn

-- the list with this part in front
abbrev pub under : Level → State → State
under level state = record state { levels = level ∷ state.levels }

-- a block that begins here is not closed
abbrev pub unclosed : Pos → Level → Turn
unclosed pos level = fails UnclosedBlock (first_open pos level.open_at)

-- what this gives goes on so, and its fault is one of this place
abbrev pub with_made : {A : Type 0} → Pos → Result A MacroCause → (A → Turn) → Turn
with_made pos (Ok made) on = on made
with_made pos (Err cause) on = fails cause pos

-- the same of what is read from a line of a macro
abbrev pub with_read : {A : Type 0} → Pos → Result A MacroLineCause → (A → Turn) → Turn
with_read pos (Ok read) on = on read
with_read pos (Err cause) on = fails (raised cause) pos

-- the end mark is that of a call or a repeat
abbrev pub is_inner : Ending → Bool
is_inner ending.File = false
is_inner _ = true

-- the part is one of a call or a repeat
abbrev pub is_inner_part : Level → Bool
is_inner_part level = is_inner level.ends

-- statements and an end mark in front of the list, in the call of this number, if in one, and if not too many calls and repeats are open
abbrev pub enter : Pos → Option ℕ → Ending → Result (List TokenStatement) MacroCause → State → Turn
enter pos number ends made state =
    if nat_le 64 (count_by is_inner_part state.levels) then fails NestedTooDeeply pos
    else with_made pos made (λ statements. goes (under (level_with number ends statements) state))

-- Conditionals

-- the conditional that began here goes on in a chosen branch, which is open from here on, or behind its end
abbrev pub go_on : Pos → Bool → Level → State → Turn
go_on pos true level state = goes (under (with_open (level.open_at ++ pos ∷ []) level) state)
go_on pos false level state = goes (under level state)

-- a conditional that began here goes on at the statement that ends what is passed over
abbrev pub search_branch : Knowledge → Pos → Option Cut → Level → State → Turn
search_branch known pos None level state = unclosed pos level
search_branch known pos (Some c) level state =
    with_made (pos_of c.stop) (verdict known c.stop) (λ chosen. go_on pos chosen (with_statements c.rest level) state)

-- a conditional that began here goes on at once where its condition holds, and else behind what is passed over
abbrev pub conditional_by : Knowledge → Pos → Bool → Level → State → Turn
conditional_by known pos true level state = go_on pos true level state
conditional_by known pos false level state =
    search_branch known pos (cut_branch known level.statements) level state

-- a conditional becomes the list from its chosen branch on
unfoldable pub conditional : Knowledge → Condition → Pos → List SpelledToken → Level → State → Turn
conditional known condition pos operands level state =
    with_made pos (holds known condition operands) (λ held. conditional_by known pos held level state)

-- the list goes on behind the end of the innermost conditional that is open
abbrev pub passed_over : Pos → Option Cut → Level → State → Turn
passed_over pos None level state = unclosed pos level
passed_over pos (Some c) level state = goes (under (with_open (but_last level.open_at) (with_statements c.rest level)) state)

-- the end of a chosen branch leaves the list with the rest of its conditional
abbrev pub branch_end_by : List Pos → Pos → Level → State → Turn
branch_end_by [] pos level state = fails EndWithoutBeginning pos
branch_end_by (first ∷ others) pos level state = passed_over pos (cut_block block.Conditional level.statements) level state

-- the end of a chosen branch, where one is open
unfoldable pub branch_end : Pos → Level → State → Turn
branch_end pos level state = branch_end_by level.open_at pos level state

-- the end of a conditional leaves the list, and the innermost one is open no more
abbrev pub conditional_end_by : List Pos → Pos → Level → State → Turn
conditional_end_by [] pos level state = fails EndWithoutBeginning pos
conditional_end_by (first ∷ others) pos level state = goes (under (with_open (but_last level.open_at) level) state)

-- the end of a conditional, where one is open
unfoldable pub conditional_end : Pos → Level → State → Turn
conditional_end pos level state = conditional_end_by level.open_at pos level state

-- Repeats

-- what becomes of the body of a block that begins here, or it is not closed
abbrev pub with_body : Pos → Option Cut → Level → State → (List TokenStatement → State → Turn) → Turn
with_body pos None level state on = unclosed pos level
with_body pos (Some c) level state on = on c.inside (under (with_statements c.rest level) state)

-- the copies of a body and an end mark, and nothing of an empty body
abbrev pub repeat_copies : Pos → Option ℕ → ℕ → List TokenStatement → State → Turn
repeat_copies pos number count [] state = goes state
repeat_copies pos number count (first ∷ others) state =
    enter pos number ending.Repeat (copies_of count (made_statements pos (body_text (first ∷ others)))) state

-- a repeat becomes its copies and an end mark; with an empty body it becomes nothing
unfoldable pub repeat : Knowledge → Pos → List SpelledToken → Level → State → Turn
repeat known pos operands level state =
    with_made pos (repeat_count known operands) (λ count. with_body pos (cut_block block.Repeat level.statements) level state
    (λ body now. repeat_copies pos level.call_number count body now))

-- the copies of a body for the values of a line and an end mark, and nothing of an empty body: in a call `\@` is the number of the call,
-- and elsewhere how many calls began
abbrev pub each_copies : Pos → Option ℕ → EachLineAs → List TokenStatement → State → Turn
each_copies pos number line [] state = goes state
each_copies pos number line (first ∷ others) state =
    enter pos number ending.Repeat
    (each_copy pos line.name (unwrap_or number state.begun) (body_text (first ∷ others)) line.values) state

-- the same with a name that stands for another text in each copy
unfoldable pub each : Pos → Result EachLineAs MacroLineCause → Level → State → Turn
each pos read level state =
    with_read pos read (λ line. with_body pos (cut_block block.Repeat level.statements) level state
    (λ body now. each_copies pos level.call_number line body now))

-- Macros

-- the macro has this name
abbrev pub is_called : List ℕ → MacroAs → Bool
is_called name one = bytes_eq name one.name

-- the macros but for the one of this name: no two have one name
abbrev pub without : List ℕ → List MacroAs → List MacroAs
without name [] = []
without name (one ∷ others) = if is_called name one then others else one ∷ without name others

-- the macro of this line and this body is known from here on
abbrev pub add_macro : MacroLineAs → List TokenStatement → State → State
add_macro line body state =
    record state { macros = state.macros ++ record { name = line.name; parameters = line.parameters; body = body_text body } ∷ [] }

-- a definition leaves the list, and the macro is known
unfoldable pub define : Pos → List SpelledToken → Level → State → Turn
define pos operands level state =
    with_read pos (macro_line operands) (λ line.
    (if list_any (is_called line.name) state.macros then fails MacroAlreadyDefined pos
    else with_body pos (cut_block block.Macro level.statements) level state (λ body now. goes (add_macro line body now))))

-- a call becomes its body with arguments put in, and an end mark; its number is how many began before it
unfoldable pub call : MacroAs → Pos → List SpelledToken → Level → State → Turn
call one pos operands level state =
    with_read pos (call_arguments one.parameters operands) (λ arguments.
    enter pos (Some state.begun) ending.Call (made_statements pos (put arguments state.begun one.body))
    (under level (record state { begun = state.begun + 1 })))

-- a macro that is known is forgotten
abbrev pub forget : Pos → List ℕ → State → Turn
forget pos name state =
    if list_any (is_called name) state.macros then goes (record state { macros = without name state.macros })
    else fails BadMacroLine pos

-- `.purgem` leaves the list, and the macro is known no more
unfoldable pub purge : Pos → List SpelledToken → Level → State → Turn
purge pos operands level state = with_made pos (one_name operands) (λ name. forget pos name (under level state))

-- the end mark is that of a call
abbrev pub is_call : Ending → Bool
is_call ending.Call = true
is_call _ = false

-- the part is one of a call
abbrev pub is_call_part : Level → Bool
is_call_part level = is_call level.ends

-- the parts behind that of the innermost call
unfoldable pub after_call : List Level → Option (List Level)
after_call [] = None
after_call (level ∷ below) = if is_call_part level then Some below else after_call below

-- the list becomes these parts
abbrev pub exit_by : Pos → Option (List Level) → State → Turn
exit_by pos None state = fails EndWithoutBeginning pos
exit_by pos (Some levels) state = goes (record state { levels = levels })

-- `.exitm` takes the list away up to the end mark of its innermost call, that mark included
unfoldable pub exit : Pos → Level → State → Turn
exit pos level state = exit_by pos (after_call (level ∷ state.levels)) state

-- Files

-- the end mark is that of a file
abbrev pub is_file : Ending → Bool
is_file ending.File = true
is_file _ = false

-- the part is one of a file
abbrev pub is_file_part : Level → Bool
is_file_part level = is_file level.ends

-- a file in front of the list, in the call of this number, if in one, with its name behind those of the files before it
abbrev pub start_file : Option ℕ → List ℕ → Result (List TokenStatement) FileFault → State → Turn
start_file number name (Ok statements) state =
    goes (under (level_with number ending.File statements) (record state { files = state.files ++ name ∷ [] }))
start_file number name (Err fault) state = breaks name fault

-- a file that is there is started
abbrev pub include_file : Option ℕ → List ℕ → Option (List ℕ) → State → Turn
include_file number name None state = misses name
include_file number name (Some bytes) state = start_file number name (file_statements (length state.files) bytes) state

-- a file is started by what is told of all files
abbrev pub include_told : Option ℕ → List ℕ → Option Contents → State → Turn
include_told number name None state = untold
include_told number name (Some contents) state = include_file number name (contents name) state

-- an include becomes the file's statements and an end mark
unfoldable pub include : Option Contents → Pos → List SpelledToken → Level → State → Turn
include contents pos operands level state =
    with_made pos (file_name operands) (λ name.
    (if nat_le 32 (count_by is_file_part (level ∷ state.levels)) then fails NestedTooDeeply pos
    else include_told level.call_number name contents (under level state)))

-- The head of the list

-- a head that is a word of expansion, by its word
abbrev pub rewritten : Knowledge → Option Contents → Word → Pos → List SpelledToken → Level → State → Turn
rewritten known contents (word.If condition) pos operands level state = conditional known condition pos operands level state
rewritten known contents word.ElseIf pos operands level state = branch_end pos level state
rewritten known contents word.Else pos operands level state = branch_end pos level state
rewritten known contents word.EndIf pos operands level state = conditional_end pos level state
rewritten known contents word.Repeat pos operands level state = repeat known pos operands level state
rewritten known contents word.EachValue pos operands level state = each pos (irp_line operands) level state
rewritten known contents word.EachCharacter pos operands level state = each pos (irpc_line operands) level state
rewritten known contents word.EndRepeat pos operands level state = fails EndWithoutBeginning pos
rewritten known contents word.Macro pos operands level state = define pos operands level state
rewritten known contents word.EndMacro pos operands level state = fails EndWithoutBeginning pos
rewritten known contents word.ExitMacro pos operands level state = exit pos level state
rewritten known contents word.Purge pos operands level state = purge pos operands level state
rewritten known contents word.Include pos operands level state = include contents pos operands level state

-- the macro of a name, if it is known
abbrev pub macro_named : List MacroAs → Option (List ℕ) → Option MacroAs
macro_named macros None = None
macro_named macros (Some name) = find (is_called name) macros

-- the labels before a word stand, as a statement of their own, before what the word becomes
abbrev pub behind_own_labels : List SpelledToken → TokenStatement → Level → State → Turn → Turn
behind_own_labels [] s level state bare = bare
behind_own_labels (label ∷ others) s level state bare =
    hands (with_tokens (label ∷ others) s) (under (with_statements (with_tokens (behind_labels s.tokens) s ∷ level.statements) level) state)

-- the head by the word that it is, or by the macro that it calls
abbrev pub head_by : Knowledge → Option Contents → Option Word → Option MacroAs → TokenStatement → Level → State → Turn
head_by known contents (Some one) called s level state =
    behind_own_labels (labels_of s.tokens) s level state (rewritten known contents one (pos_of s) (operands_in s) level state)
head_by known contents None (Some one) s level state = behind_own_labels (labels_of s.tokens) s level state (call one (pos_of s) (operands_in s) level state)
head_by known contents None None s level state = hands s (under level state)

-- the head is a word, a call of a macro that is known, or a statement that is handed out
unfoldable pub head : Knowledge → Option Contents → TokenStatement → Level → State → Turn
head known contents s level state =
    head_by known contents (word_in s) (macro_named state.macros (named_by (behind_labels s.tokens))) s level state

-- the most statements that leave the head
abbrev pub most_given : ℕ
most_given = 2 ^ 22

-- an end mark leaves the list where no conditional is open
abbrev pub close_by : List Pos → State → Turn
close_by [] state = goes state
close_by (first ∷ others) state = fails UnclosedBlock first

-- the head of this part, or its end mark where no statement is left
abbrev pub turn_level : Knowledge → Option Contents → List TokenStatement → Level → State → Turn
turn_level known contents [] level state = close_by level.open_at state
turn_level known contents (s ∷ rest) level state =
    if nat_le most_given state.given then fails ExpansionTooLong (pos_of s)
    else head known contents s (with_statements rest level) (record state { given = state.given + 1 })

-- the head of the innermost part
abbrev pub turn_levels : Knowledge → Option Contents → List Level → State → Turn
turn_levels known contents [] state = ended
turn_levels known contents (level ∷ below) state =
    turn_level known contents level.statements level (record state { levels = below })

-- the head of the list is rewritten or handed out
unfoldable pub turn : Knowledge → Option Contents → State → Turn
turn known contents state = turn_levels known contents state.levels state

-- the list of a source: its statements and the end mark of its file; the names of the files started so far, of which it is the last
abbrev pub started : List (List ℕ) → List TokenStatement → State
started files statements =
    record { levels = level_with None ending.File statements ∷ []; macros = []; begun = 0; given = 0; files = files }
