-- What becomes of the head of a list that is spelled in bytes.
use Rattle.std.proofs.Common.{◌≡◌, ◌+◌, ℕ, nat_le, Bool, true, false, cond, List, [], ◌∷◌, ◌++◌, length, Option, None, Some, Result, Ok, Err, IfSome, IfOk, All, unwrap_or, refl}
use Rattle.std.specs.List.{count_by, list_any}
use Rattle.std.proofs.lemmas.List.Elements.{All-nil, All-cons, All-drop, All-head, All-push, All-tail}
use Rattle.asm_base.specs.Inputs.{Contents}
use Rattle.asm_base.specs.Tokens.{SpelledToken}
use Rattle.asm_base.specs.declared.positions.Pos.{Pos}
use Rattle.asm_lines.specs.NextStatements.{TokenStatement}
use Rattle.asm_operands.specs.Operands.{is_label}
use Rattle.macro_texts.specs.declared.causes.MacroLineCause.{MacroLineCause}
use Rattle.macro_texts.specs.Arguments.{call_arguments}
use Rattle.macro_texts.specs.Parameters.{MacroLineAs, macro_line}
use Rattle.macro_texts.specs.Putting.{put}
use Rattle.macro_texts.specs.Repeats.{EachLineAs, irp_line, irpc_line}
use Rattle.macro_blocks.specs.declared.blocks.Block.{Block}
use Rattle.macro_blocks.specs.declared.blocks.Block.TheVariants as block
use Rattle.macro_blocks.specs.declared.blocks.Ending.{Ending}
use Rattle.macro_blocks.specs.declared.blocks.Ending.TheVariants as ending
use Rattle.macro_blocks.specs.Blocks.{Cut, cut_block, cut_branch, ends_at, ends_branch}
use Rattle.macro_blocks.specs.Levels.{Level, but_last, copies_of, each_copy, level_with, with_open, with_statements}
use Rattle.macro_words.specs.Conditions.{Knowledge, holds, repeat_count}
use Rattle.macro_words.specs.Files.{FileFault, file_name, file_statements}
use Rattle.macro_words.specs.Statements.{behind_labels, body_text, labels_of, made_statements, named_by, one_name, operands_in, pos_of, raised, with_tokens, word_in}
use Rattle.macro_words.specs.declared.causes.MacroCause.{MacroCause}
use Rattle.macro_words.specs.declared.words.Condition.{Condition}
use Rattle.macro_words.specs.declared.words.Word.{Word}
use Rattle.macro_words.specs.declared.words.Word.TheVariants as word
use Rattle.asm_macro.specs.Expansion as list
use Rattle.asm_macro.specs.Expansion.{MacroAs, State, Turn, hands, goes, ended, fails, breaks, misses, untold, under, with_made, with_read, is_file_part, is_inner_part, enter, go_on, search_branch, conditional_by, conditional, passed_over, branch_end_by, branch_end, conditional_end_by, conditional_end, with_body, repeat_copies, repeat, each_copies, each, is_called, without, add_macro, define, call, forget, purge, is_call_part, after_call, exit_by, exit, start_file, include_file, include_told, include, rewritten, macro_named, behind_own_labels, head_by, head, turn}
use Rattle.form_laws.specs.Numbers.{IsInBytes, IsSpelled, TokensAreInBytes}
use Rattle.expansion_laws.specs.Handing.{AreToldBytes, IsBytes}
use Rattle.expansion_laws.proofs.Arguments.{AreSpelled, IsEachLine, IsMacroLine, IsParameter, call_in_bytes, irp_in_bytes, irpc_in_bytes, macro_line_in_bytes}
use Rattle.expansion_laws.proofs.Blocks.{AllSpelled, IsCut, copies_spelled, cut_spelled, each_spelled}
use Rattle.expansion_laws.proofs.Elements.{either_all, found_one}
use Rattle.expansion_laws.proofs.Lines.{file_spelled, made_spelled}
use Rattle.expansion_laws.proofs.Texts.{IsArgument, body_in_bytes, put_in_bytes}

-- the statements of the part are spelled in bytes
abbrev pub IsPart : Level → Type 0
IsPart level = AllSpelled level.statements

-- the texts of the macro are bytes: its body, and those of its parameters without an argument
pub record IsMacro (one : MacroAs) : Type 0 where
  pub parameters : All IsParameter one.parameters
  pub body : IsBytes one.body

-- all statements and texts of the list are
pub record IsList (state : State) : Type 0 where
  pub parts : All IsPart state.levels
  pub macros : All IsMacro state.macros

-- so are those of what becomes of the head
unfoldable pub Kept : Turn → Type 0
Kept (hands s state) = IsSpelled s × IsList state
Kept (goes state) = IsList state
Kept ended = Unit {0}
Kept (fails cause pos) = Unit {0}
Kept (breaks name fault) = Unit {0}
Kept (misses name) = Unit {0}
Kept untold = Unit {0}

goes_kept : (state : State) → IsList state → Kept (goes state)
unfolding Kept
goes_kept state is = is

hands_kept : (s : TokenStatement) (state : State) → IsSpelled s → IsList state → Kept (hands s state)
unfolding Kept
hands_kept s state spelled is = (spelled, is)

fails_kept : (cause : MacroCause) (pos : Pos) → Kept (fails cause pos)
unfolding Kept
fails_kept cause pos = tt

tested_kept : (test : Bool) (one other : Turn) → Kept one → Kept other → Kept (cond test one other)
tested_kept true one other first second = first
tested_kept false one other first second = second

made_kept : {A : Type 0} (P : A → Type 0) (pos : Pos) (made : Result A MacroCause) (on : A → Turn) → IfOk made P → ((x : A) → P x → Kept (on x)) → Kept (with_made pos made on)
made_kept P pos (Ok x) on is all = all x is
made_kept P pos (Err cause) on is all = fails_kept cause pos

any_kept : {A : Type 0} (pos : Pos) (made : Result A MacroCause) (on : A → Turn) → ((x : A) → Kept (on x)) → Kept (with_made pos made on)
any_kept pos (Ok x) on all = all x
any_kept pos (Err cause) on all = fails_kept cause pos

read_kept : {A : Type 0} (P : A → Type 0) (pos : Pos) (read : Result A MacroLineCause) (on : A → Turn) → IfOk read P → ((x : A) → P x → Kept (on x)) → Kept (with_read pos read on)
read_kept P pos (Ok x) on is all = all x is
read_kept P pos (Err cause) on is all = fails_kept (raised cause) pos

-- a part more
under_list : (level : Level) (state : State) → IsPart level → IsList state → IsList (under level state)
under_list level state here is = record { parts = All-cons IsPart level state.levels here is.parts; macros = is.macros }

entered_kept : (pos : Pos) (number : Option ℕ) (ends : Ending) (made : Result (List TokenStatement) MacroCause) (state : State) → IfOk made AllSpelled → IsList state → Kept (enter pos number ends made state)
entered_kept pos number ends made state spelled is =
    tested_kept (nat_le 64 (count_by is_inner_part state.levels)) _ _ (fails_kept _ _)
    (made_kept AllSpelled pos made _ spelled (λ statements all. goes_kept _ (under_list (level_with number ends statements) state all is)))

-- CONDITIONALS

goes_on_kept : (pos : Pos) (chosen : Bool) (level : Level) (state : State) → IsPart level → IsList state → Kept (go_on pos chosen level state)
goes_on_kept pos true level state here is = goes_kept _ (under_list (with_open (level.open_at ++ pos ∷ []) level) state here is)
goes_on_kept pos false level state here is = goes_kept _ (under_list level state here is)

branch_kept : (known : Knowledge) (pos : Pos) (found : Option Cut) (level : Level) (state : State) → IfSome found IsCut → IsList state → Kept (search_branch known pos found level state)
branch_kept known pos None level state found is = fails_kept _ _
branch_kept known pos (Some c) level state found is = any_kept _ _ _ (λ chosen. goes_on_kept pos chosen (with_statements c.rest level) state found.rest is)

held_kept : (known : Knowledge) (pos : Pos) (held : Bool) (level : Level) (state : State) → IsPart level → IsList state → Kept (conditional_by known pos held level state)
held_kept known pos true level state here is = goes_on_kept pos true level state here is
held_kept known pos false level state here is =
    branch_kept known pos (cut_branch known level.statements) level state (cut_spelled block.Conditional (ends_branch known) 0 level.statements here) is

conditional_kept : (known : Knowledge) (condition : Condition) (pos : Pos) (operands : List SpelledToken) (level : Level) (state : State) → IsPart level → IsList state → Kept (conditional known condition pos operands level state)
unfolding conditional
conditional_kept known condition pos operands level state here is = any_kept pos (holds known condition operands) _ (λ held. held_kept known pos held level state here is)

passed_kept : (pos : Pos) (found : Option Cut) (level : Level) (state : State) → IfSome found IsCut → IsList state → Kept (passed_over pos found level state)
passed_kept pos None level state found is = fails_kept _ _
passed_kept pos (Some c) level state found is = goes_kept _ (under_list (with_open (but_last level.open_at) (with_statements c.rest level)) state found.rest is)

block_spelled : (b : Block) (level : Level) → IsPart level → IfSome (cut_block b level.statements) IsCut
block_spelled b level here = cut_spelled b (ends_at b) 0 level.statements here

branch_end_kept : (open_at : List Pos) (pos : Pos) (level : Level) (state : State) → IsPart level → IsList state → Kept (branch_end_by open_at pos level state)
branch_end_kept [] pos level state here is = fails_kept _ _
branch_end_kept (first ∷ others) pos level state here is =
    passed_kept pos (cut_block block.Conditional level.statements) level state (block_spelled block.Conditional level here) is

conditional_end_kept : (open_at : List Pos) (pos : Pos) (level : Level) (state : State) → IsPart level → IsList state → Kept (conditional_end_by open_at pos level state)
conditional_end_kept [] pos level state here is = fails_kept _ _
conditional_end_kept (first ∷ others) pos level state here is = goes_kept _ (under_list (with_open (but_last level.open_at) level) state here is)

body_kept : (pos : Pos) (found : Option Cut) (level : Level) (state : State) (on : List TokenStatement → State → Turn) → IfSome found IsCut → IsList state
    → ((body : List TokenStatement) (now : State) → AllSpelled body → IsList now → Kept (on body now)) → Kept (with_body pos found level state on)
body_kept pos None level state on found is all = fails_kept _ _
body_kept pos (Some c) level state on found is all = all c.inside _ found.inside (under_list (with_statements c.rest level) state found.rest is)

-- MACROS

-- a macro less
without_macros : (name : List ℕ) (macros : List MacroAs) → All IsMacro macros → All IsMacro (without name macros)
without_macros name [] all = all
without_macros name (one ∷ others) all =
    either_all IsMacro (is_called name one) others (one ∷ without name others) (All-tail IsMacro one others all)
    (All-cons IsMacro one (without name others) (All-head IsMacro one others all) (without_macros name others (All-tail IsMacro one others all)))

define_kept : (pos : Pos) (operands : List SpelledToken) (level : Level) (state : State) → AreSpelled operands → IsPart level → IsList state → Kept (define pos operands level state)
unfolding define
define_kept pos operands level state spelled here is =
    read_kept IsMacroLine pos (macro_line operands) _ (macro_line_in_bytes operands spelled) (λ line defaults.
    tested_kept (list_any (is_called line.name) state.macros) _ _ (fails_kept _ _)
    (body_kept pos (cut_block block.Macro level.statements) level state (λ body now. goes (add_macro line body now)) (block_spelled block.Macro level here) is (λ body now inside kept.
    goes_kept (add_macro line body now) (added line body now defaults inside kept))))
  where
    added : (line : MacroLineAs) (body : List TokenStatement) (now : State) → IsMacroLine line → AllSpelled body → IsList now → IsList (add_macro line body now)
    added line body now defaults inside kept =
        let one : MacroAs = record { name = line.name; parameters = line.parameters; body = body_text body } in
        record { parts = kept.parts; macros = All-push IsMacro now.macros one kept.macros (record { parameters = defaults; body = body_in_bytes body inside }) }

forget_kept : (pos : Pos) (name : List ℕ) (state : State) → IsList state → Kept (forget pos name state)
forget_kept pos name state is =
    tested_kept (list_any (is_called name) state.macros) _ _
    (goes_kept (record state { macros = without name state.macros }) (record { parts = is.parts; macros = without_macros name state.macros is.macros })) (fails_kept _ _)

purge_kept : (pos : Pos) (operands : List SpelledToken) (level : Level) (state : State) → IsPart level → IsList state → Kept (purge pos operands level state)
unfolding purge
purge_kept pos operands level state here is = any_kept pos (one_name operands) _ (λ name. forget_kept pos name (under level state) (under_list level state here is))

after_parts : (levels : List Level) → All IsPart levels → IfSome (after_call levels) (All IsPart)
unfolding after_call
after_parts [] all = tt
after_parts (level ∷ below) all = by (is_call_part level) (after_parts below (All-tail IsPart level below all))
  where
    by : (test : Bool) → IfSome (after_call below) (All IsPart) → IfSome (cond test (Some below) (after_call below)) (All IsPart)
    by true later = All-tail IsPart level below all
    by false later = later

exited_kept : (pos : Pos) (found : Option (List Level)) (state : State) → IfSome found (All IsPart) → IsList state → Kept (exit_by pos found state)
exited_kept pos None state all is = fails_kept _ _
exited_kept pos (Some levels) state all is = goes_kept (record state { levels = levels }) (record { parts = all; macros = is.macros })

exit_kept : (pos : Pos) (level : Level) (state : State) → IsPart level → IsList state → Kept (exit pos level state)
unfolding exit
exit_kept pos level state here is =
    exited_kept pos (after_call (level ∷ state.levels)) state (after_parts (level ∷ state.levels) (All-cons IsPart level state.levels here is.parts)) is

-- HEADS

labels_spelled : (tokens : List SpelledToken) → AreSpelled tokens → AreSpelled (labels_of tokens)
labels_spelled [] all = all
labels_spelled (first ∷ []) all = All-nil IsInBytes
labels_spelled (first ∷ second ∷ rest) all =
    let later = All-tail IsInBytes first (second ∷ rest) all in
    either_all IsInBytes (is_label first second) (first ∷ second ∷ labels_of rest) []
    (All-cons IsInBytes first (second ∷ labels_of rest) (All-head IsInBytes first (second ∷ rest) all)
    (All-cons IsInBytes second (labels_of rest) (All-head IsInBytes second rest later) (labels_spelled rest (All-tail IsInBytes second rest later))))
    (All-nil IsInBytes)

behind_spelled : (tokens : List SpelledToken) → AreSpelled tokens → AreSpelled (behind_labels tokens)
behind_spelled [] all = all
behind_spelled (first ∷ []) all = all
behind_spelled (first ∷ second ∷ rest) all =
    either_all IsInBytes (is_label first second) (behind_labels rest) (first ∷ second ∷ rest)
    (behind_spelled rest (All-tail IsInBytes second rest (All-tail IsInBytes first (second ∷ rest) all))) all

operands_spelled : (s : TokenStatement) → IsSpelled s → AreSpelled (operands_in s)
operands_spelled s is = All-drop IsInBytes 1 (behind_labels s.tokens) (behind_spelled s.tokens is)

labels_kept : (labels : List SpelledToken) (s : TokenStatement) (level : Level) (state : State) (bare : Turn) → AreSpelled labels → IsSpelled s → IsPart level → IsList state → Kept bare
    → Kept (behind_own_labels labels s level state bare)
labels_kept [] s level state bare front spelled here is kept = kept
labels_kept (label ∷ others) s level state bare front spelled here is kept =
    let back = with_tokens (behind_labels s.tokens) s in
    hands_kept (with_tokens (label ∷ others) s) _ front
    (under_list (with_statements (back ∷ level.statements) level) state (All-cons IsSpelled back level.statements (behind_spelled s.tokens spelled) here) is)

-- what is called has its texts in bytes
named_macro : (macros : List MacroAs) (name : Option (List ℕ)) → All IsMacro macros → IfSome (macro_named macros name) IsMacro
named_macro macros None all = tt
named_macro macros (Some name) all = found_one IsMacro (is_called name) macros all

module _ (read : TokensAreInBytes) where
  copies_kept : (pos : Pos) (number : Option ℕ) (count : ℕ) (body : List TokenStatement) (state : State) → AllSpelled body → IsList state → Kept (repeat_copies pos number count body state)
  copies_kept pos number count [] state all is = goes_kept _ is
  copies_kept pos number count (first ∷ others) state all is =
      let text = body_text (first ∷ others) in
      entered_kept pos number ending.Repeat (copies_of count (made_statements pos text)) state
      (copies_spelled count (made_statements pos text) (made_spelled read pos text (body_in_bytes (first ∷ others) all))) is

  repeat_kept : (known : Knowledge) (pos : Pos) (operands : List SpelledToken) (level : Level) (state : State) → IsPart level → IsList state → Kept (repeat known pos operands level state)
  unfolding repeat
  repeat_kept known pos operands level state here is =
      any_kept pos (repeat_count known operands) _ (λ count.
      body_kept pos (cut_block block.Repeat level.statements) level state (repeat_copies pos level.call_number count) (block_spelled block.Repeat level here) is (copies_kept pos level.call_number count))

  each_copies_kept : (pos : Pos) (number : Option ℕ) (line : EachLineAs) (body : List TokenStatement) (state : State) → IsEachLine line → AllSpelled body → IsList state → Kept (each_copies pos number line body state)
  each_copies_kept pos number line [] state values all is = goes_kept _ is
  each_copies_kept pos number line (first ∷ others) state values all is =
      let text = body_text (first ∷ others) in
      let count = unwrap_or number state.begun in
      entered_kept pos number ending.Repeat (each_copy pos line.name count text line.values) state
      (each_spelled read pos line.name count text line.values (body_in_bytes (first ∷ others) all) values) is

  each_kept : (pos : Pos) (said : Result EachLineAs MacroLineCause) (level : Level) (state : State) → IfOk said IsEachLine → IsPart level → IsList state → Kept (each pos said level state)
  unfolding each
  each_kept pos said level state values here is =
      read_kept IsEachLine pos said _ values (λ line all.
      body_kept pos (cut_block block.Repeat level.statements) level state (each_copies pos level.call_number line) (block_spelled block.Repeat level here) is
      (λ body now inside kept. each_copies_kept pos level.call_number line body now all inside kept))

  call_kept : (one : MacroAs) (pos : Pos) (operands : List SpelledToken) (level : Level) (state : State) → IsMacro one → AreSpelled operands → IsPart level → IsList state → Kept (call one pos operands level state)
  unfolding call
  call_kept one pos operands level state called spelled here is =
      let now : State = record state { begun = state.begun + 1 } in
      read_kept (All IsArgument) pos (call_arguments one.parameters operands) _ (call_in_bytes one.parameters operands called.parameters spelled) (λ arguments texts.
      let text = put arguments state.begun one.body in
      entered_kept pos (Some state.begun) ending.Call (made_statements pos text) (under level now)
      (made_spelled read pos text (put_in_bytes arguments state.begun 0 one.body texts called.body))
      (under_list level now here (record { parts = is.parts; macros = is.macros })))

  -- FILES

  file_kept : (number : Option ℕ) (name : List ℕ) (statements : Result (List TokenStatement) FileFault) (state : State) → IfOk statements AllSpelled → IsList state → Kept (start_file number name statements state)
  unfolding Kept
  file_kept number name (Ok statements) state all is =
      under_list (level_with number ending.File statements) (record state { files = state.files ++ name ∷ [] }) all (record { parts = is.parts; macros = is.macros })
  file_kept number name (Err fault) state all is = tt

  there_kept : (number : Option ℕ) (name : List ℕ) (found : Option (List ℕ)) (state : State) → IfSome found IsBytes → IsList state → Kept (include_file number name found state)
  unfolding Kept
  there_kept number name None state all is = tt
  there_kept number name (Some bytes) state all is =
      file_kept number name (file_statements (length state.files) bytes) state (file_spelled read (length state.files) bytes all) is

  -- a file that is there
  file_there : (found : Option (List ℕ)) → ((source : List ℕ) → found ≡ Some source → IsBytes source) → IfSome found IsBytes
  file_there None each = tt
  file_there (Some source) each = each source refl

  told_kept : (number : Option ℕ) (name : List ℕ) (contents : Option Contents) (state : State) → AreToldBytes contents → IsList state → Kept (include_told number name contents state)
  unfolding Kept
  told_kept number name None state files is = tt
  told_kept number name (Some contents) state files is = there_kept number name (contents name) state (file_there (contents name) (files name)) is

  include_kept : (contents : Option Contents) (pos : Pos) (operands : List SpelledToken) (level : Level) (state : State) → AreToldBytes contents → IsPart level → IsList state → Kept (include contents pos operands level state)
  unfolding include
  include_kept contents pos operands level state files here is =
      any_kept pos (file_name operands) _ (λ name.
      tested_kept (nat_le 32 (count_by is_file_part (level ∷ state.levels))) _ _ (fails_kept _ _)
      (told_kept level.call_number name contents (under level state) files (under_list level state here is)))

  -- TURNS

  word_kept : (known : Knowledge) (contents : Option Contents) (one : Word) (pos : Pos) (operands : List SpelledToken) (level : Level) (state : State)
      → AreToldBytes contents → AreSpelled operands → IsPart level → IsList state → Kept (rewritten known contents one pos operands level state)
  unfolding branch_end conditional_end
  word_kept known contents (word.If condition) pos operands level state files spelled here is = conditional_kept known condition pos operands level state here is
  word_kept known contents word.ElseIf pos operands level state files spelled here is = branch_end_kept level.open_at pos level state here is
  word_kept known contents word.Else pos operands level state files spelled here is = branch_end_kept level.open_at pos level state here is
  word_kept known contents word.EndIf pos operands level state files spelled here is = conditional_end_kept level.open_at pos level state here is
  word_kept known contents word.Repeat pos operands level state files spelled here is = repeat_kept known pos operands level state here is
  word_kept known contents word.EachValue pos operands level state files spelled here is = each_kept pos (irp_line operands) level state (irp_in_bytes operands spelled) here is
  word_kept known contents word.EachCharacter pos operands level state files spelled here is = each_kept pos (irpc_line operands) level state (irpc_in_bytes operands spelled) here is
  word_kept known contents word.EndRepeat pos operands level state files spelled here is = fails_kept _ _
  word_kept known contents word.Macro pos operands level state files spelled here is = define_kept pos operands level state spelled here is
  word_kept known contents word.EndMacro pos operands level state files spelled here is = fails_kept _ _
  word_kept known contents word.ExitMacro pos operands level state files spelled here is = exit_kept pos level state here is
  word_kept known contents word.Purge pos operands level state files spelled here is = purge_kept pos operands level state here is
  word_kept known contents word.Include pos operands level state files spelled here is = include_kept contents pos operands level state files here is

  head_by_kept : (known : Knowledge) (contents : Option Contents) (one : Option Word) (called : Option MacroAs) (s : TokenStatement) (level : Level) (state : State)
      → AreToldBytes contents → IfSome called IsMacro → IsSpelled s → IsPart level → IsList state → Kept (head_by known contents one called s level state)
  head_by_kept known contents (Some one) called s level state files macro spelled here is =
      labels_kept (labels_of s.tokens) s level state _ (labels_spelled s.tokens spelled) spelled here is
      (word_kept known contents one (pos_of s) (operands_in s) level state files (operands_spelled s spelled) here is)
  head_by_kept known contents None (Some one) s level state files macro spelled here is =
      labels_kept (labels_of s.tokens) s level state _ (labels_spelled s.tokens spelled) spelled here is
      (call_kept one (pos_of s) (operands_in s) level state macro (operands_spelled s spelled) here is)
  head_by_kept known contents None None s level state files macro spelled here is = hands_kept s (under level state) spelled (under_list level state here is)

  head_kept : (known : Knowledge) (contents : Option Contents) (s : TokenStatement) (level : Level) (state : State) → AreToldBytes contents → IsSpelled s → IsPart level → IsList state → Kept (head known contents s level state)
  unfolding head
  head_kept known contents s level state files spelled here is =
      head_by_kept known contents (word_in s) (macro_named state.macros (named_by (behind_labels s.tokens))) s level state files
      (named_macro state.macros (named_by (behind_labels s.tokens)) is.macros) spelled here is

  closes_kept : (open_at : List Pos) (state : State) → IsList state → Kept (list.close_by open_at state)
  closes_kept [] state is = goes_kept _ is
  closes_kept (first ∷ others) state is = fails_kept _ _

  level_kept : (known : Knowledge) (contents : Option Contents) (statements : List TokenStatement) (level : Level) (state : State) → AreToldBytes contents → AllSpelled statements → IsList state
      → Kept (list.turn_level known contents statements level state)
  level_kept known contents [] level state files all is = closes_kept level.open_at state is
  level_kept known contents (s ∷ rest) level state files all is =
      tested_kept (nat_le list.most_given state.given) _ _ (fails_kept _ _)
      (head_kept known contents s (with_statements rest level) (record state { given = state.given + 1 }) files (All-head IsSpelled s rest all) (All-tail IsSpelled s rest all)
      (record { parts = is.parts; macros = is.macros }))

  levels_kept : (known : Knowledge) (contents : Option Contents) (levels : List Level) (state : State) → AreToldBytes contents → All IsPart levels → IsList state
      → Kept (list.turn_levels known contents levels state)
  unfolding Kept
  levels_kept known contents [] state files all is = tt
  levels_kept known contents (level ∷ below) state files all is =
      level_kept known contents level.statements level (record state { levels = below }) files (All-head IsPart level below all)
      (record { parts = All-tail IsPart level below all; macros = is.macros })

  pub turn_kept : (known : Knowledge) (contents : Option Contents) (state : State) → AreToldBytes contents → IsList state → Kept (turn known contents state)
  unfolding turn
  turn_kept known contents state files is = levels_kept known contents state.levels state files is.parts is
