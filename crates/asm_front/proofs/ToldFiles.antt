-- Where contents are told, no file that a list starts is untold.
use Rattle.std.proofs.Common.{◌≡◌, ℕ, zero, suc, ◌+◌, nat_le, Bool, true, false, cond, List, [], ◌∷◌, length, map, count_by, Option, None, Some, Result, Ok, Err, refl, ap, ◌∙◌, sym}
use Rattle.std.specs.List.{list_any}
use Rattle.std.proofs.lemmas.Bool.{false≢true}
use Rattle.asm_base.specs.Inputs.{Contents}
use Rattle.asm_base.specs.Tokens.{SpelledToken}
use Rattle.asm_base.specs.declared.positions.Pos.{Pos}
use Rattle.asm_lines.specs.NextStatements.{TokenStatement, in_tokens}
use Rattle.asm_lines.specs.Statements.{StatementAt, statements_of}
use Rattle.asm_lines.specs.declared.faults.LineCause.{LineCause}
use Rattle.macro_texts.specs.declared.causes.MacroLineCause.{MacroLineCause}
use Rattle.macro_texts.specs.Arguments.{call_arguments}
use Rattle.macro_texts.specs.Parameters.{macro_line}
use Rattle.macro_texts.specs.Putting.{put}
use Rattle.macro_texts.specs.Repeats.{EachLineAs, irp_line, irpc_line}
use Rattle.macro_words.specs.declared.causes.MacroCause.{MacroCause}
use Rattle.macro_words.specs.declared.causes.MacroCause.TheVariants.{BadMacroLine, NestedTooDeeply, ExpansionTooLong, MacroAlreadyDefined}
use Rattle.macro_words.specs.declared.words.Condition.{Condition}
use Rattle.macro_words.specs.declared.words.Word.{Word}
use Rattle.macro_words.specs.declared.words.Word.TheVariants as word
use Rattle.macro_words.specs.Branches.{verdict}
use Rattle.macro_words.specs.Conditions.{Knowledge, repeat_count, holds}
use Rattle.macro_words.specs.Files.{FileFault, file_name, file_statements}
use Rattle.macro_words.specs.Statements.{pos_of, labels_of, behind_labels, named_by, word_in, operands_in, one_name, made_statements}
use Rattle.macro_blocks.specs.Blocks.{Cut, cut_block, cut_branch}
use Rattle.macro_blocks.specs.Levels.{Level, with_statements, level_with}
use Rattle.macro_blocks.specs.declared.blocks.Block.TheVariants as block
use Rattle.macro_blocks.specs.declared.blocks.Ending.{Ending}
use Rattle.macro_blocks.specs.declared.blocks.Ending.TheVariants as ending
use Rattle.asm_macro.specs.Expansion as list
use Rattle.asm_macro.specs.Expansion.{MacroAs, State, Turn, with_made, with_read, with_body, enter, go_on, search_branch, conditional_by, conditional, passed_over, branch_end_by, branch_end, conditional_end_by, conditional_end, repeat_copies, repeat, each_copies, each, is_called, without, add_macro, define, call, forget, purge, after_call, exit_by, exit, is_inner_part, is_file_part, start_file, include_file, include, rewritten, macro_named, behind_own_labels, head_by, head, close_by, turn_level, turn_levels, turn, under, started, most_given}
use Rattle.asm_macro.specs.Placing.{Step, goes, ended, fails, refused, misses, untold, with_placed, placed_by_turn, and_then, step, steps, expansion, most_turns}
use Rattle.asm_place.specs.declared.place_faults.FaultAt.{FaultAt}
use Rattle.asm_functions.specs.FollowedSource.{FollowedSource}
use Rattle.asm_front.specs.Assembly.{placed_after, told_of, nothing_yet, expansion_of, main_file}
use Rattle.source_ends.specs.Ending.{Flags}

-- the turn does not end at a file of which nothing is told
abbrev is_told : Turn → Bool
is_told list.untold = false
is_told _ = true

record Told (turn : Turn) : Type 0 where
  is : is_told turn ≡ true

either : (b : Bool) (x y : Turn) → Told x → Told y → Told (cond b x y)
either true x y p q = p
either false x y p q = q

of_made : {A : Type 0} (pos : Pos) (made : Result A MacroCause) (on : A → Turn) → ((a : A) → Told (on a)) → Told (with_made pos made on)
of_made pos (Ok made) on all = all made
of_made pos (Err cause) on all = record { is = refl }

of_read : {A : Type 0} (pos : Pos) (read : Result A MacroLineCause) (on : A → Turn) → ((a : A) → Told (on a)) → Told (with_read pos read on)
of_read pos (Ok read) on all = all read
of_read pos (Err cause) on all = record { is = refl }

of_body : (pos : Pos) (found : Option Cut) (level : Level) (state : State) (on : List TokenStatement → State → Turn) → ((body : List TokenStatement) (now : State) → Told (on body now))
    → Told (with_body pos found level state on)
of_body pos None level state on all = record { is = refl }
of_body pos (Some c) level state on all = all c.inside _

of_enter : (pos : Pos) (number : Option ℕ) (ends : Ending) (made : Result (List TokenStatement) MacroCause) (state : State) → Told (enter pos number ends made state)
of_enter pos number ends made state =
    let on : List TokenStatement → Turn = λ statements. list.goes (under (level_with number ends statements) state) in
    either (nat_le 64 (count_by is_inner_part state.levels)) (list.fails NestedTooDeeply pos) (with_made pos made on)
    (record { is = refl }) (of_made pos made on (λ statements. record { is = refl }))

of_branch : (pos : Pos) (chosen : Bool) (level : Level) (state : State) → Told (go_on pos chosen level state)
of_branch pos true level state = record { is = refl }
of_branch pos false level state = record { is = refl }

of_search : (known : Knowledge) (pos : Pos) (found : Option Cut) (level : Level) (state : State) → Told (search_branch known pos found level state)
of_search known pos None level state = record { is = refl }
of_search known pos (Some c) level state = of_made (pos_of c.stop) (verdict known c.stop) _ (λ chosen. of_branch pos chosen _ state)

of_conditional_by : (known : Knowledge) (pos : Pos) (held : Bool) (level : Level) (state : State) → Told (conditional_by known pos held level state)
of_conditional_by known pos true level state = record { is = refl }
of_conditional_by known pos false level state = of_search known pos (cut_branch known level.statements) level state

of_conditional : (known : Knowledge) (condition : Condition) (pos : Pos) (operands : List SpelledToken) (level : Level) (state : State) → Told (conditional known condition pos operands level state)
unfolding conditional
of_conditional known condition pos operands level state = of_made pos (holds known condition operands) _ (λ held. of_conditional_by known pos held level state)

of_passed : (pos : Pos) (found : Option Cut) (level : Level) (state : State) → Told (passed_over pos found level state)
of_passed pos None level state = record { is = refl }
of_passed pos (Some c) level state = record { is = refl }

of_branch_end_by : (open_at : List Pos) (pos : Pos) (level : Level) (state : State) → Told (branch_end_by open_at pos level state)
of_branch_end_by [] pos level state = record { is = refl }
of_branch_end_by (first ∷ others) pos level state = of_passed pos (cut_block block.Conditional level.statements) level state

of_branch_end : (pos : Pos) (level : Level) (state : State) → Told (branch_end pos level state)
unfolding branch_end
of_branch_end pos level state = of_branch_end_by level.open_at pos level state

of_conditional_end_by : (open_at : List Pos) (pos : Pos) (level : Level) (state : State) → Told (conditional_end_by open_at pos level state)
of_conditional_end_by [] pos level state = record { is = refl }
of_conditional_end_by (first ∷ others) pos level state = record { is = refl }

of_conditional_end : (pos : Pos) (level : Level) (state : State) → Told (conditional_end pos level state)
unfolding conditional_end
of_conditional_end pos level state = of_conditional_end_by level.open_at pos level state

of_copies : (pos : Pos) (number : Option ℕ) (count : ℕ) (body : List TokenStatement) (state : State) → Told (repeat_copies pos number count body state)
of_copies pos number count [] state = record { is = refl }
of_copies pos number count (first ∷ others) state = of_enter pos number ending.Repeat _ state

of_repeat : (known : Knowledge) (pos : Pos) (operands : List SpelledToken) (level : Level) (state : State) → Told (repeat known pos operands level state)
unfolding repeat
of_repeat known pos operands level state =
    of_made pos (repeat_count known operands) _
    (λ count. of_body pos (cut_block block.Repeat level.statements) level state _ (λ body now. of_copies pos level.call_number count body now))

of_each_copies : (pos : Pos) (number : Option ℕ) (line : EachLineAs) (body : List TokenStatement) (state : State) → Told (each_copies pos number line body state)
of_each_copies pos number line [] state = record { is = refl }
of_each_copies pos number line (first ∷ others) state = of_enter pos number ending.Repeat _ state

of_each : (pos : Pos) (read : Result EachLineAs MacroLineCause) (level : Level) (state : State) → Told (each pos read level state)
unfolding each
of_each pos read level state =
    of_read pos read _ (λ line. of_body pos (cut_block block.Repeat level.statements) level state _ (λ body now. of_each_copies pos level.call_number line body now))

of_define : (pos : Pos) (operands : List SpelledToken) (level : Level) (state : State) → Told (define pos operands level state)
unfolding define
of_define pos operands level state =
    of_read pos (macro_line operands) _
    (λ line.
    let on : List TokenStatement → State → Turn = λ body now. list.goes (add_macro line body now) in
    either (list_any (is_called line.name) state.macros) (list.fails MacroAlreadyDefined pos)
    (with_body pos (cut_block block.Macro level.statements) level state on) (record { is = refl })
    (of_body pos (cut_block block.Macro level.statements) level state on (λ body now. record { is = refl })))

of_call : (one : MacroAs) (pos : Pos) (operands : List SpelledToken) (level : Level) (state : State) → Told (call one pos operands level state)
unfolding call
of_call one pos operands level state = of_read pos (call_arguments one.parameters operands) _ (λ arguments.
    of_enter pos (Some state.begun) ending.Call (made_statements pos (put arguments state.begun one.body)) (under level (record state { begun = state.begun + 1 })))

of_forget : (pos : Pos) (name : List ℕ) (state : State) → Told (forget pos name state)
of_forget pos name state =
    either (list_any (is_called name) state.macros) (list.goes (record state { macros = without name state.macros })) (list.fails BadMacroLine pos)
    (record { is = refl }) (record { is = refl })

of_purge : (pos : Pos) (operands : List SpelledToken) (level : Level) (state : State) → Told (purge pos operands level state)
unfolding purge
of_purge pos operands level state = of_made pos (one_name operands) _ (λ name. of_forget pos name (under level state))

of_exit_by : (pos : Pos) (found : Option (List Level)) (state : State) → Told (exit_by pos found state)
of_exit_by pos None state = record { is = refl }
of_exit_by pos (Some levels) state = record { is = refl }

of_exit : (pos : Pos) (level : Level) (state : State) → Told (exit pos level state)
unfolding exit
of_exit pos level state = of_exit_by pos (after_call (level ∷ state.levels)) state

of_start : (number : Option ℕ) (name : List ℕ) (read : Result (List TokenStatement) FileFault) (state : State) → Told (start_file number name read state)
of_start number name (Ok statements) state = record { is = refl }
of_start number name (Err fault) state = record { is = refl }

of_file : (number : Option ℕ) (name : List ℕ) (file : Option (List ℕ)) (state : State) → Told (include_file number name file state)
of_file number name None state = record { is = refl }
of_file number name (Some bytes) state = of_start number name (file_statements (length state.files) bytes) state

module _ (contents : Contents) where
  of_include : (pos : Pos) (operands : List SpelledToken) (level : Level) (state : State) → Told (include (Some contents) pos operands level state)
  unfolding include
  of_include pos operands level state =
      of_made pos (file_name operands) _ (λ name.
      either (nat_le 32 (count_by is_file_part (level ∷ state.levels))) (list.fails NestedTooDeeply pos)
      (include_file level.call_number name (contents name) (under level state)) (record { is = refl }) (of_file level.call_number name (contents name) (under level state)))

  of_word : (known : Knowledge) (one : Word) (pos : Pos) (operands : List SpelledToken) (level : Level) (state : State) → Told (rewritten known (Some contents) one pos operands level state)
  of_word known (word.If condition) pos operands level state = of_conditional known condition pos operands level state
  of_word known word.ElseIf pos operands level state = of_branch_end pos level state
  of_word known word.Else pos operands level state = of_branch_end pos level state
  of_word known word.EndIf pos operands level state = of_conditional_end pos level state
  of_word known word.Repeat pos operands level state = of_repeat known pos operands level state
  of_word known word.EachValue pos operands level state = of_each pos (irp_line operands) level state
  of_word known word.EachCharacter pos operands level state = of_each pos (irpc_line operands) level state
  of_word known word.EndRepeat pos operands level state = record { is = refl }
  of_word known word.Macro pos operands level state = of_define pos operands level state
  of_word known word.EndMacro pos operands level state = record { is = refl }
  of_word known word.ExitMacro pos operands level state = of_exit pos level state
  of_word known word.Purge pos operands level state = of_purge pos operands level state
  of_word known word.Include pos operands level state = of_include pos operands level state

  of_labels : (labels : List SpelledToken) (s : TokenStatement) (level : Level) (state : State) (bare : Turn) → Told bare → Told (behind_own_labels labels s level state bare)
  of_labels [] s level state bare p = p
  of_labels (label ∷ others) s level state bare p = record { is = refl }

  of_head_by : (known : Knowledge) (one : Option Word) (called : Option MacroAs) (s : TokenStatement) (level : Level) (state : State) → Told (head_by known (Some contents) one called s level state)
  of_head_by known (Some one) called s level state = of_labels (labels_of s.tokens) s level state _ (of_word known one (pos_of s) (operands_in s) level state)
  of_head_by known None (Some one) s level state = of_labels (labels_of s.tokens) s level state _ (of_call one (pos_of s) (operands_in s) level state)
  of_head_by known None None s level state = record { is = refl }

  of_head : (known : Knowledge) (s : TokenStatement) (level : Level) (state : State) → Told (head known (Some contents) s level state)
  unfolding head
  of_head known s level state = of_head_by known (word_in s) (macro_named state.macros (named_by (behind_labels s.tokens))) s level state

  of_close : (open_at : List Pos) (state : State) → Told (close_by open_at state)
  of_close [] state = record { is = refl }
  of_close (first ∷ others) state = record { is = refl }

  of_level : (known : Knowledge) (statements : List TokenStatement) (level : Level) (state : State) → Told (turn_level known (Some contents) statements level state)
  of_level known [] level state = of_close level.open_at state
  of_level known (s ∷ rest) level state =
      let now : State = record state { given = state.given + 1 } in
      either (nat_le most_given state.given) (list.fails ExpansionTooLong (pos_of s)) (head known (Some contents) s (with_statements rest level) now)
      (record { is = refl }) (of_head known s (with_statements rest level) now)

  of_levels : (known : Knowledge) (levels : List Level) (state : State) → Told (turn_levels known (Some contents) levels state)
  of_levels known [] state = record { is = refl }
  of_levels known (level ∷ below) state = of_level known level.statements level _

  of_turn : (known : Knowledge) (state : State) → Told (turn known (Some contents) state)
  unfolding turn
  of_turn known state = of_levels known state.levels state

  -- the same of what comes of a list
  abbrev is_told_step : Step FollowedSource FaultAt → Bool
  is_told_step untold = false
  is_told_step _ = true

  of_placed : (state : State) (result : Result FollowedSource FaultAt) → is_told_step (with_placed state result) ≡ true
  of_placed state (Ok placer) = refl
  of_placed state (Err fault) = refl

  of_step : (files : List (List ℕ)) (placer : FollowedSource) (turn : Turn) → Told turn → is_told_step (placed_by_turn placed_after files placer turn) ≡ true
  of_step files placer (list.hands statement state) p = of_placed state (placed_after placer statement)
  of_step files placer (list.goes state) p = refl
  of_step files placer list.ended p = refl
  of_step files placer (list.fails cause pos) p = refl
  of_step files placer (list.breaks name fault) p = refl
  of_step files placer (list.misses name) p = refl
  of_step files placer list.untold p = absurd (false≢true p.is)

  behind : (more : State → FollowedSource → Step FollowedSource FaultAt) → ((state : State) (placer : FollowedSource) → is_told_step (more state placer) ≡ true)
      → (now : Step FollowedSource FaultAt) → is_told_step now ≡ true → is_told_step (and_then more now) ≡ true
  behind more all (goes state placer) p = all state placer
  behind more all (ended files placer) p = refl
  behind more all (fails files cause pos placer) p = refl
  behind more all (refused files fault) p = refl
  behind more all (misses files) p = refl
  behind more all untold p = absurd (false≢true p)

  of_steps : (known : FollowedSource → Knowledge) (n : ℕ) (state : State) (placer : FollowedSource) → is_told_step (steps placed_after known (Some contents) n state placer) ≡ true
  unfolding steps
  of_steps known zero state placer = refl
  of_steps known (suc n) state placer =
      behind (steps placed_after known (Some contents) n) (of_steps known n) (step placed_after known (Some contents) state placer)
      (of_step state.files placer (turn (known placer) (Some contents) state) (of_turn (known placer) state))

  of_lines : (flags : Flags) (name : List ℕ) (lines : Result (List StatementAt) LineCause)
      → is_told_step (expansion placed_after told_of (Some contents) (name ∷ []) (nothing_yet flags) lines) ≡ true
  unfolding expansion
  of_lines flags name (Ok statements) = of_steps told_of most_turns (started (name ∷ []) (map in_tokens statements)) (nothing_yet flags)
  of_lines flags name (Err cause) = refl

  -- nothing is untold of a source
  pub none_untold : (flags : Flags) (name source : List ℕ) → expansion_of flags (Some contents) name source ≡ untold → ⊥
  unfolding expansion_of
  none_untold flags name source is = false≢true (sym (ap is_told_step is) ∙ of_lines flags name (statements_of main_file source))

pub never_untold : (flags : Flags) (contents : Contents) (name source : List ℕ) → expansion_of flags (Some contents) name source ≡ untold → ⊥
never_untold flags contents name source is = none_untold contents flags name source is
