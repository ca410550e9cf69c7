-- The files that a list starts only grow: those of each state on the way are the first of those at its outcome.
use Rattle.std.proofs.Common.{◌≡◌, ℕ, zero, suc, ◌+◌, nat_le, Bool, true, false, List, [], ◌∷◌, ◌++◌, length, cond, Option, None, Some, Result, Ok, Err, refl, sym, ap, subst}
use Rattle.std.specs.List.{count_by, list_any}
use Rattle.std.proofs.lemmas.Bool.{false≢true}
use Rattle.asm_base.specs.Tokens.{SpelledToken}
use Rattle.asm_base.specs.Inputs.{Contents}
use Rattle.asm_base.specs.declared.positions.Pos.{Pos}
use Rattle.asm_lines.specs.declared.faults.LineCause.{LineCause}
use Rattle.asm_lines.specs.NextStatements.{TokenStatement, in_tokens}
use Rattle.asm_lines.specs.Statements.{StatementAt}
use Rattle.macro_texts.specs.declared.causes.MacroLineCause.{MacroLineCause}
use Rattle.macro_texts.specs.Parameters.{macro_line}
use Rattle.macro_texts.specs.Repeats.{EachLineAs, irp_line, irpc_line}
use Rattle.macro_blocks.specs.declared.blocks.Ending.{Ending}
use Rattle.macro_blocks.specs.declared.blocks.Block.TheVariants as block
use Rattle.macro_blocks.specs.Blocks.{Cut, cut_block}
use Rattle.macro_blocks.specs.Levels.{Level}
use Rattle.macro_words.specs.declared.causes.MacroCause.{MacroCause}
use Rattle.macro_words.specs.declared.words.Condition.{Condition}
use Rattle.macro_words.specs.declared.words.Word.{Word}
use Rattle.macro_words.specs.declared.words.Word.TheVariants as word
use Rattle.macro_words.specs.Statements.{pos_of, operands_in, raised}
use Rattle.macro_words.specs.Conditions.{Knowledge, repeat_count}
use Rattle.macro_words.specs.Files.{FileFault, file_name, file_statements}
use Rattle.asm_macro.specs.declared.heads.Head.{Head}
use Rattle.asm_macro.specs.declared.heads.Head.TheVariants as the
use Rattle.asm_macro.specs.Expansion as list
use Rattle.asm_macro.specs.Expansion.{State, MacroAs, Turn, hands, goes, ended, fails, breaks, misses, untold, under, with_made, with_read, is_file_part, is_inner_part, enter, go_on, search_branch, conditional_by, conditional, passed_over, branch_end_by, branch_end, conditional_end_by, conditional_end, with_body, repeat_copies, repeat, each_copies, each, define, call, forget, purge, after_call, exit_by, exit, start_file, include_file, include_told, include, rewritten, behind_own_labels, head_by, head, turn, started}
use Rattle.asm_macro.specs.Heads.{turned_head}
use Rattle.asm_macro.specs.Laws.{is_final}
use Rattle.asm_macro.specs.Placing as step
use Rattle.asm_macro.specs.Placing.{Step, with_placed, placed_by_turn, and_then, steps, expansion}
use Rattle.asm_macro.specs.Starts.{AreFirst, IsFront, files_of, files_after, these}
use Rattle.asm_macro.proofs.FileFronts.{all_front, first_of_front, front_more, front_of_front}

module _ (old : List (List ℕ)) where
  -- the files before the turn are the first of those after it
  Kept : Turn → Type 0
  Kept t = AreFirst old (files_after old t)

  -- the list has these files, and perhaps more
  abbrev Has : State → Type 0
  Has state = IsFront old state.files

  kept_is : (t : Turn) → Kept t → AreFirst old (files_after old t)
  unfolding Kept
  kept_is t kept = kept

  goes_kept : (state : State) → Has state → Kept (goes state)
  unfolding Kept
  goes_kept state has = has

  hands_kept : (s : TokenStatement) (state : State) → Has state → Kept (hands s state)
  unfolding Kept
  hands_kept s state has = has

  fails_kept : (cause : MacroCause) (pos : Pos) → Kept (fails cause pos)
  unfolding Kept
  fails_kept cause pos = all_front old

  breaks_kept : (name : List ℕ) (fault : FileFault) → Kept (breaks name fault)
  unfolding Kept
  breaks_kept name fault = front_more old (name ∷ [])

  misses_kept : (name : List ℕ) → Kept (misses name)
  unfolding Kept
  misses_kept name = front_more old (name ∷ [])

  untold_kept : Kept untold
  unfolding Kept
  untold_kept = tt

  ended_kept : Kept ended
  unfolding Kept
  ended_kept = all_front old

  tested_kept : (test : Bool) (one other : Turn) → Kept one → Kept other → Kept (cond test one other)
  tested_kept true one other first second = first
  tested_kept false one other first second = second

  made_kept : {A : Type 0} (pos : Pos) (made : Result A MacroCause) (on : A → Turn) → ((x : A) → Kept (on x)) → Kept (with_made pos made on)
  made_kept pos (Ok x) on all = all x
  made_kept pos (Err cause) on all = fails_kept cause pos

  read_kept : {A : Type 0} (pos : Pos) (read : Result A MacroLineCause) (on : A → Turn) → ((x : A) → Kept (on x)) → Kept (with_read pos read on)
  read_kept pos (Ok x) on all = all x
  read_kept pos (Err cause) on all = fails_kept (raised cause) pos

  entered_kept : (pos : Pos) (number : Option ℕ) (ends : Ending) (made : Result (List TokenStatement) MacroCause) (state : State) → Has state → Kept (enter pos number ends made state)
  entered_kept pos number ends made state has =
      tested_kept (nat_le 64 (count_by is_inner_part state.levels)) _ _ (fails_kept _ _) (made_kept pos made _ (λ statements. goes_kept _ has))

  goes_on_kept : (pos : Pos) (chosen : Bool) (level : Level) (state : State) → Has state → Kept (go_on pos chosen level state)
  goes_on_kept pos true level state has = goes_kept _ has
  goes_on_kept pos false level state has = goes_kept _ has

  branch_kept : (known : Knowledge) (pos : Pos) (found : Option Cut) (level : Level) (state : State) → Has state → Kept (search_branch known pos found level state)
  branch_kept known pos None level state has = fails_kept _ _
  branch_kept known pos (Some c) level state has = made_kept _ _ _ (λ chosen. goes_on_kept pos chosen _ state has)

  held_kept : (known : Knowledge) (pos : Pos) (held : Bool) (level : Level) (state : State) → Has state → Kept (conditional_by known pos held level state)
  held_kept known pos true level state has = goes_on_kept pos true level state has
  held_kept known pos false level state has = branch_kept known pos _ level state has

  conditional_kept : (known : Knowledge) (condition : Condition) (pos : Pos) (operands : List SpelledToken) (level : Level) (state : State) → Has state → Kept (conditional known condition pos operands level state)
  unfolding conditional
  conditional_kept known condition pos operands level state has = made_kept _ _ _ (λ held. held_kept known pos held level state has)

  passed_kept : (pos : Pos) (found : Option Cut) (level : Level) (state : State) → Has state → Kept (passed_over pos found level state)
  passed_kept pos None level state has = fails_kept _ _
  passed_kept pos (Some c) level state has = goes_kept _ has

  branch_end_kept : (open_at : List Pos) (pos : Pos) (level : Level) (state : State) → Has state → Kept (branch_end_by open_at pos level state)
  branch_end_kept [] pos level state has = fails_kept _ _
  branch_end_kept (first ∷ others) pos level state has = passed_kept pos _ level state has

  conditional_end_kept : (open_at : List Pos) (pos : Pos) (level : Level) (state : State) → Has state → Kept (conditional_end_by open_at pos level state)
  conditional_end_kept [] pos level state has = fails_kept _ _
  conditional_end_kept (first ∷ others) pos level state has = goes_kept _ has

  body_kept : (pos : Pos) (found : Option Cut) (level : Level) (state : State) (on : List TokenStatement → State → Turn) → Has state
      → ((body : List TokenStatement) (now : State) → Has now → Kept (on body now)) → Kept (with_body pos found level state on)
  body_kept pos None level state on has all = fails_kept _ _
  body_kept pos (Some c) level state on has all = all c.inside _ has

  copies_kept : (pos : Pos) (number : Option ℕ) (count : ℕ) (body : List TokenStatement) (state : State) → Has state → Kept (repeat_copies pos number count body state)
  copies_kept pos number count [] state has = goes_kept _ has
  copies_kept pos number count (first ∷ others) state has = entered_kept pos number _ _ state has

  each_copies_kept : (pos : Pos) (number : Option ℕ) (line : EachLineAs) (body : List TokenStatement) (state : State) → Has state → Kept (each_copies pos number line body state)
  each_copies_kept pos number line [] state has = goes_kept _ has
  each_copies_kept pos number line (first ∷ others) state has = entered_kept pos number _ _ state has

  repeat_kept : (known : Knowledge) (pos : Pos) (operands : List SpelledToken) (level : Level) (state : State) → Has state → Kept (repeat known pos operands level state)
  unfolding repeat
  repeat_kept known pos operands level state has =
      made_kept pos (repeat_count known operands) _ (λ count. body_kept pos (cut_block block.Repeat level.statements) level state (repeat_copies pos level.call_number count) has (copies_kept pos level.call_number count))

  each_kept : (pos : Pos) (read : Result EachLineAs MacroLineCause) (level : Level) (state : State) → Has state → Kept (each pos read level state)
  unfolding each
  each_kept pos read level state has =
      read_kept pos read _ (λ line. body_kept pos (cut_block block.Repeat level.statements) level state (each_copies pos level.call_number line) has (each_copies_kept pos level.call_number line))

  define_kept : (pos : Pos) (operands : List SpelledToken) (level : Level) (state : State) → Has state → Kept (define pos operands level state)
  unfolding define
  define_kept pos operands level state has =
      read_kept pos (macro_line operands) _ (λ line. tested_kept (list_any (list.is_called line.name) state.macros) _ _ (fails_kept _ _) (body_kept pos (cut_block block.Macro level.statements) level state _ has (λ body now kept.
      goes_kept (list.add_macro line body now) kept)))

  call_kept : (one : MacroAs) (pos : Pos) (operands : List SpelledToken) (level : Level) (state : State) → Has state → Kept (call one pos operands level state)
  unfolding call
  call_kept one pos operands level state has =
      read_kept _ _ _ (λ arguments. entered_kept pos _ _ _ (under level (record state { begun = state.begun + 1 })) has)

  forget_kept : (pos : Pos) (name : List ℕ) (state : State) → Has state → Kept (forget pos name state)
  forget_kept pos name state has = tested_kept (list_any (list.is_called name) state.macros) _ _ (goes_kept (record state { macros = list.without name state.macros }) has) (fails_kept _ _)

  purge_kept : (pos : Pos) (operands : List SpelledToken) (level : Level) (state : State) → Has state → Kept (purge pos operands level state)
  unfolding purge
  purge_kept pos operands level state has = made_kept _ _ _ (λ name. forget_kept pos name (under level state) has)

  exited_kept : (pos : Pos) (found : Option (List Level)) (state : State) → Has state → Kept (exit_by pos found state)
  exited_kept pos None state has = fails_kept _ _
  exited_kept pos (Some levels) state has = goes_kept _ has

  exit_kept : (pos : Pos) (level : Level) (state : State) → Has state → Kept (exit pos level state)
  unfolding exit
  exit_kept pos level state has = exited_kept _ _ state has

  -- a file more
  file_kept : (number : Option ℕ) (name : List ℕ) (read : Result (List TokenStatement) FileFault) (state : State) → Has state → Kept (start_file number name read state)
  file_kept number name (Ok statements) state has = goes_kept _ (front_of_front old state.files (state.files ++ name ∷ []) has (front_more state.files (name ∷ [])))
  file_kept number name (Err fault) state has = breaks_kept name fault

  there_kept : (number : Option ℕ) (name : List ℕ) (found : Option (List ℕ)) (state : State) → Has state → Kept (include_file number name found state)
  there_kept number name None state has = misses_kept name
  there_kept number name (Some bytes) state has = file_kept number name _ state has

  included_kept : (number : Option ℕ) (name : List ℕ) (contents : Option Contents) (state : State) → Has state → Kept (include_told number name contents state)
  included_kept number name None state has = untold_kept
  included_kept number name (Some contents) state has = there_kept number name _ state has

  include_kept : (contents : Option Contents) (pos : Pos) (operands : List SpelledToken) (level : Level) (state : State) → Has state → Kept (include contents pos operands level state)
  unfolding include
  include_kept contents pos operands level state has =
      made_kept pos (file_name operands) _ (λ name. tested_kept (nat_le 32 (count_by is_file_part (level ∷ state.levels))) _ _ (fails_kept _ _) (included_kept level.call_number name contents (under level state) has))

  word_kept : (known : Knowledge) (contents : Option Contents) (one : Word) (pos : Pos) (operands : List SpelledToken) (level : Level) (state : State) → Has state → Kept (rewritten known contents one pos operands level state)
  unfolding branch_end conditional_end
  word_kept known contents (word.If condition) pos operands level state has = conditional_kept known condition pos operands level state has
  word_kept known contents word.ElseIf pos operands level state has = branch_end_kept level.open_at _ level state has
  word_kept known contents word.Else pos operands level state has = branch_end_kept level.open_at _ level state has
  word_kept known contents word.EndIf pos operands level state has = conditional_end_kept level.open_at _ level state has
  word_kept known contents word.Repeat pos operands level state has = repeat_kept known pos operands level state has
  word_kept known contents word.EachValue pos operands level state has = each_kept pos (irp_line operands) level state has
  word_kept known contents word.EachCharacter pos operands level state has = each_kept pos (irpc_line operands) level state has
  word_kept known contents word.EndRepeat pos operands level state has = fails_kept _ _
  word_kept known contents word.Macro pos operands level state has = define_kept pos operands level state has
  word_kept known contents word.EndMacro pos operands level state has = fails_kept _ _
  word_kept known contents word.ExitMacro pos operands level state has = exit_kept pos level state has
  word_kept known contents word.Purge pos operands level state has = purge_kept pos operands level state has
  word_kept known contents word.Include pos operands level state has = include_kept contents pos operands level state has

  labels_kept : (labels : List SpelledToken) (s : TokenStatement) (level : Level) (state : State) (bare : Turn) → Has state → Kept bare → Kept (behind_own_labels labels s level state bare)
  labels_kept [] s level state bare has is = is
  labels_kept (label ∷ others) s level state bare has is = hands_kept _ _ has

  head_by_kept : (known : Knowledge) (contents : Option Contents) (one : Option Word) (called : Option MacroAs) (s : TokenStatement) (level : Level) (state : State) → Has state → Kept (head_by known contents one called s level state)
  head_by_kept known contents (Some one) called s level state has = labels_kept _ s level state _ has (word_kept known contents one (pos_of s) (operands_in s) level state has)
  head_by_kept known contents None (Some one) s level state has = labels_kept _ s level state _ has (call_kept one (pos_of s) (operands_in s) level state has)
  head_by_kept known contents None None s level state has = hands_kept _ _ has

  head_kept : (known : Knowledge) (contents : Option Contents) (s : TokenStatement) (level : Level) (state : State) → Has state → Kept (head known contents s level state)
  unfolding head
  head_kept known contents s level state has = head_by_kept known contents _ _ s level state has

  closes_kept : (open_at : List Pos) (state : State) → Has state → Kept (list.close_by open_at state)
  closes_kept [] state has = goes_kept _ has
  closes_kept (first ∷ others) state has = fails_kept _ _

  level_kept : (known : Knowledge) (contents : Option Contents) (statements : List TokenStatement) (level : Level) (state : State) → Has state → Kept (list.turn_level known contents statements level state)
  level_kept known contents [] level state has = closes_kept level.open_at state has
  level_kept known contents (s ∷ rest) level state has =
      tested_kept (nat_le list.most_given state.given) _ _ (fails_kept _ _) (head_kept known contents s _ (record state { given = state.given + 1 }) has)

  levels_kept : (known : Knowledge) (contents : Option Contents) (levels : List Level) (state : State) → Has state → Kept (list.turn_levels known contents levels state)
  levels_kept known contents [] state has = ended_kept
  levels_kept known contents (level ∷ below) state has = level_kept known contents level.statements level (record state { levels = below }) has

  turn_kept : (known : Knowledge) (contents : Option Contents) (state : State) → Has state → Kept (turn known contents state)
  unfolding turn
  turn_kept known contents state has = levels_kept known contents state.levels state has

-- what becomes of a word, a call and an include, before which these files were started
pub word_starts : (known : Knowledge) (contents : Option Contents) (one : Word) (pos : Pos) (operands : List SpelledToken) (level : Level) (state : State)
    → AreFirst state.files (files_after state.files (rewritten known contents one pos operands level state))
word_starts known contents one pos operands level state =
    kept_is state.files (rewritten known contents one pos operands level state) (word_kept state.files known contents one pos operands level state (all_front state.files))

pub head_starts : (known : Knowledge) (contents : Option Contents) (one : Head) (pos : Pos) (level : Level) (state : State)
    → AreFirst state.files (files_after state.files (turned_head known contents one pos level state))
head_starts known contents (the.Word word operands) pos level state =
    kept_is state.files (turned_head known contents (the.Word word operands) pos level state)
    (tested_kept state.files (nat_le list.most_given state.given) _ _ (fails_kept state.files _ _) (word_kept state.files known contents word pos _ level (record state { given = state.given + 1 }) (all_front state.files)))
head_starts known contents (the.Call name shared operands) pos level state =
    kept_is state.files (turned_head known contents (the.Call name shared operands) pos level state)
    (tested_kept state.files (nat_le list.most_given state.given) _ _ (fails_kept state.files _ _) (call_kept state.files _ pos _ level (record state { given = state.given + 1 }) (all_front state.files)))

pub include_starts : (contents : Option Contents) (pos : Pos) (operands : List SpelledToken) (level : Level) (state : State)
    → AreFirst state.files (files_after state.files (include contents pos operands level state))
include_starts contents pos operands level state =
    kept_is state.files (include contents pos operands level state) (include_kept state.files contents pos operands level state (all_front state.files))

pub told_starts : (number : Option ℕ) (name : List ℕ) (contents : Option Contents) (state : State) → AreFirst state.files (files_after state.files (include_told number name contents state))
told_starts number name contents state = kept_is state.files (include_told number name contents state) (included_kept state.files number name contents state (all_front state.files))

-- the file that is started is the next one
name_there : (number : Option ℕ) (name : List ℕ) (found : Option (List ℕ)) (state : State) → AreFirst (state.files ++ name ∷ []) (files_after state.files (include_file number name found state))
name_there number name None state = all_front (state.files ++ name ∷ [])
name_there number name (Some bytes) state = name_read (file_statements (length state.files) bytes)
  where
    name_read : (read : Result (List TokenStatement) FileFault) → AreFirst (state.files ++ name ∷ []) (files_after state.files (start_file number name read state))
    name_read (Ok statements) = all_front (state.files ++ name ∷ [])
    name_read (Err fault) = all_front (state.files ++ name ∷ [])

pub name_starts : (number : Option ℕ) (name : List ℕ) (contents : Option Contents) (state : State) → AreFirst (state.files ++ name ∷ []) (files_after state.files (include_told number name contents state))
name_starts number name None state = tt
name_starts number name (Some contents) state = name_there number name (contents name) state

module _ {S F : Type 0} (placed : S → TokenStatement → Result S F) where
  -- a turn by itself
  pub same_files : (old : List (List ℕ)) (placer : S) (t : Turn) → files_of (placed_by_turn placed old placer t) ≡ files_after old t
  same_files old placer (hands s state) = by_placed (placed placer s)
    where
      by_placed : (result : Result S F) → files_of (with_placed state result) ≡ these state.files
      by_placed (Ok after) = refl
      by_placed (Err fault) = refl
  same_files old placer (goes state) = refl
  same_files old placer ended = refl
  same_files old placer (fails cause pos) = refl
  same_files old placer (breaks name fault) = refl
  same_files old placer (misses name) = refl
  same_files old placer untold = refl

module _ {S F : Type 0} (placed : S → TokenStatement → Result S F) (known : S → Knowledge) (contents : Option Contents) where
  behind_placed : (n : ℕ) (old : List (List ℕ)) (state : State) (result : Result S F) → IsFront old state.files
      → ((placer : S) → AreFirst state.files (files_of (steps placed known contents n state placer))) → AreFirst old (files_of (and_then (steps placed known contents n) (with_placed state result)))
  behind_placed n old state (Ok placer) has more = first_of_front old state.files (files_of (steps placed known contents n state placer)) has (more placer)
  behind_placed n old state (Err fault) has more = has

  behind_turn : (n : ℕ) (old : List (List ℕ)) (placer : S) (t : Turn) → AreFirst old (files_after old t)
      → ((state : State) (after : S) → AreFirst state.files (files_of (steps placed known contents n state after))) → AreFirst old (files_of (and_then (steps placed known contents n) (placed_by_turn placed old placer t)))
  behind_turn n old placer (hands s state) has more = behind_placed n old state (placed placer s) has (more state)
  behind_turn n old placer (goes state) has more = first_of_front old state.files (files_of (steps placed known contents n state placer)) has (more state placer)
  behind_turn n old placer ended has more = has
  behind_turn n old placer (fails cause pos) has more = has
  behind_turn n old placer (breaks name fault) has more = has
  behind_turn n old placer (misses name) has more = has
  behind_turn n old placer untold has more = tt

  -- however many turns follow, these files are the first
  pub files_grow : (n : ℕ) (state : State) (placer : S) → AreFirst state.files (files_of (steps placed known contents n state placer))
  unfolding steps
  files_grow zero state placer = all_front state.files
  files_grow (suc n) state placer =
      behind_turn n state.files placer (turn (known placer) contents state) (kept_is state.files (turn (known placer) contents state) (turn_kept state.files (known placer) contents state (all_front state.files))) (files_grow n)

  stays_behind : (names : List (List ℕ)) (n m : ℕ) (x : Step S F)
      → ((state : State) (placer : S) → AreFirst names (files_of (steps placed known contents n state placer)) → is_final (steps placed known contents m state placer) ≡ true
      → AreFirst names (files_of (steps placed known contents m state placer)))
      → AreFirst names (files_of (and_then (steps placed known contents n) x)) → is_final (and_then (steps placed known contents m) x) ≡ true
      → AreFirst names (files_of (and_then (steps placed known contents m) x))
  stays_behind names n m (step.goes state placer) more is final = more state placer is final
  stays_behind names n m (step.ended files placer) more is final = is
  stays_behind names n m (step.fails files cause pos placer) more is final = is
  stays_behind names n m (step.refused files fault) more is final = is
  stays_behind names n m (step.misses files) more is final = is
  stays_behind names n m step.untold more is final = is

  -- the first of the files on the way are the first at the outcome
  pub first_stay : (names : List (List ℕ)) (n m : ℕ) (state : State) (placer : S) → AreFirst names (files_of (steps placed known contents n state placer)) → is_final (steps placed known contents m state placer) ≡ true
      → AreFirst names (files_of (steps placed known contents m state placer))
  unfolding steps
  first_stay names zero m state placer is final = first_of_front names state.files (files_of (steps placed known contents m state placer)) is (files_grow m state placer)
  first_stay names (suc n) zero state placer is final = absurd (false≢true final)
  first_stay names (suc n) (suc m) state placer is final = stays_behind names n m (step.step placed known contents state placer) (first_stay names n m) is final
