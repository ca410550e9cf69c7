-- The parts of a list that are files, and those that are calls and repeats, stay few.
use Rattle.std.proofs.Common.{◌≡◌, ℕ, zero, suc, ◌+◌, ◌<◌, ◌≤◌, nat_le, Bool, true, false, List, [], ◌∷◌, ◌++◌, length, cond, Option, None, Some, Result, Ok, Err, map, option_to_list, refl, sym, ap, ◌∙◌, subst, arith}
use Rattle.std.specs.List.{count_by, list_any}
use Rattle.std.proofs.lemmas.Bool.Decides.{nat_tests}
use Rattle.std.proofs.lemmas.List.Sums.{sum_by-cons}
use Rattle.std.proofs.lemmas.List.{length-map, length-reverse}
use Rattle.asm_base.specs.Tokens.{SpelledToken}
use Rattle.asm_base.specs.Inputs.{Contents}
use Rattle.asm_base.specs.declared.positions.Pos.{Pos}
use Rattle.asm_lines.specs.NextStatements.{TokenStatement}
use Rattle.macro_texts.specs.declared.causes.MacroLineCause.{MacroLineCause}
use Rattle.macro_texts.specs.Parameters.{macro_line}
use Rattle.macro_texts.specs.Repeats.{EachLineAs, irp_line, irpc_line}
use Rattle.macro_blocks.specs.declared.blocks.Ending.{Ending}
use Rattle.macro_blocks.specs.declared.blocks.Ending.TheVariants as ending
use Rattle.macro_blocks.specs.declared.blocks.Block.TheVariants as block
use Rattle.macro_blocks.specs.Blocks.{Cut, cut_block}
use Rattle.macro_blocks.specs.Levels.{Level}
use Rattle.macro_words.specs.declared.causes.MacroCause.{MacroCause}
use Rattle.macro_words.specs.declared.words.Condition.{Condition}
use Rattle.macro_words.specs.declared.words.Word.{Word}
use Rattle.macro_words.specs.declared.words.Word.TheVariants as word
use Rattle.macro_words.specs.Statements.{pos_of, operands_in, raised}
use Rattle.macro_words.specs.Conditions.{Knowledge, repeat_count}
use Rattle.macro_words.specs.Files.{FileFault, file_name}
use Rattle.asm_macro.specs.Expansion as list
use Rattle.asm_macro.specs.Expansion.{State, MacroAs, Turn, hands, goes, ended, fails, breaks, misses, untold, under, with_made, with_read, is_file_part, is_inner, is_inner_part, enter, go_on, search_branch, conditional_by, conditional, passed_over, branch_end_by, branch_end, conditional_end_by, conditional_end, with_body, repeat_copies, repeat, each_copies, each, define, call, forget, purge, after_call, is_call, exit_by, exit, start_file, include_file, include_told, include, rewritten, behind_own_labels, head_by, head, turn, started}
use Rattle.asm_macro.specs.Placing as step
use Rattle.asm_macro.specs.Placing.{with_placed, placed_by_turn, and_then, steps}
use Rattle.asm_macro.specs.Laws.{IsShallow}
use Rattle.asm_base.specs.declared.refusals.Refusal.{Refusal}
use Rattle.asm_base.specs.declared.refusals.Refusal.TheVariants as refusal
use Rattle.macro_blocks.specs.declared.frames.Frame.{Frame}
use Rattle.macro_blocks.specs.Frames.{level_of}
use Rattle.asm_macro.specs.declared.faults.ExpandFault.{ExpandFault}
use Rattle.asm_macro.specs.declared.turned.MacroFault.{MacroFault}
use Rattle.asm_macro.specs.declared.turned.Turned.{Turned}
use Rattle.asm_macro.specs.declared.turned.Turned.TheVariants as turned
use Rattle.asm_macro.specs.OpenParts.{AreFew, levels_of, WereFew}
use Rattle.asm_macro.specs.Turning.{EntersFile, IsTurn, IsWhole, KeepsFew, LeavesFew}
use Rattle.asm_macro.proofs.Stacks.{popped, pushed}

-- few parts of these are files, and few are calls and repeats
Few : List Level → Type 0
Few levels = (count_by is_file_part levels ≤ 32) × (count_by is_inner_part levels ≤ 64)

-- a part more
files_of : (level : Level) (below : List Level) → count_by is_file_part (level ∷ below) ≡ cond (list.is_file level.ends) 1 0 + count_by is_file_part below
files_of level below = sum_by-cons (λ part. cond (is_file_part part) 1 0) level below

inner_of : (level : Level) (below : List Level) → count_by is_inner_part (level ∷ below) ≡ cond (is_inner level.ends) 1 0 + count_by is_inner_part below
inner_of level below = sum_by-cons (λ part. cond (is_inner_part part) 1 0) level below

-- the same of what becomes of the head, where the list goes on
Kept : Turn → Type 0
Kept (hands s state) = Few state.levels
Kept (goes state) = Few state.levels
Kept ended = Unit {0}
Kept (fails cause pos) = Unit {0}
Kept (breaks name fault) = Unit {0}
Kept (misses name) = Unit {0}
Kept untold = Unit {0}

goes_kept : (state : State) → Few state.levels → Kept (goes state)
unfolding Kept
goes_kept state few = few

hands_kept : (s : TokenStatement) (state : State) → Few state.levels → Kept (hands s state)
unfolding Kept
hands_kept s state few = few

fails_kept : (cause : MacroCause) (pos : Pos) → Kept (fails cause pos)
unfolding Kept
fails_kept cause pos = tt

-- a part less
behind : (level : Level) (below : List Level) → Few (level ∷ below) → Few below
unfolding Few
behind level below few = (omega (arith, few.0, files_of level below), omega (arith, few.1, inner_of level below))

-- another part of the same end mark in place of one
alike : (level other : Level) (below : List Level) → other.ends ≡ level.ends → Few (level ∷ below) → Few (other ∷ below)
unfolding Few
alike level other below same few =
    let file : cond (list.is_file other.ends) 1 0 ≡ cond (list.is_file level.ends) 1 0 = ap {B = ℕ} (λ e. cond (list.is_file e) 1 0) same in
    let inner : cond (is_inner other.ends) 1 0 ≡ cond (is_inner level.ends) 1 0 = ap {B = ℕ} (λ e. cond (is_inner e) 1 0) same in
    (omega (arith, few.0, file, files_of level below, files_of other below), omega (arith, few.1, inner, inner_of level below, inner_of other below))

tested_kept : (test : Bool) (one other : Turn) → Kept one → (test ≡ false → Kept other) → Kept (cond test one other)
tested_kept true one other first second = first
tested_kept false one other first second = second refl

made_kept : {A : Type 0} (pos : Pos) (made : Result A MacroCause) (on : A → Turn) → ((x : A) → Kept (on x)) → Kept (with_made pos made on)
made_kept pos (Ok x) on all = all x
made_kept pos (Err cause) on all = fails_kept cause pos

read_kept : {A : Type 0} (pos : Pos) (read : Result A MacroLineCause) (on : A → Turn) → ((x : A) → Kept (on x)) → Kept (with_read pos read on)
read_kept pos (Ok x) on all = all x
read_kept pos (Err cause) on all = fails_kept (raised cause) pos

-- a part of a call or a repeat more
inner_more : (number : Option ℕ) (ends : Ending) (statements : List TokenStatement) (below : List Level) → is_inner ends ≡ true → count_by is_inner_part below < 64 → Few below
    → Few (record { statements = statements; ends = ends; open_at = []; call_number = number } ∷ below)
unfolding Few
inner_more number ending.File statements below inner less few = absurd cc
inner_more number ending.Call statements below inner less few =
    let part : Level = record { statements = statements; ends = ending.Call; open_at = []; call_number = number } in
    let files : count_by is_file_part (part ∷ below) ≡ 0 + count_by is_file_part below = files_of part below in
    let marks : count_by is_inner_part (part ∷ below) ≡ 1 + count_by is_inner_part below = inner_of part below in
    (omega (arith, few.0, files), omega (arith, less, marks))
inner_more number ending.Repeat statements below inner less few =
    let part : Level = record { statements = statements; ends = ending.Repeat; open_at = []; call_number = number } in
    let files : count_by is_file_part (part ∷ below) ≡ 0 + count_by is_file_part below = files_of part below in
    let marks : count_by is_inner_part (part ∷ below) ≡ 1 + count_by is_inner_part below = inner_of part below in
    (omega (arith, few.0, files), omega (arith, less, marks))

entered_kept : (pos : Pos) (number : Option ℕ) (ends : Ending) (made : Result (List TokenStatement) MacroCause) (state : State) → is_inner ends ≡ true → Few state.levels → Kept (enter pos number ends made state)
entered_kept pos number ends made state inner few =
    tested_kept (nat_le 64 (count_by is_inner_part state.levels)) _ _ (fails_kept _ _) (λ is. let less : count_by is_inner_part state.levels < 64 = grind (arith, nat_tests) in
    made_kept pos made _ (λ statements. goes_kept _ (inner_more number ends statements state.levels inner less few)))

goes_on_kept : (pos : Pos) (chosen : Bool) (level : Level) (state : State) → Few (level ∷ state.levels) → Kept (go_on pos chosen level state)
goes_on_kept pos true level state few = goes_kept _ (alike level _ state.levels refl few)
goes_on_kept pos false level state few = goes_kept _ few

branch_kept : (known : Knowledge) (pos : Pos) (found : Option Cut) (level : Level) (state : State) → Few (level ∷ state.levels) → Kept (search_branch known pos found level state)
branch_kept known pos None level state few = fails_kept _ _
branch_kept known pos (Some c) level state few = made_kept _ _ _ (λ chosen. goes_on_kept pos chosen _ state (alike level _ state.levels refl few))

held_kept : (known : Knowledge) (pos : Pos) (held : Bool) (level : Level) (state : State) → Few (level ∷ state.levels) → Kept (conditional_by known pos held level state)
held_kept known pos true level state few = goes_on_kept pos true level state few
held_kept known pos false level state few = branch_kept known pos _ level state few

conditional_kept : (known : Knowledge) (condition : Condition) (pos : Pos) (operands : List SpelledToken) (level : Level) (state : State) → Few (level ∷ state.levels) → Kept (conditional known condition pos operands level state)
unfolding conditional
conditional_kept known condition pos operands level state few = made_kept _ _ _ (λ held. held_kept known pos held level state few)

passed_kept : (pos : Pos) (found : Option Cut) (level : Level) (state : State) → Few (level ∷ state.levels) → Kept (passed_over pos found level state)
passed_kept pos None level state few = fails_kept _ _
passed_kept pos (Some c) level state few = goes_kept _ (alike level _ state.levels refl few)

branch_end_kept : (open_at : List Pos) (pos : Pos) (level : Level) (state : State) → Few (level ∷ state.levels) → Kept (branch_end_by open_at pos level state)
branch_end_kept [] pos level state few = fails_kept _ _
branch_end_kept (first ∷ others) pos level state few = passed_kept pos _ level state few

conditional_end_kept : (open_at : List Pos) (pos : Pos) (level : Level) (state : State) → Few (level ∷ state.levels) → Kept (conditional_end_by open_at pos level state)
conditional_end_kept [] pos level state few = fails_kept _ _
conditional_end_kept (first ∷ others) pos level state few = goes_kept _ (alike level _ state.levels refl few)

body_kept : (pos : Pos) (found : Option Cut) (level : Level) (state : State) (on : List TokenStatement → State → Turn) → Few (level ∷ state.levels)
    → ((body : List TokenStatement) (now : State) → Few now.levels → Kept (on body now)) → Kept (with_body pos found level state on)
body_kept pos None level state on few all = fails_kept _ _
body_kept pos (Some c) level state on few all = all c.inside _ (alike level _ state.levels refl few)

copies_kept : (pos : Pos) (number : Option ℕ) (count : ℕ) (body : List TokenStatement) (state : State) → Few state.levels → Kept (repeat_copies pos number count body state)
copies_kept pos number count [] state few = goes_kept _ few
copies_kept pos number count (first ∷ others) state few = entered_kept pos number _ _ state refl few

each_copies_kept : (pos : Pos) (number : Option ℕ) (line : EachLineAs) (body : List TokenStatement) (state : State) → Few state.levels → Kept (each_copies pos number line body state)
each_copies_kept pos number line [] state few = goes_kept _ few
each_copies_kept pos number line (first ∷ others) state few = entered_kept pos number _ _ state refl few

repeat_kept : (known : Knowledge) (pos : Pos) (operands : List SpelledToken) (level : Level) (state : State) → Few (level ∷ state.levels) → Kept (repeat known pos operands level state)
unfolding repeat
repeat_kept known pos operands level state few =
    made_kept pos (repeat_count known operands) _ (λ count. body_kept pos (cut_block block.Repeat level.statements) level state (repeat_copies pos level.call_number count) few (copies_kept pos level.call_number count))

each_kept : (pos : Pos) (read : Result EachLineAs MacroLineCause) (level : Level) (state : State) → Few (level ∷ state.levels) → Kept (each pos read level state)
unfolding each
each_kept pos read level state few =
    read_kept pos read _ (λ line. body_kept pos (cut_block block.Repeat level.statements) level state (each_copies pos level.call_number line) few (each_copies_kept pos level.call_number line))

define_kept : (pos : Pos) (operands : List SpelledToken) (level : Level) (state : State) → Few (level ∷ state.levels) → Kept (define pos operands level state)
unfolding define
define_kept pos operands level state few =
    read_kept pos (macro_line operands) _ (λ line. tested_kept (list_any (list.is_called line.name) state.macros) _ _ (fails_kept _ _) (λ is. body_kept pos (cut_block block.Macro level.statements) level state _ few (λ body now kept.
    goes_kept (list.add_macro line body now) kept)))

call_kept : (one : MacroAs) (pos : Pos) (operands : List SpelledToken) (level : Level) (state : State) → Few (level ∷ state.levels) → Kept (call one pos operands level state)
unfolding call
call_kept one pos operands level state few =
    read_kept _ _ _ (λ arguments. entered_kept pos _ _ _ (under level (record state { begun = state.begun + 1 })) refl few)

forget_kept : (pos : Pos) (name : List ℕ) (state : State) → Few state.levels → Kept (forget pos name state)
forget_kept pos name state few = tested_kept (list_any (list.is_called name) state.macros) _ _ (goes_kept (record state { macros = list.without name state.macros }) few) (λ is. fails_kept _ _)

purge_kept : (pos : Pos) (operands : List SpelledToken) (level : Level) (state : State) → Few (level ∷ state.levels) → Kept (purge pos operands level state)
unfolding purge
purge_kept pos operands level state few = made_kept _ _ _ (λ name. forget_kept pos name (under level state) few)

after_kept : (levels below : List Level) → Few levels → after_call levels ≡ Some below → Few below
unfolding after_call
after_kept [] below few is = absurd cc
after_kept (level ∷ rest) below few is = by_call (is_call level.ends) (after_kept rest below (behind level rest few)) is
  where
    by_call : (test : Bool) → (after_call rest ≡ Some below → Few below) → cond test (Some rest) (after_call rest) ≡ Some below → Few below
    by_call true more found = let same : rest ≡ below = cc in subst Few same (behind level rest few)
    by_call false more found = more found

exited_kept : (pos : Pos) (found : Option (List Level)) (state : State) → ((below : List Level) → found ≡ Some below → Few below) → Kept (exit_by pos found state)
exited_kept pos None state few = fails_kept _ _
exited_kept pos (Some levels) state few = goes_kept _ (few levels refl)

exit_kept : (pos : Pos) (level : Level) (state : State) → Few (level ∷ state.levels) → Kept (exit pos level state)
unfolding exit
exit_kept pos level state few = exited_kept _ _ state (λ below is. after_kept (level ∷ state.levels) below few is)

-- a part of a file more
file_more : (number : Option ℕ) (statements : List TokenStatement) (below : List Level) → count_by is_file_part below < 32 → Few below
    → Few (record { statements = statements; ends = ending.File; open_at = []; call_number = number } ∷ below)
unfolding Few
file_more number statements below less few =
    let part : Level = record { statements = statements; ends = ending.File; open_at = []; call_number = number } in
    let files : count_by is_file_part (part ∷ below) ≡ 1 + count_by is_file_part below = files_of part below in
    let marks : count_by is_inner_part (part ∷ below) ≡ 0 + count_by is_inner_part below = inner_of part below in
    (omega (arith, less, files), omega (arith, few.1, marks))

file_kept : (number : Option ℕ) (name : List ℕ) (read : Result (List TokenStatement) FileFault) (state : State) → count_by is_file_part state.levels < 32 → Few state.levels → Kept (start_file number name read state)
unfolding Kept
file_kept number name (Ok statements) state less few = file_more number statements state.levels less few
file_kept number name (Err fault) state less few = tt

there_kept : (number : Option ℕ) (name : List ℕ) (found : Option (List ℕ)) (state : State) → count_by is_file_part state.levels < 32 → Few state.levels → Kept (include_file number name found state)
unfolding Kept
there_kept number name None state less few = tt
there_kept number name (Some bytes) state less few = file_kept number name _ state less few

included_kept : (number : Option ℕ) (name : List ℕ) (contents : Option Contents) (state : State) → count_by is_file_part state.levels < 32 → Few state.levels → Kept (include_told number name contents state)
unfolding Kept
included_kept number name None state less few = tt
included_kept number name (Some contents) state less few = there_kept number name _ state less few

include_kept : (contents : Option Contents) (pos : Pos) (operands : List SpelledToken) (level : Level) (state : State) → Few (level ∷ state.levels) → Kept (include contents pos operands level state)
unfolding include
include_kept contents pos operands level state few =
    made_kept pos (file_name operands) _ (λ name. tested_kept (nat_le 32 (count_by is_file_part (level ∷ state.levels))) _ _ (fails_kept _ _) (λ is.
    let less : count_by is_file_part (level ∷ state.levels) < 32 = grind (arith, nat_tests) in included_kept level.call_number name contents (under level state) less few))

word_kept : (known : Knowledge) (contents : Option Contents) (one : Word) (pos : Pos) (operands : List SpelledToken) (level : Level) (state : State) → Few (level ∷ state.levels) → Kept (rewritten known contents one pos operands level state)
unfolding branch_end conditional_end
word_kept known contents (word.If condition) pos operands level state few = conditional_kept known condition pos operands level state few
word_kept known contents word.ElseIf pos operands level state few = branch_end_kept level.open_at _ level state few
word_kept known contents word.Else pos operands level state few = branch_end_kept level.open_at _ level state few
word_kept known contents word.EndIf pos operands level state few = conditional_end_kept level.open_at _ level state few
word_kept known contents word.Repeat pos operands level state few = repeat_kept known pos operands level state few
word_kept known contents word.EachValue pos operands level state few = each_kept pos (irp_line operands) level state few
word_kept known contents word.EachCharacter pos operands level state few = each_kept pos (irpc_line operands) level state few
word_kept known contents word.EndRepeat pos operands level state few = fails_kept _ _
word_kept known contents word.Macro pos operands level state few = define_kept pos operands level state few
word_kept known contents word.EndMacro pos operands level state few = fails_kept _ _
word_kept known contents word.ExitMacro pos operands level state few = exit_kept pos level state few
word_kept known contents word.Purge pos operands level state few = purge_kept pos operands level state few
word_kept known contents word.Include pos operands level state few = include_kept contents pos operands level state few

labels_kept : (labels : List SpelledToken) (s : TokenStatement) (level : Level) (state : State) (bare : Turn) → Few (level ∷ state.levels) → Kept bare → Kept (behind_own_labels labels s level state bare)
labels_kept [] s level state bare few is = is
labels_kept (label ∷ others) s level state bare few is = hands_kept _ _ (alike level _ state.levels refl few)

head_by_kept : (known : Knowledge) (contents : Option Contents) (one : Option Word) (called : Option MacroAs) (s : TokenStatement) (level : Level) (state : State) → Few (level ∷ state.levels) → Kept (head_by known contents one called s level state)
head_by_kept known contents (Some one) called s level state few = labels_kept _ s level state _ few (word_kept known contents one (pos_of s) (operands_in s) level state few)
head_by_kept known contents None (Some one) s level state few = labels_kept _ s level state _ few (call_kept one (pos_of s) (operands_in s) level state few)
head_by_kept known contents None None s level state few = hands_kept _ _ few

head_kept : (known : Knowledge) (contents : Option Contents) (s : TokenStatement) (level : Level) (state : State) → Few (level ∷ state.levels) → Kept (head known contents s level state)
unfolding head
head_kept known contents s level state few = head_by_kept known contents _ _ s level state few

closes_kept : (open_at : List Pos) (state : State) → Few state.levels → Kept (list.close_by open_at state)
closes_kept [] state few = goes_kept _ few
closes_kept (first ∷ others) state few = fails_kept _ _

level_kept : (known : Knowledge) (contents : Option Contents) (statements : List TokenStatement) (level : Level) (state : State) → Few (level ∷ state.levels) → Kept (list.turn_level known contents statements level state)
level_kept known contents [] level state few = closes_kept level.open_at state (behind level state.levels few)
level_kept known contents (s ∷ rest) level state few =
    tested_kept (nat_le list.most_given state.given) _ _ (fails_kept _ _) (λ is. head_kept known contents s _ (record state { given = state.given + 1 }) (alike level _ state.levels refl few))

levels_kept : (known : Knowledge) (contents : Option Contents) (levels : List Level) (state : State) → Few levels → Kept (list.turn_levels known contents levels state)
unfolding Kept
levels_kept known contents [] state few = tt
levels_kept known contents (level ∷ below) state few = level_kept known contents level.statements level (record state { levels = below }) few

turn_kept : (known : Knowledge) (contents : Option Contents) (state : State) → Few state.levels → Kept (turn known contents state)
unfolding turn
turn_kept known contents state few = levels_kept known contents state.levels state few

-- each part is one of a file, a call or a repeat
one_mark : (ends : Ending) → cond (list.is_file ends) 1 0 + cond (is_inner ends) 1 0 ≡ 1
one_mark ending.File = refl
one_mark ending.Call = refl
one_mark ending.Repeat = refl

all_marks : (levels : List Level) → count_by is_file_part levels + count_by is_inner_part levels ≡ length levels
all_marks [] = refl
all_marks (level ∷ below) = omega (arith, one_mark level.ends, all_marks below, files_of level below, inner_of level below)

shallow : (state : State) → Few state.levels → IsShallow state
unfolding Few
shallow state few = record { files = few.0; inner = few.1; all = omega (arith, few.0, few.1, all_marks state.levels) }

module _ {S F : Type 0} (placed : S → TokenStatement → Result S F) (known : S → Knowledge) (contents : Option Contents) where
  Later : ℕ → Type 0
  Later n = (state last : State) (placer after : S) → Few state.levels → steps placed known contents n state placer ≡ step.goes last after → IsShallow last

  placed_shallow : (n : ℕ) (state last : State) (result : Result S F) (after : S) → Later n → Few state.levels → and_then (steps placed known contents n) (with_placed state result) ≡ step.goes last after → IsShallow last
  unfolding Later
  placed_shallow n state last (Ok placer) after more few is = more state last placer after few is
  placed_shallow n state last (Err fault) after more few is = absurd cc

  turned_shallow : (n : ℕ) (files : List (List ℕ)) (placer after : S) (last : State) (t : Turn) → Later n → Kept t → and_then (steps placed known contents n) (placed_by_turn placed files placer t) ≡ step.goes last after → IsShallow last
  unfolding Later Kept
  turned_shallow n files placer after last (hands s state) more kept is = placed_shallow n state last (placed placer s) after more kept is
  turned_shallow n files placer after last (goes state) more kept is = more state last placer after kept is
  turned_shallow n files placer after last ended more kept is = absurd cc
  turned_shallow n files placer after last (fails cause pos) more kept is = absurd cc
  turned_shallow n files placer after last (breaks name fault) more kept is = absurd cc
  turned_shallow n files placer after last (misses name) more kept is = absurd cc
  turned_shallow n files placer after last untold more kept is = absurd cc

  stays : (n : ℕ) → Later n
  unfolding Later steps
  stays zero state last placer after few is = let same : state ≡ last = cc in subst IsShallow same (shallow state few)
  stays (suc n) state last placer after few is = turned_shallow n state.files placer after last (turn (known placer) contents state) (stays n) (turn_kept (known placer) contents state few) is

  pub stay_shallow : (files : List (List ℕ)) (statements : List TokenStatement) (placer : S) (n : ℕ) (state : State) (after : S)
      → steps placed known contents n (started files statements) placer ≡ step.goes state after → IsShallow state
  unfolding Later Few
  stay_shallow files statements placer n state after is = stays n (started files statements) state placer after (file_more None statements [] (omega arith) (omega arith, omega arith)) is

-- Of the open parts of the program

to_few : (levels : List Level) → AreFew levels → Few levels
unfolding Few
to_few levels few = (few.files, few.inner)

are_few : (levels : List Level) → Few levels → AreFew levels
unfolding Few
are_few levels few = record { files = few.0; inner = few.1 }

-- a part less, and another one of the same end mark
pub fewer_parts : (level : Level) (below : List Level) → AreFew (level ∷ below) → AreFew below
fewer_parts level below few = are_few below (behind level below (to_few _ few))

pub same_parts : (level other : Level) (below : List Level) → other.ends ≡ level.ends → AreFew (level ∷ below) → AreFew (other ∷ below)
same_parts level other below same few = are_few _ (alike level other below same (to_few _ few))

-- a file alone
pub one_file : (level : Level) → level.ends ≡ ending.File → AreFew (level ∷ [])
one_file level is =
    let file : cond (list.is_file level.ends) 1 0 ≡ 1 = ap {B = ℕ} (λ e. cond (list.is_file e) 1 0) is in
    let inner : cond (is_inner level.ends) 1 0 ≡ 0 = ap {B = ℕ} (λ e. cond (is_inner e) 1 0) is in
    record { files = omega (arith, file, files_of level []); inner = omega (arith, inner, inner_of level []) }

-- a file more
pub file_more_parts : {E : Type 0} (result : Result Turned E) (level : Level) (old new : List Level) → EntersFile result → new ≡ old → count_by is_file_part (level ∷ old) < 32 → AreFew (level ∷ old) → LeavesFew result level new
file_more_parts (Ok turned.Stays) level old new is same less few = absurd is
file_more_parts (Ok turned.Leaves) level old new is same less few = absurd is
file_more_parts (Err e) level old new is same less few = tt
file_more_parts (Ok (turned.Enters inner)) level old new is same less few =
    let file : cond (list.is_file (level_of inner).ends) 1 0 ≡ 1 = ap {B = ℕ} (λ e. cond (list.is_file e) 1 0) is in
    let mark : cond (is_inner (level_of inner).ends) 1 0 ≡ 0 = ap {B = ℕ} (λ e. cond (is_inner e) 1 0) is in
    let most = few.inner in
    subst (λ levels. AreFew (level_of inner ∷ level ∷ levels)) (sym same)
    (record { files = omega (arith, file, less, files_of (level_of inner) (level ∷ old)); inner = omega (arith, mark, most, inner_of (level_of inner) (level ∷ old)) })

-- a word or a call that becomes this leaves few parts
turned_few : (answer : Result Turned (Refusal MacroFault)) (wanted : Turn) (level : Level) (now : State) → IsTurn answer wanted level now → Kept wanted → LeavesFew answer level now.levels
unfolding Kept
turned_few (Ok turned.Stays) wanted level now is kept = let here = subst Kept is kept in are_few _ here
turned_few (Ok (turned.Enters inner)) wanted level now is kept = let here = subst Kept is kept in are_few _ here
turned_few (Ok turned.Leaves) wanted level now is kept = let here = subst Kept is kept in are_few _ here
turned_few (Err (refusal.Fault fault)) wanted level now is kept = tt
turned_few (Err refusal.NoMemory) wanted level now is kept = tt

whole_few : {F : Type 0} (answer : Result Turned (Refusal MacroFault)) (got : Result Turned (ExpandFault F)) (level : Level) (below : List Level) → IsWhole answer got → LeavesFew answer level below → LeavesFew got level below
whole_few (Ok turned) got level below whole few = subst (λ r. LeavesFew r level below) (sym whole) few
whole_few (Err (refusal.Fault fault)) got level below whole few = subst (λ r. LeavesFew r level below) (sym whole.0) tt
whole_few (Err refusal.NoMemory) got level below whole few = subst (λ r. LeavesFew r level below) (sym whole) tt

pub refused_few : {F : Type 0} (refused : Refusal MacroFault) (got : Result Turned (ExpandFault F)) (level : Level) (below : List Level) → IsWhole (Err refused) got → LeavesFew got level below
refused_few refused got level below whole = whole_few (Err refused) got level below whole tt

pub word_few : {F : Type 0} (known : Knowledge) (contents : Option Contents) (one : Word) (pos : Pos) (operands : List SpelledToken) (before level : Level) (old now : State) (answer : Result Turned (Refusal MacroFault)) (got : Result Turned (ExpandFault F))
    → IsWhole answer got → IsTurn answer (rewritten known contents one pos operands before old) level now → KeepsFew before old got level now
word_few known contents one pos operands before level old now answer got whole is few =
    whole_few answer got level now.levels whole (turned_few answer _ level now is (word_kept known contents one pos operands before old (to_few _ few)))

pub call_few : {F : Type 0} (one : MacroAs) (pos : Pos) (operands : List SpelledToken) (before level : Level) (old now : State) (answer : Result Turned (Refusal MacroFault)) (got : Result Turned (ExpandFault F))
    → IsWhole answer got → IsTurn answer (call one pos operands before old) level now → KeepsFew before old got level now
call_few one pos operands before level old now answer got whole is few =
    whole_few answer got level now.levels whole (turned_few answer _ level now is (call_kept one pos operands before old (to_few _ few)))

-- the part that was taken away was one of them
pub were_few : (frames below : List Frame) (top : Option Frame) → frames ≡ below ++ option_to_list top → AreFew (levels_of frames) → WereFew top (levels_of below)
were_few frames below None e few = tt
were_few frames below (Some top) e few = subst AreFew (popped frames below (Some top) e) few

pub left_few : (frames below : List Frame) (top : Option Frame) → frames ≡ below ++ option_to_list top → AreFew (levels_of frames) → AreFew (levels_of below)
left_few frames below None e few = subst AreFew (popped frames below None e) few
left_few frames below (Some top) e few = fewer_parts (level_of top) (levels_of below) (subst AreFew (popped frames below (Some top) e) few)

-- a part that is put in front
pub put_few : (below : List Frame) (top : Frame) → AreFew (level_of top ∷ levels_of below) → AreFew (levels_of (below ++ top ∷ []))
put_few below top few = subst AreFew (sym (pushed below top)) few

-- as many parts as frames
pub open_parts : (frames : List Frame) → length (levels_of frames) ≡ length frames
open_parts frames = length-reverse (map level_of frames) ∙ length-map frames level_of

pub few_parts : (levels : List Level) → AreFew levels → length levels ≤ 96
few_parts levels few = let files = few.files in let inner = few.inner in omega (arith, files, inner, all_marks levels)
