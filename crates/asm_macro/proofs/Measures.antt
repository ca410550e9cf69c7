-- Each turn lowers a measure of the list: so every list comes to its outcome.
use Rattle.std.proofs.Common.{◌≡◌, ℕ, zero, suc, ◌+◌, ◌*◌, ◌-◌, ◌<◌, ◌≤◌, nat_le, Bool, true, false, List, [], ◌∷◌, length, cond, Option, None, Some, Result, Ok, Err, refl, ap, subst, arith}
use Rattle.std.specs.List.{count_by, list_any}
use Rattle.std.proofs.lemmas.Bool.Decides.{nat_tests}
use Rattle.asm_base.specs.Tokens.{SpelledToken}
use Rattle.asm_base.specs.Inputs.{Contents}
use Rattle.asm_base.specs.declared.positions.Pos.{Pos}
use Rattle.asm_lines.specs.NextStatements.{TokenStatement}
use Rattle.macro_texts.specs.declared.causes.MacroLineCause.{MacroLineCause}
use Rattle.macro_texts.specs.Parameters.{macro_line}
use Rattle.macro_texts.specs.Repeats.{EachLineAs, irp_line, irpc_line}
use Rattle.macro_blocks.specs.declared.blocks.Ending.{Ending}
use Rattle.macro_blocks.specs.declared.blocks.Block.TheVariants as block
use Rattle.macro_blocks.specs.Blocks.{Cut, cut_block}
use Rattle.macro_blocks.specs.Levels.{Level}
use Rattle.macro_words.specs.declared.causes.MacroCause.{MacroCause}
use Rattle.macro_words.specs.declared.causes.MacroCause.TheVariants.{NestedTooDeeply, ExpansionTooLong, MacroAlreadyDefined}
use Rattle.macro_words.specs.declared.words.Condition.{Condition}
use Rattle.macro_words.specs.declared.words.Word.{Word}
use Rattle.macro_words.specs.declared.words.Word.TheVariants as word
use Rattle.macro_words.specs.Statements.{pos_of, operands_in, raised}
use Rattle.macro_words.specs.Conditions.{Knowledge, repeat_count}
use Rattle.macro_words.specs.Files.{FileFault, file_name}
use Rattle.asm_macro.specs.Expansion as list
use Rattle.asm_macro.specs.Expansion.{State, MacroAs, Turn, hands, goes, ended, fails, breaks, misses, untold, with_made, with_read, enter, go_on, search_branch, conditional_by, conditional, passed_over, branch_end_by, branch_end, conditional_end_by, conditional_end, with_body, repeat_copies, repeat, each_copies, each, define, call, forget, purge, after_call, is_call, exit_by, exit, start_file, include_file, include_told, include, rewritten, macro_named, behind_own_labels, head_by, head, most_given, turn, started}
use Rattle.asm_macro.specs.Placing.{with_placed, placed_by_turn, and_then, steps, most_turns}
use Rattle.asm_macro.specs.Laws.{is_final}

-- so many statements left the head of this list, and it has at most so many parts
record IsWithin (left deep : ℕ) (state : State) : Type 0 where
  given : state.given ≡ left
  parts : length state.levels ≤ deep

-- the same of what becomes of the head, where the list goes on
Within : ℕ → ℕ → Turn → Type 0
Within given deep (hands s state) = IsWithin given deep state
Within given deep (goes state) = IsWithin given deep state
Within given deep ended = Unit {0}
Within given deep (fails cause pos) = Unit {0}
Within given deep (breaks name fault) = Unit {0}
Within given deep (misses name) = Unit {0}
Within given deep untold = Unit {0}

fails_within : (given deep : ℕ) (cause : MacroCause) (pos : Pos) → Within given deep (fails cause pos)
unfolding Within
fails_within given deep cause pos = tt

goes_within : (given deep : ℕ) (state : State) → state.given ≡ given → length state.levels ≤ deep → Within given deep (goes state)
unfolding Within
goes_within given deep state same few = record { given = same; parts = few }

hands_within : (given deep : ℕ) (s : TokenStatement) (state : State) → state.given ≡ given → length state.levels ≤ deep → Within given deep (hands s state)
unfolding Within
hands_within given deep s state same few = record { given = same; parts = few }

tested_within : (given deep : ℕ) (test : Bool) (one other : Turn) → Within given deep one → Within given deep other → Within given deep (cond test one other)
tested_within given deep true one other first second = first
tested_within given deep false one other first second = second

made_within : {A : Type 0} (given deep : ℕ) (pos : Pos) (made : Result A MacroCause) (on : A → Turn) → ((x : A) → Within given deep (on x)) → Within given deep (with_made pos made on)
made_within given deep pos (Ok x) on all = all x
made_within given deep pos (Err cause) on all = fails_within given deep cause pos

read_within : {A : Type 0} (given deep : ℕ) (pos : Pos) (read : Result A MacroLineCause) (on : A → Turn) → ((x : A) → Within given deep (on x)) → Within given deep (with_read pos read on)
read_within given deep pos (Ok x) on all = all x
read_within given deep pos (Err cause) on all = fails_within given deep (raised cause) pos

entered_within : (deep : ℕ) (pos : Pos) (number : Option ℕ) (ends : Ending) (made : Result (List TokenStatement) MacroCause) (state : State) → length state.levels + 1 ≤ deep → Within state.given deep (enter pos number ends made state)
entered_within deep pos number ends made state few =
    tested_within state.given deep _ _ _ (fails_within _ _ _ _) (made_within state.given deep pos made _ (λ statements. goes_within state.given deep _ refl (omega (arith, few))))

goes_on_within : (deep : ℕ) (pos : Pos) (chosen : Bool) (level : Level) (state : State) → length state.levels + 1 ≤ deep → Within state.given deep (go_on pos chosen level state)
goes_on_within deep pos true level state few = goes_within _ _ _ refl (omega (arith, few))
goes_on_within deep pos false level state few = goes_within _ _ _ refl (omega (arith, few))

branch_within : (deep : ℕ) (known : Knowledge) (pos : Pos) (found : Option Cut) (level : Level) (state : State) → length state.levels + 1 ≤ deep → Within state.given deep (search_branch known pos found level state)
branch_within deep known pos None level state few = fails_within _ _ _ _
branch_within deep known pos (Some c) level state few = made_within _ _ _ _ _ (λ chosen. goes_on_within deep pos chosen _ state few)

held_within : (deep : ℕ) (known : Knowledge) (pos : Pos) (held : Bool) (level : Level) (state : State) → length state.levels + 1 ≤ deep → Within state.given deep (conditional_by known pos held level state)
held_within deep known pos true level state few = goes_on_within deep pos true level state few
held_within deep known pos false level state few = branch_within deep known pos _ level state few

conditional_within : (deep : ℕ) (known : Knowledge) (condition : Condition) (pos : Pos) (operands : List SpelledToken) (level : Level) (state : State) → length state.levels + 1 ≤ deep → Within state.given deep (conditional known condition pos operands level state)
unfolding conditional
conditional_within deep known condition pos operands level state few =
    made_within _ _ _ _ _ (λ held. held_within deep known pos held level state few)

passed_within : (deep : ℕ) (pos : Pos) (found : Option Cut) (level : Level) (state : State) → length state.levels + 1 ≤ deep → Within state.given deep (passed_over pos found level state)
passed_within deep pos None level state few = fails_within _ _ _ _
passed_within deep pos (Some c) level state few = goes_within _ _ _ refl (omega (arith, few))

branch_end_within : (deep : ℕ) (open_at : List Pos) (pos : Pos) (level : Level) (state : State) → length state.levels + 1 ≤ deep → Within state.given deep (branch_end_by open_at pos level state)
branch_end_within deep [] pos level state few = fails_within _ _ _ _
branch_end_within deep (first ∷ others) pos level state few = passed_within deep pos _ level state few

conditional_end_within : (deep : ℕ) (open_at : List Pos) (pos : Pos) (level : Level) (state : State) → length state.levels + 1 ≤ deep → Within state.given deep (conditional_end_by open_at pos level state)
conditional_end_within deep [] pos level state few = fails_within _ _ _ _
conditional_end_within deep (first ∷ others) pos level state few = goes_within _ _ _ refl (omega (arith, few))

body_within : (deep : ℕ) (pos : Pos) (found : Option Cut) (level : Level) (state : State) (on : List TokenStatement → State → Turn)
    → ((body : List TokenStatement) (now : State) → now.given ≡ state.given → length now.levels ≤ length state.levels + 1 → Within state.given deep (on body now)) → Within state.given deep (with_body pos found level state on)
body_within deep pos None level state on all = fails_within _ _ _ _
body_within deep pos (Some c) level state on all = all c.inside _ refl (omega arith)

copies_within : (deep : ℕ) (pos : Pos) (number : Option ℕ) (count : ℕ) (body : List TokenStatement) (state : State) → length state.levels + 1 ≤ deep → Within state.given deep (repeat_copies pos number count body state)
copies_within deep pos number count [] state few = goes_within _ _ _ refl (omega (arith, few))
copies_within deep pos number count (first ∷ others) state few = entered_within deep pos number _ _ state few

each_copies_within : (deep : ℕ) (pos : Pos) (number : Option ℕ) (line : EachLineAs) (body : List TokenStatement) (state : State) → length state.levels + 1 ≤ deep → Within state.given deep (each_copies pos number line body state)
each_copies_within deep pos number line [] state few = goes_within _ _ _ refl (omega (arith, few))
each_copies_within deep pos number line (first ∷ others) state few = entered_within deep pos number _ _ state few

-- where so many statements left the head before, too
as_before : (deep given : ℕ) (state : State) (t : Turn) → state.given ≡ given → Within state.given deep t → Within given deep t
as_before deep given state t same is = subst (λ n. Within n deep t) same is

repeat_within : (deep : ℕ) (known : Knowledge) (pos : Pos) (operands : List SpelledToken) (level : Level) (state : State) → length state.levels + 2 ≤ deep → Within state.given deep (repeat known pos operands level state)
unfolding repeat
repeat_within deep known pos operands level state few =
    made_within state.given deep pos (repeat_count known operands) _ (λ count. body_within deep pos (cut_block block.Repeat level.statements) level state (repeat_copies pos level.call_number count) (λ body now same more.
    as_before deep state.given now _ same (copies_within deep pos level.call_number count body now (omega (arith, few, more)))))

each_within : (deep : ℕ) (pos : Pos) (read : Result EachLineAs MacroLineCause) (level : Level) (state : State) → length state.levels + 2 ≤ deep → Within state.given deep (each pos read level state)
unfolding each
each_within deep pos read level state few =
    read_within state.given deep pos read _ (λ line. body_within deep pos (cut_block block.Repeat level.statements) level state (each_copies pos level.call_number line) (λ body now same more.
    as_before deep state.given now _ same (each_copies_within deep pos level.call_number line body now (omega (arith, few, more)))))

define_within : (deep : ℕ) (pos : Pos) (operands : List SpelledToken) (level : Level) (state : State) → length state.levels + 1 ≤ deep → Within state.given deep (define pos operands level state)
unfolding define
define_within deep pos operands level state few =
    read_within state.given deep pos (macro_line operands) _ (λ line. tested_within state.given deep (list_any (list.is_called line.name) state.macros) _ _ (fails_within state.given deep MacroAlreadyDefined pos) (body_within deep pos (cut_block block.Macro level.statements) level state _ (λ body now same more.
    goes_within state.given deep (list.add_macro line body now) same (omega (arith, few, more)))))

call_within : (deep : ℕ) (one : MacroAs) (pos : Pos) (operands : List SpelledToken) (level : Level) (state : State) → length state.levels + 2 ≤ deep → Within state.given deep (call one pos operands level state)
unfolding call
call_within deep one pos operands level state few =
    read_within _ _ _ _ _ (λ arguments. entered_within deep pos _ _ _ (list.under level (record state { begun = state.begun + 1 })) (omega (arith, few)))

forget_within : (deep : ℕ) (pos : Pos) (name : List ℕ) (state : State) → length state.levels ≤ deep → Within state.given deep (forget pos name state)
forget_within deep pos name state few = tested_within _ _ _ _ _ (goes_within _ _ _ refl few) (fails_within _ _ _ _)

purge_within : (deep : ℕ) (pos : Pos) (operands : List SpelledToken) (level : Level) (state : State) → length state.levels + 1 ≤ deep → Within state.given deep (purge pos operands level state)
unfolding purge
purge_within deep pos operands level state few = made_within _ _ _ _ _ (λ name. forget_within deep pos name (list.under level state) (omega (arith, few)))

after_within : (levels below : List Level) → after_call levels ≡ Some below → length below ≤ length levels
unfolding after_call
after_within [] below is = absurd cc
after_within (level ∷ rest) below is = by_call (is_call level.ends) (after_within rest below) is
  where
    by_call : (test : Bool) → (after_call rest ≡ Some below → length below ≤ length rest) → cond test (Some rest) (after_call rest) ≡ Some below → length below ≤ length (level ∷ rest)
    by_call true more found = let same : rest ≡ below = cc in omega (arith, ap length same)
    by_call false more found = omega (arith, more found)

exited_within : (deep : ℕ) (pos : Pos) (found : Option (List Level)) (state : State) → ((below : List Level) → found ≡ Some below → length below ≤ deep) → Within state.given deep (exit_by pos found state)
exited_within deep pos None state few = fails_within _ _ _ _
exited_within deep pos (Some levels) state few = goes_within _ _ _ refl (few levels refl)

exit_within : (deep : ℕ) (pos : Pos) (level : Level) (state : State) → length state.levels + 1 ≤ deep → Within state.given deep (exit pos level state)
unfolding exit
exit_within deep pos level state few =
    exited_within deep _ _ state (λ below is. let shorter = after_within (level ∷ state.levels) below is in omega (arith, few, shorter))

file_within : (deep : ℕ) (number : Option ℕ) (name : List ℕ) (read : Result (List TokenStatement) FileFault) (state : State) → length state.levels + 1 ≤ deep → Within state.given deep (start_file number name read state)
unfolding Within
file_within deep number name (Ok statements) state few = record { given = refl; parts = omega (arith, few) }
file_within deep number name (Err fault) state few = tt

told_within : (deep : ℕ) (number : Option ℕ) (name : List ℕ) (found : Option (List ℕ)) (state : State) → length state.levels + 1 ≤ deep → Within state.given deep (include_file number name found state)
unfolding Within
told_within deep number name None state few = tt
told_within deep number name (Some bytes) state few = file_within deep number name _ state few

included_within : (deep : ℕ) (number : Option ℕ) (name : List ℕ) (contents : Option Contents) (state : State) → length state.levels + 1 ≤ deep → Within state.given deep (include_told number name contents state)
unfolding Within
included_within deep number name None state few = tt
included_within deep number name (Some contents) state few = told_within deep number name _ state few

include_within : (deep : ℕ) (contents : Option Contents) (pos : Pos) (operands : List SpelledToken) (level : Level) (state : State) → length state.levels + 2 ≤ deep → Within state.given deep (include contents pos operands level state)
unfolding include
include_within deep contents pos operands level state few =
    made_within state.given deep pos (file_name operands) _ (λ name. tested_within state.given deep (nat_le 32 (count_by list.is_file_part (level ∷ state.levels))) _ _ (fails_within state.given deep NestedTooDeeply pos) (included_within deep level.call_number name contents (list.under level state) (omega (arith, few))))

word_within : (deep : ℕ) (known : Knowledge) (contents : Option Contents) (one : Word) (pos : Pos) (operands : List SpelledToken) (level : Level) (state : State) → length state.levels + 2 ≤ deep → Within state.given deep (rewritten known contents one pos operands level state)
unfolding branch_end conditional_end
word_within deep known contents (word.If condition) pos operands level state few = conditional_within deep known condition pos operands level state (omega (arith, few))
word_within deep known contents word.ElseIf pos operands level state few = branch_end_within deep level.open_at _ level state (omega (arith, few))
word_within deep known contents word.Else pos operands level state few = branch_end_within deep level.open_at _ level state (omega (arith, few))
word_within deep known contents word.EndIf pos operands level state few = conditional_end_within deep level.open_at _ level state (omega (arith, few))
word_within deep known contents word.Repeat pos operands level state few = repeat_within deep known pos operands level state few
word_within deep known contents word.EachValue pos operands level state few = each_within deep pos (irp_line operands) level state few
word_within deep known contents word.EachCharacter pos operands level state few = each_within deep pos (irpc_line operands) level state few
word_within deep known contents word.EndRepeat pos operands level state few = fails_within _ _ _ _
word_within deep known contents word.Macro pos operands level state few = define_within deep pos operands level state (omega (arith, few))
word_within deep known contents word.EndMacro pos operands level state few = fails_within _ _ _ _
word_within deep known contents word.ExitMacro pos operands level state few = exit_within deep pos level state (omega (arith, few))
word_within deep known contents word.Purge pos operands level state few = purge_within deep pos operands level state (omega (arith, few))
word_within deep known contents word.Include pos operands level state few = include_within deep contents pos operands level state few

labels_within : (deep : ℕ) (labels : List SpelledToken) (s : TokenStatement) (level : Level) (state : State) (bare : Turn) → length state.levels + 1 ≤ deep → Within state.given deep bare → Within state.given deep (behind_own_labels labels s level state bare)
labels_within deep [] s level state bare few is = is
labels_within deep (label ∷ others) s level state bare few is = hands_within _ _ _ _ refl (omega (arith, few))

head_by_within : (deep : ℕ) (known : Knowledge) (contents : Option Contents) (one : Option Word) (called : Option MacroAs) (s : TokenStatement) (level : Level) (state : State) → length state.levels + 2 ≤ deep → Within state.given deep (head_by known contents one called s level state)
head_by_within deep known contents (Some one) called s level state few = labels_within deep _ s level state _ (omega (arith, few)) (word_within deep known contents one (pos_of s) (operands_in s) level state few)
head_by_within deep known contents None (Some one) s level state few = labels_within deep _ s level state _ (omega (arith, few)) (call_within deep one (pos_of s) (operands_in s) level state few)
head_by_within deep known contents None None s level state few = hands_within _ _ _ _ refl (omega (arith, few))

head_within : (deep : ℕ) (known : Knowledge) (contents : Option Contents) (s : TokenStatement) (level : Level) (state : State) → length state.levels + 2 ≤ deep → Within state.given deep (head known contents s level state)
unfolding head
head_within deep known contents s level state few = head_by_within deep known contents _ _ s level state few

-- twice the statements that may still leave the head, and the parts
abbrev pub measure : State → ℕ
measure state = 2 * (most_given - state.given) + length state.levels

-- where the list goes on, its measure is below this
abbrev Lower : ℕ → Turn → Type 0
Lower most (hands s state) = measure state < most
Lower most (goes state) = measure state < most
Lower most ended = Unit {0}
Lower most (fails cause pos) = Unit {0}
Lower most (breaks name fault) = Unit {0}
Lower most (misses name) = Unit {0}
Lower most untold = Unit {0}

lower_within : (most given deep : ℕ) (t : Turn) → 2 * (most_given - given) + deep < most → Within given deep t → Lower most t
unfolding Within
lower_within most given deep (hands s state) less is = let same = is.given in let few = is.parts in omega (arith, less, same, few)
lower_within most given deep (goes state) less is = let same = is.given in let few = is.parts in omega (arith, less, same, few)
lower_within most given deep ended less is = tt
lower_within most given deep (fails cause pos) less is = tt
lower_within most given deep (breaks name fault) less is = tt
lower_within most given deep (misses name) less is = tt
lower_within most given deep untold less is = tt

closes_lower : (most : ℕ) (open_at : List Pos) (state : State) → measure state < most → Lower most (list.close_by open_at state)
closes_lower most [] state less = less
closes_lower most (first ∷ others) state less = tt

tested_lower : (most : ℕ) (test : Bool) (cause : MacroCause) (pos : Pos) (other : Turn) → (test ≡ false → Lower most other) → Lower most (cond test (fails cause pos) other)
tested_lower most true cause pos other less = tt
tested_lower most false cause pos other less = less refl

level_lower : (known : Knowledge) (contents : Option Contents) (statements : List TokenStatement) (level : Level) (state : State) → Lower (measure state + 1) (list.turn_level known contents statements level state)
level_lower known contents [] level state = closes_lower _ level.open_at state (omega arith)
level_lower known contents (s ∷ rest) level state =
    tested_lower (measure state + 1) (nat_le most_given state.given) ExpansionTooLong (pos_of s) _ (λ is. let more : state.given < most_given = grind (arith, nat_tests) in
    lower_within (measure state + 1) (state.given + 1) (length state.levels + 2) _ (omega (arith, more)) (head_within (length state.levels + 2) known contents s _ _ (omega arith)))

levels_lower : (known : Knowledge) (contents : Option Contents) (levels : List Level) (state : State) → Lower (2 * (most_given - state.given) + length levels) (list.turn_levels known contents levels state)
levels_lower known contents [] state = tt
levels_lower known contents (level ∷ below) state =
    let count : measure (record state { levels = below }) + 1 ≡ 2 * (most_given - state.given) + length (level ∷ below) = omega arith in
    subst (λ n. Lower n (list.turn_level known contents level.statements level (record state { levels = below }))) count (level_lower known contents level.statements level (record state { levels = below }))

-- each turn lowers the measure
lowers : (known : Knowledge) (contents : Option Contents) (state : State) → Lower (measure state) (turn known contents state)
unfolding turn
lowers known contents state = levels_lower known contents state.levels state

module _ {S F : Type 0} (placed : S → TokenStatement → Result S F) (known : S → Knowledge) (contents : Option Contents) where
  placed_final : (n : ℕ) (state : State) (result : Result S F) → ((placer : S) → is_final (steps placed known contents n state placer) ≡ true)
      → is_final (and_then (steps placed known contents n) (with_placed state result)) ≡ true
  placed_final n state (Ok placer) more = more placer
  placed_final n state (Err fault) more = refl

  turn_final : (n : ℕ) (files : List (List ℕ)) (placer : S) (t : Turn) → Lower n t
      → ((state : State) (after : S) → measure state < n → is_final (steps placed known contents n state after) ≡ true)
      → is_final (and_then (steps placed known contents n) (placed_by_turn placed files placer t)) ≡ true
  turn_final n files placer (hands s state) less more =
      let lower : measure state < n = less in
      placed_final n state (placed placer s) (λ after. more state after lower)
  turn_final n files placer (goes state) less more =
      let lower : measure state < n = less in
      more state placer lower
  turn_final n files placer ended less more = refl
  turn_final n files placer (fails cause pos) less more = refl
  turn_final n files placer (breaks name fault) less more = refl
  turn_final n files placer (misses name) less more = refl
  turn_final n files placer untold less more = refl

  lower_more : (most more : ℕ) (t : Turn) → most ≤ more → Lower most t → Lower more t
  lower_more most more (hands s state) few less = omega (arith, few, less)
  lower_more most more (goes state) few less = omega (arith, few, less)
  lower_more most more ended few less = tt
  lower_more most more (fails cause pos) few less = tt
  lower_more most more (breaks name fault) few less = tt
  lower_more most more (misses name) few less = tt
  lower_more most more untold few less = tt

  -- a list comes to its outcome in more turns than its measure
  pub ends_by : (n : ℕ) (state : State) (placer : S) → measure state < n → is_final (steps placed known contents n state placer) ≡ true
  unfolding steps
  ends_by zero state placer less = absurd (omega (arith, less))
  ends_by (suc n) state placer less =
      turn_final n state.files placer (turn (known placer) contents state) (lower_more (measure state) n _ (omega (arith, less)) (lowers (known placer) contents state)) (ends_by n)

  pub all_end : (files : List (List ℕ)) (statements : List TokenStatement) (placer : S) → is_final (steps placed known contents most_turns (started files statements) placer) ≡ true
  unfolding most_turns
  all_end files statements placer = ends_by (2 * most_given + 3) (started files statements) placer (omega arith)
