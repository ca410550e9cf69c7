-- What holds of every list that is rewritten.
use Rattle.std.specs.Prelude.{◌≡◌, ℕ, ◌+◌, ◌≤◌, Bool, true, false, List, length, count_by, All, Option, None, Result, Ok, Err}
use Rattle.asm_base.specs.Inputs.{Contents}
use Rattle.asm_lines.specs.NextStatements.{TokenStatement}
use Rattle.asm_lines.specs.Placing.{placed_in_order}
use Rattle.macro_words.specs.Statements.{word_in}
use Rattle.macro_words.specs.Conditions.{Knowledge}
use Rattle.asm_macro.specs.Expansion.{State, is_file_part, is_inner_part, most_given, started}
use Rattle.asm_macro.specs.Placing.{Step, goes, ended, refused, steps, handed, most_turns}

-- there is no list to go on with
abbrev pub is_final : {S F : Type 0} → Step S F → Bool
is_final (goes state placer) = false
is_final _ = true

-- a list has one outcome, however many turns are looked at
abbrev pub HasOneOutcome : {S F : Type 0} → (S → TokenStatement → Result S F) → (S → Knowledge) → List (List ℕ) → List TokenStatement → Option Contents → S → Type 0
HasOneOutcome placed known files statements contents placer =
    (n m : ℕ) → is_final (steps placed known contents n (started files statements) placer) ≡ true
    → is_final (steps placed known contents m (started files statements) placer) ≡ true
    → steps placed known contents n (started files statements) placer ≡ steps placed known contents m (started files statements) placer

-- every list comes to its outcome in the most turns
abbrev pub Ends : {S F : Type 0} → (S → TokenStatement → Result S F) → (S → Knowledge) → List (List ℕ) → List TokenStatement → Option Contents → S → Type 0
Ends placed known files statements contents placer =
    is_final (steps placed known contents most_turns (started files statements) placer) ≡ true

-- where the list comes to its end, the statements that were handed out, placed in order, make what was made
abbrev pub PlacesHanded : {S F : Type 0} → (S → TokenStatement → Result S F) → (S → Knowledge) → List (List ℕ) → List TokenStatement → Option Contents → S → Type 0
PlacesHanded {S} placed known files statements contents placer =
    (n : ℕ) (names : List (List ℕ)) (whole : S) → steps placed known contents n (started files statements) placer ≡ ended names whole
    → placed_in_order placed placer (handed placed known contents n (started files statements) placer) ≡ Ok whole

-- placing came to its end, or to a fault
abbrev pub outcome : {S F : Type 0} → List (List ℕ) → Result S F → Step S F
outcome files (Ok placer) = ended files placer
outcome files (Err fault) = refused files fault

-- no word of expansion stands in the statement
abbrev pub IsPlain : TokenStatement → Type 0
IsPlain statement = word_in statement ≡ None

-- statements without such a word, if there are not too many, are placed in order
abbrev pub PlacesPlain : {S F : Type 0} → (S → TokenStatement → Result S F) → (S → Knowledge) → List (List ℕ) → List TokenStatement → Option Contents → S → Type 0
PlacesPlain placed known files statements contents placer =
    All IsPlain statements → length statements ≤ most_given
    → steps placed known contents (length statements + 2) (started files statements) placer ≡ outcome files (placed_in_order placed placer statements)

-- at most 32 files are open, and 64 calls and repeats: so at most 96 end marks are in the list
pub record IsShallow (state : State) : Type 0 where
  pub files : count_by is_file_part state.levels ≤ 32
  pub inner : count_by is_inner_part state.levels ≤ 64
  pub all : length state.levels ≤ 96

-- the list is shallow after every number of turns
abbrev pub StaysShallow : {S F : Type 0} → (S → TokenStatement → Result S F) → (S → Knowledge) → List (List ℕ) → List TokenStatement → Option Contents → S → Type 0
StaysShallow {S} placed known files statements contents placer =
    (n : ℕ) (state : State) (after : S) → steps placed known contents n (started files statements) placer ≡ goes state after → IsShallow state
