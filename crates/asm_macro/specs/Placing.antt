-- Placing the statements of a list that is rewritten: each is placed when it is handed out, by what is known then.
use Rattle.std.specs.Prelude.{ℕ, zero, suc, ◌+◌, ◌*◌, List, [], ◌∷◌, ◌++◌, length, map, Option, Result, Ok, Err}
use Rattle.asm_base.specs.declared.positions.Pos.{Pos}
use Rattle.asm_base.specs.Inputs.{Contents}
use Rattle.asm_lines.specs.declared.faults.LineCause.{LineCause}
use Rattle.asm_lines.specs.Statements.{StatementAt}
use Rattle.asm_lines.specs.NextStatements.{TokenStatement, in_tokens}
use Rattle.macro_words.specs.declared.causes.MacroCause.{MacroCause}
use Rattle.macro_words.specs.Statements.{line_cause}
use Rattle.macro_words.specs.Conditions.{Knowledge}
use Rattle.macro_words.specs.Files.{line_of_cause}
use Rattle.asm_macro.specs.Expansion as list
use Rattle.asm_macro.specs.Expansion.{State, Turn, turn, started, most_given}

-- what comes of the head: the list and the placer go on, or the list is at its end; or the list, a file that it starts, or placing has a
-- fault; or a file is not there, or nothing is told of it. With all but the last come the names of the files that were started, of which one
-- that is not there is the last
pub data Step (S F : Type 0) : Type 0 where
  goes : State → S → Step S F
  ended : List (List ℕ) → S → Step S F
  fails : List (List ℕ) → MacroCause → Pos → S → Step S F
  refused : List (List ℕ) → F → Step S F
  misses : List (List ℕ) → Step S F
  untold : Step S F

-- the list goes on with what placing made
abbrev pub with_placed : {S F : Type 0} → State → Result S F → Step S F
with_placed state (Ok placer) = goes state placer
with_placed state (Err fault) = refused state.files fault

-- a place in the file that is started next
abbrev pub in_next_file : List (List ℕ) → ℕ → Pos
in_next_file files line = record { file = length files; line = line }

-- the pair behind a turn of the list, before which these files were started: what is handed out is placed
abbrev pub placed_by_turn : {S F : Type 0} → (S → TokenStatement → Result S F) → List (List ℕ) → S → Turn → Step S F
placed_by_turn placed files placer (list.hands statement state) = with_placed state (placed placer statement)
placed_by_turn placed files placer (list.goes state) = goes state placer
placed_by_turn placed files placer list.ended = ended files placer
placed_by_turn placed files placer (list.fails cause pos) = fails files cause pos placer
placed_by_turn placed files placer (list.breaks name fault) = fails (files ++ name ∷ []) fault.cause (in_next_file files fault.line) placer
placed_by_turn placed files placer (list.misses name) = misses (files ++ name ∷ [])
placed_by_turn placed files placer list.untold = untold

-- one turn of the list, by what the placer knows
abbrev pub step : {S F : Type 0} → (S → TokenStatement → Result S F) → (S → Knowledge) → Option Contents → State → S → Step S F
step placed known contents state placer = placed_by_turn placed state.files placer (turn (known placer) contents state)

-- what is no pair to go on from is final
abbrev pub and_then : {S F : Type 0} → (State → S → Step S F) → Step S F → Step S F
and_then more (goes state placer) = more state placer
and_then more (ended files placer) = ended files placer
and_then more (fails files cause pos placer) = fails files cause pos placer
and_then more (refused files fault) = refused files fault
and_then more (misses files) = misses files
and_then more untold = untold

-- what comes of the list after so many turns
unfoldable pub steps : {S F : Type 0} → (S → TokenStatement → Result S F) → (S → Knowledge) → Option Contents → ℕ → State → S → Step S F
steps placed known contents zero state placer = goes state placer
steps placed known contents (suc n) state placer =
    and_then (steps placed known contents n) (step placed known contents state placer)

-- no list takes more turns: each takes a statement or an end mark away, and each end mark but the first comes of a statement
unfoldable pub most_turns : ℕ
most_turns = 2 * most_given + 3

-- what comes of a source, whose name is the last of these: of its statements, or of the fault of its lines
unfoldable pub expansion : {S F : Type 0} → (S → TokenStatement → Result S F) → (S → Knowledge) → Option Contents → List (List ℕ) → S → Result (List StatementAt) LineCause → Step S F
expansion placed known contents files placer (Err cause) = fails files (line_cause cause) (record { file = 0; line = line_of_cause cause }) placer
expansion placed known contents files placer (Ok statements) = steps placed known contents most_turns (started files (map in_tokens statements)) placer

-- what is handed out behind a statement that was placed, by what is handed out from there on
abbrev pub behind_placed : {S F : Type 0} → (State → S → List TokenStatement) → State → Result S F → List TokenStatement
behind_placed more state (Ok placer) = more state placer
behind_placed more state (Err fault) = []

-- what is handed out from a turn on
abbrev pub handed_from : {S F : Type 0} → (S → TokenStatement → Result S F) → (State → S → List TokenStatement) → S → Turn → List TokenStatement
handed_from placed more placer (list.hands statement state) = statement ∷ behind_placed more state (placed placer statement)
handed_from placed more placer (list.goes state) = more state placer
handed_from placed more placer _ = []

-- the statements that are handed out in so many turns, in order
unfoldable pub handed : {S F : Type 0} → (S → TokenStatement → Result S F) → (S → Knowledge) → Option Contents → ℕ → State → S → List TokenStatement
handed placed known contents zero state placer = []
handed placed known contents (suc n) state placer =
    handed_from placed (handed placed known contents n) placer (turn (known placer) contents state)
