-- Statements that are placed and followed, one after the other.
use Rattle.std.specs.Prelude.{◌&&◌, Bool, true, false, List, [], ◌∷◌, ◌++◌, drop, take, length, Option, None, Some, Result, Ok, Err, if◌then◌else◌}
use Rattle.asm_base.specs.Refusals.{◌>>=◌}
use Rattle.asm_base.specs.declared.faults.Fault.TheVariants.{Statement}
use Rattle.asm_base.specs.declared.faults.Note.TheVariants.{CfiIgnored}
use Rattle.asm_base.specs.declared.faults.StatementFault.TheVariants.{FunctionSplit}
use Rattle.asm_base.specs.declared.notes.Noted.{Noted}
use Rattle.asm_base.specs.declared.positions.Pos.{Pos}
use Rattle.asm_base.specs.Tokens.{SpelledToken}
use Rattle.asm_lines.specs.NextStatements.{TokenStatement}
use Rattle.asm_words.specs.declared.directives.Directive.{Directive}
use Rattle.asm_words.specs.declared.directives.Directive.TheVariants as directive
use Rattle.asm_values.specs.State.{Placed, nothing_placed}
use Rattle.asm_place.specs.declared.bodies.Body.{Body}
use Rattle.asm_place.specs.declared.bodies.Body.TheVariants as body
use Rattle.asm_place.specs.declared.place_faults.FaultAt.{FaultAt}
use Rattle.asm_place.specs.Bodies.{labels_of, body_of, front, back}
use Rattle.asm_place.specs.Instructions.{behind_labels}
use Rattle.asm_place.specs.Sources.{pos_at, fault_at, place, place_all}
use Rattle.code_functions.specs.Recorded.{Recorded, all_closed}
use Rattle.code_functions.specs.Seen.{SeenItem}
use Rattle.asm_functions.specs.declared.remarks.Ignored.{Ignored}
use Rattle.asm_functions.specs.Following.{end_of, labels_begun, follow_directive, follow_insn}

-- THE STATE

-- what statements have placed, the functions so far, the first directive of a frame table, which was ignored, and whether the functions are asked for
pub record FollowedSource : Type 0 where
  pub placed : Placed
  pub functions : List (Recorded SeenItem)
  pub ignored : Option Ignored
  pub asked : Bool

-- nothing at first
abbrev pub nothing_followed : (no_warn asked : Bool) → FollowedSource
nothing_followed no_warn asked = record { placed = nothing_placed no_warn; functions = []; ignored = None; asked = asked }

-- the same with what is placed now
abbrev pub with_placed : FollowedSource → Placed → FollowedSource
with_placed f after = record f { placed = after }

-- and with these functions
abbrev pub with_functions : FollowedSource → Placed → List (Recorded SeenItem) → FollowedSource
with_functions f after functions = record f { placed = after; functions = functions }

-- THE REMARK

-- notes with the one that directives of frame tables were ignored, which stands where the first of them did
abbrev pub with_remark : (no_warn : Bool) → Option Ignored → List Noted → List Noted
with_remark no_warn None notes = notes
with_remark true (Some ignored) notes = notes
with_remark false (Some ignored) notes = take ignored.before notes ++ (record { note = CfiIgnored; pos = ignored.pos } ∷ drop ignored.before notes)

-- all notes so far
abbrev pub notes_of : FollowedSource → List Noted
notes_of f = with_remark f.placed.no_warn f.ignored f.placed.notes

-- a fault behind these notes
abbrev pub remarked_at : (no_warn : Bool) → Option Ignored → FaultAt → FaultAt
remarked_at no_warn ignored stop = record stop { notes = with_remark no_warn ignored stop.notes }

-- a fault stands behind the remark too, where a statement before it was ignored
abbrev pub remarked : FollowedSource → Result FollowedSource FaultAt → Result FollowedSource FaultAt
remarked f (Ok more) = Ok more
remarked f (Err stop) = Err (remarked_at f.placed.no_warn f.ignored stop)

-- STATEMENTS

-- these tokens as a statement
abbrev pub at : Pos → List SpelledToken → TokenStatement
at pos tokens = record { file = pos.file; line = pos.line; tokens = tokens }

-- the first directive that was ignored
abbrev pub first_ignored : Option Ignored → Ignored → Option Ignored
first_ignored (Some first) next = Some first
first_ignored None next = Some next

-- a directive of a frame table is ignored, whatever its operands
abbrev pub ignored_by : Pos → FollowedSource → FollowedSource
ignored_by pos f = record f { ignored = first_ignored f.ignored (record { pos = pos; before = length f.placed.notes }) }

-- the place of a statement
abbrev pub place_of : TokenStatement → Pos
place_of s = pos_at s.file s.line

-- a statement is placed, and then it does this to the functions, by what was placed before and is behind it
abbrev pub stepped : TokenStatement → ((there after : Placed) → List (Recorded SeenItem) → List (Recorded SeenItem)) → FollowedSource → Result FollowedSource FaultAt
stepped s change f = place s f.placed >>= λ after. Ok (with_functions f after (change f.placed after f.functions))

-- the directive is one of a frame table
abbrev pub is_frame : Directive → Bool
is_frame (directive.Frame frame) = true
is_frame _ = false

-- a directive without labels
abbrev pub directive_followed : Directive → TokenStatement → FollowedSource → Result FollowedSource FaultAt
directive_followed found s f =
    if is_frame found then Ok (ignored_by (place_of s) f) else stepped s (follow_directive found (place_of s) (drop 1 s.tokens)) f

-- the functions behind an instruction, or the fault that it splits one
abbrev pub unless_split : Pos → FollowedSource → Placed → Option (List (Recorded SeenItem)) → Result FollowedSource FaultAt
unless_split pos f after (Some functions) = Ok (with_functions f after functions)
unless_split pos f after None = Err (fault_at (Statement FunctionSplit) pos after.notes)

-- an instruction without labels
abbrev pub insn_followed : TokenStatement → FollowedSource → Result FollowedSource FaultAt
insn_followed s f = place s f.placed >>= λ after. unless_split (place_of s) f after (follow_insn (place_of s) s.tokens f.placed after f.functions)

-- a statement without labels, by what it is
abbrev pub body_followed : Body → TokenStatement → FollowedSource → Result FollowedSource FaultAt
body_followed body.Nothing s f = stepped s (λ there after functions. functions) f
body_followed body.Assignment s f = stepped s (λ there after functions. functions) f
body_followed (body.Directed None) s f = stepped s (λ there after functions. functions) f
body_followed (body.Directed (Some found)) s f = directive_followed found s f
body_followed body.Instruction s f = insn_followed s f
body_followed body.Unknown s f = stepped s (λ there after functions. functions) f

-- the labels of a statement: functions begin at them, by what was placed before
abbrev pub labels_followed : TokenStatement → FollowedSource → Result FollowedSource FaultAt
labels_followed s f = stepped (front s) (λ before there. labels_begun (place_of s) (labels_of s.tokens) before) f

-- a statement: its labels, and then what stands behind them
unfoldable pub statement_followed : TokenStatement → FollowedSource → Result FollowedSource FaultAt
statement_followed s f = labels_followed s f >>= body_followed (body_of (behind_labels s.tokens)) (back s)

-- a statement that is handed out, placed, and followed where that is asked for
unfoldable pub place_followed : TokenStatement → FollowedSource → Result FollowedSource FaultAt
place_followed s f = if f.asked then remarked f (statement_followed s f) else (place s f.placed >>= λ after. Ok (with_placed f after))

-- all statements in order, up to the first that has a fault
unfoldable pub follow_all : List TokenStatement → FollowedSource → Result FollowedSource FaultAt
follow_all [] f = Ok f
follow_all (s ∷ later) f = place_followed s f >>= follow_all later

-- THE END OF THE SOURCE

-- all functions that are open there end, each where its section does
abbrev pub functions_at_end : FollowedSource → List (Recorded SeenItem)
functions_at_end f = all_closed (end_of f.placed.sections) f.functions

-- WHAT IS PLACED OF THEM

-- statements that are placed, and no more
abbrev pub placed_alone : List TokenStatement → FollowedSource → Result FollowedSource FaultAt
placed_alone statements f = place_all statements f.placed >>= λ after. Ok (with_placed f after)

-- what stands behind labels is a directive of a frame table
abbrev pub is_frame_body : Body → Bool
is_frame_body body.Nothing = false
is_frame_body body.Assignment = false
is_frame_body (body.Directed None) = false
is_frame_body (body.Directed (Some found)) = is_frame found
is_frame_body body.Instruction = false
is_frame_body body.Unknown = false

-- the part of a statement that is placed: where directives of frame tables are ignored, the labels alone in front of one
abbrev pub placed_part : (asked : Bool) → TokenStatement → TokenStatement
placed_part asked s = if asked && is_frame_body (body_of (behind_labels s.tokens)) then front s else s
