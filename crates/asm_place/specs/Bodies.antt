-- Statements in two parts: the labels in front, and what stands behind them.
use Rattle.std.specs.Prelude.{◌≡◌, ◌&&◌, not, List, [], ◌∷◌, Result, if◌then◌else◌}
use Rattle.asm_base.specs.Refusals.{◌>>=◌}
use Rattle.asm_base.specs.Tokens.{SpelledToken}
use Rattle.asm_base.specs.declared.positions.Pos.{Pos}
use Rattle.asm_lines.specs.NextStatements.{TokenStatement}
use Rattle.asm_operands.specs.declared.place_faults.PlaceCause.{PlaceCause}
use Rattle.asm_operands.specs.Operands.{is_name, is_label, names_symbol, is_assignment, begins_with_dot}
use Rattle.asm_values.specs.State.{Placed}
use Rattle.asm_words.specs.Directives.{directive_of}
use Rattle.asm_place.specs.declared.bodies.Body.{Body}
use Rattle.asm_place.specs.declared.bodies.Body.TheVariants as body
use Rattle.asm_place.specs.declared.place_faults.FaultAt.{FaultAt}
use Rattle.asm_place.specs.Instructions.{behind_labels}
use Rattle.asm_place.specs.Placing.{place_tokens}
use Rattle.asm_place.specs.Sources.{place}

-- the labels in front
unfoldable pub labels_of : List SpelledToken → List SpelledToken
labels_of [] = []
labels_of (token ∷ []) = []
labels_of (first ∷ second ∷ rest) = if is_label first second then first ∷ second ∷ labels_of rest else []

-- what tokens are that no label stands in front of
abbrev pub body_of : List SpelledToken → Body
body_of [] = body.Nothing
body_of (first ∷ rest) =
    if names_symbol first && is_assignment rest then body.Assignment
    else (if not (is_name first) then body.Unknown
    else (if begins_with_dot first.bytes then body.Directed (directive_of first.bytes)
    else body.Instruction))

-- the labels of a statement alone
abbrev pub front : TokenStatement → TokenStatement
front s = record s { tokens = labels_of s.tokens }

-- the statement without its labels
abbrev pub back : TokenStatement → TokenStatement
back s = record s { tokens = behind_labels s.tokens }

-- tokens placed in two parts: the labels in front, and then what stands behind them
abbrev pub tokens_in_two : Pos → List SpelledToken → Placed → Result Placed PlaceCause
tokens_in_two pos tokens placed = place_tokens pos (labels_of tokens) placed >>= place_tokens pos (behind_labels tokens)

-- a statement placed in two parts
abbrev pub place_in_two : TokenStatement → Placed → Result Placed FaultAt
place_in_two s placed = place (front s) placed >>= place (back s)

-- labels change symbols alone
pub record AreLabels (before after : Placed) : Type 0 where
  pub sections : after.sections ≡ before.sections
  pub current : after.current ≡ before.current
  pub previous : after.previous ≡ before.previous
  pub stack : after.stack ≡ before.stack
  pub syntax : after.syntax ≡ before.syntax
  pub procedures : after.procedures ≡ before.procedures
  pub lines : after.lines ≡ before.lines
  pub no_warn : after.no_warn ≡ before.no_warn
  pub notes : after.notes ≡ before.notes
