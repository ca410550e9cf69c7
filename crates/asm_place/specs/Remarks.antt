-- Faults and warnings that a source asks for (GNU as manual, ".err", ".error", ".warning").
use Rattle.std.specs.Prelude.{ℕ, ◌-◌, Bool, true, false, List, [], ◌∷◌, length, slice_get, Option, None, Some, Result, Ok, Err}
use Rattle.std.specs.Result.{result_ok}
use Rattle.asm_base.specs.Refusals.{◌>>=◌}
use Rattle.asm_base.specs.Tokens.{SpelledToken}
use Rattle.asm_base.specs.declared.faults.Note.TheVariants.{Written}
use Rattle.asm_base.specs.declared.positions.Pos.{Pos}
use Rattle.asm_operands.specs.declared.place_faults.PlaceCause.{PlaceCause}
use Rattle.asm_operands.specs.declared.place_faults.PlaceCause.TheVariants.{ErrorDirective, BadOperand}
use Rattle.asm_operands.specs.Operands.{string_by_kind}
use Rattle.asm_values.specs.State.{Placed, with_notes}
use Rattle.asm_declarations.specs.Idents.{one_string}

-- `.err` stands alone
abbrev pub place_err : List SpelledToken → Result Placed PlaceCause
place_err [] = Err ErrorDirective
place_err (token ∷ rest) = Err BadOperand

-- a fault: `.error` with one string, or `.err`
unfoldable pub place_error : Bool → List SpelledToken → Result Placed PlaceCause
place_error false tokens = place_err tokens
place_error true tokens = one_string tokens >>= λ text. Err ErrorDirective

-- `.warning`: a note with one string
unfoldable pub place_warning : Pos → List SpelledToken → Placed → Result Placed PlaceCause
place_warning pos tokens placed = one_string tokens >>= λ text. Ok (with_notes (record { note = Written text; pos = pos } ∷ []) placed)

-- what the string stands for that a token is, if it is one
abbrev pub string_if : SpelledToken → Option (List ℕ)
string_if token = result_ok (string_by_kind token.kind token.bytes)

-- the same of a token that may be missing
abbrev pub string_in : Option SpelledToken → Option (List ℕ)
string_in None = None
string_in (Some token) = string_if token

-- what the string stands for that a statement ends with, as one of `.error` does and one of `.err` does not
abbrev pub last_string : List SpelledToken → Option (List ℕ)
last_string tokens = string_in (slice_get tokens (length tokens - 1))
