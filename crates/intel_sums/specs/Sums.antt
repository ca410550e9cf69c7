-- Memory in brackets as a sum: its registers, and the text that is left of it without them.
use Rattle.std.specs.Prelude.{ℕ, ◌+◌, ◌-◌, ◌==◌, ◌&&◌, ◌||◌, not, nat_lt, Bool, true, false, List, [], ◌∷◌, ◌++◌, map, take, length, Option, Some, None, Result, Ok, Err, codes, is_some, if◌then◌else◌}
use Rattle.asm_base.specs.Tokens.{SpelledToken, spelled}
use Rattle.asm_base.specs.declared.tokens.TokenKind.{TokenKind}
use Rattle.asm_base.specs.declared.tokens.TokenKind.TheVariants.{Name, Digits, Character, String, Operator, Other}
use Rattle.expr_texts.specs.Operators.{mark_of}
use Rattle.att_operands.specs.declared.faults.OperandCause.{OperandCause}
use Rattle.att_operands.specs.declared.faults.OperandCause.TheVariants.{BadOperand}
use Rattle.att_operands.specs.Marks.{mark_by}
use Rattle.att_operands.specs.Registers.{register_of}
use Rattle.intel_sums.specs.OtherRegisters.{is_other_register}
use Rattle.intel_sums.specs.declared.parts.Parts.{Parts}
use Rattle.intel_sums.specs.declared.parts.Parts.TheVariants.{Nothing}
use Rattle.intel_sums.specs.declared.parts.FoundPart.{FoundPart}
use Rattle.intel_sums.specs.declared.sums.ReadSum.{ReadSum}
use Rattle.intel_sums.specs.Parts.{part_in, with_part}

-- how far a sum was read: whether its bracket has opened, how many parentheses are open, how many tokens still belong to a part that was found,
-- the parts so far, and the text that is left without them
pub record SumSoFar : Type 0 where
  pub opened : Bool
  pub depth : ℕ
  pub passed : ℕ
  pub parts : Parts
  pub text : List SpelledToken

-- a sum of which nothing was read
abbrev pub no_sum : SumSoFar
no_sum = record { opened = false; depth = 0; passed = 0; parts = Nothing; text = [] }

-- the `+` that stands for the bracket or the `+` at a token's place
abbrev pub plus_at : SpelledToken → SpelledToken
plus_at token = record { kind = Operator; bytes = codes "+"; start = token.start }

-- `<` and `>`, and operators of two bytes but `<<` and `>>`: they bind less tightly than `+`
abbrev pub is_loose_mark : List ℕ → Bool
is_loose_mark [] = false
is_loose_mark (byte ∷ []) = (byte == 60) || (byte == 62)
is_loose_mark (first ∷ second ∷ []) = not ((first == second) && ((first == 60) || (first == 62)))
is_loose_mark (first ∷ second ∷ third ∷ others) = false

-- a comparison, `&&` or `||`
unfoldable pub is_loose : SpelledToken → Bool
is_loose token = is_loose_mark (mark_of token)

-- a name is that of a register, of one that is no operand here too
abbrev pub is_register_of : TokenKind → List ℕ → Bool
is_register_of Name bytes = is_some (register_of bytes) || is_other_register bytes
is_register_of Digits bytes = false
is_register_of Character bytes = false
is_register_of String bytes = false
is_register_of Operator bytes = false
is_register_of Other bytes = false

-- the token names a register
unfoldable pub is_register : SpelledToken → Bool
is_register token = is_register_of token.kind token.bytes

-- how many parentheses are open behind a mark, of which none closes more than there are
abbrev pub depth_behind : ℕ → ℕ → Option ℕ
depth_behind depth mark = if mark == 40 then Some (depth + 1) else (if mark == 41 then (if depth == 0 then None else Some (depth - 1)) else Some depth)

-- the token stays in the text
abbrev pub kept_at : SumSoFar → SpelledToken → Option ℕ → Result SumSoFar OperandCause
kept_at sum token None = Err BadOperand
kept_at sum token (Some depth) = Ok (record sum { depth = depth; text = sum.text ++ (token ∷ []) })

-- the same, if it is no register, and nothing that binds less tightly than `+` outside parentheses
unfoldable pub kept : SumSoFar → SpelledToken → Result SumSoFar OperandCause
kept sum token =
    if is_register token || ((sum.depth == 0) && is_loose token) then Err BadOperand else kept_at sum token (depth_behind sum.depth (mark_by (Some token)))

-- a summand begins behind the token: a part of the address, or else the `+` stays in the text
abbrev pub added : SumSoFar → SpelledToken → Option FoundPart → SumSoFar
added sum token None = record sum { opened = true; text = sum.text ++ (plus_at token ∷ []) }
added sum token (Some found) = record sum { opened = true; passed = found.length; parts = with_part sum.parts found.part }

-- the token begins a summand: it is the `[`, or a `+` behind it
abbrev pub adds : Bool → ℕ → Bool
adds opened mark = if opened then mark == 43 else mark == 91

-- the sum with a token more, in front of these others
unfoldable pub with_token : SumSoFar → SpelledToken → List SpelledToken → Result SumSoFar OperandCause
with_token sum token behind =
    if (sum.depth == 0) && adds sum.opened (mark_by (Some token)) then Ok (added sum token (part_in behind)) else kept sum token

-- the same, where the token may belong to a part that was found
abbrev pub stepped : SumSoFar → SpelledToken → List SpelledToken → Result SumSoFar OperandCause
stepped sum token behind = if nat_lt 0 sum.passed then Ok (record sum { passed = sum.passed - 1 }) else with_token sum token behind

-- the sum with these tokens more
abbrev pub sum_of : Result SumSoFar OperandCause → List SpelledToken → Result SumSoFar OperandCause
sum_of (Err fault) tokens = Err fault
sum_of (Ok sum) [] = Ok sum
sum_of (Ok sum) (token ∷ behind) = sum_of (stepped sum token behind) behind

-- the sum is whole: its bracket has opened, and no parenthesis is open
abbrev pub is_whole : SumSoFar → Bool
is_whole sum = sum.opened && (sum.depth == 0)

-- a sum of the program
abbrev pub sum_by : ReadSum → SumSoFar
sum_by sum = record { opened = sum.opened; depth = sum.depth; passed = sum.passed; parts = sum.parts; text = map spelled sum.text.items }

-- the text without its last token
abbrev pub but_last : List SpelledToken → List SpelledToken
but_last text = take (length text - 1) text
