-- Branches of conditionals (GNU as manual, ".if"): which statement begins one, and whether that is chosen.
use Rattle.std.specs.Prelude.{Bool, true, false, List, Option, Some, Result, Ok, Err}
use Rattle.asm_base.specs.Tokens.{SpelledToken}
use Rattle.asm_lines.specs.NextStatements.{TokenStatement}
use Rattle.macro_words.specs.declared.causes.MacroCause.{MacroCause}
use Rattle.macro_words.specs.declared.words.Condition.TheVariants.{NotZero}
use Rattle.macro_words.specs.declared.words.Word.{Word}
use Rattle.macro_words.specs.declared.words.Word.TheVariants as word
use Rattle.macro_words.specs.Statements.{word_in, operands_in}
use Rattle.macro_words.specs.Conditions.{Knowledge, holds}

-- whether a branch begins at a statement that is chosen, where none was before
abbrev pub verdict_by : Knowledge → Option Word → List SpelledToken → Result Bool MacroCause
verdict_by known (Some word.Else) operands = Ok true
verdict_by known (Some word.ElseIf) operands = holds known NotZero operands
verdict_by known _ operands = Ok false

-- the same of a statement
unfoldable pub verdict : Knowledge → TokenStatement → Result Bool MacroCause
verdict known statement = verdict_by known (word_in statement) (operands_in statement)

-- not known false: true, or a fault
abbrev pub is_not_false : Result Bool MacroCause → Bool
is_not_false (Ok held) = held
is_not_false (Err cause) = true
