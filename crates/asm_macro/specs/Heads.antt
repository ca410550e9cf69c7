-- A word or a call at the head of the list, and what becomes of it.
use Rattle.std.specs.Prelude.{◌≡◌, ◌+◌, nat_le, List, map, drop, Option, None, Some, if◌then◌else◌}
use Rattle.asm_base.specs.Tokens.{SpelledToken, spelled}
use Rattle.asm_base.specs.Inputs.{Contents}
use Rattle.asm_base.specs.declared.positions.Pos.{Pos}
use Rattle.macro_blocks.specs.Levels.{Level}
use Rattle.macro_words.specs.declared.causes.MacroCause.TheVariants.{ExpansionTooLong}
use Rattle.macro_words.specs.Conditions.{Knowledge}
use Rattle.macro_words.specs.Statements.{named_by, word_named}
use Rattle.asm_macro.specs.declared.heads.Head.{Head}
use Rattle.asm_macro.specs.declared.heads.Head.TheVariants.{Word, Call}
use Rattle.asm_macro.specs.Expansion.{State, MacroAs, Turn, fails, rewritten, call, macro_named, most_given}
use Rattle.asm_macro.specs.Macros.{seen_as}

-- the tokens behind labels begin with this word or this call, or with neither
abbrev pub IsHead : Option Head → List SpelledToken → List MacroAs → Type 0
IsHead (Some (Word word operands)) tokens macros =
    (word_named (named_by tokens) ≡ Some word) × (map spelled operands.now ≡ drop 1 tokens)
IsHead (Some (Call name one operands)) tokens macros =
    (word_named (named_by tokens) ≡ None) × (macro_named macros (named_by tokens) ≡ Some (seen_as name.now one.value))
    × (map spelled operands.now ≡ drop 1 tokens)
IsHead None tokens macros = (word_named (named_by tokens) ≡ None) × (macro_named macros (named_by tokens) ≡ None)

-- what becomes of a word or a call
abbrev pub becomes : Knowledge → Option Contents → Head → Pos → Level → State → Turn
becomes known contents (Word word operands) pos level state = rewritten known contents word pos (map spelled operands.now) level state
becomes known contents (Call name one operands) pos level state = call (seen_as name.now one.value) pos (map spelled operands.now) level state

-- the same, where not too many statements left the head before
abbrev pub turned_head : Knowledge → Option Contents → Head → Pos → Level → State → Turn
turned_head known contents head pos level state =
    if nat_le most_given state.given then fails ExpansionTooLong pos
    else becomes known contents head pos level (record state { given = state.given + 1 })
