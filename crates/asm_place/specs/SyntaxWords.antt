-- The directives of the syntax of instructions (GNU as manual, "AT&T Syntax versus Intel Syntax").
use Rattle.std.specs.Prelude.{◌&&◌, Bool, List, [], ◌∷◌, codes, Result, Ok, Err, if◌then◌else◌}
use Rattle.std.specs.Str.{bytes_eq}
use Rattle.asm_base.specs.Tokens.{SpelledToken}
use Rattle.asm_operands.specs.declared.place_faults.PlaceCause.{PlaceCause}
use Rattle.asm_operands.specs.declared.place_faults.PlaceCause.TheVariants.{BadOperand}
use Rattle.asm_operands.specs.Operands.{is_name}
use Rattle.asm_words.specs.declared.directives.Syntax.{Syntax}
use Rattle.asm_words.specs.declared.directives.Syntax.TheVariants.{Att, Intel}
use Rattle.asm_values.specs.State.{Placed}

-- instructions are in this syntax from here on
abbrev pub with_syntax : Syntax → Placed → Placed
with_syntax syntax placed = record placed { syntax = syntax }

-- the word behind the directive says how registers are named: with `%` in AT&T syntax, and without in Intel syntax
abbrev pub says_names : Syntax → SpelledToken → Bool
says_names Att word = is_name word && bytes_eq word.bytes (codes "prefix")
says_names Intel word = is_name word && bytes_eq word.bytes (codes "noprefix")

-- the syntax by its directive: the word may be left out in AT&T syntax alone
unfoldable pub place_syntax : Syntax → List SpelledToken → Placed → Result Placed PlaceCause
place_syntax Att [] placed = Ok (with_syntax Att placed)
place_syntax Intel [] placed = Err BadOperand
place_syntax syntax (word ∷ []) placed = if says_names syntax word then Ok (with_syntax syntax placed) else Err BadOperand
place_syntax syntax (word ∷ more ∷ rest) placed = Err BadOperand
