-- The symbols of labels.
use Rattle.std.specs.Prelude.{ℕ, Result}
use Rattle.asm_operands.specs.declared.place_faults.PlaceCause.{PlaceCause}
use Rattle.asm_base.specs.declared.positions.Pos.{Pos}
use Rattle.asm_base.specs.declared.tokens.TokenKind.{TokenKind}
use Rattle.asm_base.specs.declared.tokens.TokenKind.TheVariants.{Digits}
use Rattle.asm_base.specs.Tokens.{SpelledToken}
use Rattle.asm_expr.specs.declared.naming.Name.TheVariants as naming
use Rattle.expr_texts.specs.Numbers.{numeral}
use Rattle.asm_base.specs.Refusals.{◌>>=◌}
use Rattle.asm_operands.specs.ExprFaults.{in_statement}
use Rattle.asm_uses.specs.Tables.{Table, symbol_of, next_symbol}
use Rattle.asm_operands.specs.Operands.{symbol_name}

-- the symbol of a name, by its token
abbrev pub named_symbol : Pos → SpelledToken → Table → Result (Table × ℕ) PlaceCause
named_symbol pos token table = symbol_name token >>= λ name. symbol_of pos (naming.Plain name) table

-- the symbol of a label, by its token: that of the next instance of a number
abbrev pub label_by : TokenKind → Pos → SpelledToken → Table → Result (Table × ℕ) PlaceCause
label_by Digits pos token table = in_statement (numeral 10 token.bytes) >>= λ number. next_symbol pos number table
label_by _ pos token table = named_symbol pos token table

-- the symbol that a label is of
unfoldable pub label_symbol : Pos → SpelledToken → Table → Result (Table × ℕ) PlaceCause
label_symbol pos token table = label_by token.kind pos token table
