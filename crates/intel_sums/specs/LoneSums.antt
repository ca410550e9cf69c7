-- Usual sums: one register in the brackets, without a scale, and one or two tokens before or behind it.
use Rattle.std.specs.Prelude.{◌≡◌, ℕ, ◌-◌, ◌≤◌, ◌==◌, not, Bool, true, false, List, map, take, drop, length, Option, Some, None, Ok}
use Rattle.asm_base.specs.declared.tokens.Token.{Token}
use Rattle.asm_base.specs.declared.tokens.TokenKind.{TokenKind}
use Rattle.asm_base.specs.declared.tokens.TokenKind.TheVariants.{Name, Digits, Character, String, Operator, Other}
use Rattle.asm_base.specs.Tokens.{SpelledToken, spelled}
use Rattle.att_operands.specs.declared.registers.NamedRegister.{NamedRegister}
use Rattle.att_operands.specs.Marks.{mark_byte}
use Rattle.intel_sums.specs.declared.parts.Part.TheVariants.{Plain}
use Rattle.intel_sums.specs.declared.parts.Parts.TheVariants.{One}
use Rattle.intel_sums.specs.declared.lone_sums.LoneSum.{LoneSum}
use Rattle.intel_sums.specs.Sums.{is_register_of, no_sum, sum_of, but_last}

-- a number, a name that is no register, or `-`: it stays in the text of a sum
abbrev pub is_calm_of : TokenKind → List ℕ → Bool
is_calm_of Name bytes = not (is_register_of Name bytes)
is_calm_of Digits bytes = true
is_calm_of Character bytes = false
is_calm_of String bytes = false
is_calm_of Operator bytes = mark_byte bytes == 45
is_calm_of Other bytes = false

-- the same of a token
unfoldable pub is_calm : SpelledToken → Bool
is_calm token = is_calm_of token.kind token.bytes

-- the sum has one register, without a scale, and this text is left of it
abbrev pub IsLoneSum : List SpelledToken → NamedRegister → List SpelledToken → Type 0
IsLoneSum text named left = sum_of (Ok no_sum) text ≡ Ok (record { opened = true; depth = 0; passed = 0; parts = One (Plain named); text = left })

-- the same of a token, if there is one
abbrev pub is_calm_by : Option SpelledToken → Bool
is_calm_by None = false
is_calm_by (Some token) = is_calm token

-- what is left of a sum
abbrev pub left_in : List Token → LoneSum → List SpelledToken
left_in tokens found = map spelled (take (found.to - found.from) (drop found.from tokens))

-- the text is such a sum and its `]`
pub record IsFoundIn (tokens : List Token) (found : LoneSum) : Type 0 where
  pub order : found.from ≤ found.to
  pub within : found.to ≤ length tokens
  pub sum : IsLoneSum (but_last (map spelled tokens)) found.named (left_in tokens found)
