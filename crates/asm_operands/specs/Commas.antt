-- The comma, which stands between operands and in none.
use Rattle.std.specs.Prelude.{Bool, [], ◌∷◌}
use Rattle.std.specs.Str.{bytes_eq}
use Rattle.asm_base.specs.Tokens.{SpelledToken}

-- the token is a comma
abbrev pub is_comma : SpelledToken → Bool
is_comma token = bytes_eq token.bytes (44 ∷ [])
