-- How the tokens behind `.loc`, and behind `.file` with a number, are cut (GNU as manual, ".loc", ".file"): blanks alone stand between their parts.
use Rattle.std.specs.Prelude.{ℕ, suc, ◌&&◌, ◌||◌, Bool, true, false, List, [], ◌∷◌, take, drop, codes, Option, None, Some, if◌then◌else◌}
use Rattle.std.specs.Str.{bytes_eq}
use Rattle.asm_base.specs.declared.tokens.TokenKind.{TokenKind}
use Rattle.asm_base.specs.declared.tokens.TokenKind.TheVariants.{Operator, Other}
use Rattle.asm_base.specs.Tokens.{SpelledToken}
use Rattle.asm_operands.specs.Operands.{is_name, is_mark}
use Rattle.asm_line_tables.specs.declared.words.LocMark.TheVariants.{BasicBlock, PrologueEnd, EpilogueBegin}
use Rattle.asm_line_tables.specs.declared.words.LocOption.{LocOption}
use Rattle.asm_line_tables.specs.declared.words.LocOption.TheVariants.{Mark, Value}
use Rattle.asm_line_tables.specs.declared.words.LocValue.TheVariants.{IsStmt, Isa, Discriminator}

-- the classes of names, numbers, characters and strings
abbrev pub is_value_kind : TokenKind → Bool
is_value_kind Operator = false
is_value_kind Other = false
is_value_kind _ = true

-- a value may begin with the token, which joins no two values: a name, a number, a character, a string, `(` or `~`
abbrev pub begins_value : SpelledToken → Bool
begins_value token = is_value_kind token.kind || is_mark 40 token || is_mark 126 token

-- a value may end with the token: a name, a number, a character, a string or `)`
abbrev pub ends_value : SpelledToken → Bool
ends_value token = is_value_kind token.kind || is_mark 41 token

-- how many of these tokens go on with the expression that this token is in: all before one that begins a value behind one that ends a value
abbrev pub going_on : SpelledToken → List SpelledToken → ℕ
going_on before [] = 0
going_on before (token ∷ rest) = if ends_value before && begins_value token then 0 else suc (going_on token rest)

-- how many tokens the expression at the front has: the first one, and those that go on with it
abbrev pub front_length : List SpelledToken → ℕ
front_length [] = 0
front_length (token ∷ rest) = suc (going_on token rest)

-- the expression at the front
abbrev pub front : List SpelledToken → List SpelledToken
front tokens = take (front_length tokens) tokens

-- what stands behind it
abbrev pub behind_front : List SpelledToken → List SpelledToken
behind_front tokens = drop (front_length tokens) tokens

-- the option of `.loc` that has this name
unfoldable pub option_named : List ℕ → Option LocOption
option_named name =
    if bytes_eq name (codes "is_stmt") then Some (Value IsStmt)
    else (if bytes_eq name (codes "discriminator") then Some (Value Discriminator)
    else (if bytes_eq name (codes "isa") then Some (Value Isa)
    else (if bytes_eq name (codes "basic_block") then Some (Mark BasicBlock)
    else (if bytes_eq name (codes "prologue_end") then Some (Mark PrologueEnd)
    else (if bytes_eq name (codes "epilogue_begin") then Some (Mark EpilogueBegin)
    else None)))))

-- the option that a token names
abbrev pub option_of : SpelledToken → Option LocOption
option_of token = if is_name token then option_named token.bytes else None
