-- Arguments put into the text of a body (GNU as manual, ".macro": `\` and a name, `\@`, `\()`).
use Rattle.std.specs.Prelude.{ℕ, zero, suc, ◌==◌, Bool, not, List, [], ◌∷◌, ◌++◌, take, if◌then◌else◌, Option, Some, None}
use Rattle.std.specs.List.{find, list_any, prefix_len}
use Rattle.std.specs.Option.{option_map}
use Rattle.std.specs.Str.{bytes_eq}
use Rattle.std.specs.Fmt.{decimal}
use Rattle.asm_base.specs.ByteClasses.{is_name_start, is_name_byte, begins_with}
use Rattle.macro_texts.specs.Arguments.{ArgumentAs}

-- any byte but a backslash stands for itself
abbrev pub is_plain : ℕ → Bool
is_plain byte = not (byte == 92)

-- a backslash stands in the body
abbrev pub has_backslash : List ℕ → Bool
has_backslash body = list_any (λ byte. byte == 92) body

-- the parameter has this name
abbrev pub has_name : List ℕ → ArgumentAs → Bool
has_name name argument = bytes_eq argument.name name

-- its text
abbrev pub text_in : ArgumentAs → List ℕ
text_in argument = argument.text

-- the text of the parameter of this name, if there is one
unfoldable pub argument_named : List ArgumentAs → List ℕ → Option (List ℕ)
argument_named arguments name = option_map text_in (find (has_name name) arguments)

-- what stands for a backslash and bytes behind it, and how many of those it takes
pub record PutAs : Type 0 where
  pub text : List ℕ
  pub taken : ℕ

-- a backslash that stays
abbrev pub stays : PutAs
stays = record { text = 92 ∷ []; taken = 0 }

-- the text of a parameter in place of its name, or a backslash before another name
abbrev pub put_named : Option (List ℕ) → ℕ → PutAs
put_named None taken = stays
put_named (Some text) taken = record { text = text; taken = taken }

-- the longest name that begins with this byte
abbrev pub longest_name : ℕ → List ℕ → List ℕ
longest_name first rest = first ∷ take (prefix_len is_name_byte rest) rest

-- by the byte behind the backslash: the number, nothing, or a parameter of the longest name
unfoldable pub put_by : List ArgumentAs → ℕ → ℕ → List ℕ → PutAs
put_by arguments number first rest =
    if first == 64 then record { text = decimal number; taken = 1 }
    else (if first == 40 then (if begins_with 41 rest then record { text = []; taken = 2 } else stays)
    else (if is_name_start first then put_named (argument_named arguments (longest_name first rest)) (suc (prefix_len is_name_byte rest))
    else stays))

-- what stands for a backslash before these bytes
abbrev pub put_at : List ArgumentAs → ℕ → List ℕ → PutAs
put_at arguments number [] = stays
put_at arguments number (first ∷ rest) = put_by arguments number first rest

-- a body with arguments put in, the first few bytes of which are left out
unfoldable pub put_from : List ArgumentAs → ℕ → ℕ → List ℕ → List ℕ
put_from arguments number left_out [] = []
put_from arguments number (suc left_out) (byte ∷ rest) = put_from arguments number left_out rest
put_from arguments number zero (byte ∷ rest) =
    if is_plain byte then (byte ∷ put_from arguments number zero rest)
    else (put_at arguments number rest).text ++ put_from arguments number (put_at arguments number rest).taken rest

-- a body with arguments put in, and this number in place of `\@`
abbrev pub put : List ArgumentAs → ℕ → List ℕ → List ℕ
put arguments number body = put_from arguments number 0 body
