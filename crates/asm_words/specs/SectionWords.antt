-- The operands of `.section` (GNU as manual, ".section", ELF version): a name, the letters of flags, a type, the size of entries, and the signature of a group
-- with a word on what a linker keeps of it.
use Rattle.std.specs.Prelude.{ℕ, ◌+◌, ◌==◌, ◌&&◌, ◌||◌, Bool, true, false, List, [], ◌∷◌, flat_map, length, codes, Option, None, Some, Result, Ok, Err, if◌then◌else◌}
use Rattle.std.specs.List.{list_all, list_any}
use Rattle.std.specs.Str.{bytes_eq}
use Rattle.asm_operands.specs.declared.place_faults.PlaceCause.{PlaceCause}
use Rattle.asm_operands.specs.declared.place_faults.PlaceCause.TheVariants.{BadOperand, BadSection}
use Rattle.asm_base.specs.declared.tokens.TokenKind.{TokenKind}
use Rattle.asm_base.specs.declared.tokens.TokenKind.TheVariants.{Name, Digits}
use Rattle.asm_base.specs.Tokens.{SpelledToken}
use Rattle.asm_expr.specs.Trees.{Tree}
use Rattle.asm_base.specs.Refusals.{◌>>=◌}
use Rattle.asm_operands.specs.Operands.{is_name, is_mark, is_dot, checked_name, symbol_name, string_of, needed}
use Rattle.asm_operands.specs.Expressions.{expression_of, no_more}

-- the second token stands right behind the first
abbrev pub follows : SpelledToken → SpelledToken → Bool
follows first second = second.start == first.start + length first.bytes

-- the tokens stand side by side, without blanks between
unfoldable pub are_adjacent : List SpelledToken → Bool
are_adjacent [] = true
are_adjacent (token ∷ []) = true
are_adjacent (first ∷ second ∷ rest) = follows first second && are_adjacent (second ∷ rest)

-- the token is a word: a name, or name bytes that begin with a digit
abbrev pub is_word_kind : TokenKind → Bool
is_word_kind Name = true
is_word_kind Digits = true
is_word_kind _ = false

-- a part of a section's name without quotes: name bytes, `$` among them where it begins no name, or `-`
abbrev pub is_name_part : SpelledToken → Bool
is_name_part token = is_word_kind token.kind || is_mark 45 token || is_mark 36 token

-- a section's name without quotes: parts without blanks between, one at least
abbrev pub is_joined : List SpelledToken → Bool
is_joined [] = false
is_joined (token ∷ rest) = list_all is_name_part (token ∷ rest) && are_adjacent (token ∷ rest)

-- the bytes of tokens, one after the other
abbrev pub joined_bytes : List SpelledToken → List ℕ
joined_bytes tokens = flat_map (λ part. part.bytes) tokens

-- the name of a section, quoted or not
unfoldable pub section_name : List SpelledToken → Result (List ℕ) PlaceCause
section_name operand = if is_joined operand then Ok (joined_bytes operand) else (string_of operand >>= checked_name)

-- the token is the `@` or `%` that stands before the name of a type
abbrev pub begins_type : SpelledToken → Bool
begins_type token = is_mark 64 token || is_mark 37 token

-- the name of a section's type
unfoldable pub type_name : List SpelledToken → Result (List ℕ) PlaceCause
type_name (mark ∷ name ∷ []) = if begins_type mark && is_name name then Ok name.bytes else Err BadOperand
type_name _ = Err BadOperand

-- the same, where it may be missing: behind a comma it is due
abbrev pub missing_or : {A : Type 0} → (List SpelledToken → Result A PlaceCause) → List (List SpelledToken) → Result (Option A × List (List SpelledToken)) PlaceCause
missing_or give [] = Ok (None, [])
missing_or give (operand ∷ operands) = give operand >>= λ made. Ok (Some made, operands)

-- an expression that may be missing, where one may stand
abbrev pub expression_if : Bool → List (List SpelledToken) → Result (Option Tree × List (List SpelledToken)) PlaceCause
expression_if true operands = missing_or expression_of operands
expression_if false operands = Ok (None, operands)

-- the same, where one may stand
abbrev pub operand_if : {A : Type 0} → (List SpelledToken → Result A PlaceCause) → Bool → List (List SpelledToken) → Result (Option A × List (List SpelledToken)) PlaceCause
operand_if give true operands = missing_or give operands
operand_if give false operands = Ok (None, operands)

-- the signature of a group: the name of a symbol, which `.` without quotes is not
unfoldable pub signature_of : List SpelledToken → Result (List ℕ) PlaceCause
signature_of (token ∷ []) = if is_dot token then Err BadOperand else symbol_name token
signature_of _ = Err BadOperand

-- a word: one name
unfoldable pub word_of : List SpelledToken → Result (List ℕ) PlaceCause
word_of (token ∷ []) = if is_name token then Ok token.bytes else Err BadOperand
word_of _ = Err BadOperand

-- what `.section` says; the linkage is the word behind the signature
pub record SectionWords : Type 0 where
  pub name : List ℕ
  pub flags : Option (List ℕ)
  pub kind : Option (List ℕ)
  pub entry_size : Option Tree
  pub signature : Option (List ℕ)
  pub linkage : Option (List ℕ)

-- the letters of the flags have this one
abbrev pub has_letter : ℕ → List ℕ → Bool
has_letter letter letters = list_any (λ byte. byte == letter) letters

-- `M`: the section may be merged, and has entries of one size
abbrev pub says_merge : Option (List ℕ) → Bool
says_merge None = false
says_merge (Some letters) = has_letter 77 letters

-- `G`: the section is in a group
abbrev pub says_grouped : Option (List ℕ) → Bool
says_grouped None = false
says_grouped (Some letters) = has_letter 71 letters

-- the operands of `.section`, from left to right
unfoldable pub section_words : List (List SpelledToken) → Result SectionWords PlaceCause
section_words operands =
    needed section_name operands >>= λ name. missing_or string_of name.1 >>= λ flags. missing_or type_name flags.1 >>= λ kind.
    expression_if (says_merge flags.0) kind.1 >>= λ size. operand_if signature_of (says_grouped flags.0) size.1 >>= λ signature.
    operand_if word_of (says_grouped flags.0) signature.1 >>= λ linkage.
    no_more linkage.1 (record { name = name.0; flags = flags.0; kind = kind.0; entry_size = size.0; signature = signature.0; linkage = linkage.0 })

-- whether a linker keeps one alone of the groups of a signature with this word behind it, which can only be `comdat`
abbrev pub comdat_by : Option (List ℕ) → Result Bool PlaceCause
comdat_by None = Ok false
comdat_by (Some word) = if bytes_eq word (codes "comdat") then Ok true else Err BadSection

-- the group that the words say, by its signature, and whether a linker keeps one alone of that: with `G` the signature has to be there
abbrev pub group_by : Bool → Option (List ℕ) → Option (List ℕ) → Result (Option (List ℕ × Bool)) PlaceCause
group_by false signature linkage = Ok None
group_by true None linkage = Err BadSection
group_by true (Some signature) linkage = comdat_by linkage >>= λ comdat. Ok (Some (signature, comdat))

-- the same of all words
abbrev pub said_group : SectionWords → Result (Option (List ℕ × Bool)) PlaceCause
said_group words = group_by (says_grouped words.flags) words.signature words.linkage

-- `sh_flags` that a letter asks for (gABI, chapter 4, "sh_flags")
abbrev pub flag_if : ℕ → ℕ → List ℕ → ℕ
flag_if letter flag letters = if has_letter letter letters then flag else 0

-- `a`, `w`, `x`, `M`, `S`, `G`, `T`
abbrev pub is_flag_letter : ℕ → Bool
is_flag_letter byte = (byte == 97) || (byte == 119) || (byte == 120) || (byte == 77) || (byte == 83) || (byte == 71)
    || (byte == 84)

-- `sh_flags` of the letters
unfoldable pub letter_flags : List ℕ → ℕ
letter_flags letters =
    flag_if 119 1 letters + flag_if 97 2 letters + flag_if 120 4 letters + flag_if 77 16 letters + flag_if 83 32 letters
    + flag_if 71 512 letters + flag_if 84 1024 letters

-- the flags that the letters ask for; another letter is no flag
unfoldable pub said_flags : List ℕ → Result ℕ PlaceCause
said_flags letters = if list_all is_flag_letter letters then Ok (letter_flags letters) else Err BadSection

-- `sh_type` by its name (gABI, chapter 4, "sh_type")
unfoldable pub said_kind : List ℕ → Result ℕ PlaceCause
said_kind name =
    if bytes_eq name (codes "progbits") then Ok 1
    else (if bytes_eq name (codes "note") then Ok 7
    else (if bytes_eq name (codes "nobits") then Ok 8
    else (if bytes_eq name (codes "init_array") then Ok 14
    else (if bytes_eq name (codes "fini_array") then Ok 15
    else (if bytes_eq name (codes "preinit_array") then Ok 16
    else Err BadSection)))))
