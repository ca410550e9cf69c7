-- The words of operands: the sizes of memory, and `OFFSET` (Intel SDM, volume 1, section 1.3.2; GNU as manual, "Memory References").
use Rattle.std.specs.Prelude.{ℕ, ◌==◌, ◌&&◌, Bool, false, List, Option, Some, None, slice_get, codes, if◌then◌else◌}
use Rattle.std.specs.Str.{str_eq_ignore_ascii_case}
use Rattle.asm_base.specs.Tokens.{SpelledToken}
use Rattle.att_operands.specs.Marks.{mark_at}

-- the token is this word, in either case
unfoldable pub is_word : List ℕ → Option SpelledToken → Bool
is_word word None = false
is_word word (Some token) = str_eq_ignore_ascii_case token.bytes word

-- how many bits memory has by a word, and 0 where the word says no size
unfoldable pub bits_of : List ℕ → ℕ
bits_of word =
    if str_eq_ignore_ascii_case word (codes "byte") then 8
    else (if str_eq_ignore_ascii_case word (codes "word") then 16
    else (if str_eq_ignore_ascii_case word (codes "dword") then 32
    else (if str_eq_ignore_ascii_case word (codes "qword") then 64
    else (if str_eq_ignore_ascii_case word (codes "xmmword") then 128 else 0))))

-- the same of a token
abbrev pub bits_by : Option SpelledToken → ℕ
bits_by None = 0
bits_by (Some token) = bits_of token.bytes

-- how many bits the words in front say, of which the second is `PTR`, and 0 where they say none
abbrev pub bits_in : List SpelledToken → ℕ
bits_in text = if is_word (codes "ptr") (slice_get text 1) then bits_by (slice_get text 0) else 0

-- so many tokens in front say that a value is an address: `OFFSET` or `OFFSET FLAT:`, or none does
abbrev pub offset_words : List SpelledToken → ℕ
offset_words text =
    if is_word (codes "offset") (slice_get text 0)
    then (if is_word (codes "flat") (slice_get text 1) && (mark_at text 2 == 58) then 3 else 1) else 0
