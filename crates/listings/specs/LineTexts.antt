-- The texts of lines, by a text for each instruction.
use Rattle.std.specs.Prelude.{ℕ, List, [], ◌∷◌, ◌++◌, Option, None, Some, codes, flat_map}
use Rattle.x86_decode.specs.declared.fronts.Front.{Front}
use Rattle.listings.specs.Digits.{byte_digits, offset_digits}
use Rattle.listings.specs.Lines.{Line}

-- a byte and a blank
abbrev pub spaced_byte : ℕ → List ℕ
spaced_byte byte = byte_digits byte ++ codes " "

-- the offset, two blanks, the bytes with a blank between, and two blanks
unfoldable pub line_head : (offset : ℕ) → List ℕ → List ℕ
line_head offset bytes = offset_digits offset ++ codes "  " ++ flat_map spaced_byte bytes ++ codes " "

-- the text of a line's instruction; a byte at which nothing reads is shown as `.byte 0xNN`
abbrev pub insn_text : (Front → List ℕ) → List ℕ → Option Front → List ℕ
insn_text text bytes None = codes ".byte 0x" ++ flat_map byte_digits bytes
insn_text text bytes (Some front) = text front

-- a line and its end
abbrev pub line_text : (Front → List ℕ) → Line → List ℕ
line_text text line = line_head line.offset line.bytes ++ insn_text text line.bytes line.front ++ codes "\n"

-- the texts of lines, one after the other
abbrev pub lines_text : (Front → List ℕ) → List Line → List ℕ
lines_text text lines = flat_map (line_text text) lines
