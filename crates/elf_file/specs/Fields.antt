-- The fields of ELF64 structures, low byte first (gABI, chapter 4, "Data Representation").
use Rattle.std.specs.Prelude.{ℕ, ◌%◌, ◌^◌, List, [], ◌∷◌, drop, slice_index}
use Rattle.byteorder.specs.Endian.{little_bytes, little_number}

-- the four bytes that an ELF file begins with (gABI, chapter 4, "ELF Identification")
abbrev pub magic : List ℕ
magic = 0x7f ∷ 0x45 ∷ 0x4c ∷ 0x46 ∷ []

-- an Elf64_Half: the low 2 bytes of the number
unfoldable pub half : ℕ → List ℕ
half n = little_bytes 2 (n % 2 ^ 16)

-- an Elf64_Word: the low 4 bytes of the number
unfoldable pub word : ℕ → List ℕ
word n = little_bytes 4 (n % 2 ^ 32)

-- an Elf64_Xword: the low 8 bytes of the number
unfoldable pub xword : ℕ → List ℕ
xword n = little_bytes 8 n

-- the byte at this offset
abbrev pub byte_at : List ℕ → ℕ → ℕ
byte_at bytes offset = slice_index bytes offset

-- the Elf64_Half at this offset
unfoldable pub half_at : List ℕ → ℕ → ℕ
half_at bytes offset = little_number 2 (drop offset bytes)

-- the Elf64_Word at this offset
unfoldable pub word_at : List ℕ → ℕ → ℕ
word_at bytes offset = little_number 4 (drop offset bytes)

-- the Elf64_Xword at this offset
unfoldable pub xword_at : List ℕ → ℕ → ℕ
xword_at bytes offset = little_number 8 (drop offset bytes)
