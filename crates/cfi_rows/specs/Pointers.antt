-- How pointers are written in frame tables (LSB 5.0, "DWARF Exception Header Encoding").
use Rattle.std.specs.Prelude.{ℕ, Bool, true, false, Option, None, Some, ◌==◌, if◌then◌else◌}
use Rattle.cfi_rows.specs.declared.pointers.PointerEncoding.{PointerEncoding}
use Rattle.cfi_rows.specs.declared.pointers.PointerEncoding.TheVariants.{Absolute8, Unsigned4, Signed4, Relative4, Indirect4, Relative8, Indirect8}

-- the byte that says an encoding (`DW_EH_PE_`). Its lower half is the format of the value: absptr (0) is an address of 8 bytes, udata4 (3) has 4 bytes without
-- a sign, sdata4 (b) 4 bytes with one, sdata8 (c) 8 bytes with one. Its upper half is what the value means: pcrel (10), it is counted from its own place;
-- indirect (80), it leads to where the pointer is kept. omit (ff), that there is no pointer, is the byte of none of these
abbrev pub encoding_byte : PointerEncoding → ℕ
encoding_byte Absolute8 = 0x00
encoding_byte Unsigned4 = 0x03
encoding_byte Signed4 = 0x0b
encoding_byte Relative4 = 0x1b
encoding_byte Indirect4 = 0x9b
encoding_byte Relative8 = 0x1c
encoding_byte Indirect8 = 0x9c

-- the encoding that a number says: that whose byte it is, and none where it is the byte of none of these (`encodings_read_back`)
unfoldable pub encoding_of : ℕ → Option PointerEncoding
encoding_of number =
    if number == 0x00 then Some Absolute8
    else if number == 0x03 then Some Unsigned4
    else if number == 0x0b then Some Signed4
    else if number == 0x1b then Some Relative4
    else if number == 0x9b then Some Indirect4
    else if number == 0x1c then Some Relative8
    else if number == 0x9c then Some Indirect8
    else None

-- the pointer has 8 bytes, and else 4
abbrev pub is_wide : PointerEncoding → Bool
is_wide Absolute8 = true
is_wide Unsigned4 = false
is_wide Signed4 = false
is_wide Relative4 = false
is_wide Indirect4 = false
is_wide Relative8 = true
is_wide Indirect8 = true

-- the pointer is counted from its own place
abbrev pub is_relative : PointerEncoding → Bool
is_relative Absolute8 = false
is_relative Unsigned4 = false
is_relative Signed4 = false
is_relative Relative4 = true
is_relative Indirect4 = true
is_relative Relative8 = true
is_relative Indirect8 = true

-- how many bytes the pointer has
abbrev pub pointer_size : PointerEncoding → ℕ
pointer_size encoding = if is_wide encoding then 8 else 4

-- the same, where there is one
abbrev pub size_if : Option PointerEncoding → ℕ
size_if None = 0
size_if (Some encoding) = pointer_size encoding
