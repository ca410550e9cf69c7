-- Space (GNU as manual, ".zero", ".skip", ".space", ".fill"), and aligned space for a symbol (".comm", ".lcomm").
use Rattle.std.specs.Prelude.{ℕ, ◌*◌, ◌^◌, ◌==◌, ◌&&◌, nat_lt, nat_le, min, Option, None, Some, Result, Ok, Err, if◌then◌else◌}
use Rattle.std.specs.Int.{w64, is_power_of_two, trailing_zeros}
use Rattle.asm_expr.specs.Arithmetic.{is_negative}
use Rattle.asm_operands.specs.declared.place_faults.PlaceCause.{PlaceCause}
use Rattle.asm_operands.specs.declared.place_faults.PlaceCause.TheVariants.{OutOfRange}
use Rattle.item_contents.specs.declared.contents.Content.{Content}
use Rattle.item_contents.specs.declared.contents.Content.TheVariants as content

-- the most bytes of one piece of space
abbrev pub most_space : ℕ
most_space = 2 ^ 30

-- an item of so many units of a size and a value
abbrev pub fill_item : ℕ → ℕ → ℕ → Content
fill_item count size value = content.Fill (record { count = count; size = size; value = value })

-- so many bytes, each the low byte of the value
unfoldable pub space_of : ℕ → ℕ → Result Content PlaceCause
space_of count value = if nat_le count most_space then Ok (fill_item count 1 value) else Err OutOfRange

-- so many units: nothing is left of them where they have no bytes
unfoldable pub units_of : ℕ → ℕ → ℕ → Result Content PlaceCause
units_of count size value =
    if is_negative count then Err OutOfRange
    else (if size == 0 then Ok (fill_item 0 0 value)
    else (if nat_le (count * size) most_space then Ok (fill_item count size value) else Err OutOfRange))

-- the size of a unit: 1 where it is not said, and at most 8
unfoldable pub unit_size : Option ℕ → Result ℕ PlaceCause
unit_size None = Ok 1
unit_size (Some size) = if is_negative size then Err OutOfRange else Ok (min size 8)

-- the powers of two of alignments: the greatest that is at most the size and at most 16, where none is said
unfoldable pub default_log : ℕ → ℕ
default_log size =
    if nat_lt size 2 then 0 else (if nat_lt size 4 then 1 else (if nat_lt size 8 then 2 else (if nat_lt size 16 then 3 else 4)))

-- the alignment that is said: a power of two of at most 2 ^ 30, and 0 counts as 1
unfoldable pub said_log : ℕ → Result ℕ PlaceCause
said_log alignment =
    if alignment == 0 then Ok 0
    else (if is_power_of_two alignment && nat_le (trailing_zeros w64 alignment) 30 then Ok (trailing_zeros w64 alignment) else Err OutOfRange)

-- the power of two of the alignment, said or not
abbrev pub log_of : Option ℕ → ℕ → Result ℕ PlaceCause
log_of None size = Ok (default_log size)
log_of (Some alignment) size = said_log alignment

-- a size of space for a symbol
abbrev pub space_size : ℕ → Result ℕ PlaceCause
space_size size = if is_negative size then Err OutOfRange else Ok size
