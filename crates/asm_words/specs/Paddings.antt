-- Alignments, and bytes up to a place (GNU as manual, ".p2align", ".align", ".balign", ".org").
use Rattle.std.specs.Prelude.{ℕ, ◌+◌, ◌-◌, ◌%◌, ◌^◌, ◌&&◌, nat_le, Bool, true, false, Option, None, Some, Result, Ok, Err, if◌then◌else◌}
use Rattle.asm_base.specs.Refusals.{◌>>=◌}
use Rattle.asm_expr.specs.Arithmetic.{is_negative}
use Rattle.asm_operands.specs.declared.place_faults.PlaceCause.{PlaceCause}
use Rattle.asm_operands.specs.declared.place_faults.PlaceCause.TheVariants.{OutOfRange}
use Rattle.asm_operands.specs.declared.up_to_three.UpToThree.{UpToThree}
use Rattle.item_contents.specs.declared.contents.Content.{Content}
use Rattle.item_contents.specs.declared.contents.Content.TheVariants as content
use Rattle.item_contents.specs.declared.kinds.Padding.{Padding}
use Rattle.item_contents.specs.declared.kinds.Padding.TheVariants.{Byte, NoOperations}
use Rattle.asm_words.specs.declared.directives.AlignedBy.{AlignedBy}
use Rattle.asm_words.specs.declared.directives.AlignedBy.TheVariants.{Exponent, Bytes}
use Rattle.asm_words.specs.Spaces.{most_space, said_log}

-- the exponent of the power of two: said itself, at most 30, or by a number of bytes
abbrev pub aligned_log : AlignedBy → ℕ → Result ℕ PlaceCause
aligned_log Exponent said = if nat_le said 30 then Ok said else Err OutOfRange
aligned_log Bytes said = said_log said

-- the most bytes that the alignment may add: all that it takes, where nothing is said
abbrev pub most_added : ℕ → Option ℕ → Result ℕ PlaceCause
most_added log None = Ok (2 ^ log)
most_added log (Some most) = if is_negative most then Err OutOfRange else Ok most

-- what is put in between: the low byte of the value, or, where none is said, no-operations in code and zeros elsewhere
abbrev pub padding_of : Bool → Option ℕ → Padding
padding_of code (Some value) = Byte (value % 2 ^ 8)
padding_of true None = NoOperations
padding_of false None = Byte 0

-- the alignment that is said, in code or elsewhere
unfoldable pub align_of : AlignedBy → Bool → UpToThree ℕ → Result Content PlaceCause
align_of by code values =
    aligned_log by values.first >>= λ log. most_added log values.third >>= λ most.
    Ok (content.Align (record { log = log; most = most; padding = padding_of code values.second }))

-- a number modulo 2^64 as bytes forwards
abbrev pub forwards : ℕ → ℕ
forwards number = if is_negative number then 0 else number

-- and as bytes backwards, where it is below 0
abbrev pub backwards : ℕ → ℕ
backwards number = if is_negative number then 2 ^ 64 - number else 0

-- bytes up to the place that stands so far from the one of this offset, which so many items stand before: at most 2 ^ 30 bytes either way
unfoldable pub org_of : ℕ → ℕ → ℕ → ℕ → Result Content PlaceCause
org_of from offset number fill =
    if nat_le (forwards number) most_space && nat_le (backwards number) most_space
    then Ok (content.Org (record { from = from; ahead = offset + forwards number; behind = backwards number; fill = fill % 2 ^ 8 }))
    else Err OutOfRange
