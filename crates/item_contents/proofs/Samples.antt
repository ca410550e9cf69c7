-- The definitions, computed on small items.
use Rattle.std.proofs.Common.{◌≡◌, ℕ, true, false, [], ◌∷◌, refl}
use Rattle.std.specs.Prelude.{Option, None, Some}
use Rattle.item_bytes.specs.declared.jumps.Condition.TheVariants.{Equal}
use Rattle.item_bytes.specs.Jumps.{jump_bytes}
use Rattle.item_bytes.specs.Leb128.{leb128_bytes}
use Rattle.item_bytes.specs.Advances.{advance_bytes}
use Rattle.item_bytes.specs.NoOperations.{no_operation, no_operations}
use Rattle.item_contents.specs.declared.kinds.Padding.{Padding}
use Rattle.item_contents.specs.declared.kinds.Padding.TheVariants.{Byte, NoOperations}
use Rattle.item_contents.specs.declared.kinds.Growth.{Growth}
use Rattle.item_contents.specs.declared.kinds.Growth.TheVariants as growth
use Rattle.item_contents.specs.declared.contents.Content.{Content}
use Rattle.item_contents.specs.declared.contents.Content.TheVariants.{Run, Fill, Align, Org, Growing}
use Rattle.item_contents.specs.Contents.{unit_of, repeated, bytes_of, alignment_of, is_known_zeros}

-- so many units of a size and a value
fill : ℕ → ℕ → ℕ → Content
fill count size value = Fill (record { count = count; size = size; value = value })

-- an alignment to a multiple of 4, of any padding up to that
align : Padding → Content
align padding = Align (record { log = 2; most = 4; padding = padding })

-- what grows with the value of the first field
growing : Growth → Content
growing kind = Growing (record { kind = kind; field = 0 })

-- three units of two bytes
two_bytes : bytes_of (fill 3 2 0x1234) 6 0 ≡ 0x34 ∷ 0x12 ∷ 0x34 ∷ 0x12 ∷ 0x34 ∷ 0x12 ∷ []
unfolding fill unit_of repeated
two_bytes = refl

-- only the low 4 bytes of the value, then zeros
eight_bytes : bytes_of (fill 2 8 0x5566778811223344) 16 0 ≡ 0x44 ∷ 0x33 ∷ 0x22 ∷ 0x11 ∷ 0 ∷ 0 ∷ 0 ∷ 0 ∷ 0x44 ∷ 0x33 ∷ 0x22 ∷ 0x11 ∷ 0 ∷ 0 ∷ 0 ∷ 0 ∷ []
unfolding fill unit_of repeated
eight_bytes = refl

no_bytes : bytes_of (fill 5 0 7) 0 0 ≡ []
unfolding fill unit_of repeated
no_bytes = refl

three_zeros : bytes_of (align (Byte 0)) 3 0 ≡ 0 ∷ 0 ∷ 0 ∷ []
unfolding align
three_zeros = refl

-- the byte that counts is 0, whatever stands above it in the value
low_zero : is_known_zeros (fill 9 1 0x100) ≡ true
unfolding fill unit_of
low_zero = refl

not_low_zero : is_known_zeros (fill 9 2 0x100) ≡ false
unfolding fill unit_of
not_low_zero = refl

no_units : is_known_zeros (fill 0 1 5) ≡ true
unfolding fill unit_of
no_units = refl

-- as many of 9 bytes as fit, and one for the rest (GNU as, `nop; .p2align 4` in code)
code_padding : bytes_of (align NoOperations) 15 0
    ≡ 0x66 ∷ 0x0f ∷ 0x1f ∷ 0x84 ∷ 0x00 ∷ 0x00 ∷ 0x00 ∷ 0x00 ∷ 0x00 ∷ 0x66 ∷ 0x0f ∷ 0x1f ∷ 0x44 ∷ 0x00 ∷ 0x00 ∷ []
unfolding align no_operation no_operations
code_padding = refl

other_padding : bytes_of (align (Byte 7)) 2 0 ≡ 7 ∷ 7 ∷ []
unfolding align
other_padding = refl

-- an alignment is asked for also where its padding is left out
asked : alignment_of (align NoOperations) ≡ 4
unfolding align
asked = refl

up_to : bytes_of (Org (record { from = 0; ahead = 3; behind = 0; fill = 1 })) 3 0 ≡ 1 ∷ 1 ∷ 1 ∷ []
up_to = refl

short : bytes_of (growing (growth.Jump None)) 2 127 ≡ 0xeb ∷ 0x7f ∷ []
unfolding growing jump_bytes
short = refl

near : bytes_of (growing (growth.Jump None)) 5 128 ≡ 0xe9 ∷ 0x80 ∷ 0x00 ∷ 0x00 ∷ 0x00 ∷ []
unfolding growing jump_bytes
near = refl

near_equal : bytes_of (growing (growth.Jump (Some Equal))) 6 128 ≡ 0x0f ∷ 0x84 ∷ 0x80 ∷ 0x00 ∷ 0x00 ∷ 0x00 ∷ []
unfolding growing jump_bytes
near_equal = refl

two_groups : bytes_of (growing (growth.Leb128 false)) 2 128 ≡ 0x80 ∷ 0x01 ∷ []
unfolding growing leb128_bytes
two_groups = refl

advance : bytes_of (growing growth.Advance) 2 64 ≡ 0x02 ∷ 0x40 ∷ []
unfolding growing advance_bytes
advance = refl
