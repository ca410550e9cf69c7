-- The bytes that an item has beside the plain bytes of its section.
use Rattle.std.specs.Prelude.{◌≡◌, ℕ, zero, suc, ◌+◌, ◌-◌, ◌*◌, ◌%◌, ◌^◌, ◌≤◌, ◌==◌, ◌||◌, not, min, Bool, true, false, List, [], ◌++◌, take, replicate, Option, None, Some}
use Rattle.std.specs.Int.{w32, to_le_bytes}
use Rattle.std.specs.List.{list_all}
use Rattle.item_bytes.specs.Levels.{jump_size, advance_size}
use Rattle.item_bytes.specs.Jumps.{is_conditional, jump_bytes}
use Rattle.item_bytes.specs.Leb128.{leb128_bytes}
use Rattle.item_bytes.specs.Advances.{advance_bytes}
use Rattle.item_bytes.specs.NoOperations.{no_operations}
use Rattle.item_contents.specs.declared.kinds.Padding.{Padding}
use Rattle.item_contents.specs.declared.kinds.Padding.TheVariants.{Byte, NoOperations}
use Rattle.item_contents.specs.declared.kinds.Growth.{Growth}
use Rattle.item_contents.specs.declared.kinds.Growth.TheVariants.{Jump, Leb128, Advance}
use Rattle.item_contents.specs.declared.contents.Content.{Content}
use Rattle.item_contents.specs.declared.contents.Content.TheVariants.{Run, Fill, Align, Org, Growing}
use Rattle.item_contents.specs.Zeros.{is_zero}
use Rattle.item_contents.specs.ItemParts.{FillOf}

-- a unit of a fill: the low 4 bytes of the value, little-endian, cut or extended by zeros to the size (GNU as manual, ".fill")
unfoldable pub unit_of : FillOf → List ℕ
unit_of fill = take fill.size (to_le_bytes w32 (fill.value % 2 ^ 32)) ++ replicate (fill.size - 4) 0

-- the unit, repeated
unfoldable pub repeated : ℕ → List ℕ → List ℕ
repeated zero unit = []
repeated (suc count) unit = unit ++ repeated count unit

-- the bytes of a fill
abbrev pub fill_bytes : FillOf → List ℕ
fill_bytes fill = repeated fill.count (unit_of fill)

-- padding of this size: a byte, again and again, or no-operations
abbrev pub padding_bytes : Padding → ℕ → List ℕ
padding_bytes (Byte fill) size = replicate size fill
padding_bytes NoOperations size = no_operations size

-- the number of levels of what grows, above the lowest
abbrev pub top_of : Growth → ℕ
top_of (Jump condition) = 1
top_of (Leb128 signed) = 9
top_of Advance = 4

-- the size of what grows, at a level, in bytes
abbrev pub level_size : Growth → ℕ → ℕ
level_size (Jump condition) level = jump_size (is_conditional condition) level
level_size (Leb128 signed) level = level + 1
level_size Advance level = advance_size level

-- what grows may have this size: that of one of its levels
abbrev pub MayGrowTo : Growth → ℕ → Type 0
MayGrowTo kind size = (level : ℕ) × (level ≤ top_of kind) × (size ≡ level_size kind level)

-- the bytes of what grows, of this size and with this value: a jump of 2 bytes is short, a number has as many groups as bytes, and an advance of
-- 5 bytes has level 4
abbrev pub grown_bytes : Growth → ℕ → ℕ → List ℕ
grown_bytes (Jump condition) size value = jump_bytes condition (not (size == 2)) value
grown_bytes (Leb128 signed) size value = leb128_bytes signed value (min size 10)
grown_bytes Advance size value = advance_bytes (min size 4) value

-- an item may have this size in bytes; the bytes of a run are plain bytes of the section, and are counted there
abbrev pub MayHave : Content → ℕ → Type 0
MayHave Run size = size ≡ 0
MayHave (Fill held) size = size ≡ held.count * held.size
MayHave (Align held) size = Unit {0}
MayHave (Org held) size = Unit {0}
MayHave (Growing held) size = MayGrowTo held.kind size

-- the bytes of an item of this size, which holds this value if it holds any; those of a run are plain bytes of the section
abbrev pub bytes_of : Content → ℕ → ℕ → List ℕ
bytes_of Run size value = []
bytes_of (Fill held) size value = fill_bytes held
bytes_of (Align held) size value = padding_bytes held.padding size
bytes_of (Org held) size value = replicate size held.fill
bytes_of (Growing held) size value = grown_bytes held.kind size value

-- the index of the field whose value the item holds, if it holds one
abbrev pub held_field : Content → Option ℕ
held_field Run = None
held_field (Fill held) = None
held_field (Align held) = None
held_field (Org held) = None
held_field (Growing held) = Some held.field

-- the item is a run
abbrev pub is_run : Content → Bool
is_run Run = true
is_run (Fill held) = false
is_run (Align held) = false
is_run (Org held) = false
is_run (Growing held) = false

-- the alignment that an item requires of its section: 1 unless it aligns, also where its padding is left out
abbrev pub alignment_of : Content → ℕ
alignment_of Run = 1
alignment_of (Fill held) = 1
alignment_of (Align held) = 2 ^ held.log
alignment_of (Org held) = 1
alignment_of (Growing held) = 1

-- the padding is zeros
abbrev pub pads_zeros : Padding → Bool
pads_zeros (Byte fill) = is_zero fill
pads_zeros NoOperations = false

-- the item is known to be zeros: each byte is 0, whatever its size and value
abbrev pub is_known_zeros : Content → Bool
is_known_zeros Run = true
is_known_zeros (Fill held) = (held.count == 0) || list_all is_zero (unit_of held)
is_known_zeros (Align held) = pads_zeros held.padding
is_known_zeros (Org held) = is_zero held.fill
is_known_zeros (Growing held) = false
