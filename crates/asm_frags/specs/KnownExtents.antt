-- The known extent of a section: how many items it has of several possible sizes, and the bytes of all others.
use Rattle.std.specs.Prelude.{◌+◌, List, if◌then◌else◌}
use Rattle.std.specs.List.{fold}
use Rattle.item_contents.specs.FixedSizes.{is_fixed, fixed_bytes}
use Rattle.asm_frags.specs.declared.items.Frag.{Frag}
use Rattle.asm_frags.specs.declared.known_extents.KnownExtent.{KnownExtent}

-- the extent with an item more: an item of several possible sizes is a break
abbrev pub advanced : {P Address : Type 0} → KnownExtent → Frag P Address → KnownExtent
advanced extent item =
    if is_fixed item.content then record { breaks = extent.breaks; bytes = extent.bytes + fixed_bytes item.content }
    else record { breaks = extent.breaks + 1; bytes = extent.bytes }

-- the known extent of these items
unfoldable pub extent_of : {P Address : Type 0} → List (Frag P Address) → KnownExtent
extent_of items = fold advanced (record { breaks = 0; bytes = 0 }) items
