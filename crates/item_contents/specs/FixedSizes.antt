-- Items of one possible size.
use Rattle.std.specs.Prelude.{◌≡◌, ℕ, ◌*◌, ◌^◌, ◌≤◌, IfSome, Bool, true, false, Option, None, Some, if◌then◌else◌}
use Rattle.item_contents.specs.declared.contents.Content.{Content}
use Rattle.item_contents.specs.declared.contents.Content.TheVariants.{Run, Fill, Align, Org, Growing}

-- the item has one possible size: it is the same at each address, and whatever value the item holds
abbrev pub is_fixed : Content → Bool
is_fixed Run = true
is_fixed (Fill held) = true
is_fixed (Align held) = false
is_fixed (Org held) = false
is_fixed (Growing held) = false

-- the size of an item that has one possible size, and 0 for others
abbrev pub fixed_bytes : Content → ℕ
fixed_bytes Run = 0
fixed_bytes (Fill held) = held.count * held.size
fixed_bytes (Align held) = 0
fixed_bytes (Org held) = 0
fixed_bytes (Growing held) = 0

-- the size of the item, where it has one possible size
abbrev pub fixed_size_of : Content → Option ℕ
fixed_size_of content = if is_fixed content then Some (fixed_bytes content) else None

-- the answer is this fixed size, or none, and at most 2 ^ 33 bytes
abbrev pub IsFixedSize : Option ℕ → Option ℕ → Type 0
IsFixedSize size answer = (answer ≡ size) × IfSome answer (λ bytes. bytes ≤ 2 ^ 33)
