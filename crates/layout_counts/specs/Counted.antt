-- What is counted of a layout.
use Rattle.std.specs.Prelude.{ℕ, zero, suc, ◌+◌, nat_lt, Bool, false, List, sum, sum_by, count_by, slice_get, if◌then◌else◌}
use Rattle.std.specs.Option.{option_map_or}
use Rattle.std.specs.Str.{bytes_eq}
use Rattle.item_contents.specs.declared.contents.Content.{Content}
use Rattle.item_contents.specs.declared.contents.Content.TheVariants.{Run, Fill, Align, Org, Growing}
use Rattle.item_contents.specs.declared.kinds.Growth.{Growth}
use Rattle.item_contents.specs.declared.kinds.Growth.TheVariants.{Jump, Leb128, Advance}
use Rattle.asm_symbols.specs.SymbolMap.{SymbolMap}
use Rattle.level_ranks.specs.Rounds.{raised}
use Rattle.asm_levels.specs.declared.rows.Row.{Row}
use Rattle.asm_levels.specs.Needs.{need, tops}
use Rattle.item_rows.specs.ItemRows.{rows_of, lowest_levels}
use Rattle.asm_relax.specs.Final.{section_size}
use Rattle.asm_relax.specs.Settling.{LaidItem, LaidSections, LooseSections, planned}

-- the size of the first section, in bytes
abbrev pub text_bytes : LaidSections → ℕ
text_bytes laid = option_map_or section_size (slice_get laid 0) 0

-- what grows is a near jump where it has this size: a jump of more than two bytes
abbrev pub is_near : Growth → ℕ → Bool
is_near (Jump condition) size = nat_lt 2 size
is_near (Leb128 signed) size = false
is_near Advance size = false

-- the contents of an item are a near jump where they have this size
abbrev pub holds_near : Content → ℕ → Bool
holds_near Run size = false
holds_near (Fill held) size = false
holds_near (Align held) size = false
holds_near (Org held) size = false
holds_near (Growing held) size = is_near held.kind size

-- the item is a jump that is laid out near
abbrev pub is_near_jump : LaidItem → Bool
is_near_jump item = holds_near item.content item.size

-- how many items are jumps that are laid out near
abbrev pub near_jumps : LaidSections → ℕ
near_jumps laid = sum_by (λ section. count_by is_near_jump section.items) laid

-- a round raises none of these levels
abbrev pub is_settled : (List ℕ → List ℕ) → List ℕ → Bool
is_settled need levels = bytes_eq (raised levels (need levels)) levels

-- how many rounds, of at most so many, raise a level before the first that raises none, from these levels of the items on
abbrev pub rising_rounds : (List ℕ → List ℕ) → ℕ → List ℕ → ℕ
rising_rounds need zero levels = 0
rising_rounds need (suc most) levels = if is_settled need levels then 0 else 1 + rising_rounds need most (raised levels (need levels))

-- how many rounds the rows take from their lowest levels on; at most as many raise a level as there are levels above the lowest
abbrev pub rounds_for : List Row → ℕ
rounds_for rows = 1 + rising_rounds (need rows) (sum (tops rows)) (lowest_levels rows)

-- the number of rounds of a layout, the last of which is the first that raises no level
unfoldable pub rounds_of : SymbolMap → LooseSections → ℕ
rounds_of map sections = rounds_for (rows_of map (planned map sections))
