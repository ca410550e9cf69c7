-- The addresses at which the items of a function begin.
use Rattle.std.specs.Prelude.{◌≡◌, ℕ, Bool, List, Some, Ok, slice_get}
use Rattle.asm_lines.specs.NextStatements.{TokenStatement}
use Rattle.asm_symbols.specs.SymbolMap.{SymbolMap}
use Rattle.asm_relax.specs.Final.{address_of}
use Rattle.asm_relax.specs.Settling.{LaidSections}
use Rattle.code_functions.specs.declared.items.CodeItem.{CodeItem}
use Rattle.code_functions.specs.Recorded.{Recorded}
use Rattle.code_functions.specs.Seen.{seen, mapped}
use Rattle.asm_functions.specs.FollowedSource.{FollowedSource, nothing_followed, follow_all, functions_at_end}
use Rattle.code_laws.specs.Sections.{IsLoadedLater}
use Rattle.function_laws.specs.Tabled.{starts_of}

-- each item of a function of a source begins at the address that its place has in the layout, by
-- which labels are told
abbrev pub StartsAreAddresses : Type 0
StartsAreAddresses = (statements : List TokenStatement) (no_warn asked : Bool)
    (whole : FollowedSource) (number : ℕ) (symbols : SymbolMap) (laid : LaidSections)
    (code : List ℕ) (f : Recorded CodeItem) (index : ℕ) (item : CodeItem)
    → follow_all statements (nothing_followed no_warn asked) ≡ Ok whole
    → slice_get (functions_at_end whole) number ≡ Some (mapped seen f)
    → IsLoadedLater symbols laid f.section whole.placed.sections code
    → slice_get f.items index ≡ Some item
    → starts_of laid f index ≡ address_of laid f.section item.place.item item.place.offset
