-- The direct jumps of the functions of a source, in their sections as a linker leaves these.
use Rattle.std.specs.Prelude.{◌≡◌, ℕ, Bool, List, Some, Ok, slice_get}
use Rattle.asm_lines.specs.NextStatements.{TokenStatement}
use Rattle.asm_symbols.specs.SymbolMap.{SymbolMap}
use Rattle.asm_relax.specs.Settling.{LaidSections}
use Rattle.code_functions.specs.declared.items.CodeItem.{CodeItem}
use Rattle.code_functions.specs.Recorded.{Recorded}
use Rattle.code_functions.specs.Seen.{seen, mapped}
use Rattle.flow_graph.specs.Nodes.{nodes_of}
use Rattle.asm_functions.specs.FollowedSource.{FollowedSource, nothing_followed, follow_all, functions_at_end}
use Rattle.scfi_pass.specs.Tables.{Analyzed}
use Rattle.code_laws.specs.Functions.{JumpsAreLaid}
use Rattle.code_laws.specs.Sections.{IsLoadedLater}
use Rattle.function_laws.specs.Tabled.{starts_of, fields_of, IsResolved}

-- the direct jumps of a function of a source, branches of the loop group among them, are laid as
-- its items, where the symbols stand in the sections of the layout, which has an object. The
-- function has the nodes of its graph, by the symbols of the source and by the fields that its
-- section has at the end of it
abbrev pub FunctionJumpsAreLaid : Type 0
FunctionJumpsAreLaid = (statements : List TokenStatement) (no_warn asked : Bool)
    (whole : FollowedSource) (number : ℕ) (symbols : SymbolMap) (laid : LaidSections)
    (code : List ℕ) (f : Recorded CodeItem) (a : Analyzed)
    → follow_all statements (nothing_followed no_warn asked) ≡ Ok whole
    → slice_get (functions_at_end whole) number ≡ Some (mapped seen f)
    → (loaded : IsLoadedLater symbols laid f.section whole.placed.sections code)
    → IsResolved whole.placed.table.symbols symbols loaded.later laid → a.items ≡ f.items
    → a.nodes
    ≡ nodes_of whole.placed.table.symbols f.section (fields_of whole.placed.sections f.section)
    a.items
    → JumpsAreLaid laid f.section statements (nothing_followed no_warn asked) a
    (starts_of laid f) code
