-- Functions of a source that have frame tables, in their sections as a linker leaves these.
use Rattle.std.specs.Prelude.{◌≡◌, ℕ, Bool, List, [], All, Some, Ok, slice_get, unwrap_or}
use Rattle.std.specs.Option.{option_map_or}
use Rattle.asm_base.specs.declared.places.SectionPlace.{SectionPlace}
use Rattle.asm_lines.specs.NextStatements.{TokenStatement}
use Rattle.asm_symbols.specs.SymbolMap.{SymbolMap}
use Rattle.asm_frags.specs.declared.fields.Field.{Field}
use Rattle.asm_frags.specs.Writing.{LooseSection}
use Rattle.asm_relax.specs.Settling.{LooseSections, LaidSections}
use Rattle.elf_object.specs.Objects.{object_of}
use Rattle.cfi_directives.specs.declared.frames.Frame.{Frame}
use Rattle.code_functions.specs.declared.items.CodeItem.{CodeItem}
use Rattle.code_functions.specs.Recorded.{Recorded}
use Rattle.code_functions.specs.Seen.{seen, mapped}
use Rattle.flow_graph.specs.AddedLabels.{IsLabelled}
use Rattle.flow_graph.specs.Nodes.{nodes_of}
use Rattle.asm_functions.specs.FollowedSource.{FollowedSource, nothing_followed, follow_all, functions_at_end}
use Rattle.scfi_pass.specs.declared.item_ops.ItemOp.{ItemOp}
use Rattle.scfi_pass.specs.Synthesis.{IsTableOf}
use Rattle.scfi_pass.specs.Tables.{Analyzed, IsAnalyzed}
use Rattle.synthesis_laws.specs.TableFrames.{IsFrameOf}
use Rattle.form_laws.specs.Numbers.{IsSpelled}
use Rattle.scfi_laws.specs.Laid.{Kind}
use Rattle.scfi_laws.specs.TableLaws.{IsTabled}
use Rattle.code_laws.specs.Functions.{laid_place, starts_in}
use Rattle.code_laws.specs.Sections.{IsLoadedLater}
use Rattle.target_laws.specs.Rooms.{StandIn}

-- where a place is in the layout of its section
abbrev pub laid_address : LaidSections → SectionPlace → ℕ
laid_address laid at = laid_place laid at.section at.place

-- where the items of a function that has ended begin in the layout; the number after the last one
-- is of its end
abbrev pub starts_of : LaidSections → Recorded CodeItem → ℕ → ℕ
starts_of laid f = starts_in laid f.section f.items (unwrap_or f.stop f.start)

-- the fields of the section of this number
abbrev pub fields_of : List LooseSection → ℕ → List Field
fields_of sections number =
    option_map_or (λ section. section.fields) (slice_get sections number) []

-- to the symbols of the source came labels alone, as those of a frame table do; all of them stand
-- in these sections, whose layout has an object
pub record IsResolved (source symbols : SymbolMap) (sections : LooseSections)
    (laid : LaidSections) : Type 0 where
  pub labelled : IsLabelled source symbols
  pub stand : StandIn symbols sections
  pub object : List ℕ
  pub is : object_of symbols laid ≡ Ok object

-- the statements of a source are followed, whose tokens are spelled in bytes, the function is that
-- of this number at their end, and these are the bytes of its section as a linker leaves it. To the
-- symbols of the source labels alone were added before the layout, which has an object
pub record IsLoadedFunction (statements : List TokenStatement) (no_warn asked : Bool)
    (whole : FollowedSource) (number : ℕ) (symbols : SymbolMap) (laid : LaidSections)
    (code : List ℕ) (f : Recorded CodeItem) : Type 0 where
  pub is : follow_all statements (nothing_followed no_warn asked) ≡ Ok whole
  pub spelled : All IsSpelled statements
  pub there : slice_get (functions_at_end whole) number ≡ Some (mapped seen f)
  pub loaded : IsLoadedLater symbols laid f.section whole.placed.sections code
  pub resolved : IsResolved whole.placed.table.symbols symbols loaded.later laid

-- it is analyzed with the nodes of its graph, by these symbols and the fields of its section; these
-- instructions are its frame table, and those of the procedure
pub record IsSynthesized (symbols : SymbolMap) (sections : List LooseSection)
    (f : Recorded CodeItem) (a : Analyzed) (ops : List ItemOp) (frame : Frame) : Type 0 where
  pub analyzed : IsAnalyzed a
  pub same_items : a.items ≡ f.items
  pub same_nodes : a.nodes ≡ nodes_of symbols f.section (fields_of sections f.section) a.items
  pub old : ℕ
  pub new : ℕ
  pub table : IsTableOf f.items a.nodes old new ops
  pub frame_of : IsFrameOf f ops frame
  pub section : frame.section ≡ f.section

-- then, if by the symbols and the fields at the end of the source, its items lie in these bytes,
-- and the procedure stands with them in the layout
abbrev pub FunctionsAreTabled : Type 0
FunctionsAreTabled = (statements : List TokenStatement) (no_warn asked : Bool)
    (whole : FollowedSource) (number : ℕ) (symbols : SymbolMap) (laid : LaidSections)
    (code : List ℕ) (f : Recorded CodeItem) (a : Analyzed) (ops : List ItemOp) (frame : Frame)
    → IsLoadedFunction statements no_warn asked whole number symbols laid code f
    → IsSynthesized whole.placed.table.symbols whole.placed.sections f a ops frame
    → (kinds : ℕ → Kind)
    × IsTabled f a ops frame (laid_address laid) kinds (starts_of laid f) code
