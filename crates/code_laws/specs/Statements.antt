-- Statements of any kind but direct jumps, by the items that they put into functions.
use Rattle.std.specs.Prelude.{◌≡◌, ℕ, false, List, Some, Ok}
use Rattle.asm_lines.specs.NextStatements.{TokenStatement}
use Rattle.asm_symbols.specs.SymbolMap.{SymbolMap}
use Rattle.asm_frags.specs.Writing.{LooseSection}
use Rattle.section_laws.specs.Within.{AreWithin}
use Rattle.asm_relax.specs.Settling.{LaidSections}
use Rattle.x86_insn.specs.Views.{View}
use Rattle.insn_effects.specs.Followed.{flow_by}
use Rattle.asm_operands.specs.Operands.{begins_with_label}
use Rattle.asm_values.specs.State.{Placed}
use Rattle.asm_place.specs.Bodies.{body_of}
use Rattle.asm_place.specs.Effects.{insn_view}
use Rattle.asm_place.specs.Sources.{pos_at, place}
use Rattle.code_functions.specs.declared.items.CodeItem.{CodeItem}
use Rattle.code_functions.specs.Seen.{seen}
use Rattle.flow_graph.specs.declared.nodes.Node.{Node}
use Rattle.flow_graph.specs.declared.targets.Target.{Target}
use Rattle.flow_graph.specs.Nodes.{node_by}
use Rattle.asm_functions.specs.Joined.{body_put}
use Rattle.scfi_laws.specs.Laid.{Kind}
use Rattle.code_laws.specs.Sections.{IsLoadedLater, IsLaidBetween}
use Rattle.code_laws.specs.Codes.{AreNumbered, IsNoJump}

-- what was put between these sections is laid as the item, whatever that is in bytes
pub record IsLaidIn (laid : LaidSections) (number : ℕ) (before after : List LooseSection)
    (starts : ℕ → ℕ) (code : List ℕ) (item : CodeItem) (node : Node) : Type 0 where
  pub kind : Kind
  pub is : IsLaidBetween laid number before after starts code kind item node

-- a statement without labels that puts an item into a section which is loaded is laid as that item,
-- if control does not go from it by a direct jump
abbrev pub StatementsAreLaid : Type 0
StatementsAreLaid = (symbols : SymbolMap) (laid : LaidSections) (s : TokenStatement)
    (before placed : Placed) (number : ℕ) (code : List ℕ)
    (item : CodeItem) (node : Node) (target : Target) (starts : ℕ → ℕ)
    → begins_with_label s.tokens ≡ false → place s before ≡ Ok placed
    → AreWithin before.sections
    → IsLoadedLater symbols laid number placed.sections code
    → body_put (body_of s.tokens) (pos_at s.file s.line) s.tokens before placed
    ≡ Some (record { section = number; item = seen item })
    → node ≡ node_by (flow_by item.effect.role) target → IsNoJump (flow_by item.effect.role)
    → ((insn : View) → insn_view (pos_at s.file s.line) s.tokens before ≡ Some insn
    → AreNumbered insn)
    → IsLaidIn laid number before.sections placed.sections starts code item node
