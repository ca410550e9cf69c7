-- Functions whose items are put by statements, in what is loaded.
use Rattle.std.specs.Prelude.{◌≡◌, ◌+◌, ◌++◌, ◌∷◌, ℕ, Bool, false, List, map, Some, Ok, slice_get}
use Rattle.std.specs.Option.{option_map_or}
use Rattle.asm_base.specs.declared.places.Place.{Place}
use Rattle.asm_lines.specs.NextStatements.{TokenStatement}
use Rattle.asm_symbols.specs.SymbolMap.{SymbolMap}
use Rattle.asm_frags.specs.declared.fields.Field.{Field}
use Rattle.asm_frags.specs.Writing.{LooseSection}
use Rattle.section_laws.specs.Within.{AreWithin}
use Rattle.asm_relax.specs.Placing.{shift_of}
use Rattle.asm_relax.specs.Settling.{LaidSections}
use Rattle.x86_insn.specs.Views.{View}
use Rattle.insn_effects.specs.Flows.{jumps}
use Rattle.insn_effects.specs.Followed.{flow_by}
use Rattle.asm_operands.specs.Operands.{begins_with_label}
use Rattle.asm_values.specs.State.{Placed}
use Rattle.asm_place.specs.Bodies.{front, back}
use Rattle.asm_place.specs.Effects.{insn_view}
use Rattle.asm_place.specs.Instructions.{behind_labels, Grows}
use Rattle.asm_place.specs.Placing.{place_tokens}
use Rattle.asm_place.specs.Sources.{pos_at, place, place_all}
use Rattle.asm_place.specs.SymbolPlaces.{PlacesStand}
use Rattle.code_functions.specs.declared.items.CodeItem.{CodeItem}
use Rattle.code_functions.specs.Seen.{SeenItem, seen}
use Rattle.flow_graph.specs.declared.nodes.Node.{Node}
use Rattle.flow_graph.specs.Nodes.{nodes_of}
use Rattle.asm_functions.specs.Following.{end_of}
use Rattle.asm_functions.specs.FollowedSource.{FollowedSource, nothing_followed, follow_all}
use Rattle.asm_functions.specs.Joined.{IsPutBy, AreJoined}
use Rattle.scfi_pass.specs.Tables.{Analyzed}
use Rattle.scfi_laws.specs.Laid.{Kind, size, Fits, ReadsItem, IsLaid}
use Rattle.place_laws.specs.Ends.{items_in, place_in}
use Rattle.code_laws.specs.Sections.{IsLoadedLater}
use Rattle.code_laws.specs.Codes.{AreNumbered}

-- where a place of the section is in the layout: the items before it move it by their sizes
abbrev pub laid_place : LaidSections → ℕ → Place → ℕ
laid_place laid number at = at.offset + shift_of at.item 0 (items_in laid number)

-- where a section ends, the place of what is put next is that of its end
abbrev pub EndsArePlaces : Type 0
EndsArePlaces = (laid : LaidSections) (number : ℕ) (sections : List LooseSection)
    → place_in laid number sections ≡ laid_place laid number (end_of sections number)

-- where an item begins, and after the last one where the function ends
abbrev pub item_start : List CodeItem → (stop : Place) → ℕ → Place
item_start items stop i = option_map_or (λ item. item.place) (slice_get items i) stop

-- the same in the layout
abbrev pub starts_in : LaidSections → ℕ → List CodeItem → (stop : Place) → ℕ → ℕ
starts_in laid number items stop i = laid_place laid number (item_start items stop i)

-- the item is laid from the one place to the other
pub record IsLaidAt (laid : LaidSections) (number : ℕ) (starts : ℕ → ℕ) (code : List ℕ)
    (item : CodeItem) (node : Node) (from to : Place) (kind : Kind) : Type 0 where
  pub placed : laid_place laid number to ≡ laid_place laid number from + size kind
  pub fits : Fits kind item node
  pub reads_back : ReadsItem starts code (laid_place laid number from) kind item node

-- the statement is placed behind its labels, which put nothing: between sections within whose bytes
-- all stands, and in which symbols do. Other statements follow, and all grows
pub record IsPlacedBehind (s : TokenStatement) (before labels after whole : Placed) : Type 0 where
  pub bare : begins_with_label (back s).tokens ≡ false
  pub placed : place (back s) labels ≡ Ok after
  pub tokens : place_tokens (pos_at s.file s.line) (back s).tokens labels ≡ Ok after
  pub same : labels.sections ≡ before.sections
  pub within : AreWithin labels.sections
  pub stand : PlacesStand labels
  pub later : List TokenStatement
  pub rest : place_all later after ≡ Ok whole
  pub grows : Grows after.sections whole.sections

-- so is each statement that puts an item
abbrev pub ItemsArePlaced : Type 0
ItemsArePlaced = (statements : List TokenStatement) (no_warn asked : Bool)
    (whole : FollowedSource) (number : ℕ) (item : SeenItem) (from to : Place)
    → follow_all statements (nothing_followed no_warn asked) ≡ Ok whole
    → (put : IsPutBy statements (nothing_followed no_warn asked) number item from to)
    → IsPlacedBehind put.statement put.before.placed put.labels put.after.placed whole.placed

-- numbers that are known in the instructions of these statements have 64 bits
abbrev pub InsnsAreNumbered : List TokenStatement → FollowedSource → Type 0
InsnsAreNumbered statements first = (earlier : List TokenStatement) (s : TokenStatement)
    (later : List TokenStatement) (before : FollowedSource) (labels : Placed) (insn : View)
    → statements ≡ earlier ++ s ∷ later → follow_all earlier first ≡ Ok before
    → place (front s) before.placed ≡ Ok labels
    → insn_view (pos_at s.file s.line) (behind_labels s.tokens) labels ≡ Some insn
    → AreNumbered insn

-- each direct jump of the function is laid from where it was put to where it ends
abbrev pub JumpsAreLaid : LaidSections → ℕ → List TokenStatement → FollowedSource → Analyzed
    → (starts : ℕ → ℕ) → List ℕ → Type 0
JumpsAreLaid laid number statements first a starts code = (i : ℕ) (item : CodeItem) (node : Node)
    (falls : Bool) (from to : Place) → slice_get a.items i ≡ Some item
    → slice_get a.nodes i ≡ Some node → flow_by item.effect.role ≡ jumps falls
    → IsPutBy statements first number (seen item) from to
    → (kind : Kind) × IsLaidAt laid number starts code item node from to kind

-- a function whose items are joined in a section that is loaded lies in the bytes of that section,
-- if its direct jumps do. Its graph may be by other symbols than the layout: which these are matters
-- to direct jumps alone
abbrev pub FunctionsAreLaid : Type 0
FunctionsAreLaid = (traced symbols : SymbolMap) (laid : LaidSections)
    (statements : List TokenStatement) (no_warn asked : Bool) (whole : FollowedSource)
    (a : Analyzed) (number : ℕ) (fields : List Field) (from stop : Place) (code : List ℕ)
    → follow_all statements (nothing_followed no_warn asked) ≡ Ok whole
    → AreJoined statements (nothing_followed no_warn asked) number (map seen a.items) from stop
    → a.nodes ≡ nodes_of traced number fields a.items
    → IsLoadedLater symbols laid number whole.placed.sections code
    → InsnsAreNumbered statements (nothing_followed no_warn asked)
    → JumpsAreLaid laid number statements (nothing_followed no_warn asked) a
    (starts_in laid number a.items stop) code
    → (kinds : ℕ → Kind) × IsLaid a kinds (starts_in laid number a.items stop) code
