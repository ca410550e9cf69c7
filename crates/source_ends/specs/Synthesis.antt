-- The frame tables of the functions of a source, where they are worked out of what its instructions do.
use Rattle.std.specs.Prelude.{◌≡◌, ◌<◌, ℕ, All, List, length, [], ◌∷◌, ◌++◌, map, Option, None, Some, Result, Ok, Err, slice_get}
use Rattle.std.specs.List.{AllZip}
use Rattle.std.specs.Option.{option_map_or}
use Rattle.asm_base.specs.declared.places.Place.{Place}
use Rattle.asm_base.specs.declared.refusals.Refusal.{Refusal}
use Rattle.asm_base.specs.declared.refusals.Refusal.TheVariants as refusal
use Rattle.asm_frags.specs.declared.fields.Field.{Field}
use Rattle.asm_frags.specs.Writing.{LooseSection}
use Rattle.asm_symbols.specs.SymbolMap.{SymbolMap}
use Rattle.cfi_directives.specs.declared.frames.Frame.{Frame}
use Rattle.cfi_directives.specs.declared.frames.PlacedOp.{PlacedOp}
use Rattle.code_functions.specs.declared.items.CodeItem.{CodeItem}
use Rattle.code_functions.specs.InOrder.{AreInOrder}
use Rattle.code_functions.specs.Recorded.{Recorded, all_closed}
use Rattle.code_functions.specs.Seen.{all_seen}
use Rattle.flow_graph.specs.declared.nodes.Node.{Node}
use Rattle.flow_graph.specs.Nodes.{nodes_of}
use Rattle.scfi_pass.specs.declared.item_ops.ItemOp.{ItemOp}
use Rattle.scfi_pass.specs.declared.walked.ItemFault.{ItemFault}
use Rattle.scfi_pass.specs.Synthesis.{IsTableOf, IsFaultOf}
use Rattle.asm_functions.specs.FollowedSource.{FollowedSource}
use Rattle.asm_functions.specs.Following.{end_of}
use Rattle.asm_functions.specs.Standing.{StandsInOrder}
use Rattle.source_ends.specs.declared.synthesizing.ItemFaultAt.{ItemFaultAt}

-- what synthesis comes to: the frames of the functions, or the first fault
abbrev pub Synthesis : Type 0
Synthesis = Result (List Frame) ItemFaultAt

-- the place of the item of this number
abbrev pub place_of : List CodeItem → ℕ → Place
place_of items number = option_map_or (λ item. item.place) (slice_get items number) (record { item = 0; offset = 0 })

-- an instruction of a frame table, at the place of its item
abbrev pub placed_op : List CodeItem → ItemOp → PlacedOp
placed_op items op = record { place = place_of items op.item; op = op.op }

-- all of them
abbrev pub placed_ops : List CodeItem → List ItemOp → List PlacedOp
placed_ops items ops = map (placed_op items) ops

-- the frame of a function with these instructions
abbrev pub frame_with : Recorded CodeItem → List PlacedOp → Frame
frame_with f ops = record { pos = f.pos; section = f.section; start = f.start; stop = f.stop; personality = None; lsda = None; ops = ops }

-- the fields of the section of this number
abbrev pub fields_of : List LooseSection → ℕ → List Field
fields_of sections number = option_map_or (λ section. section.fields) (slice_get sections number) []

-- where control goes from the items of a function
abbrev pub nodes_in : SymbolMap → List LooseSection → Recorded CodeItem → List Node
nodes_in symbols sections f = nodes_of symbols f.section (fields_of sections f.section) f.items

-- these are the instructions of the frame table of a function with these items and this graph, which has no fault
pub record IsTable (items : List CodeItem) (nodes : List Node) (placed : List PlacedOp) : Type 0 where
  pub old : ℕ
  pub new : ℕ
  pub ops : List ItemOp
  pub table : IsTableOf items nodes old new ops
  pub made : placed ≡ placed_ops items ops

-- a fault, as the synthesis of one function answers it
abbrev pub refused : ItemFault → Result (List ItemOp) (Refusal ItemFault)
refused fault = Err (refusal.Fault fault)

-- this is its first fault, which is told at the statement of its item
pub record IsRefused (items : List CodeItem) (nodes : List Node) (at : ItemFaultAt) : Type 0 where
  pub old : ℕ
  pub new : ℕ
  pub first : ItemFault
  pub item : CodeItem
  pub fault : IsFaultOf items nodes old new (refused first)
  pub there : slice_get items first.item ≡ Some item
  pub made : at ≡ record { fault = first.fault; pos = item.pos }

-- the frame of a function without a fault
pub record IsFrameOf (symbols : SymbolMap) (sections : List LooseSection) (f : Recorded CodeItem) (frame : Frame) : Type 0 where
  pub table : IsTable f.items (nodes_in symbols sections f) frame.ops
  pub made : frame ≡ frame_with f frame.ops

-- the frames of functions without faults, in the order in which these begin
abbrev pub AreFrames : SymbolMap → List LooseSection → List (Recorded CodeItem) → List Frame → Type 0
AreFrames symbols sections functions frames = AllZip (IsFrameOf symbols sections) functions frames

-- one of the functions has this fault, and none before it has any
pub record IsFirstRefused (symbols : SymbolMap) (sections : List LooseSection) (functions : List (Recorded CodeItem)) (at : ItemFaultAt) : Type 0 where
  pub before : List (Recorded CodeItem)
  pub function : Recorded CodeItem
  pub after : List (Recorded CodeItem)
  pub all : functions ≡ before ++ function ∷ after
  pub frames : List Frame
  pub sound : AreFrames symbols sections before frames
  pub here : IsRefused function.items (nodes_in symbols sections function) at

-- what these functions come to
abbrev pub ComeTo : SymbolMap → List LooseSection → List (Recorded CodeItem) → Synthesis → Type 0
ComeTo symbols sections functions (Ok frames) = AreFrames symbols sections functions frames
ComeTo symbols sections functions (Err at) = IsFirstRefused symbols sections functions at

-- what the functions of all that was placed come to. They are seen as what was recorded, and those that are open end where their sections do
pub record IsSynthesis (f : FollowedSource) (made : Synthesis) : Type 0 where
  pub functions : List (Recorded CodeItem)
  pub seen : all_seen functions ≡ f.functions
  pub comes : ComeTo f.placed.table.symbols f.placed.sections (all_closed (end_of f.placed.sections) functions) made

-- the same, where frame tables are to be worked out
abbrev pub IsMadeAt : Option Synthesis → FollowedSource → Type 0
IsMadeAt None f = Unit {0}
IsMadeAt (Some made) f = IsSynthesis f made

-- WHAT CALLS ANSWER

-- the section of a function is there, and its items are in the order of their places
pub record IsReady (sections : List LooseSection) (f : Recorded CodeItem) : Type 0 where
  pub there : f.section < length sections
  pub ordered : AreInOrder f.items

-- the call answers the table of a function or its first fault
abbrev pub AnswersTable : List CodeItem → List Node → Result (List PlacedOp) (Refusal ItemFaultAt) → Type 0
AnswersTable items nodes (Ok placed) = IsTable items nodes placed
AnswersTable items nodes (Err (refusal.Fault at)) = IsRefused items nodes at
AnswersTable items nodes (Err refusal.NoMemory) = Unit {0}

-- the call answers the frame of a function or its first fault
abbrev pub AnswersFrame : SymbolMap → List LooseSection → Recorded CodeItem → Result Frame (Refusal ItemFaultAt) → Type 0
AnswersFrame symbols sections f (Ok frame) = IsFrameOf symbols sections f frame
AnswersFrame symbols sections f (Err (refusal.Fault at)) = IsRefused f.items (nodes_in symbols sections f) at
AnswersFrame symbols sections f (Err refusal.NoMemory) = Unit {0}

-- the call answers what these functions come to
abbrev pub AnswersFrames : SymbolMap → List LooseSection → List (Recorded CodeItem) → Result (List Frame) (Refusal ItemFaultAt) → Type 0
AnswersFrames symbols sections functions (Ok frames) = ComeTo symbols sections functions (Ok frames)
AnswersFrames symbols sections functions (Err (refusal.Fault at)) = ComeTo symbols sections functions (Err at)
AnswersFrames symbols sections functions (Err refusal.NoMemory) = Unit {0}

-- functions that are seen to stand in order are ready
abbrev pub FunctionsAreReady : Type 0
FunctionsAreReady = (sections : List LooseSection) (functions : List (Recorded CodeItem)) → All (StandsInOrder sections) (all_seen functions)
    → All (IsReady sections) functions
