-- Where the items of a function lie in the bytes of its section.
use Rattle.std.specs.Prelude.{◌≡◌, ◌+◌, ◌<◌, ◌≤◌, ◌⊎◌, ℕ, Bool, true, false, List, [], ◌∷◌, length, sum, Option, None, Some, slice_get}
use Rattle.insn_effects.specs.Decoding.{action_of}
use Rattle.insn_effects.specs.Flows.{jumps, flow_of}
use Rattle.insn_effects.specs.Followed.{followed_by, flow_by, calls_by, unsupported_by, is_padding, is_data}
use Rattle.code_functions.specs.declared.items.CodeItem.{CodeItem}
use Rattle.flow_graph.specs.declared.nodes.Node.{Node}
use Rattle.scfi_pass.specs.Tables.{Analyzed}
use Rattle.x86_steps.specs.States.{State, IsRanged}
use Rattle.x86_steps.specs.Steps.{Does}
use Rattle.x86_steps.specs.Readings.{Reading, IsReading, HasReading}
use Rattle.scfi_laws.specs.Performing.{Performs, SameFollowed}

-- what an item is in bytes
pub data Kind : Type 0 where
  -- an instruction from which control goes where its bytes lead
  plain : (bytes : ℕ) → Kind
  -- a direct jump out of the function, or one whose field a linker fills in, since another object
  -- may define its target: the list of steps goes on to the label inside the function that it
  -- names, or to the next item where it may, or ends
  directed : (bytes : ℕ) → Kind
  -- no-operations of these lengths; there may be none
  padding : (lengths : List ℕ) → Kind
  -- data
  inert : (bytes : ℕ) → Kind

-- how many bytes it has
abbrev pub size : Kind → ℕ
size (plain n) = n
size (directed n) = n
size (padding lengths) = sum lengths
size (inert n) = n

-- of so many items, which begin at these places, this one has the byte at a place
pub record Holds (starts : ℕ → ℕ) (count item place : ℕ) : Type 0 where
  pub inside : item < count
  pub begins : starts item ≤ place
  pub ends : place < starts (item + 1)

-- the place is that of the target, if there is one
abbrev pub IsTarget : (starts : ℕ → ℕ) → Option ℕ → (place : ℕ) → Type 0
IsTarget starts None place = ⊥
IsTarget starts (Some target) place = place ≡ starts target

-- from an item of this node control goes to its target, or on to the next place
abbrev pub Arrives : (starts : ℕ → ℕ) → Node → (next place : ℕ) → Type 0
Arrives starts node next place =
    IsTarget starts node.target place ⊎ ((node.falls ≡ true) × (place ≡ next))

-- the list of steps goes on there
abbrev pub Stays : (starts : ℕ → ℕ) → Kind → Node → (next place : ℕ) → Type 0
Stays starts (plain n) node next place = Unit {0}
Stays starts (directed n) node next place = Arrives starts node next place
Stays starts (padding lengths) node next place = Unit {0}
Stays starts (inert n) node next place = Unit {0}

-- the item is followed: its target is known where it jumps or calls, it is no data, and its use of
-- the stack is supported
pub record IsTraced (item : CodeItem) (node : Node) : Type 0 where
  pub target : node.untraced ≡ false
  pub insn : is_data item.effect.role ≡ false
  pub usage : unsupported_by item.effect.role ≡ false

-- the step is one of the item
pub record Moves (starts : ℕ → ℕ) (item : CodeItem) (node : Node) (next : ℕ) (s t : State)
    : Type 0 where
  pub arrives : Arrives starts node next t.place
  pub performs : Performs (followed_by item.effect) s t

-- what is read at the place is as long as the item, and does what a followed item does. A step to
-- the function's end does so too: a node says that control goes on from its item also where no item
-- follows, as after a last call, or padding
pub record IsCovered (starts : ℕ → ℕ) (place : ℕ) (kind : Kind) (item : CodeItem) (node : Node)
    (r : Reading) : Type 0 where
  pub bytes : r.bytes ≡ size kind
  pub covers : (s t : State) → IsTraced item node → s.place ≡ place → IsRanged s
      → Does (action_of r.insn) (place + r.bytes) s t
      → Stays starts kind node (place + r.bytes) t.place
      → Moves starts item node (place + r.bytes) s t

-- whatever the bytes at the place read as
abbrev pub ReadsOnly : (ℕ → ℕ) → List ℕ → ℕ → Kind → CodeItem → Node → Type 0
ReadsOnly starts code place kind item node =
    (r : Reading) → IsReading code place r → IsCovered starts place kind item node r

-- what is read at the place goes as the item does
abbrev pub ReadsFlow : List ℕ → (place : ℕ) → CodeItem → Type 0
ReadsFlow code place item =
    (r : Reading) → IsReading code place r → flow_of r.insn ≡ flow_by item.effect.role

-- what is read at the place has so many bytes, and goes on with the same memory and seven registers
pub record IsIdle (place bytes : ℕ) (r : Reading) : Type 0 where
  pub long : r.bytes ≡ bytes
  pub goes : (s t : State) → s.place ≡ place → IsRanged s
      → Does (action_of r.insn) (place + r.bytes) s t → t.place ≡ place + r.bytes
  pub same : (s t : State) → s.place ≡ place → IsRanged s
      → Does (action_of r.insn) (place + r.bytes) s t → SameFollowed s t

-- the bytes at the place read as an instruction, and whatever that is, it does nothing
abbrev pub ReadsIdle : List ℕ → (place bytes : ℕ) → Type 0
ReadsIdle code place bytes =
    HasReading code place × ((r : Reading) → IsReading code place r → IsIdle place bytes r)

-- the bytes from the place on are no-operations of these lengths
abbrev pub ReadsPadding : List ℕ → (lengths : List ℕ) → (place : ℕ) → Type 0
ReadsPadding code [] place = Unit {0}
ReadsPadding code (n ∷ rest) place =
    ReadsIdle code place n × ReadsPadding code rest (place + n)

-- the bytes at the place are those of the item: an instruction is read there, which does nothing
-- but what the item may do, and which is a jump where control may leave the function by one. Data
-- may be any bytes, and need not read as anything
abbrev pub ReadsItem : (ℕ → ℕ) → List ℕ → ℕ → Kind → CodeItem → Node → Type 0
ReadsItem starts code place (plain n) item node =
    HasReading code place × ReadsOnly starts code place (plain n) item node
ReadsItem starts code place (directed n) item node =
    HasReading code place × ReadsOnly starts code place (directed n) item node
    × ReadsFlow code place item
ReadsItem starts code place (padding lengths) item node = ReadsPadding code lengths place
ReadsItem starts code place (inert n) item node = Unit {0}

-- an instruction has bytes, and a call no target, also where it calls the function itself: what is
-- called returns to the next item
pub record IsInstruction (bytes : ℕ) (item : CodeItem) (node : Node) : Type 0 where
  pub some : 0 < bytes
  pub calls : calls_by item.effect.role ≡ true → node.target ≡ None

-- a direct jump that is an exit: its target is no label inside the function, or one in whose place
-- another object may put its own definition. Of all others the bytes say where control goes
pub record IsJumpOut (item : CodeItem) (node : Node) : Type 0 where
  pub falls : Bool
  pub jump : flow_by item.effect.role ≡ jumps falls
  pub exits : node.exits ≡ true

-- the item and what it is in bytes agree
abbrev pub Fits : Kind → CodeItem → Node → Type 0
Fits (plain n) item node = IsInstruction n item node
Fits (directed n) item node = IsInstruction n item node × IsJumpOut item node
Fits (padding lengths) item node = (is_padding item.effect.role ≡ true) × (node.falls ≡ true)
Fits (inert n) item node = is_data item.effect.role ≡ true

-- the items of a function lie in these bytes, each after the one before
pub record IsLaid (a : Analyzed) (kinds : ℕ → Kind) (starts : ℕ → ℕ) (code : List ℕ)
    : Type 0 where
  pub placed : (i : ℕ) → i < length a.items → starts (i + 1) ≡ starts i + size (kinds i)
  pub fits : (i : ℕ) (item : CodeItem) (node : Node) → slice_get a.items i ≡ Some item
      → slice_get a.nodes i ≡ Some node → Fits (kinds i) item node
  pub reads_back : (i : ℕ) (item : CodeItem) (node : Node) → slice_get a.items i ≡ Some item
      → slice_get a.nodes i ≡ Some node
      → ReadsItem starts code (starts i) (kinds i) item node
