-- What the synthesis of a frame table is refused for, at an item.
use Rattle.std.specs.Prelude.{◌≡◌, ◌≢◌, ◌+◌, ◌-◌, ◌<◌, ◌≤◌, ◌^◌, ◌⊎◌, ℕ, nat_lt, Bool, true, false, Option, None, Some, option_map}
use Rattle.asm_base.specs.declared.faults.ScfiFault.{ScfiFault}
use Rattle.asm_base.specs.declared.faults.ScfiFault.TheVariants as scfi
use Rattle.insn_effects.specs.declared.effects.Role.{Role}
use Rattle.insn_effects.specs.declared.effects.Role.TheVariants as role
use Rattle.insn_effects.specs.Followed.{wrap, followed_by, stores_by, calls_by, is_data, unsupported_by}
use Rattle.code_functions.specs.declared.items.CodeItem.{CodeItem}
use Rattle.flow_graph.specs.declared.nodes.Node.{Node}
use Rattle.stack_depths.specs.Distances.{Distances, distance_after}
use Rattle.stack_facts.specs.Places.{below, stored_by, change_of, writes, is_saved}
use Rattle.stack_facts.specs.Facts.{Fact, entry, slot, is_touched, facts_after}
use Rattle.scfi_pass.specs.Registers.{number_of}
use Rattle.scfi_pass.specs.Rows.{cfa_of, signed}

-- an item, where control goes from it, whether it is the last one, and what is known and stands there
pub record Situation : Type 0 where
  pub item : CodeItem
  pub node : Node
  pub last : Bool
  pub known : Distances
  pub stands : Fact → Bool

-- at entry and at each exit rsp is 8 below the frame address
abbrev pub at_exit : ℕ
at_exit = 2 ^ 64 - 8

-- the distance of rsp after the item
abbrev pub stack_after : Situation → Option ℕ
stack_after s = distance_after (followed_by s.item.effect) s.known 0

-- a fact stands after the item
unfoldable pub stands_after : Situation → Fact → Bool
stands_after s f = facts_after (writes (followed_by s.item.effect)) (change_of (followed_by s.item.effect) s.known) s.stands f

-- a register has neither a slot nor its entry value
abbrev pub IsLost : (stands : Fact → Bool) → ℕ → Type 0
IsLost stands r = (stands (entry r) ≡ false) × ((n : ℕ) → stands (slot n r) ≡ false)

-- this is the first of the six registers of which something holds
abbrev pub IsFirstOf : (ℕ → Type 0) → ℕ → Type 0
IsFirstOf P r = P r × ((q : ℕ) → is_saved q ≡ true → q < r → P q → ⊥)

-- the item returns
abbrev pub is_return : Role → Bool
is_return role.Return = true
is_return role.ReturnPopping = true
is_return _ = false

-- rsp is above the return address
abbrev pub IsAbove : Option ℕ → Type 0
IsAbove None = ⊥
IsAbove (Some distance) = below at_exit distance ≡ true

-- a fixed store meets the 8 bytes of the return address, or an item that does not return leaves rsp above it
abbrev pub Overwrites : Situation → Type 0
Overwrites s = (is_touched (stored_by (stores_by s.item.effect.role s.item.effect) s.known) at_exit ≡ true)
    ⊎ ((is_return s.item.effect.role ≡ false) × IsAbove (stack_after s))

-- rsp or a register is not as at entry after the item
abbrev pub IsChangedAfter : Situation → Type 0
IsChangedAfter s = (stack_after s ≢ Some at_exit) ⊎ ((r : ℕ) × (is_saved r ≡ true) × (stands_after s (entry r) ≡ false))

-- a distance is beyond 2 ^ 30 either way
abbrev pub is_beyond : ℕ → Bool
is_beyond distance = nat_lt (2 ^ 31) (wrap (distance + 2 ^ 30))

-- that of one of the seven is
abbrev pub IsFar : Distances → Type 0
IsFar known = (q : ℕ) × (d : ℕ) × (q < 7) × (known q ≡ Some d) × (is_beyond d ≡ true)

-- a fault is told here
abbrev pub IsTold : Situation → ScfiFault → Type 0
IsTold s scfi.FrameLost = cfa_of s.known ≡ None
IsTold s (scfi.RegisterLost r) = IsFirstOf (IsLost s.stands) (number_of r)
IsTold s scfi.ReturnAddressOverwritten = Overwrites s
IsTold s (scfi.StackNotRestored distance) =
    (s.node.exits ≡ true) × (s.known 0 ≢ Some at_exit) × (distance ≡ option_map signed (s.known 0))
IsTold s (scfi.RegisterNotRestored r) = (s.node.exits ≡ true) × IsFirstOf (λ q. s.stands (entry q) ≡ false) (number_of r)
IsTold s scfi.UntraceableJump = s.node.untraced ≡ true
IsTold s scfi.CallIntoFunction = s.node.calls_inside ≡ true
IsTold s scfi.NotInstructions = is_data s.item.effect.role ≡ true
IsTold s scfi.RunsPastEnd =
    (s.last ≡ true) × (s.node.falls ≡ true) × (calls_by s.item.effect.role ≡ false) × IsChangedAfter s
IsTold s scfi.UnsupportedStackUse = unsupported_by s.item.effect.role ≡ true
IsTold s scfi.OffsetTooLarge = IsFar s.known

-- the order in which the faults of an item are told
abbrev pub rank_of : ScfiFault → ℕ
rank_of scfi.FrameLost = 1
rank_of (scfi.RegisterLost r) = 2
rank_of scfi.ReturnAddressOverwritten = 3
rank_of (scfi.StackNotRestored distance) = 4
rank_of (scfi.RegisterNotRestored r) = 5
rank_of scfi.UntraceableJump = 6
rank_of scfi.CallIntoFunction = 7
rank_of scfi.NotInstructions = 8
rank_of scfi.RunsPastEnd = 9
rank_of scfi.UnsupportedStackUse = 10
rank_of scfi.OffsetTooLarge = 11

-- no fault is told here
abbrev pub IsSound : Situation → Type 0
IsSound s = (fault : ScfiFault) → IsTold s fault → ⊥

-- this fault is told here, and none of a lower rank
pub record IsFirst (s : Situation) (fault : ScfiFault) : Type 0 where
  pub told : IsTold s fault
  pub first : (other : ScfiFault) → IsTold s other → rank_of fault ≤ rank_of other

-- the fault says that what the item does cannot be followed, whatever a frame table says of it
abbrev pub is_unfollowed : ScfiFault → Bool
is_unfollowed scfi.ReturnAddressOverwritten = true
is_unfollowed scfi.UntraceableJump = true
is_unfollowed scfi.CallIntoFunction = true
is_unfollowed scfi.NotInstructions = true
is_unfollowed scfi.UnsupportedStackUse = true
is_unfollowed scfi.OffsetTooLarge = true
is_unfollowed _ = false

-- no such fault is told here
abbrev pub IsFollowed : Situation → Type 0
IsFollowed s = (fault : ScfiFault) → is_unfollowed fault ≡ true → IsTold s fault → ⊥

-- such a fault is told here, and none of them of a lower rank
pub record IsFirstUnfollowed (s : Situation) (fault : ScfiFault) : Type 0 where
  pub unfollowed : is_unfollowed fault ≡ true
  pub told : IsTold s fault
  pub first : (other : ScfiFault) → is_unfollowed other ≡ true → IsTold s other → rank_of fault ≤ rank_of other
