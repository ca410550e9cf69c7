-- Places on the stack, by their distances from the frame address modulo 2 ^ 64, and what an item does there.
use Rattle.std.specs.Prelude.{◌+◌, ◌-◌, ◌%◌, ◌^◌, ◌==◌, ◌||◌, ◌&&◌, ℕ, nat_lt, nat_le, Bool, true, false, Option, None, Some, if◌then◌else◌}
use Rattle.insn_effects.specs.declared.effects.Role.{Role}
use Rattle.insn_effects.specs.declared.effects.Role.TheVariants as role
use Rattle.insn_effects.specs.Followed.{wrap, FollowedMove, FollowedStore, FollowedLoad, Followed}
use Rattle.stack_depths.specs.Distances.{Distances, has_bit, sum_of, distance_after}
use Rattle.stack_facts.specs.declared.values.Span.{Span}
use Rattle.stack_facts.specs.declared.values.Slot.{Slot}
use Rattle.stack_facts.specs.declared.values.Clauses.{Clauses}
use Rattle.stack_facts.specs.declared.values.Clauses.TheVariants.{Synthesis, Kept}
use Rattle.stack_facts.specs.declared.values.Change.{Change}

-- the order of distances as signed numbers
abbrev pub below : ℕ → ℕ → Bool
below a b = nat_lt (wrap (a + 2 ^ 63)) (wrap (b + 2 ^ 63))

-- how far the second distance is behind the first
abbrev pub gap : ℕ → ℕ → ℕ
gap a b = wrap (b + (2 ^ 64 - wrap a))

-- so many bytes from a on meet the 8 bytes from b on
unfoldable pub overlaps : (a size b : ℕ) → Bool
overlaps a size b = nat_lt (gap a b) size || nat_lt (gap b a) 8

-- rbx, rbp and r12 to r15, by their numbers among the seven
abbrev pub is_saved : ℕ → Bool
is_saved r = nat_lt 0 r && nat_lt r 7

-- a slot lies at a multiple of 8 that is at most -16
abbrev pub is_slot_place : ℕ → Bool
is_slot_place n = n % 8 == 0 && (nat_le (2 ^ 63) n && nat_le n (2 ^ 64 - 16))

-- an address that is fixed: at a displacement from a register whose distance is known
abbrev pub fixed : Distances → (base displacement : ℕ) → Option ℕ
fixed known base displacement = sum_of (known base) displacement

-- so many bytes there
abbrev pub span_at : (size : ℕ) → Option ℕ → Option Span
span_at size None = None
span_at size (Some start) = Some (record { start = start; size = size })

-- the bytes that are stored at a fixed address
abbrev pub stored_by : Option FollowedStore → Distances → Option Span
stored_by None known = None
stored_by (Some s) known = span_at s.size (fixed known s.base s.displacement)

-- a slot of the register there, where it may be one
abbrev pub saved_at : (register size : ℕ) → Option ℕ → Option Slot
saved_at register size None = None
saved_at register size (Some n) =
    if is_saved register && (size == 8 && is_slot_place n) then Some (record { distance = n; register = register }) else None

-- the slot that a push or a store of a register may make
abbrev pub saved_by : Option FollowedStore → Distances → Option Slot
saved_by None known = None
saved_by (Some s) known = saved_at s.register s.size (fixed known s.base s.displacement)

-- the register's bytes there
abbrev pub loaded_at : (register : ℕ) → Option ℕ → Option Slot
loaded_at register None = None
loaded_at register (Some n) = Some (record { distance = n; register = register })

-- the 8 bytes at a fixed address from which a register is loaded
abbrev pub loaded_by : Option FollowedLoad → Distances → Option Slot
loaded_by None known = None
loaded_by (Some l) known = loaded_at l.register (fixed known l.base l.displacement)

-- where rsp is known afterwards, and was not known or was lower
abbrev pub floor_by : (before after : Option ℕ) → Option ℕ
floor_by before None = None
floor_by None (Some after) = Some after
floor_by (Some before) (Some after) = if below before after then Some after else None

-- what is dropped by synthesis alone: kept facts keep it
abbrev pub dropped_by : {A : Type 0} → Clauses → Option A → Option A
dropped_by Synthesis dropped = dropped
dropped_by Kept dropped = None

-- what an item does at known distances, by these clauses
abbrev pub change_by : Clauses → Followed → Distances → Change
change_by by e known = record {
  stored = stored_by e.stores known;
  cleared = if e.calls then known 0 else None;
  saved = saved_by e.stores known;
  loaded = loaded_by e.loads known;
  freed = dropped_by by (loaded_by e.loads known);
  floor = dropped_by by (floor_by (known 0) (distance_after e known 0));
}

-- by those of synthesis
abbrev pub change_of : Followed → Distances → Change
change_of = change_by Synthesis

-- the move changes this register
abbrev pub moves_to : Option FollowedMove → ℕ → Bool
moves_to None r = false
moves_to (Some m) r = m.to == r

-- the load changes this register
abbrev pub loads_to : Option FollowedLoad → ℕ → Bool
loads_to None r = false
loads_to (Some l) r = l.register == r

-- the item writes this register, in any way
abbrev pub writes : Followed → ℕ → Bool
writes e r = moves_to e.moves r || (loads_to e.loads r || has_bit e.written r)

-- nothing is followed of an item
abbrev pub nothing_followed : Followed
nothing_followed = record { moves = None; written = 0; stores = None; loads = None; calls = false }

-- an item of this role neither moves, stores, loads nor calls
abbrev pub is_quiet_role : Role → Bool
is_quiet_role role.Other = true
is_quiet_role role.Jump = true
is_quiet_role role.Branch = true
is_quiet_role role.Return = true
is_quiet_role role.Padding = true
is_quiet_role _ = false
