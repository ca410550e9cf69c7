-- What the code has of what is followed of an item.
use Rattle.insn_effects.specs.Followed.{FollowedMove, FollowedStore, FollowedLoad}
use Rattle.stack_depths.specs.declared.followed.FollowedAccess.{FollowedAccess}

-- a move
abbrev pub move_by : Rattle.stack_depths.specs.declared.followed.FollowedMove.FollowedMove → FollowedMove
move_by m = record { to = m.to; base = m.base; add = m.add }

-- a store
abbrev pub store_by : FollowedAccess → FollowedStore
store_by a = record { base = a.base; displacement = a.displacement; size = a.size; register = a.register }

-- a load
abbrev pub load_by : FollowedAccess → FollowedLoad
load_by a = record { base = a.base; displacement = a.displacement; register = a.register }
