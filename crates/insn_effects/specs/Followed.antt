-- What the analysis of the stack follows of an instruction: of the seven registers, by their numbers among the seven, and modulo 2 ^ 64.
use Rattle.std.specs.Prelude.{◌≡◌, ◌-◌, ◌%◌, ◌^◌, ◌==◌, ◌||◌, ℕ, Bool, true, false, if◌then◌else◌, Option, None, Some}
use Rattle.insn_effects.specs.declared.effects.Role.{Role}
use Rattle.insn_effects.specs.declared.effects.Role.TheVariants as role
use Rattle.insn_effects.specs.declared.effects.Effect.{Effect}
use Rattle.insn_effects.specs.Seven.{number_of, kept_number, bits_of}
use Rattle.insn_effects.specs.Effects.{Move, Load, Store, none, based, unfollowed, StackEffect}
use Rattle.insn_effects.specs.Flows.{Flow, onward, jumps, calls, through, returns, stops}

-- a number modulo 2 ^ 64
abbrev pub wrap : ℕ → ℕ
wrap n = n % 2 ^ 64

-- a register gets what another or itself holds, and a number more
pub record FollowedMove : Type 0 where
  pub to : ℕ
  pub base : ℕ
  pub add : ℕ

-- so many bytes are stored at a displacement from a base: a callee-saved register, whole, or others, by 7
pub record FollowedStore : Type 0 where
  pub base : ℕ
  pub displacement : ℕ
  pub size : ℕ
  pub register : ℕ

-- a callee-saved register gets the eight bytes at a displacement from a base
pub record FollowedLoad : Type 0 where
  pub base : ℕ
  pub displacement : ℕ
  pub register : ℕ

-- what is followed; the registers that are written in another way than by the move are bits, the lowest for rsp
pub record Followed : Type 0 where
  pub moves : Option FollowedMove
  pub written : ℕ
  pub stores : Option FollowedStore
  pub loads : Option FollowedLoad
  pub calls : Bool

-- a move, where the register that moves and the base are both among the seven
abbrev pub moved : (to base add : ℕ) → Option FollowedMove
moved to base add = if (to == 7) || (base == 7) then None else Some (record { to = to; base = base; add = add })

-- a store, where its base is one of the seven, whether or not it saves a register
abbrev pub stored : (base displacement size register : ℕ) → Option FollowedStore
stored base displacement size register =
    if base == 7 then None else Some (record { base = base; displacement = displacement; size = size; register = register })

-- a load, where its base is one of the seven and its register one of the six
abbrev pub loaded : (base displacement register : ℕ) → Option FollowedLoad
loaded base displacement register =
    if (base == 7) || (register == 7) then None else Some (record { base = base; displacement = displacement; register = register })

-- of a move
abbrev pub followed_move : Option Move → Option FollowedMove
followed_move None = None
followed_move (Some m) = moved (number_of m.to) (number_of m.base) (wrap m.add)

-- the number of the register that is saved, or 7 where it is none of the six
abbrev pub saved_number : Option ℕ → ℕ
saved_number None = 7
saved_number (Some r) = kept_number (number_of r)

-- of a store, which may save a register
abbrev pub followed_store : Store → Option ℕ → Option FollowedStore
followed_store none saves = None
followed_store (based b d n) saves = stored (number_of b) (wrap d) n (saved_number saves)
followed_store unfollowed saves = None

-- of a load
abbrev pub followed_load : Option Load → Option FollowedLoad
followed_load None = None
followed_load (Some l) = loaded (number_of l.base) (wrap l.displacement) (kept_number (number_of l.register))

-- a register that is written, but for what a move gives
abbrev pub written_beside : Option FollowedMove → (ℕ → Bool) → ℕ → Bool
written_beside None written q = written q
written_beside (Some m) written q = if m.to == number_of q then false else written q

-- what is followed of an effect
abbrev pub followed : StackEffect → Followed
followed e = record {
  moves = followed_move e.moves;
  written = bits_of (written_beside (followed_move e.moves) e.written);
  stores = followed_store e.stores e.saves;
  loads = followed_load e.loads;
  calls = e.calls;
}

-- the move that an item makes, by its role
abbrev pub moves_by : Role → Effect → Option FollowedMove
moves_by role.Other e = None
moves_by role.Move e = moved e.register e.base e.amount
moves_by role.Push e = moved 0 0 (2 ^ 64 - 8)
moves_by role.Pop e = moved 0 0 8
moves_by role.PopMemory e = moved 0 0 8
moves_by role.PopStack e = moved 0 0 8
moves_by role.PushWord e = moved 0 0 (2 ^ 64 - 8)
moves_by role.PopWord e = moved 0 0 8
moves_by role.Store e = None
moves_by role.Load e = None
moves_by role.Leave e = moved 0 2 8
moves_by role.Call e = None
moves_by role.CallThrough e = None
moves_by role.Jump e = None
moves_by role.Branch e = None
moves_by role.JumpThrough e = None
moves_by role.Return e = None
moves_by role.ReturnPopping e = None
moves_by role.Stop e = None
moves_by role.Padding e = None
moves_by role.Data e = None

-- the store that it makes
abbrev pub stores_by : Role → Effect → Option FollowedStore
stores_by role.Other e = None
stores_by role.Move e = None
stores_by role.Push e = stored 0 (2 ^ 64 - 8) 8 e.register
stores_by role.Pop e = None
stores_by role.PopMemory e = stored e.base e.amount 8 7
stores_by role.PopStack e = None
stores_by role.PushWord e = stored 0 (2 ^ 64 - 8) 8 7
stores_by role.PopWord e = None
stores_by role.Store e = stored e.base e.amount e.size e.register
stores_by role.Load e = None
stores_by role.Leave e = None
stores_by role.Call e = stored 0 (2 ^ 64 - 8) 8 7
stores_by role.CallThrough e = stored 0 (2 ^ 64 - 8) 8 7
stores_by role.Jump e = None
stores_by role.Branch e = None
stores_by role.JumpThrough e = None
stores_by role.Return e = None
stores_by role.ReturnPopping e = None
stores_by role.Stop e = None
stores_by role.Padding e = None
stores_by role.Data e = None

-- the load that it makes
abbrev pub loads_by : Role → Effect → Option FollowedLoad
loads_by role.Other e = None
loads_by role.Move e = None
loads_by role.Push e = None
loads_by role.Pop e = loaded 0 0 e.register
loads_by role.PopMemory e = None
loads_by role.PopStack e = None
loads_by role.PushWord e = None
loads_by role.PopWord e = None
loads_by role.Store e = None
loads_by role.Load e = loaded e.base e.amount e.register
loads_by role.Leave e = loaded 2 0 2
loads_by role.Call e = None
loads_by role.CallThrough e = None
loads_by role.Jump e = None
loads_by role.Branch e = None
loads_by role.JumpThrough e = None
loads_by role.Return e = None
loads_by role.ReturnPopping e = None
loads_by role.Stop e = None
loads_by role.Padding e = None
loads_by role.Data e = None

-- an item of a role that writes these registers, and has no other
abbrev pub writing : Role → ℕ → Effect
writing own written = record { role = own; written = written; register = 7; base = 7; size = 0; amount = 0 }

-- it is a call
abbrev pub calls_by : Role → Bool
calls_by role.Call = true
calls_by role.CallThrough = true
calls_by _ = false

-- what is followed of an item
abbrev pub followed_by : Effect → Followed
followed_by e = record {
  moves = moves_by e.role e;
  written = e.written;
  stores = stores_by e.role e;
  loads = loads_by e.role e;
  calls = calls_by e.role;
}

-- where control goes from an item: padding does nothing, and data are no instruction
abbrev pub flow_by : Role → Flow
flow_by role.Call = calls
flow_by role.Jump = jumps false
flow_by role.Branch = jumps true
flow_by role.JumpThrough = through
flow_by role.Return = returns
flow_by role.ReturnPopping = returns
flow_by role.Stop = stops
flow_by role.Data = stops
flow_by _ = onward

-- the use of the stack is not supported
abbrev pub unsupported_by : Role → Bool
unsupported_by role.PopStack = true
unsupported_by role.PushWord = true
unsupported_by role.PopWord = true
unsupported_by role.ReturnPopping = true
unsupported_by _ = false

-- it is padding
abbrev pub is_padding : Role → Bool
is_padding role.Padding = true
is_padding _ = false

-- it is no instruction
abbrev pub is_data : Role → Bool
is_data role.Data = true
is_data _ = false

-- the item is an instruction of this effect, and control goes so
pub record Shows (e : Effect) (wanted : StackEffect) (goes : Flow) (bad : Bool) : Type 0 where
  pub effect : followed_by e ≡ followed wanted
  pub flow : flow_by e.role ≡ goes
  pub supported : unsupported_by e.role ≡ bad
  pub no_padding : is_padding e.role ≡ false
  pub no_data : is_data e.role ≡ false

-- registers are written, and bytes stored
abbrev pub wrote : ℕ → Option FollowedStore → Followed
wrote written stores = record { moves = None; written = written; stores = stores; loads = None; calls = false }
