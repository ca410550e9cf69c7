-- The numbers that so many bytes of LEB128 have room for.
use Rattle.std.specs.Prelude.{ℕ, zero, suc, ◌*◌}

-- unsigned numbers below this have room in at most one byte more
abbrev pub uleb_room : ℕ → ℕ
uleb_room zero = 128
uleb_room (suc more) = 128 * uleb_room more

-- signed numbers from minus this on and below this have room in at most one byte more
abbrev pub sleb_room : ℕ → ℕ
sleb_room zero = 64
sleb_room (suc more) = 128 * sleb_room more
