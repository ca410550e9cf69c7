-- Bytes that are 0.
use Rattle.std.specs.Prelude.{ℕ, ◌==◌, Bool}

-- the byte is 0
abbrev pub is_zero : ℕ → Bool
is_zero byte = byte == 0
