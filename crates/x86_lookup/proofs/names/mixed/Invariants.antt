use Rattle.std.proofs.Common.{◌≡◌, drop}
use Rattle.x86_lookup.specs.Names.{mixed}
use Rattle.x86_lookup.proofs.names.mixed.Given as goal

-- the hash of all is that of what is left, from the hash so far
abbrev pub invariant-loop-byte : goal.invariant-loop-byte
invariant-loop-byte l = mixed l.hash (drop l.byte-index l.text) ≡ mixed 0 l.text
