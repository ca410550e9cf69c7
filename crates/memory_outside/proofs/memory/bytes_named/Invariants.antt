-- The bytes that the name has are those that it has in the files not looked at yet.
use Rattle.std.proofs.Common.{◌≡◌, drop}
use Rattle.memory_outside.specs.Memory.{bytes_named}
use Rattle.memory_outside.proofs.memory.bytes_named.Given as goal

abbrev pub invariant-loop-file : goal.invariant-loop-file
invariant-loop-file l = bytes_named (drop l.file-index l.files) l.name ≡ bytes_named l.files l.name
