-- What the name has is what it has in the files not looked at yet.
use Rattle.std.proofs.Common.{◌≡◌, drop}
use Rattle.memory_outside.specs.Faulty.{contents_named}
use Rattle.memory_outside.proofs.faulty.contents_named.Given as goal

abbrev pub invariant-loop-file : goal.invariant-loop-file
invariant-loop-file l = contents_named (drop l.file-index l.files) l.unlisted l.name ≡ contents_named l.files l.unlisted l.name
