-- The bytes so far, and those to come, are all.
use Rattle.std.proofs.Common.{◌≡◌, ◌+◌, drop}
use Rattle.elf_file.specs.Pieces.{repeated_size}
use Rattle.elf_file.proofs.file_pieces.total.Given as goal

abbrev pub invariant-loop-one : goal.invariant-loop-one
invariant-loop-one l = l.sum + repeated_size (drop l.one-index l.between) ≡ repeated_size l.between
