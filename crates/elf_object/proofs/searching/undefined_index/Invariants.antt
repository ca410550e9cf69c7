-- None before the index is undefined.
use Rattle.std.proofs.Common.{◌≡◌, ◌+◌, drop}
use Rattle.std.specs.List.{position_or_len}
use Rattle.elf_object.specs.Faults.{is_undefined_local}
use Rattle.elf_object.proofs.searching.undefined_index.Given as goal

abbrev pub invariant-loop-index : goal.invariant-loop-index
invariant-loop-index l = position_or_len is_undefined_local l.symbols ≡ l.index + position_or_len is_undefined_local (drop l.index l.symbols)
