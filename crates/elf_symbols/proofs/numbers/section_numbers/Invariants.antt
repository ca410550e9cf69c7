-- The numbers so far, and those to come, are all.
use Rattle.std.proofs.Common.{◌≡◌, ◌++◌, ◌+◌, ◌≤◌, drop}
use Rattle.elf_symbols.specs.Numbers.{section_numbers}
use Rattle.elf_symbols.proofs.numbers.section_numbers.Given as goal

abbrev pub invariant-loop-mark : goal.invariant-loop-mark
invariant-loop-mark l = record {
  below : l.next ≤ l.first + l.mark-index;
  left : l.numbers.items ++ section_numbers l.next (drop l.mark-index l.marks) ≡ section_numbers l.first l.marks;
}
