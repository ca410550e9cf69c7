-- The numbers so far, and those to come, are all.
use Rattle.std.proofs.Common.{◌≡◌, ◌++◌, ◌+◌, ◌≤◌, drop}
use Rattle.asm_frags.specs.Groups.{groups_of}
use Rattle.elf_symbols.specs.Numbers.{group_numbers}
use Rattle.elf_symbols.proofs.numbers.group_numbers.Given as goal

abbrev pub invariant-loop-index : goal.invariant-loop-index
invariant-loop-index l = record {
  below : l.next ≤ l.first + l.index;
  left : l.made.items ++ group_numbers l.at.symbols.now l.standings l.numbers l.next (drop l.index (groups_of l.at.sections.now))
      ≡ group_numbers l.at.symbols.now l.standings l.numbers l.first (groups_of l.at.sections.now);
}
