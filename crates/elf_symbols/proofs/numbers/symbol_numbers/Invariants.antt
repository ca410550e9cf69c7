-- The numbers so far, and those to come, are all.
use Rattle.std.proofs.Common.{◌≡◌, ◌++◌, ◌+◌, ◌≤◌, drop}
use Rattle.elf_symbols.specs.Numbers.{symbol_numbers}
use Rattle.elf_symbols.proofs.numbers.symbol_numbers.Given as goal

abbrev pub invariant-loop-standing : goal.invariant-loop-standing
invariant-loop-standing l = record {
  locals : l.next_local ≤ l.local + l.standing-index;
  others : l.next_other ≤ l.other + l.standing-index;
  left : l.numbers.items ++ symbol_numbers l.next_local l.next_other (drop l.standing-index l.standings)
      ≡ symbol_numbers l.local l.other l.standings;
}
