-- The sections so far, and those to come, are all.
use Rattle.std.proofs.Common.{◌≡◌, ◌++◌, ◌+◌, ◌*◌, ◌≤◌, length, map}
use Rattle.elf_object.specs.Sections.{entries_from}
use Rattle.elf_file.specs.Views.{section_view}
use Rattle.elf_symbols.specs.Views.{numbers_view}
use Rattle.elf_object.specs.Views.{held_entry, relocations_in}
use Rattle.elf_object.proofs.sections.put_sections.Given as goal

abbrev pub invariant-loop-section : goal.invariant-loop-section
invariant-loop-section l = record {
  below : l.index + 2 * length l.section-iterator.rest.items ≤ l.first + 2 * length l.fn.held.items;
  left : map section_view l.out.items
      ++ entries_from (numbers_view l.numbers) l.symbols l.index (map held_entry l.section-iterator.rest.items) (map relocations_in l.section-iterator.rest.items)
      ≡ map section_view l.fn.out.items ++ entries_from (numbers_view l.numbers) l.symbols l.first (map held_entry l.fn.held.items) (map relocations_in l.fn.held.items);
}
