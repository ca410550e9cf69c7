-- The sections so far, and those to come, are all.
use Rattle.std.proofs.Common.{◌≡◌, ◌++◌, ◌+◌, ◌≤◌, length, map}
use Rattle.asm_frags.specs.Groups.{groups_of}
use Rattle.elf_file.specs.Views.{section_view}
use Rattle.elf_symbols.specs.Views.{numbers_view}
use Rattle.elf_object.specs.Sections.{group_entries}
use Rattle.elf_object.specs.Views.{relocations_in}
use Rattle.elf_object.proofs.GroupLemmas.{listing_entries}
use Rattle.elf_object.proofs.sections.group_sections.Given as goal

abbrev pub invariant-loop-list : goal.invariant-loop-list
invariant-loop-list l = record {
  below : l.index + length l.list-iterator.rest.items ≤ 30005;
  left : map section_view l.out.items ++ listing_entries (numbers_view l.numbers) l.symbols l.index (map (λ list. list.items) l.list-iterator.rest.items)
      ≡ group_entries (numbers_view l.numbers) l.symbols l.sections (map relocations_in l.held) 0 (groups_of l.sections);
}
