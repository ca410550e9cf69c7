-- The lists so far, with what is to come, are all.
use Rattle.std.proofs.Common.{◌≡◌, ◌+◌, ◌*◌, ◌≤◌, drop, length, map}
use Rattle.asm_frags.specs.Groups.{groups_of}
use Rattle.elf_object.specs.Views.{relocations_in, source_of}
use Rattle.elf_object.proofs.GroupLemmas.{completed, group_words}
use Rattle.elf_object.proofs.sections.group_lists.Given as goal

abbrev pub invariant-loop-section : goal.invariant-loop-section
invariant-loop-section l = record {
  below : l.index ≤ l.first + 2 * l.section-index;
  long : length l.lists.items ≡ length (groups_of l.sections);
  left : completed (map (λ list. list.items) l.lists.items) (groups_of l.sections) l.index (map source_of (drop l.section-index l.held)) (map relocations_in (drop l.section-index l.held))
      ≡ group_words (groups_of l.sections) l.first l.sections (map relocations_in l.held);
}
