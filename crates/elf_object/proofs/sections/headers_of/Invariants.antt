-- The indices so far, and those to come, are all.
use Rattle.std.proofs.Common.{◌≡◌, ◌++◌, ◌+◌, ◌*◌, ◌≤◌, drop, map}
use Rattle.elf_object.specs.Sections.{header_indices_from, next_header}
use Rattle.elf_object.specs.Views.{relocations_in}
use Rattle.elf_object.proofs.sections.headers_of.Given as goal

abbrev pub invariant-loop-section : goal.invariant-loop-section
invariant-loop-section l = record {
  below : l.next ≤ l.first + 2 * l.section-index;
  indices : l.indices.items ++ header_indices_from l.next (map relocations_in (drop l.section-index l.held)) ≡ header_indices_from l.first (map relocations_in l.held);
  next : next_header l.next (map relocations_in (drop l.section-index l.held)) ≡ next_header l.first (map relocations_in l.held);
}
