-- What is laid out so far, with the sections that are left after it, is the whole.
use Rattle.std.proofs.Common.{◌≡◌, ◌+◌, ◌++◌, All, map, drop, length}
use Rattle.elf_file.specs.Image.{bodies_from, headers_from, header_table, header_end}
use Rattle.elf_file.specs.Limits.{EntryFits}
use Rattle.elf_file.specs.Views.{section_view, ends_at}
use Rattle.elf_file.proofs.image.lay_out.Given as goal

abbrev pub invariant-loop-section : goal.invariant-loop-section
invariant-loop-section l = record {
  count : l.index + length l.section-iterator.rest.items ≡ length l.names;
  ends : ends_at l.laid.end l.laid.pieces;
  pieces : l.laid.pieces ++ bodies_from l.laid.end (map section_view l.section-iterator.rest.items)
      ≡ bodies_from header_end (map section_view l.fn.sections.items);
  headers : l.laid.headers.items ++ headers_from l.laid.end (drop l.index l.names) (map section_view l.section-iterator.rest.items)
      ≡ header_table l.names (map section_view l.fn.sections.items);
  numbers : All EntryFits (map section_view l.section-iterator.rest.items) → All EntryFits (map section_view l.fn.sections.items);
}
