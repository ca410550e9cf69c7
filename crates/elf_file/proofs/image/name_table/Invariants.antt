-- The table so far, and the names to come, are the whole table.
use Rattle.std.proofs.Common.{◌≡◌, ◌++◌, [], ◌∷◌, drop, length, map, vec_len, codes}
use Rattle.elf_file.specs.Image.{all_names}
use Rattle.elf_file.specs.Sections.{section_names}
use Rattle.elf_file.specs.StringTable.{strings, string_table_of, name_offsets, name_offsets_after}
use Rattle.elf_file.specs.Views.{section_view}
use Rattle.elf_file.proofs.image.name_table.Given as goal

abbrev pub invariant-loop-section : goal.invariant-loop-section
invariant-loop-section l = record {
  bytes : l.bytes.items ++ strings (section_names (map section_view (drop l.section-index l.sections)) ++ codes ".shstrtab" ∷ [])
      ≡ string_table_of (all_names (map section_view l.sections));
  offsets : l.offsets.items ++ name_offsets_after (length l.bytes.items) (section_names (map section_view (drop l.section-index l.sections)) ++ codes ".shstrtab" ∷ [])
      ≡ name_offsets (all_names (map section_view l.sections));
  len : vec_len l.offsets ≡ l.section-index;
}
