-- The fields so far are in place, and the relocations so far, and those from here on, are those of all; no field is lost so far.
use Rattle.std.proofs.Common.{◌≡◌, ◌++◌, drop, filter_map}
use Rattle.elf_object.specs.Faults.{fields_fault}
use Rattle.elf_object.specs.Relocations.{field_relocation}
use Rattle.elf_object.proofs.PatchLemmas.{IsPatched}
use Rattle.elf_object.proofs.contents.file_fields.Given as goal

abbrev pub invariant-loop-field : goal.invariant-loop-field
invariant-loop-field l = record {
  patched : IsPatched l.at.symbols.now l.at.sections.now l.section.bytes l.fields l.field-index l.out.bytes.items;
  relocations : l.out.relocations.items ++ filter_map (field_relocation l.at.symbols.now l.at.sections.now l.number l.section) (drop l.field-index l.fields)
      ≡ filter_map (field_relocation l.at.symbols.now l.at.sections.now l.number l.section) l.fields;
  whole : fields_fault l.at.symbols.now l.at.sections.now l.number l.section (drop l.field-index l.fields)
      ≡ fields_fault l.at.symbols.now l.at.sections.now l.number l.section l.fields;
}
