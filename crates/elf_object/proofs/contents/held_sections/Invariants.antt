-- What is held so far, and what is to come, is all; no field is lost so far.
use Rattle.std.proofs.Common.{◌≡◌, ◌++◌, drop, map}
use Rattle.elf_object.specs.Contents.{relocations_from}
use Rattle.elf_object.specs.Faults.{field_fault_from}
use Rattle.elf_object.specs.Sections.{source_section}
use Rattle.elf_object.specs.Views.{held_entry, relocations_in, source_of}
use Rattle.elf_object.proofs.contents.held_sections.Given as goal

abbrev pub invariant-loop-number : goal.invariant-loop-number
invariant-loop-number l = record {
  entries : map held_entry l.held.items ++ map (source_section l.at.symbols.now l.at.sections.now) (drop l.number l.sections)
      ≡ map (source_section l.at.symbols.now l.at.sections.now) l.sections;
  sources : map source_of l.held.items ++ drop l.number l.sections ≡ l.sections;
  relocations : map relocations_in l.held.items ++ relocations_from l.at.symbols.now l.at.sections.now l.number (drop l.number l.sections)
      ≡ relocations_from l.at.symbols.now l.at.sections.now 0 l.sections;
  whole : field_fault_from l.at.symbols.now l.at.sections.now l.number (drop l.number l.sections)
      ≡ field_fault_from l.at.symbols.now l.at.sections.now 0 l.sections;
}
