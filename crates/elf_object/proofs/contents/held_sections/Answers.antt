-- One more section.
use Rattle.std.proofs.Common.{◌+◌, drop, map, sym, ap, ◌∙◌}
use Rattle.asm_relax.specs.Faults.{or_later}
use Rattle.elf_object.specs.Contents.{section_relocations, relocations_from}
use Rattle.elf_object.specs.Faults.{field_fault_from}
use Rattle.elf_object.specs.Sections.{source_section}
use Rattle.elf_object.specs.Views.{held_entry, relocations_in, source_of}
use Rattle.elf_object.proofs.LoopSteps.{next_is, pushed}
use Rattle.elf_object.proofs.contents.held_sections.Goals as goal

pub loop-number-preserved : goal.loop-number-preserved
loop-number-preserved c =
    let symbols = c.args.at.symbols.now in
    let sections = c.args.at.sections.now in
    let all = c.as_slice-sections.result.now in
    let i = c.loop-number.number in
    let section = c.index-sections-number.result in
    let held = c.in_ok-held_section.field-0 in
    record {
      entries = pushed held_entry c.loop-number.held.items c.push.new.self.items held (source_section symbols sections section)
          (map (source_section symbols sections) (drop i all)) (map (source_section symbols sections) (drop (i + 1) all)) _ c.in_ok-held_section.ensures.entry
          c.in_ok-push.ensures.items (next_is (map (source_section symbols sections)) all i section c.loop-number-test.true c.index-sections-number.is)
          c.loop-number.invariant.entries;
      sources = pushed source_of c.loop-number.held.items c.push.new.self.items held section (drop i all) (drop (i + 1) all) _ c.in_ok-held_section.ensures.source
          c.in_ok-push.ensures.items (next_is (λ these. these) all i section c.loop-number-test.true c.index-sections-number.is) c.loop-number.invariant.sources;
      relocations = pushed relocations_in c.loop-number.held.items c.push.new.self.items held (section_relocations symbols sections i section)
          (relocations_from symbols sections i (drop i all)) (relocations_from symbols sections (i + 1) (drop (i + 1) all)) _
          c.in_ok-held_section.ensures.relocations c.in_ok-push.ensures.items
          (next_is (relocations_from symbols sections i) all i section c.loop-number-test.true c.index-sections-number.is) c.loop-number.invariant.relocations;
      whole = ap (λ fault. or_later fault (field_fault_from symbols sections (i + 1) (drop (i + 1) all))) (sym c.in_ok-held_section.ensures.whole)
          ∙ sym (next_is (field_fault_from symbols sections i) all i section c.loop-number-test.true c.index-sections-number.is) ∙ c.loop-number.invariant.whole;
    }
