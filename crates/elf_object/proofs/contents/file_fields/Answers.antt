-- A field more is in place.
use Rattle.std.proofs.Common.{List, option_map, ap, ◌∙◌}
use Rattle.asm_frags.specs.declared.fields.Field.{Field}
use Rattle.elf_object.specs.declared.faults.ObjectCause.TheVariants.{NoRelocation}
use Rattle.elf_object.specs.Contents.{filled, is_lost}
use Rattle.elf_object.specs.Faults.{fields_fault}
use Rattle.elf_object.specs.Relocations.{field_relocation}
use Rattle.elf_object.proofs.FieldLemmas.{filter_step}
use Rattle.elf_object.proofs.LoopSteps.{find_step}
use Rattle.elf_object.proofs.PatchLemmas.{next_blank, one_patched, all_patched}
use Rattle.elf_object.proofs.contents.file_fields.Goals as goal

pub put_field-requires-clause-blank : goal.put_field-requires-clause-blank
put_field-requires-clause-blank c =
    (next_blank c.args.at.symbols.now c.args.at.sections.now c.args.section.now.bytes c.loop-field.out.bytes.items c.fields-fields.result.now c.loop-field.field-index
    c.field-item.result c.loop-field-test.true c.field-item.is c.loop-field.invariant.patched).1

pub loop-field-preserved : goal.loop-field-preserved
unfolding fields_fault
loop-field-preserved c =
    let symbols = c.args.at.symbols.now in
    let sections = c.args.at.sections.now in
    let fields = c.fields-fields.result.now in
    record {
      patched = one_patched symbols sections c.args.section.now.bytes c.loop-field.out.bytes.items c.put_field.new.out.bytes.items fields c.loop-field.field-index c.field-item.result
          c.loop-field-test.true c.field-item.is c.loop-field.invariant.patched c.in_ok-put_field.ensures.bytes;
      relocations = filter_step (field_relocation symbols sections c.args.number c.args.section.now) fields c.loop-field.field-index c.field-item.result _ _ _
          c.loop-field-test.true c.field-item.is c.loop-field.invariant.relocations c.in_ok-put_field.ensures.relocations;
      whole = find_step (is_lost symbols sections c.args.number c.args.section.now) (option_map (λ (field : Field). NoRelocation field.pos)) fields c.loop-field.field-index
          c.field-item.result _ c.loop-field-test.true c.field-item.is c.in_ok-put_field.ensures.whole c.loop-field.invariant.whole;
    }

pub returns-clause-bytes : goal.returns-clause-bytes
returns-clause-bytes c =
    let symbols = c.args.at.symbols.now in
    let sections = c.args.at.sections.now in
    let bytes = c.args.section.now.bytes in
    all_patched symbols sections bytes c.loop-field.out.bytes.items c.fields-fields.result.now c.loop-field.field-index c.loop-field-test.false c.loop-field.invariant.patched
    ∙ ap (λ (these : List Field). filled symbols sections bytes 0 these) c.fields-fields.ensures.fields
