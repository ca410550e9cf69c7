-- A field with a value has no relocation, and one with a relocation stays zeros.
use Rattle.std.proofs.Common.{◌≡◌, None, sym, ap, ◌∙◌, arith, append-nil}
use Rattle.std.specs.Prelude.{unwrap_or}
use Rattle.asm_frags.specs.PlainBytes.{field_end}
use Rattle.asm_relax.specs.FieldValues.{held_value}
use Rattle.elf_object.specs.Contents.{held_bytes}
use Rattle.elf_object.proofs.FieldLemmas.{valued, has_no_relocation}
use Rattle.elf_object.proofs.PatchLemmas.{blank_stays}
use Rattle.elf_object.proofs.contents.put_field.Goals as goal

pub returns-then-has_value-clause-relocations : goal.returns-then-has_value-clause-relocations
returns-then-has_value-clause-relocations c =
    let none = has_no_relocation c.args.at.symbols.now c.args.at.sections.now c.args.number c.args.section.now c.args.field.now (sym c.has_value.ensures ∙ c.if-has_value.true) in
    rw none (sym (append-nil c.args.out.now.relocations.items))

pub returns-in-Some-clause-relocations : goal.returns-in-Some-clause-relocations
returns-in-Some-clause-relocations c =
    let none = valued c.args.at.symbols.now c.args.at.sections.now c.args.number c.in-Some.value c.args.section.now c.args.field.now (sym c.held_value.ensures ∙ c.in-Some.is) in
    rw none (sym (append-nil c.args.out.now.relocations.items))

pub returns-in_ok-push-in-Some-2-clause-bytes : goal.returns-in_ok-push-in-Some-2-clause-bytes
returns-in_ok-push-in-Some-2-clause-bytes c =
    let field = c.args.field.now in
    let none : held_value c.args.at.symbols.now c.args.at.sections.now field ≡ None = sym c.held_value.ensures ∙ c.in_default.is in
    blank_stays c.args.out.now.bytes.items field.offset (field_end field) _ (omega arith)
    (c.requires.blank ∙ ap (λ v. held_bytes field (unwrap_or v 0)) (sym none))
