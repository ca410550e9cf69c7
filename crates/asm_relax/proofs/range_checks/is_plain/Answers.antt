-- A number in groups fits whatever it is.
use Rattle.asm_relax.specs.FieldValues.{held_value}
use Rattle.asm_relax.proofs.NearFields.{number_misfit}
use Rattle.asm_relax.proofs.range_checks.is_plain.Goals as goal

pub returns-then-is_number : goal.returns-then-is_number
returns-then-is_number c = λ is.
    let field = c.args.field.now in
    number_misfit field.pos field.role.kind field.size (held_value c.args.symbols.now c.args.sections.now field) (c.is_number.ensures c.if-is_number.true)
