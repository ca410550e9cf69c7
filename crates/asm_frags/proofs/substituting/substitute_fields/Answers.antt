-- One field more has its new form.
use Rattle.std.proofs.Common.{◌<◌, length, slice_index_or, refl, rules}
use Rattle.asm_frags.proofs.SubstitutingLemmas.{field_more}
use Rattle.asm_frags.proofs.substituting.substitute_fields.Goals as goal

pub loop-field-preserved : goal.loop-field-preserved
loop-field-preserved g c =
    let within : c.loop-field.field-index < length c.args.fields.now = search rules in
    field_more (g.R.Substitution.substitute c.args.substitution.now) c.args.fields.now c.loop-field.fields c.loop-field.field-index
    (slice_index_or c.loop-field.fields c.loop-field.field-index c.field-item.result) c.field-item.result c.substitute_field.new.field within
    c.loop-field.invariant refl c.field-item.is (search rules)
