-- The fields before the index have their new forms.
use Rattle.std.proofs.Common.{◌≡◌}
use Rattle.asm_frags.specs.Substituting.{substituted_field}
use Rattle.asm_frags.proofs.SubstitutingLemmas.{front_changed}
use Rattle.asm_frags.proofs.substituting.substitute_fields.Given as goal

abbrev pub invariant-loop-field : goal.invariant-loop-field
invariant-loop-field g l = l.fields ≡ front_changed (substituted_field (g.R.Substitution.substitute l.substitution)) l.fn.fields l.field-index
