-- As many symbols as were counted have none.
use Rattle.std.proofs.Common.{◌≡◌, replicate}
use Rattle.assigned_forms.specs.declared.expanding.Expansion.TheVariants.{Absent}
use Rattle.assigned_forms.proofs.expanding.MadeForms.none.Given as goal

abbrev pub invariant-loop : goal.invariant-loop
invariant-loop l = l.forms.items ≡ replicate l.counter Absent
