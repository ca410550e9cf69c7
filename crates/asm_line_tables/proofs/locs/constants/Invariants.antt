-- The values so far, and those of the forms to come, are those of all.
use Rattle.std.proofs.Common.{◌≡◌, drop}
use Rattle.asm_operands.specs.Expressions.{constant_in}
use Rattle.asm_operands.specs.Operands.{each, behind}
use Rattle.asm_line_tables.proofs.locs.constants.Given as goal

abbrev pub invariant-loop-form : goal.invariant-loop-form
invariant-loop-form l = behind l.values.items (each constant_in (drop l.form-index l.forms)) ≡ each constant_in l.forms
