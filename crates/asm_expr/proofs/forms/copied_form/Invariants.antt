-- The terms so far are those of the form.
use Rattle.std.proofs.Common.{◌≡◌, take}
use Rattle.asm_expr.proofs.forms.copied_form.Given as goal

abbrev pub invariant-loop-term : goal.invariant-loop-term
invariant-loop-term l = l.terms.items ≡ take l.term-index l.list
