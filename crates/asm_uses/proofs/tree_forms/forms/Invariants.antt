-- The forms so far, and what the expressions to come give, are what all give.
use Rattle.std.proofs.Common.{◌≡◌, map, drop}
use Rattle.asm_expr.specs.Trees.{tree_of}
use Rattle.asm_operands.specs.Operands.{each, behind}
use Rattle.asm_uses.specs.KnownIn.{known_in}
use Rattle.asm_operands.specs.Expressions.{form_in}
use Rattle.asm_uses.proofs.tree_forms.forms.Given as goal

abbrev pub invariant-loop-expr : goal.invariant-loop-expr
invariant-loop-expr l =
    behind l.forms.items (each (form_in (known_in l.view)) (map tree_of (drop l.expr-index l.exprs)))
    ≡ each (form_in (known_in l.view)) (map tree_of l.exprs)
