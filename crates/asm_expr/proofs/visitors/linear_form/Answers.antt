-- The fold of the visitor is the linear form.
use Rattle.asm_expr.specs.declared.visitors.ToLinear.{ToLinear}
use Rattle.asm_expr.specs.Trees.{tree_of}
use Rattle.asm_expr.specs.Evaluating.{knowledge_by}
use Rattle.asm_expr.proofs.LinearFolds.{folds_linear}
use Rattle.asm_expr.proofs.visitors.linear_form.Goals as goal

pub returns : goal.returns
returns g c =
    let first : ToLinear g.row.K.Denot = record { alloc = c.args.alloc; known = c.args.known } in
    (folds_linear (λ (visitor : ToLinear g.row.K.Denot). knowledge_by g.K.Known.told g.K.Known.meant g.K.Known.place visitor.known.now) (tree_of c.args.expr.now) first c.fold.result c.fold.new.visitor c.fold.ensures).given
