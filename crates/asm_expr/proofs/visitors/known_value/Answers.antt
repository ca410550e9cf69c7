-- The fold of the visitor is the linear form, and its value is known where that has no names.
use Rattle.asm_expr.specs.declared.visitors.KnownNow.{KnownNow}
use Rattle.asm_expr.specs.Trees.{tree_of}
use Rattle.asm_expr.specs.Linear.{linear, value_of}
use Rattle.asm_expr.specs.Evaluating.{knowledge_by}
use Rattle.asm_expr.proofs.RefusedSteps.{fault_raised}
use Rattle.asm_expr.proofs.LinearFolds.{folds_linear, value_given, value_fails}
use Rattle.asm_expr.proofs.visitors.known_value.Goals as goal

pub returns-in-Ok : goal.returns-in-Ok
returns-in-Ok g c =
    let first : KnownNow g.row.K.Denot = record { alloc = c.args.alloc; known = c.args.known } in
    let known = knowledge_by g.K.Known.told g.K.Known.meant g.K.Known.place c.args.known.now in
    let form = folds_linear (λ (visitor : KnownNow g.row.K.Denot). knowledge_by g.K.Known.told g.K.Known.meant g.K.Known.place visitor.known.now) (tree_of c.args.expr.now) first c.fold.result c.fold.new.visitor c.fold.ensures in
    value_given c.fold.result (linear known (tree_of c.args.expr.now)) c.in-Ok.form c.map_err.result c.in-Ok.is form.given
    (fault_raised c.value_of.result (value_of c.in-Ok.form) c.map_err.result c.value_of.ensures c.map_err.ensures.cases)

pub returns : goal.returns
returns g c =
    let first : KnownNow g.row.K.Denot = record { alloc = c.args.alloc; known = c.args.known } in
    let known = knowledge_by g.K.Known.told g.K.Known.meant g.K.Known.place c.args.known.now in
    let form = folds_linear (λ (visitor : KnownNow g.row.K.Denot). knowledge_by g.K.Known.told g.K.Known.meant g.K.Known.place visitor.known.now) (tree_of c.args.expr.now) first c.fold.result c.fold.new.visitor c.fold.ensures in
    value_fails c.fold.result (linear known (tree_of c.args.expr.now)) c.in-Err.refusal c.in-Err.is form.given
