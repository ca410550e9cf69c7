-- The fold of the visitor gathers the names.
use Rattle.std.proofs.Common.{Ok, sym, ap}
use Rattle.asm_expr.specs.declared.gathering.Names.{Names}
use Rattle.asm_expr.specs.Trees.{tree_of}
use Rattle.asm_expr.specs.NamesOf.{names_of}
use Rattle.asm_expr.proofs.GatherLemmas.{folds_gather, all_gathered, only_memory}
use Rattle.asm_expr.proofs.gathering.names_of.Goals as goal

pub returns-in-Ok : goal.returns-in-Ok
returns-in-Ok c =
    let first : Names = record { alloc = c.args.alloc; names = c.new.result } in
    let gathers = folds_gather (λ (visitor : Names). visitor.names.items) (tree_of c.args.expr.now) first c.fold.result c.fold.new.visitor c.fold.ensures in
    ap Ok (sym (all_gathered c.new.result.items c.fold.result c.fold.new.visitor.names.items (names_of (tree_of c.args.expr.now)) c.new.ensures.items c.in-Ok.is gathers))

pub returns-in-Err : goal.returns-in-Err
returns-in-Err c =
    let first : Names = record { alloc = c.args.alloc; names = c.new.result } in
    let gathers = folds_gather (λ (visitor : Names). visitor.names.items) (tree_of c.args.expr.now) first c.fold.result c.fold.new.visitor c.fold.ensures in
    let memory = only_memory c.new.result.items c.fold.result c.fold.new.visitor.names.items (names_of (tree_of c.args.expr.now)) c.in-Err.refusal c.in-Err.is gathers in
    rw memory tt
