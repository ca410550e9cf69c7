-- The fold of the visitor shows the expression.
use Rattle.std.proofs.Common.{Ok, sym, ap, ◌∙◌}
use Rattle.expr_texts.specs.declared.showing.Shown.{Shown}
use Rattle.asm_expr.specs.Trees.{tree_of}
use Rattle.expr_texts.specs.Shown.{ShownPiece, piece_of}
use Rattle.expr_texts.proofs.ShownFolds.{folds_shown, text_given, text_fails}
use Rattle.expr_texts.proofs.showing.shown_text.Goals as goal

pub returns-in-Ok : goal.returns-in-Ok
returns-in-Ok c =
    let first : Shown = record { alloc = c.args.alloc } in
    let gives = folds_shown (tree_of c.args.expr.now) first c.fold.result c.fold.new.visitor c.fold.ensures in
    let same = text_given c.fold.result (piece_of (tree_of c.args.expr.now)) c.in-Ok.piece c.in-Ok.is gives in
    ap Ok (ap (λ (p : ShownPiece). p.text) same ∙ sym c.into_text.ensures)

pub returns-in-Err : goal.returns-in-Err
returns-in-Err c =
    let first : Shown = record { alloc = c.args.alloc } in
    let gives = folds_shown (tree_of c.args.expr.now) first c.fold.result c.fold.new.visitor c.fold.ensures in
    text_fails c.fold.result (piece_of (tree_of c.args.expr.now)) c.in-Err.refusal _ c.in-Err.is gives
