-- What is found from the index on is the expression that begins there.
use Rattle.std.proofs.lemmas.Result.{err_from_is_err_and}
use Rattle.expr_texts.specs.Found.{read_tree}
use Rattle.expr_texts.proofs.ReadTreeLemmas.{read_tree_found, read_tree_fails}
use Rattle.expr_texts.proofs.parsing.counted_parse.Goals as goal

pub returns-in_err-found-clause-value : goal.returns-in_err-found-clause-value
returns-in_err-found-clause-value g c =
    let p = err_from_is_err_and c.from_residual.result c.from_residual.ensures.1 in
    rw (p.1, p.2) (read_tree_fails c.as_slice.result.now c.args.tokens.now c.args.at c.in_err-found.field-0.0 c.as_slice.ensures c.in_err-found.ensures.value)

pub returns-clause-value : goal.returns-clause-value
returns-clause-value g c = read_tree_found c.as_slice.result.now c.args.tokens.now c.args.at c.in_ok-found.found c.as_slice.ensures c.in_ok-found.ensures.value

pub returns-clause-grammar : goal.returns-clause-grammar
returns-clause-grammar g c =
    let is = read_tree_found c.as_slice.result.now c.args.tokens.now c.args.at c.in_ok-found.found c.as_slice.ensures c.in_ok-found.ensures.value in
    c.read_is_written.ensures c.args.tokens.now c.args.at (read_tree (c.in_ok-found.found.expr, c.in_ok-found.found.next)) is
