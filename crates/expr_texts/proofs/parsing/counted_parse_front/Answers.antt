-- What is found at the front of the tokens is the expression that begins there.
use Rattle.std.proofs.Common.{map, refl}
use Rattle.asm_base.specs.Tokens.{spelled}
use Rattle.expr_texts.specs.Found.{read_tree}
use Rattle.expr_texts.proofs.GrammarLaws.{read_is_text}
use Rattle.expr_texts.proofs.ReadTreeLemmas.{read_tree_found}
use Rattle.expr_texts.proofs.parsing.counted_parse_front.Goals as goal

pub returns-clause-grammar : goal.returns-clause-grammar
returns-clause-grammar g c =
    let tokens = map spelled c.args.tokens.now in
    let is = read_tree_found c.args.tokens.now tokens 0 c.in_ok-found.found refl c.in_ok-found.ensures.value in
    read_is_text tokens 0 (read_tree (c.in_ok-found.found.expr, c.in_ok-found.found.next)) is
