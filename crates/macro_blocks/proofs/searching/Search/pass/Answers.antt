-- The statement by its word and its operands.
use Rattle.std.proofs.Common.{map, subst, Option, Result, Bool}
use Rattle.asm_base.specs.Tokens.{spelled}
use Rattle.macro_words.specs.declared.causes.MacroCause.{MacroCause}
use Rattle.macro_blocks.specs.Searches.{EndsBy}
use Rattle.macro_blocks.proofs.Searches.{ends_at, passes}
use Rattle.macro_blocks.proofs.searching.Search.pass.Goals as goal

pub returns-in-Some-clause-passes : goal.returns-in-Some-clause-passes
returns-in-Some-clause-passes g c =
    let verdict = g.V.Verdicts.verdict c.args.verdicts.now in
    let operands = map spelled c.operands.result.now in
    let Ends : Option (Result Bool MacroCause) → Type 0 = λ stop. EndsBy c.args.self.now verdict c.word_of_head-word.result operands stop in
    ends_at verdict c.args.self.now (map spelled c.args.tokens.now) (map spelled c.behind_labels-head.result.now) operands c.word_of_head-word.result c.in-Some.verdict c.behind_labels-head.ensures c.word_of_head-word.ensures c.operands.ensures (subst Ends c.in-Some.is c.in_ok-verdict.ensures)

pub returns-in_ok-go_on-in-None-clause-passes : goal.returns-in_ok-go_on-in-None-clause-passes
returns-in_ok-go_on-in-None-clause-passes g c =
    let verdict = g.V.Verdicts.verdict c.args.verdicts.now in
    let operands = map spelled c.operands.result.now in
    let Ends : Option (Result Bool MacroCause) → Type 0 = λ stop. EndsBy c.args.self.now verdict c.word_of_head-word.result operands stop in
    passes verdict c.args.self.now c.go_on.new.self (map spelled c.args.tokens.now) (map spelled c.behind_labels-head.result.now) operands c.word_of_head-word.result c.behind_labels-head.ensures c.word_of_head-word.ensures c.operands.ensures (subst Ends c.in-None.is c.in_ok-verdict.ensures) c.in_ok-go_on-in-None.ensures.passed
