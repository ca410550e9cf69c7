use Rattle.att_operands.proofs.SuffixLemmas.{joined_list}
use Rattle.att_operands.proofs.values.joined_tokens.Goals as goal

pub returns-clause-value : goal.returns-clause-value
returns-clause-value c =
    rw (c.in_ok-extend_from_slice-2.ensures.items, c.in_ok-extend_from_slice.ensures.items, c.new-list.ensures.items) (joined_list c.args.tokens.now c.args.at c.args.name c.requires.order c.requires.within)
