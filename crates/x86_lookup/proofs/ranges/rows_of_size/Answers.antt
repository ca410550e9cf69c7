use Rattle.x86_lookup.proofs.SpanLaws.{size_within}
use Rattle.x86_lookup.proofs.ranges.rows_of_size.Goals as goal

pub returns-clause-within : goal.returns-clause-within
returns-clause-within c = size_within c.args.name.now.0 c.args.size c.span_of.result c.by_size.result c.span_of.ensures c.by_size.ensures
