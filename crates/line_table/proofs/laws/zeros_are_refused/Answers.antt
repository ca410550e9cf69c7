-- By what is found of the section.
use Rattle.line_table.proofs.RefusedLemmas.{refused_exactly, nothing_placed}
use Rattle.line_table.proofs.laws.zeros_are_refused.Goals as goal

pub returns-clause-exactly : goal.returns-clause-exactly
returns-clause-exactly c = refused_exactly

pub returns-clause-nothing : goal.returns-clause-nothing
returns-clause-nothing c = nothing_placed
