-- The symbol that is found and the terms that are left give the one symbol.
use Rattle.std.proofs.Common.{◌≡◌, drop}
use Rattle.std.specs.Prelude.{filter}
use Rattle.flow_graph.specs.Targets.{is_of_symbol, lone_term}
use Rattle.flow_graph.proofs.TargetLemmas.{lone_from}
use Rattle.flow_graph.proofs.pointing.lone_symbol.Given as goal

abbrev pub invariant-loop-term : goal.invariant-loop-term
invariant-loop-term l =
    lone_from l.found (filter is_of_symbol (drop l.term-index l.terms)) ≡ lone_term (filter is_of_symbol l.terms)
