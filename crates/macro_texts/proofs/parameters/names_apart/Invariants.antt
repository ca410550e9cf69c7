-- The parameters so far have names of their own.
use Rattle.std.proofs.Common.{◌≡◌, map, drop}
use Rattle.macro_texts.specs.ParametersSeen.{parameter_seen}
use Rattle.macro_texts.specs.Parameters.{names_apart}
use Rattle.macro_texts.proofs.parameters.names_apart.Given as goal

abbrev pub invariant-loop-at : goal.invariant-loop-at
invariant-loop-at l = names_apart (map parameter_seen (drop l.at l.parameters)) ≡ names_apart (map parameter_seen l.parameters)
