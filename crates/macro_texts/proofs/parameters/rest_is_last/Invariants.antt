-- The parameters so far are the last that may be.
use Rattle.std.proofs.Common.{◌≡◌, map, drop}
use Rattle.macro_texts.specs.ParametersSeen.{parameter_seen}
use Rattle.macro_texts.specs.Parameters.{rest_is_last}
use Rattle.macro_texts.proofs.parameters.rest_is_last.Given as goal

abbrev pub invariant-loop-at : goal.invariant-loop-at
invariant-loop-at l = rest_is_last (map parameter_seen (drop l.at l.parameters)) ≡ rest_is_last (map parameter_seen l.parameters)
