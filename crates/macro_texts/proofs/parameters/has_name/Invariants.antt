-- The parameters so far have other names.
use Rattle.std.proofs.Common.{◌≡◌, map, drop}
use Rattle.std.specs.List.{list_any}
use Rattle.macro_texts.specs.ParametersSeen.{parameter_seen}
use Rattle.macro_texts.specs.Parameters.{is_named}
use Rattle.macro_texts.proofs.parameters.has_name.Given as goal

abbrev pub invariant-loop-parameter : goal.invariant-loop-parameter
invariant-loop-parameter l = list_any (is_named l.name) (map parameter_seen (drop l.parameter-index l.parameters)) ≡ list_any (is_named l.name) (map parameter_seen l.parameters)
