-- The parameters so far have other names.
use Rattle.std.proofs.Common.{◌≡◌, ◌+◌, map, drop}
use Rattle.std.specs.List.{position_or_len}
use Rattle.macro_texts.specs.ParametersSeen.{parameter_seen}
use Rattle.macro_texts.specs.Parameters.{is_named}
use Rattle.macro_texts.proofs.arguments.number_named.Given as goal

abbrev pub invariant-loop-at : goal.invariant-loop-at
invariant-loop-at l = position_or_len (is_named l.name) (map parameter_seen l.parameters) ≡ l.at + position_or_len (is_named l.name) (map parameter_seen (drop l.at l.parameters))
