-- The parameters so far, and those that are left.
use Rattle.std.proofs.Common.{◌≡◌, map, drop}
use Rattle.macro_texts.specs.ParametersSeen.{parameter_seen}
use Rattle.macro_texts.specs.Arguments.{filled}
use Rattle.macro_texts.specs.ArgumentsSeen.{given_seen, argument_seen}
use Rattle.macro_texts.specs.PartLengths.{behind}
use Rattle.macro_texts.proofs.arguments.filled.Given as goal

abbrev pub invariant-loop-number : goal.invariant-loop-number
invariant-loop-number l = behind (map argument_seen l.arguments.items) (filled (map given_seen l.given) l.number (map parameter_seen (drop l.number l.parameters))) ≡ filled (map given_seen l.given) 0 (map parameter_seen l.parameters)
