-- The parameters so far, and those that are left.
use Rattle.std.proofs.Common.{length, ◌-◌, ◌≡◌, ◌≤◌, map, drop}
use Rattle.asm_base.specs.Tokens.{spelled}
use Rattle.macro_texts.specs.ParametersSeen.{parameter_seen}
use Rattle.macro_texts.specs.Parameters.{each_parameter, parameter_parts}
use Rattle.macro_texts.specs.PartLengths.{behind}
use Rattle.macro_texts.proofs.parameters.each_parameter.Given as goal

abbrev pub invariant-loop-at : goal.invariant-loop-at
invariant-loop-at l = record {
  read : behind (map parameter_seen l.parameters.items) (each_parameter (parameter_parts (map spelled (drop l.at l.tokens)))) ≡ each_parameter (parameter_parts (map spelled l.tokens));
  within : l.at ≤ length l.tokens;
}

abbrev pub decreases-loop-at : goal.decreases-loop-at
decreases-loop-at l = length l.tokens - l.at
