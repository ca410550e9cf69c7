-- What is given so far, and what the arguments give that are left.
use Rattle.std.proofs.Common.{length, ◌-◌, ◌≡◌, ◌≤◌, map, drop}
use Rattle.asm_base.specs.Tokens.{spelled}
use Rattle.macro_texts.specs.ParametersSeen.{parameter_seen}
use Rattle.macro_texts.specs.Arguments.{given_from, arguments_of}
use Rattle.macro_texts.specs.ArgumentsSeen.{given_seen}
use Rattle.macro_texts.specs.PartLengths.{behind}
use Rattle.macro_texts.proofs.arguments.given_in.Given as goal

abbrev pub invariant-loop-at : goal.invariant-loop-at
invariant-loop-at l = record {
  read : behind (map given_seen l.given.items) (given_from (map parameter_seen l.parameters) l.place (arguments_of (map spelled (drop l.at l.tokens)))) ≡ given_from (map parameter_seen l.parameters) 0 (arguments_of (map spelled l.tokens));
  within : l.at ≤ length l.tokens;
  places : l.place ≤ length l.parameters;
}

abbrev pub decreases-loop-at : goal.decreases-loop-at
decreases-loop-at l = length l.tokens - l.at
