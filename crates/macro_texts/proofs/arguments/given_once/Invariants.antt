-- So far no parameter has two values.
use Rattle.std.proofs.Common.{◌≡◌, map, drop}
use Rattle.macro_texts.specs.Arguments.{given_once}
use Rattle.macro_texts.specs.ArgumentsSeen.{given_seen}
use Rattle.macro_texts.proofs.arguments.given_once.Given as goal

abbrev pub invariant-loop-at : goal.invariant-loop-at
invariant-loop-at l = given_once (map given_seen (drop l.at l.given)) ≡ given_once (map given_seen l.given)
