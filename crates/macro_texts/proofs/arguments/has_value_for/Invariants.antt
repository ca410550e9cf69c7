-- So far no value is for the parameter.
use Rattle.std.proofs.Common.{◌≡◌, map, drop}
use Rattle.std.specs.List.{list_any}
use Rattle.macro_texts.specs.Arguments.{is_value_for}
use Rattle.macro_texts.specs.ArgumentsSeen.{given_seen}
use Rattle.macro_texts.proofs.arguments.has_value_for.Given as goal

abbrev pub invariant-loop-one : goal.invariant-loop-one
invariant-loop-one l = list_any (is_value_for l.number) (map given_seen (drop l.one-index l.given)) ≡ list_any (is_value_for l.number) (map given_seen l.given)
