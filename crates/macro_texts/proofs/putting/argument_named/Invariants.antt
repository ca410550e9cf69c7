-- The parameters so far have other names.
use Rattle.std.proofs.Common.{◌≡◌, map, drop}
use Rattle.std.specs.List.{find}
use Rattle.macro_texts.specs.ArgumentsSeen.{argument_seen}
use Rattle.macro_texts.specs.Putting.{has_name}
use Rattle.macro_texts.proofs.putting.argument_named.Given as goal

abbrev pub invariant-loop-argument : goal.invariant-loop-argument
invariant-loop-argument l = find (has_name l.name) (map argument_seen (drop l.argument-index l.arguments)) ≡ find (has_name l.name) (map argument_seen l.arguments)
