-- The characters so far, and those that are left.
use Rattle.std.proofs.Common.{◌≡◌, ◌++◌, map, drop}
use Rattle.macro_texts.specs.Repeats.{alone}
use Rattle.macro_texts.specs.RepeatsSeen.{texts}
use Rattle.macro_texts.proofs.repeats.push_characters.Given as goal

abbrev pub invariant-loop-byte : goal.invariant-loop-byte
invariant-loop-byte l = texts l.values.items ++ map alone (drop l.byte-index l.bytes) ≡ texts l.fn.values.items ++ map alone l.bytes
