-- What is said of the names so far is said, and of those to come will be.
use Rattle.std.proofs.Common.{◌≡◌, drop}
use Rattle.asm_uses.specs.Attributes.{say_all}
use Rattle.asm_uses.proofs.tables.SymbolUses.say_all.Given as goal

abbrev pub invariant-loop-name : goal.invariant-loop-name
invariant-loop-name l = say_all l.pos l.attribute (drop l.name-index l.names) l.self ≡ say_all l.pos l.attribute l.names l.fn.self
