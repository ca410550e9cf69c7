-- Each name is found at its place.
use Rattle.std.proofs.Common.{sym, ◌∙◌}
use Rattle.std.proofs.lemmas.Option.{same_Some}
use Rattle.asm_symbols.proofs.laws.names_are_apart.Goals as goal

pub returns-clause-apart : goal.returns-clause-apart
returns-clause-apart c = rw (← c.map.view_is) (λ name one other first second. same_Some one other (sym (c.map.invariant.indexed.apart one name first) ∙ c.map.invariant.indexed.apart other name second))
