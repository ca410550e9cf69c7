-- The symbol is none of the terms so far.
use Rattle.std.proofs.Common.{◌≡◌, ◌+◌, ◌==◌, drop}
use Rattle.std.specs.List.{position_or_len}
use Rattle.asm_expr.proofs.summing.place_of.Given as goal

abbrev pub invariant-loop-index : goal.invariant-loop-index
invariant-loop-index l =
    position_or_len (λ term. term.symbol == l.symbol) l.terms
    ≡ l.index + position_or_len (λ term. term.symbol == l.symbol) (drop l.index l.terms)
