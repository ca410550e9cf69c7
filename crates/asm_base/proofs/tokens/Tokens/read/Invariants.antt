-- What the loop over a statement keeps: the tokens so far and those that are left are all tokens.
use Rattle.std.proofs.Common.{◌≡◌, ◌≤◌, ◌-◌, ◌++◌, map, length, drop}
use Rattle.asm_base.specs.Tokens.{spelled, tokens_from, tokens_of}
use Rattle.asm_base.proofs.tokens.Tokens.read.Given as goal

abbrev pub invariant-loop-first : goal.invariant-loop-first
invariant-loop-first l = record {
  within : l.at ≤ length l.statement;
  room : 8 ≤ l.list.capacity;
  all : map spelled l.list.items ++ tokens_from 0 l.at (drop l.at l.statement) ≡ tokens_of l.statement;
}

abbrev pub decreases-loop-first : goal.decreases-loop-first
decreases-loop-first l = length l.initial.statement - l.at
