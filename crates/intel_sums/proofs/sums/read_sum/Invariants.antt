-- The sum so far with the tokens that are left is the whole sum, and no more parentheses are open than tokens were read.
use Rattle.std.proofs.Common.{◌≡◌, ◌≤◌, map, drop, Ok}
use Rattle.asm_base.specs.Tokens.{spelled}
use Rattle.intel_sums.specs.Sums.{no_sum, sum_of, sum_by}
use Rattle.intel_sums.proofs.sums.read_sum.Given as goal

abbrev pub invariant-loop-index : goal.invariant-loop-index
invariant-loop-index l = record {
  sum : sum_of (Ok (sum_by l.sum)) (map spelled (drop l.index l.text)) ≡ sum_of (Ok no_sum) (map spelled l.text);
  depth : l.sum.depth ≤ l.index;
}
