-- What the operands to come make of the bytes and the count so far, all operands make.
use Rattle.std.proofs.Common.{ℕ, ◌-◌, ◌≤◌, List, [], length, map, drop}
use Rattle.std.specs.List.{slice_split}
use Rattle.asm_base.specs.Tokens.{spelled}
use Rattle.asm_values.specs.ConstantData.{MakesData}
use Rattle.asm_operands.specs.Operands.{is_comma}
use Rattle.asm_values.specs.State.{Placed}
use Rattle.asm_values.proofs.constant_data.append_constants.Given as goal

abbrev pub invariant-operands : goal.invariant-operands
invariant-operands l = record {
  inside : l.at ≤ length l.tokens;
  made : (placed : Placed) (after : List ℕ) (cut_after : ℕ) → MakesData placed l.size (slice_split is_comma (drop l.at (map spelled l.tokens))) l.out.items l.cut after cut_after
      → MakesData placed l.size (slice_split is_comma (map spelled l.tokens)) [] 0 after cut_after;
  few : l.cut ≤ length l.out.items;
}

abbrev pub decreases-operands : goal.decreases-operands
decreases-operands l = length l.tokens - l.at
