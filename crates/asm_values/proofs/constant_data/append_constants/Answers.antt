-- A number more, and the last one.
use Rattle.std.proofs.Common.{◌+◌, [], refl, sym, subst, arith}
use Rattle.asm_operands.specs.Constants.{IsConstant}
use Rattle.asm_values.specs.ConstantData.{MakesData}
use Rattle.asm_values.proofs.ConstantDataLemmas.{number_here, loop_more, loop_end, still_few}
use Rattle.asm_values.proofs.OperandEnds.{with_more, with_none, operands_split}
use Rattle.asm_values.proofs.constant_data.append_constants.Goals as goal

pub operands-preserved : goal.operands-preserved
operands-preserved c = record {
  inside = omega (arith, c.if-end-tokens.false);
  made = λ placed. loop_more placed _ _ _ _ _ _ _ _ _ _ (with_more IsConstant c.args.tokens.now c.operands.at c.in-Some.found c.in-Some.ensures c.if-end-tokens.false)
      (number_here placed _ _ c.in-Some.ensures.one) c.in_ok-append_constant.ensures c.cut_of-cut.ensures.value (c.operands.invariant.made placed);
  few = still_few _ _ _ _ _ _ c.in_ok-append_constant.ensures c.cut_of-cut.ensures.within c.operands.invariant.few;
}

pub returns-then-end-tokens : goal.returns-then-end-tokens
returns-then-end-tokens c placed =
    subst (λ operands. MakesData placed c.args.size operands [] 0 c.append_constant.new.out.items (c.operands.cut + c.cut_of-cut.result)) (sym (operands_split c.args.tokens.now c.requires.tokens))
    (loop_end placed _ _ [] _ _ refl
    (loop_more placed _ _ _ _ _ _ _ _ _ _ (with_none IsConstant c.args.tokens.now c.operands.at c.in-Some.found c.in-Some.ensures c.if-end-tokens.true)
    (number_here placed _ _ c.in-Some.ensures.one) c.in_ok-append_constant.ensures c.cut_of-cut.ensures.value (c.operands.invariant.made placed)))
