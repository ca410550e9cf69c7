-- A number more, and the last one.
use Rattle.std.proofs.Common.{◌+◌, ◌<◌, [], length, refl, sym, subst, arith}
use Rattle.std.proofs.lemmas.Bool.Decides.{nat_tests}
use Rattle.asm_uses.specs.Values.{IsNumberIn}
use Rattle.asm_values.specs.ConstantData.{MakesData}
use Rattle.asm_values.proofs.ConstantDataLemmas.{known_number, loop_more, loop_end, still_few}
use Rattle.asm_values.proofs.OperandEnds.{with_more, with_none, operands_split}
use Rattle.asm_values.proofs.constant_data.known_data.Goals as goal

pub operands-preserved : goal.operands-preserved
operands-preserved c = record {
  inside = omega (arith, c.if-end-tokens.false);
  made = λ placed here. loop_more placed _ _ _ _ _ _ _ _ _ _ (with_more (IsNumberIn c.args.view.now) c.args.tokens.now c.operands.at c.in-Some.found c.in-Some.ensures c.if-end-tokens.false)
      (known_number c.args.view.now placed _ _ here c.in-Some.ensures.one) c.in_ok-append_constant.ensures c.cut_of-cut.ensures.value (c.operands.invariant.made placed here);
  few = still_few _ _ _ _ _ _ c.in_ok-append_constant.ensures c.cut_of-cut.ensures.within c.operands.invariant.few;
}

pub returns-then-end-tokens : goal.returns-then-end-tokens
returns-then-end-tokens c placed here =
    let some : 0 < length c.args.tokens.now = grind (arith, nat_tests, c.if-is_empty.ensures) in
    subst (λ operands. MakesData placed c.args.size operands [] 0 c.append_constant.new.out.items (c.operands.cut + c.cut_of-cut.result)) (sym (operands_split c.args.tokens.now some))
    (loop_end placed _ _ [] _ _ refl
    (loop_more placed _ _ _ _ _ _ _ _ _ _ (with_none (IsNumberIn c.args.view.now) c.args.tokens.now c.operands.at c.in-Some.found c.in-Some.ensures c.if-end-tokens.true)
    (known_number c.args.view.now placed _ _ here c.in-Some.ensures.one) c.in_ok-append_constant.ensures c.cut_of-cut.ensures.value (c.operands.invariant.made placed here)))
