-- The first operand, and what is left behind its comma.
use Rattle.std.proofs.Common.{◌∙◌, [], map, ap}
use Rattle.std.specs.List.{slice_split}
use Rattle.std.specs.Option.{option_map_or}
use Rattle.asm_base.specs.Tokens.{spelled}
use Rattle.asm_operands.specs.Operands.{is_comma}
use Rattle.asm_operands.proofs.OperandSplits.{split_first, split_last, shorter}
use Rattle.asm_operands.proofs.directive_operands.OperandsIterator.next.Goals as goal

pub returns-then-end-tokens-clause-steps : goal.returns-then-end-tokens-clause-steps
returns-then-end-tokens-clause-steps c =
    ap (λ left. option_map_or (λ tokens. slice_split is_comma (map spelled tokens.now)) left []) c.in_ok-tokens.was
    ∙ split_first c.in_ok-tokens.tokens.now c.operand_length-end.result c.operand_length-end.ensures c.if-end-tokens.true

pub returns-then-end-tokens-clause-goes : goal.returns-then-end-tokens-clause-goes
returns-then-end-tokens-clause-goes c = record {
  on = λ _. (tt, tt, shorter _ _ _ (returns-then-end-tokens-clause-steps c));
  keeps = tt;
  rests = λ _. tt;
}

pub returns-else-end-tokens-clause-steps : goal.returns-else-end-tokens-clause-steps
returns-else-end-tokens-clause-steps c =
    ap (λ left. option_map_or (λ tokens. slice_split is_comma (map spelled tokens.now)) left []) c.in_ok-tokens.was
    ∙ split_last c.in_ok-tokens.tokens.now c.operand_length-end.result c.operand_length-end.ensures c.if-end-tokens.false

pub returns-else-end-tokens-clause-goes : goal.returns-else-end-tokens-clause-goes
returns-else-end-tokens-clause-goes c = record {
  on = λ _. (tt, tt, shorter _ _ _ (returns-else-end-tokens-clause-steps c));
  keeps = tt;
  rests = λ _. tt;
}
