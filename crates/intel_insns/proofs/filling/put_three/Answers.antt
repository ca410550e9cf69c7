-- One or two operands behind the first.
use Rattle.std.proofs.Common.{map, length}
use Rattle.std.proofs.lemmas.Bool.{lt-ltb}
use Rattle.asm_base.specs.Tokens.{spelled}
use Rattle.intel_operands.specs.OperandTexts.{operand_at}
use Rattle.intel_insns.specs.Reading.{operands_at}
use Rattle.intel_insns.proofs.Fillings.{then_fills}
use Rattle.intel_insns.proofs.filling.put_three.Goals as goal

pub returns-then-put-tokens : goal.returns-then-put-tokens
returns-then-put-tokens c = λ due is.
    then_fills c.args.tokens.now (operands_at 2 c.args.is_branch (map spelled c.args.tokens.now)) due (operand_at c.args.is_branch (map spelled c.args.tokens.now) c.args.at)
    c.put_operand.new.insn c.in-Ok.put c.put_two.new.insn c.put_two.result (c.in-Ok.ensures.value due is) (lt-ltb c.in-Ok.put.next (length c.args.tokens.now) c.if-put-tokens.true) c.put_two.ensures
